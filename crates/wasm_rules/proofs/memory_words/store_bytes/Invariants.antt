use Rattle.std.proofs.Common.{take}
use Rattle.wasm_rules.specs.Words.{Kept}
use Rattle.wasm_rules.proofs.StoredLemmas.{Stored}
use Rattle.wasm_rules.proofs.memory_words.store_bytes.Given as goal

abbrev pub invariant-loop-i : goal.invariant-loop-i
invariant-loop-i g l = record {
  kept : Kept g.A.Algebra.holds g.A.Algebra.means l.fn.a l.a;
  so_far : Stored g.A.Algebra.holds g.A.Algebra.means g.A.Algebra.Has g.A.Algebra.value g.A.Algebra.kind l.a (g.A.Algebra.means l.fn.a l.w) (take l.i l.out) l.i;
}
