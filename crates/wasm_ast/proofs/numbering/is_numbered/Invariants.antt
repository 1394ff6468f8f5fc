use Rattle.std.proofs.Common.{◌≤◌}
use Rattle.wasm_ast.proofs.NumberingLemmas.{EndsFrom}
use Rattle.wasm_ast.proofs.numbering.is_numbered.Given as goal

abbrev pub invariant-loop-k : goal.invariant-loop-k
invariant-loop-k l = record { within : l.k ≤ l.count; ends : EndsFrom l.seqs l.ends.items l.k }

abbrev pub decreases-loop-k : goal.decreases-loop-k
decreases-loop-k l = l.k
