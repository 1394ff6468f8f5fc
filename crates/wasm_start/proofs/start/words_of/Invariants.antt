use Rattle.wasm_start.proofs.StartLemmas.{WordsSoFar}
use Rattle.wasm_start.proofs.start.words_of.Given as goal

abbrev pub invariant-loop-v : goal.invariant-loop-v
invariant-loop-v g l = WordsSoFar g.A.Algebra.holds g.A.Algebra.means g.A.Algebra.kind l.initial.a l.a l.values l.v-index l.words.items
