use Rattle.bv_terms.proofs.WalkLemmas.{Walking, steps}
use Rattle.bv_terms.proofs.values.walk.Given as goal

abbrev pub invariant-loop-depth : goal.invariant-loop-depth
invariant-loop-depth l = Walking l.g l.input l.t l.round l.rounds l.values l.stack l.depth

abbrev pub decreases-loop-depth : goal.decreases-loop-depth
decreases-loop-depth l = steps l.round l.rounds l.stack l.depth
