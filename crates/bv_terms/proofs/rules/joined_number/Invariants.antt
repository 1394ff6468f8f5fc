use Rattle.bv_terms.proofs.FitLemmas.{AreFilled}
use Rattle.bv_terms.proofs.rules.joined_number.Given as goal

abbrev pub invariant-loop-i : goal.invariant-loop-i
invariant-loop-i l = AreFilled l.bytes l.all l.i
