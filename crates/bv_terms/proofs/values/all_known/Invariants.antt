use Rattle.bv_terms.proofs.ValueLemmas.{AreLooked}
use Rattle.bv_terms.proofs.values.all_known.Given as goal

abbrev pub invariant-loop-i : goal.invariant-loop-i
invariant-loop-i l = AreLooked l.rounds l.values l.round l.words l.all l.i
