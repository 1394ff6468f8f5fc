use Rattle.bv_terms.specs.Graphs.{word_among, terms_of}
use Rattle.bv_terms.proofs.FitLemmas.{AreBytesOf}
use Rattle.bv_terms.proofs.rules.are_all_bytes.Given as goal

abbrev pub invariant-loop-i : goal.invariant-loop-i
invariant-loop-i l = AreBytesOf (terms_of l.forms) l.bytes (word_among (terms_of l.forms) l.a) l.i
