use Rattle.bv_terms.specs.Graphs.{word_among, terms_of}
use Rattle.bv_terms.proofs.FitLemmas.{word-no_number, byte-none}
use Rattle.bv_terms.proofs.rules.byte_number.Goals as goal

pub returns-in-Term : goal.returns-in-Term
returns-in-Term c =
    byte-none (word_among (terms_of c.args.forms.now) c.args.a) c.args.i
    (word-no_number c.args.forms.now c.args.a c.in-Term.field-0 c.requires.kept c.requires.below c.in-Term.is)
