use Rattle.bv_terms.specs.Graphs.{word_among, terms_of}
use Rattle.bv_terms.proofs.FitLemmas.{word-no_number, unary-none}
use Rattle.bv_terms.proofs.rules.unary_number.Goals as goal

pub returns-in-Term : goal.returns-in-Term
returns-in-Term c =
    unary-none c.args.op (word_among (terms_of c.args.forms.now) c.args.a)
    (word-no_number c.args.forms.now c.args.a c.in-Term.field-0 c.requires.kept c.requires.below c.in-Term.is)
