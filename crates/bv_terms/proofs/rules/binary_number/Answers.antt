use Rattle.std.proofs.Common.{ap, ◌∙◌}
use Rattle.bv_terms.specs.Terms.{Binary}
use Rattle.bv_terms.specs.Making.{of_numbers}
use Rattle.bv_terms.specs.Graphs.{word_among, terms_of}
use Rattle.bv_terms.proofs.FitLemmas.{word-no_number, binary-none, binary-second-none}
use Rattle.bv_terms.proofs.rules.binary_number.Goals as goal

pub returns-in-Term : goal.returns-in-Term
returns-in-Term c =
    binary-none c.args.op (word_among (terms_of c.args.forms.now) c.args.a) (word_among (terms_of c.args.forms.now) c.args.b)
    (word-no_number c.args.forms.now c.args.a c.in-Term.field-0 c.requires.kept c.requires.a_below c.in-Term.is)

pub returns-in-Term-b : goal.returns-in-Term-b
returns-in-Term-b c =
    ap (λ w. of_numbers (Binary c.args.op (word_among (terms_of c.args.forms.now) w) (word_among (terms_of c.args.forms.now) c.args.b))) c.in-Num.is
    ∙ binary-second-none c.args.op c.in-Num.n (word_among (terms_of c.args.forms.now) c.args.b)
    (word-no_number c.args.forms.now c.args.b c.in-Term-b.field-0 c.requires.kept c.requires.b_below c.in-Term-b.is)
