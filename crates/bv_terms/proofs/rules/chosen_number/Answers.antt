use Rattle.std.proofs.Common.{ap, ◌∙◌}
use Rattle.bv_terms.specs.Terms.{Choose, Number}
use Rattle.bv_terms.specs.Making.{of_numbers}
use Rattle.bv_terms.specs.Graphs.{word_among, terms_of}
use Rattle.bv_terms.proofs.FitLemmas.{word-no_number, choose-none, choose-second-none, choose-third-none}
use Rattle.bv_terms.proofs.rules.chosen_number.Goals as goal

pub returns-in-Term : goal.returns-in-Term
returns-in-Term c =
    choose-none c.args.wide (word_among (terms_of c.args.forms.now) c.args.c) (word_among (terms_of c.args.forms.now) c.args.a) (word_among (terms_of c.args.forms.now) c.args.b)
    (word-no_number c.args.forms.now c.args.c c.in-Term.field-0 c.requires.kept c.requires.c_below c.in-Term.is)

pub returns-in-Term-a : goal.returns-in-Term-a
returns-in-Term-a c =
    ap (λ w. of_numbers (Choose c.args.wide (word_among (terms_of c.args.forms.now) w) (word_among (terms_of c.args.forms.now) c.args.a) (word_among (terms_of c.args.forms.now) c.args.b))) c.in-Num.is
    ∙ choose-second-none c.args.wide c.in-Num.k (word_among (terms_of c.args.forms.now) c.args.a) (word_among (terms_of c.args.forms.now) c.args.b)
    (word-no_number c.args.forms.now c.args.a c.in-Term-a.field-0 c.requires.kept c.requires.a_below c.in-Term-a.is)

pub returns-in-Term-b : goal.returns-in-Term-b
returns-in-Term-b c =
    ap (λ w. of_numbers (Choose c.args.wide (word_among (terms_of c.args.forms.now) w) (word_among (terms_of c.args.forms.now) c.args.a) (word_among (terms_of c.args.forms.now) c.args.b))) c.in-Num.is
    ∙ ap (λ w. of_numbers (Choose c.args.wide (Number c.in-Num.k) (word_among (terms_of c.args.forms.now) w) (word_among (terms_of c.args.forms.now) c.args.b))) c.in-Num-a.is
    ∙ choose-third-none c.args.wide c.in-Num.k c.in-Num-a.n (word_among (terms_of c.args.forms.now) c.args.b)
    (word-no_number c.args.forms.now c.args.b c.in-Term-b.field-0 c.requires.kept c.requires.b_below c.in-Term-b.is)
