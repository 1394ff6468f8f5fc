use Rattle.std.proofs.Common.{sym, subst}
use Rattle.bv_terms.specs.Making.{chosen_by}
use Rattle.bv_terms.specs.Graphs.{word_among, terms_of, RuleGives}
use Rattle.bv_terms.proofs.FitLemmas.{word-no_number}
use Rattle.bv_terms.proofs.rules.side.Goals as goal

pub returns-in-Term : goal.returns-in-Term
returns-in-Term c =
    subst (λ o. RuleGives c.args.forms.now (chosen_by o (word_among (terms_of c.args.forms.now) c.args.a) (word_among (terms_of c.args.forms.now) c.args.b)) c.either_side.result)
    (sym (word-no_number c.args.forms.now c.args.c c.in-Term.field-0 c.requires.kept c.requires.c_below c.in-Term.is)) c.either_side.ensures
