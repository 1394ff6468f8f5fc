use Rattle.std.proofs.Common.{Some, ◌-◌, ◌+◌, ◌≡◌, length, ap, sym, subst, ◌∙◌, arith}
use Rattle.std.specs.Prelude.{slice_get}
use Rattle.bv_terms.specs.declared.words.Form.TheVariants.{Un}
use Rattle.bv_terms.specs.Making.{under_eqz}
use Rattle.bv_terms.specs.Graphs.{terms_of, RuleGives}
use Rattle.bv_terms.proofs.ListLemmas.{get-below}
use Rattle.bv_terms.proofs.GraphLemmas.{below-more}
use Rattle.bv_terms.proofs.FitLemmas.{at-word}
use Rattle.bv_terms.proofs.OperationFits.{no_eqz}
use Rattle.bv_terms.proofs.comparisons.under_eqz.Goals as goal

pub operand_where_eqz-requires : goal.operand_where_eqz-requires
operand_where_eqz-requires c =
    let at : slice_get c.args.forms.now (c.in-Term.t - 256) ≡ Some (Un c.in-Un.op c.in-Un.a) = c.get.ensures ∙ ap (λ form. Some form) c.in-Un.is in
    record {
      below = below-more (256 + (c.in-Term.t - 256)) (256 + length c.args.forms.now) c.in-Un.a
          (omega (arith, get-below c.args.forms.now (c.in-Term.t - 256) (Un c.in-Un.op c.in-Un.a) at)) (c.requires.kept.ordered (c.in-Term.t - 256) (Un c.in-Un.op c.in-Un.a) at);
    }

pub returns-in-Un : goal.returns-in-Un
returns-in-Un c =
    let at : slice_get c.args.forms.now (c.in-Term.t - 256) ≡ Some (Un c.in-Un.op c.in-Un.a) = c.get.ensures ∙ ap (λ form. Some form) c.in-Un.is in
    subst (λ t. RuleGives c.args.forms.now (under_eqz t) c.operand_where_eqz.result)
    (sym (at-word c.args.forms.now c.requires.kept c.args.word c.in-Term.t (Un c.in-Un.op c.in-Un.a) c.in-Term.is at)) c.operand_where_eqz.ensures

pub returns-in_default : goal.returns-in_default
returns-in_default c =
    ap under_eqz (at-word c.args.forms.now c.requires.kept c.args.word c.in-Term.t c.get.result.now c.in-Term.is c.get.ensures)
    ∙ no_eqz (terms_of c.args.forms.now) c.get.result.now c.in_default.not-Un
