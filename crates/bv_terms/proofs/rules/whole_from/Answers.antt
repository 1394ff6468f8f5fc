use Rattle.std.proofs.Common.{Some, ap, sym, subst, ◌∙◌}
use Rattle.bv_terms.specs.Graphs.{RuleGives}
use Rattle.bv_terms.proofs.FitLemmas.{whole-number, whole-other, whole-byte, byte-below}
use Rattle.bv_terms.proofs.rules.whole_from.Goals as goal

pub returns-in-Num : goal.returns-in-Num
returns-in-Num c = whole-number c.args.forms.now c.args.wide c.args.bytes.now c.args.first c.in-Num.field-0 c.requires.first c.in-Num.is

pub returns-in_default : goal.returns-in_default
returns-in_default c =
    whole-other c.args.forms.now c.requires.kept c.args.wide c.args.bytes.now c.args.first c.in-Term.t c.get.result.now c.requires.first c.in-Term.is c.get.ensures c.in_default.not-Byte

pub returns-in-Byte : goal.returns-in-Byte
returns-in-Byte c =
    let rule = whole-byte c.args.forms.now c.requires.kept c.args.wide c.args.bytes.now c.args.first c.in-Byte.a c.in-Term.t c.in-Byte.i c.requires.first c.in-Term.is
    (c.get.ensures ∙ ap (λ form. Some form) c.in-Byte.is) in
    subst (λ rule. RuleGives c.args.forms.now rule c.where_whole.result) (sym rule) c.where_whole.ensures

pub where_whole-requires-clause-a_below : goal.where_whole-requires-clause-a_below
where_whole-requires-clause-a_below c =
    byte-below c.args.forms.now c.requires.kept c.in-Term.t c.in-Byte.a c.in-Byte.i (c.get.ensures ∙ ap (λ form. Some form) c.in-Byte.is)
