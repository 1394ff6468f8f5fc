use Rattle.std.proofs.Common.{sym, ap, ◌∙◌}
use Rattle.std.specs.Prelude.{is_some}
use Rattle.bit_blast.proofs.WalkLemmas.{carried-put, carried-seen, carried-visit}
use Rattle.bit_blast.proofs.order.carry_out.Goals as goal

pub returns-then-is_some : goal.returns-then-is_some
returns-then-is_some c =
    carried-seen c.args.g.now c.args.task c.in-Visit.t c.form-form.result.now c.args.tasks.now c.args.order.now c.terms-terms.ensures.kept c.requires.task c.requires.tasks
    c.requires.order c.in-Visit.is c.form-form.ensures.means (ap (λ p. is_some p) (sym c.place.ensures.place) ∙ sym c.is_some.ensures ∙ c.if-is_some.true)

pub returns-in_ok-put-in-Put : goal.returns-in_ok-put-in-Put
returns-in_ok-put-in-Put c =
    carried-put c.args.g.now c.args.task c.in-Put.t c.args.tasks.now c.args.order.now c.put.new.self c.terms-terms.ensures.kept c.requires.task c.requires.tasks
    c.requires.order c.in-Put.is c.in_ok-put-in-Put.ensures

pub returns-in_ok-visit_operands-in-Visit : goal.returns-in_ok-visit_operands-in-Visit
returns-in_ok-visit_operands-in-Visit c =
    carried-visit c.args.g.now c.args.task c.in-Visit.t c.form-form.result.now c.args.tasks.now c.push.new.self c.visit_operands.new.self c.args.order.now
    c.terms-terms.ensures.kept c.requires.task c.requires.tasks c.requires.order c.in-Visit.is c.form-form.ensures.means c.form-form.ensures.operands
    (ap (λ p. is_some p) (sym c.place.ensures.place) ∙ sym c.is_some.ensures ∙ c.if-is_some.false) c.in_ok-push-in-Visit.ensures c.in_ok-visit_operands-in-Visit.ensures
