use Rattle.std.proofs.Common.{sym, ap, ◌∙◌, subst}
use Rattle.sym_step.specs.Steps.{stop_of}
use Rattle.sym_step.specs.code.Turning.{IsCarriedOn}
use Rattle.sym_step.proofs.GoLaws.{goes-again, goes-on-to, has-execution, taken-view, can-be-run}
use Rattle.sym_step.proofs.going.advance.Goals as goal

pub returns-in-Some-clause-goes : goal.returns-in-Some-clause-goes
returns-in-Some-clause-goes c = λ n bound stands.
    goes-again n c.args.s.now stands c.in-Some.stop (ap (λ s. stop_of s.config.standing) (sym c.s.view_is) ∙ sym c.in_ok-stop.ensures ∙ c.in-Some.is)

pub unreachable-requires : goal.unreachable-requires
unreachable-requires c =
    has-execution c.args.s.now c.args.steps c.requires.somewhere (ap (λ s. stop_of s.config.standing) (sym c.s.view_is) ∙ sym c.in_ok-stop.ensures ∙ c.in_default.is)
    (ap (λ s. s.config.execution) (sym c.s.view_is) ∙ sym c.take.ensures.value ∙ c.in_default-take.is)

pub carry_on-requires : goal.carry_on-requires
carry_on-requires c =
    can-be-run c.args.s.now c.args.steps c.requires.somewhere (ap (λ s. stop_of s.config.standing) (sym c.s.view_is) ∙ sym c.in_ok-stop.ensures ∙ c.in_default.is) c.in-Some-take.execution (ap (λ s. s.config.execution) (sym c.s.view_is) ∙ sym c.take.ensures.value ∙ c.in-Some-take.is) _ (taken-view _ c.args.s.now c.s.view_is c.take.new.self c.take.ensures.after)

pub returns-clause-goes : goal.returns-clause-goes
returns-clause-goes c = λ n bound stands.
    goes-on-to n c.args.s.now stands c.in-Some-take.execution (ap (λ s. s.config.execution) (sym c.s.view_is) ∙ sym c.take.ensures.value ∙ c.in-Some-take.is) (ap (λ s. stop_of s.config.standing) (sym c.s.view_is) ∙ sym c.in_ok-stop.ensures ∙ c.in_default.is) c.args.steps bound c.carry_on.new.s c.in_ok-stop-2.stop
    (subst (λ u. IsCarriedOn c.args.steps u c.in-Some-take.execution c.carry_on.new.s c.in_ok-stop-2.stop) (taken-view _ c.args.s.now c.s.view_is c.take.new.self c.take.ensures.after) c.in_ok-stop-2.ensures)
