use Rattle.std.proofs.Common.{sym, ap, ◌∙◌}
use Rattle.refute_check.specs.Resolution.{without}
use Rattle.clause_solver.proofs.Storing.{some_there, stored_off, present_off, without_absent, not_found}
use Rattle.clause_solver.proofs.literals.Literals.take_off.Goals as goal

pub overflow_sub-self : goal.overflow_sub-self
overflow_sub-self c = some_there c.self.inside.slots.items c.self.inside.places.items c.self.inside.many c.in-Some.place c.args.literal c.self.invariant c.in-Some.ensures

pub invariant_of-self : goal.invariant_of-self
invariant_of-self c = stored_off c.self.inside.slots.items c.self.inside.places.items c.self.inside.many c.in-Some.place c.args.literal c.self.invariant c.in-Some.ensures

pub returns-in-Some : goal.returns-in-Some
returns-in-Some c =
    present_off c.self.inside.slots.items c.self.inside.places.items c.self.inside.many c.in-Some.place c.args.literal c.self.invariant c.in-Some.ensures
    ∙ ap (λ xs. without c.args.literal xs) c.self.view_is

pub returns-in_default : goal.returns-in_default
returns-in_default c =
    sym (ap (λ xs. without c.args.literal xs) (sym c.self.view_is)
    ∙ without_absent _ c.args.literal (not_found c.self.inside.slots.items c.self.inside.places.items c.self.inside.many c.self.invariant c.args.literal c.in_default.ensures)
    ∙ c.self.view_is)
