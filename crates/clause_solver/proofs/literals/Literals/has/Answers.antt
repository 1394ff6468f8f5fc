use Rattle.std.proofs.Common.{sym, ap, ◌∙◌}
use Rattle.refute_check.specs.Resolution.{has}
use Rattle.clause_solver.proofs.Storing.{stored_has, not_found}
use Rattle.clause_solver.proofs.literals.Literals.has.Goals as goal

pub returns-in-None : goal.returns-in-None
returns-in-None c = sym (ap (λ xs. has xs c.args.literal) (sym c.self.view_is) ∙ not_found c.self.inside.slots.items c.self.inside.places.items c.self.inside.many c.self.invariant c.args.literal c.in-None.ensures)

pub returns-in-Some : goal.returns-in-Some
returns-in-Some c = sym (ap (λ xs. has xs c.args.literal) (sym c.self.view_is) ∙ stored_has c.self.inside.slots.items c.in-Some.field-0 c.args.literal c.in-Some.ensures)
