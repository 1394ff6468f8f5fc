use Rattle.std.proofs.Common.{arith}
use Rattle.clause_solver.proofs.Storing.{present_small}
use Rattle.clause_solver.proofs.literals.Literals.len.Goals as goal

pub returns-clause-small : goal.returns-clause-small
returns-clause-small c = omega (arith, present_small c.self.inside.slots.items, c.self.invariant.counted, c.len-slots.ensures, c.self.inside.slots.ok.0)
