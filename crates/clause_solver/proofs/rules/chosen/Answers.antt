use Rattle.clause_solver.proofs.Guarding.{chosen_forces}
use Rattle.clause_solver.proofs.rules.chosen.Goals as goal

pub returns-else-literal-second : goal.returns-else-literal-second
returns-else-literal-second c = chosen_forces c.args.trail.now c.args.clause.now c.args.first c.args.second c.in-Forces.literal c.requires c.in-Forces.ensures c.if-literal-second.false
