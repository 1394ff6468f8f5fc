use Rattle.std.proofs.Common.{◌∙◌}
use Rattle.refute_check.specs.Resolution.{without}
use Rattle.clause_solver.proofs.Joins.{once_stays}
use Rattle.clause_solver.proofs.resolution.join.Goals as goal

pub returns-clause-joined : goal.returns-clause-joined
returns-clause-joined c = c.in_ok-many.ensures.put (without c.args.pair.0 c.args.literals.now) (c.take_off-left.ensures.off ∙ once_stays c.args.pair.0 c.args.literals.now c.requires.once)
