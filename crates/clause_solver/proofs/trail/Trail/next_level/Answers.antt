use Rattle.std.proofs.Common.{arith}
use Rattle.refute_check.proofs.Levels.{level_small}
use Rattle.clause_solver.proofs.trail.Trail.next_level.Goals as goal

pub overflow_add-result : goal.overflow_add-result
overflow_add-result c = omega (arith, level_small c.args.self.now c.requires)
