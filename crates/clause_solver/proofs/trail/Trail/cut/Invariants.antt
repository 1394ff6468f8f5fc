use Rattle.std.proofs.Common.{◌≡◌, length}
use Rattle.refute_check.specs.Machine.{cut}
use Rattle.clause_solver.proofs.trail.Trail.cut.Given as goal

abbrev pub invariant-loop-self : goal.invariant-loop-self
invariant-loop-self l = cut l.level l.self ≡ cut l.level l.fn.self

abbrev pub decreases-loop-self : goal.decreases-loop-self
decreases-loop-self l = length l.self
