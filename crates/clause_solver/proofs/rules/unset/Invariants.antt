use Rattle.std.proofs.Common.{◌-◌, length, take}
use Rattle.clause_solver.specs.code.Watching.{AllSet}
use Rattle.clause_solver.proofs.rules.unset.Given as goal

abbrev pub invariant-loop-ahead : goal.invariant-loop-ahead
invariant-loop-ahead l = AllSet l.trail (take l.ahead l.order)

abbrev pub decreases-loop-ahead : goal.decreases-loop-ahead
decreases-loop-ahead l = length l.order - l.ahead
