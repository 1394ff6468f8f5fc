use Rattle.std.proofs.Common.{◌≡◌, drop}
use Rattle.refute_check.specs.Machine.{status}
use Rattle.clause_solver.proofs.Statuses.{with_unset}
use Rattle.clause_solver.proofs.rules.clause_status.Given as goal

abbrev pub invariant-loop-literal : goal.invariant-loop-literal
invariant-loop-literal l = status l.trail l.clause ≡ with_unset l.unset (status l.trail (drop l.literal-index l.clause))
