use Rattle.std.proofs.Common.{◌≡◌}
use Rattle.clause_solver.specs.Answers.{values_of}
use Rattle.clause_solver.proofs.solver.values.Given as goal

abbrev pub invariant-loop-before : goal.invariant-loop-before
invariant-loop-before l = l.values ≡ values_of l.trail l.before
