use Rattle.std.proofs.Common.{◌≡◌, take, map}
use Rattle.clause_solver.specs.Answers.{assignment_of}
use Rattle.path_ask.specs.Reading.{spelled_down}
use Rattle.path_ask.proofs.inputs.number_at.Given as goal

abbrev pub invariant-loop-variable : goal.invariant-loop-variable
invariant-loop-variable l = l.number ≡ spelled_down (map (assignment_of l.values) (take l.variable-index l.variables))
