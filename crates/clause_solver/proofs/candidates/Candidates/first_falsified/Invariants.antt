use Rattle.std.proofs.Common.{ℕ, length}
use Rattle.clause_solver.specs.code.Watching.{IsSeen}
use Rattle.clause_solver.proofs.candidates.Candidates.first_falsified.Given as goal

abbrev pub invariant-loop-number : goal.invariant-loop-number
invariant-loop-number l = (any : ℕ) → IsSeen l.trail l.clauses l.self.falsified.keys l.self.forcing.keys any

abbrev pub decreases-loop-number : goal.decreases-loop-number
decreases-loop-number l = length l.self.falsified.keys
