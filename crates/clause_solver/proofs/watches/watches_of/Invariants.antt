use Rattle.clause_solver.specs.code.Renewing.{IsSound}
use Rattle.clause_solver.proofs.watches.watches_of.Given as goal

abbrev pub invariant-loop-number : goal.invariant-loop-number
invariant-loop-number l = IsSound l.trail l.clauses l.watches l.number
