use Rattle.std.proofs.Common.{drop}
use Rattle.clause_solver.proofs.Visiting.{Visiting}
use Rattle.clause_solver.proofs.watches.Watches.visit_all.Given as goal

abbrev pub invariant-loop-number : goal.invariant-loop-number
invariant-loop-number l = Visiting l.trail l.clauses l.literal (drop l.number-index l.number-items) l.fn.self l.self
