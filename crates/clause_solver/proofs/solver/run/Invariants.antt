use Rattle.refute_check.proofs.Ends.{weight}
use Rattle.clause_solver.specs.code.Turned.{seen, IsWatched}
use Rattle.clause_solver.proofs.Running.{HasRun}
use Rattle.clause_solver.proofs.solver.run.Given as goal

abbrev pub invariant-turns : goal.invariant-turns
invariant-turns l = record {
  run : HasRun l.cnf l.conflicts (seen l.state);
  watched : IsWatched l.cnf.order l.state;
}

abbrev pub decreases-turns : goal.decreases-turns
decreases-turns l = weight l.cnf.order l.conflicts (seen l.state)
