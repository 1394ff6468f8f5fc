use Rattle.std.proofs.Common.{◌≡◌}
use Rattle.refute_check.specs.Machine.{count_at}
use Rattle.clause_solver.specs.code.Analysis.{enough_for}
use Rattle.clause_solver.specs.code.Literals.{clause_now}
use Rattle.clause_solver.proofs.Analyses.{HasCome, IsKeptBy}
use Rattle.clause_solver.proofs.analysis.steps_of.Given as goal

abbrev pub invariant-loop-after : goal.invariant-loop-after
invariant-loop-after l = record {
  come : HasCome l.clauses (enough_for l.until l.trail) l.trail l.clause l.after (clause_now l.steps l.clause l.literals) l.steps;
  far : l.far ≡ enough_for l.until l.trail (clause_now l.steps l.clause l.literals);
  kept : IsKeptBy l.steps l.clause l.literals;
  counted : l.many ≡ count_at l.trail l.last l.literals;
}
