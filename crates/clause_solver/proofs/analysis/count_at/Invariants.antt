use Rattle.std.proofs.Common.{◌≡◌, ◌≤◌, ◌+◌, drop}
use Rattle.refute_check.specs.Machine.{count_at}
use Rattle.clause_solver.proofs.analysis.count_at.Given as goal

abbrev pub invariant-loop-literal : goal.invariant-loop-literal
invariant-loop-literal l = record {
  counted : count_at l.trail l.level l.clause ≡ l.count + count_at l.trail l.level (drop l.literal-index l.clause);
  few : l.count ≤ l.literal-index;
}
