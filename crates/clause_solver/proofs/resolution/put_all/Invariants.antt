use Rattle.std.proofs.Common.{◌≡◌, take}
use Rattle.refute_check.specs.Machine.{count_at}
use Rattle.refute_check.specs.Resolution.{each_once}
use Rattle.clause_solver.proofs.resolution.put_all.Given as goal

abbrev pub invariant-loop-literal : goal.invariant-loop-literal
invariant-loop-literal l = record {
  put : l.literals ≡ each_once (take l.literal-index l.clause);
  counted : l.many ≡ count_at l.trail l.level l.literals;
}
