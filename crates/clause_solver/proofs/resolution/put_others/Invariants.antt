use Rattle.std.proofs.Common.{◌≡◌, ◌++◌, ℕ, List, take}
use Rattle.refute_check.specs.Machine.{count_at}
use Rattle.refute_check.specs.Resolution.{without, each_once}
use Rattle.clause_solver.proofs.resolution.put_others.Given as goal

abbrev pub invariant-loop-literal : goal.invariant-loop-literal
invariant-loop-literal l = record {
  put : (before : List ℕ) → l.fn.literals ≡ each_once before → l.literals ≡ each_once (before ++ without l.but (take l.literal-index l.clause));
  counted : l.many ≡ count_at l.trail l.level l.literals;
}
