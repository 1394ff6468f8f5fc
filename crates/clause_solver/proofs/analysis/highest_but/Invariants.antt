use Rattle.std.proofs.Common.{◌≡◌, drop}
use Rattle.std.specs.Prelude.{max}
use Rattle.refute_check.specs.Machine.{highest_but}
use Rattle.clause_solver.proofs.analysis.highest_but.Given as goal

abbrev pub invariant-loop-literal : goal.invariant-loop-literal
invariant-loop-literal l = highest_but l.trail l.level l.clause ≡ max l.highest (highest_but l.trail l.level (drop l.literal-index l.clause))
