use Rattle.std.proofs.Common.{take}
use Rattle.refute_check.specs.code.Alike.{AreAlike}
use Rattle.refute_check.proofs.resolution.set_of.Given as goal

abbrev pub invariant-loop-literal : goal.invariant-loop-literal
invariant-loop-literal l = AreAlike l.literals.keys (take l.literal-index l.clause)
