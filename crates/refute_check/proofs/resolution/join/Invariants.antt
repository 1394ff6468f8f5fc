use Rattle.std.proofs.Common.{take}
use Rattle.refute_check.specs.Resolution.{joined}
use Rattle.refute_check.specs.code.Alike.{AreAlike}
use Rattle.refute_check.proofs.resolution.join.Given as goal

abbrev pub invariant-loop-found : goal.invariant-loop-found
invariant-loop-found l =
    AreAlike l.literals.keys (joined l.fn.literal l.fn.negation l.fn.literals.keys (take l.found-index l.other))
