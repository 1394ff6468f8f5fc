use Rattle.std.proofs.Common.{◌≡◌, take}
use Rattle.refute_check.specs.Resolution.{each_once}
use Rattle.bit_blast.proofs.gates.distinct.Given as goal

abbrev pub invariant-loop-literal : goal.invariant-loop-literal
invariant-loop-literal l = l.clause ≡ each_once (take l.literal-index l.literals)
