use Rattle.std.proofs.Common.{◌≡◌, take}
use Rattle.path_ask.specs.Reading.{spelled_down}
use Rattle.path_ask.proofs.inputs.number.Given as goal

abbrev pub invariant-loop-bit : goal.invariant-loop-bit
invariant-loop-bit l = l.number ≡ spelled_down (take l.bit-index l.bits)
