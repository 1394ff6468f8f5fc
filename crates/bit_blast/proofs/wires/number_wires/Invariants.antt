use Rattle.std.proofs.Common.{◌≡◌, ◌++◌, ◌-◌}
use Rattle.bit_blast.specs.Gates.{number_wires}
use Rattle.bit_blast.proofs.wires.number_wires.Given as goal

abbrev pub invariant-loop-bit : goal.invariant-loop-bit
invariant-loop-bit l = l.wires ++ number_wires (l.bits - l._bit) l.rest ≡ number_wires l.bits l.number
