use Rattle.std.proofs.Common.{◌≡◌, ◌++◌, ◌-◌}
use Rattle.bit_blast.specs.Formulas.{falling_wires}
use Rattle.bit_blast.proofs.wires.falling_wires.Given as goal

abbrev pub invariant-loop-above : goal.invariant-loop-above
invariant-loop-above l = l.wires ++ falling_wires l.first (l.bits - l.above) ≡ falling_wires l.first l.bits
