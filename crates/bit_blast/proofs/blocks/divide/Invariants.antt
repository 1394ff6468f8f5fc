use Rattle.std.proofs.Common.{◌≤◌, drop, length}
use Rattle.bit_blast.specs.Blocks.{Builds, divide_from}
use Rattle.bit_blast.proofs.blocks.divide.Given as goal

abbrev pub invariant-loop-left : goal.invariant-loop-left
invariant-loop-left l = (l.left ≤ length l.a) × Builds (divide_from l.b (drop l.left l.a)) l.fn.netlist l.above l.netlist

abbrev pub decreases-loop-left : goal.decreases-loop-left
decreases-loop-left l = l.left
