use Rattle.std.proofs.Common.{◌≡◌, drop}
use Rattle.bit_blast.specs.Blocks.{zeros, zeros_after}
use Rattle.bit_blast.proofs.BlockLoops.{after_wires}
use Rattle.bit_blast.proofs.blocks.zeros.Given as goal

abbrev pub invariant-loop-i : goal.invariant-loop-i
invariant-loop-i l = after_wires l.zeros (zeros_after l.before (drop l.i l.wires) l.netlist) ≡ zeros l.wires l.fn.netlist
