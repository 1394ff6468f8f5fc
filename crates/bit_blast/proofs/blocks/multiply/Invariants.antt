use Rattle.std.proofs.Common.{◌≡◌, drop}
use Rattle.bit_blast.specs.Blocks.{add_rows, multiply}
use Rattle.bit_blast.proofs.BlockLoops.{after_wires}
use Rattle.bit_blast.proofs.blocks.multiply.Given as goal

abbrev pub invariant-loop-i : goal.invariant-loop-i
invariant-loop-i l = after_wires l.low (add_rows l.a (drop l.i l.b) l.sum l.netlist) ≡ multiply l.a l.b l.fn.netlist
