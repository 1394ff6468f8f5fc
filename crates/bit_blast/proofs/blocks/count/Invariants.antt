use Rattle.std.proofs.Common.{◌≡◌, drop}
use Rattle.bit_blast.specs.Blocks.{count, count_after}
use Rattle.bit_blast.proofs.blocks.count.Given as goal

abbrev pub invariant-loop-wire : goal.invariant-loop-wire
invariant-loop-wire l = count_after l.bits (drop l.wire-index l.wires) l.netlist ≡ count l.wires l.fn.netlist
