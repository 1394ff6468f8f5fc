use Rattle.std.proofs.Common.{◌≡◌, drop}
use Rattle.bit_blast.specs.Blocks.{less, less_after}
use Rattle.bit_blast.proofs.blocks.less.Given as goal

abbrev pub invariant-loop-i : goal.invariant-loop-i
invariant-loop-i l = less_after l.lower (drop l.i l.a) (drop l.i l.b) l.netlist ≡ less l.a l.b l.fn.netlist
