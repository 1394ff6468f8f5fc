use Rattle.std.proofs.Common.{◌≡◌, drop}
use Rattle.bit_blast.specs.Blocks.{add}
use Rattle.bit_blast.proofs.BlockLoops.{after_sums}
use Rattle.bit_blast.proofs.blocks.add.Given as goal

abbrev pub invariant-loop-i : goal.invariant-loop-i
invariant-loop-i l = after_sums l.sums (add (drop l.i l.a) (drop l.i l.b) l.last l.netlist) ≡ add l.a l.b l.carry l.fn.netlist
