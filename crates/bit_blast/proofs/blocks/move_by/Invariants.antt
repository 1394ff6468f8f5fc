use Rattle.std.proofs.Common.{◌≡◌, ◌^◌, drop}
use Rattle.bit_blast.specs.Blocks.{shift_by}
use Rattle.bit_blast.proofs.blocks.move_by.Given as goal

abbrev pub invariant-loop-i : goal.invariant-loop-i
invariant-loop-i l = shift_by l.kind (2 ^ l.i) (drop l.i l.amounts) l.bits l.netlist ≡ shift_by l.kind 1 l.amounts l.a l.fn.netlist
