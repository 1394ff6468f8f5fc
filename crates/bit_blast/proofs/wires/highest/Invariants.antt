use Rattle.std.proofs.Common.{◌≡◌, drop}
use Rattle.bit_blast.specs.Blocks.{highest_or, highest}
use Rattle.bit_blast.proofs.wires.highest.Given as goal

abbrev pub invariant-loop-next : goal.invariant-loop-next
invariant-loop-next l = highest l.wires ≡ highest_or l.wire (drop l.next-index l.wires)
