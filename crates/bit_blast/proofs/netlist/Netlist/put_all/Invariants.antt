use Rattle.std.proofs.Common.{◌≡◌, drop}
use Rattle.bit_blast.specs.Blocks.{put_all}
use Rattle.bit_blast.proofs.BlockLoops.{after_wires}
use Rattle.bit_blast.proofs.netlist.Netlist.put_all.Given as goal

abbrev pub invariant-loop-gate : goal.invariant-loop-gate
invariant-loop-gate l = after_wires l.wires (put_all (drop l.gate-index l.gates) l.self) ≡ put_all l.gates l.fn.self
