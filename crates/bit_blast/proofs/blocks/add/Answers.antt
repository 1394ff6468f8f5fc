use Rattle.std.proofs.Common.{◌≤◌, subst}
use Rattle.bit_blast.proofs.BlockLoops.{add-done}
use Rattle.bit_blast.proofs.blocks.add.Goals as goal

pub returns : goal.returns
returns c =
    add-done c.args.a.now c.args.b.now c.loop-i.i c.args.carry c.loop-i.last c.loop-i.sums c.args.netlist.now c.loop-i.netlist
    (subst (λ n. n ≤ c.loop-i.i) c.min-i-end.ensures c.loop-i-test.false) c.loop-i.invariant
