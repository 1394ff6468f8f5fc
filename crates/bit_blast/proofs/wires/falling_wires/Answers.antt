use Rattle.std.proofs.Common.{arith}
use Rattle.bit_blast.proofs.WireLoops.{falling-next, over}
use Rattle.bit_blast.proofs.wires.falling_wires.Goals as goal

pub loop-above-preserved : goal.loop-above-preserved
loop-above-preserved c =
    let next = falling-next c.args.first c.args.bits c.loop-above.above c.loop-above-test.true in grind (arith, over)
