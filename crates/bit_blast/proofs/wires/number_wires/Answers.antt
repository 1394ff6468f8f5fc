use Rattle.std.proofs.Common.{arith}
use Rattle.bit_blast.proofs.WireLoops.{number-next, over}
use Rattle.bit_blast.proofs.wires.number_wires.Goals as goal

pub loop-bit-preserved : goal.loop-bit-preserved
loop-bit-preserved c =
    let next = number-next c.args.bits c.loop-bit._bit c.loop-bit.rest c.loop-bit-test.true in grind (arith, over)
