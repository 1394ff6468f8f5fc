use Rattle.path_ask.proofs.ReadingLemmas.{number-fits, next-fits, next-spelled}
use Rattle.path_ask.proofs.inputs.number.Goals as goal

pub overflow_mul-number : goal.overflow_mul-number
overflow_mul-number c = record { fits = number-fits c.args.bits.now c.loop-bit.bit-index c.loop-bit.number c.loop-bit-test.true c.requires c.loop-bit.invariant }

pub overflow_add-number : goal.overflow_add-number
overflow_add-number c = record { fits = next-fits c.args.bits.now c.loop-bit.bit-index c.loop-bit.number c.from.result c.loop-bit-test.true c.requires c.loop-bit.invariant c.from.ensures }

pub loop-bit-preserved : goal.loop-bit-preserved
loop-bit-preserved c = next-spelled c.args.bits.now c.loop-bit.bit-index c.loop-bit.number c.from.result c.loop-bit-test.true c.loop-bit.invariant c.from.ensures
