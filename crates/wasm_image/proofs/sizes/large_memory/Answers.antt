use Rattle.std.proofs.Common.{None, arith}
use Rattle.wasm_image.proofs.SizeLemmas.{at_most-more, at_most-all}
use Rattle.wasm_image.proofs.sizes.large_memory.Goals as goal

pub loop-limits-preserved : goal.loop-limits-preserved
loop-limits-preserved c =
    at_most-more c.args.bound c.args.memories.now c.loop-limits.limits-index (record { min = 0; max = None }) c.loop-limits-test.true
    c.loop-limits.invariant c.if-limits-bound.false

pub returns : goal.returns
returns c = at_most-all c.args.bound c.args.memories.now c.loop-limits.limits-index (omega (arith, c.loop-limits-test.false)) c.loop-limits.invariant
