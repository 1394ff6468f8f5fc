use Rattle.wasm_start.proofs.SegmentLemmas.{pages_next}
use Rattle.wasm_start.proofs.start.memory_pages.Goals as goal

pub loop-limits-preserved : goal.loop-limits-preserved
loop-limits-preserved c =
    pages_next c.args.m.now c.loop-limits.limits-index c.loop-limits.pages c.as_slice-limits-items.result.now _ c.as_slice-limits-items.ensures c.loop-limits-test.true c.loop-limits.invariant c.requires.small
