use Rattle.wasm_start.specs.Starts.{stop_of}
use Rattle.wasm_start.proofs.SegmentLemmas.{elems_stop_at, elems_more}
use Rattle.wasm_start.proofs.segments.start_elems.Goals as goal

pub returns-in-Err-clause-writes : goal.returns-in-Err-clause-writes
returns-in-Err-clause-writes c = λ b.
    elems_stop_at c.args.m.now c.args.p.now c.loop-k.p c.loop-k.k c.get.result.now b (stop_of c.in-Err.stop) c.loop-k.invariant c.get.ensures ((rw c.in-Err.is at c.in_ok-stop.ensures.writes) c.args.m.now b)

pub loop-k-preserved : goal.loop-k-preserved
loop-k-preserved c =
    elems_more c.args.m.now c.args.p.now c.loop-k.p c.start_elem.new.p c.loop-k.k c.get.result.now c.loop-k.invariant c.get.ensures
    c.in_ok-stop.ensures.count c.in_ok-stop.ensures.dropped (λ b. (rw c.in_default.is at c.in_ok-stop.ensures.writes) c.args.m.now b)
