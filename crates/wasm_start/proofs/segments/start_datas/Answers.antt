use Rattle.wasm_start.specs.Starts.{stop_of}
use Rattle.wasm_start.proofs.SegmentLemmas.{datas_stop_at, datas_more}
use Rattle.wasm_start.proofs.segments.start_datas.Goals as goal

pub returns-in-Err : goal.returns-in-Err
returns-in-Err g c = record {
  writes = datas_stop_at g.M.Memory.plain c.args.m.now c.args.p.now (g.M.Memory.cells c.args.memory.now) c.loop-k.p c.start_data.new.p (g.M.Memory.cells c.loop-k.memory) (g.M.Memory.cells c.start_data.new.memory)
      c.loop-k.k c.get.result.now (stop_of c.in-Err.stop) c.loop-k.invariant c.get.ensures (rw c.in-Err.is at c.in_ok-stop.ensures.writes);
}

pub loop-k-preserved : goal.loop-k-preserved
loop-k-preserved g c =
    datas_more g.M.Memory.plain c.args.m.now c.args.p.now (g.M.Memory.cells c.args.memory.now) c.loop-k.p c.start_data.new.p (g.M.Memory.cells c.loop-k.memory) (g.M.Memory.cells c.start_data.new.memory)
    c.loop-k.k c.get.result.now c.loop-k.invariant c.get.ensures c.in_ok-stop.ensures.counted (rw c.in_default.is at c.in_ok-stop.ensures.writes)
