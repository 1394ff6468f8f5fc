use Rattle.std.proofs.Common.{Ok, Err}
use Rattle.wasm_reduction.specs.Instantiation.{first_memory}
use Rattle.wasm_start.specs.code.Starts.{store_with}
use Rattle.wasm_start.specs.Starts.{stop_of}
use Rattle.wasm_start.proofs.StartLemmas.{first_bytes}
use Rattle.wasm_start.proofs.SegmentLemmas.{lacks_store, elems_stop, datas_give}
use Rattle.wasm_start.proofs.start.instantiate.Goals as goal

pub returns-in_default : goal.returns-in_default
returns-in_default g c = (first_memory c.args.m.now, c.requires, first_bytes c.args.m.now.memories, lacks_store c.args.m.now (rw c.in_default.is at c.in_ok-p.ensures.told))

pub returns-in-Err : goal.returns-in-Err
returns-in-Err g c = (
  first_memory c.args.m.now,
  c.requires,
  first_bytes c.args.m.now.memories,
  elems_stop c.args.m.now c.in-Some.p (rw c.in-Some.is at c.in_ok-p.ensures.told) (stop_of c.in-Err.stop) ((rw c.in-Err.is at c.in_ok-stop.ensures.writes) (first_memory c.args.m.now)),
)

pub returns-in-Err-2 : goal.returns-in-Err-2
returns-in-Err-2 g c =
    let t = (rw c.in-Err-2.is at c.in_ok-stop-2.ensures.writes) (first_memory c.args.m.now) c.requires (first_bytes c.args.m.now.memories) in (
      t.0,
      t.1,
      t.2,
      datas_give c.args.m.now c.in-Some.p (rw c.in-Some.is at c.in_ok-p.ensures.told) c.start_elems.new.p (Err (stop_of c.in-Err-2.stop)) ((rw c.in_default-2.is at c.in_ok-stop.ensures.writes) (first_memory c.args.m.now)) t.3,
    )

pub returns : goal.returns
returns g c =
    let t = (rw c.in_default-3.is at c.in_ok-stop-2.ensures.writes) (first_memory c.args.m.now) c.requires (first_bytes c.args.m.now.memories) in (
      t.0,
      t.1,
      t.2,
      datas_give c.args.m.now c.in-Some.p (rw c.in-Some.is at c.in_ok-p.ensures.told) c.start_elems.new.p (Ok (store_with c.args.m.now t.0 c.start_datas.new.p)) ((rw c.in_default-2.is at c.in_ok-stop.ensures.writes) (first_memory c.args.m.now)) t.3,
    )
