use Rattle.std.proofs.Common.{vec_len}
use Rattle.wasm_reduction.specs.Tables.{null_of}
use Rattle.wasm_start.proofs.StartLemmas.{table_is}
use Rattle.wasm_start.proofs.SegmentLemmas.{resized}
use Rattle.wasm_start.proofs.allocation.table_of.Goals as goal

pub returns : goal.returns
returns c =
    table_is (null_of c.args.ty.kind) c.args.ty.limits.min c.in-Some.null c.resize.new.self.items c.in-Some.ensures
    (resized c.new-table.result.items c.resize.new.self.items c.args.ty.limits.min (vec_len c.new-table.result) c.in-Some.null c.new-table.ensures.items c.new-table.ensures.len c.in_ok-resize.ensures.items)
