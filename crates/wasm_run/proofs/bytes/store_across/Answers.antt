use Rattle.std.proofs.Common.{sym, arith}
use Rattle.std.proofs.lemmas.List.{length-take-le}
use Rattle.wasm_machine.proofs.CellLemmas.{store_small}
use Rattle.wasm_run.proofs.bytes.store_across.Goals as goal

pub slice_bounds-bytes-end : goal.slice_bounds-bytes-end
slice_bounds-bytes-end c =
    sym (length-take-le c.in-Some.access.bytes c.store_number.new.bytes (omega (arith, c.store_number.auto.bytes, store_small c.args.op c.in-Some.access c.in-Some.ensures)))
