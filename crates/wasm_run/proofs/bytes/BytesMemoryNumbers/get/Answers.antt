use Rattle.std.proofs.Common.{length, ◌+◌, arith}
use Rattle.wasm_run.proofs.PageLemmas.{cell-read, page_within, within-pages}
use Rattle.wasm_run.proofs.bytes.BytesMemoryNumbers.get.Goals as goal

pub bounds-as_slice-at : goal.bounds-as_slice-at
bounds-as_slice-at c =
    page_within c.args.at (length c.as_slice.result.now)
    (omega (arith, within-pages c.self.inside.pages.items c.as_slice.result.now c.args.self.now (c.args.at + 1) c.self.invariant.0 c.self.view_is c.as_slice.ensures.value (omega (arith, c.requires))))

pub returns : goal.returns
returns c =
    cell-read c.self.inside.pages.items c.as_slice.result.now c.args.self.now c.args.at c.index-as_slice-at.result c.get.result c.from.result c.self.invariant.0 c.self.view_is c.as_slice.ensures.value c.requires
    c.index-as_slice-at.is c.get.ensures c.from.ensures
