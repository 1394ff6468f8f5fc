use Rattle.std.proofs.Common.{ap, length}
use Rattle.wasm_run.proofs.PageLemmas.{memory-long}
use Rattle.wasm_run.proofs.bytes.BytesMemoryNumbers.length.Goals as goal

pub returns : goal.returns
returns c = memory-long c.self.inside.pages.items c.args.self.now _ c.self.invariant.0 c.self.view_is (ap (λ l. length l) c.as_slice.ensures.value)
