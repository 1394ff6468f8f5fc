use Rattle.std.proofs.Common.{◌+◌}
use Rattle.wasm_rules.specs.Accesses.{store_bytes}
use Rattle.wasm_run.proofs.PageLemmas.{within-pages}
use Rattle.wasm_run.proofs.bytes.BytesMemoryNumbers.store.Goals as goal

pub store-requires-clause-within : goal.store-requires-clause-within
store-requires-clause-within c =
    within-pages c.self.inside.pages.items c.as_mut_slice.result.now c.args.self.now (c.args.at + store_bytes c.args.op) c.self.invariant.0 c.self.view_is c.as_mut_slice.ensures.value c.requires.within
