use Rattle.std.proofs.Common.{◌+◌}
use Rattle.wasm_rules.specs.Accesses.{load_bytes}
use Rattle.wasm_run.proofs.PageLemmas.{within-pages}
use Rattle.wasm_run.proofs.bytes.BytesMemoryNumbers.load.Goals as goal

pub load-requires-clause-within : goal.load-requires-clause-within
load-requires-clause-within c =
    within-pages c.self.inside.pages.items c.as_slice.result.now c.args.self.now (c.args.at + load_bytes c.args.op) c.self.invariant.0 c.self.view_is c.as_slice.ensures.value c.requires.within
