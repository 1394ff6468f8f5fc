use Rattle.wasm_check.proofs.EntryLemmas.{of_entry}
use Rattle.wasm_check.specs.Modules.{GlobalIsValid}
use Rattle.wasm_check.proofs.fields.global_entry.Goals as goal

pub returns : goal.returns
returns c = of_entry c.args.m.now.globals c.args.k c.get-global.result.now (GlobalIsValid c.args.m.now c.args.k) c.global_is_valid.result c.get-global.ensures c.global_is_valid.ensures
