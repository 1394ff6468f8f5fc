use Rattle.wasm_check.proofs.EntryLemmas.{of_entry}
use Rattle.wasm_check.specs.Modules.{ImportIsValid}
use Rattle.wasm_check.proofs.fields.import_entry.Goals as goal

pub returns : goal.returns
returns c = of_entry c.args.m.now.imports c.args.k c.get-import.result.now (λ i. ImportIsValid c.args.m.now c.args.k i.kind) c.import_is_valid.result c.get-import.ensures c.import_is_valid.ensures
