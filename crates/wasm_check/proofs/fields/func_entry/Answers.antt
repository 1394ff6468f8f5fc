use Rattle.wasm_check.proofs.EntryLemmas.{of_entry}
use Rattle.wasm_check.specs.Modules.{IsType}
use Rattle.wasm_check.proofs.fields.func_entry.Goals as goal

pub returns : goal.returns
returns c = of_entry c.args.m.now.funcs c.args.k c.get-func.result.now (λ f. IsType c.args.m.now f.ty) c.func_is_valid.result c.get-func.ensures c.func_is_valid.ensures
