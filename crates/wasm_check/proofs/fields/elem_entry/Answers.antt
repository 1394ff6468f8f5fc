use Rattle.wasm_check.proofs.EntryLemmas.{of_entry}
use Rattle.wasm_check.specs.Modules.{ElemIsValid}
use Rattle.wasm_check.proofs.fields.elem_entry.Goals as goal

pub returns : goal.returns
returns c = of_entry c.args.m.now.elems c.args.k c.get-elem.result.now (ElemIsValid c.args.m.now) c.elem_is_valid.result c.get-elem.ensures c.elem_is_valid.ensures
