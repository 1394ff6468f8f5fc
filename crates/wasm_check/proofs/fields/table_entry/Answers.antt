use Rattle.wasm_check.proofs.EntryLemmas.{of_entry}
use Rattle.wasm_check.specs.Modules.{IsTableType}
use Rattle.wasm_check.proofs.fields.table_entry.Goals as goal

pub returns : goal.returns
returns c = of_entry c.args.m.now.tables c.args.k c.get-table.result.now IsTableType c.is_table_type.result c.get-table.ensures c.is_table_type.ensures
