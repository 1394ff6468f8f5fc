use Rattle.wasm_check.proofs.EntryLemmas.{of_entry}
use Rattle.wasm_check.specs.Modules.{MemoryIsValid}
use Rattle.wasm_check.proofs.fields.memory_entry.Goals as goal

pub returns : goal.returns
returns c = of_entry c.args.m.now.memories c.args.k c.get-memory.result.now (MemoryIsValid c.args.m.now c.args.k) c.memory_is_valid.result c.get-memory.ensures c.memory_is_valid.ensures
