use Rattle.std.proofs.Common.{IsTrue, ◌↔◌, sym, subst}
use Rattle.wasm_check.specs.Modules.{EntryIsValid}
use Rattle.wasm_check.proofs.fields.entry_is_valid.Goals as goal

pub returns-in-Tables : goal.returns-in-Tables
returns-in-Tables c = subst (λ s. IsTrue c.table_entry.result ↔ EntryIsValid c.args.m.now s c.args.k) (sym c.in-Tables.is) c.table_entry.ensures

pub returns-in-Memories : goal.returns-in-Memories
returns-in-Memories c = subst (λ s. IsTrue c.memory_entry.result ↔ EntryIsValid c.args.m.now s c.args.k) (sym c.in-Memories.is) c.memory_entry.ensures
