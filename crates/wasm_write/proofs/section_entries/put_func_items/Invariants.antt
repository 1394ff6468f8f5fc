use Rattle.std.proofs.Common.{◌≡◌, ◌++◌, take}
use Rattle.std.specs.List.{flat_map}
use Rattle.wasm_write.specs.SectionEntries.{func_item_bytes}
use Rattle.wasm_write.proofs.section_entries.put_func_items.Given as goal

abbrev pub invariant-loop-item : goal.invariant-loop-item
invariant-loop-item l = l.out.items ≡ l.initial.out.items ++ flat_map func_item_bytes (take l.item-index l.items)
