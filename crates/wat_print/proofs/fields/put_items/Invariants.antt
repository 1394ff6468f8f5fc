use Rattle.std.proofs.Common.{◌≡◌, ◌++◌, string_bytes, flat_map, take}
use Rattle.wasm_text.specs.Printing.{item_text}
use Rattle.wat_print.proofs.fields.put_items.Given as goal

abbrev pub invariant-loop-item : goal.invariant-loop-item
invariant-loop-item l = string_bytes l.out ≡ string_bytes l.initial.out ++ flat_map item_text (take l.item-index l.items)
