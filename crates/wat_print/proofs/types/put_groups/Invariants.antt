use Rattle.std.proofs.Common.{◌≡◌, ◌++◌, string_bytes, flat_map, take}
use Rattle.wasm_text.specs.PrintedTypes.{group_text}
use Rattle.wat_print.proofs.types.put_groups.Given as goal

abbrev pub invariant-loop-group : goal.invariant-loop-group
invariant-loop-group l = string_bytes l.out ≡ string_bytes l.initial.out ++ flat_map group_text (take l.group-index l.groups)
