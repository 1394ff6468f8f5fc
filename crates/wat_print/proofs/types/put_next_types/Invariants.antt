use Rattle.std.proofs.Common.{◌≡◌, ◌++◌, string_bytes, flat_map, take}
use Rattle.wasm_text.specs.PrintedTypes.{next_type}
use Rattle.wat_print.proofs.types.put_next_types.Given as goal

abbrev pub invariant-loop-kind : goal.invariant-loop-kind
invariant-loop-kind l = string_bytes l.out ≡ string_bytes l.initial.out ++ flat_map next_type (take l.kind-index l.kinds)
