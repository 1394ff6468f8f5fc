use Rattle.std.proofs.Common.{◌≡◌, ◌++◌, string_bytes}
use Rattle.wasm_text.specs.PrintedTypes.{next_type, copies}
use Rattle.wat_print.proofs.types.put_copies.Given as goal

abbrev pub invariant-loop-n : goal.invariant-loop-n
invariant-loop-n l = string_bytes l.out ≡ string_bytes l.initial.out ++ copies l.n (next_type l.kind)
