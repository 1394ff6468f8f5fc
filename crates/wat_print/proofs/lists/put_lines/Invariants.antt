use Rattle.std.proofs.Common.{◌≡◌, ◌++◌, string_bytes, take}
use Rattle.wasm_text.specs.Printing.{lines_of}
use Rattle.wat_print.proofs.lists.put_lines.Given as goal

abbrev pub invariant-loop-field : goal.invariant-loop-field
invariant-loop-field g l = string_bytes l.out ≡ string_bytes l.initial.out ++ lines_of g.T.Field.text_of (take l.field-index l.fields)
