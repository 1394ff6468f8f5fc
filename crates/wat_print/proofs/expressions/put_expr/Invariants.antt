use Rattle.std.proofs.Common.{◌≡◌, ◌+◌, ◌*◌, ◌<◌, ◌++◌, length, All, string_bytes}
use Rattle.wasm_ast.specs.Numbering.{IsNumbered}
use Rattle.wasm_ast.specs.Shape.{SeqHasShape}
use Rattle.wasm_text.specs.PrintedInstructions.{expr_text}
use Rattle.wat_print.specs.code.Walking.{IsGood, left}
use Rattle.wat_print.proofs.expressions.put_expr.Given as goal

abbrev pub invariant-loop-top : goal.invariant-loop-top
invariant-loop-top l = record {
  some : 0 < length l.before;
  numbered : IsNumbered l.seqs;
  shape : All SeqHasShape l.seqs;
  left : string_bytes l.out ++ left l.before l.seqs l.stack.items ≡ string_bytes l.fn.out ++ expr_text l.before l.fn.expr;
  good : All (IsGood l.seqs) l.stack.items;
}

abbrev pub decreases-loop-top : goal.decreases-loop-top
decreases-loop-top l = 2 * length (left l.before l.seqs l.stack.items) + length l.stack.items
