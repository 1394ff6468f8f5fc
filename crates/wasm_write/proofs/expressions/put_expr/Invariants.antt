use Rattle.std.proofs.Common.{◌≡◌, ◌++◌, length, All}
use Rattle.wasm_ast.specs.Numbering.{IsNumbered}
use Rattle.wasm_write.specs.Instructions.{expr_bytes}
use Rattle.wasm_write.specs.Writing.{IsGood, left}
use Rattle.wasm_write.proofs.expressions.put_expr.Given as goal

abbrev pub invariant-loop-top : goal.invariant-loop-top
invariant-loop-top l = record {
  numbered : IsNumbered l.seqs;
  left : l.out.items ++ left l.seqs l.stack.items ≡ l.fn.out.items ++ expr_bytes l.fn.expr;
  good : All (IsGood l.seqs) l.stack.items;
}

abbrev pub decreases-loop-top : goal.decreases-loop-top
decreases-loop-top l = length (left l.seqs l.stack.items)
