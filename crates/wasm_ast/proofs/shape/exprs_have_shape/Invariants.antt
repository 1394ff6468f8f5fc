use Rattle.std.specs.List.{AllWithin}
use Rattle.wasm_ast.specs.Shape.{ExprHasShape}
use Rattle.wasm_ast.proofs.shape.exprs_have_shape.Given as goal

abbrev pub invariant-loop-expr : goal.invariant-loop-expr
invariant-loop-expr l = AllWithin ExprHasShape l.exprs 0 l.expr-index
