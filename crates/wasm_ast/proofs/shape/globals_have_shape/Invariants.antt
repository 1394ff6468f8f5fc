use Rattle.std.specs.List.{AllWithin}
use Rattle.wasm_ast.specs.Shape.{ExprHasShape}
use Rattle.wasm_ast.proofs.shape.globals_have_shape.Given as goal

abbrev pub invariant-loop-global : goal.invariant-loop-global
invariant-loop-global l = AllWithin (λ g. ExprHasShape g.init) l.globals 0 l.global-index
