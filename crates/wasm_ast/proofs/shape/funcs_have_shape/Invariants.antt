use Rattle.std.specs.List.{AllWithin}
use Rattle.wasm_ast.specs.Shape.{FuncHasShape}
use Rattle.wasm_ast.proofs.shape.funcs_have_shape.Given as goal

abbrev pub invariant-loop-func : goal.invariant-loop-func
invariant-loop-func l = AllWithin FuncHasShape l.funcs 0 l.func-index
