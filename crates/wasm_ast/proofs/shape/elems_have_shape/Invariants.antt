use Rattle.std.specs.List.{AllWithin}
use Rattle.wasm_ast.specs.Shape.{ElemHasShape}
use Rattle.wasm_ast.proofs.shape.elems_have_shape.Given as goal

abbrev pub invariant-loop-elem : goal.invariant-loop-elem
invariant-loop-elem l = AllWithin ElemHasShape l.elems 0 l.elem-index
