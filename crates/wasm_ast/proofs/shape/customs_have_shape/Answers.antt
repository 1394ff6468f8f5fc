use Rattle.wasm_ast.proofs.shape.customs_have_shape.Goals as goal

pub returns-then-each_has_shape : goal.returns-then-each_has_shape
returns-then-each_has_shape c = (
  λ t. record {
    each = rw c.as_slice.ensures at (c.each_has_shape.ensures.0 c.if-each_has_shape.true);
    in_order = rw c.as_slice-then-each_has_shape.ensures at (c.in_order.ensures.0 t);
  },
  λ shape. c.in_order.ensures.1 (rw c.as_slice-then-each_has_shape.ensures shape.in_order),
)
