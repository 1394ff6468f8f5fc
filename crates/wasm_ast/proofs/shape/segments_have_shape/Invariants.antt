use Rattle.std.specs.List.{AllWithin}
use Rattle.wasm_ast.specs.Shape.{SegmentHasShape}
use Rattle.wasm_ast.proofs.shape.segments_have_shape.Given as goal

abbrev pub invariant-loop-segment : goal.invariant-loop-segment
invariant-loop-segment l = AllWithin SegmentHasShape l.segments 0 l.segment-index
