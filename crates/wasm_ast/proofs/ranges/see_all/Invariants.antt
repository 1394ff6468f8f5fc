use Rattle.std.specs.List.{AllWithin}
use Rattle.wasm_ast.proofs.ranges.see_all.Given as goal

abbrev pub invariant-loop-item : goal.invariant-loop-item
invariant-loop-item g l = AllWithin g.T.HasRange.Range l.fn.items 0 l.item-index
