use Rattle.std.proofs.Common.{◌≡◌, map, take, slice_set}
use Rattle.wasm_reduction.specs.Combinators.{written, part}
use Rattle.wasm_machine.specs.Stores.{list_at}
use Rattle.wasm_machine.proofs.stores.copy_across.Given as goal

abbrev pub invariant-loop-i : goal.invariant-loop-i
invariant-loop-i l =
    let old = map (λ t. t.items) l.fn.lists.items in
    record { so_far : map (λ t. t.items) l.lists.items ≡ slice_set old l.x (written l.to (take l.i (part l.from l.count (list_at old l.y))) (list_at old l.x)) }
