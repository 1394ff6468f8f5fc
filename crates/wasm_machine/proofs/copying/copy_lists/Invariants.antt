use Rattle.std.proofs.Common.{◌≡◌, map, take}
use Rattle.wasm_machine.proofs.copying.copy_lists.Given as goal

abbrev pub invariant-loop-list : goal.invariant-loop-list
invariant-loop-list l = map (λ t. t.items) l.copied.items ≡ map (λ t. t.items) (take l.list-index l.lists)
