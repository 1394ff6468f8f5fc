use Rattle.std.proofs.Common.{◌≡◌, ◌++◌, ◌∷◌, [], map, take}
use Rattle.wasm_text.specs.Resolved.{groups_of}
use Rattle.wat_resolve.proofs.groups.groups_from.Given as goal

abbrev pub invariant-loop-local : goal.invariant-loop-local
invariant-loop-local l = l.done.items ++ l.last ∷ [] ≡ groups_of (l.fn.first ∷ map (λ p. p.kind) (take l.local-index l.rest))
