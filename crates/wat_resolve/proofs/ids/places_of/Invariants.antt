use Rattle.std.proofs.Common.{◌≡◌, ◌++◌, ◌+◌, take, replicate, None}
use Rattle.wasm_text.specs.NameTroubles.{twice}
use Rattle.wat_resolve.specs.code.Noting.{noted}
use Rattle.wat_resolve.specs.code.Firsts.{AreFirsts, words_of}
use Rattle.wat_resolve.proofs.ids.places_of.Given as goal

-- the places of those so far, and those of them that are defined again
abbrev pub invariant-loop-id : goal.invariant-loop-id
invariant-loop-id l =
    (l.place ≡ l.unnamed + l.id-index)
    × AreFirsts (λ k. k.now) (words_of l.text (replicate l.unnamed None ++ take l.id-index l.ids)) l.places
    × (l.found ≡ noted (twice l.text (replicate l.unnamed None ++ take l.id-index l.ids)) l.initial.found)
