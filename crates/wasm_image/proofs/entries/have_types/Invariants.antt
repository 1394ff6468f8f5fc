use Rattle.std.proofs.Common.{◌≡◌, take, map}
use Rattle.wasm_image.specs.Entries.{type_of}
use Rattle.wasm_image.proofs.entries.have_types.Given as goal

-- the types so far are equal
abbrev pub invariant-loop-i : goal.invariant-loop-i
invariant-loop-i l = take l.i (map type_of l.values) ≡ take l.i l.types
