-- Bits from the highest down.
use Rattle.std.specs.Prelude.{ℕ, ◌+◌, ◌*◌, ◌^◌, Bool, List, [], ◌∷◌, length}
use Rattle.bit_blast.specs.Meanings.{bit}

-- the number that bits spell, the highest first
abbrev pub spelled_down : List Bool → ℕ
spelled_down [] = 0
spelled_down (x ∷ xs) = bit x * 2 ^ length xs + spelled_down xs
