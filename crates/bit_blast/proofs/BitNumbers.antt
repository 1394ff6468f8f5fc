-- Bits, lowest first, and the number that they spell.
use Rattle.std.specs.Prelude.{ℕ, zero, suc, ◌+◌, ◌*◌, ◌/◌, ◌%◌, Bool, ◌==◌, List, [], ◌∷◌}
use Rattle.bit_blast.specs.Meanings.{bit}

-- the number that bits spell, the lowest first
abbrev pub number : List Bool → ℕ
number [] = 0
number (x ∷ xs) = bit x + 2 * number xs

-- the lowest bit of a number
abbrev pub lowest : ℕ → Bool
lowest x = x % 2 == 1

-- so many bits of a number, the lowest first
abbrev pub bits_of : ℕ → ℕ → List Bool
bits_of zero x = []
bits_of (suc count) x = lowest x ∷ bits_of count (x / 2)
