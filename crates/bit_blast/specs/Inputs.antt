-- Inputs, as lists of numbers, and their order.
use Rattle.std.specs.Prelude.{◌≡◌, ℕ, ◌%◌, ◌^◌, ◌<◌, Bool, List, [], ◌∷◌, ◌⊎◌}
use Rattle.wasm_rules.specs.Words.{bits_where}

-- one number for each symbol that was drawn, of 64 bits where it is wide, else of 32
abbrev pub IsInput : List Bool → List ℕ → Type 0
IsInput [] [] = Unit {0}
IsInput [] (number ∷ input) = ⊥
IsInput (wide ∷ draws) [] = ⊥
IsInput (wide ∷ draws) (number ∷ input) = (number < 2 ^ bits_where wide) × IsInput draws input

-- the first symbol at which the two differ has the lower number in the first
abbrev pub IsBefore : List ℕ → List ℕ → Type 0
IsBefore [] second = ⊥
IsBefore (x ∷ first) [] = ⊥
IsBefore (x ∷ first) (y ∷ second) = (x < y) ⊎ ((x ≡ y) × IsBefore first second)

-- any list of numbers as such an input: each number modulo its symbol's power of 2, and 0 past the end
abbrev pub numbers_for : List Bool → List ℕ → List ℕ
numbers_for [] input = []
numbers_for (wide ∷ draws) [] = 0 ∷ numbers_for draws []
numbers_for (wide ∷ draws) (x ∷ input) = x % 2 ^ bits_where wide ∷ numbers_for draws input
