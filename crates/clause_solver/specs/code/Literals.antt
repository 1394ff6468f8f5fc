-- Literals that are kept with holes, and a table of their places (Briggs and Torczon, An Efficient Representation for Sparse
-- Sets, 1993).
use Rattle.std.specs.Prelude.{◌≡◌, ℕ, List, [], ◌∷◌, Option, Some, None, length, slice_get}
use Rattle.refute_check.specs.Clauses.{Clause}

abbrev pub present_with : Option ℕ → List ℕ → List ℕ
present_with None rest = rest
present_with (Some literal) rest = literal ∷ rest

-- the literals that are there
abbrev pub present : List (Option ℕ) → List ℕ
present [] = []
present (slot ∷ slots) = present_with slot (present slots)

-- the literal is at this place
abbrev pub IsStoredAt : List (Option ℕ) → ℕ → ℕ → Type 0
IsStoredAt slots place literal = slice_get slots place ≡ Some (Some literal)

-- the table says of each of them where it is, and there are so many
pub record IsStored (slots : List (Option ℕ)) (places : List ℕ) (many : ℕ) : Type 0 where
  pub found : (place literal : ℕ) → IsStoredAt slots place literal → slice_get places literal ≡ Some place
  pub counted : many ≡ length (present slots)

-- the clause so far: after some steps the literals, before the first step the clause as it was
abbrev pub clause_now : List (ℕ × ℕ) → Clause → Clause → Clause
clause_now [] first literals = first
clause_now (step ∷ steps) first literals = literals
