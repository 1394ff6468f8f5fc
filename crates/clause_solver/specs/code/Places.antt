-- Where the variables of a trail have their entries.
use Rattle.std.specs.Prelude.{◌≡◌, ℕ, suc, ◌==◌, if◌then◌else◌, List, [], ◌∷◌, length, slice_index, None}
use Rattle.refute_check.specs.Clauses.{variable_of}
use Rattle.refute_check.specs.Machine.{Trail, entry_of}

-- one more than how many entries came before that of the variable, or 0 where it has none
abbrev pub place_of : Trail → ℕ → ℕ
place_of [] variable = 0
place_of (entry ∷ trail) variable =
    if variable_of entry.literal == variable then suc (length trail) else place_of trail variable

-- no variable has two entries
abbrev pub IsOnce : Trail → Type 0
IsOnce [] = Unit {0}
IsOnce (entry ∷ trail) = (entry_of trail (variable_of entry.literal) ≡ None) × IsOnce trail

-- no variable has two entries, and the table says of each where it has one
pub record IsPlaced (trail : Trail) (places : List ℕ) : Type 0 where
  pub found : (variable : ℕ) → slice_index places variable ≡ place_of trail variable
  pub once : IsOnce trail
