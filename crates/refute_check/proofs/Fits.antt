-- What the machine keeps of its trail.
use Rattle.std.specs.Prelude.{◌≡◌, ℕ, List, [], ◌∷◌, ◌++◌, Option, Some, None, slice_get, ◌⊎◌}
use Rattle.refute_check.specs.Clauses.{Clause, HasLiteral, variable_of, negative}
use Rattle.refute_check.specs.Machine.{Entry, Trail, entry_of, value_of, False}

-- each of these variables is on the trail
abbrev pub AllSet : Trail → List ℕ → Type 0
AllSet trail [] = Unit {0}
AllSet trail (variable ∷ rest) = ((entry : Entry) × (entry_of trail variable ≡ Some entry)) × AllSet trail rest

-- A decided literal is a negation, and each variable before it in the order was on the trail. Another is forced by its
-- reason, whose other literals were false.
abbrev pub EntryFits : List Clause → List ℕ → Option ℕ → Entry → Trail → Type 0
EntryFits clauses order None entry trail =
    (entry.literal ≡ negative (variable_of entry.literal))
    × ((before : List ℕ) × (after : List ℕ) × (order ≡ before ++ variable_of entry.literal ∷ after) × AllSet trail before)
EntryFits clauses order (Some reason) entry trail =
    (clause : Clause) × (slice_get clauses reason ≡ Some clause) × HasLiteral entry.literal clause
    × ((literal : ℕ) → HasLiteral literal clause → (literal ≡ entry.literal) ⊎ (value_of trail literal ≡ False))

-- each entry was right when it came
abbrev pub Fits : List Clause → List ℕ → Trail → Type 0
Fits clauses order [] = Unit {0}
Fits clauses order (entry ∷ trail) =
    (entry_of trail (variable_of entry.literal) ≡ None) × EntryFits clauses order entry.reason entry trail
    × Fits clauses order trail
