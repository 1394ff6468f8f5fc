-- Assignments in the order in which variables are decided.
use Rattle.std.specs.Prelude.{◌≡◌, ℕ, true, false, List, [], ◌∷◌, ◌++◌, ◌⊎◌}
use Rattle.refute_check.specs.Clauses.{Clause, Assignment, HasLiteral, variable_of}

-- the list names this variable
abbrev pub Names : List ℕ → ℕ → Type 0
Names [] variable = ⊥
Names (first ∷ rest) variable = (variable ≡ first) ⊎ Names rest variable

-- the order names every variable of each clause
abbrev pub NamesAll : List ℕ → List Clause → Type 0
NamesAll order [] = Unit {0}
NamesAll order (clause ∷ clauses) =
    ((literal : ℕ) → HasLiteral literal clause → Names order (variable_of literal)) × NamesAll order clauses

-- the two give the same values to these variables
abbrev pub AreSame : Assignment → Assignment → List ℕ → Type 0
AreSame first second [] = Unit {0}
AreSame first second (variable ∷ rest) = (first variable ≡ second variable) × AreSame first second rest

-- the second is greater: it is true at the first variable of the order at which they differ
abbrev pub IsGreater : List ℕ → Assignment → Assignment → Type 0
IsGreater order first second =
    (before : List ℕ) × (variable : ℕ) × (after : List ℕ) × (order ≡ before ++ variable ∷ after)
    × AreSame first second before × (first variable ≡ false) × (second variable ≡ true)
