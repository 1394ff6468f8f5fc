-- Which variable an analysis resolves on next.
use Rattle.std.specs.Prelude.{ℕ, Bool, ◌&&◌, ◌==◌, if◌then◌else◌, [], ◌∷◌, Option, Some, None}
use Rattle.refute_check.specs.Clauses.{Clause, variable_of}
use Rattle.refute_check.specs.Machine.{Entry, Trail, has_variable}

-- the latest entry of a trail that fits
abbrev pub latest : (Entry → Bool) → Trail → Option Entry
latest fits [] = None
latest fits (entry ∷ trail) = if fits entry then Some entry else latest fits trail

-- the clause holds the entry's variable
abbrev pub is_held : Clause → Entry → Bool
is_held clause entry = has_variable (variable_of entry.literal) clause

-- the clause holds the entry's variable, and that has this level
abbrev pub is_held_at : ℕ → Clause → Entry → Bool
is_held_at level clause entry = has_variable (variable_of entry.literal) clause && (entry.level == level)
