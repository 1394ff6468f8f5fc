-- Resolution of two clauses on a variable (Robinson, A Machine-Oriented Logic Based on the Resolution Principle, 1965).
use Rattle.std.specs.Prelude.{ℕ, Bool, not, ◌==◌, ◌&&◌, if◌then◌else◌, [], ◌∷◌, ◌++◌, Option, Some, None, filter}
use Rattle.std.specs.List.{list_any}
use Rattle.refute_check.specs.Clauses.{Clause, positive, negative}

-- whether the clause holds this literal
abbrev pub has : Clause → ℕ → Bool
has clause literal = list_any (λ other. other == literal) clause

-- the literals of the clause but this one
abbrev pub without : ℕ → Clause → Clause
without literal clause = filter (λ other. not (other == literal)) clause

-- the literals of the clause, each once: of equal ones the first stays
abbrev pub each_once : Clause → Clause
each_once [] = []
each_once (literal ∷ rest) = literal ∷ without literal (each_once rest)

-- the literals of both clauses but the one that is resolved on, each once
abbrev pub joined : ℕ → ℕ → Clause → Clause → Clause
joined literal negation first second = each_once (without literal first ++ without negation second)

-- What two clauses resolve to on a variable: the first holds it and the second its negation, or else the other way
-- round; None where neither is so.
abbrev pub resolvent : Clause → Clause → ℕ → Option Clause
resolvent first second variable =
    if has first (positive variable) && has second (negative variable)
    then Some (joined (positive variable) (negative variable) first second)
    else (if has first (negative variable) && has second (positive variable)
    then Some (joined (negative variable) (positive variable) first second)
    else None)
