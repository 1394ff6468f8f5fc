-- Clauses that hold the same literals, whatever their order.
use Rattle.std.specs.Prelude.{◌≡◌, ℕ, List, Option, Some, None, slice_get}
use Rattle.refute_check.specs.Clauses.{Clause}
use Rattle.refute_check.specs.Resolution.{has}

-- the two hold the same literals
abbrev pub AreAlike : Clause → Clause → Type 0
AreAlike first second = (literal : ℕ) → has first literal ≡ has second literal

-- there is none of both, or the two are alike
abbrev pub BothAlike : Option Clause → Option Clause → Type 0
BothAlike None None = Unit {0}
BothAlike None (Some second) = ⊥
BothAlike (Some first) None = ⊥
BothAlike (Some first) (Some second) = AreAlike first second

-- the clauses of each number are alike
abbrev pub AllAlike : List Clause → List Clause → Type 0
AllAlike firsts seconds = (number : ℕ) → BothAlike (slice_get firsts number) (slice_get seconds number)
