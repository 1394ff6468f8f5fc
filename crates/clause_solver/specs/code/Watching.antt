-- What is kept beside the trail and the clauses, so that a turn looks at few of them.
use Rattle.std.specs.Prelude.{◌≡◌, ℕ, ◌+◌, ◌-◌, ◌%◌, true, ◌==◌, if◌then◌else◌, List, [], ◌∷◌, Option, Some, None, slice_get, unwrap_or}
use Rattle.refute_check.specs.Clauses.{Clause}
use Rattle.refute_check.specs.Resolution.{has}
use Rattle.clause_solver.specs.declared.rules.Status as code
use Rattle.clause_solver.specs.declared.rules.Status.TheVariants as statuses
use Rattle.refute_check.specs.Machine.{Entry, Trail, entry_of, Status, status, Falsified, Forces, Idle}

-- the other literal of a literal's variable
abbrev pub opposite : ℕ → ℕ
opposite literal = if literal % 2 == 0 then literal + 1 else literal - 1

-- what a clause is on a trail, if there is one
abbrev pub status_at : Trail → Option Clause → Status
status_at trail None = Idle
status_at trail (Some clause) = status trail clause

-- The first numbers have this one where its clause is falsified, and the second where it forces a literal.
abbrev pub IsSeenAs : Trail → Option Clause → List ℕ → List ℕ → ℕ → Type 0
IsSeenAs trail clause falsified forcing number =
    (status_at trail clause ≡ Falsified → has falsified number ≡ true)
    × ((literal : ℕ) → status_at trail clause ≡ Forces literal → has forcing number ≡ true)

abbrev pub IsSeen : Trail → List Clause → List ℕ → List ℕ → ℕ → Type 0
IsSeen trail clauses falsified forcing number = IsSeenAs trail (slice_get clauses number) falsified forcing number

-- all of the first numbers are among the second
abbrev pub AreAmong : List ℕ → List ℕ → Type 0
AreAmong first second = (number : ℕ) → has first number ≡ true → has second number ≡ true

-- The number is where its status puts it.
abbrev pub IsNoted : code.Status → List ℕ → List ℕ → ℕ → Type 0
IsNoted statuses.Falsified falsified forcing number = has falsified number ≡ true
IsNoted (statuses.Forces literal) falsified forcing number = has forcing number ≡ true
IsNoted statuses.Idle falsified forcing number = Unit {0}

-- the numbers that are listed for a literal
abbrev pub listed : List (List ℕ) → ℕ → List ℕ
listed lists literal = unwrap_or (slice_get lists literal) []

-- The lists kept their numbers, and this number is in those of these literals.
pub record Put (lists new : List (List ℕ)) (number : ℕ) (literals : List ℕ) : Type 0 where
  pub kept : (literal : ℕ) → AreAmong (listed lists literal) (listed new literal)
  pub put : (literal : ℕ) → has literals literal ≡ true → has (listed new literal) number ≡ true

-- each of these variables is on the trail
abbrev pub AllSet : Trail → List ℕ → Type 0
AllSet trail [] = Unit {0}
AllSet trail (variable ∷ rest) = ((entry : Entry) × (entry_of trail variable ≡ Some entry)) × AllSet trail rest
