-- How watches change.
use Rattle.std.specs.Prelude.{◌≡◌, ◌≢◌, ◌<◌, ℕ, true, List, ◌⊎◌, Option, Some, None, length, slice_get}
use Rattle.refute_check.specs.Clauses.{Clause}
use Rattle.refute_check.specs.Resolution.{has}
use Rattle.refute_check.specs.Machine.{Trail}
use Rattle.clause_solver.specs.code.Watching.{listed, AreAmong}
use Rattle.clause_solver.specs.code.Guarding.{IsHeld, KeptAs, GuardedAs, ListedAs, IsBelow}
use Rattle.clause_solver.specs.declared.watches.Watches.{Watches}

-- the pair of a number
abbrev pub pair_at : Watches → ℕ → Option (ℕ × ℕ)
pair_at watches number = slice_get watches.pairs.items number

-- the clause of this number is kept
abbrev pub IsKeptIn : Trail → List Clause → Watches → ℕ → Type 0
IsKeptIn trail clauses watches number =
    KeptAs trail (slice_get clauses number) (pair_at watches number) watches.candidates.falsified.keys watches.candidates.forcing.keys number

abbrev pub IsGuardedIn : Trail → List Clause → Watches → ℕ → Type 0
IsGuardedIn trail clauses watches number = GuardedAs trail (slice_get clauses number) (pair_at watches number)

abbrev pub IsListedIn : Watches → ℕ → Type 0
IsListedIn watches number = ListedAs watches.lists (pair_at watches number) number

-- so many clauses have watches, and are kept and listed
pub record IsSound (trail : Trail) (clauses : List Clause) (watches : Watches) (many : ℕ) : Type 0 where
  pub count : length watches.pairs.items ≡ many
  pub kept : (number : ℕ) → number < many → IsKeptIn trail clauses watches number
  pub listed : (number : ℕ) → IsListedIn watches number

-- nothing was lost, and no other pair has changed
pub record Grown (old new : Watches) (number : ℕ) : Type 0 where
  pub lists : (literal : ℕ) → AreAmong (listed old.lists literal) (listed new.lists literal)
  pub falsified : AreAmong old.candidates.falsified.keys new.candidates.falsified.keys
  pub forcing : AreAmong old.candidates.forcing.keys new.candidates.forcing.keys
  pub others : (other : ℕ) → other ≢ number → pair_at new other ≡ pair_at old other
  pub count : length new.pairs.items ≡ length old.pairs.items

-- the clause of this number, which watched these two, is kept and listed, and guarded where it was on a trail below
pub record Renewed (trail : Trail) (clauses : List Clause) (number first second : ℕ) (old new : Watches) : Type 0 where
  pub grown : Grown old new number
  pub kept : IsKeptIn trail clauses new number
  pub listed : (second ≡ first) ⊎ (has (listed old.lists second) number ≡ true) → IsListedIn new number
  pub before : (below : Trail) → IsBelow below trail → GuardedAs below (slice_get clauses number) (Some (first, second)) → IsGuardedIn below clauses new number

-- the pair has this literal
abbrev pub IsWatchedBy : ℕ → Option (ℕ × ℕ) → Type 0
IsWatchedBy literal None = ⊥
IsWatchedBy literal (Some pair) = (pair.0 ≡ literal) ⊎ (pair.1 ≡ literal)

abbrev pub HeldAs : Option Clause → Option (ℕ × ℕ) → Type 0
HeldAs None pair = Unit {0}
HeldAs (Some clause) None = Unit {0}
HeldAs (Some clause) (Some pair) = IsHeld clause pair

-- the number is listed for both literals but this one
abbrev pub ListedBut : ℕ → List (List ℕ) → Option (ℕ × ℕ) → ℕ → Type 0
ListedBut literal lists None number = Unit {0}
ListedBut literal lists (Some pair) number =
    ((pair.0 ≡ literal) ⊎ (has (listed lists pair.0) number ≡ true)) × ((pair.1 ≡ literal) ⊎ (has (listed lists pair.1) number ≡ true))

-- the clause of this number, which may watch a literal that has become false, was looked at
pub record Visited (trail : Trail) (clauses : List Clause) (literal number : ℕ) (old new : Watches) : Type 0 where
  pub grown : Grown old new number
  pub kept : IsWatchedBy literal (pair_at old number) ⊎ IsKeptIn trail clauses old number → IsKeptIn trail clauses new number
  pub listed : ListedBut literal old.lists (pair_at old number) number → IsListedIn new number
  pub before : (below : Trail) → IsBelow below trail → IsGuardedIn below clauses old number → IsGuardedIn below clauses new number
