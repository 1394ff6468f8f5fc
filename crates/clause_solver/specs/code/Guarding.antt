-- Watched literals (Moskewicz, Madigan, Zhao, Zhang and Malik, Chaff: Engineering an Efficient SAT Solver, 2001): two of each
-- clause, so that a clause is looked at only where one of them becomes false.
use Rattle.std.specs.Prelude.{◌≡◌, ◌≢◌, ℕ, true, List, [], ◌∷◌, ◌⊎◌, Option, Some, None, slice_get}
use Rattle.refute_check.specs.Clauses.{Clause}
use Rattle.refute_check.specs.Resolution.{has}
use Rattle.refute_check.specs.Machine as machine
use Rattle.refute_check.specs.Machine.{Trail, value_of, True, Unset, status}
use Rattle.clause_solver.specs.code.Watching.{listed}
use Rattle.clause_solver.specs.declared.rules.Status.{Status}
use Rattle.clause_solver.specs.declared.rules.Status.TheVariants.{Falsified, Forces, Idle}
use Rattle.clause_solver.specs.declared.rules.Look.{Look}
use Rattle.clause_solver.specs.declared.rules.Look.TheVariants as look
use Rattle.clause_solver.specs.declared.rules.Choice.{Choice}

-- a literal of the clause is true
abbrev pub IsMet : Trail → Clause → Type 0
IsMet trail clause = (literal : ℕ) × (has clause literal ≡ true) × (value_of trail literal ≡ True)

-- the clause holds the two at two places
abbrev pub HasTwo : Clause → ℕ → ℕ → Type 0
HasTwo clause first second = (i : ℕ) × (j : ℕ) × (i ≢ j) × (slice_get clause i ≡ Some first) × (slice_get clause j ≡ Some second)

-- the clause is true, or its watched literals are unset
abbrev pub IsGuarded : Trail → Clause → ℕ × ℕ → Type 0
IsGuarded trail clause pair =
    IsMet trail clause ⊎ (HasTwo clause pair.0 pair.1 × (value_of trail pair.0 ≡ Unset) × (value_of trail pair.1 ≡ Unset))

-- it holds both of them, if it holds any
abbrev pub IsHeld : Clause → ℕ × ℕ → Type 0
IsHeld clause pair = (clause ≡ []) ⊎ ((has clause pair.0 ≡ true) × (has clause pair.1 ≡ true))

-- it is among the falsified, or among those that force a literal, and watches that
abbrev pub IsAlert : Trail → Clause → ℕ × ℕ → List ℕ → List ℕ → ℕ → Type 0
IsAlert trail clause pair falsified forcing number =
    ((status trail clause ≡ machine.Falsified) × (has falsified number ≡ true))
    ⊎ ((literal : ℕ) × (status trail clause ≡ machine.Forces literal) × (has forcing number ≡ true) × ((literal ≡ pair.0) ⊎ (literal ≡ pair.1)))

abbrev pub KeptAs : Trail → Option Clause → Option (ℕ × ℕ) → List ℕ → List ℕ → ℕ → Type 0
KeptAs trail None pair falsified forcing number = Unit {0}
KeptAs trail (Some clause) None falsified forcing number = ⊥
KeptAs trail (Some clause) (Some pair) falsified forcing number =
    IsHeld clause pair × (IsGuarded trail clause pair ⊎ IsAlert trail clause pair falsified forcing number)

-- each clause watches two of its literals, and is guarded or known
abbrev pub AllKept : Trail → List Clause → List (ℕ × ℕ) → List ℕ → List ℕ → Type 0
AllKept trail clauses pairs falsified forcing =
    (number : ℕ) → KeptAs trail (slice_get clauses number) (slice_get pairs number) falsified forcing number

abbrev pub GuardedAs : Trail → Option Clause → Option (ℕ × ℕ) → Type 0
GuardedAs trail None pair = Unit {0}
GuardedAs trail (Some clause) None = ⊥
GuardedAs trail (Some clause) (Some pair) = IsGuarded trail clause pair

abbrev pub AreGuarded : Trail → List Clause → List (ℕ × ℕ) → Type 0
AreGuarded trail clauses pairs = (number : ℕ) → GuardedAs trail (slice_get clauses number) (slice_get pairs number)

-- where an entry was decided, all clauses were guarded on the trail before it
abbrev pub WereGuarded : Option ℕ → Trail → List Clause → List (ℕ × ℕ) → Type 0
WereGuarded None trail clauses pairs = AreGuarded trail clauses pairs
WereGuarded (Some reason) trail clauses pairs = Unit {0}

-- on the trail before each decision all clauses are guarded
abbrev pub IsSettled : Trail → List Clause → List (ℕ × ℕ) → Type 0
IsSettled [] clauses pairs = Unit {0}
IsSettled (entry ∷ trail) clauses pairs = WereGuarded entry.reason trail clauses pairs × IsSettled trail clauses pairs

-- what is unset on the one is unset on the other
abbrev pub IsBelow : Trail → Trail → Type 0
IsBelow below trail = (literal : ℕ) → value_of trail literal ≡ Unset → value_of below literal ≡ Unset

-- the clause of this number is listed for both literals that it watches
abbrev pub ListedAs : List (List ℕ) → Option (ℕ × ℕ) → ℕ → Type 0
ListedAs lists None number = Unit {0}
ListedAs lists (Some pair) number = (has (listed lists pair.0) number ≡ true) × (has (listed lists pair.1) number ≡ true)

-- ---- what is found out about one clause

abbrev pub LookIs : Look → Trail → Clause → Type 0
LookIs look.Met trail clause = IsMet trail clause
LookIs look.Falsified trail clause = status trail clause ≡ machine.Falsified
LookIs (look.Forces literal) trail clause = status trail clause ≡ machine.Forces literal
LookIs (look.Two first second) trail clause =
    HasTwo clause first second × (value_of trail first ≡ Unset) × (value_of trail second ≡ Unset)

-- these literals can be watched where the clause has this status
abbrev pub Watches : Status → Trail → Clause → ℕ × ℕ → Type 0
Watches Falsified trail clause pair = status trail clause ≡ machine.Falsified
Watches (Forces literal) trail clause pair = (status trail clause ≡ machine.Forces literal) × ((literal ≡ pair.0) ⊎ (literal ≡ pair.1))
Watches Idle trail clause pair = IsGuarded trail clause pair

-- These literals are held and can be watched, and where the others guarded the clause on a trail below, these do.
pub record IsChosen (trail : Trail) (clause : Clause) (first second : ℕ) (choice : Choice) : Type 0 where
  pub held : IsHeld clause (choice.first, choice.second)
  pub now : Watches choice.status trail clause (choice.first, choice.second)
  pub before : (below : Trail) → IsBelow below trail → IsGuarded below clause (first, second) → IsGuarded below clause (choice.first, choice.second)
