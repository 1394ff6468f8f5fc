-- Logs of resolutions, and when a log refutes clauses.
use Rattle.std.specs.Prelude.{◌≡◌, ℕ, List, [], ◌∷◌, ◌++◌, length, take, slice_get, Option, Some, None, ◌⊎◌}
use Rattle.std.specs.Option.{option_and_then}
use Rattle.refute_check.specs.Clauses.{Clause}
use Rattle.refute_check.specs.Resolution.{resolvent}
use Rattle.refute_check.specs.declared.logs.Chain.{Chain}

-- A step resolves the clause so far with the clause of this number, on this variable; None where no clause has the
-- number, or they don't resolve.
abbrev pub after_step : List Clause → ℕ × ℕ → Clause → Option Clause
after_step clauses step clause = option_and_then (λ other. resolvent clause other step.1) (slice_get clauses step.0)

-- the clause after all the steps
abbrev pub after_steps : List Clause → List (ℕ × ℕ) → Clause → Option Clause
after_steps clauses [] clause = Some clause
after_steps clauses (step ∷ steps) clause =
    option_and_then (λ next. after_steps clauses steps next) (after_step clauses step clause)

-- what a chain gives over numbered clauses, from 0; None where it can't be resolved
abbrev pub result_of : List Clause → Chain → Option Clause
result_of clauses chain =
    option_and_then (λ first. after_steps clauses chain.steps first) (slice_get clauses chain.start)

-- The chains lead from the clauses to more: each gives a clause over those before it, and that clause is appended.
abbrev pub Leads : List Clause → List Chain → List Clause → Type 0
Leads clauses [] all = all ≡ clauses
Leads clauses (chain ∷ log) all =
    (result : Clause) × (result_of clauses chain ≡ Some result) × Leads (clauses ++ result ∷ []) log all

-- Each chain resolves, and the last one gives the empty clause.
pub record IsAccepted (clauses : List Clause) (log : List Chain) : Type 0 where
  pub front : List Chain
  pub last : Chain
  pub ends : log ≡ front ++ last ∷ []
  pub before : List Clause
  pub leads : Leads clauses front before
  pub empty : result_of before last ≡ Some []

-- The chain of this number is the first that can't be resolved.
pub record FailsAt (clauses : List Clause) (log : List Chain) (number : ℕ) : Type 0 where
  pub chain : Chain
  pub at : slice_get log number ≡ Some chain
  pub before : List Clause
  pub leads : Leads clauses (take number log) before
  pub fails : result_of before chain ≡ None

-- Each chain resolves, but there is no last one that gives the empty clause.
pub record EndsOpen (clauses : List Clause) (log : List Chain) : Type 0 where
  pub all : List Clause
  pub leads : Leads clauses log all
  pub open_ended : IsAccepted clauses log → ⊥

-- The number with which a log is refused.
abbrev pub IsRefused : List Clause → List Chain → ℕ → Type 0
IsRefused clauses log number = FailsAt clauses log number ⊎ ((number ≡ length log) × EndsOpen clauses log)
