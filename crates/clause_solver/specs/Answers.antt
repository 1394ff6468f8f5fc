-- What the solver answers.
use Rattle.std.specs.Prelude.{◌≡◌, ℕ, zero, suc, ◌-◌, ◌≤◌, Bool, false, List, [], ◌∷◌, ◌++◌, length, slice_get, unwrap_or, ◌⊎◌}
use Rattle.refute_check.specs.Clauses.{Assignment, SatisfiesAll}
use Rattle.refute_check.specs.Logs.{IsAccepted}
use Rattle.refute_check.specs.Machine as machine
use Rattle.refute_check.specs.Orders.{Names, NamesAll, AreSame, IsGreater}
use Rattle.refute_check.specs.declared.formulas.Cnf.{Cnf}
use Rattle.clause_solver.specs.declared.answer.Answer.{Answer}
use Rattle.clause_solver.specs.declared.answer.Answer.TheVariants.{Model, Refuted, Spent}

-- The order names each variable, from 1 on, and each once; and the literals are of these variables.
pub record IsFormula (cnf : Cnf) : Type 0 where
  pub names : (variable : ℕ) → 1 ≤ variable → variable ≤ cnf.vars → Names cnf.order variable
  pub only : (variable : ℕ) → Names cnf.order variable → (1 ≤ variable) × (variable ≤ cnf.vars)
  pub once : length cnf.order ≡ cnf.vars
  pub literals : NamesAll cnf.order cnf.clauses

-- the values of the first so many variables, from 1 on
abbrev pub values_of : machine.Trail → ℕ → List Bool
values_of trail zero = []
values_of trail (suc count) = values_of trail count ++ machine.assigned trail (suc count) ∷ []

-- the assignment that gives these values to the variables from 1 on
abbrev pub assignment_of : List Bool → Assignment
assignment_of values variable = unwrap_or (slice_get values (variable - 1)) false

-- the machine comes to this
abbrev pub ComesTo : Cnf → ℕ → machine.Turn → Type 0
ComesTo cnf bound turn = (count : ℕ) × (machine.turns cnf.order bound count (machine.start cnf.clauses) ≡ turn)

-- this is what the machine gives
abbrev pub IsAnswer : Cnf → ℕ → Answer → Type 0
IsAnswer cnf bound (Model values) =
    (trail : machine.Trail) × ComesTo cnf bound (machine.Model trail) × (values ≡ values_of trail cnf.vars)
IsAnswer cnf bound (Refuted log) = ComesTo cnf bound (machine.Refuted log)
IsAnswer cnf bound Spent = ComesTo cnf bound machine.Spent

-- A model meets the clauses, and every other assignment that does is greater; a log is accepted.
abbrev pub IsCorrectAnswer : Cnf → Answer → Type 0
IsCorrectAnswer cnf (Model values) =
    SatisfiesAll (assignment_of values) cnf.clauses
    × ((other : Assignment) → SatisfiesAll other cnf.clauses
    → AreSame (assignment_of values) other cnf.order ⊎ IsGreater cnf.order (assignment_of values) other)
IsCorrectAnswer cnf (Refuted log) = IsAccepted cnf.clauses log
IsCorrectAnswer cnf Spent = Unit {0}
