-- What is found out about conditions on inputs, by the clause machine on their formula.
use Rattle.std.specs.Prelude.{◌≡◌, ℕ, ◌≤◌, Bool, List, All, ◌⊎◌, Some, None}
use Rattle.bv_terms.specs.Terms.{Term, value_of}
use Rattle.clause_solver.specs.Answers.{assignment_of, IsAnswer}
use Rattle.clause_solver.specs.declared.answer.Answer.TheVariants.{Model, Refuted, Spent}
use Rattle.bit_blast.specs.Formulas.{Condition, formula}
use Rattle.bit_blast.specs.Meanings.{input_of, IsAnswered}
use Rattle.bit_blast.specs.Inputs.{IsInput, IsBefore}
use Rattle.path_ask.specs.declared.verdicts.Verdict.{Verdict}
use Rattle.path_ask.specs.declared.verdicts.Verdict.TheVariants.{Least, Dropped, Undecided}
use Rattle.path_ask.specs.declared.verdicts.Pick.{Pick}
use Rattle.path_ask.specs.declared.verdicts.Pick.TheVariants.{Least as LeastPick, Undecided as UndecidedPick}

-- ---- inputs

-- an input over symbols of these widths at which each condition has its answer
abbrev pub Meets : List Condition → List Bool → List ℕ → Type 0
Meets conditions draws input = IsInput draws input × All (IsAnswered input) conditions

abbrev pub SomeMeets : List Condition → List Bool → Type 0
SomeMeets conditions draws = (input : List ℕ) × Meets conditions draws input

-- it meets the conditions, and every other input that does comes after it
pub record IsLeastInput (conditions : List Condition) (draws : List Bool) (input : List ℕ) : Type 0 where
  pub meets : Meets conditions draws input
  pub least : (other : List ℕ) → Meets conditions draws other → (other ≡ input) ⊎ IsBefore input other

-- the least value of a term at an input that meets the conditions, and the least input of that value
pub record IsLeastValue (conditions : List Condition) (draws : List Bool) (t : Term) (value : ℕ) (input : List ℕ) : Type 0 where
  pub meets : Meets conditions draws input
  pub gives : value_of input t ≡ value
  pub least_value : (other : List ℕ) → Meets conditions draws other → value ≤ value_of other t
  pub least_input : (other : List ℕ) → Meets conditions draws other → value_of other t ≡ value → (other ≡ input) ⊎ IsBefore input other

-- ---- verdicts

-- what the machine gives on the formula: the input of its model; the formula with its log; or that it spent its conflicts
abbrev pub IsVerdict : List Condition → List Bool → ℕ → Verdict → Type 0
IsVerdict conditions draws bound (Least input) =
    (values : List Bool) × IsAnswer (formula conditions draws None) bound (Model values) × (input ≡ input_of (assignment_of values) draws)
IsVerdict conditions draws bound (Dropped refutation) =
    IsAnswer (formula conditions draws None) bound (Refuted refutation.log) × (refutation.cnf ≡ formula conditions draws None)
IsVerdict conditions draws bound Undecided = IsAnswer (formula conditions draws None) bound Spent

-- the least input, or that no input meets the conditions
abbrev pub IsCorrectVerdict : List Condition → List Bool → Verdict → Type 0
IsCorrectVerdict conditions draws (Least input) = IsLeastInput conditions draws input
IsCorrectVerdict conditions draws (Dropped refutation) = SomeMeets conditions draws → ⊥
IsCorrectVerdict conditions draws Undecided = Unit {0}

-- ---- picks

-- what the machine gives on the formula in which the term's bits are decided first
abbrev pub IsPick : List Condition → List Bool → Term → ℕ → Pick → Type 0
IsPick conditions draws t bound (LeastPick value input) =
    (values : List Bool) × IsAnswer (formula conditions draws (Some t)) bound (Model values) × (input ≡ input_of (assignment_of values) draws)
    × (value ≡ value_of input t)
IsPick conditions draws t bound UndecidedPick = IsAnswer (formula conditions draws (Some t)) bound Spent

abbrev pub IsLeast : List Condition → List Bool → Term → Pick → Type 0
IsLeast conditions draws t (LeastPick value input) = IsLeastValue conditions draws t value input
IsLeast conditions draws t UndecidedPick = Unit {0}
