-- Scripts: bounded runs as plain data. A script has the questions of a run in order, each with the number that it asks about,
-- and then the run's end; and with each of them all numbers that the run has drawn for its symbols by then.
use Rattle.std.specs.Prelude.{◌≡◌, ◌≢◌, ℕ, Bool, List, [], ◌∷◌, ◌++◌, map, Some}
use Rattle.wasm_ast.specs.declared.modules.Module.{Module}
use Rattle.wasm_ast.specs.declared.runs.Value.{Value as PlainValue}
use Rattle.wasm_ast.specs.declared.runs.Value.TheVariants.{I32 as I32Value, I64 as I64Value, Func as FuncValue, Extern as ExternValue}
use Rattle.wasm_ast.specs.declared.runs.Outcome.{Outcome}
use Rattle.wasm_ast.specs.declared.runs.Outcome.TheVariants.{Returns as Returned, Traps as Trapped, Fails as Failed, Assumes as AssumeFailed, Bound as BoundReached, Deep as TooDeep}
use Rattle.wasm_ast.specs.declared.runs.Draw.{Draw}
use Rattle.wasm_rules.specs.Words.{numbers, taken}
use Rattle.wasm_reduction.specs.Configurations.{Question, Test, Pick, Assume}
use Rattle.wasm_reduction.specs.Images.{config_image, blank}
use Rattle.wasm_reduction.specs.Runs.{Trace, Going, Halt, Stands, Turned, On, Over, follow, answer_of, by_list, outcome_of, draws_from, runs, Run}

-- What a run does from some place on: it ends; or it asks a question of a number, which answers it, and does the rest.
pub data Script : Type 0 where
  Finished : Outcome → List Draw → Script
  Asked : Question → ℕ → List Draw → Script → Script

-- ---- what a script tells

-- what was drawn before the first thing that it does
abbrev pub drawn : Script → List Draw
drawn (Finished outcome draws) = draws
drawn (Asked q v draws rest) = draws

-- the answers to its questions
abbrev pub answers_in : Script → List ℕ
answers_in (Finished outcome draws) = []
answers_in (Asked q v draws rest) = answer_of q v ∷ answers_in rest

-- its end, with all answers: those before it and its own
abbrev pub told_after : List ℕ → Script → Run
told_after answers (Finished outcome draws) = record { outcome = outcome; draws = draws; answers = answers }
told_after answers (Asked q v draws rest) = told_after (answers ++ answer_of q v ∷ []) rest

-- the run that it tells
abbrev pub told : Script → Run
told s = told_after [] s

-- ---- whose script it is

-- where a run is over with what it was given by then, that is the first thing of the script
abbrev pub IsFirst : List ℕ → Halt ℕ → Trace → Script → Type 0
IsFirst input halt trace (Finished outcome draws) = (outcome_of halt ≡ Some outcome) × (draws_from input 0 trace.symbols ≡ draws)
IsFirst input halt trace (Asked q v draws rest) = (halt ≡ Stands q v) × (draws_from input 0 trace.symbols ≡ draws)

-- The run at an input that has these answers, and no more, comes to the first thing of the script.
pub record ComesTo (m : Module) (entry : ℕ) (args : List PlainValue) (input : List ℕ) (steps : ℕ) (answers : List ℕ) (s : Script) : Type 0 where
  pub turns : ℕ
  pub halt : Halt ℕ
  pub trace : Trace
  pub over : runs numbers (taken input) (by_list answers) m entry args steps turns ≡ Over halt trace
  pub first : IsFirst input halt trace s

-- after these answers the run at an input does what the script says, each number answering its question
abbrev pub IsScriptAfter : Module → ℕ → List PlainValue → List ℕ → ℕ → List ℕ → Script → Type 0
IsScriptAfter m entry args input steps answers (Finished outcome draws) = ComesTo m entry args input steps answers (Finished outcome draws)
IsScriptAfter m entry args input steps answers (Asked q v draws rest) =
    ComesTo m entry args input steps answers (Asked q v draws rest) × IsScriptAfter m entry args input steps (answers ++ answer_of q v ∷ []) rest

-- The script of the bounded run of the function entry with these arguments, at this input and with this step bound.
abbrev pub IsScript : Module → ℕ → List PlainValue → List ℕ → ℕ → Script → Type 0
IsScript m entry args input steps s = IsScriptAfter m entry args input steps [] s

-- ---- a part of the questions

-- its first questions, which all are as said, have these answers; what is left comes after them
abbrev pub Through : (Question → ℕ → Type 0) → List ℕ → Script → Script → Type 0
Through Says [] s left = s ≡ left
Through Says (a ∷ answers) (Finished outcome draws) left = ⊥
Through Says (a ∷ answers) (Asked q v draws rest) left = (answer_of q v ≡ a) × Says q v × Through Says answers rest left

-- its first questions have these answers
abbrev pub After : List ℕ → Script → Script → Type 0
After answers s left = Through (λ q v. Unit {0}) answers s left

-- the number lets the run go on: a failed assumption alone doesn't
abbrev pub Passes : Question → ℕ → Type 0
Passes Assume v = v ≢ 0
Passes Test v = Unit {0}
Passes Pick v = Unit {0}

-- its first questions have these answers, and no assume among them is answered 0
abbrev pub Past : List ℕ → Script → Script → Type 0
Past answers s left = Through Passes answers s left

-- ---- two scripts

abbrev pub widths : List Draw → List Bool
widths draws = map (λ draw. draw.wide) draws

-- a value and an outcome without their numbers
abbrev pub without_number : PlainValue → PlainValue
without_number (I32Value n) = I32Value 0
without_number (I64Value n) = I64Value 0
without_number (FuncValue f) = FuncValue f
without_number ExternValue = ExternValue

abbrev pub without_numbers : Outcome → Outcome
without_numbers (Returned vs) = Returned (map without_number vs)
without_numbers (Trapped cause) = Trapped cause
without_numbers Failed = Failed
without_numbers AssumeFailed = AssumeFailed
without_numbers BoundReached = BoundReached
without_numbers TooDeep = TooDeep

-- Both do the same first, whatever its numbers, after as many draws of the same widths.
abbrev pub Alike : Script → Script → Type 0
Alike (Finished o d) (Finished p e) = (without_numbers o ≡ without_numbers p) × (widths d ≡ widths e)
Alike (Finished o d) (Asked p w e t) = ⊥
Alike (Asked q v d s) (Finished p e) = ⊥
Alike (Asked q v d s) (Asked p w e t) = (q ≡ p) × (widths d ≡ widths e)

-- Both do the same first, with the same numbers, after the same draws.
abbrev pub SameFirst : Script → Script → Type 0
SameFirst (Finished o d) (Finished p e) = (o ≡ p) × (d ≡ e)
SameFirst (Finished o d) (Asked p w e t) = ⊥
SameFirst (Asked q v d s) (Finished p e) = ⊥
SameFirst (Asked q v d s) (Asked p w e t) = (q ≡ p) × (v ≡ w) × (d ≡ e)

-- draws as an input
abbrev pub as_input : List Draw → List ℕ
as_input draws = map (λ draw. draw.value) draws

-- ---- places

-- The run at an input that has these answers, and no more, stands at a question of a number in this configuration.
pub record StandsAt (m : Module) (entry : ℕ) (args : List PlainValue) (input : List ℕ) (steps : ℕ) (answers : List ℕ) (q : Question) (v : ℕ) (at : Going ℕ) : Type 0 where
  pub turns : ℕ
  pub comes : runs numbers (taken input) (by_list answers) m entry args steps turns ≡ On at
  pub stands : follow numbers (taken input) (by_list answers) m steps at ≡ Over (Stands q v) at.trace

-- both are the same but for their words
abbrev pub SamePlace : Going ℕ → Going ℕ → Type 0
SamePlace here there = (config_image blank here.config ≡ config_image blank there.config) × (here.trace ≡ there.trace)
