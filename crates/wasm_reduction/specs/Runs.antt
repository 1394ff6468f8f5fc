-- Runs: one step after another, within bounds, where symbols and answers come from outside. The bounded run is the run over
-- numbers at an input.
use Rattle.std.specs.Prelude.{◌≡◌, ◌≢◌, ℕ, zero, suc, ◌+◌, Bool, true, false, nat_lt, nat_le, ◌&&◌, if◌then◌else◌, List, [], ◌∷◌, ◌++◌, length, map, slice_get, Option, Some, None, option_map, Result, Ok, Err}
use Rattle.wasm_ast.specs.declared.instructions.Instr.{Instr}
use Rattle.wasm_ast.specs.declared.modules.Module.{Module}
use Rattle.wasm_ast.specs.declared.runs.Value.{Value as PlainValue}
use Rattle.wasm_ast.specs.declared.runs.Value.TheVariants.{I32 as I32Value, I64 as I64Value, Func as FuncValue, Extern as ExternValue}
use Rattle.wasm_ast.specs.declared.runs.Outcome.{Outcome}
use Rattle.wasm_ast.specs.declared.runs.Outcome.TheVariants.{Returns as Returned, Traps as Trapped, Fails as Failed, Assumes as AssumeFailed, Bound as BoundReached, Deep as TooDeep}
use Rattle.wasm_ast.specs.declared.runs.Draw.{Draw}
use Rattle.wasm_ast.specs.declared.runs.Ran.{Ran}
use Rattle.wasm_rules.specs.Words.{Kind, numbers, taken}
use Rattle.wasm_reduction.specs.Configurations.{FuncRef, ExternRef, Value, I32, I64, Ref, Frame, Config, Question, Test, Pick, Assume, End, Returns, Traps, Fails, Assumes, Stuck, Next, Goes, Draws, Asks, Ends}
use Rattle.wasm_reduction.specs.Steps.{step, answered, with_symbol}
use Rattle.wasm_reduction.specs.Instantiation.{first_config}

-- What a run has been given: a symbol for each of these, an i64 where true, else an i32; and the answers to its questions.
pub record Trace : Type 0 where
  pub symbols : List Bool
  pub answers : List ℕ

-- where a run is
pub record Going (W : Type 0) : Type 0 where
  pub config : Config W
  pub trace : Trace

-- Why a run doesn't go on: it stands at a question that has no answer; it has ended; it would pass the bound on steps; it has
-- passed the bound on frames.
pub data Halt (W : Type 0) : Type 0 where
  Stands : Question → W → Halt W
  Ended : End W → Halt W
  Bound : Halt W
  Deep : Halt W

pub data Turned (W : Type 0) : Type 0 where
  On : Going W → Turned W
  Over : Halt W → Trace → Turned W

-- who answers: by the question, its word and the answers so far
abbrev pub Reply : Type 0 → Type 0
Reply W = Question → W → List ℕ → Option ℕ

-- ---- one turn

abbrev pub replied : {W : Type 0} → Going W → Question → W → Option ℕ → Turned W
replied g q w None = Over (Stands q w) g.trace
replied g q w (Some n) =
    On (record { config = answered g.config n; trace = record (g.trace) { answers = g.trace.answers ++ n ∷ [] } })

-- what comes of a step, where draw gives the word of the k-th symbol
abbrev pub follow_by : {W : Type 0} → (ℕ → Bool → W) → Reply W → Going W → Next W → Turned W
follow_by draw reply g (Goes c) = On (record g { config = c })
follow_by draw reply g (Draws wide c) =
    On (record { config = with_symbol c wide (draw (length g.trace.symbols) wide); trace = record (g.trace) { symbols = g.trace.symbols ++ wide ∷ [] } })
follow_by draw reply g (Asks q w) = replied g q w (reply q w g.trace.answers)
follow_by draw reply g (Ends e) = Over (Ended e) g.trace

-- whether an instruction of the code is next, which costs a unit
abbrev pub is_due : {W : Type 0} → List Instr → List (Frame W) → Bool
is_due (i ∷ is) (f ∷ fs) = true
is_due _ _ = false

-- the most frames; the outermost one is not counted
abbrev pub most_frames : ℕ
most_frames = 1024

-- One turn. Beyond the bound on frames it is over; where the units have reached the steps, and an instruction is next, too.
abbrev pub follow : {W : Type 0} → Kind W → (ℕ → Bool → W) → Reply W → Module → ℕ → Going W → Turned W
follow K draw reply m steps g =
    if nat_lt most_frames (length g.config.callers) then Over Deep g.trace
    else if is_due g.config.frame.here.code g.config.callers && nat_le steps g.config.units then Over Bound g.trace
    else follow_by draw reply g (step K m g.config)

-- ---- many turns

abbrev pub then_follow : {W : Type 0} → Turned W → (Going W → Turned W) → Turned W
then_follow (On g) go = go g
then_follow (Over halt trace) go = Over halt trace

-- so many turns, or fewer where it is over
abbrev pub follows : {W : Type 0} → Kind W → (ℕ → Bool → W) → Reply W → Module → ℕ → ℕ → Going W → Turned W
follows K draw reply m steps zero g = On g
follows K draw reply m steps (suc n) g = then_follow (follow K draw reply m steps g) (follows K draw reply m steps n)

abbrev pub no_trace : Trace
no_trace = record { symbols = []; answers = [] }

abbrev pub started_by : {W : Type 0} → Result (Config W) (End W) → Turned W
started_by (Ok c) = On (record { config = c; trace = no_trace })
started_by (Err e) = Over (Ended e) no_trace

-- a run of the function entry before its first turn
abbrev pub started : {W : Type 0} → Kind W → Module → ℕ → List PlainValue → Turned W
started K m entry args = started_by (first_config K m entry args)

-- and after so many turns
abbrev pub runs : {W : Type 0} → Kind W → (ℕ → Bool → W) → Reply W → Module → ℕ → List PlainValue → ℕ → ℕ → Turned W
runs K draw reply m entry args steps n = then_follow (started K m entry args) (follows K draw reply m steps n)

-- ---- who answers

abbrev pub is_not_zero : ℕ → ℕ
is_not_zero zero = 0
is_not_zero (suc n) = 1

-- how a number answers a question: 1 where it isn't 0, and a pick by itself
abbrev pub answer_of : Question → ℕ → ℕ
answer_of Test n = is_not_zero n
answer_of Assume n = is_not_zero n
answer_of Pick n = n

-- each number answers its question
abbrev pub by_value : Reply ℕ
by_value q n given = Some (answer_of q n)

-- the answers are those of a list, in order
abbrev pub by_list : {W : Type 0} → List ℕ → Reply W
by_list answers q w given = slice_get answers (length given)

-- ---- the bounded run

-- What a run gives: how it ended, the numbers that it took for its symbols, and the answers to its questions.
pub record Run : Type 0 where
  pub outcome : Outcome
  pub draws : List Draw
  pub answers : List ℕ

abbrev pub plain_value : Value ℕ → PlainValue
plain_value (I32 n) = I32Value n
plain_value (I64 n) = I64Value n
plain_value (Ref (FuncRef f)) = FuncValue f
plain_value (Ref ExternRef) = ExternValue

abbrev pub outcome_of_end : End ℕ → Option Outcome
outcome_of_end (Returns vs) = Some (Returned (map plain_value vs))
outcome_of_end (Traps cause) = Some (Trapped cause)
outcome_of_end Fails = Some Failed
outcome_of_end Assumes = Some AssumeFailed
outcome_of_end Stuck = None

abbrev pub outcome_of : Halt ℕ → Option Outcome
outcome_of (Stands q w) = None
outcome_of (Ended e) = outcome_of_end e
outcome_of Bound = Some BoundReached
outcome_of Deep = Some TooDeep

-- the numbers that symbols take from the input, the first of them as the k-th symbol
abbrev pub draws_from : List ℕ → ℕ → List Bool → List Draw
draws_from input k [] = []
draws_from input k (wide ∷ rest) = record { wide = wide; value = taken input k wide } ∷ draws_from input (k + 1) rest

abbrev pub run_of : List ℕ → Turned ℕ → Option Run
run_of input (On g) = None
run_of input (Over halt trace) =
    option_map (λ outcome. record { outcome = outcome; draws = draws_from input 0 trace.symbols; answers = trace.answers }) (outcome_of halt)

-- the run over numbers at an input, each number answering its question
abbrev pub runs_at : Module → ℕ → List PlainValue → List ℕ → ℕ → ℕ → Turned ℕ
runs_at m entry args input steps n = runs numbers (taken input) by_value m entry args steps n

-- The bounded run of the function entry with these arguments, at this input and with this step bound, gives this.
abbrev pub IsRun : Module → ℕ → List PlainValue → List ℕ → ℕ → Run → Type 0
IsRun m entry args input steps run = (n : ℕ) × (run_of input (runs_at m entry args input steps n) ≡ Some run)

abbrev pub ran_of : Run → Ran
ran_of run = record { outcome = run.outcome; draws = run.draws }

-- No assume of the bounded run at this input fails.
abbrev pub MeetsAssumptions : Module → ℕ → List PlainValue → List ℕ → ℕ → Type 0
MeetsAssumptions m entry args input steps = (run : Run) → IsRun m entry args input steps run → run.outcome ≢ AssumeFailed
