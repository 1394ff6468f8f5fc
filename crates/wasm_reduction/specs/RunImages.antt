-- What a map of words makes of a run, and what a run has been answered so far.
use Rattle.std.specs.Prelude.{◌≡◌, ℕ, Bool, List, [], ◌∷◌, ◌++◌}
use Rattle.wasm_ast.specs.declared.modules.Module.{Module}
use Rattle.wasm_ast.specs.declared.runs.Value.{Value}
use Rattle.wasm_rules.specs.Words.{bits_where, numbers}
use Rattle.wasm_reduction.specs.Configurations.{Question, Asks}
use Rattle.wasm_reduction.specs.Steps.{step}
use Rattle.wasm_reduction.specs.Images.{config_image, end_image}
use Rattle.wasm_reduction.specs.Runs.{Trace, Going, Halt, Stands, Ended, Bound, Deep, Turned, On, Over, answer_of, Run, runs_at}

abbrev pub going_image : {V W : Type 0} → (V → W) → Going V → Going W
going_image h g = record { config = config_image h g.config; trace = g.trace }

abbrev pub halt_image : {V W : Type 0} → (V → W) → Halt V → Halt W
halt_image h (Stands q w) = Stands q (h w)
halt_image h (Ended e) = Ended (end_image h e)
halt_image h Bound = Bound
halt_image h Deep = Deep

abbrev pub turned_image : {V W : Type 0} → (V → W) → Turned V → Turned W
turned_image h (On g) = On (going_image h g)
turned_image h (Over halt trace) = Over (halt_image h halt) trace

-- what a run has been given so far
abbrev pub trace_of : {W : Type 0} → Turned W → Trace
trace_of (On g) = g.trace
trace_of (Over halt trace) = trace

-- a run that doesn't stand at a question that has no answer
abbrev pub IsAnswered : {W : Type 0} → Turned W → Type 0
IsAnswered (Over (Stands q w) trace) = ⊥
IsAnswered _ = Unit {0}

-- a list begins with another
abbrev pub BeginsWith : List ℕ → List ℕ → Type 0
BeginsWith ys xs = (zs : List ℕ) × (ys ≡ xs ++ zs)

-- The bounded run comes to a question of a word after these answers, and the answer of the word's number is its next.
pub record AsksNext (m : Module) (entry : ℕ) (args : List Value) (input : List ℕ) (steps : ℕ) (answers : List ℕ) (run : Run) (q : Question) (w : ℕ) : Type 0 where
  pub turns : ℕ
  pub at : Going ℕ
  pub comes : runs_at m entry args input steps turns ≡ On at
  pub answered : at.trace.answers ≡ answers
  pub asks : step numbers m at.config ≡ Asks q w
  pub next : BeginsWith run.answers (answers ++ answer_of q w ∷ [])

-- The words of symbols have their widths, and the map makes these words of them.
pub record KeepsSymbols {V W : Type 0} (Has : ℕ → V → Type 0) (h : V → W) (draw : ℕ → Bool → V) (drawn : ℕ → Bool → W) : Type 0 where
  pub has : (k : ℕ) (wide : Bool) → Has (bits_where wide) (draw k wide)
  pub value : (k : ℕ) (wide : Bool) → drawn k wide ≡ h (draw k wide)
