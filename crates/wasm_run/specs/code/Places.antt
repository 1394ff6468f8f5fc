-- Where the loop of a bounded run stands. No public contract speaks of these.
use Rattle.std.specs.Prelude.{◌+◌, slice_get, Some, None, ◌≡◌, ◌≢◌, ℕ, zero, suc, [], ◌∷◌, ◌^◌, ◌<◌, ◌≤◌, List, All, map, Bool, true, false, ◌&&◌, nat_lt, nat_le, length}
use Rattle.std.specs.List.{AllByRecursion}
use Rattle.wasm_ast.specs.declared.instructions.Instr.{Instr}
use Rattle.wasm_ast.specs.declared.modules.Module.{Module}
use Rattle.wasm_ast.specs.declared.runs.Draw.{Draw}
use Rattle.wasm_ast.specs.declared.runs.Value.{Value}
use Rattle.wasm_ast.specs.declared.types.FuncType.{FuncType}
use Rattle.wasm_rules.specs.Words.{HasNumber, numbers}
use Rattle.wasm_image.specs.declared.hosts.Host.{Host}
use Rattle.wasm_image.specs.Functions.{function_type}
use Rattle.wasm_image.specs.Hosts.{IsHostFunction}
use Rattle.wasm_reduction.specs.Functions.{same_function_type}
use Rattle.wasm_check.specs.Modules.{IsValid}
use Rattle.wasm_reduction.specs.Configurations.{Config, End, Next, Goes, Ends, Stuck}
use Rattle.wasm_reduction.specs.Steps.{step}
use Rattle.wasm_reduction.specs.Runs.{Trace, Going, On, Over, Ended, follows, by_value, runs_at, draws_from, is_due, most_frames}
use Rattle.wasm_reduction.specs.Widths.{HasNumbers, ArgumentFits, HasWidths}
use Rattle.wasm_reduction.specs.Outermost.{Ready}
use Rattle.wasm_machine.specs.declared.next.Next.{Next as CodeNext}
use Rattle.wasm_machine.specs.declared.next.Next.TheVariants.{Goes as CodeGoes, Draws as CodeDraws, Asks as CodeAsks, Ends as CodeEnds}
use Rattle.wasm_machine.specs.declared.values.Reference.{Reference}
use Rattle.wasm_machine.specs.declared.values.Reference.TheVariants.{Func as FuncTo}
use Rattle.wasm_machine.specs.declared.values.Value.{Value as CodeValue}
use Rattle.wasm_machine.specs.Acts.{Sane, IsNext, told}
use Rattle.wasm_machine.specs.Configurations.{code_of, configuration}
use Rattle.wasm_machine.specs.States.{State}
use Rattle.wasm_machine.specs.Stores.{list_at}
use Rattle.wasm_run.specs.Bounded.{CanRun}

-- what is known of a run that is asked for; it is never stuck
pub record IsAsked (m : Module) (entry : ℕ) (args : List Value) (steps : ℕ) : Type 0 where
  pub can : CanRun m entry args steps
  pub valid : IsValid m
  pub has_numbers : HasNumbers m
  pub arguments_fit : All ArgumentFits args
  pub goes : (input : List ℕ) (n : ℕ) (trace : Trace) → runs_at m entry args input steps n ≢ Over (Ended Stuck) trace

-- the configuration that a state and the bytes of the memory are, on plain numbers
abbrev pub config_at : Module → List ℕ → State (CodeValue ℕ) → Config ℕ
config_at m bytes s = configuration (λ n. n) m (map (λ n. n) bytes) s

-- After some turns the run goes on from this configuration, and its symbols have taken these numbers.
pub record Place (m : Module) (entry : ℕ) (args : List Value) (input : List ℕ) (steps : ℕ) (c : Config ℕ) (draws : List Draw) : Type 0 where
  pub at : Going ℕ
  pub turns : ℕ
  pub reached : runs_at m entry args input steps turns ≡ On at
  pub is : at.config ≡ c
  pub drawn : draws ≡ draws_from input 0 at.trace.symbols

-- After some turns without a symbol a run goes on from this configuration.
pub record ComesTo (m : Module) (steps : ℕ) (draw : ℕ → Bool → ℕ) (g : Going ℕ) (c : Config ℕ) : Type 0 where
  pub turns : ℕ
  pub trace : Trace
  pub same : trace.symbols ≡ g.trace.symbols
  pub reached : follows numbers draw by_value m steps turns g ≡ On (record { config = c; trace = trace })

-- the bounds on frames and on steps let the configuration take a step
pub record IsFree (steps : ℕ) (c : Config ℕ) : Type 0 where
  pub frames : nat_lt most_frames (length c.callers) ≡ false
  pub units : is_due c.frame.here.code c.callers && nat_le steps c.units ≡ false

-- What holds of a configuration that may take a step: its words have their widths, its outermost frame only calls, and no bound
-- is passed.
pub record IsFit (steps : ℕ) (c : Config ℕ) : Type 0 where
  pub widths : HasWidths HasNumber c
  pub outermost : Ready c
  pub units : c.units ≤ steps
  pub free : IsFree steps c

-- The instruction that is next in c has had all answers that it asks for, and its next step gives this.
pub record Settled (m : Module) (steps : ℕ) (c : Config ℕ) (next : Next ℕ) : Type 0 where
  pub answers : List ℕ
  pub comes : (draw : ℕ → Bool → ℕ) (g : Going ℕ) → g.config ≡ c → ComesTo m steps draw g (record c { answers = answers })
  pub gives : step numbers m (record c { answers = answers }) ≡ next

-- ---- the machine's state

-- the state is in order, and its words and the cells of the memory are numbers below 2^64
pub record IsInOrder {A : Type 0} (a : A) (s : State (CodeValue ℕ)) (bytes : List ℕ) : Type 0 where
  pub sane : Sane (λ _ w. w < 2 ^ 64) a s
  pub cells : AllByRecursion (λ w. w < 2 ^ 64) bytes

-- the same where the run goes on
abbrev pub IsInOrderAfter : {A : Type 0} → A → State (CodeValue ℕ) → List ℕ → CodeNext ℕ → Type 0
IsInOrderAfter a s cells CodeGoes = IsInOrder a s cells
IsInOrderAfter a s cells (CodeDraws wide) = IsInOrder a s cells
IsInOrderAfter a s cells (CodeAsks q w) = ⊥
IsInOrderAfter a s cells (CodeEnds e) = Unit {0}

-- what the machine says, as the reduction says it
abbrev pub told_at : Module → List ℕ → State (CodeValue ℕ) → CodeNext ℕ → Next ℕ
told_at m cells s x = told (λ n. n) m (map (λ n. n) cells) s x

-- ---- the fast path

-- no answers lead from c to where the standard has no rule
abbrev pub IsNeverStuck : Module → ℕ → Config ℕ → Type 0
IsNeverStuck m steps c = (e : End ℕ) → Settled m steps c (Ends e) → e ≢ Stuck

-- The run stands in the state s, with these cells of the memory, and may take a step: the state is in order, the bounds let it take
-- one, there is room to count it, and no answers lead to where the standard has no rule.
pub record MayStep {A : Type 0} (m : Module) (steps : ℕ) (a : A) (s : State (CodeValue ℕ)) (cells : List ℕ) : Type 0 where
  pub order : IsInOrder a s cells
  pub fit : IsFit steps (config_at m cells s)
  pub few : steps < 2 ^ 63
  pub sound : IsNeverStuck m steps (config_at m cells s)

-- It may take a step, and the instruction i of a function is next, whose questions have had no answers.
pub record IsAtInstruction {A : Type 0} (m : Module) (steps : ℕ) (a : A) (s : State (CodeValue ℕ)) (cells : List ℕ) (i : Instr) : Type 0 where
  pub run : MayStep m steps a s cells
  pub first : s.answers ≡ []
  pub place : s.frame.here.place + 1 < 2 ^ 64
  pub next : IsNext m s i

-- It may take a step, and a sequence of a function has no instruction left.
pub record IsAtEnd {A : Type 0} (m : Module) (steps : ℕ) (a : A) (s : State (CodeValue ℕ)) (cells : List ℕ) : Type 0 where
  pub run : MayStep m steps a s cells
  pub f : ℕ
  pub inside : s.frame.func ≡ Some f
  pub over : slice_get (code_of m s.entry s.frame.func s.frame.here.seq) s.frame.here.place ≡ None

-- The instruction that was next in c has been carried out, and the run goes on from the state s and these cells.
pub record CarriedOut {A : Type 0} (m : Module) (steps : ℕ) (c : Config ℕ) (a : A) (s : State (CodeValue ℕ)) (cells : List ℕ) : Type 0 where
  pub settled : Settled m steps c (Goes (config_at m cells s))
  pub order : IsInOrder a s cells

-- whether it has been carried out; else the state t and the cells d are the s and b that there were
abbrev pub IsFastStep : {A : Type 0} → Bool → Module → ℕ → State (CodeValue ℕ) → List ℕ → A → State (CodeValue ℕ) → List ℕ → Type 0
IsFastStep true m steps s b a t d = CarriedOut m steps (config_at m b s) a t d
IsFastStep false m steps s b a t d = (t ≡ s) × (d ≡ b)

-- The answers to the questions of `br_table` with n labels, whose index is w: that it is another than the place of each, up to
-- its own.
abbrev pub index_answers : ℕ → ℕ → List ℕ
index_answers zero w = []
index_answers (suc n) zero = 0 ∷ []
index_answers (suc n) (suc w) = 1 ∷ index_answers n w

-- the function f is the module's own and of this type
pub record IsOwnFunction (m : Module) (type : FuncType) (f : ℕ) : Type 0 where
  pub has : FuncType
  pub no_host : (h : Host) → IsHostFunction m f h → ⊥
  pub has_type : function_type m f ≡ Some has
  pub same : same_function_type has type ≡ true

-- a reference to such a function
pub record IsOwnReference (m : Module) (type : FuncType) (r : Reference) : Type 0 where
  pub f : ℕ
  pub is : r ≡ FuncTo (Some f)
  pub own_one : IsOwnFunction m type f

-- the entry of a table at the index w is such a reference, of the type ty
pub record IsOwnEntry (m : Module) (s : State (CodeValue ℕ)) (ty table w : ℕ) : Type 0 where
  pub type : FuncType
  pub r : Reference
  pub typed : slice_get m.types ty ≡ Some type
  pub there : slice_get (list_at s.tables table) w ≡ Some r
  pub own_one : IsOwnReference m type r
