-- What the parts of control instructions promise.
use Rattle.std.specs.Prelude.{◌≡◌, ℕ, Bool, true, false, List, length, Some}
use Rattle.wasm_ast.specs.declared.types.BlockType.{BlockType}
use Rattle.wasm_ast.specs.declared.types.FuncType.{FuncType}
use Rattle.wasm_ast.specs.declared.instructions.Instr.TheVariants.{Loop}
use Rattle.wasm_ast.specs.declared.modules.Module.{Module}
use Rattle.wasm_reduction.specs.Configurations.{Value, Config, Next}
use Rattle.wasm_reduction.specs.Control.{block, loop}
use Rattle.wasm_machine.specs.declared.values.Value.{Value as CodeValue}
use Rattle.wasm_machine.specs.declared.next.Next.{Next as CodeNext}
use Rattle.wasm_machine.specs.declared.next.Next.TheVariants.{Goes as CodeGoes, Draws as CodeDraws, Asks as CodeAsks, Ends as CodeEnds}
use Rattle.wasm_machine.specs.declared.control.Arities.{Arities}
use Rattle.wasm_machine.specs.States.{State}
use Rattle.wasm_machine.specs.Values.{EndHeld}
use Rattle.wasm_machine.specs.Acts.{Sane, IsNext, told, After}

-- It asks nothing: the state afterwards is in order, or the words that it ends with are held.
abbrev pub Going : {A V : Type 0} → (A → V → Type 0) → A → State (CodeValue V) → CodeNext V → Type 0
Going H a t CodeGoes = Sane H a t
Going H a t (CodeDraws wide) = Sane H a t
Going H a t (CodeAsks q w) = ⊥
Going H a t (CodeEnds e) = EndHeld (H a) e

-- It says what the reduction says, which is e where the memory has these bytes, and asks nothing.
pub record SimulatesWithoutAsking {A V M : Type 0} (H : A → V → Type 0) (means : A → V → M) (m : Module) (a : A) (t : State (CodeValue V)) (x : CodeNext V) (e : List M → Next M) : Type 0 where
  pub gives : (b : List M) → e b ≡ told (means a) m b t x
  pub going : Going H a t x

-- It says what the reduction says, which is e where the memory has these bytes; the state was s.
pub record Simulates {A V M : Type 0} (H : A → V → Type 0) (means : A → V → M) (m : Module) (a : A) (s t : State (CodeValue V)) (x : CodeNext V) (e : List M → Next M) : Type 0 where
  pub gives : (b : List M) → e b ≡ told (means a) m b t x
  pub after : After H a s t x

-- ---- blocks

-- how many values a block takes and gives
abbrev pub arities_of : FuncType → Arities
arities_of t = record { params = length t.params; results = length t.results }

-- a block, or a loop
abbrev pub opening : {W : Type 0} → Bool → Module → Config W → List (Value W) → BlockType → ℕ → Next W
opening false m c vs ty body = block m c vs ty body
opening true m c vs ty body = loop m c vs ty body

-- the frame is a function's, and where it is a loop, the loop is the instruction that is next
abbrev pub IsOpening : {X : Type 0} → Module → State X → Bool → BlockType → ℕ → Type 0
IsOpening m s false ty body = (f : ℕ) × (s.frame.func ≡ Some f)
IsOpening m s true ty body = IsNext m s (Loop ty body)

-- how many values a branch to the label of a block carries, or of a loop
abbrev pub carried_by : Arities → Bool → ℕ
carried_by n false = n.results
carried_by n true = n.params
