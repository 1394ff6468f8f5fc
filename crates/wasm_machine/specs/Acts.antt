-- What an instruction's function in the machine promises: what it says is what the reduction says.
use Rattle.std.specs.Prelude.{◌≡◌, ◌∷◌, ◌<◌, ◌^◌, ◌+◌, ℕ, List, map, drop, Some}
use Rattle.std.specs.List.{AllByRecursion}
use Rattle.wasm_ast.specs.declared.instructions.Instr.{Instr}
use Rattle.wasm_ast.specs.declared.modules.Module.{Module}
use Rattle.wasm_rules.specs.Words.{Kind}
use Rattle.wasm_reduction.specs.Configurations.{Next, Goes, Draws, Asks, Ends}
use Rattle.wasm_reduction.specs.Maps.{ValuesHave}
use Rattle.wasm_reduction.specs.Steps.{act}
use Rattle.wasm_machine.specs.declared.values.Value.{Value as CodeValue}
use Rattle.wasm_machine.specs.declared.next.Next.{Next as CodeNext}
use Rattle.wasm_machine.specs.declared.next.Next.TheVariants.{Goes as CodeGoes, Draws as CodeDraws, Asks as CodeAsks, Ends as CodeEnds}
use Rattle.wasm_machine.specs.States.{State, passed, own}
use Rattle.wasm_machine.specs.Values.{question, end_of, value, ValuesHeld, EndHeld}
use Rattle.wasm_machine.specs.Configurations.{code_of, image, configuration, IsWellFormed}

-- the state is in order, and each of its words is held
pub record Sane {A V : Type 0} (H : A → V → Type 0) (a : A) (s : State (CodeValue V)) : Type 0 where
  pub well_formed : IsWellFormed s
  pub operands : ValuesHeld (H a) s.operands
  pub locals : ValuesHeld (H a) s.locals
  pub globals : ValuesHeld (H a) s.globals

-- the operands of the innermost label have the widths of their types
abbrev pub Wide : {V M : Type 0} → (ℕ → M → Type 0) → (V → M) → State (CodeValue V) → Type 0
Wide Has h s = ValuesHave Has (map (value h) (own s))

-- The state is ready for its next instruction: it is in order, its words are held, the operands of the innermost label have
-- their widths, and there is room to count the instruction.
pub record Ready {A V M : Type 0} (H : A → V → Type 0) (Has : ℕ → M → Type 0) (means : A → V → M) (a : A) (s : State (CodeValue V)) : Type 0 where
  pub sane : Sane H a s
  pub wide : Wide Has (means a) s
  pub place : s.frame.here.place + 1 < 2 ^ 64
  pub units : s.units + 1 < 2 ^ 64

-- the instruction i is next, and is of a function
pub record IsNext {X : Type 0} (m : Module) (s : State X) (i : Instr) : Type 0 where
  pub f : ℕ
  pub there : s.frame.func ≡ Some f
  pub rest : List Instr
  pub is : drop s.frame.here.place (code_of m s.entry s.frame.func s.frame.here.seq) ≡ i ∷ rest

-- What the machine says, as the reduction says it: where it goes on, it goes on from the state t and the bytes d.
abbrev pub told : {V W : Type 0} → (V → W) → Module → List W → State (CodeValue V) → CodeNext V → Next W
told h m d t CodeGoes = Goes (configuration h m d t)
told h m d t (CodeDraws wide) = Draws wide (configuration h m d t)
told h m d t (CodeAsks q w) = Asks (question q) (h w)
told h m d t (CodeEnds e) = Ends (end_of h e)

-- The state afterwards is in order. At a question nothing of it has changed. The words that are told are held.
abbrev pub After : {A V : Type 0} → (A → V → Type 0) → A → State (CodeValue V) → State (CodeValue V) → CodeNext V → Type 0
After H a s t CodeGoes = Sane H a t
After H a s t (CodeDraws wide) = Sane H a t
After H a s t (CodeAsks q w) = Sane H a t × (t ≡ s) × H a w
After H a s t (CodeEnds e) = EndHeld (H a) e

-- The instruction i, where it is next in the state s, does what the reduction says, whatever the bytes of the memory are.
pub record Acts {A V M : Type 0} (H : A → V → Type 0) (means : A → V → M) (K : Kind M) (m : Module) (i : Instr) (a : A) (s : State (CodeValue V)) (a' : A) (t : State (CodeValue V)) (x : CodeNext V) : Type 0 where
  pub gives : (b : List M) → act K m (configuration (means a) m b (passed s)) (own (image (means a) s)) s.answers i ≡ told (means a') m b t x
  pub after : After H a' s t x

-- The bytes of the memory afterwards are held; at a question they are what they were.
abbrev pub BytesAfter : {A V : Type 0} → (A → V → Type 0) → A → List V → List V → CodeNext V → Type 0
BytesAfter H a b d CodeGoes = AllByRecursion (H a) d
BytesAfter H a b d (CodeDraws wide) = AllByRecursion (H a) d
BytesAfter H a b d (CodeAsks q w) = AllByRecursion (H a) d × (d ≡ b)
BytesAfter H a b d (CodeEnds e) = Unit {0}

-- The same of an instruction that reads or writes the memory, whose cells were b and are d.
pub record ActsOn {A V M : Type 0} (H : A → V → Type 0) (means : A → V → M) (K : Kind M) (m : Module) (i : Instr) (a : A) (s : State (CodeValue V)) (b : List V) (a' : A) (t : State (CodeValue V)) (d : List V) (x : CodeNext V) : Type 0 where
  pub gives : act K m (configuration (means a) m (map (means a) b) (passed s)) (own (image (means a) s)) s.answers i ≡ told (means a') m (map (means a') d) t x
  pub after : After H a' s t x
  pub bytes : BytesAfter H a' b d x
