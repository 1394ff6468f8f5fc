-- What the machine's state stands for while the module is instantiated. Of the code alone.
use Rattle.std.specs.Prelude.{◌≡◌, ℕ, ◌<◌, List, [], Bool, false, map, length, MatchOption, Option, Some, None, Result, Ok, Err}
use Rattle.std.specs.List.{AllByRecursion}
use Rattle.wasm_ast.specs.declared.modules.Module.{Module}
use Rattle.wasm_reduction.specs.Configurations.{Store}
use Rattle.wasm_ast.specs.declared.runs.Value.{Value as Argument}
use Rattle.wasm_reduction.specs.Instantiation.{Instantiated, instantiated, argument}
use Rattle.wasm_machine.specs.declared.machine.Frame.{Frame as CodeFrame}
use Rattle.wasm_machine.specs.declared.values.Reference.{Reference as CodeReference}
use Rattle.wasm_start.specs.declared.allocation.Stop.{Stop}
use Rattle.wasm_machine.specs.Configurations.{datas_of}
use Rattle.wasm_machine.specs.States.{State}
use Rattle.wasm_machine.specs.Values.{reference}
use Rattle.wasm_start.specs.Starts.{stop_of}

-- what is told is what the definition gives, where there is something
abbrev pub Represents : {A B : Type 0} → (A → B) → Option B → Option A → Type 0
Represents f given told = MatchOption told (given ≡ None) (λ x. given ≡ Some (f x))

-- a module's store but for its memory, on plain values
pub record PlainStore : Type 0 where
  pub globals : List Argument
  pub tables : List (List CodeReference)
  pub elems : List (List CodeReference)
  pub dropped : List Bool

-- there is an element segment for each of the module, and a mark for each data segment
pub record HasSegments (m : Module) (p : PlainStore) : Type 0 where
  pub elems : length p.elems ≡ length m.elems
  pub dropped : length p.dropped ≡ length m.segments

-- the store that the parts stand for, with these bytes of memory
abbrev pub store_with : Module → List ℕ → PlainStore → Store ℕ
store_with m bytes p = record {
  globals = map argument p.globals;
  tables = map (λ t. map reference t) p.tables;
  memory = bytes;
  elems = map (λ t. map reference t) p.elems;
  datas = datas_of p.dropped m.segments;
}

-- A segment, from the store s on, is written and leaves the store t, or stops the instantiation.
abbrev pub Writes : {X : Type 0} → Instantiated → Store ℕ → Result X Stop → Type 0
Writes given t (Ok x) = given ≡ Ok t
Writes given t (Err stop) = given ≡ Err (stop_of stop)

-- the numbers are bytes
abbrev pub AreByteValues : List ℕ → Type 0
AreByteValues bytes = AllByRecursion (λ b. b < 256) bytes

-- Cells that are bytes become cells that are bytes, which stand in this relation to those.
abbrev pub FromBytes : {V : Type 0} → (ℕ → V) → List V → List V → (List ℕ → List ℕ → Type 0) → Type 0
FromBytes plain_word old new Q =
    (b : List ℕ) → old ≡ map plain_word b → AreByteValues b → (c : List ℕ) × (new ≡ map plain_word c) × AreByteValues c × Q b c

-- the module's store before the start function runs, with these bytes of memory, or why it isn't instantiated
abbrev pub Instantiates : Module → List ℕ → Result PlainStore Stop → Type 0
Instantiates m bytes (Ok p) = instantiated m ≡ Ok (store_with m bytes p)
Instantiates m bytes (Err stop) = instantiated m ≡ Err (stop_of stop)

-- the frame for whoever runs the module
abbrev pub outermost_frame : CodeFrame
outermost_frame = record {
  func = None;
  arity = 0;
  base = 0;
  labels = 0;
  floor = 0;
  here = record { seq = 0; place = 0; height = 0; arity = 0; again = false };
}

-- The state before the first step, with these values of words as operands and globals.
abbrev pub first_state : {X : Type 0} → PlainStore → ℕ → List X → List X → State X
first_state p entry operands globals = record {
  operands = operands;
  locals = [];
  labels = [];
  frame = outermost_frame;
  callers = [];
  globals = globals;
  tables = p.tables;
  elems = p.elems;
  dropped = p.dropped;
  answers = [];
  units = 0;
  entry = entry;
}
