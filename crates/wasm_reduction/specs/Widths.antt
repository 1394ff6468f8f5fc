-- The widths of all the words of a configuration, and the bounds of its sizes. They hold from the start of a run on, and each
-- step keeps them, whatever the types of the module's instructions.
use Rattle.std.specs.Prelude.{◌≡◌, ℕ, ◌*◌, ◌^◌, ◌<◌, ◌≤◌, List, All, length}
use Rattle.std.specs.List.{AllByRecursion}
use Rattle.wasm_ast.specs.Ranges.{IsInRange, ValueInRange}
use Rattle.wasm_ast.specs.Shape.{HasShape}
use Rattle.wasm_ast.specs.declared.modules.Module.{Module}
use Rattle.wasm_ast.specs.declared.runs.Value.{Value as Argument}
use Rattle.wasm_image.specs.Sizes.{most_pages, most_elements}
use Rattle.wasm_reduction.specs.Configurations.{Store, Label, Frame, Config, End, Returns, Next, Goes, Draws, Asks, Ends}
use Rattle.wasm_reduction.specs.Memories.{page_bytes}
use Rattle.wasm_reduction.specs.Maps.{ValuesHave, InRange}

-- ---- modules

-- A module of the shape that modules have, and what the types of its parts say: of a module as plain data it has to be said.
pub record HasNumbers (m : Module) : Type 0 where
  pub shape : HasShape m
  pub range : IsInRange m

-- an argument, and what its type says
abbrev pub ArgumentFits : Argument → Type 0
ArgumentFits a = ValueInRange a

-- ---- configurations

-- a memory of so many bytes is one of whole pages, at most 1,024
pub record IsMemorySize (bytes : ℕ) : Type 0 where
  pub pages : ℕ
  pub whole : bytes ≡ pages * page_bytes
  pub few : pages ≤ most_pages

-- the contents of a data segment
pub record AreBytes (bytes : List ℕ) : Type 0 where
  pub each : All (λ b. b < 2 ^ 8) bytes
  pub short : length bytes < 2 ^ 32

pub record StoreHasWidths {M : Type 0} (Has : ℕ → M → Type 0) (s : Store M) : Type 0 where
  pub globals : ValuesHave Has s.globals
  pub tables : AllByRecursion (λ t. length t ≤ most_elements) s.tables
  pub memory : All (Has 8) s.memory
  pub memory_size : IsMemorySize (length s.memory)
  pub elems : AllByRecursion (λ t. length t < 2 ^ 32) s.elems
  pub datas : AllByRecursion AreBytes s.datas

pub record LabelHasWidths {M : Type 0} (Has : ℕ → M → Type 0) (l : Label M) : Type 0 where
  pub again : AllByRecursion InRange l.again
  pub vals : ValuesHave Has l.vals
  pub code : AllByRecursion InRange l.code

pub record FrameHasWidths {M : Type 0} (Has : ℕ → M → Type 0) (f : Frame M) : Type 0 where
  pub locals : ValuesHave Has f.locals
  pub seqs : AllByRecursion (λ code. AllByRecursion InRange code) f.seqs
  pub here : LabelHasWidths Has f.here
  pub outer : AllByRecursion (λ l. LabelHasWidths Has l) f.outer

-- Each word has its width: those of all operands of all labels, of the locals of all frames, of the globals and of the memory.
-- The memory has at most 1,024 pages, each table at most 65,536 elements, and the instructions say numbers in range.
pub record HasWidths {M : Type 0} (Has : ℕ → M → Type 0) (c : Config M) : Type 0 where
  pub store : StoreHasWidths Has c.store
  pub frame : FrameHasWidths Has c.frame
  pub callers : AllByRecursion (λ f. FrameHasWidths Has f) c.callers

-- what comes of a step of such a configuration
abbrev pub EndHasWidths : {M : Type 0} → (ℕ → M → Type 0) → End M → Type 0
EndHasWidths Has (Returns vs) = ValuesHave Has vs
EndHasWidths Has _ = Unit {0}

abbrev pub NextHasWidths : {M : Type 0} → (ℕ → M → Type 0) → Next M → Type 0
NextHasWidths Has (Goes c) = HasWidths Has c
NextHasWidths Has (Draws wide c) = HasWidths Has c
NextHasWidths Has (Asks q w) = Has 32 w
NextHasWidths Has (Ends e) = EndHasWidths Has e
