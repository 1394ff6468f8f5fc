-- Which fault of a module is the first.
--
-- It is of the first entry that isn't valid, in the order of the sections' ids. Of a body it is the first instruction
-- such that no valid body of the function begins with the instructions up to and including it. The instructions of a body
-- are counted from 0 as they are written in the binary format, `else` and `end` included.
use Rattle.std.specs.Prelude.{◌≡◌, ◌≢◌, ℕ, ◌+◌, ◌<◌, List, ◌++◌, length, take, Some, slice_get}
use Rattle.wasm_ast.specs.declared.types.FuncType.{FuncType}
use Rattle.wasm_ast.specs.declared.modules.Func.{Func}
use Rattle.wasm_ast.specs.declared.modules.Module.{Module}
use Rattle.wasm_check.specs.declared.why.Why.{Why}
use Rattle.wasm_check.specs.declared.why.Why.TheVariants.{Field, Code as InCode, NoMemory}
use Rattle.wasm_check.specs.Contexts.{Context, imported_funcs, context_of}
use Rattle.wasm_check.specs.Instructions.{IsValidBody}
use Rattle.wasm_check.specs.declared.sections.Section.{Section}
use Rattle.wasm_check.specs.declared.sections.Section.TheVariants.{Imports, Functions, Tables, Memories, Globals, Exports, Start, Elements, Code, Data}
use Rattle.wasm_check.specs.Modules.{EntryIsValid, SectionIsValid}
use Rattle.wasm_check.specs.Trees.{Tree, Token, body_tokens, IsTreeOf}

-- some valid body of the function begins with these instructions
abbrev pub CanBegin : Context → List Token → Type 0
CanBegin C ts = (c : Tree) × (rest : List Token) × IsValidBody C c × (body_tokens c ≡ ts ++ rest)

-- the place of the first instruction such that no valid body begins with the instructions up to and including it
pub record IsFirstFault (C : Context) (body : List Token) (place : ℕ) : Type 0 where
  pub within : place < length body
  pub before : CanBegin C (take place body)
  pub here : CanBegin C (take (place + 1) body) → ⊥

-- the place is that of the first fault of the function's body
pub record BodyFailsAt (m : Module) (f : Func) (place : ℕ) : Type 0 where
  pub type : FuncType
  pub has_type : slice_get m.types f.ty ≡ Some type
  pub tree : Tree
  pub is_tree : IsTreeOf f.body tree
  pub first : IsFirstFault (context_of m f type) (body_tokens tree) place

-- the ids of the sections (Binary Format, Modules: Sections)
abbrev pub section_id : Section → ℕ
section_id Imports = 2
section_id Functions = 3
section_id Tables = 4
section_id Memories = 5
section_id Globals = 6
section_id Exports = 7
section_id Start = 8
section_id Elements = 9
section_id Code = 10
section_id Data = 11

-- of the section, the entry isn't valid, and all before it are
pub record IsFirstOf (m : Module) (s : Section) (k : ℕ) : Type 0 where
  pub invalid : EntryIsValid m s k → ⊥
  pub before : (j : ℕ) → j < k → EntryIsValid m s j

-- the sections of lower ids are valid
abbrev pub ValidBelow : Module → ℕ → Type 0
ValidBelow m id = (r : Section) → section_id r < id → SectionIsValid m r

-- of the module: the sections before it are valid too
pub record IsFirstInvalid (m : Module) (s : Section) (k : ℕ) : Type 0 where
  pub first : IsFirstOf m s k
  pub sections_before : ValidBelow m (section_id s)

-- It tells the first fault of the module: a section by its id and an entry of it, or a function, imports counted, and a
-- place in its body.
abbrev pub FirstFault : Module → Why → Type 0
FirstFault m (Field id k) = (s : Section) × (id ≡ section_id s) × (id ≢ section_id Code) × IsFirstInvalid m s k
FirstFault m (InCode function place) =
    (k : ℕ) × (f : Func) × (function ≡ length (imported_funcs m) + k) × (slice_get m.funcs k ≡ Some f)
    × IsFirstInvalid m Code k × BodyFailsAt m f place
FirstFault m NoMemory = ⊥
