-- When a module is valid (Validation, Modules; Types).
--
-- A module is valid where each entry of each of its sections is: `EntryIsValid`. An entry is judged in view of the whole
-- module.
use Rattle.std.specs.Prelude.{◌≡◌, ◌≢◌, ℕ, ◌+◌, ◌-◌, ◌^◌, ◌<◌, ◌≤◌, List, [], length, take, All, Some, IfSome, IsNone, slice_get}
use Rattle.wasm_ast.specs.declared.types.ValType.{ValType}
use Rattle.wasm_ast.specs.declared.types.ValType.TheVariants.{I32}
use Rattle.wasm_ast.specs.declared.types.FuncType.{FuncType}
use Rattle.wasm_ast.specs.declared.types.Limits.{Limits}
use Rattle.wasm_ast.specs.declared.types.TableType.{TableType}
use Rattle.wasm_ast.specs.declared.types.GlobalType.{GlobalType}
use Rattle.wasm_ast.specs.declared.instructions.Expr.{Expr}
use Rattle.wasm_ast.specs.declared.modules.ImportKind.{ImportKind}
use Rattle.wasm_ast.specs.declared.modules.ImportKind.TheVariants.{Func as FuncImport, Table as TableImport, Memory as MemoryImport, Global as GlobalImport}
use Rattle.wasm_ast.specs.declared.modules.Import.{Import}
use Rattle.wasm_ast.specs.declared.modules.Func.{Func}
use Rattle.wasm_ast.specs.declared.modules.GlobalDef.{GlobalDef}
use Rattle.wasm_ast.specs.declared.modules.Space.{Space}
use Rattle.wasm_ast.specs.declared.modules.Space.TheVariants.{Func as FuncSpace, Table as TableSpace, Memory as MemorySpace, Global as GlobalSpace}
use Rattle.wasm_ast.specs.declared.modules.Export.{Export}
use Rattle.wasm_ast.specs.declared.modules.Mode.{Mode}
use Rattle.wasm_ast.specs.declared.modules.Mode.TheVariants.{Active}
use Rattle.wasm_ast.specs.declared.modules.Elem.{Elem}
use Rattle.wasm_ast.specs.declared.modules.Module.{Module}
use Rattle.wasm_check.specs.declared.sections.Section.{Section}
use Rattle.wasm_check.specs.declared.sections.Section.TheVariants.{Imports, Functions, Tables, Memories, Globals, Exports, Start, Elements, Code, Data}
use Rattle.wasm_check.specs.Constants.{IsConstant}
use Rattle.wasm_check.specs.Contexts.{memory_import, imported_globals, funcs_of, tables_of, memories_of, globals_of, context_of}
use Rattle.wasm_check.specs.Instructions.{IsValidBody}
use Rattle.wasm_check.specs.Operators.{arrow}
use Rattle.wasm_check.specs.Trees.{Tree, IsTreeOf}

-- ---- types (Validation, Types: Limits, Table Types, Memory Types)

-- sizes of at most so much, the maximum no less than the minimum
pub record AreWithin (bound : ℕ) (limits : Limits) : Type 0 where
  pub min : limits.min ≤ bound
  pub max : IfSome limits.max (λ max. (max ≤ bound) × (limits.min ≤ max))

abbrev pub IsTableType : TableType → Type 0
IsTableType type = AreWithin (2 ^ 32 - 1) type.limits

-- in pages: 4 GiB at most
abbrev pub IsMemoryType : Limits → Type 0
IsMemoryType limits = AreWithin (2 ^ 16) limits

-- ---- imports, functions, exports, the start

-- the number of a function type
abbrev pub IsType : Module → ℕ → Type 0
IsType m ty = ty < length m.types

-- none of these imports is a memory
abbrev pub ImportNoMemory : List Import → Type 0
ImportNoMemory imports = All (λ i. IsNone (memory_import i.kind)) imports

-- the entry k imports this: a function of a type of the module; a memory where there is none before it
abbrev pub ImportIsValid : Module → ℕ → ImportKind → Type 0
ImportIsValid m k (FuncImport ty) = IsType m ty
ImportIsValid m k (TableImport type) = IsTableType type
ImportIsValid m k (MemoryImport limits) = IsMemoryType limits × ImportNoMemory (take k m.imports)
ImportIsValid m k (GlobalImport type) = Unit {0}

-- a module has one memory at most, an imported one counted
pub record MemoryIsValid (m : Module) (k : ℕ) (limits : Limits) : Type 0 where
  pub type : IsMemoryType limits
  pub first : k ≡ 0
  pub only : ImportNoMemory m.imports

-- the globals before the k-th of the module's own: the imported ones, and its own of lower numbers
abbrev pub globals_before : Module → ℕ → List GlobalType
globals_before m k = take (length (imported_globals m) + k) (globals_of m)

-- the first value of the entry k is a constant of its type, in which `global.get` names globals before it
abbrev pub GlobalIsValid : Module → ℕ → GlobalDef → Type 0
GlobalIsValid m k g = IsConstant (length (funcs_of m)) (globals_before m k) g.init g.ty.kind

-- how many functions, tables, memories or globals there are
abbrev pub space_size : Module → Space → ℕ
space_size m FuncSpace = length (funcs_of m)
space_size m TableSpace = length (tables_of m)
space_size m MemorySpace = length (memories_of m)
space_size m GlobalSpace = length (globals_of m)

-- no export before the entry k has its name
abbrev pub IsNewName : Module → ℕ → Export → Type 0
IsNewName m k e = (j : ℕ) (other : Export) → j < k → slice_get m.exports j ≡ Some other → other.name ≢ e.name

-- the entry k exports what is there, under a new name
pub record ExportIsValid (m : Module) (k : ℕ) (e : Export) : Type 0 where
  pub there : e.index < space_size m e.space
  pub new_name : IsNewName m k e

-- the start function takes and gives nothing
abbrev pub StartIsValid : Module → ℕ → Type 0
StartIsValid m x = (ty : ℕ) × (slice_get (funcs_of m) x ≡ Some ty) × (slice_get m.types ty ≡ Some (arrow [] []))

-- ---- segments

-- Where an active segment starts: a constant number. In segments `global.get` names any immutable global.
abbrev pub IsOffset : Module → Expr → Type 0
IsOffset m offset = IsConstant (length (funcs_of m)) (globals_of m) offset I32

-- there is a table of this number, and its references are of this type
abbrev pub HasTable : Module → ℕ → ValType → Type 0
HasTable m x kind = (type : TableType) × (slice_get (tables_of m) x ≡ Some type) × (type.kind ≡ kind)

-- an active segment goes into a table of the segment's type
abbrev pub ElemModeIsValid : Module → ValType → Mode → Type 0
ElemModeIsValid m kind (Active x offset) = HasTable m x kind × IsOffset m offset
ElemModeIsValid m kind _ = Unit {0}

pub record ElemIsValid (m : Module) (e : Elem) : Type 0 where
  pub items : All (λ item. IsConstant (length (funcs_of m)) (globals_of m) item e.kind) e.items
  pub mode : ElemModeIsValid m e.kind e.mode

-- an active segment goes into a memory
abbrev pub DataModeIsValid : Module → Mode → Type 0
DataModeIsValid m (Active x offset) = (x < length (memories_of m)) × IsOffset m offset
DataModeIsValid m _ = Unit {0}

-- ---- functions

-- the body of the function is typed
pub record BodyIsValid (m : Module) (f : Func) : Type 0 where
  pub type : FuncType
  pub has_type : slice_get m.types f.ty ≡ Some type
  pub tree : Tree
  pub is_tree : IsTreeOf f.body tree
  pub typed : IsValidBody (context_of m f type) tree

-- ---- the module

-- where the section has this entry, the fact holds of it
abbrev pub OfEntry : {A : Type 0} → List A → ℕ → (A → Type 0) → Type 0
OfEntry {A} entries k P = (x : A) → slice_get entries k ≡ Some x → P x

abbrev pub EntryIsValid : Module → Section → ℕ → Type 0
EntryIsValid m Imports k = OfEntry m.imports k (λ i. ImportIsValid m k i.kind)
EntryIsValid m Functions k = OfEntry m.funcs k (λ f. IsType m f.ty)
EntryIsValid m Tables k = OfEntry m.tables k IsTableType
EntryIsValid m Memories k = OfEntry m.memories k (MemoryIsValid m k)
EntryIsValid m Globals k = OfEntry m.globals k (GlobalIsValid m k)
EntryIsValid m Exports k = OfEntry m.exports k (ExportIsValid m k)
EntryIsValid m Start k = (x : ℕ) → k ≡ 0 → m.start ≡ Some x → StartIsValid m x
EntryIsValid m Elements k = OfEntry m.elems k (ElemIsValid m)
EntryIsValid m Code k = OfEntry m.funcs k (BodyIsValid m)
EntryIsValid m Data k = OfEntry m.segments k (λ s. DataModeIsValid m s.mode)

abbrev pub SectionIsValid : Module → Section → Type 0
SectionIsValid m s = (k : ℕ) → EntryIsValid m s k

abbrev pub IsValid : Module → Type 0
IsValid m = (s : Section) → SectionIsValid m s
