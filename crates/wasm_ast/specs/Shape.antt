-- Which modules are well-formed: the shape that the readers give and that the others ask for. It is less than validity.
--
-- Each expression is numbered (Numbering). Groups of locals aren't empty, neighbours differ in type, and one function
-- has at most 50,000 locals. Tables, element segments and null references have reference types. No data segment is
-- declared. An opcode byte is of its class (Opcodes), an alignment's exponent is below 32. Every list and every name has
-- fewer than 2^32 entries, so that its count can be written (Binary Format, Conventions: Vectors). Custom sections are
-- in order, each after a section that is written (Sections) or before all of them.
use Rattle.std.specs.Prelude.{◌≡◌, ◌≢◌, ◌<◌, ◌≤◌, ◌^◌, ◌⊎◌, IsTrue, List, length, All, sum_by}
use Rattle.std.specs.List.{AllAdjacentBelow}
use Rattle.std.specs.List.Sorted.{IsNonDecreasingBy}
use Rattle.wasm_ast.specs.Numbering.{IsNumbered}
use Rattle.wasm_ast.specs.Opcodes.{is_load, is_store, is_numeric}
use Rattle.wasm_ast.specs.Sections.{is_written}
use Rattle.wasm_ast.specs.declared.types.ValType.{ValType}
use Rattle.wasm_ast.specs.declared.types.ValType.TheVariants.{FuncRef, ExternRef}
use Rattle.wasm_ast.specs.declared.types.FuncType.{FuncType}
use Rattle.wasm_ast.specs.declared.instructions.Instr.{Instr}
use Rattle.wasm_ast.specs.declared.instructions.Instr.TheVariants.{BrTable, RefNull, SelectTyped, Load, Store, Num}
use Rattle.wasm_ast.specs.declared.instructions.Expr.{Expr}
use Rattle.wasm_ast.specs.declared.modules.ImportKind.{ImportKind}
use Rattle.wasm_ast.specs.declared.modules.ImportKind.TheVariants.{Table}
use Rattle.wasm_ast.specs.declared.modules.Import.{Import}
use Rattle.wasm_ast.specs.declared.modules.Group.{Group}
use Rattle.wasm_ast.specs.declared.modules.Func.{Func}
use Rattle.wasm_ast.specs.declared.modules.Mode.{Mode}
use Rattle.wasm_ast.specs.declared.modules.Mode.TheVariants.{Declared, Active}
use Rattle.wasm_ast.specs.declared.modules.Elem.{Elem}
use Rattle.wasm_ast.specs.declared.modules.Segment.{Segment}
use Rattle.wasm_ast.specs.declared.modules.Custom.{Custom}
use Rattle.wasm_ast.specs.declared.modules.Module.{Module}

-- fewer entries than 2^32; of a name, the entries are its bytes
abbrev pub IsShort : {A : Type 0} → List A → Type 0
IsShort xs = length xs < 2 ^ 32

abbrev pub IsReference : ValType → Type 0
IsReference kind = (kind ≡ FuncRef) ⊎ (kind ≡ ExternRef)

pub record FuncTypeHasShape (type : FuncType) : Type 0 where
  pub params : IsShort type.params
  pub results : IsShort type.results

-- ---- instructions and expressions

-- what an instruction says of itself alone
abbrev pub InstrHasShape : Instr → Type 0
InstrHasShape (BrTable labels last) = IsShort labels
InstrHasShape (RefNull kind) = IsReference kind
InstrHasShape (SelectTyped kinds) = IsShort kinds
InstrHasShape (Load op align offset) = IsTrue (is_load op) × (align < 32)
InstrHasShape (Store op align offset) = IsTrue (is_store op) × (align < 32)
InstrHasShape (Num op) = IsTrue (is_numeric op)
InstrHasShape _ = Unit {0}

pub record SeqHasShape (instrs : List Instr) : Type 0 where
  pub each : All InstrHasShape instrs
  pub short : IsShort instrs

pub record ExprHasShape (e : Expr) : Type 0 where
  pub numbered : IsNumbered e.seqs
  pub each : All SeqHasShape e.seqs
  pub short : IsShort e.seqs

-- ---- the parts of a module

-- what an import says of a table
abbrev pub KindHasShape : ImportKind → Type 0
KindHasShape (Table type) = IsReference type.kind
KindHasShape _ = Unit {0}

pub record ImportHasShape (i : Import) : Type 0 where
  pub module_short : IsShort i.module
  pub name_short : IsShort i.name
  pub kind : KindHasShape i.kind

pub record LocalsHaveShape (groups : List Group) : Type 0 where
  pub each : All (λ g. 1 ≤ g.count) groups
  pub neighbours : AllAdjacentBelow (λ g h. g.kind ≢ h.kind) groups (length groups)
  pub few : sum_by (λ g. g.count) groups ≤ 50000
  pub short : IsShort groups

pub record FuncHasShape (f : Func) : Type 0 where
  pub locals : LocalsHaveShape f.locals
  pub body : ExprHasShape f.body

-- the offset of an active segment
abbrev pub ModeHasShape : Mode → Type 0
ModeHasShape (Active index offset) = ExprHasShape offset
ModeHasShape _ = Unit {0}

pub record ElemHasShape (e : Elem) : Type 0 where
  pub kind : IsReference e.kind
  pub items : All ExprHasShape e.items
  pub mode : ModeHasShape e.mode
  pub short : IsShort e.items

pub record SegmentHasShape (s : Segment) : Type 0 where
  pub not_declared : s.mode ≢ Declared
  pub mode : ModeHasShape s.mode
  pub short : IsShort s.bytes

pub record CustomHasShape (m : Module) (c : Custom) : Type 0 where
  pub place : (c.after ≡ 0) ⊎ IsTrue (is_written m c.after)
  pub name_short : IsShort c.name
  pub bytes_short : IsShort c.bytes

pub record CustomsHaveShape (m : Module) : Type 0 where
  pub each : All (CustomHasShape m) m.customs
  pub in_order : IsNonDecreasingBy (λ c. c.after) m.customs

-- ---- the module

pub record ListsAreShort (m : Module) : Type 0 where
  pub types : IsShort m.types
  pub imports : IsShort m.imports
  pub funcs : IsShort m.funcs
  pub tables : IsShort m.tables
  pub memories : IsShort m.memories
  pub globals : IsShort m.globals
  pub exports : IsShort m.exports
  pub elems : IsShort m.elems
  pub segments : IsShort m.segments
  pub customs : IsShort m.customs

pub record HasShape (m : Module) : Type 0 where
  pub types : All FuncTypeHasShape m.types
  pub imports : All ImportHasShape m.imports
  pub funcs : All FuncHasShape m.funcs
  pub tables : All (λ t. IsReference t.kind) m.tables
  pub globals : All (λ g. ExprHasShape g.init) m.globals
  pub exports : All (λ e. IsShort e.name) m.exports
  pub elems : All ElemHasShape m.elems
  pub segments : All SegmentHasShape m.segments
  pub customs : CustomsHaveShape m
  pub lists : ListsAreShort m
