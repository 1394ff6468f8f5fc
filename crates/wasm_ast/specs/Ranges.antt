-- What the types of a module's parts, and of the values of a run, say of them: each number fits its type, and each name is
-- UTF-8 (Structure, Values). Of a module as plain data it has to be said; of each module that a program holds it is so.
use Rattle.std.specs.Prelude.{ℕ, ◌^◌, ◌<◌, All, IfSome, IsUtf8}
use Rattle.wasm_ast.specs.declared.types.Limits.{Limits}
use Rattle.wasm_ast.specs.declared.types.BlockType.{BlockType}
use Rattle.wasm_ast.specs.declared.types.BlockType.TheVariants.{Index}
use Rattle.wasm_ast.specs.declared.instructions.Instr.{Instr}
use Rattle.wasm_ast.specs.declared.instructions.Instr.TheVariants.{Block, Loop, If, Br, BrIf, BrTable, Call, CallIndirect, RefFunc, LocalGet, LocalSet, LocalTee, GlobalGet, GlobalSet, TableGet, TableSet, TableInit, ElemDrop, TableCopy, TableGrow, TableSize, TableFill, Load, Store, MemoryInit, DataDrop, Const32, Const64}
use Rattle.wasm_ast.specs.declared.instructions.Expr.{Expr}
use Rattle.wasm_ast.specs.declared.modules.ImportKind.{ImportKind}
use Rattle.wasm_ast.specs.declared.modules.ImportKind.TheVariants as import_of
use Rattle.wasm_ast.specs.declared.modules.Import.{Import}
use Rattle.wasm_ast.specs.declared.modules.Func.{Func}
use Rattle.wasm_ast.specs.declared.modules.Export.{Export}
use Rattle.wasm_ast.specs.declared.modules.Mode.{Mode}
use Rattle.wasm_ast.specs.declared.modules.Mode.TheVariants.{Active}
use Rattle.wasm_ast.specs.declared.modules.Elem.{Elem}
use Rattle.wasm_ast.specs.declared.modules.Segment.{Segment}
use Rattle.wasm_ast.specs.declared.modules.Module.{Module}
use Rattle.wasm_ast.specs.declared.runs.Value.{Value}
use Rattle.wasm_ast.specs.declared.runs.Value.TheVariants.{I32, I64}

abbrev pub IsU32 : ℕ → Type 0
IsU32 n = n < 2 ^ 32

pub record LimitsInRange (limits : Limits) : Type 0 where
  pub min : IsU32 limits.min
  pub max : IfSome limits.max IsU32

abbrev pub BlockTypeInRange : BlockType → Type 0
BlockTypeInRange (Index index) = IsU32 index
BlockTypeInRange _ = Unit {0}

abbrev pub InstrInRange : Instr → Type 0
InstrInRange (Block ty body) = BlockTypeInRange ty
InstrInRange (Loop ty body) = BlockTypeInRange ty
InstrInRange (If ty first other) = BlockTypeInRange ty
InstrInRange (Br label) = IsU32 label
InstrInRange (BrIf label) = IsU32 label
InstrInRange (BrTable labels last) = All IsU32 labels × IsU32 last
InstrInRange (Call func) = IsU32 func
InstrInRange (CallIndirect ty table) = IsU32 ty × IsU32 table
InstrInRange (RefFunc func) = IsU32 func
InstrInRange (LocalGet local) = IsU32 local
InstrInRange (LocalSet local) = IsU32 local
InstrInRange (LocalTee local) = IsU32 local
InstrInRange (GlobalGet global) = IsU32 global
InstrInRange (GlobalSet global) = IsU32 global
InstrInRange (TableGet table) = IsU32 table
InstrInRange (TableSet table) = IsU32 table
InstrInRange (TableInit elem table) = IsU32 elem × IsU32 table
InstrInRange (ElemDrop elem) = IsU32 elem
InstrInRange (TableCopy to from) = IsU32 to × IsU32 from
InstrInRange (TableGrow table) = IsU32 table
InstrInRange (TableSize table) = IsU32 table
InstrInRange (TableFill table) = IsU32 table
InstrInRange (Load op align offset) = IsU32 offset
InstrInRange (Store op align offset) = IsU32 offset
InstrInRange (MemoryInit segment) = IsU32 segment
InstrInRange (DataDrop segment) = IsU32 segment
InstrInRange (Const32 n) = IsU32 n
InstrInRange (Const64 n) = n < 2 ^ 64
InstrInRange _ = Unit {0}

abbrev pub ExprInRange : Expr → Type 0
ExprInRange e = All (λ instrs. All InstrInRange instrs) e.seqs

abbrev pub KindInRange : ImportKind → Type 0
KindInRange (import_of.Func ty) = IsU32 ty
KindInRange (import_of.Table ty) = LimitsInRange ty.limits
KindInRange (import_of.Memory ty) = LimitsInRange ty
KindInRange _ = Unit {0}

pub record ImportInRange (i : Import) : Type 0 where
  pub module_text : IsUtf8 i.module
  pub name_text : IsUtf8 i.name
  pub kind : KindInRange i.kind

pub record FuncInRange (f : Func) : Type 0 where
  pub type_index : IsU32 f.ty
  pub body : ExprInRange f.body

pub record ExportInRange (e : Export) : Type 0 where
  pub text : IsUtf8 e.name
  pub index : IsU32 e.index

abbrev pub ModeInRange : Mode → Type 0
ModeInRange (Active index offset) = IsU32 index × ExprInRange offset
ModeInRange _ = Unit {0}

pub record ElemInRange (e : Elem) : Type 0 where
  pub items : All ExprInRange e.items
  pub mode : ModeInRange e.mode

pub record SegmentInRange (s : Segment) : Type 0 where
  pub bytes : All (λ b. b < 2 ^ 8) s.bytes
  pub mode : ModeInRange s.mode

pub record IsInRange (m : Module) : Type 0 where
  pub imports : All ImportInRange m.imports
  pub funcs : All FuncInRange m.funcs
  pub tables : All (λ t. LimitsInRange t.limits) m.tables
  pub memories : All LimitsInRange m.memories
  pub globals : All (λ g. ExprInRange g.init) m.globals
  pub exports : All ExportInRange m.exports
  pub start : IfSome m.start IsU32
  pub elems : All ElemInRange m.elems
  pub segments : All SegmentInRange m.segments
  pub customs : All (λ c. IsUtf8 c.name) m.customs

abbrev pub ValueInRange : Value → Type 0
ValueInRange (I32 n) = IsU32 n
ValueInRange (I64 n) = n < 2 ^ 64
ValueInRange _ = Unit {0}
