-- The module that a written one stands for: each identifier is the position of its definition (Text Format, Modules).
use Rattle.std.specs.Prelude.{ℕ, ◌+◌, if◌then◌else◌, List, [], ◌∷◌, ◌++◌, map, slice_get, Option, Some, None}
use Rattle.wasm_ast.specs.declared.types.ValType.{ValType}
use Rattle.wasm_ast.specs.declared.types.BlockType.{BlockType}
use Rattle.wasm_ast.specs.declared.types.BlockType.TheVariants.{Empty}
use Rattle.wasm_ast.specs.declared.instructions.Instr.{Instr}
use Rattle.wasm_ast.specs.declared.instructions.Instr.TheVariants as instr
use Rattle.wasm_ast.specs.declared.instructions.Expr.{Expr}
use Rattle.wasm_ast.specs.declared.modules.ImportKind.{ImportKind}
use Rattle.wasm_ast.specs.declared.modules.ImportKind.TheVariants as import_of
use Rattle.wasm_ast.specs.declared.modules.Import.{Import}
use Rattle.wasm_ast.specs.declared.modules.Group.{Group}
use Rattle.wasm_ast.specs.declared.modules.Func.{Func}
use Rattle.wasm_ast.specs.declared.modules.GlobalDef.{GlobalDef}
use Rattle.wasm_ast.specs.declared.modules.Space.{Space}
use Rattle.wasm_ast.specs.declared.modules.Space.TheVariants as space
use Rattle.wasm_ast.specs.declared.modules.Export.{Export}
use Rattle.wasm_ast.specs.declared.modules.Mode.{Mode}
use Rattle.wasm_ast.specs.declared.modules.Mode.TheVariants.{Passive, Declared, Active}
use Rattle.wasm_ast.specs.declared.modules.Elem.{Elem}
use Rattle.wasm_ast.specs.declared.modules.Segment.{Segment}
use Rattle.wasm_ast.specs.declared.modules.Module.{Module}
use Rattle.wasm_text.specs.declared.named.Id.{Id}
use Rattle.wasm_text.specs.declared.named.Idx.{Idx}
use Rattle.wasm_text.specs.declared.named.Use.{Use}
use Rattle.wasm_text.specs.declared.named.OneIndex.{OneIndex}
use Rattle.wasm_text.specs.declared.named.OneIndex.TheVariants as index
use Rattle.wasm_text.specs.declared.named.Written.{Written}
use Rattle.wasm_text.specs.declared.named.Written.TheVariants as written
use Rattle.wasm_text.specs.declared.named.WrittenExpr.{WrittenExpr}
use Rattle.wasm_text.specs.declared.named.WrittenKind.{WrittenKind}
use Rattle.wasm_text.specs.declared.named.WrittenKind.TheVariants as asks
use Rattle.wasm_text.specs.declared.named.WrittenImport.{WrittenImport}
use Rattle.wasm_text.specs.declared.named.WrittenFunc.{WrittenFunc}
use Rattle.wasm_text.specs.declared.named.WrittenGlobal.{WrittenGlobal}
use Rattle.wasm_text.specs.declared.named.WrittenExport.{WrittenExport}
use Rattle.wasm_text.specs.declared.named.WrittenStart.{WrittenStart}
use Rattle.wasm_text.specs.declared.named.WrittenMode.{WrittenMode}
use Rattle.wasm_text.specs.declared.named.WrittenMode.TheVariants as when
use Rattle.wasm_text.specs.declared.named.WrittenElem.{WrittenElem}
use Rattle.wasm_text.specs.declared.named.WrittenData.{WrittenData}
use Rattle.wasm_text.specs.declared.named.Names.{Names}
use Rattle.wasm_text.specs.declared.named.Named.{Named}
use Rattle.wasm_text.specs.Names.{position}
use Rattle.wasm_text.specs.TextInstructions.{or_zero}
use Rattle.wasm_text.specs.Uses.{Types, types_with, type_index, block_type, param_ids, same_kind}

-- ---- what is known where an identifier stands

pub record Scope : Type 0 where
  pub types : Types
  pub uses : List Use
  pub names : Names
  -- of the function's params and locals; none outside of functions
  pub locals : List (Option Id)

-- outside of functions
abbrev pub scope_of : List ℕ → Named → List Use → Scope
scope_of text m uses =
    record { types = record { text = text; ids = m.names.types; all = types_with m.types uses }; uses = uses; names = m.names; locals = [] }

-- the number of what an index names among these
abbrev pub number : Scope → List (Option Id) → Idx → ℕ
number s ids x = or_zero (position s.types.text ids x)

abbrev pub type_of_use : Scope → Option Use → ℕ
type_of_use s None = 0
type_of_use s (Some u) = type_index s.types u

-- the number of the type of a use that has one
abbrev pub use_type : Scope → ℕ → ℕ
use_type s k = type_of_use s (slice_get s.uses k)

abbrev pub block_of_use : Scope → Option Use → BlockType
block_of_use s None = Empty
block_of_use s (Some u) = block_type s.types u

abbrev pub use_block : Scope → ℕ → BlockType
use_block s k = block_of_use s (slice_get s.uses k)

abbrev pub params_of_use : Scope → Option Use → List (Option Id)
params_of_use s None = []
params_of_use s (Some u) = param_ids s.types u

abbrev pub use_params : Scope → ℕ → List (Option Id)
use_params s k = params_of_use s (slice_get s.uses k)

-- ---- instructions

-- Among what an instruction's index counts. A label that is still an identifier is that of no open block.
abbrev pub ids_for : Scope → OneIndex → List (Option Id)
ids_for s index.Br = []
ids_for s index.BrIf = []
ids_for s index.Call = s.names.funcs
ids_for s index.RefFunc = s.names.funcs
ids_for s index.LocalGet = s.locals
ids_for s index.LocalSet = s.locals
ids_for s index.LocalTee = s.locals
ids_for s index.GlobalGet = s.names.globals
ids_for s index.GlobalSet = s.names.globals
ids_for s index.TableGet = s.names.tables
ids_for s index.TableSet = s.names.tables
ids_for s index.TableGrow = s.names.tables
ids_for s index.TableSize = s.names.tables
ids_for s index.TableFill = s.names.tables
ids_for s index.ElemDrop = s.names.elems
ids_for s index.MemoryInit = s.names.segments
ids_for s index.DataDrop = s.names.segments

abbrev pub one_instr : OneIndex → ℕ → Instr
one_instr index.Br n = instr.Br n
one_instr index.BrIf n = instr.BrIf n
one_instr index.Call n = instr.Call n
one_instr index.RefFunc n = instr.RefFunc n
one_instr index.LocalGet n = instr.LocalGet n
one_instr index.LocalSet n = instr.LocalSet n
one_instr index.LocalTee n = instr.LocalTee n
one_instr index.GlobalGet n = instr.GlobalGet n
one_instr index.GlobalSet n = instr.GlobalSet n
one_instr index.TableGet n = instr.TableGet n
one_instr index.TableSet n = instr.TableSet n
one_instr index.TableGrow n = instr.TableGrow n
one_instr index.TableSize n = instr.TableSize n
one_instr index.TableFill n = instr.TableFill n
one_instr index.ElemDrop n = instr.ElemDrop n
one_instr index.MemoryInit n = instr.MemoryInit n
one_instr index.DataDrop n = instr.DataDrop n

abbrev pub instr_of : Scope → Written → Instr
instr_of s (written.Plain i) = i
instr_of s (written.One i x) = one_instr i (number s (ids_for s i) x)
instr_of s (written.BrTable labels last) = instr.BrTable (map (number s []) labels) (number s [] last)
instr_of s (written.CallIndirect table ty) = instr.CallIndirect (use_type s ty) (number s s.names.tables table)
instr_of s (written.TableInit table elem) = instr.TableInit (number s s.names.elems elem) (number s s.names.tables table)
instr_of s (written.TableCopy to from) = instr.TableCopy (number s s.names.tables to) (number s s.names.tables from)
instr_of s (written.Block ty body) = instr.Block (use_block s ty) body
instr_of s (written.Loop ty body) = instr.Loop (use_block s ty) body
instr_of s (written.If ty first other) = instr.If (use_block s ty) first other

abbrev pub expr_of : Scope → WrittenExpr → Expr
expr_of s e = record { seqs = map (map (instr_of s)) e.seqs }

-- ---- functions

abbrev pub with_kind : ValType → List Group → List Group
with_kind kind [] = record { count = 1; kind = kind } ∷ []
with_kind kind (g ∷ rest) = if same_kind kind g.kind then record { count = g.count + 1; kind = kind } ∷ rest else record { count = 1; kind = kind } ∷ g ∷ rest

-- locals of one type in a row make one group
abbrev pub groups_of : List ValType → List Group
groups_of [] = []
groups_of (kind ∷ rest) = with_kind kind (groups_of rest)

-- inside a function: its params and its locals have names
abbrev pub inside : Scope → WrittenFunc → Scope
inside s f = record s { locals = use_params s f.ty ++ map (λ l. l.id) f.locals }

abbrev pub func_of : Scope → WrittenFunc → Func
func_of s f =
    record { ty = use_type s f.ty; locals = groups_of (map (λ l. l.kind) f.locals); body = expr_of (inside s f) f.body }

-- ---- the other fields

abbrev pub kind_of : Scope → WrittenKind → ImportKind
kind_of s (asks.Func ty) = import_of.Func (use_type s ty)
kind_of s (asks.Table ty) = import_of.Table ty
kind_of s (asks.Memory ty) = import_of.Memory ty
kind_of s (asks.Global ty) = import_of.Global ty

abbrev pub import_from : Scope → WrittenImport → Import
import_from s i = record { «module» = i.module; name = i.name; kind = kind_of s i.kind }

abbrev pub global_of : Scope → WrittenGlobal → GlobalDef
global_of s g = record { ty = g.ty; init = expr_of s g.init }

abbrev pub ids_in : Names → Space → List (Option Id)
ids_in n space.Func = n.funcs
ids_in n space.Table = n.tables
ids_in n space.Memory = n.memories
ids_in n space.Global = n.globals

abbrev pub export_of : Scope → WrittenExport → Export
export_of s e = record { name = e.name; space = e.space; index = number s (ids_in s.names e.space) e.index }

abbrev pub start_of : Scope → List WrittenStart → Option ℕ
start_of s [] = None
start_of s (x ∷ rest) = Some (number s s.names.funcs x.func)

-- a segment's mode, by the identifiers of the tables or the memories
abbrev pub mode_of : Scope → List (Option Id) → WrittenMode → Mode
mode_of s ids when.Passive = Passive
mode_of s ids when.Declared = Declared
mode_of s ids (when.Active x offset) = Active (number s ids x) (expr_of s offset)

abbrev pub elem_of : Scope → WrittenElem → Elem
elem_of s e = record { kind = e.kind; items = map (expr_of s) e.items; mode = mode_of s s.names.tables e.mode }

abbrev pub segment_of : Scope → WrittenData → Segment
segment_of s d = record { bytes = d.bytes; mode = mode_of s s.names.memories d.mode }

-- ---- the module

abbrev pub module_in : Scope → Named → Module
module_in s m = record {
  types = s.types.all;
  imports = map (import_from s) m.imports;
  funcs = map (func_of s) m.funcs;
  tables = m.tables;
  memories = m.memories;
  globals = map (global_of s) m.globals;
  exports = map (export_of s) m.exports;
  start = start_of s m.starts;
  elems = map (elem_of s) m.elems;
  segments = map (segment_of s) m.segments;
  customs = [];
}
