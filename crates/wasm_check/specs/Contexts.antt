-- The context in which an instruction is valid (Validation, Conventions: Contexts; Modules).
--
-- In the index spaces of functions, tables, memories and globals the imports come first.
use Rattle.std.specs.Prelude.{ℕ, List, [], ◌∷◌, ◌++◌, length, map, replicate, flat_map, filter_map, Option, Some, None, option_and_then, slice_get, Bool, true, false, nat_lt, ◌==◌, ◌&&◌, ◌||◌}
use Rattle.std.specs.List.{list_any}
use Rattle.wasm_ast.specs.declared.types.ValType.{ValType}
use Rattle.wasm_ast.specs.declared.types.FuncType.{FuncType}
use Rattle.wasm_ast.specs.declared.types.Limits.{Limits}
use Rattle.wasm_ast.specs.declared.types.TableType.{TableType}
use Rattle.wasm_ast.specs.declared.types.GlobalType.{GlobalType}
use Rattle.wasm_ast.specs.declared.types.BlockType.{BlockType}
use Rattle.wasm_ast.specs.declared.types.BlockType.TheVariants.{Empty, One, Index}
use Rattle.wasm_ast.specs.declared.instructions.Instr.{Instr}
use Rattle.wasm_ast.specs.declared.instructions.Instr.TheVariants.{RefFunc}
use Rattle.wasm_ast.specs.declared.instructions.Expr.{Expr}
use Rattle.wasm_ast.specs.declared.modules.ImportKind.{ImportKind}
use Rattle.wasm_ast.specs.declared.modules.ImportKind.TheVariants.{Func as FuncImport, Table as TableImport, Memory as MemoryImport, Global as GlobalImport}
use Rattle.wasm_ast.specs.declared.modules.Group.{Group}
use Rattle.wasm_ast.specs.declared.modules.Func.{Func}
use Rattle.wasm_ast.specs.declared.modules.Space.{Space}
use Rattle.wasm_ast.specs.declared.modules.Space.TheVariants.{Func as FuncSpace}
use Rattle.wasm_ast.specs.declared.modules.Export.{Export}
use Rattle.wasm_ast.specs.declared.modules.Module.{Module}
use Rattle.wasm_check.specs.Operators.{arrow}

-- The function types of the module; for each function the number of its type; for each table, memory and global its type;
-- for each element segment the type of its references; how many data segments there are; which functions there are that
-- `ref.func` may name. Then of the function whose body it is: the types of its locals, its parameters first, and of its results.
pub record Context : Type 0 where
  pub types : List FuncType
  pub funcs : List ℕ
  pub tables : List TableType
  pub memories : List Limits
  pub globals : List GlobalType
  pub elems : List ValType
  pub datas : ℕ
  pub declared : ℕ → Bool
  pub locals : List ValType
  pub results : List ValType

-- the type of a function
abbrev pub func_type : Context → ℕ → Option FuncType
func_type C x = option_and_then (λ ty. slice_get C.types ty) (slice_get C.funcs x)

-- what a block takes and gives (Validation, Types: Block Types)
abbrev pub block_type : Context → BlockType → Option FuncType
block_type C Empty = Some (arrow [] [])
block_type C (One t) = Some (arrow [] (t ∷ []))
block_type C (Index ty) = slice_get C.types ty

-- ---- index spaces of a module

-- what an import adds to a space
abbrev pub func_import : ImportKind → Option ℕ
func_import (FuncImport ty) = Some ty
func_import _ = None

abbrev pub table_import : ImportKind → Option TableType
table_import (TableImport type) = Some type
table_import _ = None

abbrev pub memory_import : ImportKind → Option Limits
memory_import (MemoryImport limits) = Some limits
memory_import _ = None

abbrev pub global_import : ImportKind → Option GlobalType
global_import (GlobalImport type) = Some type
global_import _ = None

abbrev pub imported_funcs : Module → List ℕ
imported_funcs m = filter_map (λ i. func_import i.kind) m.imports

abbrev pub imported_memories : Module → List Limits
imported_memories m = filter_map (λ i. memory_import i.kind) m.imports

abbrev pub imported_globals : Module → List GlobalType
imported_globals m = filter_map (λ i. global_import i.kind) m.imports

abbrev pub funcs_of : Module → List ℕ
funcs_of m = imported_funcs m ++ map (λ f. f.ty) m.funcs

abbrev pub tables_of : Module → List TableType
tables_of m = filter_map (λ i. table_import i.kind) m.imports ++ m.tables

abbrev pub memories_of : Module → List Limits
memories_of m = imported_memories m ++ m.memories

abbrev pub globals_of : Module → List GlobalType
globals_of m = imported_globals m ++ map (λ g. g.ty) m.globals

-- ---- the functions that `ref.func` may name in a body: those named in globals, element segments and exports

abbrev pub is_ref_of : ℕ → Instr → Bool
is_ref_of x (RefFunc y) = x == y
is_ref_of x _ = false

abbrev pub refers_to : ℕ → Expr → Bool
refers_to x e = list_any (λ instrs. list_any (is_ref_of x) instrs) e.seqs

abbrev pub is_func_space : Space → Bool
is_func_space FuncSpace = true
is_func_space _ = false

abbrev pub exports_func : ℕ → Export → Bool
exports_func x e = is_func_space e.space && (x == e.index)

abbrev pub is_declared : Module → ℕ → Bool
is_declared m x =
    list_any (λ g. refers_to x g.init) m.globals
    || list_any (λ e. list_any (refers_to x) e.items) m.elems
    || list_any (exports_func x) m.exports

-- ---- the context of a function's body (Validation, Modules: Functions)

-- the types of the locals that aren't parameters
abbrev pub locals_of : List Group → List ValType
locals_of groups = flat_map (λ g. replicate g.count g.kind) groups

-- the function f of the module has this type
abbrev pub context_of : Module → Func → FuncType → Context
context_of m f type = record {
  types = m.types;
  funcs = funcs_of m;
  tables = tables_of m;
  memories = memories_of m;
  globals = globals_of m;
  elems = map (λ e. e.kind) m.elems;
  datas = length m.segments;
  declared = λ x. nat_lt x (length (funcs_of m)) && is_declared m x;
  locals = type.params ++ locals_of f.locals;
  results = type.results;
}
