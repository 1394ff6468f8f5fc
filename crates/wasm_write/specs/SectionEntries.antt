-- The entries of a module's sections (Binary Format, Modules).
use Rattle.std.specs.Prelude.{ℕ, ◌+◌, List, [], ◌∷◌, ◌++◌, Bool, true, false, ◌==◌, ◌&&◌, if◌then◌else◌, Option, Some, None, is_some}
use Rattle.std.specs.List.{list_all}
use Rattle.owi_base.specs.Leb.{unsigned_bytes}
use Rattle.wasm_ast.specs.declared.types.ValType.{ValType}
use Rattle.wasm_ast.specs.declared.types.ValType.TheVariants.{FuncRef}
use Rattle.wasm_ast.specs.declared.instructions.Instr.{Instr}
use Rattle.wasm_ast.specs.declared.instructions.Instr.TheVariants.{RefFunc}
use Rattle.wasm_ast.specs.declared.instructions.Expr.{Expr}
use Rattle.wasm_ast.specs.declared.modules.ImportKind.{ImportKind}
use Rattle.wasm_ast.specs.declared.modules.ImportKind.TheVariants as import_of
use Rattle.wasm_ast.specs.declared.modules.Import.{Import}
use Rattle.wasm_ast.specs.declared.modules.Group.{Group}
use Rattle.wasm_ast.specs.declared.modules.Func.{Func}
use Rattle.wasm_ast.specs.declared.modules.GlobalDef.{GlobalDef}
use Rattle.wasm_ast.specs.declared.modules.Space.{Space}
use Rattle.wasm_ast.specs.declared.modules.Space.TheVariants as space
use Rattle.wasm_ast.specs.declared.modules.Export.{Export}
use Rattle.wasm_ast.specs.declared.modules.Mode.{Mode}
use Rattle.wasm_ast.specs.declared.modules.Mode.TheVariants.{Passive, Declared, Active}
use Rattle.wasm_ast.specs.declared.modules.Elem.{Elem}
use Rattle.wasm_ast.specs.declared.modules.Segment.{Segment}
use Rattle.wasm_write.specs.Values.{vec_bytes, sized}
use Rattle.wasm_write.specs.Types.{type_byte, table_type_bytes, limits_bytes, global_type_bytes}
use Rattle.wasm_write.specs.Instructions.{expr_bytes}

-- ---- imports, globals and exports

abbrev pub import_kind_bytes : ImportKind → List ℕ
import_kind_bytes (import_of.Func ty) = 0x00 ∷ unsigned_bytes ty
import_kind_bytes (import_of.Table ty) = 0x01 ∷ table_type_bytes ty
import_kind_bytes (import_of.Memory ty) = 0x02 ∷ limits_bytes ty
import_kind_bytes (import_of.Global ty) = 0x03 ∷ global_type_bytes ty

abbrev pub import_bytes : Import → List ℕ
import_bytes i = sized i.module ++ sized i.name ++ import_kind_bytes i.kind

abbrev pub global_bytes : GlobalDef → List ℕ
global_bytes g = global_type_bytes g.ty ++ expr_bytes g.init

abbrev pub space_byte : Space → ℕ
space_byte space.Func = 0x00
space_byte space.Table = 0x01
space_byte space.Memory = 0x02
space_byte space.Global = 0x03

abbrev pub export_bytes : Export → List ℕ
export_bytes e = sized e.name ++ space_byte e.space ∷ unsigned_bytes e.index

-- ---- element segments

-- the function of an expression that is a single ref.func
abbrev pub single_func : List (List Instr) → Option ℕ
single_func ((RefFunc func ∷ []) ∷ []) = Some func
single_func seqs = None

abbrev pub func_of : Expr → Option ℕ
func_of e = single_func e.seqs

abbrev pub is_func_ref : ValType → Bool
is_func_ref FuncRef = true
is_func_ref kind = false

-- it has function references, and each is a single ref.func: then indices of functions are written, else expressions
abbrev pub has_indices : Elem → Bool
has_indices e = is_func_ref e.kind && list_all (λ item. is_some (func_of item)) e.items

abbrev pub index_bytes : Option ℕ → List ℕ
index_bytes (Some func) = unsigned_bytes func
index_bytes None = []

abbrev pub func_item_bytes : Expr → List ℕ
func_item_bytes item = index_bytes (func_of item)

-- What stands before the items: a flag, the table and the offset where it is active, and a byte for the kind. The flags are 0
-- to 3 before indices and 4 to 7 before expressions. An active segment of function references on table 0 has the first of
-- these, which names neither table nor kind.
abbrev pub elem_front : ℕ → ℕ → Bool → Mode → List ℕ
elem_front first kind of_funcs Passive = (first + 1) ∷ kind ∷ []
elem_front first kind of_funcs Declared = (first + 3) ∷ kind ∷ []
elem_front first kind of_funcs (Active table offset) =
    if of_funcs && table == 0 then first ∷ expr_bytes offset
    else ((first + 2) ∷ unsigned_bytes table ++ expr_bytes offset ++ kind ∷ [])

abbrev pub elem_bytes : Elem → List ℕ
elem_bytes e =
    if has_indices e then elem_front 0 0x00 true e.mode ++ vec_bytes func_item_bytes e.items
    else (elem_front 4 (type_byte e.kind) (is_func_ref e.kind) e.mode ++ vec_bytes expr_bytes e.items)

-- ---- data segments

-- A flag, and the memory and the offset where it is active; memory 0 is not named. No data segment is declared.
abbrev pub segment_front : Mode → List ℕ
segment_front Passive = 1 ∷ []
segment_front Declared = []
segment_front (Active memory offset) =
    if memory == 0 then 0 ∷ expr_bytes offset else (2 ∷ unsigned_bytes memory ++ expr_bytes offset)

abbrev pub segment_bytes : Segment → List ℕ
segment_bytes s = segment_front s.mode ++ sized s.bytes

-- ---- the code of a function

abbrev pub group_bytes : Group → List ℕ
group_bytes g = unsigned_bytes g.count ++ type_byte g.kind ∷ []

abbrev pub code_bytes : Func → List ℕ
code_bytes f = sized (vec_bytes group_bytes f.locals ++ expr_bytes f.body)
