-- The text that is printed of a module (Text Format, Modules): each field on a line of its own, all indices as numbers, and no
-- custom section.
use Rattle.std.specs.Prelude.{ℕ, List, [], ◌++◌, Option, Some, None, flat_map, codes, decimal}
use Rattle.wasm_ast.specs.declared.types.FuncType.{FuncType}
use Rattle.wasm_ast.specs.declared.types.TableType.{TableType}
use Rattle.wasm_ast.specs.declared.types.Limits.{Limits}
use Rattle.wasm_ast.specs.declared.instructions.Expr.{Expr}
use Rattle.wasm_ast.specs.declared.modules.ImportKind.{ImportKind}
use Rattle.wasm_ast.specs.declared.modules.ImportKind.TheVariants as import_of
use Rattle.wasm_ast.specs.declared.modules.Import.{Import}
use Rattle.wasm_ast.specs.declared.modules.Func.{Func}
use Rattle.wasm_ast.specs.declared.modules.GlobalDef.{GlobalDef}
use Rattle.wasm_ast.specs.declared.modules.Space.{Space}
use Rattle.wasm_ast.specs.declared.modules.Space.TheVariants as space
use Rattle.wasm_ast.specs.declared.modules.Export.{Export}
use Rattle.wasm_ast.specs.declared.modules.Mode.{Mode}
use Rattle.wasm_ast.specs.declared.modules.Mode.TheVariants.{Passive, Declared, Active}
use Rattle.wasm_ast.specs.declared.modules.Elem.{Elem}
use Rattle.wasm_ast.specs.declared.modules.Segment.{Segment}
use Rattle.wasm_ast.specs.declared.modules.Module.{Module}
use Rattle.wasm_text.specs.PrintedTypes.{string_text, type_word, func_type_text, limits_text, table_type_text, global_type_text, locals_text}
use Rattle.wasm_text.specs.PrintedInstructions.{expr_text}

-- a field on its line
abbrev pub line_of : List ℕ → List ℕ
line_of field = codes "  " ++ field ++ codes "\n"

-- instructions on lines of their own, and instructions on the field's line
abbrev pub body_text : Expr → List ℕ
body_text e = expr_text (codes "\n    ") e

abbrev pub inline_text : Expr → List ℕ
inline_text e = expr_text (codes " ") e

abbrev pub type_field : FuncType → List ℕ
type_field ty = codes "(type " ++ func_type_text ty ++ codes ")"

abbrev pub import_kind_text : ImportKind → List ℕ
import_kind_text (import_of.Func ty) = codes "(func (type " ++ decimal ty ++ codes "))"
import_kind_text (import_of.Table ty) = codes "(table " ++ table_type_text ty ++ codes ")"
import_kind_text (import_of.Memory ty) = codes "(memory " ++ limits_text ty ++ codes ")"
import_kind_text (import_of.Global ty) = codes "(global " ++ global_type_text ty ++ codes ")"

abbrev pub import_field : Import → List ℕ
import_field i = codes "(import " ++ string_text i.module ++ codes " " ++ string_text i.name ++ codes " " ++ import_kind_text i.kind ++ codes ")"

abbrev pub func_field : Func → List ℕ
func_field f = codes "(func (type " ++ decimal f.ty ++ codes ")" ++ locals_text f.locals ++ body_text f.body ++ codes "\n  )"

abbrev pub table_field : TableType → List ℕ
table_field ty = codes "(table " ++ table_type_text ty ++ codes ")"

abbrev pub memory_field : Limits → List ℕ
memory_field ty = codes "(memory " ++ limits_text ty ++ codes ")"

abbrev pub global_field : GlobalDef → List ℕ
global_field g = codes "(global " ++ global_type_text g.ty ++ inline_text g.init ++ codes ")"

abbrev pub space_word : Space → List ℕ
space_word space.Func = codes "func"
space_word space.Table = codes "table"
space_word space.Memory = codes "memory"
space_word space.Global = codes "global"

abbrev pub export_field : Export → List ℕ
export_field e = codes "(export " ++ string_text e.name ++ codes " (" ++ space_word e.space ++ codes " " ++ decimal e.index ++ codes "))"

abbrev pub start_field : ℕ → List ℕ
start_field func = codes "(start " ++ decimal func ++ codes ")"

abbrev pub start_line : Option ℕ → List ℕ
start_line None = []
start_line (Some func) = line_of (start_field func)

-- what stands before an element segment's type
abbrev pub elem_mode_text : Mode → List ℕ
elem_mode_text Passive = []
elem_mode_text Declared = codes "declare "
elem_mode_text (Active table offset) = codes "(table " ++ decimal table ++ codes ") (offset" ++ inline_text offset ++ codes ") "

abbrev pub item_text : Expr → List ℕ
item_text item = codes " (item" ++ inline_text item ++ codes ")"

abbrev pub elem_field : Elem → List ℕ
elem_field e = codes "(elem " ++ elem_mode_text e.mode ++ type_word e.kind ++ flat_map item_text e.items ++ codes ")"

-- what stands before a data segment's bytes; no data segment is declared
abbrev pub data_mode_text : Mode → List ℕ
data_mode_text Passive = []
data_mode_text Declared = []
data_mode_text (Active memory offset) = codes "(memory " ++ decimal memory ++ codes ") (offset" ++ inline_text offset ++ codes ") "

abbrev pub data_field : Segment → List ℕ
data_field s = codes "(data " ++ data_mode_text s.mode ++ string_text s.bytes ++ codes ")"

-- the lines of fields of one kind
abbrev pub lines_of : {A : Type 0} → (A → List ℕ) → List A → List ℕ
lines_of field xs = flat_map (λ x. line_of (field x)) xs

-- types, imports, functions, tables and memories; and what follows them
abbrev pub first_lines : Module → List ℕ
first_lines m =
    lines_of type_field m.types ++ lines_of import_field m.imports ++ lines_of func_field m.funcs ++ lines_of table_field m.tables
    ++ lines_of memory_field m.memories

abbrev pub last_lines : Module → List ℕ
last_lines m =
    lines_of global_field m.globals ++ lines_of export_field m.exports ++ start_line m.start ++ lines_of elem_field m.elems
    ++ lines_of data_field m.segments

abbrev pub printed : Module → List ℕ
printed m = codes "(module\n" ++ first_lines m ++ last_lines m ++ codes ")\n"
