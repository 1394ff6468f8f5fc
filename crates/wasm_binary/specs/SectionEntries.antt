-- The entries of a module's sections in bytes (Binary Format, Modules), but for those of the code section (Locals).
use Rattle.std.specs.Prelude.{ℕ, [], ◌∷◌, true, ◌==◌, ◌||◌, nat_lt, if◌then◌else◌}
use Rattle.grammar_forms.specs.Forms.{◌>>=◌, gives, any_byte, checked, when◌form◌else◌}
use Rattle.wasm_ast.specs.declared.types.ValType.{ValType}
use Rattle.wasm_ast.specs.declared.types.ValType.TheVariants.{FuncRef}
use Rattle.wasm_ast.specs.declared.instructions.Instr.TheVariants.{RefFunc}
use Rattle.wasm_ast.specs.declared.instructions.Expr.{Expr}
use Rattle.wasm_ast.specs.declared.modules.ImportKind.{ImportKind}
use Rattle.wasm_ast.specs.declared.modules.ImportKind.TheVariants as import_of
use Rattle.wasm_ast.specs.declared.modules.Import.{Import}
use Rattle.wasm_ast.specs.declared.modules.GlobalDef.{GlobalDef}
use Rattle.wasm_ast.specs.declared.modules.Space.{Space}
use Rattle.wasm_ast.specs.declared.modules.Space.TheVariants as space
use Rattle.wasm_ast.specs.declared.modules.Export.{Export}
use Rattle.wasm_ast.specs.declared.modules.Mode.{Mode}
use Rattle.wasm_ast.specs.declared.modules.Mode.TheVariants.{Passive, Declared, Active}
use Rattle.wasm_ast.specs.declared.modules.Elem.{Elem}
use Rattle.wasm_ast.specs.declared.modules.Segment.{Segment}
use Rattle.wasm_binary.specs.Values.{Grammar, u32, tag, vec, name}
use Rattle.wasm_binary.specs.Types.{below, one_of, ref_type, limits, table_type, global_type}
use Rattle.wasm_binary.specs.Instructions.{expression}

-- an expression outside of functions: what it names doesn't need a data count section
abbrev pub constant : Grammar Expr
constant = expression true

-- ---- imports, globals and exports

abbrev pub imported_func : Grammar ImportKind
imported_func = do
  ty ← u32
  gives (import_of.Func ty)

abbrev pub imported_table : Grammar ImportKind
imported_table = do
  ty ← table_type
  gives (import_of.Table ty)

abbrev pub imported_memory : Grammar ImportKind
imported_memory = do
  ty ← limits
  gives (import_of.Memory ty)

abbrev pub imported_global : Grammar ImportKind
imported_global = do
  ty ← global_type
  gives (import_of.Global ty)

abbrev pub import_kind : ℕ → Grammar ImportKind
import_kind b =
    when b == 0 form imported_func else
    when b == 1 form imported_table else
    when b == 2 form imported_memory else
    imported_global

abbrev pub import : Grammar Import
import = do
  from ← name
  called ← name
  b ← one_of 4
  kind ← import_kind b
  gives (record { «module» = from; name = called; kind = kind })

abbrev pub global : Grammar GlobalDef
global = do
  ty ← global_type
  init ← constant
  gives (record { ty = ty; init = init })

abbrev pub space_of : ℕ → Space
space_of b = if b == 0 then space.Func else (if b == 1 then space.Table else (if b == 2 then space.Memory else space.Global))

abbrev pub export : Grammar Export
export = do
  called ← name
  b ← one_of 4
  index ← u32
  gives (record { name = called; space = space_of b; index = index })

-- ---- segments

-- a flag below a bound, as a number
abbrev pub flag_below : ℕ → Grammar ℕ
flag_below bound = checked u32 (below bound)

-- active, on the table or memory of an index
abbrev pub active_on : ℕ → Grammar Mode
active_on index = do
  offset ← constant
  gives (Active index offset)

abbrev pub active : Grammar Mode
active = do
  index ← u32
  active_on index

-- Of an element segment: flags 0 and 4 are active on table 0, 2 and 6 on the table that follows, 1 and 5 are passive, and 3
-- and 7 declared.
abbrev pub elem_mode : ℕ → Grammar Mode
elem_mode flag =
    when flag == 0 || flag == 4 form active_on 0 else
    when flag == 2 || flag == 6 form active else
    when flag == 1 || flag == 5 form gives Passive else
    gives Declared

abbrev pub elem_kind_byte : Grammar ValType
elem_kind_byte = do
  _ ← tag 0x00
  gives FuncRef

-- flags 0 and 4 have function references; 1 to 3 a byte 00 that says so; 5 to 7 a type
abbrev pub elem_kind : ℕ → Grammar ValType
elem_kind flag =
    when flag == 0 || flag == 4 form gives FuncRef else
    when nat_lt flag 4 form elem_kind_byte else
    ref_type

-- a function's index stands for the expression that refers to it
abbrev pub func_item : Grammar Expr
func_item = do
  f ← u32
  gives (record { seqs = (RefFunc f ∷ []) ∷ [] })

abbrev pub elem : Grammar Elem
elem = do
  flag ← flag_below 8
  mode ← elem_mode flag
  kind ← elem_kind flag
  items ← vec (when nat_lt flag 4 form func_item else constant)
  gives (record { kind = kind; items = items; mode = mode })

-- Of a data segment: flag 0 is active on memory 0, 1 passive, 2 active on the memory that follows.
abbrev pub data_mode : ℕ → Grammar Mode
data_mode flag =
    when flag == 0 form active_on 0 else
    when flag == 1 form gives Passive else
    active

abbrev pub segment : Grammar Segment
segment = do
  flag ← flag_below 3
  mode ← data_mode flag
  bytes ← vec any_byte
  gives (record { bytes = bytes; mode = mode })
