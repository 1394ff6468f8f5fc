-- The fields of a module in tokens (Text Format, Modules).
--
-- Each field adds to the module that those before it give. Abbreviations are written out where they stand: an inline export is
-- an export of what the field defines, an inline import an import, and inline elements or data are a segment beside their table
-- or memory.
use Rattle.std.specs.Prelude.{ℕ, zero, suc, ◌+◌, ◌/◌, Bool, true, false, ◌||◌, if◌then◌else◌, List, [], ◌∷◌, ◌++◌, length, map, flat_map, Option, Some, None, bytes_eq, codes}
use Rattle.wasm_ast.specs.Sections.{has_any}
use Rattle.wasm_ast.specs.declared.types.ValType.{ValType}
use Rattle.wasm_ast.specs.declared.types.ValType.TheVariants.{FuncRef}
use Rattle.wasm_ast.specs.declared.types.Limits.{Limits}
use Rattle.wasm_ast.specs.declared.types.TableType.{TableType}
use Rattle.wasm_ast.specs.declared.instructions.Instr.TheVariants.{Const32}
use Rattle.wasm_ast.specs.declared.modules.Space.{Space}
use Rattle.wasm_ast.specs.declared.modules.Space.TheVariants as space
use Rattle.wasm_text.specs.declared.tokens.Token.{Token}
use Rattle.wasm_text.specs.declared.bad.TextBad.TheVariants.{NoMemory}
use Rattle.wasm_text.specs.declared.named.Id.{Id}
use Rattle.wasm_text.specs.declared.named.Idx.{Idx}
use Rattle.wasm_text.specs.declared.named.Idx.TheVariants.{Numbered}
use Rattle.wasm_text.specs.declared.named.OneIndex.TheVariants.{RefFunc}
use Rattle.wasm_text.specs.declared.named.Written.TheVariants.{Plain, One}
use Rattle.wasm_text.specs.declared.named.WrittenExpr.{WrittenExpr}
use Rattle.wasm_text.specs.declared.named.WrittenKind.{WrittenKind}
use Rattle.wasm_text.specs.declared.named.WrittenKind.TheVariants as asks
use Rattle.wasm_text.specs.declared.named.WrittenExport.{WrittenExport}
use Rattle.wasm_text.specs.declared.named.WrittenMode.{WrittenMode}
use Rattle.wasm_text.specs.declared.named.WrittenMode.TheVariants.{Passive, Declared, Active}
use Rattle.wasm_text.specs.declared.named.Names.{Names}
use Rattle.wasm_text.specs.declared.named.Named.{Named}
use Rattle.wasm_text.specs.Integers.{count_of}
use Rattle.wasm_text.specs.TokenForms.{Form, ◌>>=◌, gives, fails, ahead, next_is, next_word, word_inside, opens, place, pass, pass_two, want, opening, closing, parts_end, unfit, is_open, is_string, as_long}
use Rattle.wasm_text.specs.TextValues.{is_number, string, name, maybe_id, idx, idx_follows}
use Rattle.wasm_text.specs.TextTypes.{ref_type_word, ref_type, limits, table_type, global_type, func_type, func_use, locals}
use Rattle.wasm_text.specs.TextInstructions.{instructions, one_folded}

-- ---- a module so far

abbrev pub no_names : Names
no_names = record { types = []; funcs = []; tables = []; memories = []; globals = []; elems = []; segments = [] }

abbrev pub no_fields : Named
no_fields = record { names = no_names; types = []; imports = []; funcs = []; tables = []; memories = []; globals = []; exports = []; starts = []; elems = []; segments = [] }

-- a definition of a function, a table, a memory or a global stands before
abbrev pub has_definition : Named → Bool
has_definition m = has_any m.funcs || has_any m.tables || has_any m.memories || has_any m.globals

-- what is imported has its name among those of its kind
abbrev pub import_names : Option Id → WrittenKind → Names → Names
import_names id (asks.Func ty) n = record n { funcs = n.funcs ++ id ∷ [] }
import_names id (asks.Table ty) n = record n { tables = n.tables ++ id ∷ [] }
import_names id (asks.Memory ty) n = record n { memories = n.memories ++ id ∷ [] }
import_names id (asks.Global ty) n = record n { globals = n.globals ++ id ∷ [] }

-- the two names of an import
pub record From : Type 0 where
  pub module_name : List ℕ
  pub own_name : List ℕ

abbrev pub with_import : From → Option Id → WrittenKind → Named → Named
with_import from id kind m =
    record m { imports = m.imports ++ record { «module» = from.module_name; name = from.own_name; kind = kind } ∷ []; names = import_names id kind m.names }

-- ---- exports and imports inside a definition

abbrev pub export_of : Space → ℕ → List ℕ → WrittenExport
export_of what index text = record { name = text; space = what; index = Numbered index }

abbrev pub inline_name : Form (List ℕ)
inline_name = do
  _ ← pass_two
  text ← name
  _ ← closing
  gives text

-- exports of what is to be defined, which has this index
abbrev pub inline_exports : Space → ℕ → Named → Form Named
inline_exports what index m = do
  texts ← as_long (opens (codes "export")) inline_name
  gives (record m { exports = m.exports ++ map (export_of what index) texts })

abbrev pub two_names : Form From
two_names = do
  from ← name
  own ← name
  gives (record { module_name = from; own_name = own })

-- an import stands before every definition; else no form goes on with its word
abbrev pub import_word : Named → Form Token
import_word m = if has_definition m then want else pass

abbrev pub inline_import : Named → Form From
inline_import m = do
  _ ← pass
  _ ← import_word m
  from ← two_names
  _ ← closing
  gives from

-- ---- types

abbrev pub type_field : Named → Form Named
type_field m = do
  _ ← pass
  id ← maybe_id
  ty ← func_type
  _ ← closing
  gives (record m { types = m.types ++ ty ∷ []; names = record m.names { types = m.names.types ++ id ∷ [] } })

-- ---- imports

abbrev pub imported_func : Form WrittenKind
imported_func = do
  ty ← func_use
  _ ← parts_end
  gives (asks.Func ty)

abbrev pub imported_table : Form WrittenKind
imported_table = do
  ty ← table_type
  _ ← closing
  gives (asks.Table ty)

abbrev pub imported_memory : Form WrittenKind
imported_memory = do
  ty ← limits
  _ ← closing
  gives (asks.Memory ty)

abbrev pub imported_global : Form WrittenKind
imported_global = do
  ty ← global_type
  _ ← closing
  gives (asks.Global ty)

-- the kinds of what is imported and exported
abbrev pub space_of : List ℕ → Option Space
space_of w =
    if bytes_eq w (codes "func") then Some space.Func
    else (if bytes_eq w (codes "table") then Some space.Table
    else (if bytes_eq w (codes "memory") then Some space.Memory
    else (if bytes_eq w (codes "global") then Some space.Global else None)))

-- of a kind, and the parenthesis after it
abbrev pub imported_of : Space → Form WrittenKind
imported_of space.Func = imported_func
imported_of space.Table = imported_table
imported_of space.Memory = imported_memory
imported_of space.Global = imported_global

abbrev pub space_word_from : Option Space → Form Space
space_word_from None = want
space_word_from (Some what) = do
  _ ← pass
  gives what

abbrev pub space_word : Form Space
space_word = do
  w ← next_word
  space_word_from (space_of w)

abbrev pub import_field : Named → Form Named
import_field m = do
  _ ← import_word m
  from ← two_names
  _ ← opening
  what ← space_word
  id ← maybe_id
  kind ← imported_of what
  _ ← closing
  gives (with_import from id kind m)

-- a definition that imports
abbrev pub importing : Space → Option Id → Named → Form Named
importing what id m = do
  from ← inline_import m
  kind ← imported_of what
  gives (with_import from id kind m)

-- ---- functions

abbrev pub with_func_name : Option Id → Named → Names
with_func_name id m = record m.names { funcs = m.names.funcs ++ id ∷ [] }

abbrev pub func_definition : Option Id → Named → Form Named
func_definition id m = do
  ty ← func_use
  own ← locals
  body ← instructions
  _ ← closing
  gives (record m { funcs = m.funcs ++ record { ty = ty; locals = own; body = body } ∷ []; names = with_func_name id m })

abbrev pub func_after : Option Id → Named → Form Named
func_after id m = do
  there ← opens (codes "import")
  if there then importing space.Func id m else func_definition id m

abbrev pub func_field : Named → Form Named
func_field m = do
  _ ← pass
  id ← maybe_id
  with_exports ← inline_exports space.Func (length m.names.funcs) m
  func_after id with_exports

-- ---- tables

abbrev pub ref_func : Idx → WrittenExpr
ref_func x = record { seqs = (One RefFunc x ∷ []) ∷ [] }

abbrev pub zero_expr : WrittenExpr
zero_expr = record { seqs = (Plain (Const32 0) ∷ []) ∷ [] }

-- a word and instructions in parentheses, or one folded instruction
abbrev pub wrapped_instructions : Form WrittenExpr
wrapped_instructions = do
  _ ← pass_two
  e ← instructions
  _ ← closing
  gives e

abbrev pub wrapped : List ℕ → Form WrittenExpr
wrapped word = do
  there ← opens word
  if there then wrapped_instructions else one_folded

abbrev pub item : Form WrittenExpr
item = wrapped (codes "item")

abbrev pub offset : Form WrittenExpr
offset = wrapped (codes "offset")

abbrev pub items : Form (List WrittenExpr)
items = as_long (next_is is_open) item

abbrev pub func_items : Form (List WrittenExpr)
func_items = do
  xs ← as_long idx_follows idx
  gives (map ref_func xs)

-- indices alone, or items
abbrev pub entries : Form (List WrittenExpr)
entries = do
  opened ← next_is is_open
  if opened then items else func_items

-- a table by its elements
abbrev pub with_table : Option Id → TableType → Named → Named
with_table id ty m =
    record m { tables = m.tables ++ ty ∷ []; names = record m.names { tables = m.names.tables ++ id ∷ [] } }

abbrev pub with_elem : Option Id → ValType → List WrittenExpr → WrittenMode → Named → Named
with_elem id kind all mode m =
    record m { elems = m.elems ++ record { kind = kind; items = all; mode = mode } ∷ []; names = record m.names { elems = m.names.elems ++ id ∷ [] } }

abbrev pub exactly : ℕ → Limits
exactly n = record { min = n; max = Some n }

abbrev pub filled_table : Option Id → ValType → List WrittenExpr → Named → Named
filled_table id kind all m =
    with_elem None kind all (Active (Numbered (length m.names.tables)) zero_expr) (with_table id (record { kind = kind; limits = exactly (length all) }) m)

abbrev pub elem_word : Form Token
elem_word = do
  there ← opens (codes "elem")
  if there then pass_two else unfit

abbrev pub table_with_elements : Option Id → Named → Form Named
table_with_elements id m = do
  kind ← ref_type
  _ ← elem_word
  all ← entries
  _ ← closing
  _ ← closing
  gives (filled_table id kind all m)

abbrev pub table_definition : Option Id → Named → Form Named
table_definition id m = do
  ty ← table_type
  _ ← closing
  gives (with_table id ty m)

abbrev pub is_ref_type : Option ValType → Bool
is_ref_type None = false
is_ref_type (Some kind) = true

-- told by the first word: a reference type, or a number
abbrev pub table_here : Option Id → Named → Form Named
table_here id m = do
  w ← next_word
  if is_ref_type (ref_type_word w) then table_with_elements id m
      else (if is_number (count_of w) then table_definition id m else unfit)

abbrev pub table_after : Option Id → Named → Form Named
table_after id m = do
  there ← opens (codes "import")
  if there then importing space.Table id m else table_here id m

abbrev pub table_field : Named → Form Named
table_field m = do
  _ ← pass
  id ← maybe_id
  with_exports ← inline_exports space.Table (length m.names.tables) m
  table_after id with_exports

-- ---- memories

abbrev pub with_memory : Option Id → Limits → Named → Named
with_memory id ty m =
    record m { memories = m.memories ++ ty ∷ []; names = record m.names { memories = m.names.memories ++ id ∷ [] } }

abbrev pub with_segment : Option Id → List ℕ → WrittenMode → Named → Named
with_segment id bytes mode m =
    record m { segments = m.segments ++ record { bytes = bytes; mode = mode } ∷ []; names = record m.names { segments = m.names.segments ++ id ∷ [] } }

-- bytes in pages of 65,536, rounded up
abbrev pub pages_of : ℕ → ℕ
pages_of n = (n + 65535) / 65536

abbrev pub filled_memory : Option Id → List ℕ → Named → Named
filled_memory id bytes m =
    with_segment None bytes (Active (Numbered (length m.names.memories)) zero_expr) (with_memory id (exactly (pages_of (length bytes))) m)

-- strings one after another, as their bytes
abbrev pub strings : Form (List ℕ)
strings = do
  parts ← as_long (next_is is_string) string
  gives (flat_map (λ part. part) parts)

abbrev pub memory_with_data : Option Id → Named → Form Named
memory_with_data id m = do
  _ ← pass_two
  bytes ← strings
  _ ← closing
  _ ← closing
  gives (filled_memory id bytes m)

abbrev pub memory_limits : Option Id → Named → Form Named
memory_limits id m = do
  ty ← limits
  _ ← closing
  gives (with_memory id ty m)

abbrev pub memory_definition : Option Id → Named → Form Named
memory_definition id m = do
  w ← next_word
  if is_number (count_of w) then memory_limits id m else unfit

abbrev pub memory_after : Option Id → Named → Form Named
memory_after id m = do
  w ← word_inside
  if bytes_eq w (codes "import") then importing space.Memory id m
      else (if bytes_eq w (codes "data") then memory_with_data id m else memory_definition id m)

abbrev pub memory_field : Named → Form Named
memory_field m = do
  _ ← pass
  id ← maybe_id
  with_exports ← inline_exports space.Memory (length m.names.memories) m
  memory_after id with_exports

-- ---- globals

abbrev pub global_definition : Option Id → Named → Form Named
global_definition id m = do
  ty ← global_type
  init ← instructions
  _ ← closing
  gives (record m { globals = m.globals ++ record { ty = ty; init = init } ∷ []; names = record m.names { globals = m.names.globals ++ id ∷ [] } })

abbrev pub global_after : Option Id → Named → Form Named
global_after id m = do
  there ← opens (codes "import")
  if there then importing space.Global id m else global_definition id m

abbrev pub global_field : Named → Form Named
global_field m = do
  _ ← pass
  id ← maybe_id
  with_exports ← inline_exports space.Global (length m.names.globals) m
  global_after id with_exports

-- ---- exports and starts

abbrev pub export_field : Named → Form Named
export_field m = do
  _ ← pass
  text ← name
  _ ← opening
  what ← space_word
  x ← idx
  _ ← closing
  _ ← closing
  gives (record m { exports = m.exports ++ record { name = text; space = what; index = x } ∷ [] })

-- at the place of the field's parenthesis
abbrev pub start_field : ℕ → Named → Form Named
start_field at m = do
  _ ← pass
  x ← idx
  _ ← closing
  gives (record m { starts = m.starts ++ record { func = x; at = at } ∷ [] })

-- ---- segments

-- the type and the items of an element segment
pub record Elements : Type 0 where
  pub kind : ValType
  pub all : List WrittenExpr

abbrev pub funcs_of : Form Elements
funcs_of = do
  all ← func_items
  gives (record { kind = FuncRef; all = all })

abbrev pub func_list : Form Elements
func_list = do
  _ ← pass
  funcs_of

abbrev pub item_list : Form Elements
item_list = do
  kind ← ref_type
  all ← items
  gives (record { kind = kind; all = all })

abbrev pub elem_list : Form Elements
elem_list = do
  w ← next_word
  if bytes_eq w (codes "func") then func_list else item_list

-- after an offset without a table, indices may stand alone
abbrev pub list_or_indices : Form Elements
list_or_indices = do
  w ← next_word
  if bytes_eq w (codes "func") then func_list
      else (if is_ref_type (ref_type_word w) then item_list else funcs_of)

abbrev pub elem_end : Option Id → WrittenMode → Elements → Named → Form Named
elem_end id mode e m = do
  _ ← closing
  gives (with_elem id e.kind e.all mode m)

abbrev pub passive_elem : Option Id → Named → Form Named
passive_elem id m = do
  e ← elem_list
  elem_end id Passive e m

abbrev pub declared_elem : Option Id → Named → Form Named
declared_elem id m = do
  _ ← pass
  e ← elem_list
  elem_end id Declared e m

-- the index of a table or a memory after its word, in parentheses
abbrev pub index_inside : Form Idx
index_inside = do
  _ ← pass_two
  x ← idx
  _ ← closing
  gives x

abbrev pub elem_on_table : Option Id → Named → Form Named
elem_on_table id m = do
  x ← index_inside
  start ← offset
  e ← elem_list
  elem_end id (Active x start) e m

abbrev pub elem_on_first : Option Id → Named → Form Named
elem_on_first id m = do
  start ← offset
  e ← list_or_indices
  elem_end id (Active (Numbered 0) start) e m

abbrev pub active_elem : Option Id → Named → Form Named
active_elem id m = do
  there ← opens (codes "table")
  if there then elem_on_table id m else elem_on_first id m

abbrev pub unopened_elem : Option Id → Named → Form Named
unopened_elem id m = do
  w ← next_word
  if bytes_eq w (codes "declare") then declared_elem id m else passive_elem id m

abbrev pub elem_field : Named → Form Named
elem_field m = do
  _ ← pass
  id ← maybe_id
  opened ← next_is is_open
  if opened then active_elem id m else unopened_elem id m

abbrev pub memory_index : Form Idx
memory_index = do
  there ← opens (codes "memory")
  if there then index_inside else gives (Numbered 0)

abbrev pub active_mode : Form WrittenMode
active_mode = do
  x ← memory_index
  start ← offset
  gives (Active x start)

abbrev pub data_field : Named → Form Named
data_field m = do
  _ ← pass
  id ← maybe_id
  opened ← next_is is_open
  mode ← if opened then active_mode else gives Passive
  bytes ← strings
  _ ← closing
  gives (with_segment id bytes mode m)

-- ---- fields

abbrev pub field_of : List ℕ → ℕ → Named → Form Named
field_of w at m =
    if bytes_eq w (codes "type") then type_field m
    else (if bytes_eq w (codes "import") then import_field m
    else (if bytes_eq w (codes "func") then func_field m
    else (if bytes_eq w (codes "table") then table_field m
    else (if bytes_eq w (codes "memory") then memory_field m
    else (if bytes_eq w (codes "global") then global_field m
    else (if bytes_eq w (codes "export") then export_field m
    else (if bytes_eq w (codes "start") then start_field at m
    else (if bytes_eq w (codes "elem") then elem_field m
    else (if bytes_eq w (codes "data") then data_field m else want)))))))))

unfoldable pub field : Named → Form Named
field m = do
  at ← place
  _ ← opening
  w ← next_word
  field_of w at m

-- fewer than n fields
abbrev pub fields_below : ℕ → Named → Form Named
fields_below zero m = fails NoMemory
fields_below (suc n) m = do
  more ← next_is is_open
  if more then (field m >>= (λ next. fields_below n next)) else gives m

-- Each field takes a token, so as many as there are tokens, and one more, are enough.
abbrev pub fields : Form Named
fields r = fields_below (suc (length r.tokens)) no_fields r

-- ---- modules

abbrev pub ends_with : {A : Type 0} → A → Option Token → Form A
ends_with x None = gives x
ends_with x (Some t) = want

-- the source ends here
abbrev pub ended : {A : Type 0} → A → Form A
ended x = do
  t ← ahead
  ends_with x t

abbrev pub whole_module : Form Named
whole_module = do
  _ ← pass_two
  _ ← maybe_id
  m ← fields
  _ ← closing
  ended m

abbrev pub fields_alone : Form Named
fields_alone = do
  m ← fields
  ended m

-- a module, or its fields alone
unfoldable pub module_form : Form Named
module_form = do
  there ← opens (codes "module")
  if there then whole_module else fields_alone
