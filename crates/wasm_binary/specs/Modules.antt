-- Modules in bytes (Binary Format, Modules): which bytes spell which module, and the first trouble of those that spell none.
use Rattle.std.specs.Prelude.{◌≡◌, ◌≢◌, ℕ, zero, suc, ◌+◌, ◌-◌, ◌<◌, ◌⊎◌, List, [], ◌∷◌, ◌++◌, length, map, ◌==◌, nat_lt, nat_le, if◌then◌else◌, Option, Some, None, is_some, Ok, Err}
use Rattle.grammar_forms.specs.Forms.{Window, Between, ◌>>=◌, gives, any_byte, checked, many, measured, within, when◌form◌else◌}
use Rattle.wasm_ast.specs.Sections.{is_written}
use Rattle.wasm_ast.specs.declared.types.FuncType.{FuncType}
use Rattle.wasm_ast.specs.declared.types.Limits.{Limits}
use Rattle.wasm_ast.specs.declared.types.TableType.{TableType}
use Rattle.wasm_ast.specs.declared.modules.Import.{Import}
use Rattle.wasm_ast.specs.declared.modules.Func.{Func}
use Rattle.wasm_ast.specs.declared.modules.GlobalDef.{GlobalDef}
use Rattle.wasm_ast.specs.declared.modules.Export.{Export}
use Rattle.wasm_ast.specs.declared.modules.Elem.{Elem}
use Rattle.wasm_ast.specs.declared.modules.Segment.{Segment}
use Rattle.wasm_ast.specs.declared.modules.Custom.{Custom}
use Rattle.wasm_ast.specs.declared.modules.Module.{Module}
use Rattle.wasm_binary.specs.Faults.{Fault, cut, magic, byte, order, size, count}
use Rattle.wasm_binary.specs.Values.{Grammar, Test, u32, vec, name}
use Rattle.wasm_binary.specs.Types.{func_type, limits, table_type}
use Rattle.wasm_binary.specs.SectionEntries.{import, global, export, elem, segment}
use Rattle.wasm_binary.specs.Locals.{Code, code}

-- what the sections so far hold
pub record Sections : Type 0 where
  -- the slot of the last section, custom ones aside; 0 where there is none
  pub slot : ℕ
  pub types : List FuncType
  pub imports : List Import
  -- the functions' types
  pub type_indices : List ℕ
  pub tables : List TableType
  pub memories : List Limits
  pub globals : List GlobalDef
  pub exports : List Export
  pub start : Option ℕ
  pub elems : List Elem
  pub data_count : Option ℕ
  pub codes : List Code
  pub segments : List Segment
  -- the custom sections, each after the slot at which it stands
  pub customs : List Custom

abbrev pub no_sections : Sections
no_sections = record {
  slot = 0;
  types = [];
  imports = [];
  type_indices = [];
  tables = [];
  memories = [];
  globals = [];
  exports = [];
  start = None;
  elems = [];
  data_count = None;
  codes = [];
  segments = [];
  customs = [];
}

-- ---- one section

-- The section's place among all, by its id: 1 to 9 for types to elements, then data count, code and data.
abbrev pub slot_of : ℕ → ℕ
slot_of id = if id == 12 then 10 else (if nat_le 10 id then id + 1 else id)

-- an id that may come next: a custom section's, or one whose slot is later than those so far
abbrev pub next_id : Sections → Test ℕ ℕ
next_id s id =
    if nat_lt 12 id then Err byte
    else (if id == 0 then Ok id else (if nat_lt s.slot (slot_of id) then Ok id else Err order))

-- a count that is to be the same as an earlier one
abbrev pub same_count : ℕ → Test ℕ ℕ
same_count earlier n = if n == earlier then Ok n else Err (count earlier n)

abbrev pub same_as_announced : Option ℕ → Test ℕ ℕ
same_as_announced None n = Ok n
same_as_announced (Some earlier) n = same_count earlier n

-- a custom section of this length: a name and the bytes after it
abbrev pub custom : ℕ → ℕ → Grammar Custom
custom slot len = do
  called ← measured name
  bytes ← many any_byte (len - called.1)
  gives (record { after = slot; name = called.0; bytes = bytes })

abbrev pub code_section : Sections → Grammar (List Code)
code_section s = do
  n ← checked u32 (same_count (length s.type_indices))
  many (code (is_some s.data_count)) n

abbrev pub data_section : Sections → Grammar (List Segment)
data_section s = do
  n ← checked u32 (same_as_announced s.data_count)
  many segment n

-- what a value makes of the sections
abbrev pub into : {A : Type 0} → Grammar A → (A → Sections) → Grammar Sections
into f add = do
  x ← f
  gives (add x)

-- the contents of a section, by its id and length
abbrev pub contents : Sections → ℕ → ℕ → Grammar Sections
contents s id len =
    when id == 0 form into (custom s.slot len) (λ x. record s { customs = s.customs ++ x ∷ [] }) else
    when id == 1 form into (vec func_type) (λ xs. record s { slot = 1; types = xs }) else
    when id == 2 form into (vec import) (λ xs. record s { slot = 2; imports = xs }) else
    when id == 3 form into (vec u32) (λ xs. record s { slot = 3; type_indices = xs }) else
    when id == 4 form into (vec table_type) (λ xs. record s { slot = 4; tables = xs }) else
    when id == 5 form into (vec limits) (λ xs. record s { slot = 5; memories = xs }) else
    when id == 6 form into (vec global) (λ xs. record s { slot = 6; globals = xs }) else
    when id == 7 form into (vec export) (λ xs. record s { slot = 7; exports = xs }) else
    when id == 8 form into u32 (λ x. record s { slot = 8; start = Some x }) else
    when id == 9 form into (vec elem) (λ xs. record s { slot = 9; elems = xs }) else
    when id == 12 form into u32 (λ x. record s { slot = 10; data_count = Some x }) else
    when id == 10 form into (code_section s) (λ xs. record s { slot = 11; codes = xs }) else
    into (data_section s) (λ xs. record s { slot = 12; segments = xs })

-- a length and contents of this length
abbrev pub sized_contents : Sections → ℕ → Grammar Sections
sized_contents s id = do
  len ← u32
  within size len (contents s id len)

-- one section more: its id, its length and its contents
abbrev pub section : Sections → Grammar Sections
section s = do
  id ← checked any_byte (next_id s)
  sized_contents s id

-- ---- a whole module

-- a byte of the magic number or the version
abbrev pub fixed_byte : ℕ → Test ℕ ℕ
fixed_byte b x = if x == b then Ok x else Err magic

abbrev pub fixed_bytes : List ℕ → Grammar ℕ
fixed_bytes [] = gives 0
fixed_bytes (b ∷ rest) = do
  _ ← checked any_byte (fixed_byte b)
  fixed_bytes rest

-- the magic number and the version
abbrev pub front : Grammar ℕ
front = fixed_bytes (0x00 ∷ 0x61 ∷ 0x73 ∷ 0x6D ∷ 0x01 ∷ 0x00 ∷ 0x00 ∷ 0x00 ∷ [])

-- so many sections
abbrev pub sections : ℕ → Sections → Grammar Sections
sections zero s = gives s
sections (suc n) s = do
  more ← section s
  sections n more

-- the front and so many sections
abbrev pub front_and_sections : ℕ → Grammar Sections
front_and_sections n = do
  _ ← front
  sections n no_sections

-- ---- the module

-- the functions, each of a type and a code
abbrev pub funcs_of : List ℕ → List Code → List Func
funcs_of (ty ∷ types) (c ∷ codes) = record { ty = ty; locals = c.locals; body = c.body } ∷ funcs_of types codes
funcs_of types codes = []

abbrev pub without_customs : Sections → Module
without_customs s = record {
  types = s.types;
  imports = s.imports;
  funcs = funcs_of s.type_indices s.codes;
  tables = s.tables;
  memories = s.memories;
  globals = s.globals;
  exports = s.exports;
  start = s.start;
  elems = s.elems;
  segments = s.segments;
  customs = [];
}

-- the last slot up to this one whose section is written; 0 where there is none
abbrev pub last_written : Module → ℕ → ℕ
last_written m zero = zero
last_written m (suc slot) = if is_written m (suc slot) then suc slot else last_written m slot

-- a custom section stands after the last section before it that is written
abbrev pub settled : Module → Custom → Custom
settled m c = record c { after = last_written m c.after }

abbrev pub module_of : Sections → Module
module_of s = let m = without_customs s in record m { customs = map (settled m) s.customs }

-- each function has its code, and so many data segments are there as were announced
pub record HaveTheirCounts (s : Sections) : Type 0 where
  pub codes : length s.type_indices ≡ length s.codes
  pub segments : (n : ℕ) → s.data_count ≡ Some n → n ≡ length s.segments

-- ---- the two statements

-- the bytes as a whole spell the module
pub record IsBinary (m : Module) (bytes : List ℕ) : Type 0 where
  pub section_count : ℕ
  pub all : Sections
  pub spelled : (front_and_sections section_count).Spells all bytes
  pub counts : HaveTheirCounts all
  pub is : m ≡ module_of all

-- the window of all bytes
abbrev pub whole : List ℕ → Window Fault
whole bytes = record { bytes = bytes; ended = cut (length bytes) }

-- counts that differ at the end of the bytes, since the later section is missing; that of functions and codes comes first
abbrev pub CountFault : Sections → ℕ → Fault → Type 0
CountFault s at fault =
    ((length s.type_indices ≢ length s.codes) × (fault ≡ count (length s.type_indices) (length s.codes) at))
    ⊎ ((length s.type_indices ≡ length s.codes) × (n : ℕ) × (s.data_count ≡ Some n) × (n ≢ length s.segments)
    × (fault ≡ count n (length s.segments) at))

-- The first trouble of the bytes: in the front; or after a front and so many sections, in the next section, where a byte is
-- left, or in the counts, where none is.
abbrev pub BinaryFault : List ℕ → Fault → Type 0
BinaryFault bytes fault =
    front.Trouble (whole bytes) 0 fault
    ⊎ ((n : ℕ) × (s : Sections) × (at : ℕ) × Between bytes 0 at ((front_and_sections n).Spells s)
    × (((at < length bytes) × (section s).Trouble (whole bytes) at fault) ⊎ ((at ≡ length bytes) × CountFault s at fault)))
