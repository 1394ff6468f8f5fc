-- How types and strings are printed (Text Format: Types; Values, Strings). A text is the list of its bytes, numbers are decimal.
use Rattle.std.specs.Prelude.{ℕ, zero, suc, ◌/◌, ◌%◌, ◌==◌, ◌&&◌, nat_le, not, Bool, false, if◌then◌else◌, List, [], ◌∷◌, ◌++◌, Option, Some, None, flat_map, codes, decimal}
use Rattle.std.specs.Fmt.{digit_glyph}
use Rattle.wasm_ast.specs.declared.types.ValType.{ValType}
use Rattle.wasm_ast.specs.declared.types.ValType.TheVariants.{I32, I64, FuncRef, ExternRef}
use Rattle.wasm_ast.specs.declared.types.FuncType.{FuncType}
use Rattle.wasm_ast.specs.declared.types.Limits.{Limits}
use Rattle.wasm_ast.specs.declared.types.TableType.{TableType}
use Rattle.wasm_ast.specs.declared.types.GlobalType.{GlobalType}
use Rattle.wasm_ast.specs.declared.types.BlockType.{BlockType}
use Rattle.wasm_ast.specs.declared.types.BlockType.TheVariants.{Empty, One, Index}
use Rattle.wasm_ast.specs.declared.modules.Group.{Group}

-- ---- strings

-- the bytes 20 to 7E but the quote and the backslash
abbrev pub is_plain : ℕ → Bool
is_plain byte = nat_le 0x20 byte && nat_le byte 0x7E && not (byte == 0x22) && not (byte == 0x5C)

-- a byte of a string: itself, or a backslash and two hexadecimal digits, in lower case
abbrev pub string_byte : ℕ → List ℕ
string_byte byte =
    if is_plain byte then byte ∷ []
    else codes "\\" ++ digit_glyph false (byte / 16) ∷ digit_glyph false (byte % 16) ∷ []

abbrev pub string_text : List ℕ → List ℕ
string_text bytes = codes "\"" ++ flat_map string_byte bytes ++ codes "\""

-- ---- types

abbrev pub type_word : ValType → List ℕ
type_word I32 = codes "i32"
type_word I64 = codes "i64"
type_word FuncRef = codes "funcref"
type_word ExternRef = codes "externref"

-- a type after a space
abbrev pub next_type : ValType → List ℕ
next_type kind = codes " " ++ type_word kind

-- the types of a part in parentheses, after a space, where there are any
abbrev pub part_text : List ℕ → List ValType → List ℕ
part_text word [] = []
part_text word (kind ∷ kinds) = codes " (" ++ word ++ flat_map next_type (kind ∷ kinds) ++ codes ")"

abbrev pub func_type_text : FuncType → List ℕ
func_type_text ty = codes "(func" ++ part_text (codes "param") ty.params ++ part_text (codes "result") ty.results ++ codes ")"

abbrev pub max_text : Option ℕ → List ℕ
max_text None = []
max_text (Some max) = codes " " ++ decimal max

abbrev pub limits_text : Limits → List ℕ
limits_text limits = decimal limits.min ++ max_text limits.max

abbrev pub table_type_text : TableType → List ℕ
table_type_text ty = limits_text ty.limits ++ codes " " ++ type_word ty.kind

abbrev pub global_type_text : GlobalType → List ℕ
global_type_text ty = if ty.mutable then codes "(mut " ++ type_word ty.kind ++ codes ")" else type_word ty.kind

-- what a block takes and gives, after its word
abbrev pub block_type_text : BlockType → List ℕ
block_type_text Empty = []
block_type_text (One kind) = codes " (result " ++ type_word kind ++ codes ")"
block_type_text (Index index) = codes " (type " ++ decimal index ++ codes ")"

-- a text so many times
abbrev pub copies : ℕ → List ℕ → List ℕ
copies zero text = []
copies (suc n) text = copies n text ++ text

abbrev pub group_text : Group → List ℕ
group_text g = copies g.count (next_type g.kind)

-- the locals of a function, where it has any
abbrev pub locals_text : List Group → List ℕ
locals_text [] = []
locals_text (g ∷ groups) = codes " (local" ++ flat_map group_text (g ∷ groups) ++ codes ")"
