-- Types in bytes (Binary Format, Types; block types: Instructions, Control Instructions).
use Rattle.std.specs.Prelude.{ℕ, ℤ, pos, negsuc, ◌==◌, nat_lt, if◌then◌else◌, Option, Some, None, Result, Ok, Err}
use Rattle.grammar_forms.specs.Forms.{◌>>=◌, gives, any_byte, checked, by_first, when◌form◌else◌}
use Rattle.wasm_ast.specs.Opcodes.{is_from}
use Rattle.wasm_ast.specs.declared.types.ValType.{ValType}
use Rattle.wasm_ast.specs.declared.types.ValType.TheVariants.{I32, I64, FuncRef, ExternRef}
use Rattle.wasm_ast.specs.declared.types.FuncType.{FuncType}
use Rattle.wasm_ast.specs.declared.types.Limits.{Limits}
use Rattle.wasm_ast.specs.declared.types.TableType.{TableType}
use Rattle.wasm_ast.specs.declared.types.GlobalType.{GlobalType}
use Rattle.wasm_ast.specs.declared.types.BlockType.{BlockType}
use Rattle.wasm_ast.specs.declared.types.BlockType.TheVariants.{Empty, One, Index}
use Rattle.wasm_binary.specs.Faults.{Fault, byte, outside}
use Rattle.wasm_binary.specs.Values.{Grammar, Test, u32, s33, tag, vec}

abbrev pub ref_type_of : Test ℕ ValType
ref_type_of b = if b == 0x70 then Ok FuncRef else (if b == 0x6F then Ok ExternRef else Err byte)

-- f32, f64 and v128 are outside
abbrev pub val_type_of : Test ℕ ValType
val_type_of b =
    if b == 0x7F then Ok I32 else (if b == 0x7E then Ok I64 else (if is_from 0x7B 0x7D b then Err outside else ref_type_of b))

abbrev pub ref_type : Grammar ValType
ref_type = checked any_byte ref_type_of

abbrev pub val_type : Grammar ValType
val_type = checked any_byte val_type_of

abbrev pub func_type : Grammar FuncType
func_type = do
  _ ← tag 0x60
  params ← vec val_type
  results ← vec val_type
  gives (record { params = params; results = results })

-- one of the bytes 0, 1, .. below a bound
abbrev pub below : ℕ → Test ℕ ℕ
below bound n = if nat_lt n bound then Ok n else Err byte

abbrev pub one_of : ℕ → Grammar ℕ
one_of bound = checked any_byte (below bound)

abbrev pub maximum : ℕ → Grammar (Option ℕ)
maximum bounded =
    when bounded == 1
    form (do
      n ← u32
      gives (Some n))
    else gives None

abbrev pub limits : Grammar Limits
limits = do
  bounded ← one_of 2
  min ← u32
  max ← maximum bounded
  gives (record { min = min; max = max })

abbrev pub table_type : Grammar TableType
table_type = do
  kind ← ref_type
  size ← limits
  gives (record { kind = kind; limits = size })

abbrev pub global_type : Grammar GlobalType
global_type = do
  kind ← val_type
  mutable ← one_of 2
  gives (record { kind = kind; mutable = mutable == 1 })

-- ---- block types

abbrev pub one_type : Result ValType (ℕ → Fault) → Result BlockType (ℕ → Fault)
one_type (Ok kind) = Ok (One kind)
one_type (Err fault) = Err fault

-- a block type of one byte; the others of these bytes would be negative numbers
abbrev pub short_block_type : Test ℕ BlockType
short_block_type b = if b == 0x40 then Ok Empty else one_type (val_type_of b)

abbrev pub type_index : Test ℤ BlockType
type_index (pos n) = Ok (Index n)
type_index (negsuc n) = Err byte

abbrev pub block_type : Grammar BlockType
block_type = by_first (is_from 0x40 0x7F) (checked any_byte short_block_type) (checked s33 type_index)
