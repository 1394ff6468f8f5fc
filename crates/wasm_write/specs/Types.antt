-- Types (Binary Format, Types; block types: Instructions, Control Instructions).
use Rattle.std.specs.Prelude.{ℕ, pos, List, [], ◌∷◌, ◌++◌, Bool, Option, Some, None, if◌then◌else◌}
use Rattle.owi_base.specs.Leb.{unsigned_bytes, signed_bytes}
use Rattle.wasm_ast.specs.declared.types.ValType.{ValType}
use Rattle.wasm_ast.specs.declared.types.ValType.TheVariants.{I32, I64, FuncRef, ExternRef}
use Rattle.wasm_ast.specs.declared.types.FuncType.{FuncType}
use Rattle.wasm_ast.specs.declared.types.Limits.{Limits}
use Rattle.wasm_ast.specs.declared.types.TableType.{TableType}
use Rattle.wasm_ast.specs.declared.types.GlobalType.{GlobalType}
use Rattle.wasm_ast.specs.declared.types.BlockType.{BlockType}
use Rattle.wasm_ast.specs.declared.types.BlockType.TheVariants.{Empty, One, Index}
use Rattle.wasm_write.specs.Values.{vec_bytes}

abbrev pub type_byte : ValType → ℕ
type_byte I32 = 0x7F
type_byte I64 = 0x7E
type_byte FuncRef = 0x70
type_byte ExternRef = 0x6F

abbrev pub val_type_bytes : ValType → List ℕ
val_type_bytes kind = type_byte kind ∷ []

abbrev pub func_type_bytes : FuncType → List ℕ
func_type_bytes ty = 0x60 ∷ vec_bytes val_type_bytes ty.params ++ vec_bytes val_type_bytes ty.results

-- a least size, and a greatest where there is one
abbrev pub sizes_bytes : ℕ → Option ℕ → List ℕ
sizes_bytes min None = 0x00 ∷ unsigned_bytes min
sizes_bytes min (Some max) = 0x01 ∷ unsigned_bytes min ++ unsigned_bytes max

abbrev pub limits_bytes : Limits → List ℕ
limits_bytes limits = sizes_bytes limits.min limits.max

abbrev pub table_type_bytes : TableType → List ℕ
table_type_bytes ty = type_byte ty.kind ∷ limits_bytes ty.limits

abbrev pub mutable_byte : Bool → ℕ
mutable_byte mutable = if mutable then 0x01 else 0x00

abbrev pub global_type_bytes : GlobalType → List ℕ
global_type_bytes ty = type_byte ty.kind ∷ mutable_byte ty.mutable ∷ []

-- the index of a type is a signed number, and never negative
abbrev pub block_type_bytes : BlockType → List ℕ
block_type_bytes Empty = 0x40 ∷ []
block_type_bytes (One kind) = type_byte kind ∷ []
block_type_bytes (Index index) = signed_bytes (pos index)
