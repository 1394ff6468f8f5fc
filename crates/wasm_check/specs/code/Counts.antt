-- How the code judges constant expressions: by a count of operands. All instructions of one that gives a value of a type give
-- values of that type, since the operators give the type that they take.
use Rattle.std.specs.Prelude.{ℕ, ◌+◌, ◌-◌, List, [], ◌∷◌, Option, Some, None, Bool, false, not, ◌&&◌, nat_lt, ◌==◌, slice_get}
use Rattle.wasm_ast.specs.Opcodes.{is_from}
use Rattle.wasm_ast.specs.declared.types.ValType.{ValType}
use Rattle.wasm_ast.specs.declared.types.ValType.TheVariants.{I32, I64, FuncRef}
use Rattle.wasm_ast.specs.declared.types.GlobalType.{GlobalType}
use Rattle.wasm_ast.specs.declared.instructions.Instr.{Instr}
use Rattle.wasm_ast.specs.declared.instructions.Instr.TheVariants.{Const32, Const64, RefNull, RefFunc, GlobalGet, Num}
use Rattle.wasm_check.specs.Operands.{same_type}
use Rattle.wasm_check.specs.code.Checker.{when}

abbrev pub is_immutable : Option GlobalType → ValType → Bool
is_immutable None kind = false
is_immutable (Some type) kind = same_type type.kind kind && not type.mutable

-- the instruction puts a constant of the type on the operands
abbrev pub puts : ℕ → List GlobalType → Instr → ValType → Bool
puts funcs globals (Const32 n) kind = same_type I32 kind
puts funcs globals (Const64 n) kind = same_type I64 kind
puts funcs globals (RefNull null) kind = same_type null kind
puts funcs globals (RefFunc x) kind = same_type FuncRef kind && nat_lt x funcs
puts funcs globals (GlobalGet x) kind = is_immutable (slice_get globals x) kind
puts funcs globals _ kind = false

-- the operator is constant, and takes and gives the type
abbrev pub combines : ℕ → ValType → Bool
combines op I32 = is_from 0x6A 0x6C op
combines op I64 = is_from 0x7C 0x7E op
combines op _ = false

-- how many operands there are after the instruction, of which there were d
abbrev pub depth_after : ℕ → List GlobalType → ValType → ℕ → Instr → Option ℕ
depth_after funcs globals kind d (Num op) = when (combines op kind) (when (nat_lt 1 d) (Some (d - 1)))
depth_after funcs globals kind d i = when (puts funcs globals i kind) (Some (d + 1))

abbrev pub from_depth : Option ℕ → (ℕ → Bool) → Bool
from_depth None go = false
from_depth (Some d) go = go d

-- the instructions leave one operand, where there are d
abbrev pub leaves_one : ℕ → List GlobalType → ValType → List Instr → ℕ → Bool
leaves_one funcs globals kind [] d = d == 1
leaves_one funcs globals kind (i ∷ is) d = from_depth (depth_after funcs globals kind d i) (leaves_one funcs globals kind is)
