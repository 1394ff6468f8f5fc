-- The types of operators, loads and stores, by opcode byte (Validation, Instructions: Numeric and Memory Instructions;
-- Binary Format, Instructions).
use Rattle.std.specs.Prelude.{ℕ, List, [], ◌∷◌, Option, Some, None, ◌==◌, ◌||◌, if◌then◌else◌}
use Rattle.wasm_ast.specs.declared.types.ValType.{ValType}
use Rattle.wasm_ast.specs.declared.types.ValType.TheVariants.{I32, I64}
use Rattle.wasm_ast.specs.declared.types.FuncType.{FuncType}
use Rattle.wasm_ast.specs.Opcodes.{is_from}

-- [params] → [results]
abbrev pub arrow : List ValType → List ValType → FuncType
arrow params results = record { params = params; results = results }

-- one operand of the first type gives one of the second; two of the first give one of the second
abbrev pub unary : ValType → ValType → FuncType
unary t u = arrow (t ∷ []) (u ∷ [])

abbrev pub binary : ValType → ValType → FuncType
binary t u = arrow (t ∷ t ∷ []) (u ∷ [])

-- Of i32: eqz; clz, ctz and popcnt; extend8_s and extend16_s. Of two: the comparisons; the operators from add to rotr.
-- Of i64: eqz and i32.wrap_i64, which give an i32; clz, ctz and popcnt, and extend8_s to extend32_s. Of two: the
-- comparisons, which give an i32; the operators from add to rotr. i64.extend_i32_s and i64.extend_i32_u. No other.
abbrev pub operator_type : ℕ → Option FuncType
operator_type op =
    if op == 0x45 || is_from 0x67 0x69 op || is_from 0xC0 0xC1 op then Some (unary I32 I32) else
    if is_from 0x46 0x4F op || is_from 0x6A 0x78 op then Some (binary I32 I32) else
    if op == 0x50 || op == 0xA7 then Some (unary I64 I32) else
    if is_from 0x79 0x7B op || is_from 0xC2 0xC4 op then Some (unary I64 I64) else
    if is_from 0x51 0x5A op then Some (binary I64 I32) else
    if is_from 0x7C 0x8A op then Some (binary I64 I64) else
    if is_from 0xAC 0xAD op then Some (unary I32 I64) else None

-- i32.load, i32.load8_s to i32.load16_u; i32.store, i32.store8 and i32.store16 are of i32, the others of i64
abbrev pub accessed_type : ℕ → ValType
accessed_type op =
    if op == 0x28 || is_from 0x2C 0x2F op || op == 0x36 || is_from 0x3A 0x3B op then I32 else I64

-- how many bytes a load or store accesses: 1 in load8_s, load8_u and store8, 2 in load16_s, load16_u and store16, 4 in
-- i32.load, i32.store, i64.load32_s, i64.load32_u and i64.store32, 8 in i64.load and i64.store
abbrev pub accessed_bytes : ℕ → ℕ
accessed_bytes op =
    if is_from 0x2C 0x2D op || is_from 0x30 0x31 op || op == 0x3A || op == 0x3C then 1 else
    if is_from 0x2E 0x2F op || is_from 0x32 0x33 op || op == 0x3B || op == 0x3D then 2 else
    if op == 0x28 || is_from 0x34 0x35 op || op == 0x36 || op == 0x3E then 4 else 8
