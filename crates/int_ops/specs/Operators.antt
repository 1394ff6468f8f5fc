-- The numeric operators by their opcodes (Binary Format, Instructions: Numeric Instructions; Execution, Numerics).
use Rattle.std.specs.Prelude.{ℕ, ◌/◌, ◌%◌, Bool, true, false, ◌==◌, ◌&&◌, nat_lt, bit_and, bit_or, bit_xor, if◌then◌else◌, List, [], ◌∷◌, Option, Some, None, Result, Ok, Err}
use Rattle.std.specs.Option.{option_map_or}
use Rattle.int_ops.specs.declared.operators.Width.{Width}
use Rattle.int_ops.specs.declared.operators.Width.TheVariants.{W32, W64}
use Rattle.int_ops.specs.declared.operators.Unary.{Unary}
use Rattle.int_ops.specs.declared.operators.Unary.TheVariants.{Eqz, Clz, Ctz, Popcnt, Wrap, ExtendU, Extend8, Extend16, Extend32}
use Rattle.int_ops.specs.declared.operators.Binary.{Binary}
use Rattle.int_ops.specs.declared.operators.Binary.TheVariants.{Eq, Ne, LtS, LtU, GtS, GtU, LeS, LeU, GeS, GeU, Add, Sub, Mul, DivS, DivU, RemS, RemU, And, Or, Xor, Shl, ShrS, ShrU, Rotl, Rotr}
use Rattle.int_ops.specs.declared.operators.Operation.{Operation}
use Rattle.int_ops.specs.declared.operators.Operation.TheVariants.{OfOne, OfTwo}
use Rattle.int_ops.specs.declared.operators.Operator.{Operator}
use Rattle.int_ops.specs.declared.operators.Trap.{Trap}
use Rattle.int_ops.specs.declared.operators.Trap.TheVariants.{DivZero, Overflow}
use Rattle.int_ops.specs.Integers.{eq, ne, lt_s, lt_u, le_s, le_u, add, sub, mul, div_s, rem_s, shl, shr_s, shr_u, rotl, rotr, clz, ctz, popcnt, wrap, extend_s, least, minus_one}

abbrev pub bits_of : Width → ℕ
bits_of W32 = 32
bits_of W64 = 64

-- ---- the table: an opcode, its class, the width of its operands, and the operation

-- the classes with one operand: i32 where a test answers, the operand's width where bits are counted or extended
abbrev pub test : ℕ → Width → Unary → ℕ × Operator
test op width operation = (op, record { operation = OfOne operation; operand = width; result = W32 })

abbrev pub unop : ℕ → Width → Unary → ℕ × Operator
unop op width operation = (op, record { operation = OfOne operation; operand = width; result = width })

abbrev pub conversion : ℕ → Width → Width → Unary → ℕ × Operator
conversion op from to operation = (op, record { operation = OfOne operation; operand = from; result = to })

-- the classes with two operands: i32 where a comparison answers, else the operands' width
abbrev pub comparison : ℕ → Width → Binary → ℕ × Operator
comparison op width operation = (op, record { operation = OfTwo operation; operand = width; result = W32 })

abbrev pub binop : ℕ → Width → Binary → ℕ × Operator
binop op width operation = (op, record { operation = OfTwo operation; operand = width; result = width })

abbrev pub operators : List (ℕ × Operator)
operators =
    test 0x45 W32 Eqz ∷
    comparison 0x46 W32 Eq ∷
    comparison 0x47 W32 Ne ∷
    comparison 0x48 W32 LtS ∷
    comparison 0x49 W32 LtU ∷
    comparison 0x4A W32 GtS ∷
    comparison 0x4B W32 GtU ∷
    comparison 0x4C W32 LeS ∷
    comparison 0x4D W32 LeU ∷
    comparison 0x4E W32 GeS ∷
    comparison 0x4F W32 GeU ∷
    test 0x50 W64 Eqz ∷
    comparison 0x51 W64 Eq ∷
    comparison 0x52 W64 Ne ∷
    comparison 0x53 W64 LtS ∷
    comparison 0x54 W64 LtU ∷
    comparison 0x55 W64 GtS ∷
    comparison 0x56 W64 GtU ∷
    comparison 0x57 W64 LeS ∷
    comparison 0x58 W64 LeU ∷
    comparison 0x59 W64 GeS ∷
    comparison 0x5A W64 GeU ∷
    unop 0x67 W32 Clz ∷
    unop 0x68 W32 Ctz ∷
    unop 0x69 W32 Popcnt ∷
    binop 0x6A W32 Add ∷
    binop 0x6B W32 Sub ∷
    binop 0x6C W32 Mul ∷
    binop 0x6D W32 DivS ∷
    binop 0x6E W32 DivU ∷
    binop 0x6F W32 RemS ∷
    binop 0x70 W32 RemU ∷
    binop 0x71 W32 And ∷
    binop 0x72 W32 Or ∷
    binop 0x73 W32 Xor ∷
    binop 0x74 W32 Shl ∷
    binop 0x75 W32 ShrS ∷
    binop 0x76 W32 ShrU ∷
    binop 0x77 W32 Rotl ∷
    binop 0x78 W32 Rotr ∷
    unop 0x79 W64 Clz ∷
    unop 0x7A W64 Ctz ∷
    unop 0x7B W64 Popcnt ∷
    binop 0x7C W64 Add ∷
    binop 0x7D W64 Sub ∷
    binop 0x7E W64 Mul ∷
    binop 0x7F W64 DivS ∷
    binop 0x80 W64 DivU ∷
    binop 0x81 W64 RemS ∷
    binop 0x82 W64 RemU ∷
    binop 0x83 W64 And ∷
    binop 0x84 W64 Or ∷
    binop 0x85 W64 Xor ∷
    binop 0x86 W64 Shl ∷
    binop 0x87 W64 ShrS ∷
    binop 0x88 W64 ShrU ∷
    binop 0x89 W64 Rotl ∷
    binop 0x8A W64 Rotr ∷
    conversion 0xA7 W64 W32 Wrap ∷
    conversion 0xAC W32 W64 Extend32 ∷
    conversion 0xAD W32 W64 ExtendU ∷
    unop 0xC0 W32 Extend8 ∷
    unop 0xC1 W32 Extend16 ∷
    unop 0xC2 W64 Extend8 ∷
    unop 0xC3 W64 Extend16 ∷
    unop 0xC4 W64 Extend32 ∷ []

abbrev pub find_operator : ℕ → List (ℕ × Operator) → Option Operator
find_operator op [] = None
find_operator op (row ∷ rest) = if op == row.0 then Some row.1 else find_operator op rest

-- the operator of an opcode; None where the opcode is of no numeric operator
unfoldable pub operator_of : ℕ → Option Operator
operator_of op = find_operator op operators

-- ---- what an opcode says of words

abbrev pub is_of_one : Operation → Bool
is_of_one (OfOne operation) = true
is_of_one (OfTwo operation) = false

abbrev pub is_of_two : Operation → Bool
is_of_two (OfOne operation) = false
is_of_two (OfTwo operation) = true

-- whether the opcode is of an operator with one operand, or with two
abbrev pub is_unary : ℕ → Bool
is_unary op = option_map_or (λ o. is_of_one o.operation) (operator_of op) false

abbrev pub is_binary : ℕ → Bool
is_binary op = option_map_or (λ o. is_of_two o.operation) (operator_of op) false

-- how many bits the operands have, and how many the result has
abbrev pub operand_bits : ℕ → ℕ
operand_bits op = option_map_or (λ o. bits_of o.operand) (operator_of op) 0

abbrev pub result_bits : ℕ → ℕ
result_bits op = option_map_or (λ o. bits_of o.result) (operator_of op) 0

-- ---- one operand

-- what the operation gives of an x of M bits, as an integer of N bits
abbrev pub unary_value : Unary → ℕ → ℕ → ℕ → ℕ
unary_value Eqz M N x = eq x 0
unary_value Clz M N x = clz M x
unary_value Ctz M N x = ctz M x
unary_value Popcnt M N x = popcnt x
unary_value Wrap M N x = wrap N x
unary_value ExtendU M N x = x
unary_value Extend8 M N x = extend_s 8 N x
unary_value Extend16 M N x = extend_s 16 N x
unary_value Extend32 M N x = extend_s 32 N x

abbrev pub of_one : Operation → ℕ → ℕ → ℕ → ℕ
of_one (OfOne operation) M N x = unary_value operation M N x
of_one (OfTwo operation) M N x = 0

-- what the operator of a unary opcode gives
abbrev pub unary : ℕ → ℕ → ℕ
unary op x = option_map_or (λ o. of_one o.operation (bits_of o.operand) (bits_of o.result) x) (operator_of op) 0

-- ---- two operands

-- what the operation gives of x and y of N bits, where it is defined
abbrev pub binary_value : Binary → ℕ → ℕ → ℕ → ℕ
binary_value Eq N x y = eq x y
binary_value Ne N x y = ne x y
binary_value LtS N x y = lt_s N x y
binary_value LtU N x y = lt_u x y
binary_value GtS N x y = lt_s N y x
binary_value GtU N x y = lt_u y x
binary_value LeS N x y = le_s N x y
binary_value LeU N x y = le_u x y
binary_value GeS N x y = le_s N y x
binary_value GeU N x y = le_u y x
binary_value Add N x y = add N x y
binary_value Sub N x y = sub N x y
binary_value Mul N x y = mul N x y
binary_value DivS N x y = div_s N x y
binary_value DivU N x y = x / y
binary_value RemS N x y = rem_s N x y
binary_value RemU N x y = x % y
binary_value And N x y = bit_and x y
binary_value Or N x y = bit_or x y
binary_value Xor N x y = bit_xor x y
binary_value Shl N x y = shl N x y
binary_value ShrS N x y = shr_s N x y
binary_value ShrU N x y = shr_u N x y
binary_value Rotl N x y = rotl N x y
binary_value Rotr N x y = rotr N x y

abbrev pub divides : Binary → Bool
divides DivS = true
divides DivU = true
divides RemS = true
divides RemU = true
divides operation = false

abbrev pub is_div_s : Binary → Bool
is_div_s DivS = true
is_div_s operation = false

-- It is not defined, and traps, where it divides by 0, and where a signed quotient would be 2^(N-1): the least by -1.
abbrev pub partial_value : Binary → ℕ → ℕ → ℕ → Result ℕ Trap
partial_value operation N x y =
    if divides operation && y == 0 then Err DivZero
    else if is_div_s operation && x == least N && y == minus_one N then Err Overflow
    else Ok (binary_value operation N x y)

-- Division by 0 in SMT-LIB's theory of bit-vectors: an unsigned quotient is all ones, a signed one -1 where x isn't
-- negative, else 1; a remainder is x.
abbrev pub by_zero : Binary → ℕ → ℕ → ℕ
by_zero DivU N x = minus_one N
by_zero DivS N x = if nat_lt x (least N) then minus_one N else 1
by_zero operation N x = x

-- The same without traps, as in that theory, where the least by -1 is the least.
abbrev pub total_value : Binary → ℕ → ℕ → ℕ → ℕ
total_value operation N x y =
    if divides operation && y == 0 then by_zero operation N x else binary_value operation N x y

abbrev pub of_two : Operation → ℕ → ℕ → ℕ → Result ℕ Trap
of_two (OfOne operation) N x y = Ok 0
of_two (OfTwo operation) N x y = partial_value operation N x y

abbrev pub of_two_total : Operation → ℕ → ℕ → ℕ → ℕ
of_two_total (OfOne operation) N x y = 0
of_two_total (OfTwo operation) N x y = total_value operation N x y

-- what the operator of a binary opcode gives, or why it traps
abbrev pub binary : ℕ → ℕ → ℕ → Result ℕ Trap
binary op x y = option_map_or (λ o. of_two o.operation (bits_of o.operand) x y) (operator_of op) (Ok 0)

-- what it gives where nothing traps
abbrev pub total : ℕ → ℕ → ℕ → ℕ
total op x y = option_map_or (λ o. of_two_total o.operation (bits_of o.operand) x y) (operator_of op) 0
