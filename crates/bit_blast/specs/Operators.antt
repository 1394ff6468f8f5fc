-- The wires of the results of the integer operators, by their opcodes.
use Rattle.std.specs.Prelude.{ℕ, ◌-◌, [], ◌∷◌, ◌++◌, length, map, take, replicate, reverse, Option, Some, None}
use Rattle.int_ops.specs.declared.operators.Width.{Width}
use Rattle.int_ops.specs.declared.operators.Width.TheVariants.{W32, W64}
use Rattle.int_ops.specs.declared.operators.Unary.{Unary}
use Rattle.int_ops.specs.declared.operators.Unary.TheVariants.{Eqz, Clz, Ctz, Popcnt, Wrap, ExtendU, Extend8, Extend16, Extend32}
use Rattle.int_ops.specs.declared.operators.Binary.{Binary}
use Rattle.int_ops.specs.declared.operators.Binary.TheVariants.{Eq, Ne, LtS, LtU, GtS, GtU, LeS, LeU, GeS, GeU, Add, Sub, Mul, DivS, DivU, RemS, RemU, And as AndOf, Or as OrOf, Xor as XorOf, Shl, ShrS, ShrU, Rotl, Rotr}
use Rattle.int_ops.specs.declared.operators.Operation.{Operation}
use Rattle.int_ops.specs.declared.operators.Operation.TheVariants.{OfOne, OfTwo}
use Rattle.int_ops.specs.declared.operators.Operator.{Operator}
use Rattle.int_ops.specs.Operators.{bits_of, operator_of}
use Rattle.bit_blast.specs.declared.gates.Gate.TheVariants.{And, Xor}
use Rattle.bit_blast.specs.declared.blocks.Division.{Division}
use Rattle.bit_blast.specs.declared.blocks.Shift.{Shift}
use Rattle.bit_blast.specs.declared.blocks.Shift.TheVariants.{Left, Right, RightSigned, RotateLeft, RotateRight}
use Rattle.bit_blast.specs.Gates.{Wires, true_wire, false_wire, negation}
use Rattle.bit_blast.specs.Blocks.{Building, give, ◌>>=◌, put, each_two, add, less, zeros, highest, none, negate_if, count, divide, multiply, shift_by}

-- ---- wires that no gate is needed for

-- cut to so many wires, or filled up to them with one wire
abbrev pub fitted : ℕ → ℕ → Wires → Wires
fitted bits fill xs = take bits xs ++ replicate (bits - length xs) fill

-- the lowest wires, and above them the highest of these
abbrev pub sign_extended : ℕ → ℕ → Wires → Wires
sign_extended from bits xs = fitted bits (highest (take from xs)) (take from xs)

-- the highest wire is negated: signed integers are in the order of the unsigned ones that this makes of them
abbrev pub sign_turned : Wires → Wires
sign_turned xs = take (length xs - 1) xs ++ negation (highest xs) ∷ []

-- ---- one operand

abbrev pub count_to : ℕ → Wires → Building Wires
count_to bits wires = do
  bits_on ← count wires
  give (fitted bits false_wire bits_on)

-- so many wires: the answer, and false_wire above
abbrev pub answer : ℕ → ℕ → Wires
answer bits wire = fitted bits false_wire (wire ∷ [])

-- to so many bits
abbrev pub unary_wires : Unary → ℕ → Wires → Building Wires
unary_wires Eqz bits xs = do
  wire ← none xs
  give (answer bits wire)
unary_wires Popcnt bits xs = count_to bits xs
unary_wires Ctz bits xs = do
  zero_below ← zeros xs
  count_to bits zero_below
unary_wires Clz bits xs = do
  zero_above ← zeros (reverse xs)
  count_to bits zero_above
unary_wires Wrap bits xs = give (fitted bits false_wire xs)
unary_wires ExtendU bits xs = give (fitted bits false_wire xs)
unary_wires Extend8 bits xs = give (sign_extended 8 bits xs)
unary_wires Extend16 bits xs = give (sign_extended 16 bits xs)
unary_wires Extend32 bits xs = give (sign_extended 32 bits xs)

-- ---- two operands

abbrev pub equal : Wires → Wires → Building ℕ
equal xs ys = do
  differ ← each_two Xor xs ys
  none differ

abbrev pub compared : ℕ → Building ℕ → Building Wires
compared bits test = do
  wire ← test
  give (answer bits wire)

abbrev pub compared_not : ℕ → Building ℕ → Building Wires
compared_not bits test = do
  wire ← test
  give (answer bits (negation wire))

abbrev pub plus : Wires → Wires → ℕ → Building Wires
plus xs ys carry = do
  sum ← add xs ys carry
  give sum.sums

abbrev pub quotient : Wires → Wires → Building Wires
quotient xs ys = do
  divided ← divide xs ys
  give divided.quotient

abbrev pub remainder : Wires → Wires → Building Wires
remainder xs ys = do
  divided ← divide xs ys
  give divided.remainder

-- an integer without its sign
abbrev pub magnitude : Wires → Building Wires
magnitude xs = negate_if (highest xs) xs

abbrev pub divide_magnitudes : Wires → Wires → Building Division
divide_magnitudes xs ys = do
  dividend ← magnitude xs
  divisor ← magnitude ys
  divide dividend divisor

abbrev pub signed_quotient : Wires → Wires → Building Wires
signed_quotient xs ys = do
  divided ← divide_magnitudes xs ys
  sign ← put (Xor (highest xs) (highest ys))
  negate_if sign divided.quotient

abbrev pub signed_remainder : Wires → Wires → Building Wires
signed_remainder xs ys = do
  divided ← divide_magnitudes xs ys
  negate_if (highest xs) divided.remainder

abbrev pub either : Wires → Wires → Building Wires
either xs ys = do
  neither ← each_two And (map negation xs) (map negation ys)
  give (map negation neither)

-- how many bits of the second operand say how far the first is shifted: 2 to that power is the width
abbrev pub shift_bits : Width → ℕ
shift_bits W32 = 5
shift_bits W64 = 6

abbrev pub shift : Shift → Width → Wires → Wires → Building Wires
shift kind width xs ys = shift_by kind 1 (take (shift_bits width) ys) xs

-- of operands of a width, to so many bits
abbrev pub binary_wires : Binary → Width → ℕ → Wires → Wires → Building Wires
binary_wires Eq width bits xs ys = compared bits (equal xs ys)
binary_wires Ne width bits xs ys = compared_not bits (equal xs ys)
binary_wires LtU width bits xs ys = compared bits (less xs ys)
binary_wires GtU width bits xs ys = compared bits (less ys xs)
binary_wires LeU width bits xs ys = compared_not bits (less ys xs)
binary_wires GeU width bits xs ys = compared_not bits (less xs ys)
binary_wires LtS width bits xs ys = compared bits (less (sign_turned xs) (sign_turned ys))
binary_wires GtS width bits xs ys = compared bits (less (sign_turned ys) (sign_turned xs))
binary_wires LeS width bits xs ys = compared_not bits (less (sign_turned ys) (sign_turned xs))
binary_wires GeS width bits xs ys = compared_not bits (less (sign_turned xs) (sign_turned ys))
binary_wires Add width bits xs ys = plus xs ys false_wire
binary_wires Sub width bits xs ys = plus xs (map negation ys) true_wire
binary_wires Mul width bits xs ys = multiply xs ys
binary_wires DivU width bits xs ys = quotient xs ys
binary_wires RemU width bits xs ys = remainder xs ys
binary_wires DivS width bits xs ys = signed_quotient xs ys
binary_wires RemS width bits xs ys = signed_remainder xs ys
binary_wires AndOf width bits xs ys = each_two And xs ys
binary_wires XorOf width bits xs ys = each_two Xor xs ys
binary_wires OrOf width bits xs ys = either xs ys
binary_wires Shl width bits xs ys = shift Left width xs ys
binary_wires ShrU width bits xs ys = shift Right width xs ys
binary_wires ShrS width bits xs ys = shift RightSigned width xs ys
binary_wires Rotl width bits xs ys = shift RotateLeft width xs ys
binary_wires Rotr width bits xs ys = shift RotateRight width xs ys

-- ---- by opcodes; an opcode of no such operator has no wires

abbrev pub one_operand : Operation → ℕ → Wires → Building Wires
one_operand (OfOne operation) bits xs = unary_wires operation bits xs
one_operand (OfTwo operation) bits xs = give []

abbrev pub unary_by : Option Operator → Wires → Building Wires
unary_by None xs = give []
unary_by (Some operator) xs = one_operand operator.operation (bits_of operator.result) xs

abbrev pub unary_operator : ℕ → Wires → Building Wires
unary_operator op xs = unary_by (operator_of op) xs

abbrev pub two_operands : Operation → Width → ℕ → Wires → Wires → Building Wires
two_operands (OfOne operation) width bits xs ys = give []
two_operands (OfTwo operation) width bits xs ys = binary_wires operation width bits xs ys

abbrev pub binary_by : Option Operator → Wires → Wires → Building Wires
binary_by None xs ys = give []
binary_by (Some operator) xs ys = two_operands operator.operation operator.operand (bits_of operator.result) xs ys

abbrev pub binary_operator : ℕ → Wires → Wires → Building Wires
binary_operator op xs ys = binary_by (operator_of op) xs ys
