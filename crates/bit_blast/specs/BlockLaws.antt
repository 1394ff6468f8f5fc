-- What the blocks compute, over whole numbers.
use Rattle.std.specs.Prelude.{◌≡◌, ℕ, ◌+◌, ◌-◌, ◌*◌, ◌/◌, ◌%◌, ◌^◌, ◌<◌, true, ◌==◌, nat_lt, if◌then◌else◌, IsTrue, [], ◌∷◌, length}
use Rattle.int_ops.specs.Operators.{is_unary, is_binary, operand_bits, unary, total}
use Rattle.wasm_rules.specs.Words.{chosen}
use Rattle.refute_check.specs.Clauses.{Assignment}
use Rattle.bit_blast.specs.Gates.{Wires, Circuit}
use Rattle.bit_blast.specs.Blocks.{Building, add, less, none, negate_if, count, divide, multiply, choose}
use Rattle.bit_blast.specs.Operators.{unary_operator, binary_operator}
use Rattle.bit_blast.specs.Meanings.{holds, bit, value_of_wires, HaveValues}

-- under each assignment that makes variable 1 true and gives each gate its value, the building's result is so
abbrev pub Computing : {A : Type 0} → Building A → (Assignment → A → Type 0) → Type 0
Computing building Is =
    (assignment : Assignment) (circuit : Circuit) → assignment 1 ≡ true
    → HaveValues assignment (building circuit).circuit.first (building circuit).circuit.gates
    → Is assignment (building circuit).result

-- how many of the wires are true
abbrev pub true_among : Assignment → Wires → ℕ
true_among assignment [] = 0
true_among assignment (wire ∷ wires) = bit (holds assignment wire) + true_among assignment wires

-- the sum, with the carry above it
abbrev pub AddLaw : Type 0
AddLaw = (xs ys : Wires) (carry : ℕ) → length xs ≡ length ys → Computing (add xs ys carry) (λ assignment sum.
    value_of_wires assignment sum.sums + 2 ^ length xs * bit (holds assignment sum.carry)
    ≡ value_of_wires assignment xs + value_of_wires assignment ys + bit (holds assignment carry))

-- whether the first is below the second
abbrev pub LessLaw : Type 0
LessLaw = (xs ys : Wires) → length xs ≡ length ys → Computing (less xs ys) (λ assignment wire.
    holds assignment wire ≡ nat_lt (value_of_wires assignment xs) (value_of_wires assignment ys))

-- whether it is 0
abbrev pub NoneLaw : Type 0
NoneLaw = (xs : Wires) → 0 < length xs → Computing (none xs) (λ assignment wire. holds assignment wire ≡ (value_of_wires assignment xs == 0))

-- the negation modulo 2^N where the sign is true, else the number
abbrev pub NegateLaw : Type 0
NegateLaw = (sign : ℕ) (xs : Wires) → Computing (negate_if sign xs) (λ assignment result.
    value_of_wires assignment result ≡ (if holds assignment sign then (2 ^ length xs - value_of_wires assignment xs) % 2 ^ length xs else value_of_wires assignment xs))

-- how many of fewer than 128 wires are true
abbrev pub CountLaw : Type 0
CountLaw = (wires : Wires) → length wires < 128 → Computing (count wires) (λ assignment result. value_of_wires assignment result ≡ true_among assignment wires)

-- quotient and remainder; by 0 all ones and the dividend
abbrev pub DivideLaw : Type 0
DivideLaw = (xs ys : Wires) → length xs ≡ length ys → Computing (divide xs ys) (λ assignment result.
    (value_of_wires assignment result.quotient ≡ (if value_of_wires assignment ys == 0 then 2 ^ length xs - 1 else value_of_wires assignment xs / value_of_wires assignment ys))
    × (value_of_wires assignment result.remainder ≡ (if value_of_wires assignment ys == 0 then value_of_wires assignment xs else value_of_wires assignment xs % value_of_wires assignment ys)))

-- the product modulo 2^N
abbrev pub MultiplyLaw : Type 0
MultiplyLaw = (xs ys : Wires) → length xs ≡ length ys → Computing (multiply xs ys) (λ assignment result.
    value_of_wires assignment result ≡ (value_of_wires assignment xs * value_of_wires assignment ys) % 2 ^ length xs)

-- the first where the condition isn't 0, else the second
abbrev pub ChooseLaw : Type 0
ChooseLaw = (condition xs ys : Wires) → 0 < length condition → length xs ≡ length ys → Computing (choose condition xs ys) (λ assignment result.
    value_of_wires assignment result ≡ chosen (value_of_wires assignment condition) (value_of_wires assignment xs) (value_of_wires assignment ys))

-- each operator gives its result: comparisons, counts, shifts, rotations and all others
abbrev pub UnaryLaw : Type 0
UnaryLaw = (op : ℕ) (xs : Wires) → IsTrue (is_unary op) → length xs ≡ operand_bits op → Computing (unary_operator op xs) (λ assignment result.
    value_of_wires assignment result ≡ unary op (value_of_wires assignment xs))

abbrev pub BinaryLaw : Type 0
BinaryLaw = (op : ℕ) (xs ys : Wires) → IsTrue (is_binary op) → length xs ≡ operand_bits op → length ys ≡ operand_bits op
    → Computing (binary_operator op xs ys) (λ assignment result. value_of_wires assignment result ≡ total op (value_of_wires assignment xs) (value_of_wires assignment ys))
