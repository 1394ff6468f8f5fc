-- Numeric instructions (Execution, Instructions: Numeric Instructions).
use Rattle.std.specs.Prelude.{ℕ, Bool, true, false, List, ◌∷◌}
use Rattle.wasm_ast.specs.declared.runs.Cause.TheVariants.{DivZero, Overflow}
use Rattle.int_ops.specs.declared.operators.Width.{Width}
use Rattle.int_ops.specs.declared.operators.Width.TheVariants.{W32, W64}
use Rattle.int_ops.specs.declared.operators.Operation.{Operation}
use Rattle.int_ops.specs.declared.operators.Operation.TheVariants.{OfOne, OfTwo}
use Rattle.int_ops.specs.declared.operators.Operator.{Operator}
use Rattle.int_ops.specs.Integers.{least, minus_one}
use Rattle.int_ops.specs.Operators.{operator_of, divides, is_div_s, bits_of}
use Rattle.wasm_rules.specs.Words.{Kind}
use Rattle.wasm_reduction.specs.Configurations.{Value, I32, I64, Config, Next, Goes}
use Rattle.wasm_reduction.specs.Combinators.{holding, valued, with_found, with_word, trapping_if}

-- i32.const, i64.const
abbrev pub const32 : {W : Type 0} → Kind W → Config W → List (Value W) → ℕ → Next W
const32 K c vs n = Goes (holding c (I32 (K.number n) ∷ vs))

abbrev pub const64 : {W : Type 0} → Kind W → Config W → List (Value W) → ℕ → Next W
const64 K c vs n = Goes (holding c (I64 (K.number n) ∷ vs))

-- ---- operators

abbrev pub is_wide : Width → Bool
is_wide W32 = false
is_wide W64 = true

-- i32.eqz or i64.eqz, i32.eq or i64.eq
abbrev pub eqz_op : Width → ℕ
eqz_op W32 = 0x45
eqz_op W64 = 0x50

abbrev pub eq_op : Width → ℕ
eq_op W32 = 0x46
eq_op W64 = 0x51

-- whether the divisor is 0
abbrev pub is_zero : {W : Type 0} → Kind W → Width → W → W
is_zero K width b = K.unary (eqz_op width) b

-- whether the signed quotient doesn't fit: i32.and of whether the dividend is the least number and the divisor is -1
abbrev pub is_overflow : {W : Type 0} → Kind W → Width → W → W → W
is_overflow K width a b =
    K.binary 0x71
    (K.binary (eq_op width) a (K.number (least (bits_of width))))
    (K.binary (eq_op width) b (K.number (minus_one (bits_of width))))

-- a divisor of 0 traps in div and rem; and then in div_s a quotient that doesn't fit
abbrev pub checking_overflow : {W : Type 0} → Kind W → Bool → Width → W → W → List ℕ → Next W → Next W
checking_overflow K false width a b ns next = next
checking_overflow K true width a b ns next = trapping_if (is_overflow K width a b) Overflow ns (λ ns. next)

abbrev pub checking : {W : Type 0} → Kind W → Bool → Bool → Width → W → W → List ℕ → Next W → Next W
checking K false signed width a b ns next = next
checking K true signed width a b ns next =
    trapping_if (is_zero K width b) DivZero ns (λ ns. checking_overflow K signed width a b ns next)

abbrev pub operating : {W : Type 0} → Kind W → Config W → List (Value W) → List ℕ → ℕ → Operator → Operation → Next W
operating K c vs ns op o (OfOne operation) =
    with_word (is_wide o.operand) vs (λ a rest. Goes (holding c (valued (is_wide o.result) (K.unary op a) ∷ rest)))
operating K c vs ns op o (OfTwo operation) =
    with_word (is_wide o.operand) vs (λ b rest. with_word (is_wide o.operand) rest (λ a rest.
    checking K (divides operation) (is_div_s operation) o.operand a b ns
    (Goes (holding c (valued (is_wide o.result) (K.binary op a b) ∷ rest)))))

-- unop, binop, testop, relop, cvtop
abbrev pub numeric : {W : Type 0} → Kind W → Config W → List (Value W) → List ℕ → ℕ → Next W
numeric K c vs ns op = with_found (operator_of op) (λ o. operating K c vs ns op o o.operation)
