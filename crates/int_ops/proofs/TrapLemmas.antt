-- Where an operation overflows.
use Rattle.std.proofs.Common.{◌≡◌, ℕ, zero, ◌-◌, ◌<◌, Bool, true, false, ◌==◌, ◌&&◌, ◌↔◌, IsTrue, Result, Ok, Err, refl, arith, if◌then◌else◌, eqb-true, eq-eqb, ne_eqb}
use Rattle.std.proofs.lemmas.Nat.{pow_pos}
use Rattle.int_ops.specs.declared.operators.Trap.{Trap}
use Rattle.int_ops.specs.declared.operators.Trap.TheVariants.{DivZero, Overflow}
use Rattle.int_ops.specs.declared.operators.Binary.{Binary}
use Rattle.int_ops.specs.Integers.{least, minus_one}
use Rattle.int_ops.specs.Operators.{partial_value, binary_value, divides, is_div_s}
use Rattle.int_ops.proofs.IntegerLemmas.{pow_half}

-- whether it divides by 0; whether it is the signed quotient, of the least number, by -1; and its value else
abbrev outcome : Bool → Bool → Bool → Bool → Bool → ℕ → Result ℕ Trap
outcome divided by_none quotient of_least by_minus_one value =
    if divided && by_none then Err DivZero else if quotient && of_least && by_minus_one then Err Overflow else Ok value

only : (d z q l m : Bool) (v : ℕ) → outcome d z q l m v ≡ Err Overflow → IsTrue q × IsTrue l × IsTrue m
only true true q l m v e = cc
only true false true true true v e = (refl, refl, refl)
only true false true true false v e = cc
only true false true false m v e = cc
only true false false l m v e = cc
only false z true true true v e = (refl, refl, refl)
only false z true true false v e = cc
only false z true false m v e = cc
only false z false l m v e = cc

there : (d z q l m : Bool) (v : ℕ) → z ≡ false → IsTrue q → IsTrue l → IsTrue m → outcome d z q l m v ≡ Err Overflow
there true z q l m v none a b c = rw (none, a, b, c) refl
there false z q l m v none a b c = rw (a, b, c) refl

pub overflow : (operation : Binary) (N x y : ℕ) → zero < N
    → (partial_value operation N x y ≡ Err Overflow) ↔ (IsTrue (is_div_s operation) × (x ≡ least N) × (y ≡ minus_one N))
overflow operation N x y some = (
  λ e.
      let parts = only (divides operation) (y == 0) (is_div_s operation) (x == least N) (y == minus_one N) (binary_value operation N x y) e in
      (parts.0, eqb-true x (least N) parts.1, eqb-true y (minus_one N) parts.2),
  λ h.
      let half = pow_half N some in
      let more = pow_pos (N - 1) in
      let not_zero : y ≡ 0 → ⊥ = λ e. absurd (omega (arith, half, more, e, h.2)) in
      there (divides operation) (y == 0) (is_div_s operation) (x == least N) (y == minus_one N) (binary_value operation N x y)
      (ne_eqb y 0 not_zero) h.0 (eq-eqb x (least N) h.1) (eq-eqb y (minus_one N) h.2),
)
