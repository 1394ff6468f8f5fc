-- Numbers as words.
use Rattle.std.proofs.Common.{ℕ, ◌^◌, ◌<◌, ◌≤◌, Bool, true, false, List, length, All, arith, subst, sym, ⊎_elim, lt_of_lt_of_le, cond, ◌==◌, ◌/◌}
use Rattle.std.proofs.lemmas.Nat.{mod_below}
use Rattle.int_ops.proofs.WidthLemmas.{unary-below, binary-below, either}
use Rattle.std.proofs.lemmas.Bool.{false≢true}
use Rattle.int_ops.specs.Bytes.{joined}
use Rattle.int_ops.proofs.BytesLemmas.{joined-below}
use Rattle.wasm_rules.specs.Words.{CanJoin, bits_where, Gives, HasNumber, numbers}

count_fits : (wide : Bool) (count : ℕ) → CanJoin wide count → 256 ^ count ≤ 2 ^ bits_where wide
count_fits true count h =
    ⊎_elim (λ e. subst (λ k. 256 ^ k ≤ 2 ^ 64) (sym e) (omega arith))
    (⊎_elim (λ e. subst (λ k. 256 ^ k ≤ 2 ^ 64) (sym e) (omega arith))
    (⊎_elim (λ e. subst (λ k. 256 ^ k ≤ 2 ^ 64) (sym e) (omega arith))
    (λ e. subst (λ k. 256 ^ k ≤ 2 ^ 64) (sym e.0) (omega arith)))) h
count_fits false count h =
    ⊎_elim (λ e. subst (λ k. 256 ^ k ≤ 2 ^ 32) (sym e) (omega arith))
    (⊎_elim (λ e. subst (λ k. 256 ^ k ≤ 2 ^ 32) (sym e) (omega arith))
    (⊎_elim (λ e. subst (λ k. 256 ^ k ≤ 2 ^ 32) (sym e) (omega arith))
    (λ e. absurd (false≢true e.1)))) h

pub joined-fits : (wide : Bool) (bytes : List ℕ) → CanJoin wide (length bytes) → All (λ b. b < 256) bytes → joined bytes < 2 ^ bits_where wide
joined-fits wide bytes count each = lt_of_lt_of_le (joined-below bytes each) (count_fits wide (length bytes) count)

pub numbers-give : Gives numbers HasNumber
numbers-give = record {
  number = λ bits n h. h;
  unary = λ op a class h. unary-below op a class h;
  binary = λ op a b class h k. (binary-below op a b class h k).0;
  choose = λ wide c a b some h k. either (HasNumber (bits_where wide)) (c == 0) b a k h;
  byte = λ a i place some. mod_below (a / 256 ^ i) 256 (omega arith);
  join = λ wide bytes count each. joined-fits wide bytes count each;
}
