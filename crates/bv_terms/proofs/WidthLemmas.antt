-- The value of a term of a width is below that power of 2.
use Rattle.std.proofs.Common.{◌≡◌, ℕ, ◌^◌, ◌<◌, ◌/◌, Bool, true, false, cond, ◌==◌, List, length, All, subst, sym, refl, arith}
use Rattle.std.specs.Prelude.{slice_index}
use Rattle.std.proofs.lemmas.Nat.{mod_below, pow_pos}
use Rattle.std.proofs.lemmas.List.Elements.{All-nil, All-cons}
use Rattle.int_ops.specs.Operators.{operand_bits, result_bits}
use Rattle.int_ops.proofs.WidthLemmas.{unary-below, binary-below, either}
use Rattle.wasm_rules.specs.Words.{bits_where, CanJoin}
use Rattle.wasm_rules.proofs.NumbersLemmas.{joined-fits}
use Rattle.bv_terms.specs.Terms.{Term, Number, Symbol, Unary, Binary, Choose, Byte, Join, Bytes, NoBytes, Then, count_of, value_of, values_of, HasWidth, HaveByteWidths}

pub at_width : (bits own n : ℕ) → bits ≡ own → n < 2 ^ own → n < 2 ^ bits
at_width bits own n is below = subst (λ b. n < 2 ^ b) (sym is) below

pub length-values_of : (input : List ℕ) (bytes : Bytes) → length (values_of input bytes) ≡ count_of bytes
length-values_of input NoBytes = refl
length-values_of input (Then t rest) = omega (arith, length-values_of input rest)

mutual
  pub value-below : (bits : ℕ) (t : Term) (input : List ℕ) → HasWidth bits t → value_of input t < 2 ^ bits
  value-below bits (Number n) input h = h
  value-below bits (Symbol k wide) input h =
      at_width bits (bits_where wide) _ h (mod_below (slice_index input k) (2 ^ bits_where wide) (pow_pos (bits_where wide)))
  value-below bits (Unary op a) input h =
      at_width bits (result_bits op) _ h.0 (unary-below op (value_of input a) h.1 (value-below (operand_bits op) a input h.2))
  value-below bits (Binary op a b) input h =
      at_width bits (result_bits op) _ h.0 (binary-below op (value_of input a) (value_of input b) h.1 (value-below (operand_bits op) a input h.2) (value-below (operand_bits op) b input h.3)).0
  value-below bits (Choose wide c a b) input h =
      at_width bits (bits_where wide) _ h.0
      (either (λ n. n < 2 ^ bits_where wide) (value_of input c == 0) (value_of input b) (value_of input a)
      (value-below (bits_where wide) b input h.3) (value-below (bits_where wide) a input h.2))
  value-below bits (Byte a i) input h = at_width bits 8 _ h.0 (mod_below (value_of input a / 256 ^ i) 256 (omega arith))
  value-below bits (Join wide bytes) input h =
      at_width bits (bits_where wide) _ h.0
      (joined-fits wide (values_of input bytes) (subst (CanJoin wide) (sym (length-values_of input bytes)) h.1) (values-below bytes input h.2))

  pub values-below : (bytes : Bytes) (input : List ℕ) → HaveByteWidths bytes → All (λ b. b < 256) (values_of input bytes)
  values-below NoBytes input h = All-nil (λ b. b < 256)
  values-below (Then t rest) input h =
      All-cons (λ b. b < 256) (value_of input t) (values_of input rest) (value-below 8 t input h.0) (values-below rest input h.1)
