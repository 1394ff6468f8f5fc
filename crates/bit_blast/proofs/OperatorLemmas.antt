-- The wires of the integer operators are the bits of their results.
use Rattle.std.proofs.Common.{◌≡◌, ℕ, suc, ◌+◌, ◌-◌, ◌*◌, ◌/◌, ◌%◌, ◌^◌, ◌<◌, ◌≤◌, ℤ, int_lt, Bool, true, false, not, ◌==◌, ◌&&◌, cond, nat_le, nat_lt, List, [], ◌∷◌, length, map, take, reverse, refl, sym, ap, ◌∙◌, subst, arith, ap₂, ⊎_elim, length-append, length-take, mod-eq_of_lt, lt_of_le_of_lt, lt_of_lt_of_le, pow_mono, div-le_self, eq-eqb, ne_eqb, eqb-true, IsTrue}
use Rattle.std.proofs.lemmas.Nat.{pow_pos, mod_below}
use Rattle.std.proofs.lemmas.Bool.{cases_eq}
use Rattle.std.proofs.lemmas.Bool.Decides.{nat_tests}
use Rattle.std.proofs.lemmas.List.{length-reverse}
use Rattle.std.specs.Int.Count.{count_leading_zeros, count_trailing_zeros}
use Rattle.std.proofs.Math.Nat.{mod-zero}
use Rattle.int_ops.specs.declared.operators.Width.{Width}
use Rattle.int_ops.specs.declared.operators.Width.TheVariants.{W32, W64}
use Rattle.int_ops.specs.declared.operators.Unary.{Unary}
use Rattle.int_ops.specs.declared.operators.Unary.TheVariants.{Eqz, Clz, Ctz, Popcnt, Wrap, ExtendU, Extend8, Extend16, Extend32}
use Rattle.int_ops.specs.declared.operators.Binary.{Binary}
use Rattle.int_ops.specs.declared.operators.Binary.TheVariants.{Eq, Ne, LtS, LtU, GtS, GtU, LeS, LeU, GeS, GeU, Add, Sub, Mul, DivS, DivU, RemS, RemU, And as AndOf, Or as OrOf, Xor as XorOf, Shl, ShrS, ShrU, Rotl, Rotr}
use Rattle.int_ops.specs.declared.operators.Operation.TheVariants.{OfOne, OfTwo}
use Rattle.int_ops.specs.Integers.{truth, signed, unsigned}
use Rattle.int_ops.specs.Operators.{bits_of, unary_value, total_value}
use Rattle.int_ops.proofs.WidthLemmas.{has_room}
use Rattle.std.specs.Int.{int_shr}
use Rattle.int_ops.proofs.IntegerLemmas.{signed_low, signed_high}
use Rattle.int_ops.proofs.LawLemmas.{rotated-parts}
use Rattle.refute_check.specs.Clauses.{Assignment}
use Rattle.bit_blast.specs.declared.gates.Gate.TheVariants.{And, Xor}
use Rattle.bit_blast.specs.declared.blocks.Shift.{Shift}
use Rattle.bit_blast.specs.declared.blocks.Shift.TheVariants.{Left, Right, RightSigned, RotateLeft, RotateRight}
use Rattle.bit_blast.specs.Gates.{Wires, true_wire, false_wire, negation, Circuit}
use Rattle.bit_blast.specs.Blocks.{Building, put, each_two, less, highest, negate_if, zeros, none, count, divide}
use Rattle.bit_blast.specs.Operators.{sign_turned, count_to, unary_wires, equal, compared, compared_not, plus, shift_bits, shift, binary_wires}
use Rattle.bit_blast.specs.Meanings.{holds, bit, differ}
use Rattle.bit_blast.proofs.BitNumbers.{number}
use Rattle.bit_blast.proofs.NumberLemmas.{number_below, number_take}
use Rattle.bit_blast.proofs.SumLemmas.{sums, sum_is, difference_is}
use Rattle.bit_blast.proofs.SumLemmas as bits
use Rattle.bit_blast.proofs.CountLemmas.{ones_among, count_is, ones_are, trailing_are, leading_are, number_down, number_reversed}
use Rattle.bit_blast.proofs.SignLemmas.{not_above, not_above_signed}
use Rattle.bit_blast.proofs.ShiftLemmas.{own_sign, down, turned}
use Rattle.bit_blast.proofs.WireLemmas.{read, read_take, read_reverse, read_negations, length_read, holds_negation, holds_true, holds_false}
use Rattle.bit_blast.proofs.LengthLemmas.{length_each_two, length_count, length_zeros, length_map, length_add, length_multiply, length_divide, length_negate_if, length_shift_by}
use Rattle.bit_blast.proofs.BlockLemmas.{Valued, both, add_reads, less_reads, none_reads, zeros_reads, count_reads, each_two_reads}
use Rattle.bit_blast.proofs.MoveLemmas.{shift_of, shift_reads}
use Rattle.bit_blast.proofs.ProductLemmas.{multiply_reads}
use Rattle.bit_blast.proofs.QuotientLemmas.{quotient_or_ones, divide_reads}
use Rattle.bit_blast.proofs.FittingLemmas.{length_fitted, answer_reads, filled_reads, extended_reads}
use Rattle.bit_blast.proofs.LogicLemmas.{and_is, or_is, xor_is, or_by_and, equal_is}
use Rattle.bit_blast.proofs.SignedLemmas.{less_turned, signed_quotient_reads, signed_remainder_reads, failed, passed}

bit_truth : (b : Bool) → bit b ≡ truth b
bit_truth true = refl
bit_truth false = refl

pub some_bits : (width : Width) → 0 < bits_of width
some_bits W32 = omega arith
some_bits W64 = omega arith

-- the signed interpretation, shifted, is what the shift with copies of the sign is
shifted_signed : (N x k : ℕ) → 0 < N → x < 2 ^ N → down N (own_sign N x) k x ≡ unsigned N (int_shr (signed N x) k)
shifted_signed N x k some below = go (own_sign N x) refl
  where
    go : (b : Bool) → own_sign N x ≡ b → down N b k x ≡ unsigned N (int_shr (signed N x) k)
    go true e =
        let power = pow_pos N in
        let small : (2 ^ N - suc x) / 2 ^ k < 2 ^ N = lt_of_le_of_lt (div-le_self (2 ^ N - suc x) (2 ^ k)) (omega arith) in
        let same : 2 ^ N - 1 - x ≡ 2 ^ N - suc x = omega arith in
        ap (λ (n : ℕ). 2 ^ N - 1 - n / 2 ^ k) same
        ∙ sym (ap (λ (z : ℤ). unsigned N (int_shr z k)) (signed_high N x (passed (2 ^ (N - 1)) x e) below) ∙ ap (λ (n : ℕ). 2 ^ N - 1 - n) (mod-eq_of_lt small))
    go false e =
        sym (ap (λ (z : ℤ). unsigned N (int_shr z k)) (signed_low N x (failed (2 ^ (N - 1)) x e)) ∙ mod-eq_of_lt (lt_of_le_of_lt (div-le_self x (2 ^ k)) below))

-- ---- one operand

least_bits : (width : Width) → 32 ≤ bits_of width
least_bits W32 = omega arith
least_bits W64 = omega arith

module _ (s : Assignment) (one : s 1 ≡ true) where
  below_width : (n : ℕ) (ws : Wires) → length ws ≡ n → number (read s ws) < 2 ^ n
  below_width n ws long = subst (λ (k : ℕ). number (read s ws) < 2 ^ k) (length_read s ws ∙ long) (number_below (read s ws))

  -- a count of at most 64 wires
  count_to_reads : (to : Width) (wires : Wires) (c : Circuit) → length wires ≤ 64 → Valued s (count_to (bits_of to) wires c).circuit
      → Valued s c × (number (read s (count_to (bits_of to) wires c).result) ≡ ones_among (read s wires))
  count_to_reads to wires c few h =
      let all = count_reads s one wires c h in
      let few_read : length (read s wires) < 128 = let long = length_read s wires in omega arith in
      let seven : number (read s (count wires c).result) < 2 ^ 7 = below_width 7 (count wires c).result (length_count wires c) in (
        all.0,
        filled_reads s one (bits_of to) (count wires c).result ∙ fits to (number (read s (count wires c).result)) seven
            ∙ ap (λ (bs : List Bool). number bs) all.1 ∙ count_is (read s wires) few_read,
      )
    where
      fits : (to : Width) (n : ℕ) → n < 128 → n % 2 ^ bits_of to ≡ n
      fits W32 n h = mod-eq_of_lt (omega arith)
      fits W64 n h = mod-eq_of_lt (omega arith)

  bits_at_most : (width : Width) → bits_of width ≤ 64
  bits_at_most W32 = omega arith
  bits_at_most W64 = omega arith

  pub unary_reads : (operation : Unary) (from to : Width) (xs : Wires) (c : Circuit) → length xs ≡ bits_of from
      → IsTrue (has_room (OfOne operation) (bits_of from) (bits_of to))
      → Valued s (unary_wires operation (bits_of to) xs c).circuit
      → Valued s c × (number (read s (unary_wires operation (bits_of to) xs c).result) ≡ unary_value operation (bits_of from) (bits_of to) (number (read s xs)))
  unary_reads Eqz from to xs c long room h =
      let some = some_bits from in
      let all = none_reads s xs c one (omega arith) h in (
        all.0,
        answer_reads s one (bits_of to) (none xs c).result (some_bits to) ∙ ap bit all.1 ∙ bit_truth (number (read s xs) == 0),
      )
  unary_reads Popcnt from to xs c long room h =
      let most = bits_at_most from in
      let all = count_to_reads to xs c (omega arith) h in
      (all.0, all.1 ∙ ones_are (read s xs))
  unary_reads Ctz from to xs c long room h =
      let most = bits_at_most from in
      let zeros_long = length_zeros xs c in
      let counts = count_to_reads to (zeros xs c).result (zeros xs c).circuit (omega arith) h in
      let clear = zeros_reads s xs c counts.0 in (
        clear.0,
        counts.1 ∙ ap ones_among clear.1 ∙ trailing_are (read s xs) ∙ ap (λ (n : ℕ). count_trailing_zeros n (number (read s xs))) (length_read s xs ∙ long),
      )
  unary_reads Clz from to xs c long room h =
      let most = bits_at_most from in
      let zeros_long = length_zeros (reverse xs) c in
      let turned = length-reverse xs in
      let counts = count_to_reads to (zeros (reverse xs) c).result (zeros (reverse xs) c).circuit (omega arith) h in
      let clear = zeros_reads s (reverse xs) c counts.0 in (
        clear.0,
        counts.1 ∙ ap ones_among clear.1 ∙ leading_are (read s (reverse xs))
            ∙ ap₂ (λ (n x : ℕ). count_leading_zeros n x) (length_read s (reverse xs) ∙ turned ∙ long)
            (ap number_down (read_reverse s xs) ∙ number_reversed (read s xs)),
      )
  unary_reads Wrap from to xs c long room h = (h, filled_reads s one (bits_of to) xs)
  unary_reads ExtendU from to xs c long room h =
      (h, filled_reads s one (bits_of to) xs ∙ mod-eq_of_lt (lt_of_lt_of_le (below_width (bits_of from) xs long) (pow_mono (passed (bits_of from) (bits_of to) room))))
  unary_reads Extend8 from to xs c long room h =
      let least = least_bits from in
      let wide = least_bits to in
      (h, extended_reads s one 8 (bits_of to) xs (omega arith) (omega arith) (omega arith))
  unary_reads Extend16 from to xs c long room h =
      let least = least_bits from in
      let wide = least_bits to in
      (h, extended_reads s one 16 (bits_of to) xs (omega arith) (omega arith) (omega arith))
  unary_reads Extend32 from to xs c long room h =
      let least = least_bits from in
      let wide = least_bits to in
      (h, extended_reads s one 32 (bits_of to) xs (omega arith) (omega arith) (omega arith))

  -- ---- two operands

  -- what both operands have
  module _ (width : Width) (xs ys : Wires) (x_long : length xs ≡ bits_of width) (y_long : length ys ≡ bits_of width) where
    same : length xs ≡ length ys
    same = x_long ∙ sym y_long

    same_read : length (read s xs) ≡ length (read s ys)
    same_read = length_read s xs ∙ same ∙ sym (length_read s ys)

    some : 0 < length xs
    some = subst (λ (n : ℕ). 0 < n) (sym x_long) (some_bits width)

    some_read : 0 < length (read s xs)
    some_read = subst (λ (n : ℕ). 0 < n) (sym (length_read s xs)) some

    equal_reads : (c : Circuit) → Valued s (equal xs ys c).circuit → Valued s c × (holds s (equal xs ys c).result ≡ (number (read s xs) == number (read s ys)))
    equal_reads c h =
        let differing = each_two Xor xs ys c in
        let long : length differing.result ≡ length ys = length_each_two Xor xs ys c same in
        let clear = none_reads s differing.result differing.circuit one (subst (λ (n : ℕ). 0 < n) (same ∙ sym long) some) h in
        let apart = each_two_reads s Xor differ (λ v w. refl) xs ys c clear.0 in
        (apart.0, clear.1 ∙ ap (λ (bs : List Bool). number bs == 0) apart.1 ∙ equal_is (read s xs) (read s ys) same_read)

    -- a test's wire as a number
    compared_reads : (to : Width) (test : Building ℕ) (value : Bool) (c : Circuit)
        → (Valued s (test c).circuit → Valued s c × (holds s (test c).result ≡ value))
        → Valued s (compared (bits_of to) test c).circuit → Valued s c × (number (read s (compared (bits_of to) test c).result) ≡ truth value)
    compared_reads to test value c reads h =
        let all = reads h in
        (all.0, answer_reads s one (bits_of to) (test c).result (some_bits to) ∙ ap bit all.1 ∙ bit_truth value)

    compared_not_reads : (to : Width) (test : Building ℕ) (value : Bool) (c : Circuit)
        → (Valued s (test c).circuit → Valued s c × (holds s (test c).result ≡ value))
        → Valued s (compared_not (bits_of to) test c).circuit → Valued s c × (number (read s (compared_not (bits_of to) test c).result) ≡ truth (not value))
    compared_not_reads to test value c reads h =
        let all = reads h in (
          all.0,
          answer_reads s one (bits_of to) (negation (test c).result) (some_bits to)
              ∙ ap bit (holds_negation s (test c).result ∙ ap not all.1) ∙ bit_truth (not value),
        )

  pub less_is_below : (xs ys : Wires) (c : Circuit) → length xs ≡ length ys → Valued s (less xs ys c).circuit
      → Valued s c × (holds s (less xs ys c).result ≡ nat_lt (number (read s xs)) (number (read s ys)))
  less_is_below xs ys c long h =
      let all = less_reads s false_wire xs ys c h in (
        all.0,
        all.1 ∙ bits.less_is (read s xs) (read s ys) (holds s false_wire) (length_read s xs ∙ long ∙ sym (length_read s ys))
            ∙ ap (λ (b : Bool). nat_lt (number (read s xs)) (number (read s ys) + bit b)) (holds_false s one)
            ∙ ap (λ (n : ℕ). nat_lt (number (read s xs)) n) plain,
      )
    where
      plain : number (read s ys) + 0 ≡ number (read s ys)
      plain = omega arith

  length_turned : (ws : Wires) → 0 < length ws → length (sign_turned ws) ≡ length ws
  length_turned ws some = length-append (take (length ws - 1) ws) (negation _ ∷ []) ∙ ap (λ (n : ℕ). n + 1) (length-take (length ws - 1) ws) ∙ omega arith

  less_is_below_signed : (xs ys : Wires) (c : Circuit) → 0 < length xs → length xs ≡ length ys → Valued s (less (sign_turned xs) (sign_turned ys) c).circuit
      → Valued s c × (holds s (less (sign_turned xs) (sign_turned ys) c).result ≡ int_lt (signed (length xs) (number (read s xs))) (signed (length xs) (number (read s ys))))
  less_is_below_signed xs ys c some same h =
      let all = less_is_below (sign_turned xs) (sign_turned ys) c (length_turned xs some ∙ same ∙ sym (length_turned ys (subst (λ (n : ℕ). 0 < n) same some))) h in
      (all.0, all.1 ∙ less_turned s one xs ys some same)

  plus_reads : (xs ys : Wires) (carry : ℕ) (b : Bool) (c : Circuit) → length xs ≡ length ys → holds s carry ≡ b → Valued s (plus xs ys carry c).circuit
      → Valued s c × (number (read s (plus xs ys carry c).result) ≡ number (sums (read s xs) (read s ys) b))
  plus_reads xs ys carry b c long is h =
      let all = add_reads s xs ys carry c h in
      (all.0, ap (λ (bs : List Bool). number bs) all.1 ∙ ap (λ (b : Bool). number (sums (read s xs) (read s ys) b)) is)

  -- a shift is by the count modulo the width
  shift_is : (kind : Shift) (width : Width) (xs ys : Wires) (c : Circuit) → length xs ≡ bits_of width → length ys ≡ bits_of width
      → Valued s (shift kind width xs ys c).circuit
      → Valued s c × (number (read s (shift kind width xs ys c).result) ≡ shift_of kind (bits_of width) (number (read s ys) % bits_of width) (number (read s xs)))
  shift_is kind width xs ys c x_long y_long h =
      let few : shift_bits width ≤ length ys = within width (length ys) y_long in
      let counts : length (take (shift_bits width) ys) ≡ shift_bits width = length-take (shift_bits width) ys ∙ omega arith in
      let whole : 2 ^ length (take (shift_bits width) ys) ≡ length xs = ap (λ (n : ℕ). 2 ^ n) counts ∙ power width ∙ sym x_long in
      let all = shift_reads s one kind (take (shift_bits width) ys) xs c whole h in
      let count : number (read s (take (shift_bits width) ys)) ≡ number (read s ys) % bits_of width =
      ap (λ (bs : List Bool). number bs) (read_take s (shift_bits width) ys)
      ∙ number_take (shift_bits width) (read s ys) (subst (λ (n : ℕ). shift_bits width ≤ n) (sym (length_read s ys)) few)
      ∙ ap (λ (n : ℕ). number (read s ys) % n) (power width) in
      (all.0, all.1 ∙ ap₂ (λ (n k : ℕ). shift_of kind n k (number (read s xs))) x_long count)
    where
      power : (width : Width) → 2 ^ shift_bits width ≡ bits_of width
      power W32 = refl
      power W64 = refl

      within : (width : Width) (n : ℕ) → n ≡ bits_of width → shift_bits width ≤ n
      within W32 n e = omega arith
      within W64 n e = omega arith

  pub binary_reads : (operation : Binary) (width to : Width) (xs ys : Wires) (c : Circuit) → length xs ≡ bits_of width → length ys ≡ bits_of width
      → Valued s (binary_wires operation width (bits_of to) xs ys c).circuit
      → Valued s c × (number (read s (binary_wires operation width (bits_of to) xs ys c).result) ≡ total_value operation (bits_of width) (number (read s xs)) (number (read s ys)))
  binary_reads Eq width to xs ys c x_long y_long h =
      compared_reads width xs ys x_long y_long to (equal xs ys) (number (read s xs) == number (read s ys)) c (λ v. equal_reads width xs ys x_long y_long c v) h
  binary_reads Ne width to xs ys c x_long y_long h =
      compared_not_reads width xs ys x_long y_long to (equal xs ys) (number (read s xs) == number (read s ys)) c (λ v. equal_reads width xs ys x_long y_long c v) h
  binary_reads LtU width to xs ys c x_long y_long h =
      compared_reads width xs ys x_long y_long to (less xs ys) (nat_lt (number (read s xs)) (number (read s ys))) c (λ v. less_is_below xs ys c (x_long ∙ sym y_long) v) h
  binary_reads GtU width to xs ys c x_long y_long h =
      compared_reads width xs ys x_long y_long to (less ys xs) (nat_lt (number (read s ys)) (number (read s xs))) c (λ v. less_is_below ys xs c (y_long ∙ sym x_long) v) h
  binary_reads LeU width to xs ys c x_long y_long h =
      let all = compared_not_reads width xs ys x_long y_long to (less ys xs) (nat_lt (number (read s ys)) (number (read s xs))) c (λ v. less_is_below ys xs c (y_long ∙ sym x_long) v) h in
      (all.0, all.1 ∙ ap truth (sym (not_above (number (read s xs)) (number (read s ys)))))
  binary_reads GeU width to xs ys c x_long y_long h =
      let all = compared_not_reads width xs ys x_long y_long to (less xs ys) (nat_lt (number (read s xs)) (number (read s ys))) c (λ v. less_is_below xs ys c (x_long ∙ sym y_long) v) h in
      (all.0, all.1 ∙ ap truth (sym (not_above (number (read s ys)) (number (read s xs)))))
  binary_reads LtS width to xs ys c x_long y_long h =
      compared_reads width xs ys x_long y_long to (less (sign_turned xs) (sign_turned ys)) (int_lt (signed (bits_of width) (number (read s xs))) (signed (bits_of width) (number (read s ys)))) c
      (λ v. let below = less_is_below_signed xs ys c (subst (λ (n : ℕ). 0 < n) (sym x_long) (some_bits width)) (x_long ∙ sym y_long) v in
      (below.0, below.1 ∙ ap (λ (n : ℕ). int_lt (signed n (number (read s xs))) (signed n (number (read s ys)))) x_long)) h
  binary_reads GtS width to xs ys c x_long y_long h =
      compared_reads width xs ys x_long y_long to (less (sign_turned ys) (sign_turned xs)) (int_lt (signed (bits_of width) (number (read s ys))) (signed (bits_of width) (number (read s xs)))) c
      (λ v. let below = less_is_below_signed ys xs c (subst (λ (n : ℕ). 0 < n) (sym y_long) (some_bits width)) (y_long ∙ sym x_long) v in
      (below.0, below.1 ∙ ap (λ (n : ℕ). int_lt (signed n (number (read s ys))) (signed n (number (read s xs)))) y_long)) h
  binary_reads LeS width to xs ys c x_long y_long h =
      let all = compared_not_reads width xs ys x_long y_long to (less (sign_turned ys) (sign_turned xs)) (int_lt (signed (bits_of width) (number (read s ys))) (signed (bits_of width) (number (read s xs)))) c
      (λ v. let below = less_is_below_signed ys xs c (subst (λ (n : ℕ). 0 < n) (sym y_long) (some_bits width)) (y_long ∙ sym x_long) v in
      (below.0, below.1 ∙ ap (λ (n : ℕ). int_lt (signed n (number (read s ys))) (signed n (number (read s xs)))) y_long)) h in
      (all.0, all.1 ∙ ap truth (sym (not_above_signed (signed (bits_of width) (number (read s xs))) (signed (bits_of width) (number (read s ys))))))
  binary_reads GeS width to xs ys c x_long y_long h =
      let all = compared_not_reads width xs ys x_long y_long to (less (sign_turned xs) (sign_turned ys)) (int_lt (signed (bits_of width) (number (read s xs))) (signed (bits_of width) (number (read s ys)))) c
      (λ v. let below = less_is_below_signed xs ys c (subst (λ (n : ℕ). 0 < n) (sym x_long) (some_bits width)) (x_long ∙ sym y_long) v in
      (below.0, below.1 ∙ ap (λ (n : ℕ). int_lt (signed n (number (read s xs))) (signed n (number (read s ys)))) x_long)) h in
      (all.0, all.1 ∙ ap truth (sym (not_above_signed (signed (bits_of width) (number (read s ys))) (signed (bits_of width) (number (read s xs))))))
  binary_reads Add width to xs ys c x_long y_long h =
      let all = plus_reads xs ys false_wire false c (x_long ∙ sym y_long) (holds_false s one) h in (
        all.0,
        all.1 ∙ sum_is (read s xs) (read s ys) false (same_read width xs ys x_long y_long)
            ∙ ap₂ (λ (m n : ℕ). m % 2 ^ n) (plain (number (read s xs) + number (read s ys))) (length_read s xs ∙ x_long),
      )
    where
      plain : (n : ℕ) → n + 0 ≡ n
      plain n = omega arith
  binary_reads Sub width to xs ys c x_long y_long h =
      let negated_long : length xs ≡ length (map negation ys) = x_long ∙ sym y_long ∙ sym (length_map negation ys) in
      let all = plus_reads xs (map negation ys) true_wire true c negated_long (holds_true s one) h in (
        all.0,
        all.1 ∙ ap (λ (bs : List Bool). number (sums (read s xs) bs true)) (read_negations s ys)
            ∙ difference_is (read s xs) (read s ys) (same_read width xs ys x_long y_long)
            ∙ ap (λ (n : ℕ). (number (read s xs) + 2 ^ n - number (read s ys)) % 2 ^ n) (length_read s xs ∙ x_long),
      )
  binary_reads Mul width to xs ys c x_long y_long h =
      let all = multiply_reads s one xs ys c (x_long ∙ sym y_long) h in
      (all.0, all.1 ∙ ap (λ (n : ℕ). (number (read s xs) * number (read s ys)) % 2 ^ n) x_long)
  binary_reads DivU width to xs ys c x_long y_long h =
      let all = divide_reads s one xs ys c (x_long ∙ sym y_long) h in
      (all.0, all.1 ∙ ap (λ (n : ℕ). quotient_or_ones n (number (read s xs)) (number (read s ys))) x_long)
  binary_reads RemU width to xs ys c x_long y_long h =
      let all = divide_reads s one xs ys c (x_long ∙ sym y_long) h in
      (all.0, all.2 ∙ rest (number (read s xs)) (number (read s ys)))
    where
      rest : (x y : ℕ) → x % y ≡ cond (y == 0) x (x % y)
      rest x y = ⊎_elim (λ (e : y ≡ 0). ap (λ (k : ℕ). x % k) e ∙ mod-zero x ∙ sym (ap (λ (b : Bool). cond b x (x % y)) (eq-eqb y 0 e))) (λ (e : y ≡ 0 → ⊥). sym (ap (λ (b : Bool). cond b x (x % y)) (ne_eqb y 0 e))) (cases_eq y 0)
  binary_reads DivS width to xs ys c x_long y_long h =
      let all = signed_quotient_reads s one xs ys (some width xs ys x_long y_long) (x_long ∙ sym y_long) c h in
      (all.0, all.1 ∙ ap (λ (n : ℕ). total_value DivS n (number (read s xs)) (number (read s ys))) x_long)
  binary_reads RemS width to xs ys c x_long y_long h =
      let all = signed_remainder_reads s one xs ys (some width xs ys x_long y_long) (x_long ∙ sym y_long) c h in
      (all.0, all.1 ∙ ap (λ (n : ℕ). total_value RemS n (number (read s xs)) (number (read s ys))) x_long)
  binary_reads AndOf width to xs ys c x_long y_long h =
      let all = each_two_reads s And (λ x y. x && y) (λ v w. refl) xs ys c h in
      (all.0, ap (λ (bs : List Bool). number bs) all.1 ∙ and_is (read s xs) (read s ys) (same_read width xs ys x_long y_long))
  binary_reads XorOf width to xs ys c x_long y_long h =
      let all = each_two_reads s Xor differ (λ v w. refl) xs ys c h in
      (all.0, ap (λ (bs : List Bool). number bs) all.1 ∙ xor_is (read s xs) (read s ys) (same_read width xs ys x_long y_long))
  binary_reads OrOf width to xs ys c x_long y_long h =
      let all = each_two_reads s And (λ x y. x && y) (λ v w. refl) (map negation xs) (map negation ys) c h in (
        all.0,
        ap (λ (bs : List Bool). number bs)
            (read_negations s (each_two And (map negation xs) (map negation ys) c).result
            ∙ ap (map not) (all.1 ∙ ap₂ (λ (bs cs : List Bool). both (λ x y. x && y) bs cs) (read_negations s xs) (read_negations s ys))
            ∙ or_by_and (read s xs) (read s ys))
            ∙ or_is (read s xs) (read s ys) (same_read width xs ys x_long y_long),
      )
  binary_reads Shl width to xs ys c x_long y_long h = shift_is Left width xs ys c x_long y_long h
  binary_reads ShrU width to xs ys c x_long y_long h = shift_is Right width xs ys c x_long y_long h
  binary_reads ShrS width to xs ys c x_long y_long h =
      let all = shift_is RightSigned width xs ys c x_long y_long h in
      (all.0, all.1 ∙ shifted_signed (bits_of width) (number (read s xs)) (number (read s ys) % bits_of width) (some_bits width) (below_width (bits_of width) xs x_long))
  binary_reads Rotl width to xs ys c x_long y_long h =
      let all = shift_is RotateLeft width xs ys c x_long y_long h in
      let few = mod_below (number (read s ys)) (bits_of width) (some_bits width) in
      (all.0, all.1 ∙ sym (rotated-parts (bits_of width) (number (read s xs)) (number (read s ys) % bits_of width) (omega arith)))
  binary_reads Rotr width to xs ys c x_long y_long h =
      let all = shift_is RotateRight width xs ys c x_long y_long h in
      let few = mod_below (number (read s ys)) (bits_of width) (some_bits width) in
      let back : bits_of width - (bits_of width - number (read s ys) % bits_of width) ≡ number (read s ys) % bits_of width = omega arith in (
        all.0,
        all.1 ∙ sym (rotated-parts (bits_of width) (number (read s xs)) (bits_of width - number (read s ys) % bits_of width) (omega arith)
            ∙ ap (λ (n : ℕ). turned n (bits_of width - number (read s ys) % bits_of width) (number (read s xs))) back),
      )

-- ---- how many wires the operators give

pub length_unary : (operation : Unary) (to : Width) (xs : Wires) (c : Circuit) → length (unary_wires operation (bits_of to) xs c).result ≡ bits_of to
length_unary Eqz to xs c = length_fitted (bits_of to) false_wire _
length_unary Popcnt to xs c = length_fitted (bits_of to) false_wire _
length_unary Ctz to xs c = length_fitted (bits_of to) false_wire _
length_unary Clz to xs c = length_fitted (bits_of to) false_wire _
length_unary Wrap to xs c = length_fitted (bits_of to) false_wire xs
length_unary ExtendU to xs c = length_fitted (bits_of to) false_wire xs
length_unary Extend8 to xs c = length_fitted (bits_of to) _ _
length_unary Extend16 to xs c = length_fitted (bits_of to) _ _
length_unary Extend32 to xs c = length_fitted (bits_of to) _ _

length_shifted : (kind : Shift) (width : Width) (xs ys : Wires) (c : Circuit) → length xs ≡ bits_of width → length ys ≡ bits_of width
    → length (shift kind width xs ys c).result ≡ bits_of width
length_shifted kind width xs ys c x_long y_long =
    length_shift_by kind 1 (take (shift_bits width) ys) xs c (fits width (length ys) (length xs) y_long x_long) ∙ x_long
  where
    power : (k l p m : ℕ) → l ≤ k → 2 ^ k ≡ p → p ≤ m → 1 * 2 ^ l ≤ m
    power k l p m h e f = let more = pow_mono h in omega arith

    fits : (width : Width) (n m : ℕ) → n ≡ bits_of width → m ≡ bits_of width → 1 * 2 ^ length (take (shift_bits width) ys) ≤ m
    fits W32 n m e f = let l = length-take 5 ys in power 5 (length (take 5 ys)) 32 m (omega arith) refl (omega arith)
    fits W64 n m e f = let l = length-take 6 ys in power 6 (length (take 6 ys)) 64 m (omega arith) refl (omega arith)

-- of a comparison as many as are asked for, of another operation as many as the operands have
pub length_binary : (operation : Binary) (width to : Width) (xs ys : Wires) (c : Circuit) → length xs ≡ bits_of width → length ys ≡ bits_of width
    → IsTrue (has_room (OfTwo operation) (bits_of width) (bits_of to))
    → length (binary_wires operation width (bits_of to) xs ys c).result ≡ bits_of to
length_binary Eq width to xs ys c x_long y_long room = length_fitted (bits_of to) false_wire _
length_binary Ne width to xs ys c x_long y_long room = length_fitted (bits_of to) false_wire _
length_binary LtU width to xs ys c x_long y_long room = length_fitted (bits_of to) false_wire _
length_binary GtU width to xs ys c x_long y_long room = length_fitted (bits_of to) false_wire _
length_binary LeU width to xs ys c x_long y_long room = length_fitted (bits_of to) false_wire _
length_binary GeU width to xs ys c x_long y_long room = length_fitted (bits_of to) false_wire _
length_binary LtS width to xs ys c x_long y_long room = length_fitted (bits_of to) false_wire _
length_binary GtS width to xs ys c x_long y_long room = length_fitted (bits_of to) false_wire _
length_binary LeS width to xs ys c x_long y_long room = length_fitted (bits_of to) false_wire _
length_binary GeS width to xs ys c x_long y_long room = length_fitted (bits_of to) false_wire _
length_binary Add width to xs ys c x_long y_long room = length_add xs ys false_wire c (x_long ∙ sym y_long) ∙ x_long ∙ eqb-true (bits_of width) (bits_of to) room
length_binary Sub width to xs ys c x_long y_long room = length_add xs (map negation ys) true_wire c (x_long ∙ sym y_long ∙ sym (length_map negation ys)) ∙ x_long ∙ eqb-true (bits_of width) (bits_of to) room
length_binary Mul width to xs ys c x_long y_long room = length_multiply xs ys c (x_long ∙ sym y_long) ∙ y_long ∙ eqb-true (bits_of width) (bits_of to) room
length_binary DivU width to xs ys c x_long y_long room = (length_divide xs ys c).0 ∙ x_long ∙ eqb-true (bits_of width) (bits_of to) room
length_binary RemU width to xs ys c x_long y_long room = (length_divide xs ys c).1 ∙ y_long ∙ eqb-true (bits_of width) (bits_of to) room
length_binary DivS width to xs ys c x_long y_long room =
    let first = negate_if (highest xs) xs c in
    let second = negate_if (highest ys) ys first.circuit in
    let divided = divide first.result second.result second.circuit in
    let sign = put (Xor (highest xs) (highest ys)) divided.circuit in
    length_negate_if sign.result divided.result.quotient sign.circuit ∙ (length_divide first.result second.result second.circuit).0
    ∙ length_negate_if (highest xs) xs c ∙ x_long ∙ eqb-true (bits_of width) (bits_of to) room
length_binary RemS width to xs ys c x_long y_long room =
    let first = negate_if (highest xs) xs c in
    let second = negate_if (highest ys) ys first.circuit in
    let divided = divide first.result second.result second.circuit in
    length_negate_if (highest xs) divided.result.remainder divided.circuit ∙ (length_divide first.result second.result second.circuit).1
    ∙ length_negate_if (highest ys) ys first.circuit ∙ y_long ∙ eqb-true (bits_of width) (bits_of to) room
length_binary AndOf width to xs ys c x_long y_long room = length_each_two And xs ys c (x_long ∙ sym y_long) ∙ y_long ∙ eqb-true (bits_of width) (bits_of to) room
length_binary XorOf width to xs ys c x_long y_long room = length_each_two Xor xs ys c (x_long ∙ sym y_long) ∙ y_long ∙ eqb-true (bits_of width) (bits_of to) room
length_binary OrOf width to xs ys c x_long y_long room =
    length_map negation (each_two And (map negation xs) (map negation ys) c).result
    ∙ length_each_two And (map negation xs) (map negation ys) c (length_map negation xs ∙ x_long ∙ sym y_long ∙ sym (length_map negation ys))
    ∙ length_map negation ys ∙ y_long ∙ eqb-true (bits_of width) (bits_of to) room
length_binary Shl width to xs ys c x_long y_long room = length_shifted Left width xs ys c x_long y_long ∙ eqb-true (bits_of width) (bits_of to) room
length_binary ShrU width to xs ys c x_long y_long room = length_shifted Right width xs ys c x_long y_long ∙ eqb-true (bits_of width) (bits_of to) room
length_binary ShrS width to xs ys c x_long y_long room = length_shifted RightSigned width xs ys c x_long y_long ∙ eqb-true (bits_of width) (bits_of to) room
length_binary Rotl width to xs ys c x_long y_long room = length_shifted RotateLeft width xs ys c x_long y_long ∙ eqb-true (bits_of width) (bits_of to) room
length_binary Rotr width to xs ys c x_long y_long room = length_shifted RotateRight width xs ys c x_long y_long ∙ eqb-true (bits_of width) (bits_of to) room
