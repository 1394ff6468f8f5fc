-- The wires of signed comparisons and quotients.
use Rattle.std.proofs.Common.{◌≡◌, ℕ, zero, suc, ◌+◌, ◌-◌, ◌*◌, ◌/◌, ◌%◌, ◌^◌, ◌<◌, ◌≤◌, ℤ, pos, negsuc, neg_ℤ, int_lt, int_div, int_rem, Bool, true, false, not, ◌==◌, cond, nat_le, nat_lt, List, [], ◌∷◌, ◌++◌, length, take, refl, sym, ap, ◌∙◌, subst, arith, ap₂, ⊎_elim, length-take, mod-eq_of_lt, lt_of_le_of_lt, div-le_self, eq-eqb, ne_eqb, lt-ltb, le-ltb}
use Rattle.std.proofs.lemmas.Nat.{pow_pos}
use Rattle.std.proofs.lemmas.Bool.{cases_eq}
use Rattle.std.proofs.lemmas.Bool.Decides.{nat_tests}
use Rattle.std.proofs.Math.Nat.{mod-le, mod-zero, mod_self}
use Rattle.int_ops.specs.Integers.{signed, unsigned, least, minus_one}
use Rattle.int_ops.specs.Integers as integers
use Rattle.int_ops.proofs.IntegerLemmas.{signed_low, signed_high, pow_half}
use Rattle.refute_check.specs.Clauses.{Assignment}
use Rattle.bit_blast.specs.declared.gates.Gate.TheVariants.{Xor}
use Rattle.bit_blast.specs.Gates.{Wires, negation, Circuit}
use Rattle.bit_blast.specs.Blocks.{put, highest, negate_if, divide}
use Rattle.bit_blast.specs.Operators.{sign_turned, signed_quotient, signed_remainder}
use Rattle.bit_blast.specs.Meanings.{holds, bit, differ}
use Rattle.bit_blast.proofs.BitNumbers.{number}
use Rattle.bit_blast.proofs.NumberLemmas.{number_below}
use Rattle.bit_blast.proofs.SumLemmas.{negation_is}
use Rattle.bit_blast.proofs.SignLemmas.{with_sign, less_signed, negated, negated_below, of_sign, unsigned_parts, quotient_parts, remainder_parts}
use Rattle.bit_blast.proofs.ShiftLemmas.{own_sign}
use Rattle.bit_blast.proofs.WireLemmas.{read, read_append, read_take, length_read, holds_negation}
use Rattle.bit_blast.proofs.LengthLemmas.{length_negate_if, length_divide}
use Rattle.bit_blast.proofs.BlockLemmas.{Valued, put_reads, negate_if_reads, last_or}
use Rattle.bit_blast.proofs.MoveLemmas.{own_sign_bit}
use Rattle.bit_blast.proofs.QuotientLemmas.{quotient_or_ones, divide_reads}
use Rattle.bit_blast.proofs.FittingLemmas.{highest_reads}

-- ---- comparisons

split_last : (n : ℕ) (xs : List Bool) → length xs ≡ suc n → take n xs ++ last_or false xs ∷ [] ≡ xs
split_last n [] h = absurd (omega arith)
split_last zero (x ∷ []) h = refl
split_last zero (x ∷ y ∷ xs) h = absurd (omega arith)
split_last (suc n) (x ∷ []) h = absurd (omega arith)
split_last (suc n) (x ∷ y ∷ xs) h = ap (λ (bs : List Bool). x ∷ bs) (split_last n (y ∷ xs) (omega arith))

abbrev lower : List Bool → List Bool
lower xs = take (length xs - 1) xs

in_parts : (xs : List Bool) → 0 < length xs → (number xs ≡ number (lower xs) + 2 ^ (length xs - 1) * bit (last_or false xs)) × (number (lower xs) < 2 ^ (length xs - 1)) × (length (lower xs) ≡ length xs - 1)
in_parts xs some =
    let long : length (lower xs) ≡ length xs - 1 = length-take (length xs - 1) xs ∙ omega arith in
    let whole : length xs ≡ suc (length xs - 1) = omega arith in (
      ap (λ (bs : List Bool). number bs) (sym (split_last (length xs - 1) xs whole)) ∙ with_sign (lower xs) (last_or false xs)
          ∙ ap (λ (n : ℕ). number (lower xs) + 2 ^ n * bit (last_or false xs)) long,
      subst (λ (n : ℕ). number (lower xs) < 2 ^ n) long (number_below (lower xs)),
      long,
    )

-- the number of wires whose highest is negated
turned_reads : (s : Assignment) → s 1 ≡ true → (ws : Wires) → 0 < length ws
    → number (read s (sign_turned ws)) ≡ number (lower (read s ws)) + 2 ^ (length (read s ws) - 1) * bit (not (last_or false (read s ws)))
turned_reads s one ws some =
    let some_read : 0 < length (read s ws) = subst (λ (n : ℕ). 0 < n) (sym (length_read s ws)) some in
    ap (λ (bs : List Bool). number bs)
    (read_append s (take (length ws - 1) ws) (negation (highest ws) ∷ [])
    ∙ ap₂ (λ (bs : List Bool) (b : Bool). bs ++ b ∷ []) (read_take s (length ws - 1) ws ∙ ap (λ (n : ℕ). take (n - 1) (read s ws)) (sym (length_read s ws)))
    (holds_negation s (highest ws) ∙ ap not (highest_reads s one ws)))
    ∙ with_sign (lower (read s ws)) (not (last_or false (read s ws)))
    ∙ ap (λ (n : ℕ). number (lower (read s ws)) + 2 ^ n * bit (not (last_or false (read s ws)))) (in_parts (read s ws) some_read).2

pub less_turned : (s : Assignment) → s 1 ≡ true → (xs ys : Wires) → 0 < length xs → length xs ≡ length ys
    → nat_lt (number (read s (sign_turned xs))) (number (read s (sign_turned ys))) ≡ int_lt (signed (length xs) (number (read s xs))) (signed (length xs) (number (read s ys)))
less_turned s one xs ys some same =
    let long : length (read s xs) ≡ length xs = length_read s xs in
    let other : length (read s ys) ≡ length xs = length_read s ys ∙ sym same in
    let first = in_parts (read s xs) (omega arith) in
    let second = in_parts (read s ys) (omega arith) in
    let n : ℕ = length xs - 1 in
    let whole : length xs - 1 + 1 ≡ length xs = omega arith in
    let x_is : number (read s xs) ≡ number (lower (read s xs)) + 2 ^ (length xs - 1) * bit (last_or false (read s xs)) = first.0 ∙ ap (λ (k : ℕ). number (lower (read s xs)) + 2 ^ (k - 1) * bit (last_or false (read s xs))) long in
    let y_is : number (read s ys) ≡ number (lower (read s ys)) + 2 ^ (length xs - 1) * bit (last_or false (read s ys)) = second.0 ∙ ap (λ (k : ℕ). number (lower (read s ys)) + 2 ^ (k - 1) * bit (last_or false (read s ys))) other in
    let x_fits : number (lower (read s xs)) < 2 ^ (length xs - 1) = subst (λ (k : ℕ). number (lower (read s xs)) < 2 ^ (k - 1)) long first.1 in
    let y_fits : number (lower (read s ys)) < 2 ^ (length xs - 1) = subst (λ (k : ℕ). number (lower (read s ys)) < 2 ^ (k - 1)) other second.1 in
    ap₂ (λ (a b : ℕ). nat_lt a b)
    (turned_reads s one xs some ∙ ap (λ (k : ℕ). number (lower (read s xs)) + 2 ^ (k - 1) * bit (not (last_or false (read s xs)))) long)
    (turned_reads s one ys (omega arith) ∙ ap (λ (k : ℕ). number (lower (read s ys)) + 2 ^ (k - 1) * bit (not (last_or false (read s ys)))) other)
    ∙ sym (less_signed (length xs - 1) (number (lower (read s xs))) (number (lower (read s ys))) (last_or false (read s xs)) (last_or false (read s ys)) x_fits y_fits)
    ∙ ap₂ (λ (a b : ℕ). int_lt (signed (length xs - 1 + 1) a) (signed (length xs - 1 + 1) b)) (sym x_is) (sym y_is)
    ∙ ap (λ (k : ℕ). int_lt (signed k (number (read s xs))) (signed k (number (read s ys)))) whole

-- ---- quotients

-- an integer is its absolute value with its sign
pub passed : (m n : ℕ) → nat_le m n ≡ true → m ≤ n
passed m n e = grind (arith, nat_tests)

pub failed : (m n : ℕ) → nat_le m n ≡ false → n < m
failed m n e = grind (arith, nat_tests)

signed_own : (N x : ℕ) → 0 < N → x < 2 ^ N → signed N x ≡ of_sign (own_sign N x) (negated N (own_sign N x) x)
signed_own N x some below = go (own_sign N x) refl
  where
    high : (p q x : ℕ) → 0 < p → p ≤ x → x < q → negsuc (q - suc x) ≡ neg_ℤ (pos ((q - x) % q))
    high p q x more h below =
        let whole : q - x ≡ suc (q - suc x) = omega arith in
        sym (ap (λ (k : ℕ). neg_ℤ (pos (k % q))) whole ∙ ap (λ (k : ℕ). neg_ℤ (pos k)) (mod-eq_of_lt (omega arith)))

    go : (s : Bool) → own_sign N x ≡ s → signed N x ≡ of_sign s (negated N s x)
    go true e = signed_high N x (passed (2 ^ (N - 1)) x e) below ∙ high (2 ^ (N - 1)) (2 ^ N) x (pow_pos (N - 1)) (passed (2 ^ (N - 1)) x e) below
    go false e = signed_low N x (failed (2 ^ (N - 1)) x e)

twice_negated : (N : ℕ) (s : Bool) (x : ℕ) → x < 2 ^ N → negated N s (negated N s x) ≡ x
twice_negated N false x h = refl
twice_negated N true zero h = both_zero (2 ^ N) (pow_pos N)
  where
    both_zero : (p : ℕ) → 0 < p → (p - (p - 0) % p) % p ≡ 0
    both_zero p some =
        let none : (p - 0) % p ≡ 0 = ap (λ (k : ℕ). k % p) less ∙ mod_self p in
        ap (λ (k : ℕ). (p - k) % p) none ∙ none
      where
        less : p - 0 ≡ p
        less = omega arith
twice_negated N true (suc x) h = back (2 ^ N) (suc x) (omega arith) h
  where
    back : (p x : ℕ) → 0 < x → x < p → (p - (p - x) % p) % p ≡ x
    back p x some h =
        let once : p - x < p = omega arith in
        ap (λ (k : ℕ). (p - k) % p) (mod-eq_of_lt once) ∙ ap (λ (k : ℕ). k % p) less ∙ mod-eq_of_lt h
      where
        less : p - (p - x) ≡ x
        less = omega arith

-- a value that isn't 0 has an absolute value that isn't
abs_some : (N : ℕ) (s : Bool) (y : ℕ) → y < 2 ^ N → (y ≡ 0 → ⊥) → negated N s y ≡ 0 → ⊥
abs_some N s y h some e = some (sym (twice_negated N s y h) ∙ ap (λ (k : ℕ). negated N s k) e ∙ zero_negated s)
  where
    zero_negated : (s : Bool) → negated N s 0 ≡ 0
    zero_negated true = ap (λ (k : ℕ). k % 2 ^ N) (omega arith) ∙ mod_self (2 ^ N)
    zero_negated false = refl

zero_sign : (N y : ℕ) → y ≡ 0 → own_sign N y ≡ false
zero_sign N y e = ap (λ (k : ℕ). own_sign N k) e ∙ fails (2 ^ (N - 1)) (pow_pos (N - 1))
  where
    fails : (p : ℕ) → 0 < p → nat_le p 0 ≡ false
    fails p h = grind (arith, nat_tests)

zero_abs : (N y : ℕ) → y ≡ 0 → negated N (own_sign N y) y ≡ 0
zero_abs N y e = ap (λ (b : Bool). negated N b y) (zero_sign N y e) ∙ e

-- the quotient of signed integers, where the quotient by 0 is all ones, or 1 of a negative one
pub quotient_signed : (N x y : ℕ) → 0 < N → x < 2 ^ N → y < 2 ^ N
    → negated N (differ (own_sign N x) (own_sign N y)) (quotient_or_ones N (negated N (own_sign N x) x) (negated N (own_sign N y) y))
    ≡ cond (y == 0) (cond (nat_lt x (least N)) (minus_one N) 1) (integers.div_s N x y)
quotient_signed N x y some h k = ⊎_elim nothing something (cases_eq y 0)
  where
    s : Bool
    s = own_sign N x

    t : Bool
    t = own_sign N y

    something : (y ≡ 0 → ⊥) → negated N (differ s t) (quotient_or_ones N (negated N s x) (negated N t y)) ≡ cond (y == 0) (cond (nat_lt x (least N)) (minus_one N) 1) (integers.div_s N x y)
    something e =
        let fits = lt_of_le_of_lt (div-le_self (negated N s x) (negated N t y)) (negated_below N s x h) in
        ap (λ (b : Bool). negated N (differ s t) (cond b (2 ^ N - 1) (negated N s x / negated N t y))) (ne_eqb (negated N t y) 0 (abs_some N t y k e))
        ∙ sym (unsigned_parts N (differ s t) (negated N s x / negated N t y) fits)
        ∙ ap (λ (z : ℤ). unsigned N z) (sym (quotient_parts s t (negated N s x) (negated N t y)))
        ∙ ap₂ (λ (v w : ℤ). unsigned N (int_div v w)) (sym (signed_own N x some h)) (sym (signed_own N y some k))
        ∙ sym (ap (λ (b : Bool). cond b (cond (nat_lt x (least N)) (minus_one N) 1) (integers.div_s N x y)) (ne_eqb y 0 e))

    nothing : y ≡ 0 → negated N (differ s t) (quotient_or_ones N (negated N s x) (negated N t y)) ≡ cond (y == 0) (cond (nat_lt x (least N)) (minus_one N) 1) (integers.div_s N x y)
    nothing e =
        ap₂ (λ (b : Bool) (m : ℕ). negated N (differ s b) (quotient_or_ones N (negated N s x) m)) (zero_sign N y e) (zero_abs N y e)
        ∙ go s refl
        ∙ sym (ap (λ (b : Bool). cond b (cond (nat_lt x (least N)) (minus_one N) 1) (integers.div_s N x y)) (eq-eqb y 0 e))
      where
        last_one : (p : ℕ) → 1 < p → (p - (p - 1)) % p ≡ 1
        last_one p h = ap (λ (k : ℕ). k % p) less ∙ mod-eq_of_lt h
          where
            less : p - (p - 1) ≡ 1
            less = omega arith

        go : (b : Bool) → own_sign N x ≡ b → negated N (differ b false) (2 ^ N - 1) ≡ cond (nat_lt x (least N)) (minus_one N) 1
        go true e =
            let high : 2 ^ (N - 1) ≤ x = passed (2 ^ (N - 1)) x e in
            let half = pow_half N some in
            let power = pow_pos (N - 1) in
            last_one (2 ^ N) (omega arith) ∙ sym (ap (λ (b : Bool). cond b (minus_one N) 1) (le-ltb x (least N) high))
        go false e = sym (ap (λ (b : Bool). cond b (minus_one N) 1) (lt-ltb x (least N) (failed (2 ^ (N - 1)) x e)))

pub remainder_signed : (N x y : ℕ) → 0 < N → x < 2 ^ N → y < 2 ^ N
    → negated N (own_sign N x) (negated N (own_sign N x) x % negated N (own_sign N y) y)
    ≡ cond (y == 0) x (integers.rem_s N x y)
remainder_signed N x y some h k = ⊎_elim nothing something (cases_eq y 0)
  where
    s : Bool
    s = own_sign N x

    t : Bool
    t = own_sign N y

    something : (y ≡ 0 → ⊥) → negated N s (negated N s x % negated N t y) ≡ cond (y == 0) x (integers.rem_s N x y)
    something e =
        let fits = lt_of_le_of_lt (mod-le (negated N s x) (negated N t y)) (negated_below N s x h) in
        sym (unsigned_parts N s (negated N s x % negated N t y) fits)
        ∙ ap (λ (z : ℤ). unsigned N z) (sym (remainder_parts s t (negated N s x) (negated N t y)))
        ∙ ap₂ (λ (v w : ℤ). unsigned N (int_rem v w)) (sym (signed_own N x some h)) (sym (signed_own N y some k))
        ∙ sym (ap (λ (b : Bool). cond b x (integers.rem_s N x y)) (ne_eqb y 0 e))

    nothing : y ≡ 0 → negated N s (negated N s x % negated N t y) ≡ cond (y == 0) x (integers.rem_s N x y)
    nothing e =
        ap (λ (m : ℕ). negated N s (negated N s x % m)) (zero_abs N y e) ∙ ap (λ (m : ℕ). negated N s m) (mod-zero (negated N s x)) ∙ twice_negated N s x h
        ∙ sym (ap (λ (b : Bool). cond b x (integers.rem_s N x y)) (eq-eqb y 0 e))

-- ---- the blocks

module _ (s : Assignment) (one : s 1 ≡ true) (xs ys : Wires) (some : 0 < length xs) (same : length xs ≡ length ys) where
  x_below : number (read s xs) < 2 ^ length xs
  x_below = subst (λ (n : ℕ). number (read s xs) < 2 ^ n) (length_read s xs) (number_below (read s xs))

  y_below : number (read s ys) < 2 ^ length xs
  y_below = subst (λ (n : ℕ). number (read s ys) < 2 ^ n) (length_read s ys ∙ sym same) (number_below (read s ys))

  x_sign : holds s (highest xs) ≡ own_sign (length xs) (number (read s xs))
  x_sign =
      highest_reads s one xs ∙ own_sign_bit (read s xs) (subst (λ (n : ℕ). 0 < n) (sym (length_read s xs)) some)
      ∙ ap (λ (n : ℕ). own_sign n (number (read s xs))) (length_read s xs)

  y_sign : holds s (highest ys) ≡ own_sign (length xs) (number (read s ys))
  y_sign =
      highest_reads s one ys ∙ own_sign_bit (read s ys) (subst (λ (n : ℕ). 0 < n) (same ∙ sym (length_read s ys)) some)
      ∙ ap (λ (n : ℕ). own_sign n (number (read s ys))) (length_read s ys ∙ sym same)

  -- the absolute values of both
  absolute : (zs : Wires) (sign : ℕ) (b : Bool) (c : Circuit) → length zs ≡ length xs → holds s sign ≡ b → Valued s (negate_if sign zs c).circuit
      → Valued s c × (number (read s (negate_if sign zs c).result) ≡ negated (length xs) b (number (read s zs)))
  absolute zs sign b c long is h =
      let all = negate_if_reads s one sign zs c h in (
        all.0,
        ap (λ (bs : List Bool). number bs) all.1 ∙ negation_is (holds s sign) (read s zs)
            ∙ ap₂ (λ (b : Bool) (n : ℕ). negated n b (number (read s zs))) is (length_read s zs ∙ long),
      )

  pub signed_quotient_reads : (c : Circuit) → Valued s (signed_quotient xs ys c).circuit
      → Valued s c × (number (read s (signed_quotient xs ys c).result)
      ≡ cond (number (read s ys) == 0) (cond (nat_lt (number (read s xs)) (least (length xs))) (minus_one (length xs)) 1) (integers.div_s (length xs) (number (read s xs)) (number (read s ys))))
  signed_quotient_reads c h =
      let first = negate_if (highest xs) xs c in
      let second = negate_if (highest ys) ys first.circuit in
      let divided = divide first.result second.result second.circuit in
      let sign = put (Xor (highest xs) (highest ys)) divided.circuit in
      let first_long : length first.result ≡ length xs = length_negate_if (highest xs) xs c in
      let second_long : length second.result ≡ length xs = length_negate_if (highest ys) ys first.circuit ∙ sym same in
      let quotient_long : length divided.result.quotient ≡ length xs = (length_divide first.result second.result second.circuit).0 ∙ first_long in
      let last = absolute divided.result.quotient sign.result (holds s sign.result) sign.circuit quotient_long refl h in
      let turned = put_reads s (Xor (highest xs) (highest ys)) divided.circuit last.0 in
      let quotients = divide_reads s one first.result second.result second.circuit (first_long ∙ sym second_long) turned.0 in
      let divisor = absolute ys (highest ys) (own_sign (length xs) (number (read s ys))) first.circuit (sym same) y_sign quotients.0 in
      let dividend = absolute xs (highest xs) (own_sign (length xs) (number (read s xs))) c refl x_sign divisor.0 in (
        dividend.0,
        last.1
            ∙ ap₂ (λ (b : Bool) (n : ℕ). negated (length xs) b n) (turned.1 ∙ ap₂ (λ (a b : Bool). differ a b) x_sign y_sign)
            (quotients.1 ∙ ap (λ (n : ℕ). quotient_or_ones n (number (read s first.result)) (number (read s second.result))) first_long
            ∙ ap₂ (λ (m n : ℕ). quotient_or_ones (length xs) m n) dividend.1 divisor.1)
            ∙ quotient_signed (length xs) (number (read s xs)) (number (read s ys)) some x_below y_below,
      )

  pub signed_remainder_reads : (c : Circuit) → Valued s (signed_remainder xs ys c).circuit
      → Valued s c × (number (read s (signed_remainder xs ys c).result)
      ≡ cond (number (read s ys) == 0) (number (read s xs)) (integers.rem_s (length xs) (number (read s xs)) (number (read s ys))))
  signed_remainder_reads c h =
      let first = negate_if (highest xs) xs c in
      let second = negate_if (highest ys) ys first.circuit in
      let divided = divide first.result second.result second.circuit in
      let first_long : length first.result ≡ length xs = length_negate_if (highest xs) xs c in
      let second_long : length second.result ≡ length xs = length_negate_if (highest ys) ys first.circuit ∙ sym same in
      let rest_long : length divided.result.remainder ≡ length xs = (length_divide first.result second.result second.circuit).1 ∙ second_long in
      let last = absolute divided.result.remainder (highest xs) (own_sign (length xs) (number (read s xs))) divided.circuit rest_long x_sign h in
      let quotients = divide_reads s one first.result second.result second.circuit (first_long ∙ sym second_long) last.0 in
      let divisor = absolute ys (highest ys) (own_sign (length xs) (number (read s ys))) first.circuit (sym same) y_sign quotients.0 in
      let dividend = absolute xs (highest xs) (own_sign (length xs) (number (read s xs))) c refl x_sign divisor.0 in (
        dividend.0,
        last.1
            ∙ ap (λ (n : ℕ). negated (length xs) (own_sign (length xs) (number (read s xs))) n)
            (quotients.2 ∙ ap₂ (λ (m n : ℕ). m % n) dividend.1 divisor.1)
            ∙ remainder_signed (length xs) (number (read s xs)) (number (read s ys)) some x_below y_below,
      )
