-- Long division.
use Rattle.std.proofs.Common.{◌≡◌, ℕ, suc, ◌+◌, ◌-◌, ◌*◌, ◌/◌, ◌%◌, ◌^◌, ◌<◌, ◌≤◌, Bool, true, false, not, cond, nat_le, List, [], ◌∷◌, ◌++◌, length, map, take, refl, sym, ap, ◌∙◌, subst, arith, pow-suc, mod-eq_of_lt, length-append, mul-zero, length-take}
use Rattle.std.proofs.lemmas.Nat.{div-mul-add, mod-mul-add}
use Rattle.std.proofs.lemmas.Bool.Decides.{nat_tests}
use Rattle.bit_blast.proofs.NumberLemmas.{bit_le, number_below, number_append, number_take}
use Rattle.bit_blast.proofs.SumLemmas.{sums, carried, difference_is, no_borrow, length_sums, length_not, either_bits, length_either, either_is}
use Rattle.bit_blast.proofs.BitNumbers.{number}
use Rattle.bit_blast.specs.Meanings.{bit}

-- ---- one step: the remainder so far is doubled, the next bit comes below, and the divisor is taken away where it fits

-- the quotient and the remainder of the bits so far: by 0 the quotient is all ones and the remainder the dividend
pub record IsDivided (bits dividend divisor quotient rest : ℕ) : Type 0 where
  pub whole : dividend ≡ quotient * divisor + rest
  pub within : 0 < divisor → rest < divisor
  pub by_zero : divisor ≡ 0 → quotient + 1 ≡ 2 ^ bits

pub no_bits : (divisor : ℕ) → IsDivided 0 0 divisor 0 0
no_bits divisor = record { whole = omega arith; within = λ h. h; by_zero = λ e. refl }

-- what is left after a step
abbrev pub rest_after : Bool → ℕ → ℕ → ℕ
rest_after q r divisor = cond q (r - divisor) r

pub next_bit : (n p d q r : ℕ) (a c : Bool) → IsDivided n p d q r → c ≡ nat_le d (bit a + 2 * r)
    → IsDivided (suc n) (bit a + 2 * p) d (bit c + 2 * q) (rest_after c (bit a + 2 * r) d)
next_bit n p d q r a c h e = go c e
  where
    distribute : (q d : ℕ) → (1 + 2 * q) * d ≡ d + 2 * (q * d)
    distribute q d = omega arith

    distribute_none : (q d : ℕ) → (0 + 2 * q) * d ≡ 2 * (q * d)
    distribute_none q d = omega arith

    fits : true ≡ nat_le d (bit a + 2 * r) → d ≤ bit a + 2 * r
    fits e = grind (arith, nat_tests)

    fails : false ≡ nat_le d (bit a + 2 * r) → bit a + 2 * r < d
    fails e = grind (arith, nat_tests)

    go : (c : Bool) → c ≡ nat_le d (bit a + 2 * r) → IsDivided (suc n) (bit a + 2 * p) d (bit c + 2 * q) (rest_after c (bit a + 2 * r) d)
    go true e =
        let f : d ≤ bit a + 2 * r = fits e in
        let w = h.whole in
        let m = distribute q d in
        let l = bit_le a in
        record {
          whole = omega arith;
          within = λ some. let i = h.within some in omega arith;
          by_zero = λ none. let i = h.by_zero none in rw pow-suc (omega arith);
        }
    go false e =
        let f : bit a + 2 * r < d = fails e in
        let w = h.whole in
        let m = distribute_none q d in
        record {
          whole = omega arith;
          within = λ some. f;
          by_zero = λ none. absurd (omega arith);
        }

-- ---- all bits

pub quotient_of : (n x d q r : ℕ) → IsDivided n x d q r → 0 < d → (q ≡ x / d) × (r ≡ x % d)
quotient_of n x d q r h some =
    let below = h.within some in
    (sym (ap (λ (k : ℕ). k / d) h.whole ∙ div-mul-add q d r below), sym (ap (λ (k : ℕ). k % d) h.whole ∙ mod-mul-add q d r below))

pub quotient_by_zero : (n x d q r : ℕ) → IsDivided n x d q r → d ≡ 0 → (q ≡ 2 ^ n - 1) × (r ≡ x)
quotient_by_zero n x d q r h none =
    let ones = h.by_zero none in
    let whole = h.whole in
    let nothing : q * d ≡ 0 = ap (λ (k : ℕ). q * k) none ∙ mul-zero q in
    (omega arith, omega arith)

-- ---- the same on bits

negations_and_one : (ys : List Bool) → map not (ys ++ false ∷ []) ≡ map not ys ++ true ∷ []
negations_and_one [] = refl
negations_and_one (y ∷ ys) = ap (λ (zs : List Bool). not y ∷ zs) (negations_and_one ys)

clear_above : (ys : List Bool) → number (ys ++ false ∷ []) ≡ number ys
clear_above ys = number_append ys (false ∷ []) ∙ ap (λ (n : ℕ). number ys + n) (mul-zero (2 ^ length ys)) ∙ omega arith

-- the remainder so far, doubled, with the next bit below
abbrev pub doubled : Bool → List Bool → ℕ → List Bool
doubled a r n = a ∷ take n r

-- it less the divisor, and whether the divisor fits
abbrev pub lessened : List Bool → List Bool → List Bool
lessened r ys = sums r (map not ys ++ true ∷ []) true

abbrev pub fits : List Bool → List Bool → Bool
fits r ys = carried r (map not ys ++ true ∷ []) true

-- the remainder after a step
abbrev pub next_rest : Bool → List Bool → List Bool → List Bool
next_rest a r ys = either_bits (fits (doubled a r (length ys)) ys) (lessened (doubled a r (length ys)) ys) (doubled a r (length ys))

doubled_long : (a : Bool) (r ys : List Bool) → length r ≡ length ys + 1 → length (doubled a r (length ys)) ≡ length ys + 1
doubled_long a r ys long = let taken : length (take (length ys) r) ≡ length ys = simp length-take (omega arith) in omega arith

divisor_long : (ys : List Bool) → length (ys ++ false ∷ []) ≡ length ys + 1
divisor_long ys = length-append ys (false ∷ [])

doubled_is : (a : Bool) (r ys : List Bool) → length r ≡ length ys + 1 → number r < 2 ^ length ys → number (doubled a r (length ys)) ≡ bit a + 2 * number r
doubled_is a r ys long small = ap (λ (n : ℕ). bit a + 2 * n) (number_take (length ys) r (omega arith) ∙ mod-eq_of_lt small)

fits_is : (r ys : List Bool) → length r ≡ length ys + 1 → fits r ys ≡ nat_le (number ys) (number r)
fits_is r ys long =
    ap (λ (zs : List Bool). carried r zs true) (sym (negations_and_one ys))
    ∙ no_borrow r (ys ++ false ∷ []) (long ∙ sym (divisor_long ys))
    ∙ ap (λ (n : ℕ). nat_le n (number r)) (clear_above ys)

lessened_is : (r ys : List Bool) → length r ≡ length ys + 1 → number ys ≤ number r → number (lessened r ys) ≡ number r - number ys
lessened_is r ys long h =
    ap (λ (zs : List Bool). number (sums r zs true)) (sym (negations_and_one ys))
    ∙ difference_is r (ys ++ false ∷ []) (long ∙ sym (divisor_long ys))
    ∙ ap (λ (n : ℕ). (number r + 2 ^ length r - n) % 2 ^ length r) (clear_above ys)
    ∙ once (number r) (number ys) (2 ^ length r) h (number_below r)
  where
    once : (x y p : ℕ) → y ≤ x → x < p → (x + p - y) % p ≡ x - y
    once x y p h below = ap (λ (n : ℕ). n % p) apart ∙ mod-mul-add 1 p (x - y) (omega arith)
      where
        apart : x + p - y ≡ 1 * p + (x - y)
        apart = omega arith

lessened_long : (r ys : List Bool) → length r ≡ length ys + 1 → length (lessened r ys) ≡ length ys + 1
lessened_long r ys long =
    ap (λ (zs : List Bool). length (sums r zs true)) (sym (negations_and_one ys))
    ∙ length_sums r (map not (ys ++ false ∷ [])) true (long ∙ sym (length_not (ys ++ false ∷ []) ∙ divisor_long ys)) ∙ long

pub next_is : (a : Bool) (r ys : List Bool) → length r ≡ length ys + 1 → number r < 2 ^ length ys
    → (fits (doubled a r (length ys)) ys ≡ nat_le (number ys) (bit a + 2 * number r))
    × (number (next_rest a r ys) ≡ rest_after (fits (doubled a r (length ys)) ys) (bit a + 2 * number r) (number ys))
    × (length (next_rest a r ys) ≡ length ys + 1)
next_is a r ys long small =
    let two = doubled_is a r ys long small in
    let wide = doubled_long a r ys long in
    let test : fits (doubled a r (length ys)) ys ≡ nat_le (number ys) (bit a + 2 * number r) = fits_is (doubled a r (length ys)) ys wide ∙ ap (λ (n : ℕ). nat_le (number ys) n) two in
    let same : length (lessened (doubled a r (length ys)) ys) ≡ length (doubled a r (length ys)) = lessened_long (doubled a r (length ys)) ys wide ∙ sym wide in (
      test,
      either_is (fits (doubled a r (length ys)) ys) (lessened (doubled a r (length ys)) ys) (doubled a r (length ys)) same
          ∙ go (fits (doubled a r (length ys)) ys) test (number (lessened (doubled a r (length ys)) ys)) (number (doubled a r (length ys))) two (λ h. lessened_is (doubled a r (length ys)) ys wide h),
      length_either (fits (doubled a r (length ys)) ys) (lessened (doubled a r (length ys)) ys) (doubled a r (length ys)) same ∙ wide,
    )
  where
    go : (c : Bool) → c ≡ nat_le (number ys) (bit a + 2 * number r) → (l d : ℕ) → d ≡ bit a + 2 * number r → (number ys ≤ d → l ≡ d - number ys)
        → cond c l d ≡ rest_after c (bit a + 2 * number r) (number ys)
    go true e l d two less = less (subst (λ (n : ℕ). number ys ≤ n) (sym two) (holds (number ys) (bit a + 2 * number r) e)) ∙ ap (λ (n : ℕ). n - number ys) two
      where
        holds : (m n : ℕ) → true ≡ nat_le m n → m ≤ n
        holds m n e = grind (arith, nat_tests)
    go false e l d two less = two
