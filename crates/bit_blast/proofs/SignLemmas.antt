-- Signs of integers of N bits.
use Rattle.std.proofs.Common.{◌≡◌, ℕ, zero, suc, ◌+◌, ◌-◌, ◌*◌, ◌/◌, ◌%◌, ◌^◌, ◌<◌, ◌≤◌, ℤ, pos, negsuc, ◌-ℤ◌, neg_ℤ, Bool, true, false, not, cond, nat_lt, nat_le, int_lt, int_le, int_div, int_rem, nat_abs, List, [], ◌∷◌, ◌++◌, length, refl, sym, ap, ◌∙◌, arith, ⊎_elim, pow-suc, ap₂, mod-eq_of_lt, lt-ltb, le-ltb}
use Rattle.std.proofs.lemmas.Nat.{pow_pos, mod_below}
use Rattle.std.proofs.Math.Nat.{zero-mod, mod_self, zero-div, div-zero}
use Rattle.std.proofs.lemmas.Bool.{cases_lt}
use Rattle.std.proofs.lemmas.Bool.Decides.{nat_tests}
use Rattle.std.proofs.lemmas.Int.{ints}
use Rattle.int_ops.specs.Integers.{signed, unsigned}
use Rattle.bit_blast.proofs.BitNumbers.{number}
use Rattle.bit_blast.specs.Meanings.{bit, differ}
use Rattle.bit_blast.proofs.NumberLemmas.{number_append}

-- ---- the sign bit

-- N bits with the highest apart
pub with_sign : (low : List Bool) (s : Bool) → number (low ++ s ∷ []) ≡ number low + 2 ^ length low * bit s
with_sign low s = number_append low (s ∷ []) ∙ plain (number low) (2 ^ length low) (bit s)
  where
    plain : (l p d : ℕ) → l + p * (d + 2 * 0) ≡ l + p * d
    plain l p d = ap (λ (n : ℕ). l + p * n) (omega arith)

-- a sign and the bits below it, as a signed number
pub signed_is : (n low : ℕ) (s : Bool) → low < 2 ^ n → signed (n + 1) (low + 2 ^ n * bit s) ≡ cond s (negsuc (2 ^ n - 1 - low)) (pos low)
signed_is n low true h =
    let less : n + 1 - 1 ≡ n = omega arith in
    let double : 2 ^ (n + 1) ≡ 2 ^ n * 2 = ap (λ (k : ℕ). 2 ^ k) add_one ∙ pow-suc 2 n in
    let not_low : 2 ^ n ≤ low + 2 ^ n * 1 = omega arith in
    ap (λ (k : ℕ). cond (nat_lt (low + 2 ^ n * 1) (2 ^ k)) (pos (low + 2 ^ n * 1)) (pos (low + 2 ^ n * 1) -ℤ pos (2 ^ (n + 1)))) less
    ∙ ap (λ (b : Bool). cond b (pos (low + 2 ^ n * 1)) (pos (low + 2 ^ n * 1) -ℤ pos (2 ^ (n + 1)))) (le-ltb (low + 2 ^ n * 1) (2 ^ n) not_low)
    ∙ ap (λ (k : ℕ). pos (low + 2 ^ n * 1) -ℤ pos k) double
    ∙ below (2 ^ n) low h
  where
    add_one : n + 1 ≡ suc n
    add_one = omega arith

    below : (p low : ℕ) → low < p → pos (low + p * 1) -ℤ pos (p * 2) ≡ negsuc (p - 1 - low)
    below p low h = omega (arith, ints)
signed_is n low false h =
    let less : n + 1 - 1 ≡ n = omega arith in
    let same : low + 2 ^ n * 0 ≡ low = omega arith in
    ap (λ (k : ℕ). cond (nat_lt (low + 2 ^ n * 0) (2 ^ k)) (pos (low + 2 ^ n * 0)) (pos (low + 2 ^ n * 0) -ℤ pos (2 ^ (n + 1)))) less
    ∙ ap (λ (x : ℕ). cond (nat_lt x (2 ^ n)) (pos x) (pos x -ℤ pos (2 ^ (n + 1)))) same
    ∙ ap (λ (b : Bool). cond b (pos low) (pos low -ℤ pos (2 ^ (n + 1)))) (lt-ltb low (2 ^ n) h)

-- ---- comparisons: of signed numbers as of those whose highest bits are negated

pub less_signed : (n x y : ℕ) (s t : Bool) → x < 2 ^ n → y < 2 ^ n
    → int_lt (signed (n + 1) (x + 2 ^ n * bit s)) (signed (n + 1) (y + 2 ^ n * bit t)) ≡ nat_lt (x + 2 ^ n * bit (not s)) (y + 2 ^ n * bit (not t))
less_signed n x y s t h k = ap₂ (λ (v w : ℤ). int_lt v w) (signed_is n x s h) (signed_is n y t k) ∙ go s t
  where
    p : ℕ
    p = 2 ^ n

    both : (p x y : ℕ) → x < p → y < p → nat_lt (p - 1 - y) (p - 1 - x) ≡ nat_lt (x + p * 0) (y + p * 0)
    both p x y h k = grind (arith, nat_tests)

    first : (p x y : ℕ) → x < p → true ≡ nat_lt (x + p * 0) (y + p * 1)
    first p x y h = grind (arith, nat_tests)

    second : (p x y : ℕ) → y < p → false ≡ nat_lt (x + p * 1) (y + p * 0)
    second p x y h = grind (arith, nat_tests)

    neither : (p x y : ℕ) → nat_lt x y ≡ nat_lt (x + p * 1) (y + p * 1)
    neither p x y = grind (arith, nat_tests)

    go : (s t : Bool) → int_lt (cond s (negsuc (2 ^ n - 1 - x)) (pos x)) (cond t (negsuc (2 ^ n - 1 - y)) (pos y)) ≡ nat_lt (x + 2 ^ n * bit (not s)) (y + 2 ^ n * bit (not t))
    go true true = both (2 ^ n) x y h k
    go true false = first (2 ^ n) x y h
    go false true = second (2 ^ n) x y k
    go false false = neither (2 ^ n) x y

pub not_above : (x y : ℕ) → nat_le x y ≡ not (nat_lt y x)
not_above x y = ⊎_elim (λ (h : y < x). fails x y h ∙ ap (λ (b : Bool). not b) (sym (lt-ltb y x h))) (λ (h : x ≤ y). holds x y h ∙ ap (λ (b : Bool). not b) (sym (le-ltb y x h))) (cases_lt y x)
  where
    fails : (x y : ℕ) → y < x → nat_le x y ≡ false
    fails x y h = grind (arith, nat_tests)

    holds : (x y : ℕ) → x ≤ y → nat_le x y ≡ true
    holds x y h = grind (arith, nat_tests)

pub not_above_signed : (v w : ℤ) → int_le v w ≡ not (int_lt w v)
not_above_signed (pos a) (pos b) = not_above a b
not_above_signed (pos a) (negsuc b) = refl
not_above_signed (negsuc a) (pos b) = refl
not_above_signed (negsuc a) (negsuc b) = not_above b a

-- ---- absolute values

-- the number, or 2^N less it modulo 2^N
abbrev pub negated : ℕ → Bool → ℕ → ℕ
negated N s x = cond s ((2 ^ N - x) % 2 ^ N) x

pub negated_below : (N : ℕ) (s : Bool) (x : ℕ) → x < 2 ^ N → negated N s x < 2 ^ N
negated_below N true x h = mod_below (2 ^ N - x) (2 ^ N) (pow_pos N)
negated_below N false x h = h

abbrev pub of_sign : Bool → ℕ → ℤ
of_sign true x = neg_ℤ (pos x)
of_sign false x = pos x

-- the integer of N bits with this absolute value and sign
pub unsigned_parts : (N : ℕ) (s : Bool) (q : ℕ) → q < 2 ^ N → unsigned N (of_sign s q) ≡ negated N s q
unsigned_parts N true zero h = turn (2 ^ N) (pow_pos N)
  where
    turn : (p : ℕ) → 0 < p → 0 % p ≡ (p - 0) % p
    turn p some = zero-mod p ∙ sym (mod_self p) ∙ ap (λ (k : ℕ). k % p) whole
      where
        whole : p ≡ p - 0
        whole = omega arith
unsigned_parts N true (suc m) h = go (2 ^ N) m h
  where
    go : (p m : ℕ) → suc m < p → p - 1 - m % p ≡ (p - suc m) % p
    go p m h = ap (λ (k : ℕ). p - 1 - k) (mod-eq_of_lt (omega arith)) ∙ less ∙ sym (mod-eq_of_lt (omega arith))
      where
        less : p - 1 - m ≡ p - suc m
        less = omega arith
unsigned_parts N false q h = mod-eq_of_lt h

-- the quotient of signed numbers is that of the absolute values, negative where the signs differ
pub quotient_parts : (s t : Bool) (x y : ℕ) → int_div (of_sign s x) (of_sign t y) ≡ of_sign (differ s t) (x / y)
quotient_parts true true zero zero = ap (λ (n : ℕ). pos n) refl
quotient_parts true true zero (suc y) = ap (λ (z : ℤ). z) (negated_zero (suc y))
  where
    negated_zero : (y : ℕ) → neg_ℤ (pos (0 / y)) ≡ pos (0 / y)
    negated_zero y = ap (λ (n : ℕ). neg_ℤ (pos n)) (zero-div y) ∙ sym (ap (λ (n : ℕ). pos n) (zero-div y))
quotient_parts true true (suc x) zero = ap (λ (n : ℕ). neg_ℤ (pos n)) (div-zero (suc x)) ∙ sym (ap (λ (n : ℕ). pos n) (div-zero (suc x)))
quotient_parts true true (suc x) (suc y) = refl
quotient_parts true false zero y = ap (λ (n : ℕ). pos n) (zero-div y) ∙ sym (ap (λ (n : ℕ). neg_ℤ (pos n)) (zero-div y))
quotient_parts true false (suc x) y = refl
quotient_parts false true x zero = ap (λ (n : ℕ). pos n) (div-zero x) ∙ sym (ap (λ (n : ℕ). neg_ℤ (pos n)) (div-zero x))
quotient_parts false true x (suc y) = refl
quotient_parts false false x y = refl

abs_of_sign : (t : Bool) (y : ℕ) → nat_abs (of_sign t y) ≡ y
abs_of_sign true zero = refl
abs_of_sign true (suc y) = refl
abs_of_sign false y = refl

-- the remainder is that of the absolute values, with the dividend's sign
pub remainder_parts : (s t : Bool) (x y : ℕ) → int_rem (of_sign s x) (of_sign t y) ≡ of_sign s (x % y)
remainder_parts true t zero y =
    ap (λ (n : ℕ). pos (0 % n)) (abs_of_sign t y) ∙ ap (λ (n : ℕ). pos n) (zero-mod y) ∙ sym (ap (λ (n : ℕ). neg_ℤ (pos n)) (zero-mod y))
remainder_parts true t (suc x) y = ap (λ (n : ℕ). neg_ℤ (pos (suc x % n))) (abs_of_sign t y)
remainder_parts false t x y = ap (λ (n : ℕ). pos (x % n)) (abs_of_sign t y)
