-- Laws of the operations on integers of N bits.
use Rattle.std.proofs.Common.{◌≡◌, ℕ, zero, suc, ◌+◌, ◌-◌, ◌*◌, ◌/◌, ◌%◌, ◌^◌, ◌<◌, ◌≤◌, ℤ, pos, negsuc, neg_ℤ, ◌+ℤ◌, ◌*ℤ◌, int_div, int_rem, refl, sym, ap, ap₂, ◌∙◌, subst, arith, ⊎_elim, mod-eq_of_lt, le_trans, lt_of_le_of_lt, div-le_self, div-mul-le_self, zero-le}
use Rattle.std.proofs.lemmas.Nat.{pow_pos, mod_low, shr_high, shr_split, shr_below}
use Rattle.std.proofs.lemmas.Int.{quot-rem}
use Rattle.std.proofs.lemmas.Bool.{cases_lt}
use lib.Signed.{mag, mag_rem}
use Rattle.int_ops.specs.Integers.{signed, unsigned, div_s, rem_s, rotated_left, least, minus_one}
use Rattle.int_ops.proofs.IntegerLemmas.{signed_low, signed_high, pow_half, shifted_up}

-- ---- the signed interpretation and its inverse

unsigned-high : (N x : ℕ) → x < 2 ^ N → unsigned N (negsuc (2 ^ N - suc x)) ≡ x
unsigned-high N x below =
    let small : 2 ^ N - suc x < 2 ^ N = omega arith in
    ap (λ (n : ℕ). 2 ^ N - 1 - n) (mod-eq_of_lt small) ∙ omega arith

pub unsigned-signed : (N x : ℕ) → x < 2 ^ N → unsigned N (signed N x) ≡ x
unsigned-signed N x below =
    ⊎_elim
    (λ low. ap (unsigned N) (signed_low N x low) ∙ mod-eq_of_lt below)
    (λ high. ap (unsigned N) (signed_high N x high below) ∙ unsigned-high N x below)
    (cases_lt x (2 ^ (N - 1)))

pub signed-unsigned : (N : ℕ) (z : ℤ) → zero < N → mag z < 2 ^ (N - 1) → signed N (unsigned N z) ≡ z
signed-unsigned N (pos n) some h =
    let half = pow_half N some in
    let below : n < 2 ^ N = omega (arith, half) in
    ap (signed N) (mod-eq_of_lt below) ∙ signed_low N n h
signed-unsigned N (negsuc n) some h =
    let half = pow_half N some in
    let below : n < 2 ^ N = omega (arith, half) in
    let is : 2 ^ N - 1 - n % 2 ^ N ≡ 2 ^ N - suc n = ap (λ (k : ℕ). 2 ^ N - 1 - k) (mod-eq_of_lt below) ∙ omega arith in
    let high : 2 ^ (N - 1) ≤ 2 ^ N - suc n = omega (arith, half) in
    let under : 2 ^ N - suc n < 2 ^ N = omega arith in
    ap (signed N) is ∙ signed_high N (2 ^ N - suc n) high under ∙ ap negsuc (omega arith)

pub mag-signed : (N x : ℕ) → zero < N → x < 2 ^ N → mag (signed N x) < 2 ^ (N - 1)
mag-signed N x some below =
    let half = pow_half N some in
    ⊎_elim
    (λ low. subst (λ (z : ℤ). mag z < 2 ^ (N - 1)) (sym (signed_low N x low)) low)
    (λ high. subst (λ (z : ℤ). mag z < 2 ^ (N - 1)) (sym (signed_high N x high below)) (omega (arith, half, high)))
    (cases_lt x (2 ^ (N - 1)))

-- ---- quotients

mag-neg-le : (r a : ℕ) → r ≤ suc a → mag (neg_ℤ (pos r)) ≤ a
mag-neg-le zero a h = zero-le
mag-neg-le (suc r) a h = omega arith

-- a quotient by a negative number below -1
by_more : (a b : ℕ) → suc a / suc (suc b) ≤ a
by_more a b = let whole = div-mul-le_self (suc a) (suc (suc b)) in omega (arith, whole)

-- the quotient of two numbers from -H to H - 1 is one, but for that of -H by -1
mag-div-below : (H : ℕ) (p q : ℤ) → mag p < H → ((a : ℕ) → p ≡ negsuc a → q ≡ negsuc zero → suc a < H) → mag (int_div p q) < H
mag-div-below H (pos a) (pos b) h fits = lt_of_le_of_lt (div-le_self a b) h
mag-div-below H (pos a) (negsuc b) h fits =
    lt_of_le_of_lt (mag-neg-le (a / suc b) a (le_trans (div-le_self a (suc b)) (omega arith))) h
mag-div-below H (negsuc a) (pos b) h fits = lt_of_le_of_lt (mag-neg-le (suc a / b) a (div-le_self (suc a) b)) h
mag-div-below H (negsuc a) (negsuc zero) h fits = lt_of_le_of_lt (div-le_self (suc a) 1) (fits a refl refl)
mag-div-below H (negsuc a) (negsuc (suc b)) h fits = lt_of_le_of_lt (by_more a b) h

module _ (N x y : ℕ) (some : zero < N) (xb : x < 2 ^ N) (yb : y < 2 ^ N) (fits : (x ≡ least N) × (y ≡ minus_one N) → ⊥) where
  -- a dividend that is the least, by -1, is the case that is left out
  not_largest : (a : ℕ) → signed N x ≡ negsuc a → signed N y ≡ negsuc zero → suc a < 2 ^ (N - 1)
  not_largest a xs ys =
      let half = pow_half N some in
      let within : a < 2 ^ (N - 1) = subst (λ (z : ℤ). mag z < 2 ^ (N - 1)) xs (mag-signed N x some xb) in
      let small : a < 2 ^ N = omega (arith, half, within) in
      let x_is : 2 ^ N - 1 - a % 2 ^ N ≡ x = ap (unsigned N) (sym xs) ∙ unsigned-signed N x xb in
      let y_is : 2 ^ N - 1 - zero % 2 ^ N ≡ y = ap (unsigned N) (sym ys) ∙ unsigned-signed N y yb in
      let a_is : a % 2 ^ N ≡ a = mod-eq_of_lt small in
      let none : zero % 2 ^ N ≡ zero = mod-eq_of_lt (pow_pos N) in
      ⊎_elim
      (λ low. low)
      (λ high. absurd (fits (omega (arith, half, within, x_is, a_is, high), omega (arith, y_is, none))))
      (cases_lt (suc a) (2 ^ (N - 1)))

  pub quotient_and_remainder : signed N (div_s N x y) *ℤ signed N y +ℤ signed N (rem_s N x y) ≡ signed N x
  quotient_and_remainder =
      let whole = mag-signed N x some xb in
      let quotient = mag-div-below (2 ^ (N - 1)) (signed N x) (signed N y) whole not_largest in
      let remainder = lt_of_le_of_lt (mag_rem (signed N x) (signed N y)) whole in
      ap₂ (λ (q r : ℤ). q *ℤ signed N y +ℤ r)
      (signed-unsigned N (int_div (signed N x) (signed N y)) some quotient)
      (signed-unsigned N (int_rem (signed N x) (signed N y)) some remainder)
      ∙ quot-rem (signed N x) (signed N y)

-- ---- rotations

-- rotated left by k: the lowest bits above the k highest
pub rotated-parts : (N x k : ℕ) → k ≤ N → rotated_left N x k ≡ (x % 2 ^ (N - k)) * 2 ^ k + x / 2 ^ (N - k)
rotated-parts N x k within =
    let all : N - k + k ≡ N = omega arith in
    ap (λ (n : ℕ). (x * 2 ^ k) % 2 ^ n + x / 2 ^ (N - k)) (sym all)
    ∙ ap (λ (n : ℕ). n + x / 2 ^ (N - k)) (shifted_up x k (N - k))

pub high_part : (N x k : ℕ) → k ≤ N → x < 2 ^ N → x / 2 ^ (N - k) < 2 ^ k
high_part N x k within below =
    let all : k + (N - k) ≡ N = omega arith in
    shr_below x k (N - k) (subst (λ (n : ℕ). x < 2 ^ n) (sym all) below)

-- rotating by the rest of the width gives the number back
pub rotated-back : (N x k : ℕ) → k ≤ N → x < 2 ^ N → rotated_left N (rotated_left N x k) (N - k) ≡ x
rotated-back N x k within below =
    let rest : N - (N - k) ≡ k = omega arith in
    let up = high_part N x k within below in
    ap (λ (n : ℕ). rotated_left N n (N - k)) (rotated-parts N x k within)
    ∙ rotated-parts N ((x % 2 ^ (N - k)) * 2 ^ k + x / 2 ^ (N - k)) (N - k) (omega arith)
    ∙ ap (λ (n : ℕ). ((x % 2 ^ (N - k)) * 2 ^ k + x / 2 ^ (N - k)) % 2 ^ n * 2 ^ (N - k) + ((x % 2 ^ (N - k)) * 2 ^ k + x / 2 ^ (N - k)) / 2 ^ n) rest
    ∙ ap₂ (λ (m n : ℕ). m * 2 ^ (N - k) + n)
    (mod_low (x % 2 ^ (N - k)) k (x / 2 ^ (N - k)) up)
    (shr_high (x % 2 ^ (N - k)) k (x / 2 ^ (N - k)) up)
    ∙ shr_split x (N - k)
