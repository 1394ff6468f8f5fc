-- The numbers that bits spell.
use Rattle.std.proofs.Common.{◌≡◌, ℕ, zero, suc, ◌+◌, ◌*◌, ◌/◌, ◌%◌, ◌^◌, ◌<◌, ◌≤◌, Bool, true, false, not, List, [], ◌∷◌, ◌++◌, length, map, take, drop, replicate, refl, sym, ap, ◌∙◌, subst, arith, ⊎_elim, pow-suc, ap₂, take-append-drop, length-take, eq-eqb, ne_eqb}
use Rattle.std.proofs.lemmas.Nat.{shr_high, mod_low}
use Rattle.std.proofs.lemmas.Bool.{cases_eq}
use Rattle.bit_blast.proofs.BitNumbers.{number, lowest, bits_of}
use Rattle.bit_blast.specs.Meanings.{bit}

pub bit_le : (b : Bool) → bit b ≤ 1
bit_le true = omega arith
bit_le false = omega arith

pub number_below : (ys : List Bool) → number ys < 2 ^ length ys
number_below [] = omega arith
number_below (b ∷ ys) = let rest = number_below ys in let here = bit_le b in rw pow-suc (omega arith)

pub number_append : (xs ys : List Bool) → number (xs ++ ys) ≡ number xs + 2 ^ length xs * number ys
number_append [] ys = omega arith
number_append (a ∷ xs) ys = let rest = number_append xs ys in rw (rest, pow-suc) (omega arith)

pub number_take_drop : (k : ℕ) (ys : List Bool) → k ≤ length ys → number ys ≡ number (drop k ys) * 2 ^ k + number (take k ys)
number_take_drop k ys h =
    let long : length (take k ys) ≡ k = simp length-take (omega arith) in
    ap (λ (ys : List Bool). number ys) (sym (take-append-drop k ys)) ∙ number_append (take k ys) (drop k ys)
    ∙ ap (λ (n : ℕ). number (take k ys) + 2 ^ n * number (drop k ys)) long ∙ omega arith

take_below : (k : ℕ) (ys : List Bool) → k ≤ length ys → number (take k ys) < 2 ^ k
take_below k ys h =
    let long : length (take k ys) ≡ k = simp length-take (omega arith) in
    subst (λ (n : ℕ). number (take k ys) < 2 ^ n) long (number_below (take k ys))

pub number_take : (k : ℕ) (ys : List Bool) → k ≤ length ys → number (take k ys) ≡ number ys % 2 ^ k
number_take k ys h = sym (ap (λ (n : ℕ). n % 2 ^ k) (number_take_drop k ys h) ∙ mod_low (number (drop k ys)) k (number (take k ys)) (take_below k ys h))

pub number_drop : (k : ℕ) (ys : List Bool) → k ≤ length ys → number (drop k ys) ≡ number ys / 2 ^ k
number_drop k ys h = sym (ap (λ (n : ℕ). n / 2 ^ k) (number_take_drop k ys h) ∙ shr_high (number (drop k ys)) k (number (take k ys)) (take_below k ys h))

-- ---- the bits of a number

pub bit_lowest : (x : ℕ) → bit (lowest x) ≡ x % 2
bit_lowest x = ⊎_elim odd even (cases_eq (x % 2) 1)
  where
    odd : x % 2 ≡ 1 → bit (lowest x) ≡ x % 2
    odd e = ap (λ (b : Bool). bit b) (eq-eqb (x % 2) 1 e) ∙ sym e

    even : (x % 2 ≡ 1 → ⊥) → bit (lowest x) ≡ x % 2
    even e = ap (λ (b : Bool). bit b) (ne_eqb (x % 2) 1 e) ∙ omega arith

pub number_bits_of : (n x : ℕ) → x < 2 ^ n → number (bits_of n x) ≡ x
number_bits_of zero x h = omega arith
number_bits_of (suc n) x h =
    let h : x < 2 ^ n * 2 = rw pow-suc at h in
    let rest = number_bits_of n (x / 2) (omega arith) in
    let here = bit_lowest x in
    omega (arith, rest, here)

pub lowest_bit : (b : Bool) (n : ℕ) → lowest (bit b + 2 * n) ≡ b
lowest_bit true n = eq-eqb ((1 + 2 * n) % 2) 1 (omega arith)
lowest_bit false n = ne_eqb ((0 + 2 * n) % 2) 1 (omega arith)

pub half_bit : (b : Bool) (n : ℕ) → (bit b + 2 * n) / 2 ≡ n
half_bit true n = omega arith
half_bit false n = omega arith

pub bits_of_number : (ys : List Bool) → bits_of (length ys) (number ys) ≡ ys
bits_of_number [] = refl
bits_of_number (b ∷ ys) = ap₂ (λ (c : Bool) (cs : List Bool). c ∷ cs) (lowest_bit b (number ys)) (ap (λ (n : ℕ). bits_of (length ys) n) (half_bit b (number ys)) ∙ bits_of_number ys)

-- bits of one length that spell one number are the same
pub same_bits : (xs ys : List Bool) → length xs ≡ length ys → number xs ≡ number ys → xs ≡ ys
same_bits xs ys long same = sym (bits_of_number xs) ∙ ap₂ (λ (n x : ℕ). bits_of n x) long same ∙ bits_of_number ys

-- ---- constants and negations

pub number_zeros : (n : ℕ) → number (replicate n false) ≡ 0
number_zeros zero = refl
number_zeros (suc n) = let rest = number_zeros n in omega arith

pub number_ones : (n : ℕ) → number (replicate n true) + 1 ≡ 2 ^ n
number_ones zero = refl
number_ones (suc n) = let rest = number_ones n in rw pow-suc (omega arith)

bit_not : (b : Bool) → bit (not b) + bit b ≡ 1
bit_not true = refl
bit_not false = refl

pub number_not : (ys : List Bool) → number (map not ys) + number ys + 1 ≡ 2 ^ length ys
number_not [] = refl
number_not (b ∷ ys) = let rest = number_not ys in let here = bit_not b in rw pow-suc (omega arith)
