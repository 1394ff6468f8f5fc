-- Sums of bits with carries, and what is made of them: differences, comparisons, negations and counts.
use Rattle.std.proofs.Common.{◌≡◌, ℕ, zero, suc, ◌+◌, ◌-◌, ◌*◌, ◌%◌, ◌^◌, ◌<◌, Bool, true, false, not, ◌==◌, ◌&&◌, ◌||◌, cond, if◌then◌else◌, nat_lt, nat_le, List, [], ◌∷◌, length, map, replicate, refl, sym, ap, ◌∙◌, subst, arith, ⊎_elim, pow-suc, mod-eq_of_lt, eq-eqb, ne_eqb}
use Rattle.std.proofs.lemmas.Nat.{mod_low}
use Rattle.std.proofs.lemmas.Bool.{cases_eq}
use Rattle.std.proofs.lemmas.Bool.Decides.{nat_tests}
use Rattle.bit_blast.proofs.BitNumbers.{number}
use Rattle.bit_blast.specs.Meanings.{bit, differ}
use Rattle.bit_blast.proofs.NumberLemmas.{number_below, number_not, number_zeros}

-- ---- exclusive or and majority of bits

abbrev pub majority : Bool → Bool → Bool → Bool
majority a b c = if a then b || c else b && c

pub full_adder : (a b c : Bool) → bit (differ (differ a b) c) + 2 * bit (majority a b c) ≡ bit a + bit b + bit c
full_adder true true true = refl
full_adder true true false = refl
full_adder true false true = refl
full_adder true false false = refl
full_adder false true true = refl
full_adder false true false = refl
full_adder false false true = refl
full_adder false false false = refl

-- ---- sums

-- the sums of two rows of bits from the lowest up, with a carry coming in, and the carry that goes out
abbrev pub sums : List Bool → List Bool → Bool → List Bool
sums [] ys c = []
sums (x ∷ xs) [] c = []
sums (x ∷ xs) (y ∷ ys) c = differ (differ x y) c ∷ sums xs ys (majority x y c)

abbrev pub carried : List Bool → List Bool → Bool → Bool
carried [] ys c = c
carried (x ∷ xs) [] c = c
carried (x ∷ xs) (y ∷ ys) c = carried xs ys (majority x y c)

same_rest : {m n : ℕ} → suc m ≡ suc n → m ≡ n
same_rest {m} {n} e = omega arith

pub length_sums : (xs ys : List Bool) (c : Bool) → length xs ≡ length ys → length (sums xs ys c) ≡ length xs
length_sums [] ys c long = refl
length_sums (x ∷ xs) [] c long = absurd (omega arith)
length_sums (x ∷ xs) (y ∷ ys) c long = ap suc (length_sums xs ys (majority x y c) (same_rest long))

pub number_sums : (xs ys : List Bool) (c : Bool) → length xs ≡ length ys
    → number (sums xs ys c) + 2 ^ length xs * bit (carried xs ys c) ≡ number xs + number ys + bit c
number_sums [] [] c long = omega arith
number_sums [] (y ∷ ys) c long = absurd (omega arith)
number_sums (x ∷ xs) [] c long = absurd (omega arith)
number_sums (x ∷ xs) (y ∷ ys) c long =
    let rest = number_sums xs ys (majority x y c) (same_rest long) in
    let here = full_adder x y c in
    rw pow-suc (omega (arith, rest, here))

bit_positive : (b : Bool) (n m k : ℕ) → m < n → m + n * bit b ≡ k → b ≡ nat_le n k
bit_positive true n m k h e = sym (grind (arith, nat_tests))
bit_positive false n m k h e = sym (grind (arith, nat_tests))

sums_below : (xs ys : List Bool) (c : Bool) → length xs ≡ length ys → number (sums xs ys c) < 2 ^ length xs
sums_below xs ys c long = subst (λ (n : ℕ). number (sums xs ys c) < 2 ^ n) (length_sums xs ys c long) (number_below (sums xs ys c))

-- the sum modulo 2^n, and whether it passes 2^n
pub sum_is : (xs ys : List Bool) (c : Bool) → length xs ≡ length ys → number (sums xs ys c) ≡ (number xs + number ys + bit c) % 2 ^ length xs
sum_is xs ys c long =
    sym (ap (λ (n : ℕ). n % 2 ^ length xs) (sym (number_sums xs ys c long)) ∙ ap (λ (n : ℕ). n % 2 ^ length xs) flip ∙ mod_low (bit (carried xs ys c)) (length xs) (number (sums xs ys c)) (sums_below xs ys c long))
  where
    flip : number (sums xs ys c) + 2 ^ length xs * bit (carried xs ys c) ≡ bit (carried xs ys c) * 2 ^ length xs + number (sums xs ys c)
    flip = omega arith

pub carry_is : (xs ys : List Bool) (c : Bool) → length xs ≡ length ys → carried xs ys c ≡ nat_le (2 ^ length xs) (number xs + number ys + bit c)
carry_is xs ys c long = bit_positive (carried xs ys c) (2 ^ length xs) (number (sums xs ys c)) (number xs + number ys + bit c) (sums_below xs ys c long) (number_sums xs ys c long)

-- ---- differences

pub length_not : (ys : List Bool) → length (map not ys) ≡ length ys
length_not [] = refl
length_not (y ∷ ys) = ap suc (length_not ys)

-- what is added for a difference: the negations, and 1
with_negation : (x y n p : ℕ) → n + y + 1 ≡ p → y < p → x + n + 1 ≡ x + p - y
with_negation x y n p e h = omega arith

pub difference_is : (xs ys : List Bool) → length xs ≡ length ys → number (sums xs (map not ys) true) ≡ (number xs + 2 ^ length xs - number ys) % 2 ^ length xs
difference_is xs ys long =
    let below : number ys < 2 ^ length xs = subst (λ (n : ℕ). number ys < 2 ^ n) (sym long) (number_below ys) in
    let turned : number (map not ys) + number ys + 1 ≡ 2 ^ length xs = number_not ys ∙ ap (λ (n : ℕ). 2 ^ n) (sym long) in
    sum_is xs (map not ys) true (long ∙ sym (length_not ys))
    ∙ ap (λ (n : ℕ). n % 2 ^ length xs) (with_negation (number xs) (number ys) (number (map not ys)) (2 ^ length xs) turned below)

-- the carry says that nothing was borrowed
pub no_borrow : (xs ys : List Bool) → length xs ≡ length ys → carried xs (map not ys) true ≡ nat_le (number ys) (number xs)
no_borrow xs ys long =
    let below : number ys < 2 ^ length xs = subst (λ (n : ℕ). number ys < 2 ^ n) (sym long) (number_below ys) in
    let turned : number (map not ys) + number ys + 1 ≡ 2 ^ length xs = number_not ys ∙ ap (λ (n : ℕ). 2 ^ n) (sym long) in
    carry_is xs (map not ys) true (long ∙ sym (length_not ys))
    ∙ passes (2 ^ length xs) (number xs) (number ys) (number (map not ys)) turned
  where
    passes : (p x y n : ℕ) → n + y + 1 ≡ p → nat_le p (x + n + 1) ≡ nat_le y x
    passes p x y n e = grind (arith, nat_tests)

-- ---- comparisons

-- the last of the wires of a comparison
abbrev pub less : List Bool → List Bool → Bool → Bool
less [] ys l = l
less (x ∷ xs) [] l = l
less (x ∷ xs) (y ∷ ys) l = less xs ys (majority (not x) y l)

step_less : (x y l : Bool) (m n : ℕ) → nat_lt m (n + bit (majority (not x) y l)) ≡ nat_lt (bit x + 2 * m) (bit y + 2 * n + bit l)
step_less true true true m n = grind (arith, nat_tests)
step_less true true false m n = grind (arith, nat_tests)
step_less true false true m n = grind (arith, nat_tests)
step_less true false false m n = grind (arith, nat_tests)
step_less false true true m n = grind (arith, nat_tests)
step_less false true false m n = grind (arith, nat_tests)
step_less false false true m n = grind (arith, nat_tests)
step_less false false false m n = grind (arith, nat_tests)

pub less_is : (xs ys : List Bool) (l : Bool) → length xs ≡ length ys → less xs ys l ≡ nat_lt (number xs) (number ys + bit l)
less_is [] [] true long = refl
less_is [] [] false long = refl
less_is [] (y ∷ ys) l long = absurd (omega arith)
less_is (x ∷ xs) [] l long = absurd (omega arith)
less_is (x ∷ xs) (y ∷ ys) l long = less_is xs ys (majority (not x) y l) (same_rest long) ∙ step_less x y l (number xs) (number ys)

-- ---- that no bit is set

abbrev pub none : Bool → List Bool → Bool
none e [] = e
none e (x ∷ xs) = none (e && not x) xs

none_after : (e : Bool) (xs : List Bool) → none e xs ≡ (e && (number xs == 0))
none_after true [] = refl
none_after false [] = refl
none_after e (x ∷ xs) = none_after (e && not x) xs ∙ step e x (number xs)
  where
    step : (e x : Bool) (n : ℕ) → ((e && not x) && (n == 0)) ≡ (e && ((bit x + 2 * n) == 0))
    step true true n = sym (ne_eqb (1 + 2 * n) 0 (λ e. absurd (omega arith)))
    step true false n = ⊎_elim (λ (e : n ≡ 0). eq-eqb n 0 e ∙ sym (eq-eqb (0 + 2 * n) 0 (omega arith))) (λ (e : n ≡ 0 → ⊥). ne_eqb n 0 e ∙ sym (ne_eqb (0 + 2 * n) 0 (λ f. e (omega arith)))) (cases_eq n 0)
    step false x n = refl

pub none_is : (xs : List Bool) → none true xs ≡ (number xs == 0)
none_is xs = none_after true xs

-- ---- negation where a bit is set

abbrev pub negated_if : Bool → List Bool → List Bool
negated_if s xs = sums (map (λ x. differ x s) xs) (replicate (length xs) false) s

length_turned : (s : Bool) (xs : List Bool) → length (map (λ x. differ x s) xs) ≡ length xs
length_turned s [] = refl
length_turned s (x ∷ xs) = ap suc (length_turned s xs)

pub length_zeros : (n : ℕ) → length (replicate n false) ≡ n
length_zeros zero = refl
length_zeros (suc n) = ap suc (length_zeros n)

kept_bits : (xs : List Bool) → map (λ x. differ x false) xs ≡ xs
kept_bits [] = refl
kept_bits (true ∷ xs) = ap (λ (ys : List Bool). true ∷ ys) (kept_bits xs)
kept_bits (false ∷ xs) = ap (λ (ys : List Bool). false ∷ ys) (kept_bits xs)

turned_bits : (xs : List Bool) → map (λ x. differ x true) xs ≡ map not xs
turned_bits [] = refl
turned_bits (true ∷ xs) = ap (λ (ys : List Bool). false ∷ ys) (turned_bits xs)
turned_bits (false ∷ xs) = ap (λ (ys : List Bool). true ∷ ys) (turned_bits xs)

-- the number, or 2^n less it
pub negation_is : (s : Bool) (xs : List Bool) → number (negated_if s xs) ≡ cond s ((2 ^ length xs - number xs) % 2 ^ length xs) (number xs)
negation_is s xs =
    sum_is (map (λ x. differ x s) xs) (replicate (length xs) false) s (length_turned s xs ∙ sym (length_zeros (length xs)))
    ∙ ap (λ (n : ℕ). (number (map (λ x. differ x s) xs) + number (replicate (length xs) false) + bit s) % 2 ^ n) (length_turned s xs)
    ∙ ap (λ (n : ℕ). (number (map (λ x. differ x s) xs) + n + bit s) % 2 ^ length xs) (number_zeros (length xs))
    ∙ go s
  where
    go : (s : Bool) → (number (map (λ x. differ x s) xs) + 0 + bit s) % 2 ^ length xs ≡ cond s ((2 ^ length xs - number xs) % 2 ^ length xs) (number xs)
    go true =
        let whole = number_not xs in
        let same : number (map not xs) + 0 + 1 ≡ 2 ^ length xs - number xs = omega arith in
        ap (λ (ys : List Bool). (number ys + 0 + 1) % 2 ^ length xs) (turned_bits xs) ∙ ap (λ (n : ℕ). n % 2 ^ length xs) same
    go false =
        let same : number xs + 0 + 0 ≡ number xs = omega arith in
        ap (λ (ys : List Bool). (number ys + 0 + 0) % 2 ^ length xs) (kept_bits xs) ∙ ap (λ (n : ℕ). n % 2 ^ length xs) same ∙ mod-eq_of_lt (number_below xs)

-- ---- one of two rows of bits

abbrev pub either_bits : Bool → List Bool → List Bool → List Bool
either_bits s [] ys = []
either_bits s (x ∷ xs) [] = []
either_bits s (x ∷ xs) (y ∷ ys) = cond s x y ∷ either_bits s xs ys

pub either_true : (xs ys : List Bool) → length xs ≡ length ys → either_bits true xs ys ≡ xs
either_true [] ys long = refl
either_true (x ∷ xs) [] long = absurd (omega arith)
either_true (x ∷ xs) (y ∷ ys) long = ap (λ (zs : List Bool). x ∷ zs) (either_true xs ys (same_rest long))

pub either_false : (xs ys : List Bool) → length xs ≡ length ys → either_bits false xs ys ≡ ys
either_false [] [] long = refl
either_false [] (y ∷ ys) long = absurd (omega arith)
either_false (x ∷ xs) [] long = absurd (omega arith)
either_false (x ∷ xs) (y ∷ ys) long = ap (λ (zs : List Bool). y ∷ zs) (either_false xs ys (same_rest long))

pub either_is : (s : Bool) (xs ys : List Bool) → length xs ≡ length ys → number (either_bits s xs ys) ≡ cond s (number xs) (number ys)
either_is true xs ys long = ap (λ (zs : List Bool). number zs) (either_true xs ys long)
either_is false xs ys long = ap (λ (zs : List Bool). number zs) (either_false xs ys long)

pub length_either : (s : Bool) (xs ys : List Bool) → length xs ≡ length ys → length (either_bits s xs ys) ≡ length ys
length_either true xs ys long = ap (λ (zs : List Bool). length zs) (either_true xs ys long) ∙ long
length_either false xs ys long = ap (λ (zs : List Bool). length zs) (either_false xs ys long)
