-- Counts of bits.
use Rattle.std.proofs.Common.{◌≡◌, ℕ, suc, ◌+◌, ◌*◌, ◌/◌, ◌%◌, ◌^◌, ◌<◌, ◌≤◌, Bool, true, false, not, ◌&&◌, List, [], ◌∷◌, ◌++◌, reverse, length, count_ones, refl, sym, ap, ◌∙◌, arith, pow-suc, ap₂, mod-eq_of_lt, length-append}
use Rattle.std.proofs.lemmas.List.{reverse-append}
use Rattle.std.specs.Int.Count.{count_leading_zeros, count_trailing_zeros, under, leading_unique}
use lib.Count.{ones, ones_step}
use Rattle.bit_blast.proofs.BitNumbers.{number}
use Rattle.bit_blast.specs.Meanings.{bit}
use Rattle.bit_blast.proofs.NumberLemmas.{bit_le}
use Rattle.bit_blast.proofs.SumLemmas.{sums, sum_is, length_sums}

-- how many bits are set
abbrev pub ones_among : List Bool → ℕ
ones_among [] = 0
ones_among (x ∷ xs) = bit x + ones_among xs

-- one wire after another is added to seven bits
abbrev pub counted : List Bool → List Bool → List Bool
counted sum [] = sum
counted sum (x ∷ xs) = counted (sums sum (x ∷ false ∷ false ∷ false ∷ false ∷ false ∷ false ∷ []) false) xs

ones_at_most : (xs : List Bool) → ones_among xs ≤ length xs
ones_at_most [] = omega arith
ones_at_most (x ∷ xs) = let rest = ones_at_most xs in let here = bit_le x in omega arith

count_from : (sum xs : List Bool) → length sum ≡ 7 → number sum + ones_among xs < 128 → number (counted sum xs) ≡ number sum + ones_among xs
count_from sum [] long few = omega arith
count_from sum (x ∷ xs) long few =
    let next : number (sums sum (x ∷ false ∷ false ∷ false ∷ false ∷ false ∷ false ∷ []) false) ≡ number sum + bit x =
    sum_is sum (x ∷ false ∷ false ∷ false ∷ false ∷ false ∷ false ∷ []) false long
    ∙ ap (λ (n : ℕ). (number sum + (bit x + 0) + 0) % 2 ^ n) long ∙ fits (number sum) (bit x) (ones_among xs) few in
    let more : length (sums sum (x ∷ false ∷ false ∷ false ∷ false ∷ false ∷ false ∷ []) false) ≡ 7 = length_sums sum (x ∷ false ∷ false ∷ false ∷ false ∷ false ∷ false ∷ []) false long ∙ long in
    count_from (sums sum (x ∷ false ∷ false ∷ false ∷ false ∷ false ∷ false ∷ []) false) xs more (omega arith) ∙ omega arith
  where
    fits : (n d k : ℕ) → n + (d + k) < 128 → (n + (d + 0) + 0) % 128 ≡ n + d
    fits n d k h = mod-eq_of_lt (omega arith) ∙ omega arith

abbrev pub seven_zeros : List Bool
seven_zeros = false ∷ false ∷ false ∷ false ∷ false ∷ false ∷ false ∷ []

pub count_is : (xs : List Bool) → length xs < 128 → number (counted seven_zeros xs) ≡ ones_among xs
count_is xs few = let most = ones_at_most xs in count_from seven_zeros xs refl (omega arith) ∙ omega arith

-- ---- how many bits of a number are set

half_odd : (b : Bool) (n : ℕ) → ((bit b + 2 * n) % 2 ≡ bit b) × ((bit b + 2 * n) / 2 ≡ n)
half_odd true n = omega arith
half_odd false n = omega arith

zero_ones : 0 ≡ count_ones 0
unfolding ones
zero_ones = refl

pub ones_are : (xs : List Bool) → ones_among xs ≡ count_ones (number xs)
ones_are [] = zero_ones
ones_are (x ∷ xs) =
    let parts = half_odd x (number xs) in
    ap (λ (n : ℕ). bit x + n) (ones_are xs)
    ∙ sym (ones_step (bit x + 2 * number xs) ∙ ap₂ (λ (d n : ℕ). d + count_ones n) parts.0 parts.1)

-- ---- zeros at the lower end

-- a bit each that is set as long as all so far are clear
abbrev pub clear_so_far : Bool → List Bool → List Bool
clear_so_far e [] = []
clear_so_far e (x ∷ xs) = (e && not x) ∷ clear_so_far (e && not x) xs

pub none_clear : (xs : List Bool) → ones_among (clear_so_far false xs) ≡ 0
none_clear [] = refl
none_clear (x ∷ xs) = let rest = none_clear xs in omega arith

pub trailing_are : (xs : List Bool) → ones_among (clear_so_far true xs) ≡ count_trailing_zeros (length xs) (number xs)
unfolding count_trailing_zeros
trailing_are [] = refl
trailing_are (true ∷ xs) =
    let parts = half_odd true (number xs) in
    none_clear (true ∷ xs) ∙ ap (λ (d : ℕ). under d (count_trailing_zeros (length xs) ((1 + 2 * number xs) / 2))) (sym parts.0)
trailing_are (false ∷ xs) =
    let parts = half_odd false (number xs) in
    ap (λ (n : ℕ). 1 + n) (trailing_are xs) ∙ one_more (count_trailing_zeros (length xs) (number xs))
    ∙ ap₂ (λ (d n : ℕ). under d (count_trailing_zeros (length xs) n)) (sym parts.0) (sym parts.1)
  where
    one_more : (n : ℕ) → 1 + n ≡ suc n
    one_more n = omega arith

-- ---- zeros at the upper end, where the bits come from the highest down

-- the number that bits spell, the highest first
abbrev pub number_down : List Bool → ℕ
number_down [] = 0
number_down (x ∷ xs) = bit x * 2 ^ length xs + number_down xs

pub number_down_below : (xs : List Bool) → number_down xs < 2 ^ length xs
number_down_below [] = omega arith
number_down_below (true ∷ xs) = let rest = number_down_below xs in rw pow-suc (omega arith)
number_down_below (false ∷ xs) = let rest = number_down_below xs in rw pow-suc (omega arith)

leading_length : (xs : List Bool) → (m : ℕ) × (ones_among (clear_so_far true xs) + m ≡ length xs) × (number_down xs < 2 ^ m) × (2 ^ m ≤ 2 * number_down xs + 1)
leading_length [] = (0, refl, omega arith, omega arith)
leading_length (true ∷ xs) =
    let below = number_down_below xs in
    let clear = none_clear xs in
    (suc (length xs), omega arith, rw pow-suc (omega arith), rw pow-suc (omega arith))
leading_length (false ∷ xs) =
    let rest = leading_length xs in
    (rest.0, omega (arith, rest.1), omega (arith, rest.2), omega (arith, rest.3))

pub leading_are : (xs : List Bool) → ones_among (clear_so_far true xs) ≡ count_leading_zeros (length xs) (number_down xs)
leading_are xs =
    let l = leading_length xs in
    leading_unique (length xs) (number_down xs) (ones_among (clear_so_far true xs)) l.0 l.1 l.2 l.3

pub number_down_last : (xs : List Bool) (x : Bool) → number_down (xs ++ x ∷ []) ≡ 2 * number_down xs + bit x
number_down_last [] x = omega arith
number_down_last (y ∷ xs) x =
    let rest = number_down_last xs x in
    let long : length (xs ++ x ∷ []) ≡ suc (length xs) = length-append xs (x ∷ []) ∙ omega arith in
    rw (rest, long, pow-suc) (omega arith)

pub number_reversed : (xs : List Bool) → number_down (reverse xs) ≡ number xs
number_reversed [] = refl
number_reversed (x ∷ xs) =
    ap (λ (ys : List Bool). number_down ys) (reverse-append (x ∷ []) xs)
    ∙ number_down_last (reverse xs) x ∙ ap (λ (n : ℕ). 2 * n + bit x) (number_reversed xs) ∙ turn (bit x) (2 * number xs)
  where
    turn : (m n : ℕ) → n + m ≡ m + n
    turn m n = omega arith
