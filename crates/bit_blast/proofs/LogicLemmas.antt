-- Operations bit by bit.
use Rattle.std.proofs.Common.{◌≡◌, ℕ, ◌+◌, ◌*◌, ◌/◌, ◌%◌, min, max, Bool, true, false, not, ◌==◌, ◌&&◌, ◌||◌, bit_and, bit_or, bit_xor, List, [], ◌∷◌, length, map, refl, sym, ◌∙◌, arith, ap₂, ne_eqb}
use Rattle.std.proofs.lemmas.Bool.Decides.{nat_tests}
use lib.Bits.{and_step, or_step, xor_step, differ as differ_digits}
use Rattle.bit_blast.specs.Meanings.{bit, differ}
use Rattle.bit_blast.proofs.BitNumbers.{number}
use Rattle.bit_blast.proofs.BlockLemmas.{both}
use Rattle.bit_blast.proofs.NumberLemmas.{half_bit as upper_part}

-- the lowest bit and the others
pub lower_part : (b : Bool) (n : ℕ) → (bit b + 2 * n) % 2 ≡ bit b
lower_part true n = omega arith
lower_part false n = omega arith

-- an operation that goes through the digits of two numbers is the operation on their bits
pub digit_by_digit : (operation : ℕ → ℕ → ℕ) (one : ℕ → ℕ → ℕ) (value : Bool → Bool → Bool)
    → ((a b : ℕ) → operation a b ≡ operation (a / 2) (b / 2) * 2 + one (a % 2) (b % 2))
    → ((x y : Bool) → one (bit x) (bit y) ≡ bit (value x y)) → operation 0 0 ≡ 0
    → (xs ys : List Bool) → length xs ≡ length ys → number (both value xs ys) ≡ operation (number xs) (number ys)
digit_by_digit operation one value step digits none [] [] same = sym none
digit_by_digit operation one value step digits none [] (y ∷ ys) same = absurd (omega arith)
digit_by_digit operation one value step digits none (x ∷ xs) [] same = absurd (omega arith)
digit_by_digit operation one value step digits none (x ∷ xs) (y ∷ ys) same =
    ap₂ (λ (m n : ℕ). m + 2 * n) (sym (digits x y)) (digit_by_digit operation one value step digits none xs ys (omega arith))
    ∙ turn (one (bit x) (bit y)) (operation (number xs) (number ys))
    ∙ sym (step (bit x + 2 * number xs) (bit y + 2 * number ys)
    ∙ ap₂ (λ (m n : ℕ). m * 2 + n) (ap₂ operation (upper_part x (number xs)) (upper_part y (number ys))) (ap₂ one (lower_part x (number xs)) (lower_part y (number ys))))
  where
    turn : (m n : ℕ) → m + 2 * n ≡ n * 2 + m
    turn m n = omega arith

pub and_is : (xs ys : List Bool) → length xs ≡ length ys → number (both (λ x y. x && y) xs ys) ≡ bit_and (number xs) (number ys)
and_is xs ys same = digit_by_digit bit_and min (λ x y. x && y) and_step digits refl xs ys same
  where
    digits : (x y : Bool) → min (bit x) (bit y) ≡ bit (x && y)
    digits true true = refl
    digits true false = refl
    digits false true = refl
    digits false false = refl

pub or_is : (xs ys : List Bool) → length xs ≡ length ys → number (both (λ x y. x || y) xs ys) ≡ bit_or (number xs) (number ys)
or_is xs ys same = digit_by_digit bit_or max (λ x y. x || y) or_step digits refl xs ys same
  where
    digits : (x y : Bool) → max (bit x) (bit y) ≡ bit (x || y)
    digits true true = refl
    digits true false = refl
    digits false true = refl
    digits false false = refl

pub xor_is : (xs ys : List Bool) → length xs ≡ length ys → number (both differ xs ys) ≡ bit_xor (number xs) (number ys)
xor_is xs ys same = digit_by_digit bit_xor differ_digits differ xor_step digits refl xs ys same
  where
    digits : (x y : Bool) → differ_digits (bit x) (bit y) ≡ bit (differ x y)
    digits true true = refl
    digits true false = refl
    digits false true = refl
    digits false false = refl

-- the negation of the conjunction of negations
pub or_by_and : (xs ys : List Bool) → map not (both (λ x y. x && y) (map not xs) (map not ys)) ≡ both (λ x y. x || y) xs ys
or_by_and [] ys = refl
or_by_and (x ∷ xs) [] = refl
or_by_and (x ∷ xs) (y ∷ ys) = ap₂ (λ (b : Bool) (bs : List Bool). b ∷ bs) (here x y) (or_by_and xs ys)
  where
    here : (x y : Bool) → not (not x && not y) ≡ (x || y)
    here true true = refl
    here true false = refl
    here false true = refl
    here false false = refl

-- no bit differs where the numbers are equal
pub equal_is : (xs ys : List Bool) → length xs ≡ length ys → (number (both differ xs ys) == 0) ≡ (number xs == number ys)
equal_is [] [] same = refl
equal_is [] (y ∷ ys) same = absurd (omega arith)
equal_is (x ∷ xs) [] same = absurd (omega arith)
equal_is (x ∷ xs) (y ∷ ys) same = one_more x y (number (both differ xs ys)) (number xs) (number ys) (equal_is xs ys (omega arith))
  where
    unequal : (m n : ℕ) → (m ≡ n → ⊥) → false ≡ (m == n)
    unequal m n h = sym (ne_eqb m n h)

    one_more : (x y : Bool) (d m n : ℕ) → (d == 0) ≡ (m == n) → ((bit (differ x y) + 2 * d) == 0) ≡ ((bit x + 2 * m) == (bit y + 2 * n))
    one_more true true d m n e = grind (arith, nat_tests)
    one_more true false d m n e = grind (arith, nat_tests)
    one_more false true d m n e = grind (arith, nat_tests)
    one_more false false d m n e = grind (arith, nat_tests)
