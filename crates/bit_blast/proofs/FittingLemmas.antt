-- Wires cut or filled up to a width.
use Rattle.std.proofs.Common.{◌≡◌, ℕ, suc, ◌+◌, ◌-◌, ◌*◌, ◌%◌, ◌^◌, ◌<◌, ◌≤◌, ℤ, Bool, true, false, nat_le, List, [], ◌∷◌, ◌++◌, length, take, replicate, refl, sym, ap, ◌∙◌, subst, arith, ap₂, ⊎_elim, length-append, length-take, take_all, pow-add, mul-suc, mod-eq_of_lt, lt_of_lt_of_le, pow_mono}
use Rattle.std.proofs.lemmas.Nat.{pow_pos}
use Rattle.std.proofs.lemmas.Bool.{cases_lt}
use Rattle.std.proofs.lemmas.Bool.Decides.{nat_tests}
use Rattle.int_ops.specs.Integers.{signed, unsigned}
use Rattle.int_ops.proofs.IntegerLemmas.{signed_low, signed_high}
use Rattle.refute_check.specs.Clauses.{Assignment}
use Rattle.bit_blast.specs.Gates.{Wires, false_wire}
use Rattle.bit_blast.specs.Blocks.{highest}
use Rattle.bit_blast.specs.Operators.{fitted, sign_extended, answer}
use Rattle.bit_blast.specs.Meanings.{holds, bit}
use Rattle.bit_blast.proofs.BitNumbers.{number}
use Rattle.bit_blast.proofs.NumberLemmas.{number_below, number_append, number_take, number_zeros, number_ones}
use Rattle.bit_blast.proofs.ShiftLemmas.{own_sign}
use Rattle.bit_blast.proofs.WireLemmas.{read, read_append, read_take, read_copies, length_read, holds_false}
use Rattle.bit_blast.proofs.LengthLemmas.{length_copies}
use Rattle.bit_blast.proofs.BlockLemmas.{last_or, highest_or_reads}
use Rattle.bit_blast.proofs.MoveLemmas.{own_sign_bit}

pub length_fitted : (count fill : ℕ) (ws : Wires) → length (fitted count fill ws) ≡ count
length_fitted count fill ws = length-append (take count ws) (replicate (count - length ws) fill) ∙ ap₂ (λ (m n : ℕ). m + n) (length-take count ws) (length_copies (count - length ws) fill) ∙ omega arith

-- ---- on bits

abbrev pub fitted_bits : ℕ → Bool → List Bool → List Bool
fitted_bits count fill xs = take count xs ++ replicate (count - length xs) fill

pub fitted_reads : (s : Assignment) (count fill : ℕ) (ws : Wires) → read s (fitted count fill ws) ≡ fitted_bits count (holds s fill) (read s ws)
fitted_reads s count fill ws =
    read_append s (take count ws) (replicate (count - length ws) fill)
    ∙ ap₂ (λ (bs cs : List Bool). bs ++ cs) (read_take s count ws)
    (read_copies s (count - length ws) fill ∙ ap (λ (n : ℕ). replicate (count - n) (holds s fill)) (sym (length_read s ws)))

-- zeros above
pub number_fitted : (count : ℕ) (xs : List Bool) → number (fitted_bits count false xs) ≡ number xs % 2 ^ count
number_fitted count xs = ⊎_elim shorter longer (cases_lt (length xs) count)
  where
    none : (n p : ℕ) → n + p * 0 ≡ n
    none n p = omega arith

    plain : number (fitted_bits count false xs) ≡ number (take count xs)
    plain =
        number_append (take count xs) (replicate (count - length xs) false)
        ∙ ap (λ (n : ℕ). number (take count xs) + 2 ^ length (take count xs) * n) (number_zeros (count - length xs))
        ∙ none (number (take count xs)) (2 ^ length (take count xs))

    shorter : length xs < count → number (fitted_bits count false xs) ≡ number xs % 2 ^ count
    shorter h =
        plain ∙ ap (λ (ys : List Bool). number ys) (take_all count xs (omega arith))
        ∙ sym (mod-eq_of_lt (lt_of_lt_of_le (number_below xs) (pow_mono (omega arith))))

    longer : count ≤ length xs → number (fitted_bits count false xs) ≡ number xs % 2 ^ count
    longer h = plain ∙ number_take count xs h

-- copies of the highest bit above
pub number_extended : (count : ℕ) (xs : List Bool) → 0 < length xs → length xs ≤ count
    → number (fitted_bits count (last_or false xs) xs) ≡ unsigned count (signed (length xs) (number xs))
number_extended count xs some within =
    number_append (take count xs) (replicate (count - length xs) (last_or false xs))
    ∙ ap (λ (ys : List Bool). number ys + 2 ^ length ys * number (replicate (count - length xs) (last_or false xs))) (take_all count xs within)
    ∙ ap (λ (b : Bool). number xs + 2 ^ length xs * number (replicate (count - length xs) b)) (own_sign_bit xs some)
    ∙ go (own_sign (length xs) (number xs)) refl
  where
    all : 2 ^ length xs * 2 ^ (count - length xs) ≡ 2 ^ count
    all = let whole : length xs + (count - length xs) ≡ count = omega arith in sym (pow-add 2 (length xs) (count - length xs)) ∙ ap (λ (n : ℕ). 2 ^ n) whole

    below : number xs < 2 ^ length xs
    below = number_below xs

    go : (b : Bool) → own_sign (length xs) (number xs) ≡ b
        → number xs + 2 ^ length xs * number (replicate (count - length xs) b) ≡ unsigned count (signed (length xs) (number xs))
    go true e =
        let high : 2 ^ (length xs - 1) ≤ number xs = passed (2 ^ (length xs - 1)) (number xs) e in
        let ones = number_ones (count - length xs) in
        let power = pow_pos (count - length xs) in
        let top : number (replicate (count - length xs) true) ≡ 2 ^ (count - length xs) - 1 = omega arith in
        let fits : 2 ^ length xs ≤ 2 ^ count = pow_mono within in
        let under = below in
        let small : 2 ^ length xs - suc (number xs) < 2 ^ count = omega arith in
        ap (λ (n : ℕ). number xs + 2 ^ length xs * n) top
        ∙ filled (number xs) (2 ^ length xs) (2 ^ (count - length xs)) power
        ∙ ap (λ (n : ℕ). number xs + n - 2 ^ length xs) all
        ∙ sym (ap (λ (z : ℤ). unsigned count z) (signed_high (length xs) (number xs) high below)
        ∙ ap (λ (n : ℕ). 2 ^ count - 1 - n) (mod-eq_of_lt small) ∙ back (number xs) (2 ^ length xs) (2 ^ count) under fits)
      where
        passed : (m n : ℕ) → nat_le m n ≡ true → m ≤ n
        passed m n e = grind (arith, nat_tests)

        back : (x p q : ℕ) → x < p → p ≤ q → q - 1 - (p - suc x) ≡ x + q - p
        back x p q h k = omega arith

        filled : (x p q : ℕ) → 0 < q → x + p * (q - 1) ≡ x + p * q - p
        filled x p q some =
            let whole : p * q ≡ p * (q - 1) + p = ap (λ (n : ℕ). p * n) one_less ∙ mul-suc p (q - 1) in
            omega arith
          where
            one_less : q ≡ suc (q - 1)
            one_less = omega arith
    go false e =
        let low : number xs < 2 ^ (length xs - 1) = failed (2 ^ (length xs - 1)) (number xs) e in
        let under = below in
        let fits : 2 ^ length xs ≤ 2 ^ count = pow_mono within in
        ap (λ (n : ℕ). number xs + 2 ^ length xs * n) (number_zeros (count - length xs)) ∙ none (number xs) (2 ^ length xs)
        ∙ sym (ap (λ (z : ℤ). unsigned count z) (signed_low (length xs) (number xs) low) ∙ mod-eq_of_lt (omega arith))
      where
        failed : (m n : ℕ) → nat_le m n ≡ false → n < m
        failed m n e = grind (arith, nat_tests)

        none : (n p : ℕ) → n + p * 0 ≡ n
        none n p = omega arith

-- ---- on wires

-- the wires of an answer
pub answer_reads : (s : Assignment) → s 1 ≡ true → (count wire : ℕ) → 0 < count → number (read s (answer count wire)) ≡ bit (holds s wire)
answer_reads s one count wire some =
    ap (λ (bs : List Bool). number bs) (fitted_reads s count false_wire (wire ∷ []))
    ∙ ap (λ (b : Bool). number (fitted_bits count b (holds s wire ∷ []))) (holds_false s one)
    ∙ number_fitted count (holds s wire ∷ [])
    ∙ mod-eq_of_lt (lt_of_lt_of_le (number_below (holds s wire ∷ [])) (pow_mono some)) ∙ plain (bit (holds s wire))
  where
    plain : (n : ℕ) → n + 2 * 0 ≡ n
    plain n = omega arith

-- zeros above
pub filled_reads : (s : Assignment) → s 1 ≡ true → (count : ℕ) (ws : Wires) → number (read s (fitted count false_wire ws)) ≡ number (read s ws) % 2 ^ count
filled_reads s one count ws =
    ap (λ (bs : List Bool). number bs) (fitted_reads s count false_wire ws)
    ∙ ap (λ (b : Bool). number (fitted_bits count b (read s ws))) (holds_false s one) ∙ number_fitted count (read s ws)

pub highest_reads : (s : Assignment) → s 1 ≡ true → (ws : Wires) → holds s (highest ws) ≡ last_or false (read s ws)
highest_reads s one ws = highest_or_reads s false_wire ws ∙ ap (λ (b : Bool). last_or b (read s ws)) (holds_false s one)

-- copies of the highest of the lowest wires above them
pub extended_reads : (s : Assignment) → s 1 ≡ true → (from count : ℕ) (ws : Wires) → 0 < from → from ≤ length ws → from ≤ count
    → number (read s (sign_extended from count ws)) ≡ unsigned count (signed from (number (read s ws) % 2 ^ from))
extended_reads s one from count ws some within wider =
    let long : length (read s (take from ws)) ≡ from = length_read s (take from ws) ∙ length-take from ws ∙ omega arith in
    let all : from ≤ length (read s ws) = subst (λ (n : ℕ). from ≤ n) (sym (length_read s ws)) within in
    ap (λ (bs : List Bool). number bs) (fitted_reads s count (highest (take from ws)) (take from ws))
    ∙ ap (λ (b : Bool). number (fitted_bits count b (read s (take from ws)))) (highest_reads s one (take from ws))
    ∙ number_extended count (read s (take from ws)) (omega arith) (omega arith)
    ∙ ap₂ (λ (m n : ℕ). unsigned count (signed m n)) long (ap (λ (bs : List Bool). number bs) (read_take s from ws) ∙ number_take from (read s ws) all)
