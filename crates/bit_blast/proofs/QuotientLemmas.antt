-- The wires of a division.
use Rattle.std.proofs.Common.{◌≡◌, ℕ, suc, ◌+◌, ◌-◌, ◌*◌, ◌/◌, ◌%◌, ◌^◌, ◌<◌, ◌≤◌, Bool, true, not, cond, List, [], ◌∷◌, ◌++◌, length, map, take, sym, ap, ◌∙◌, subst, arith, ap₂, ⊎_elim, mul-zero, pow_mono, mod-eq_of_lt, eq-eqb, ne_eqb, ◌==◌}
use Rattle.std.proofs.Math.Nat.{mod-zero}
use Rattle.std.proofs.lemmas.Bool.{cases_eq}
use Rattle.refute_check.specs.Clauses.{Assignment}
use Rattle.bit_blast.specs.declared.blocks.Division.{Division}
use Rattle.bit_blast.specs.Gates.{Wires, true_wire, negation, Circuit}
use Rattle.bit_blast.specs.Blocks.{add, divide_bit, divide_from, divide}
use Rattle.bit_blast.specs.Meanings.{holds, bit}
use Rattle.bit_blast.proofs.BitNumbers.{number}
use Rattle.bit_blast.proofs.NumberLemmas.{number_below, number_take, number_zeros}
use Rattle.bit_blast.proofs.SumLemmas.{sums, carried, either_bits}
use Rattle.bit_blast.proofs.DivideLemmas.{IsDivided, no_bits, next_bit, quotient_of, quotient_by_zero, doubled, fits, lessened, next_rest, next_is}
use Rattle.bit_blast.proofs.WireLemmas.{read, read_append, read_take, read_negations, read_falses, length_read, holds_true}
use Rattle.bit_blast.proofs.LengthLemmas.{length_divide_from}
use Rattle.bit_blast.proofs.BlockLemmas.{Valued, add_reads, mux_reads}

-- the remainder and the quotient's bit after a step
bit_reads : (s : Assignment) → s 1 ≡ true → (ys : Wires) (x : ℕ) (above : Division) (c : Circuit) → Valued s (divide_bit ys x above c).circuit
    → Valued s c
    × (read s (divide_bit ys x above c).result.quotient ≡ fits (doubled (holds s x) (read s above.remainder) (length (read s ys))) (read s ys) ∷ read s above.quotient)
    × (read s (divide_bit ys x above c).result.remainder ≡ next_rest (holds s x) (read s above.remainder) (read s ys))
bit_reads s one ys x above c h =
    let shifted = x ∷ take (length ys) above.remainder in
    let divisor = map negation ys ++ true_wire ∷ [] in
    let sum = add shifted divisor true_wire c in
    let chosen = mux_reads s sum.result.carry sum.result.sums shifted sum.circuit h in
    let added = add_reads s shifted divisor true_wire c chosen.0 in
    let shifted_is : read s shifted ≡ doubled (holds s x) (read s above.remainder) (length (read s ys)) =
    ap (λ (bs : List Bool). holds s x ∷ bs) (read_take s (length ys) above.remainder ∙ ap (λ (n : ℕ). take n (read s above.remainder)) (sym (length_read s ys))) in
    let divisor_is : read s divisor ≡ map not (read s ys) ++ true ∷ [] =
    read_append s (map negation ys) (true_wire ∷ []) ∙ ap₂ (λ (bs : List Bool) (b : Bool). bs ++ b ∷ []) (read_negations s ys) (holds_true s one) in
    let carry_is : holds s sum.result.carry ≡ fits (doubled (holds s x) (read s above.remainder) (length (read s ys))) (read s ys) =
    added.2 ∙ ap₂ (λ (bs cs : List Bool). carried bs cs (holds s true_wire)) shifted_is divisor_is
    ∙ ap (λ (b : Bool). carried (doubled (holds s x) (read s above.remainder) (length (read s ys))) (map not (read s ys) ++ true ∷ []) b) (holds_true s one) in
    let sums_are : read s sum.result.sums ≡ lessened (doubled (holds s x) (read s above.remainder) (length (read s ys))) (read s ys) =
    added.1 ∙ ap₂ (λ (bs cs : List Bool). sums bs cs (holds s true_wire)) shifted_is divisor_is
    ∙ ap (λ (b : Bool). sums (doubled (holds s x) (read s above.remainder) (length (read s ys))) (map not (read s ys) ++ true ∷ []) b) (holds_true s one) in (
      added.0,
      ap (λ (b : Bool). b ∷ read s above.quotient) carry_is,
      chosen.1 ∙ ap₂ (λ (b : Bool) (bs : List Bool). either_bits b bs (read s shifted)) carry_is sums_are
          ∙ ap (λ (bs : List Bool). either_bits (fits (doubled (holds s x) (read s above.remainder) (length (read s ys))) (read s ys)) (lessened (doubled (holds s x) (read s above.remainder) (length (read s ys))) (read s ys)) bs) shifted_is,
    )

-- what is left is less than 2^N
rest_small : (n m p d q r : ℕ) → IsDivided n p d q r → p < 2 ^ n → n ≤ m → d < 2 ^ m → r < 2 ^ m
rest_small n m p d q r h small few below = ⊎_elim nothing something (cases_eq d 0)
  where
    nothing : d ≡ 0 → r < 2 ^ m
    nothing e =
        let w = h.whole in
        let z : q * d ≡ 0 = ap (λ (k : ℕ). q * k) e ∙ mul-zero q in
        let more = pow_mono few in
        omega arith

    something : (d ≡ 0 → ⊥) → r < 2 ^ m
    something e = let w = h.within (omega arith) in omega arith

abbrev Divides : Assignment → Wires → Wires → Division → Type 0
Divides s xs ys result =
    IsDivided (length xs) (number (read s xs)) (number (read s ys)) (number (read s result.quotient)) (number (read s result.remainder))

pub divide_from_reads : (s : Assignment) → s 1 ≡ true → (ys xs : Wires) (c : Circuit) → length xs ≤ length ys → Valued s (divide_from ys xs c).circuit
    → Valued s c × Divides s xs ys (divide_from ys xs c).result
divide_from_reads s one ys [] c few h =
    (h, subst (λ (n : ℕ). IsDivided 0 0 (number (read s ys)) 0 n) (sym (ap (λ (bs : List Bool). number bs) (read_falses s one (suc (length ys))) ∙ number_zeros (suc (length ys)))) (no_bits (number (read s ys))))
divide_from_reads s one ys (x ∷ higher) c few h =
    let above = divide_from ys higher c in
    let step = bit_reads s one ys x above.result above.circuit h in
    let before = divide_from_reads s one ys higher c (omega arith) step.0 in
    let long : length (read s above.result.remainder) ≡ length (read s ys) + 1 =
    length_read s above.result.remainder ∙ (length_divide_from ys higher c).1 ∙ ap suc (sym (length_read s ys)) ∙ omega arith in
    let few_read : length higher ≤ length (read s ys) = subst (λ (n : ℕ). length higher ≤ n) (sym (length_read s ys)) (omega arith) in
    let bits : number (read s higher) < 2 ^ length higher = subst (λ (n : ℕ). number (read s higher) < 2 ^ n) (length_read s higher) (number_below (read s higher)) in
    let small : number (read s above.result.remainder) < 2 ^ length (read s ys) =
    rest_small (length higher) (length (read s ys)) (number (read s higher)) (number (read s ys)) (number (read s above.result.quotient)) (number (read s above.result.remainder)) before.1 bits few_read (number_below (read s ys)) in
    let next = next_is (holds s x) (read s above.result.remainder) (read s ys) long small in
    let one_more = next_bit (length higher) (number (read s higher)) (number (read s ys)) (number (read s above.result.quotient)) (number (read s above.result.remainder)) (holds s x)
    (fits (doubled (holds s x) (read s above.result.remainder) (length (read s ys))) (read s ys)) before.1 next.0 in (
      before.0,
      turn (suc (length higher)) (bit (holds s x) + 2 * number (read s higher)) (number (read s ys)) _ _ _ _
          (sym (ap (λ (bs : List Bool). number bs) step.1)) (sym (ap (λ (bs : List Bool). number bs) step.2 ∙ next.1)) one_more,
    )
  where
    turn : (n p d q r q' r' : ℕ) → q ≡ q' → r ≡ r' → IsDivided n p d q r → IsDivided n p d q' r'
    turn n p d q r q' r' e f h = subst (λ (k : ℕ). IsDivided n p d k r') e (subst (λ (k : ℕ). IsDivided n p d q k) f h)

-- quotient and remainder; by 0 all ones and the dividend
abbrev pub quotient_or_ones : ℕ → ℕ → ℕ → ℕ
quotient_or_ones N x y = cond (y == 0) (2 ^ N - 1) (x / y)

pub divide_reads : (s : Assignment) → s 1 ≡ true → (xs ys : Wires) (c : Circuit) → length xs ≡ length ys → Valued s (divide xs ys c).circuit
    → Valued s c
    × (number (read s (divide xs ys c).result.quotient) ≡ quotient_or_ones (length xs) (number (read s xs)) (number (read s ys)))
    × (number (read s (divide xs ys c).result.remainder) ≡ number (read s xs) % number (read s ys))
divide_reads s one xs ys c same h =
    let all = divide_from_reads s one ys xs c (omega arith) h in
    let divided = (divide_from ys xs c).result in
    let bits : number (read s xs) < 2 ^ length xs = subst (λ (n : ℕ). number (read s xs) < 2 ^ n) (length_read s xs) (number_below (read s xs)) in
    let below : number (read s ys) < 2 ^ length ys = subst (λ (n : ℕ). number (read s ys) < 2 ^ n) (length_read s ys) (number_below (read s ys)) in
    let small : number (read s divided.remainder) < 2 ^ length ys = rest_small (length xs) (length ys) (number (read s xs)) (number (read s ys)) (number (read s divided.quotient)) (number (read s divided.remainder)) all.1 bits (omega arith) below in
    let long : length (read s divided.remainder) ≡ suc (length ys) = length_read s divided.remainder ∙ (length_divide_from ys xs c).1 in
    let cut : number (read s (take (length ys) divided.remainder)) ≡ number (read s divided.remainder) =
    ap (λ (bs : List Bool). number bs) (read_take s (length ys) divided.remainder) ∙ number_take (length ys) (read s divided.remainder) (omega arith) ∙ mod-eq_of_lt small in
    let parts = answer (length xs) (number (read s xs)) (number (read s ys)) (number (read s divided.quotient)) (number (read s divided.remainder)) all.1 in
    (all.0, parts.0, cut ∙ parts.1)
  where
    answer : (n x d q r : ℕ) → IsDivided n x d q r → (q ≡ quotient_or_ones n x d) × (r ≡ x % d)
    answer n x d q r h = ⊎_elim nothing something (cases_eq d 0)
      where
        nothing : d ≡ 0 → (q ≡ quotient_or_ones n x d) × (r ≡ x % d)
        nothing e =
            let z = quotient_by_zero n x d q r h e in
            (z.0 ∙ sym (ap (λ (b : Bool). cond b (2 ^ n - 1) (x / d)) (eq-eqb d 0 e)), z.1 ∙ sym (ap (λ (k : ℕ). x % k) e ∙ mod-zero x))

        something : (d ≡ 0 → ⊥) → (q ≡ quotient_or_ones n x d) × (r ≡ x % d)
        something e =
            let z = quotient_of n x d q r h (omega arith) in
            (z.0 ∙ sym (ap (λ (b : Bool). cond b (2 ^ n - 1) (x / d)) (ne_eqb d 0 e)), z.1)
