-- The wires of a product.
use Rattle.std.proofs.Common.{◌≡◌, ℕ, zero, suc, ◌+◌, ◌*◌, ◌/◌, ◌%◌, ◌^◌, ◌<◌, ◌≤◌, Bool, true, false, ◌&&◌, List, [], ◌∷◌, length, map, take, refl, sym, ap, ◌∙◌, subst, arith, ap₂, length-take, mul-zero, pow-suc, mod-eq_of_lt}
use Rattle.std.proofs.lemmas.Nat.{pow_pos, mod_below, mod-mul-add}
use Rattle.std.proofs.Math.Nat.{mod-add-mod, add-mod-mod, div-add-mod'}
use Rattle.refute_check.specs.Clauses.{Assignment}
use Rattle.bit_blast.specs.declared.gates.Gate.TheVariants.{And}
use Rattle.bit_blast.specs.Gates.{Wires, false_wire, Circuit}
use Rattle.bit_blast.specs.Blocks.{add, times, add_rows, multiply}
use Rattle.bit_blast.specs.Meanings.{holds, bit}
use Rattle.bit_blast.proofs.BitNumbers.{number}
use Rattle.bit_blast.proofs.NumberLemmas.{bit_le, number_below, number_take}
use Rattle.bit_blast.proofs.SumLemmas.{sum_is}
use Rattle.bit_blast.proofs.WireLemmas.{read, read_take, length_read, holds_false}
use Rattle.bit_blast.proofs.LengthLemmas.{length_each, length_add}
use Rattle.bit_blast.proofs.BlockLemmas.{Valued, add_reads, each_reads}

-- a number where a bit is set, else 0
product_bit : (y : Bool) (xs : List Bool) → number (map (λ x. x && y) xs) ≡ bit y * number xs
product_bit y [] = sym (mul-zero (bit y))
product_bit true (true ∷ xs) = let rest = product_bit true xs in omega arith
product_bit true (false ∷ xs) = let rest = product_bit true xs in omega arith
product_bit false (true ∷ xs) = let rest = product_bit false xs in omega arith
product_bit false (false ∷ xs) = let rest = product_bit false xs in omega arith

pub times_reads : (s : Assignment) (xs : Wires) (y : ℕ) (c : Circuit) → Valued s (times xs y c).circuit
    → Valued s c × (number (read s (times xs y c).result) ≡ bit (holds s y) * number (read s xs))
times_reads s xs y c h =
    let all = each_reads s (λ x. And x y) (λ x. x && holds s y) (λ w. refl) xs c h in
    (all.0, ap (λ (bs : List Bool). number bs) all.1 ∙ product_bit (holds s y) (read s xs))

-- ---- arithmetic of one row

mod_double : (b p n : ℕ) → b ≤ 1 → 0 < p → (b + 2 * n) % (p * 2) ≡ b + 2 * (n % p)
mod_double b p n small some =
    let whole = div-add-mod' n p in
    let below = mod_below n p some in
    ap (λ (k : ℕ). k % (p * 2)) (apart (n / p) (n % p) p n whole) ∙ mod-mul-add (n / p) (p * 2) (b + 2 * (n % p)) (omega arith)
  where
    apart : (q r p n : ℕ) → q * p + r ≡ n → b + 2 * n ≡ q * (p * 2) + (b + 2 * r)
    apart q r p n e =
        let twice : q * (p * 2) ≡ 2 * (q * p) = grind arith in
        omega arith

one_row : (l k p x y Y n : ℕ) → l ≤ 1 → y ≤ 1 → 0 < p → n ≡ (k + y * (x % p) + 0) % p
    → l + 2 * ((n + 2 * Y * x) % p) ≡ (l + 2 * k + 2 * (y + 2 * Y) * x) % (p * 2)
one_row l k p x y Y n small bit some e =
    ap (λ (m : ℕ). l + 2 * ((m + 2 * Y * x) % p)) e
    ∙ ap (λ (m : ℕ). l + 2 * m) (mod-add-mod (k + y * (x % p) + 0) p (2 * Y * x) ∙ inner y bit)
    ∙ sym (mod_double l p (k + y * x + 2 * Y * x) small some)
    ∙ ap (λ (m : ℕ). m % (p * 2)) (spread l k x y Y)
  where
    inner : (y : ℕ) → y ≤ 1 → (k + y * (x % p) + 0 + 2 * Y * x) % p ≡ (k + y * x + 2 * Y * x) % p
    inner zero h = ap (λ (m : ℕ). m % p) (omega arith)
    inner (suc zero) h =
        ap (λ (m : ℕ). m % p) front ∙ add-mod-mod (k + 2 * Y * x) x p ∙ ap (λ (m : ℕ). m % p) back
      where
        front : k + 1 * (x % p) + 0 + 2 * Y * x ≡ k + 2 * Y * x + x % p
        front = omega arith

        back : k + 2 * Y * x + x ≡ k + 1 * x + 2 * Y * x
        back = omega arith
    inner (suc (suc y)) h = absurd (omega arith)

    spread : (l k x y Y : ℕ) → l + 2 * (k + y * x + 2 * Y * x) ≡ l + 2 * k + 2 * (y + 2 * Y) * x
    spread l k x y Y = grind arith

pub add_rows_reads : (s : Assignment) → s 1 ≡ true → (xs ys sum : Wires) (c : Circuit) → length ys < length sum → length sum ≤ suc (length xs)
    → Valued s (add_rows xs ys sum c).circuit
    → Valued s c × (number (read s (add_rows xs ys sum c).result) ≡ (number (read s sum) + 2 * number (read s ys) * number (read s xs)) % 2 ^ length sum)
add_rows_reads s one xs [] sum c few most h =
    let below : number (read s sum) < 2 ^ length sum = subst (λ (n : ℕ). number (read s sum) < 2 ^ n) (length_read s sum) (number_below (read s sum)) in
    (h, sym (ap (λ (n : ℕ). n % 2 ^ length sum) plain ∙ mod-eq_of_lt below))
  where
    plain : number (read s sum) + 2 * 0 * number (read s xs) ≡ number (read s sum)
    plain = omega arith
add_rows_reads s one xs (y ∷ ys) [] c few most h = absurd (omega arith)
add_rows_reads s one xs (y ∷ ys) (lowest ∷ sum) c few most h =
    let row = times (take (length sum) xs) y c in
    let next = add sum row.result false_wire row.circuit in
    let long : length row.result ≡ length sum = length_each (λ x. And x y) (take (length sum) xs) c ∙ length-take (length sum) xs ∙ omega arith in
    let next_long : length next.result.sums ≡ length sum = length_add sum row.result false_wire row.circuit (sym long) in
    let rest = add_rows_reads s one xs ys next.result.sums next.circuit (omega arith) (omega arith) h in
    let added = add_reads s sum row.result false_wire row.circuit rest.0 in
    let here = times_reads s (take (length sum) xs) y c added.0 in
    let within : length sum ≤ length (read s xs) = subst (λ (n : ℕ). length sum ≤ n) (sym (length_read s xs)) (omega arith) in
    let cut : number (read s (take (length sum) xs)) ≡ number (read s xs) % 2 ^ length sum =
    ap (λ (bs : List Bool). number bs) (read_take s (length sum) xs) ∙ number_take (length sum) (read s xs) within in
    let sum_long : length (read s sum) ≡ length (read s row.result) = length_read s sum ∙ sym long ∙ sym (length_read s row.result) in
    let total : number (read s next.result.sums) ≡ (number (read s sum) + bit (holds s y) * (number (read s xs) % 2 ^ length sum) + 0) % 2 ^ length sum =
    ap (λ (bs : List Bool). number bs) added.1 ∙ sum_is (read s sum) (read s row.result) (holds s false_wire) sum_long
    ∙ ap₂ (λ (b : Bool) (n : ℕ). (number (read s sum) + number (read s row.result) + bit b) % 2 ^ n) (holds_false s one) (length_read s sum)
    ∙ ap (λ (n : ℕ). (number (read s sum) + n + 0) % 2 ^ length sum) (here.1 ∙ ap (λ (n : ℕ). bit (holds s y) * n) cut) in (
      here.0,
      ap (λ (n : ℕ). bit (holds s lowest) + 2 * n) (rest.1 ∙ ap (λ (n : ℕ). (number (read s next.result.sums) + 2 * number (read s ys) * number (read s xs)) % 2 ^ n) next_long)
          ∙ one_row (bit (holds s lowest)) (number (read s sum)) (2 ^ length sum) (number (read s xs)) (bit (holds s y)) (number (read s ys)) (number (read s next.result.sums))
          (bit_le (holds s lowest)) (bit_le (holds s y)) (pow_pos (length sum)) total
          ∙ ap (λ (p : ℕ). (bit (holds s lowest) + 2 * number (read s sum) + 2 * (bit (holds s y) + 2 * number (read s ys)) * number (read s xs)) % p) (sym (pow-suc 2 (length sum))),
    )

pub multiply_reads : (s : Assignment) → s 1 ≡ true → (xs ys : Wires) (c : Circuit) → length xs ≡ length ys → Valued s (multiply xs ys c).circuit
    → Valued s c × (number (read s (multiply xs ys c).result) ≡ (number (read s xs) * number (read s ys)) % 2 ^ length xs)
multiply_reads s one [] [] c same h = (h, refl)
multiply_reads s one (x ∷ xs) [] c same h = absurd (omega arith)
multiply_reads s one xs (y ∷ ys) c same h =
    let row = times xs y c in
    let long : length row.result ≡ length xs = length_each (λ x. And x y) xs c in
    let rest = add_rows_reads s one xs ys row.result row.circuit (omega arith) (omega arith) h in
    let here = times_reads s xs y c rest.0 in (
      here.0,
      rest.1 ∙ ap₂ (λ (m n : ℕ). (m + 2 * number (read s ys) * number (read s xs)) % 2 ^ n) here.1 long
          ∙ ap (λ (n : ℕ). n % 2 ^ length xs) (gathered (bit (holds s y)) (number (read s ys)) (number (read s xs))),
    )
  where
    gathered : (b n x : ℕ) → b * x + 2 * n * x ≡ x * (b + 2 * n)
    gathered b n x = grind arith
