-- How large signed numbers are.
use Rattle.std.proofs.Common.{◌≡◌, ℕ, ◌+◌, ◌-◌, ◌*◌, ◌^◌, ◌<◌, ◌≤◌, ℤ, pos, ◌+ℤ◌, ◌-ℤ◌, ◌*ℤ◌, ◌<ℤ◌, ◌≤ℤ◌, FitsSigned, w64, ap, ◌∙◌, arith, inl, inr}
use Rattle.std.proofs.lemmas.Int.{ints}
use Rattle.std.proofs.lemmas.Bool.{cases_lt, lt-ltb, le-ltb}
use Rattle.std.proofs.lemmas.Nat.{pow-add}
use Rattle.std.proofs.Math.Pow.{pow_mono}
use Rattle.owi_base.specs.Leb.{HasBits, last_value}

pub half_more : (width : ℕ) → 7 < width → 2 ^ (width - 1) ≡ 128 * 2 ^ (width - 7 - 1)
half_more width wide = let parts : width - 1 ≡ 7 + (width - 7 - 1) = omega arith in ap (λ i. 2 ^ i) parts ∙ pow-add 2 7 (width - 7 - 1)

pub half_below : (width : ℕ) → width ≤ 64 → 2 ^ (width - 1) ≤ 2 ^ 63
half_below width le = pow_mono {i = width - 1} {j = 63} (omega arith)

half_some : (width : ℕ) → 7 < width → 128 ≤ 2 ^ (width - 1)
half_some width wide = let le : 2 ^ 7 ≤ 2 ^ (width - 1) = pow_mono {i = 7} {j = width - 1} (omega arith) in omega (arith, le)

last_small : (b : ℕ) → b < 128 → ((pos 0 -ℤ pos 64) ≤ℤ last_value b) × (last_value b <ℤ pos 64)
last_small b lt =
    elim (cases_lt b 64) [
      | inl low ↦ rw (lt-ltb b 64 low) (omega (arith, ints), omega (arith, ints))
      | inr high ↦ rw (le-ltb b 64 high) (omega (arith, ints), omega (arith, ints))
    ]

pub last_has_bits : (width b : ℕ) (z : ℤ) → 7 < width → b < 128 → z ≡ last_value b → HasBits width z
last_has_bits width b z wide lt is =
    let small = last_small b lt in
    let some = half_some width wide in
    rw is (omega (arith, ints, small.0, some), omega (arith, ints, small.1, some))

pub joined_has_bits : (width low : ℕ) (high : ℤ) → 7 < width → low < 128 → HasBits (width - 7) high → HasBits width (pos low +ℤ (pos 128 *ℤ high))
joined_has_bits width low high wide lt small =
    let whole = half_more width wide in
    (omega (arith, ints, whole, small.0), omega (arith, ints, whole, small.1))

pub high_fits : (width : ℕ) (high : ℤ) → 7 < width → width ≤ 64 → HasBits (width - 7) high → FitsSigned w64 (pos 128 *ℤ high)
high_fits width high wide le small =
    let whole = half_more width wide in
    let most = half_below width le in
    omega (arith, ints, whole, most, small.0, small.1)

pub joined_fits : (width low : ℕ) (high : ℤ) → 7 < width → width ≤ 64 → low < 128 → HasBits (width - 7) high → FitsSigned w64 (pos low +ℤ (pos 128 *ℤ high))
joined_fits width low high wide le lt small =
    let whole = half_more width wide in
    let most = half_below width le in
    omega (arith, ints, whole, most, small.0, small.1)
