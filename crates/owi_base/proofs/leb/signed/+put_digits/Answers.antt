use Rattle.std.proofs.Common.{◌≡◌, ◌<◌, ◌≤◌, ◌^◌, ℕ, ℤ, ◌+◌, List, [], ◌∷◌, ◌++◌, sym, ap, ◌∙◌, append_assoc, rules, w64, FitsSigned}
use Rattle.std.proofs.lemmas.Bool.{ltb-true, ltb-false}
use Rattle.std.proofs.lemmas.Int.{to_z-of_z}
use Rattle.owi_base.specs.Leb.{low_bits, high_part, distance, signed_bytes}
use Rattle.owi_base.proofs.DigitLaws.{signed_bytes_one, signed_bytes_more}
use Rattle.owi_base.proofs.leb.signed.+put_digits.Goals as goal

after_low : (old one all : List ℕ) (z : ℤ) (low : ℕ) (high : ℤ) → distance z < 2 ^ 63 → 64 ≤ distance z → low ≡ low_bits z → high ≡ high_part z
    → one ≡ old ++ (low + 128) ∷ [] → all ≡ one ++ signed_bytes high → all ≡ old ++ signed_bytes z
after_low old one all z low high small more low_is high_is one_is all_is =
    rw (signed_bytes_more z small more, ← low_is, ← high_is)
    (all_is ∙ ap (λ (l : List ℕ). l ++ signed_bytes high) one_is ∙ append_assoc old ((low + 128) ∷ []) (signed_bytes high))

pub returns-then-is_one_byte-clause-ok : goal.returns-then-is_one_byte-clause-ok
returns-then-is_one_byte-clause-ok t c =
    let fits = c.ranges.value in
    let test = simp to_z-of_z at c.is_one_byte.ensures in
    let low = simp to_z-of_z at c.low_bits-low.ensures in
    let one : distance c.args.value < 64 = ltb-true (distance c.args.value) 64 (sym test ∙ c.if-is_one_byte.true) in
    rw (signed_bytes_one c.args.value one, ← low) c.in_ok-push.ensures.items

pub returns-in-Ok-clause-ok : goal.returns-in-Ok-clause-ok
returns-in-Ok-clause-ok t c =
    let fits = c.ranges.value in
    let z = c.args.value in
    let test = simp to_z-of_z at c.is_one_byte.ensures in
    let low = simp to_z-of_z at c.low_bits-low.ensures in
    let high = simp to_z-of_z at c.high_part.ensures in
    let small : distance z < 2 ^ 63 = fits.sfits in
    let more : 64 ≤ distance z = ltb-false (distance z) 64 (sym test ∙ c.if-is_one_byte.false) in
    let high_fits : FitsSigned w64 c.high_part.result = search rules in
    after_low c.args.out.now.items c.push-2.new.self.items c.put_digits.new.out.items z (c.low_bits-low.result) c.high_part.result small more low high c.in_ok-push-2.ensures.items (simp to_z-of_z at c.in-Ok.ensures.ok)
