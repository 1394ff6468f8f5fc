-- Reading, spelling and trouble of unsigned numbers belong together.
use Rattle.std.proofs.Common.{◌≡◌, ℕ, suc, ◌+◌, ◌-◌, ◌*◌, ◌^◌, ◌<◌, ◌≤◌, ◌⊎◌, ◌↔◌, inl, inr, Bool, true, false, cond, List, [], ◌∷◌, ◌++◌, length, Result, Ok, Err, refl, sym, ap, subst, ◌∙◌, arith}
use Rattle.std.specs.Prelude.{nat_lt, IfOk}
use Rattle.std.proofs.lemmas.Bool.{ltb-true, ltb-false, lt-ltb, le-ltb, cases_lt}
use Rattle.std.proofs.lemmas.Nat.{pow-add}
use Rattle.std.proofs.Math.Pow.{pow_mono}
use Rattle.owi_base.specs.declared.leb.LebBad.{LebBad}
use Rattle.owi_base.specs.declared.leb.LebBad.TheVariants.{Cut, Long, Range}
use Rattle.owi_base.specs.Leb.{SpellsUnsigned, UnsignedTrouble}
use Rattle.owi_base.proofs.Results.{ok_not_err, err_not_ok, err_same}
use Rattle.owi_base.proofs.LebReadings.{Front, front_one, front_more, front_at, told_at}
use Rattle.owi_base.proofs.Choices.{chosen}
use Rattle.owi_base.specs.LebReading.{read_unsigned, with_low, placed}

abbrev Read : Type 0
Read = Result (ℕ × ℕ) LebBad

-- ---- powers

pub seven_more : (width : ℕ) → 7 < width → 2 ^ width ≡ 128 * 2 ^ (width - 7)
seven_more width wide = let parts : width ≡ 7 + (width - 7) = omega arith in ap (λ i. 2 ^ i) parts ∙ pow-add 2 7 (width - 7)

pub byte_below : (width b : ℕ) → 7 < width → b < 128 → b < 2 ^ width
byte_below width b wide lt = let le : 2 ^ 7 ≤ 2 ^ width = pow_mono {i = 7} {j = width} (omega arith) in omega (arith, le)

pub joined_below : (width b high : ℕ) → 7 < width → b < 256 → 128 ≤ b → high < 2 ^ (width - 7) → b - 128 + 128 * high < 2 ^ width
joined_below width b high wide lt le small = rw (seven_more width wide) (omega arith)

pub high_fits : (width high low : ℕ) → 7 < width → width ≤ 64 → low < 128 → high < 2 ^ (width - 7) → low + 128 * high < 2 ^ 64
high_fits width high low wide le lt small =
    let more : 2 ^ width ≤ 2 ^ 64 = pow_mono {i = width} {j = 64} le in
    let whole = seven_more width wide in
    omega (arith, more, whole)

-- ---- the four ways to go on from a byte

abbrev on : (width b : ℕ) (bytes : List ℕ) → Read
on width b bytes = cond (nat_lt b 128) (Ok (b, 1)) (with_low (b - 128) (read_unsigned (width - 7) bytes))

abbrev last : (width b : ℕ) → Read
last width b = cond (nat_lt b 128) (cond (nat_lt b (2 ^ width)) (Ok (b, 1)) (Err Range)) (Err Long)

-- what a low part was put before
part_ok : (low : ℕ) (r : Read) (x : ℕ × ℕ) → with_low low r ≡ Ok x → (y : ℕ × ℕ) × (r ≡ Ok y) × (x.0 ≡ low + 128 * y.0) × (x.1 ≡ 1 + y.1)
part_ok low (Ok y) x e = let same : x ≡ (low + 128 * y.0, 1 + y.1) = cc in (y, refl, ap (λ (p : ℕ × ℕ). p.0) same, ap (λ (p : ℕ × ℕ). p.1) same)
part_ok low (Err bad) x e = absurd cc

part_err : (low : ℕ) (r : Read) (bad : LebBad) → with_low low r ≡ Err bad → r ≡ Err bad
part_err low (Ok y) bad e = absurd cc
part_err low (Err other) bad e = cc

abbrev ok : ℕ × ℕ → Read
ok x = Ok x

abbrev err : LebBad → Read
err bad = Err bad

-- ---- what is read is spelled so

abbrev pub Takes : (width : ℕ) (bytes : List ℕ) (n : ℕ) (k : ℕ) → Type 0
Takes width bytes n k = Front (λ text n. SpellsUnsigned width text n) bytes n k

-- a byte that goes on stands before a spelling
pub spelled_more : (width b high : ℕ) (text : List ℕ) → 7 < width → 128 ≤ b → SpellsUnsigned (width - 7) text high → SpellsUnsigned width (b ∷ text) (b - 128 + 128 * high)
spelled_more width b high [] wide le spelled = absurd spelled
spelled_more width b high (c ∷ text) wide le spelled = (wide, le, high, omega arith, spelled)

takes_one : (width b : ℕ) (bytes : List ℕ) (x : ℕ × ℕ) → b < 128 → b < 2 ^ width → ok (b, 1) ≡ ok x → Takes width (b ∷ bytes) x.0 x.1
takes_one width b bytes x lt small e = front_one (λ text n. SpellsUnsigned width text n) b bytes b x (lt, small, refl) e

takes_more : (width b : ℕ) (bytes : List ℕ) (x y : ℕ × ℕ) → 7 < width → 128 ≤ b → Takes (width - 7) bytes y.0 y.1 → x.0 ≡ b - 128 + 128 * y.0 → x.1 ≡ 1 + y.1 → Takes width (b ∷ bytes) x.0 x.1
takes_more width b bytes x y wide le others number count =
    front_more (λ text n. SpellsUnsigned width text n) (λ text n. SpellsUnsigned (width - 7) text n) b bytes x y (b - 128 + 128 * y.0) (λ text s. spelled_more width b y.0 text wide le s) others number count

pub takes : (width : ℕ) (bytes : List ℕ) (x : ℕ × ℕ) → read_unsigned width bytes ≡ Ok x → Takes width bytes x.0 x.1
takes width [] x e = absurd cc
takes width (b ∷ bytes) x e =
    elim (chosen (nat_lt 7 width) (on width b bytes) (last width b) (Ok x) e) [
      | inl wide ↦ elim (chosen (nat_lt b 128) (Ok (b, 1)) (with_low (b - 128) (read_unsigned (width - 7) bytes)) (Ok x) wide.1) [
        | inl lt ↦ takes_one width b bytes x (ltb-true b 128 lt.0) (byte_below width b (ltb-true 7 width wide.0) (ltb-true b 128 lt.0)) lt.1
        | inr ge ↦
            let low = part_ok (b - 128) (read_unsigned (width - 7) bytes) x ge.1 in
            let others = takes (width - 7) bytes low.0 low.1 in
            takes_more width b bytes x low.0 (ltb-true 7 width wide.0) (ltb-false b 128 ge.0) others low.2 low.3
      ]
      | inr narrow ↦ elim (chosen (nat_lt b 128) (cond (nat_lt b (2 ^ width)) (Ok (b, 1)) (Err Range)) (Err Long) (Ok x) narrow.1) [
        | inl lt ↦ elim (chosen (nat_lt b (2 ^ width)) (Ok (b, 1)) (Err Range) (Ok x) lt.1) [
          | inl small ↦ takes_one width b bytes x (ltb-true b 128 lt.0) (ltb-true b (2 ^ width) small.0) small.1
          | inr big ↦ absurd (err_not_ok x Range big.1)
        ]
        | inr ge ↦ absurd (err_not_ok x Long ge.1)
      ]
    ]

-- ---- what is spelled so is read

one_byte : (width b n : ℕ) (rest : List ℕ) → b < 128 → b < 2 ^ width → n ≡ b → read_unsigned width (b ∷ rest) ≡ Ok (n, 1)
one_byte width b n rest lt small is =
    elim (cases_lt 7 width) [
      | inl wide ↦ rw (lt-ltb 7 width wide, lt-ltb b 128 lt, is) refl
      | inr narrow ↦ rw (le-ltb 7 width narrow, lt-ltb b 128 lt, lt-ltb b (2 ^ width) small, is) refl
    ]

more_bytes : (width b : ℕ) (bytes : List ℕ) (x : ℕ × ℕ) → 7 < width → 128 ≤ b → read_unsigned (width - 7) bytes ≡ Ok x → read_unsigned width (b ∷ bytes) ≡ Ok (b - 128 + 128 * x.0, 1 + x.1)
more_bytes width b bytes x wide le read = rw (lt-ltb 7 width wide, le-ltb b 128 le, read) refl

pub again : (width : ℕ) (text rest : List ℕ) (n : ℕ) → SpellsUnsigned width text n → read_unsigned width (text ++ rest) ≡ Ok (n, length text)
again width [] rest n spelled = absurd spelled
again width (b ∷ []) rest n spelled = one_byte width b n rest spelled.0 spelled.1 spelled.2
again width (b ∷ c ∷ text) rest n spelled =
    let high = spelled.2 in
    let others = again (width - 7) (c ∷ text) rest high spelled.4 in
    let is : b - 128 + 128 * high ≡ n = omega (arith, spelled.1, spelled.3) in
    let one_more : 1 + length (c ∷ text) ≡ suc (length (c ∷ text)) = omega arith in
    more_bytes width b (c ∷ text ++ rest) (high, length (c ∷ text)) spelled.0 spelled.1 others
    ∙ ap (λ m. ok (m, 1 + length (c ∷ text))) is ∙ ap (λ k. ok (n, k)) one_more

-- ---- trouble

pub troubles : (width : ℕ) (bytes : List ℕ) (bad : LebBad) → (read_unsigned width bytes ≡ Err bad) ↔ UnsignedTrouble width bytes bad
troubles width [] bad = (λ e. let same : bad ≡ Cut = cc in same, λ e. ap (λ (d : LebBad). err d) (sym e))
troubles width (b ∷ bytes) bad = (
  λ e. elim (chosen (nat_lt 7 width) (on width b bytes) (last width b) (Err bad) e) [
    | inl wide ↦ elim (chosen (nat_lt b 128) (Ok (b, 1)) (with_low (b - 128) (read_unsigned (width - 7) bytes)) (Err bad) wide.1) [
      | inl lt ↦ absurd (ok_not_err (b, 1) bad lt.1)
      | inr ge ↦ inl (ltb-true 7 width wide.0, ltb-false b 128 ge.0, (troubles (width - 7) bytes bad).0 (part_err (b - 128) (read_unsigned (width - 7) bytes) bad ge.1))
    ]
    | inr narrow ↦ elim (chosen (nat_lt b 128) (cond (nat_lt b (2 ^ width)) (Ok (b, 1)) (Err Range)) (Err Long) (Err bad) narrow.1) [
      | inl lt ↦ elim (chosen (nat_lt b (2 ^ width)) (Ok (b, 1)) (Err Range) (Err bad) lt.1) [
        | inl small ↦ absurd (ok_not_err (b, 1) bad small.1)
        | inr big ↦ inr (inr (ltb-false 7 width narrow.0, ltb-true b 128 lt.0, ltb-false b (2 ^ width) big.0, sym (err_same Range bad big.1)))
      ]
      | inr ge ↦ inr (inl (ltb-false 7 width narrow.0, ltb-false b 128 ge.0, sym (err_same Long bad ge.1)))
    ]
  ],
  λ t. elim t [
    | inl on ↦ rw (lt-ltb 7 width on.0, le-ltb b 128 on.1, (troubles (width - 7) bytes bad).1 on.2) refl
    | inr end ↦ elim end [
      | inl long ↦ rw (le-ltb 7 width long.0, le-ltb b 128 long.1, long.2) refl
      | inr range ↦ rw (le-ltb 7 width range.0, lt-ltb b 128 range.1, le-ltb b (2 ^ width) range.2, range.3) refl
    ]
  ],
)

-- ---- the same of bytes that begin at a place

pub spelled_at : (width at : ℕ) (bytes : List ℕ) (r : Read) → r ≡ placed at (read_unsigned width bytes) → IfOk r (λ x. ((text rest : List ℕ) × (bytes ≡ text ++ rest) × (x.1 ≡ at + length text) × SpellsUnsigned width text x.0))
spelled_at width at bytes r e = front_at (λ text n. SpellsUnsigned width text n) at bytes (read_unsigned width bytes) r (takes width bytes) e

pub only_at : (width at : ℕ) (bytes : List ℕ) (r : Read) → r ≡ placed at (read_unsigned width bytes) → (text rest : List ℕ) (n : ℕ) → bytes ≡ text ++ rest → SpellsUnsigned width text n → r ≡ Ok (n, at + length text)
only_at width at bytes r e text rest n parts spelled =
    e ∙ ap (λ (l : List ℕ). placed at (read_unsigned width l)) parts ∙ ap (placed at) (again width text rest n spelled)

pub trouble_at : (width at : ℕ) (bytes : List ℕ) (r : Read) → r ≡ placed at (read_unsigned width bytes) → (bad : LebBad) → (r ≡ Err bad) ↔ UnsignedTrouble width bytes bad
trouble_at width at bytes r e = told_at (UnsignedTrouble width bytes) at (read_unsigned width bytes) r (troubles width bytes) e
