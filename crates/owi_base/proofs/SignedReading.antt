-- Reading, spelling and trouble of signed numbers belong together.
use Rattle.std.proofs.Common.{◌≡◌, ℕ, suc, ◌+◌, ◌-◌, ◌^◌, ◌<◌, ◌≤◌, ◌⊎◌, ◌↔◌, inl, inr, ℤ, pos, ◌+ℤ◌, ◌*ℤ◌, List, [], ◌∷◌, ◌++◌, length, Result, Ok, Err, Bool, true, false, refl, sym, ap, subst, ◌∙◌, cond, arith}
use Rattle.std.specs.Prelude.{nat_lt, nat_le, IfOk}
use Rattle.std.proofs.lemmas.Bool.{ltb-true, ltb-false, leb-true, leb-false, lt-ltb, le-ltb, le-leb, lt-leb, cases_lt}
use Rattle.owi_base.specs.declared.leb.LebBad.{LebBad}
use Rattle.owi_base.specs.declared.leb.LebBad.TheVariants.{Cut, Long, Range}
use Rattle.owi_base.specs.Leb.{SpellsSigned, SignedTrouble, RepeatsSign, last_value}
use Rattle.owi_base.specs.LebReading.{read_signed, with_low_signed, placed}
use Rattle.owi_base.proofs.Results.{ok_not_err, err_not_ok, err_same}
use Rattle.owi_base.proofs.LebReadings.{Front, front_one, front_more, front_at, told_at}
use Rattle.owi_base.proofs.Choices.{chosen, taken, passed}

abbrev Read : Type 0
Read = Result (ℤ × ℕ) LebBad

abbrev ok : ℤ × ℕ → Read
ok x = Ok x

abbrev err : LebBad → Read
err bad = Err bad

abbrev half : ℕ → ℕ
half width = 2 ^ (width - 1)

-- ---- the ways to go on from a byte

abbrev on : (width b : ℕ) (bytes : List ℕ) → Read
on width b bytes = cond (nat_lt b 128) (Ok (last_value b, 1)) (with_low_signed (b - 128) (read_signed (width - 7) bytes))

abbrev above : (width b : ℕ) → Read
above width b = cond (nat_le 128 (b + half width)) (Ok (last_value b, 1)) (Err Range)

abbrev within : (width b : ℕ) → Read
within width b = cond (nat_lt b (half width)) (Ok (last_value b, 1)) (above width b)

abbrev last : (width b : ℕ) → Read
last width b = cond (nat_lt b 128) (within width b) (Err Long)

-- what a low part was put before
part_ok : (low : ℕ) (r : Read) (x : ℤ × ℕ) → with_low_signed low r ≡ Ok x → (y : ℤ × ℕ) × (r ≡ Ok y) × (x.0 ≡ (pos low +ℤ (pos 128 *ℤ y.0))) × (x.1 ≡ 1 + y.1)
part_ok low (Ok y) x e = let same : x ≡ (pos low +ℤ (pos 128 *ℤ y.0), 1 + y.1) = cc in (y, refl, ap (λ (p : ℤ × ℕ). p.0) same, ap (λ (p : ℤ × ℕ). p.1) same)
part_ok low (Err bad) x e = absurd cc

part_err : (low : ℕ) (r : Read) (bad : LebBad) → with_low_signed low r ≡ Err bad → r ≡ Err bad
part_err low (Ok y) bad e = absurd cc
part_err low (Err other) bad e = cc

-- ---- what is read is spelled so

abbrev pub Takes : (width : ℕ) (bytes : List ℕ) (z : ℤ) (k : ℕ) → Type 0
Takes width bytes z k = Front (λ text z. SpellsSigned width text z) bytes z k

-- a byte that goes on stands before a spelling
pub signed_more : (width b : ℕ) (high : ℤ) (text : List ℕ) → 7 < width → 128 ≤ b → SpellsSigned (width - 7) text high → SpellsSigned width (b ∷ text) (pos (b - 128) +ℤ (pos 128 *ℤ high))
signed_more width b high [] wide le spelled = absurd spelled
signed_more width b high (c ∷ text) wide le spelled = (wide, le, high, refl, spelled)

takes_one : (width b : ℕ) (bytes : List ℕ) (x : ℤ × ℕ) → b < 128 → (7 < width) ⊎ RepeatsSign width b → ok (last_value b, 1) ≡ ok x → Takes width (b ∷ bytes) x.0 x.1
takes_one width b bytes x lt sign e = front_one (λ text z. SpellsSigned width text z) b bytes (last_value b) x (lt, sign, refl) e

takes_more : (width b : ℕ) (bytes : List ℕ) (x y : ℤ × ℕ) → 7 < width → 128 ≤ b → Takes (width - 7) bytes y.0 y.1 → x.0 ≡ (pos (b - 128) +ℤ (pos 128 *ℤ y.0)) → x.1 ≡ 1 + y.1 → Takes width (b ∷ bytes) x.0 x.1
takes_more width b bytes x y wide le others number count =
    front_more (λ text z. SpellsSigned width text z) (λ text z. SpellsSigned (width - 7) text z) b bytes x y (pos (b - 128) +ℤ (pos 128 *ℤ y.0)) (λ text s. signed_more width b y.0 text wide le s) others number count

pub takes : (width : ℕ) (bytes : List ℕ) (x : ℤ × ℕ) → read_signed width bytes ≡ Ok x → Takes width bytes x.0 x.1
takes width [] x e = absurd cc
takes width (b ∷ bytes) x e =
    elim (chosen (nat_lt 7 width) (on width b bytes) (last width b) (Ok x) e) [
      | inl wide ↦ elim (chosen (nat_lt b 128) (Ok (last_value b, 1)) (with_low_signed (b - 128) (read_signed (width - 7) bytes)) (Ok x) wide.1) [
        | inl lt ↦ takes_one width b bytes x (ltb-true b 128 lt.0) (inl (ltb-true 7 width wide.0)) lt.1
        | inr ge ↦
            let low = part_ok (b - 128) (read_signed (width - 7) bytes) x ge.1 in
            let others = takes (width - 7) bytes low.0 low.1 in
            takes_more width b bytes x low.0 (ltb-true 7 width wide.0) (ltb-false b 128 ge.0) others low.2 low.3
      ]
      | inr narrow ↦ elim (chosen (nat_lt b 128) (within width b) (Err Long) (Ok x) narrow.1) [
        | inl lt ↦ elim (chosen (nat_lt b (half width)) (Ok (last_value b, 1)) (above width b) (Ok x) lt.1) [
          | inl small ↦ takes_one width b bytes x (ltb-true b 128 lt.0) (inr (inl (ltb-true b (half width) small.0))) small.1
          | inr big ↦ elim (chosen (nat_le 128 (b + half width)) (Ok (last_value b, 1)) (Err Range) (Ok x) big.1) [
            | inl high ↦ takes_one width b bytes x (ltb-true b 128 lt.0) (inr (inr (leb-true 128 (b + half width) high.0))) high.1
            | inr low ↦ absurd (err_not_ok x Range low.1)
          ]
        ]
        | inr ge ↦ absurd (err_not_ok x Long ge.1)
      ]
    ]

-- ---- what is spelled so is read

narrow_byte : (width b : ℕ) → RepeatsSign width b → within width b ≡ ok (last_value b, 1)
narrow_byte width b sign =
    elim (cases_lt b (half width)) [
      | inl small ↦ taken (nat_lt b (half width)) (Ok (last_value b, 1)) (above width b) (lt-ltb b (half width) small)
      | inr big ↦
          let high : 128 ≤ b + half width = elim sign [ inl small ↦ absurd (omega arith) | inr high ↦ high ] in
          passed (nat_lt b (half width)) (Ok (last_value b, 1)) (above width b) (le-ltb b (half width) big)
          ∙ taken (nat_le 128 (b + half width)) (Ok (last_value b, 1)) (Err Range) (le-leb 128 (b + half width) high)
    ]

last_byte : (width b : ℕ) (rest : List ℕ) → b < 128 → (7 < width) ⊎ RepeatsSign width b → read_signed width (b ∷ rest) ≡ ok (last_value b, 1)
last_byte width b rest lt sign =
    elim (cases_lt 7 width) [
      | inl wide ↦
          taken (nat_lt 7 width) (on width b rest) (last width b) (lt-ltb 7 width wide)
          ∙ taken (nat_lt b 128) (Ok (last_value b, 1)) (with_low_signed (b - 128) (read_signed (width - 7) rest)) (lt-ltb b 128 lt)
      | inr narrow ↦
          let repeats : RepeatsSign width b = elim sign [ inl wide ↦ absurd (omega arith) | inr repeats ↦ repeats ] in
          passed (nat_lt 7 width) (on width b rest) (last width b) (le-ltb 7 width narrow)
          ∙ taken (nat_lt b 128) (within width b) (Err Long) (lt-ltb b 128 lt)
          ∙ narrow_byte width b repeats
    ]

one_byte : (width b : ℕ) (z : ℤ) (rest : List ℕ) → b < 128 → (7 < width) ⊎ RepeatsSign width b → z ≡ last_value b → read_signed width (b ∷ rest) ≡ Ok (z, 1)
one_byte width b z rest lt sign is = last_byte width b rest lt sign ∙ ap (λ y. ok (y, 1)) (sym is)

more_bytes : (width b : ℕ) (bytes : List ℕ) (x : ℤ × ℕ) → 7 < width → 128 ≤ b → read_signed (width - 7) bytes ≡ Ok x → read_signed width (b ∷ bytes) ≡ Ok (pos (b - 128) +ℤ (pos 128 *ℤ x.0), 1 + x.1)
more_bytes width b bytes x wide le read = rw (lt-ltb 7 width wide, le-ltb b 128 le, read) refl

pub again : (width : ℕ) (text rest : List ℕ) (z : ℤ) → SpellsSigned width text z → read_signed width (text ++ rest) ≡ Ok (z, length text)
again width [] rest z spelled = absurd spelled
again width (b ∷ []) rest z spelled = one_byte width b z rest spelled.0 spelled.1 spelled.2
again width (b ∷ c ∷ text) rest z spelled =
    let high = spelled.2 in
    let others = again (width - 7) (c ∷ text) rest high spelled.4 in
    let one_more : 1 + length (c ∷ text) ≡ suc (length (c ∷ text)) = omega arith in
    more_bytes width b (c ∷ text ++ rest) (high, length (c ∷ text)) spelled.0 spelled.1 others
    ∙ ap (λ y. ok (y, 1 + length (c ∷ text))) (sym spelled.3) ∙ ap (λ k. ok (z, k)) one_more

-- ---- trouble

pub troubles : (width : ℕ) (bytes : List ℕ) (bad : LebBad) → (read_signed width bytes ≡ Err bad) ↔ SignedTrouble width bytes bad
troubles width [] bad = (λ e. let same : bad ≡ Cut = cc in same, λ e. ap (λ (d : LebBad). err d) (sym e))
troubles width (b ∷ bytes) bad = (
  λ e. elim (chosen (nat_lt 7 width) (on width b bytes) (last width b) (Err bad) e) [
    | inl wide ↦ elim (chosen (nat_lt b 128) (Ok (last_value b, 1)) (with_low_signed (b - 128) (read_signed (width - 7) bytes)) (Err bad) wide.1) [
      | inl lt ↦ absurd (ok_not_err (last_value b, 1) bad lt.1)
      | inr ge ↦ inl (ltb-true 7 width wide.0, ltb-false b 128 ge.0, (troubles (width - 7) bytes bad).0 (part_err (b - 128) (read_signed (width - 7) bytes) bad ge.1))
    ]
    | inr narrow ↦ elim (chosen (nat_lt b 128) (within width b) (Err Long) (Err bad) narrow.1) [
      | inl lt ↦ elim (chosen (nat_lt b (half width)) (Ok (last_value b, 1)) (above width b) (Err bad) lt.1) [
        | inl small ↦ absurd (ok_not_err (last_value b, 1) bad small.1)
        | inr big ↦ elim (chosen (nat_le 128 (b + half width)) (Ok (last_value b, 1)) (Err Range) (Err bad) big.1) [
          | inl high ↦ absurd (ok_not_err (last_value b, 1) bad high.1)
          | inr low ↦ inr (inr (ltb-false 7 width narrow.0, ltb-true b 128 lt.0, ltb-false b (half width) big.0, leb-false 128 (b + half width) low.0, sym (err_same Range bad low.1)))
        ]
      ]
      | inr ge ↦ inr (inl (ltb-false 7 width narrow.0, ltb-false b 128 ge.0, sym (err_same Long bad ge.1)))
    ]
  ],
  λ t. elim t [
    | inl on ↦ rw (lt-ltb 7 width on.0, le-ltb b 128 on.1, (troubles (width - 7) bytes bad).1 on.2) refl
    | inr end ↦ elim end [
      | inl long ↦ rw (le-ltb 7 width long.0, le-ltb b 128 long.1, long.2) refl
      | inr range ↦ rw (le-ltb 7 width range.0, lt-ltb b 128 range.1, le-ltb b (half width) range.2, lt-leb 128 (b + half width) range.3, range.4) refl
    ]
  ],
)

-- ---- the same of bytes that begin at a place

pub spelled_at : (width at : ℕ) (bytes : List ℕ) (r : Read) → r ≡ placed at (read_signed width bytes) → IfOk r (λ x. ((text rest : List ℕ) × (bytes ≡ text ++ rest) × (x.1 ≡ at + length text) × SpellsSigned width text x.0))
spelled_at width at bytes r e = front_at (λ text z. SpellsSigned width text z) at bytes (read_signed width bytes) r (takes width bytes) e

pub only_at : (width at : ℕ) (bytes : List ℕ) (r : Read) → r ≡ placed at (read_signed width bytes) → (text rest : List ℕ) (z : ℤ) → bytes ≡ text ++ rest → SpellsSigned width text z → r ≡ Ok (z, at + length text)
only_at width at bytes r e text rest z parts spelled =
    e ∙ ap (λ (l : List ℕ). placed at (read_signed width l)) parts ∙ ap (placed at) (again width text rest z spelled)

pub trouble_at : (width at : ℕ) (bytes : List ℕ) (r : Read) → r ≡ placed at (read_signed width bytes) → (bad : LebBad) → (r ≡ Err bad) ↔ SignedTrouble width bytes bad
trouble_at width at bytes r e = told_at (SignedTrouble width bytes) at (read_signed width bytes) r (troubles width bytes) e
