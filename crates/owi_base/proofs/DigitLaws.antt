-- Laws of the shortest spellings: their digits are a spelling, and none is shorter.
use Rattle.std.proofs.Common.{◌≡◌, ℕ, zero, suc, ◌+◌, ◌-◌, ◌*◌, ◌/◌, ◌%◌, ◌^◌, ◌<◌, ◌≤◌, inl, inr, ℤ, pos, negsuc, ◌+ℤ◌, ◌-ℤ◌, ◌*ℤ◌, List, [], ◌∷◌, length, refl, sym, ap, subst, ◌∙◌, All, arith}
use Rattle.std.specs.Prelude.{nat_lt}
use Rattle.std.proofs.Math.Nat.{pow-suc}
use Rattle.std.proofs.lemmas.Int.{ints}
use Rattle.std.proofs.lemmas.Bool.{lt-ltb, le-ltb, cases_lt}
use Rattle.std.proofs.Math.Pow.{pow_mono}
use Rattle.owi_base.specs.Leb.{SpellsUnsigned, unsigned_digits, unsigned_bytes, HasBits, SpellsSigned, RepeatsSign, last_value, low_bits, high_part, distance, signed_digits, signed_bytes}
use Rattle.owi_base.proofs.SignedLaws.{half_more}
use Rattle.owi_base.proofs.SignedReading.{signed_more}
use Rattle.owi_base.proofs.UnsignedLaws.{seven_more, spelled_more}
use Rattle.owi_base.proofs.Choices.{taken, passed}

-- ---- one step

digits_one : (more n : ℕ) → n < 128 → unsigned_digits more n ≡ n ∷ []
unfolding unsigned_digits
digits_one zero n lt = refl
digits_one (suc more) n lt = rw (lt-ltb n 128 lt) refl

digits_more : (more n : ℕ) → 128 ≤ n → unsigned_digits (suc more) n ≡ (n % 128 + 128) ∷ unsigned_digits more (n / 128)
unfolding unsigned_digits
digits_more more n le = rw (le-ltb n 128 le) refl

digits_zero : (n : ℕ) → unsigned_digits 0 n ≡ n ∷ []
unfolding unsigned_digits
digits_zero n = refl

wide_of : (width n : ℕ) → 128 ≤ n → n < 2 ^ width → 7 < width
wide_of width n le small =
    elim (cases_lt 7 width) [
      | inl wide ↦ wide
      | inr narrow ↦ let most : 2 ^ width ≤ 2 ^ 7 = pow_mono {i = width} {j = 7} narrow in absurd (omega (arith, most))
    ]

-- where the digits are enough, one more changes nothing
enough : (more n : ℕ) → n < 128 ^ suc more → unsigned_digits (suc more) n ≡ unsigned_digits more n
enough zero n lt = let small : n < 128 = omega arith in digits_one 1 n small ∙ sym (digits_one 0 n small)
enough (suc more) n lt =
    elim (cases_lt n 128) [
      | inl small ↦ digits_one (suc (suc more)) n small ∙ sym (digits_one (suc more) n small)
      | inr big ↦
          let less : n / 128 < 128 ^ suc more = omega (arith, pow-suc 128 (suc more)) in
          digits_more (suc more) n big ∙ ap (λ (l : List ℕ). (n % 128 + 128) ∷ l) (enough more (n / 128) less) ∙ sym (digits_more more n big)
    ]

pub bytes_one : (n : ℕ) → n < 128 → unsigned_bytes n ≡ n ∷ []
unfolding unsigned_bytes
bytes_one n lt = digits_one 9 n lt

pub bytes_more : (n : ℕ) → n < 2 ^ 64 → 128 ≤ n → unsigned_bytes n ≡ (n % 128 + 128) ∷ unsigned_bytes (n / 128)
unfolding unsigned_bytes
bytes_more n lt le =
    let less : n / 128 < 128 ^ 9 = omega arith in
    digits_more 8 n le ∙ ap (λ (l : List ℕ). (n % 128 + 128) ∷ l) (sym (enough 8 (n / 128) less))

-- ---- they are a spelling

spells : (more width n : ℕ) → n < 128 ^ suc more → n < 2 ^ width → SpellsUnsigned width (unsigned_digits more n) n
spells zero width n lt small = let one : n < 128 = omega arith in rw (digits_one 0 n one) (one, small, refl)
spells (suc more) width n lt small =
    elim (cases_lt n 128) [
      | inl one ↦ rw (digits_one (suc more) n one) (one, small, refl)
      | inr big ↦
          let wide = wide_of width n big small in
          let less : n / 128 < 128 ^ suc more = omega (arith, pow-suc 128 (suc more)) in
          let high : n / 128 < 2 ^ (width - 7) = omega (arith, seven_more width wide) in
          let whole : n % 128 + 128 - 128 + 128 * (n / 128) ≡ n = omega arith in
          let all = spelled_more width (n % 128 + 128) (n / 128) (unsigned_digits more (n / 128)) wide (omega arith) (spells more (width - 7) (n / 128) less high) in
          let P : ℕ → Type 0 = λ m. SpellsUnsigned width ((n % 128 + 128) ∷ unsigned_digits more (n / 128)) m in
          rw (digits_more more n big) (subst P whole all)
    ]

pub unsigned_spells : (n width : ℕ) → n < 2 ^ 64 → n < 2 ^ width → SpellsUnsigned width (unsigned_bytes n) n
unfolding unsigned_bytes
unsigned_spells n width lt small = spells 9 width n (omega arith) small

-- ---- none is shorter

shortest : (more width : ℕ) (text : List ℕ) (n : ℕ) → All (λ b. b < 256) text → SpellsUnsigned width text n → length (unsigned_digits more n) ≤ length text
shortest more width [] n bytes s = absurd s
shortest more width (b ∷ []) n bytes s = let lt : n < 128 = omega (arith, s.0, s.2) in rw (digits_one more n lt) (omega arith)
shortest zero width (b ∷ c ∷ text) n bytes s = let one : length (unsigned_digits 0 n) ≡ 1 = ap length (digits_zero n) in omega (arith, one)
shortest (suc more) width (b ∷ c ∷ text) n bytes s =
    elim (cases_lt n 128) [
      | inl one ↦ let short : length (unsigned_digits (suc more) n) ≡ 1 = ap length (digits_one (suc more) n one) in omega (arith, short)
      | inr big ↦
          let byte : b < 256 = bytes 0 b (omega arith) in
          let high : n / 128 ≡ s.2 = omega (arith, s.1, s.3) in
          let less = shortest more (width - 7) (c ∷ text) s.2 (λ k other lt. bytes (suc k) other (omega arith)) s.4 in
          rw (digits_more more n big, high) (omega (arith, less))
    ]

pub unsigned_shortest : (n width : ℕ) (text : List ℕ) → All (λ b. b < 256) text → SpellsUnsigned width text n → length (unsigned_bytes n) ≤ length text
unfolding unsigned_bytes
unsigned_shortest n width text bytes s = shortest 9 width text n bytes s

-- ---- signed numbers: one step

signed_one : (more : ℕ) (z : ℤ) → distance z < 64 → signed_digits more z ≡ low_bits z ∷ []
unfolding signed_digits
signed_one zero z lt = refl
signed_one (suc more) z lt = rw (lt-ltb (distance z) 64 lt) refl

signed_zero : (z : ℤ) → signed_digits 0 z ≡ low_bits z ∷ []
unfolding signed_digits
signed_zero z = refl

signed_on : (more : ℕ) (z : ℤ) → 64 ≤ distance z → signed_digits (suc more) z ≡ (low_bits z + 128) ∷ signed_digits more (high_part z)
unfolding signed_digits
signed_on more z le = rw (le-ltb (distance z) 64 le) refl

distance-high : (z : ℤ) → distance (high_part z) ≡ distance z / 128
distance-high (pos n) = refl
distance-high (negsuc n) = refl

signed_enough : (more : ℕ) (z : ℤ) → distance z < 64 * 128 ^ more → signed_digits (suc more) z ≡ signed_digits more z
signed_enough zero z lt = let small : distance z < 64 = omega arith in signed_one 1 z small ∙ sym (signed_one 0 z small)
signed_enough (suc more) z lt =
    elim (cases_lt (distance z) 64) [
      | inl small ↦ signed_one (suc (suc more)) z small ∙ sym (signed_one (suc more) z small)
      | inr big ↦
          let less : distance (high_part z) < 64 * 128 ^ more = omega (arith, pow-suc 128 more, distance-high z) in
          signed_on (suc more) z big ∙ ap (λ (l : List ℕ). (low_bits z + 128) ∷ l) (signed_enough more (high_part z) less) ∙ sym (signed_on more z big)
    ]

pub signed_bytes_one : (z : ℤ) → distance z < 64 → signed_bytes z ≡ low_bits z ∷ []
unfolding signed_bytes
signed_bytes_one z lt = signed_one 9 z lt

pub signed_bytes_more : (z : ℤ) → distance z < 2 ^ 63 → 64 ≤ distance z → signed_bytes z ≡ (low_bits z + 128) ∷ signed_bytes (high_part z)
unfolding signed_bytes
signed_bytes_more z lt le =
    let less : distance (high_part z) < 64 * 128 ^ 8 = omega (arith, distance-high z) in
    signed_on 8 z le ∙ ap (λ (l : List ℕ). (low_bits z + 128) ∷ l) (sym (signed_enough 8 (high_part z) less))

-- ---- signed numbers: they are a spelling

pub distance_below : (width : ℕ) (z : ℤ) → HasBits width z → distance z < 2 ^ (width - 1)
distance_below width (pos n) h = omega (arith, ints, h.0, h.1)
distance_below width (negsuc n) h = omega (arith, ints, h.0, h.1)

low_below : (z : ℤ) → low_bits z < 128
low_below (pos n) = omega arith
low_below (negsuc n) = omega arith

whole : (z : ℤ) → (pos (low_bits z) +ℤ (pos 128 *ℤ high_part z)) ≡ z
whole (pos n) = omega (arith, ints)
whole (negsuc n) = omega (arith, ints)

negative : (b n : ℕ) → b + n ≡ 127 → negsuc n ≡ (pos b -ℤ pos 128)
negative b n e = omega (arith, ints)

one_value : (z : ℤ) → distance z < 64 → z ≡ last_value (low_bits z)
one_value (pos n) lt = let same : n % 128 ≡ n = omega arith in rw (same, lt-ltb n 64 lt) refl
one_value (negsuc n) lt =
    let b = 127 - n % 128 in
    negative b n (omega arith) ∙ sym (passed (nat_lt b 64) (pos b) (pos b -ℤ pos 128) (le-ltb b 64 (omega arith)))

one_repeats : (width : ℕ) (z : ℤ) → distance z < 64 → distance z < 2 ^ (width - 1) → RepeatsSign width (low_bits z)
one_repeats width (pos n) lt small = inl (omega arith)
one_repeats width (negsuc n) lt small = inr (omega arith)

signed_wide : (width : ℕ) (z : ℤ) → 64 ≤ distance z → distance z < 2 ^ (width - 1) → 7 < width
signed_wide width z le small =
    elim (cases_lt 7 width) [
      | inl wide ↦ wide
      | inr narrow ↦ let most : 2 ^ (width - 1) ≤ 2 ^ 6 = pow_mono {i = width - 1} {j = 6} (omega arith) in absurd (omega (arith, most))
    ]

spells_one : (more width : ℕ) (z : ℤ) → distance z < 64 → distance z < 2 ^ (width - 1) → SpellsSigned width (signed_digits more z) z
spells_one more width z lt small = rw (signed_one more z lt) (low_below z, inr (one_repeats width z lt small), one_value z lt)

signed_spell : (more width : ℕ) (z : ℤ) → distance z < 64 * 128 ^ more → distance z < 2 ^ (width - 1) → SpellsSigned width (signed_digits more z) z
signed_spell zero width z lt small = spells_one 0 width z (omega arith) small
signed_spell (suc more) width z lt small =
    elim (cases_lt (distance z) 64) [
      | inl one ↦ spells_one (suc more) width z one small
      | inr big ↦
          let wide = signed_wide width z big small in
          let less : distance (high_part z) < 64 * 128 ^ more = omega (arith, pow-suc 128 more, distance-high z) in
          let high : distance (high_part z) < 2 ^ (width - 7 - 1) = omega (arith, half_more width wide, distance-high z) in
          let all = signed_more width (low_bits z + 128) (high_part z) (signed_digits more (high_part z)) wide (omega arith) (signed_spell more (width - 7) (high_part z) less high) in
          let P : ℤ → Type 0 = λ y. SpellsSigned width ((low_bits z + 128) ∷ signed_digits more (high_part z)) y in
          let low : low_bits z + 128 - 128 ≡ low_bits z = omega arith in
          rw (signed_on more z big) (subst P (ap (λ n. pos n +ℤ (pos 128 *ℤ high_part z)) low ∙ whole z) all)
    ]

pub signed_spells : (z : ℤ) (width : ℕ) → distance z < 2 ^ 63 → HasBits width z → SpellsSigned width (signed_bytes z) z
unfolding signed_bytes
signed_spells z width lt bits = signed_spell 9 width z (omega arith) (distance_below width z bits)

-- ---- signed numbers: none is shorter

near : (z : ℤ) (b : ℕ) → b < 64 → z ≡ pos b → distance z < 64
near (pos n) b lt e = omega (arith, ints, e)
near (negsuc n) b lt e = absurd (omega (arith, ints, e))

near_below : (z : ℤ) (b : ℕ) → b < 128 → 64 ≤ b → z ≡ (pos b -ℤ pos 128) → distance z < 64
near_below (pos n) b lt le e = absurd (omega (arith, ints, e))
near_below (negsuc n) b lt le e = omega (arith, ints, e)

last_near : (b : ℕ) (z : ℤ) → b < 128 → z ≡ last_value b → distance z < 64
last_near b z lt is =
    elim (cases_lt b 64) [
      | inl low ↦ near z b low (is ∙ taken (nat_lt b 64) (pos b) (pos b -ℤ pos 128) (lt-ltb b 64 low))
      | inr high ↦ near_below z b lt high (is ∙ passed (nat_lt b 64) (pos b) (pos b -ℤ pos 128) (le-ltb b 64 high))
    ]

high_is : (b : ℕ) (z high : ℤ) → 128 ≤ b → b < 256 → z ≡ (pos (b - 128) +ℤ (pos 128 *ℤ high)) → high ≡ high_part z
high_is b (pos n) (pos h) le lt e = let same : h ≡ n / 128 = omega (arith, ints, e) in ap (λ k. pos k) same
high_is b (pos n) (negsuc h) le lt e = absurd (omega (arith, ints, e))
high_is b (negsuc n) (pos h) le lt e = absurd (omega (arith, ints, e))
high_is b (negsuc n) (negsuc h) le lt e = let same : h ≡ n / 128 = omega (arith, ints, e) in ap (λ k. negsuc k) same

signed_short : (more width : ℕ) (text : List ℕ) (z : ℤ) → All (λ b. b < 256) text → SpellsSigned width text z → length (signed_digits more z) ≤ length text
signed_short more width [] z bytes s = absurd s
signed_short more width (b ∷ []) z bytes s = rw (signed_one more z (last_near b z s.0 s.2)) (omega arith)
signed_short zero width (b ∷ c ∷ text) z bytes s = let one : length (signed_digits 0 z) ≡ 1 = ap length (signed_zero z) in omega (arith, one)
signed_short (suc more) width (b ∷ c ∷ text) z bytes s =
    elim (cases_lt (distance z) 64) [
      | inl one ↦ let short : length (signed_digits (suc more) z) ≡ 1 = ap length (signed_one (suc more) z one) in omega (arith, short)
      | inr big ↦
          let byte : b < 256 = bytes 0 b (omega arith) in
          let high = high_is b z s.2 s.1 byte s.3 in
          let less = signed_short more (width - 7) (c ∷ text) s.2 (λ k other lt. bytes (suc k) other (omega arith)) s.4 in
          let fewer : length (signed_digits more (high_part z)) ≤ length (c ∷ text) = rw high at less in
          rw (signed_on more z big) (omega (arith, fewer))
    ]

pub signed_shortest : (z : ℤ) (width : ℕ) (text : List ℕ) → All (λ b. b < 256) text → SpellsSigned width text z → length (signed_bytes z) ≤ length text
unfolding signed_bytes
signed_shortest z width text bytes s = signed_short 9 width text z bytes s
