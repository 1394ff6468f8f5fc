-- Numbers in LEB128 (Binary Format, Values: Integers).
--
-- A number of `width` bits is spelled by bytes, the lowest seven bits first. A byte from 128 on has seven bits and goes
-- on; a byte below 128 is the last. Spellings that are longer than need be are spellings too, but the number of bytes is
-- bounded by the width, and the bits of the last byte that the width leaves unused are zero, or repeat the sign.
use Rattle.std.specs.Prelude.{◌≡◌, ℕ, zero, suc, ◌+◌, ◌-◌, ◌*◌, ◌/◌, ◌%◌, ◌^◌, ◌<◌, ◌≤◌, ◌⊎◌, ℤ, pos, negsuc, ◌+ℤ◌, ◌-ℤ◌, ◌*ℤ◌, ◌<ℤ◌, ◌≤ℤ◌, List, [], ◌∷◌, nat_lt, if◌then◌else◌}
use Rattle.owi_base.specs.declared.leb.LebBad.{LebBad}
use Rattle.owi_base.specs.declared.leb.LebBad.TheVariants.{Cut, Long, Range}

-- ---- unsigned numbers

-- The bytes spell the number n below 2 ^ width: one byte below 128; or a byte from 128 on with the low seven bits, and
-- then a spelling of the rest, of seven bits less.
abbrev pub SpellsUnsigned : ℕ → List ℕ → ℕ → Type 0
SpellsUnsigned width [] n = ⊥
SpellsUnsigned width (b ∷ []) n = (b < 128) × (b < 2 ^ width) × (n ≡ b)
SpellsUnsigned width (b ∷ c ∷ bytes) n =
    (7 < width) × (128 ≤ b) × (high : ℕ) × (n + 128 ≡ b + 128 * high) × SpellsUnsigned (width - 7) (c ∷ bytes) high

-- The first trouble of bytes that are to begin with a spelling of a number below 2 ^ width: they end inside it, the last
-- byte that is permitted goes on, or the unused bits of that byte aren't zero.
abbrev pub UnsignedTrouble : ℕ → List ℕ → LebBad → Type 0
UnsignedTrouble width [] bad = bad ≡ Cut
UnsignedTrouble width (b ∷ bytes) bad =
    ((7 < width) × (128 ≤ b) × UnsignedTrouble (width - 7) bytes bad)
    ⊎ ((width ≤ 7) × (128 ≤ b) × (bad ≡ Long))
    ⊎ ((width ≤ 7) × (b < 128) × (2 ^ width ≤ b) × (bad ≡ Range))

-- The digits of n to the base 128, the lowest first, each but the last with 128 added; at most `more` after the first.
unfoldable pub unsigned_digits : ℕ → ℕ → List ℕ
unsigned_digits zero n = n ∷ []
unsigned_digits (suc more) n =
    if nat_lt n 128 then n ∷ [] else (n % 128 + 128) ∷ unsigned_digits more (n / 128)

-- the shortest spelling of a number below 2 ^ 64: at most ten bytes
unfoldable pub unsigned_bytes : ℕ → List ℕ
unsigned_bytes n = unsigned_digits 9 n

-- ---- signed numbers

-- a number of this many bits
abbrev pub HasBits : ℕ → ℤ → Type 0
HasBits width z = ((pos 0 -ℤ pos (2 ^ (width - 1))) ≤ℤ z) × (z <ℤ pos (2 ^ (width - 1)))

-- a last byte below 64 is itself, and one from 64 on is negative
abbrev pub last_value : ℕ → ℤ
last_value b = if nat_lt b 64 then pos b else (pos b -ℤ pos 128)

-- the bits of a last byte from the sign on are alike: all zero, or all one
abbrev pub RepeatsSign : ℕ → ℕ → Type 0
RepeatsSign width b = (b < 2 ^ (width - 1)) ⊎ (128 ≤ b + 2 ^ (width - 1))

-- The bytes spell the number z of width bits: one byte below 128; or a byte from 128 on with the low seven bits, and then
-- a spelling of the rest, of seven bits less.
abbrev pub SpellsSigned : ℕ → List ℕ → ℤ → Type 0
SpellsSigned width [] z = ⊥
SpellsSigned width (b ∷ []) z = (b < 128) × ((7 < width) ⊎ RepeatsSign width b) × (z ≡ last_value b)
SpellsSigned width (b ∷ c ∷ bytes) z =
    (7 < width) × (128 ≤ b) × (high : ℤ) × (z ≡ (pos (b - 128) +ℤ (pos 128 *ℤ high)))
    × SpellsSigned (width - 7) (c ∷ bytes) high

-- The first trouble of bytes that are to begin with a spelling of a number of width bits: they end inside it, the last
-- byte that is permitted goes on, or its unused bits don't repeat the sign.
abbrev pub SignedTrouble : ℕ → List ℕ → LebBad → Type 0
SignedTrouble width [] bad = bad ≡ Cut
SignedTrouble width (b ∷ bytes) bad =
    ((7 < width) × (128 ≤ b) × SignedTrouble (width - 7) bytes bad)
    ⊎ ((width ≤ 7) × (128 ≤ b) × (bad ≡ Long))
    ⊎ ((width ≤ 7) × (b < 128) × (2 ^ (width - 1) ≤ b) × (b + 2 ^ (width - 1) < 128) × (bad ≡ Range))

-- the low seven bits, and what is left of the number without them, in two's complement
abbrev pub low_bits : ℤ → ℕ
low_bits (pos n) = n % 128
low_bits (negsuc n) = 127 - n % 128

abbrev pub high_part : ℤ → ℤ
high_part (pos n) = pos (n / 128)
high_part (negsuc n) = negsuc (n / 128)

-- how far a number is from 0 or from -1
abbrev pub distance : ℤ → ℕ
distance (pos n) = n
distance (negsuc n) = n

-- The digits of z to the base 128 in two's complement, the lowest first, each but the last with 128 added; at most `more`
-- after the first. The last has the sign in its highest bit.
unfoldable pub signed_digits : ℕ → ℤ → List ℕ
signed_digits zero z = low_bits z ∷ []
signed_digits (suc more) z =
    if nat_lt (distance z) 64 then low_bits z ∷ [] else (low_bits z + 128) ∷ signed_digits more (high_part z)

-- the shortest spelling of a number of 64 bits: at most ten bytes
unfoldable pub signed_bytes : ℤ → List ℕ
signed_bytes z = signed_digits 9 z
