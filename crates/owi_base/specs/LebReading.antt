-- Reading numbers in LEB128 from the left, as functions. What they give is proved to be what is spelled (Leb).
use Rattle.std.specs.Prelude.{ℕ, ◌+◌, ◌-◌, ◌*◌, ◌^◌, ℤ, pos, ◌+ℤ◌, ◌*ℤ◌, List, [], ◌∷◌, Result, Ok, Err, nat_lt, nat_le, if◌then◌else◌}
use Rattle.owi_base.specs.declared.leb.LebBad.{LebBad}
use Rattle.owi_base.specs.declared.leb.LebBad.TheVariants.{Cut, Long, Range}
use Rattle.owi_base.specs.Leb.{last_value}

-- where the bytes begin at a place: the number and the place after it
abbrev pub placed : {A : Type 0} → ℕ → Result (A × ℕ) LebBad → Result (A × ℕ) LebBad
placed at (Ok x) = Ok (x.0, at + x.1)
placed at (Err bad) = Err bad

-- a low part, and then the number and the count of bytes that were read
abbrev pub with_low : ℕ → Result (ℕ × ℕ) LebBad → Result (ℕ × ℕ) LebBad
with_low low (Ok x) = Ok (low + 128 * x.0, 1 + x.1)
with_low low (Err bad) = Err bad

abbrev pub with_low_signed : ℕ → Result (ℤ × ℕ) LebBad → Result (ℤ × ℕ) LebBad
with_low_signed low (Ok x) = Ok (pos low +ℤ (pos 128 *ℤ x.0), 1 + x.1)
with_low_signed low (Err bad) = Err bad

-- the number below 2 ^ width at the front and how many bytes it takes, or the first trouble
abbrev pub read_unsigned : ℕ → List ℕ → Result (ℕ × ℕ) LebBad
read_unsigned width [] = Err Cut
read_unsigned width (b ∷ bytes) =
    if nat_lt 7 width
    then (if nat_lt b 128 then Ok (b, 1) else with_low (b - 128) (read_unsigned (width - 7) bytes))
    else (if nat_lt b 128 then (if nat_lt b (2 ^ width) then Ok (b, 1) else Err Range) else Err Long)

-- the number of width bits at the front and how many bytes it takes, or the first trouble
abbrev pub read_signed : ℕ → List ℕ → Result (ℤ × ℕ) LebBad
read_signed width [] = Err Cut
read_signed width (b ∷ bytes) =
    if nat_lt 7 width
    then (if nat_lt b 128 then Ok (last_value b, 1) else with_low_signed (b - 128) (read_signed (width - 7) bytes))
    else
    (if nat_lt b 128
    then
    (if nat_lt b (2 ^ (width - 1))
    then Ok (last_value b, 1)
    else (if nat_le 128 (b + 2 ^ (width - 1)) then Ok (last_value b, 1) else Err Range))
    else Err Long)
