-- Integers as words (Text Format, Values: Integers).
--
-- A literal has a sign or none, decimal digits or 0x and hexadecimal ones, and single underscores between digits. Without a
-- sign it counts from 0 to 2 ^ bits - 1; with one, from -2 ^ (bits - 1) to 2 ^ (bits - 1) - 1. A number that counts things
-- has no sign.
use Rattle.std.specs.Prelude.{ℕ, ◌+◌, ◌*◌, ◌-◌, ◌^◌, Bool, true, false, ◌==◌, ◌&&◌, nat_le, if◌then◌else◌, List, [], ◌∷◌, drop, slice_index}
use Rattle.wasm_ast.specs.Opcodes.{is_from}
use Rattle.wasm_text.specs.Characters.{is_hex, hex_value}

-- what a word is as an integer: none, one that is out of its range, or this number, modulo 2 ^ bits
pub data Literal : Type 0 where
  NoNumber : Literal
  OutOfRange : Literal
  Number : ℕ → Literal

abbrev pub is_digit : Bool → ℕ → Bool
is_digit hex c = if hex then is_hex c else is_from 0x30 0x39 c

abbrev pub base : Bool → ℕ
base hex = if hex then 16 else 10

-- What digits count, from a number on that those before them count; whether a digit came last, after which alone an
-- underscore or the end may come.
abbrev pub digits_from : Bool → Bool → ℕ → List ℕ → Literal
digits_from hex digit n [] = if digit then Number n else NoNumber
digits_from hex digit n (c ∷ rest) =
    if is_digit hex c then digits_from hex true (base hex * n + hex_value c) rest
    else (if digit && c == 0x5F then digits_from hex false n rest else NoNumber)

-- a magnitude: 0x and hexadecimal digits, or decimal ones
abbrev pub magnitude : List ℕ → Literal
magnitude word =
    if slice_index word 0 == 0x30 && slice_index word 1 == 0x78 then digits_from true false 0 (drop 2 word) else digits_from false false 0 word

-- a number in a range, as another; the greatest is given
abbrev pub in_range : ℕ → (ℕ → ℕ) → Literal → Literal
in_range greatest told NoNumber = NoNumber
in_range greatest told OutOfRange = OutOfRange
in_range greatest told (Number n) = if nat_le n greatest then Number (told n) else OutOfRange

-- a number that counts things, below 2 ^ 32
abbrev pub count_of : List ℕ → Literal
count_of word = in_range (2 ^ 32 - 1) (λ n. n) (magnitude word)

-- an integer of so many bits
abbrev pub integer_of : ℕ → List ℕ → Literal
integer_of bits word =
    if slice_index word 0 == 0x2B then in_range (2 ^ (bits - 1) - 1) (λ n. n) (magnitude (drop 1 word))
    else (if slice_index word 0 == 0x2D then in_range (2 ^ (bits - 1)) (λ n. if n == 0 then 0 else 2 ^ bits - n) (magnitude (drop 1 word))
    else in_range (2 ^ bits - 1) (λ n. n) (magnitude word))
