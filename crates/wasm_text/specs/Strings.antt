-- Strings as the standard has them (Text Format, Values: Strings).
use Rattle.std.specs.Prelude.{◌≡◌, ℕ, ◌+◌, ◌*◌, Bool, true, false, ◌==◌, if◌then◌else◌, List, [], ◌∷◌, ◌++◌, flat_map}
use Rattle.wasm_text.specs.Characters.{is_string_char, is_short_escape, is_hex, hex_value, is_scalar}

-- A piece of a string: a character that stands for itself; an escape of one character; of a byte, by two hexadecimal digits;
-- or of a character by its number, in hexadecimal digits: the first, and each further one with whether an underscore stands
-- before it.
pub data Piece : Type 0 where
  Itself : ℕ → Piece
  Short : ℕ → Piece
  Byte : ℕ → ℕ → Piece
  Number : ℕ → List (Bool × ℕ) → Piece

abbrev pub next_digit : Bool × ℕ → List ℕ
next_digit digit = if digit.0 then 0x5F ∷ digit.1 ∷ [] else digit.1 ∷ []

abbrev pub piece_text : Piece → List ℕ
piece_text (Itself c) = c ∷ []
piece_text (Short c) = 0x5C ∷ c ∷ []
piece_text (Byte high low) = 0x5C ∷ high ∷ low ∷ []
piece_text (Number first more) = 0x5C ∷ 0x75 ∷ 0x7B ∷ first ∷ flat_map next_digit more ++ 0x7D ∷ []

-- the number that the digits spell, where those before them spell one already
abbrev pub number_from : ℕ → List (Bool × ℕ) → ℕ
number_from n [] = n
number_from n (digit ∷ more) = number_from (16 * n + hex_value digit.1) more

abbrev pub AreHex : List (Bool × ℕ) → Type 0
AreHex [] = Unit {0}
AreHex (digit ∷ more) = (is_hex digit.1 ≡ true) × AreHex more

abbrev pub IsPiece : Piece → Type 0
IsPiece (Itself c) = (is_string_char c ≡ true) × ((c == 0x22) ≡ false) × ((c == 0x5C) ≡ false)
IsPiece (Short c) = is_short_escape c ≡ true
IsPiece (Byte high low) = (is_hex high ≡ true) × (is_hex low ≡ true)
IsPiece (Number first more) = (is_hex first ≡ true) × AreHex more × (is_scalar (number_from (hex_value first) more) ≡ true)

abbrev pub ArePieces : List Piece → Type 0
ArePieces [] = Unit {0}
ArePieces (piece ∷ pieces) = IsPiece piece × ArePieces pieces

-- The text begins with the pieces of a string and its closing quote, and then comes what is left.
pub record ClosesString (text left : List ℕ) : Type 0 where
  pub pieces : List Piece
  pub good : ArePieces pieces
  pub is : text ≡ flat_map piece_text pieces ++ 0x22 ∷ left
