-- Block comments as the standard has them (Text Format, Lexical Format: Comments).
use Rattle.std.specs.Prelude.{◌≡◌, ℕ, Bool, false, ◌==◌, ◌&&◌, ◌||◌, List, [], ◌∷◌, ◌++◌, slice_index}

-- What follows the opening of a block comment, up to its end: the end; a character and what follows it; or a further block
-- comment and what follows it.
pub data Inside : Type 0 where
  Closes : Inside
  Passes : ℕ → Inside → Inside
  Nests : Inside → Inside → Inside

abbrev pub inside_text : Inside → List ℕ
inside_text Closes = 0x3B ∷ 0x29 ∷ []
inside_text (Passes c rest) = c ∷ inside_text rest
inside_text (Nests inner rest) = 0x28 ∷ 0x3B ∷ inside_text inner ++ inside_text rest

-- two characters that open or close a block comment
abbrev pub is_mark : ℕ → ℕ → Bool
is_mark c d = (c == 0x28 && d == 0x3B) || (c == 0x3B && d == 0x29)

-- no character that stands for itself begins a mark
abbrev pub IsInside : Inside → Type 0
IsInside Closes = Unit {0}
IsInside (Passes c rest) = (is_mark c (slice_index (inside_text rest) 0) ≡ false) × IsInside rest
IsInside (Nests inner rest) = IsInside inner × IsInside rest

-- The text begins with the rest of a block comment, and then comes what is left.
pub record ClosesComment (text left : List ℕ) : Type 0 where
  pub inside : Inside
  pub good : IsInside inside
  pub is : text ≡ inside_text inside ++ left
