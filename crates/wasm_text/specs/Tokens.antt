-- Tokens, separators and comments as the standard has them (Text Format, Lexical Format).
use Rattle.std.specs.Prelude.{◌≡◌, ◌≢◌, ℕ, ◌+◌, ◌<◌, Bool, true, false, List, [], ◌∷◌, ◌++◌, length, drop, flat_map, slice_index}
use Rattle.wasm_text.specs.declared.tokens.Token.{Token}
use Rattle.wasm_text.specs.declared.tokens.TokenKind.{TokenKind}
use Rattle.wasm_text.specs.declared.tokens.TokenKind.TheVariants.{Open, Close, Str, Word}
use Rattle.wasm_text.specs.Characters.{is_space, is_word_char, is_in_line}
use Rattle.wasm_text.specs.Comments.{Inside, inside_text, IsInside}
use Rattle.wasm_text.specs.Strings.{Piece, piece_text, ArePieces}

-- each character passes a test
abbrev pub AllPass : (ℕ → Bool) → List ℕ → Type 0
AllPass test [] = Unit {0}
AllPass test (c ∷ rest) = (test c ≡ true) × AllPass test rest

-- ---- separators and comments

-- a separator; a line comment, with what follows its `;;`; a block comment, with what follows its opening
pub data Gap : Type 0 where
  Space : ℕ → Gap
  Line : List ℕ → Gap
  Block : Inside → Gap

abbrev pub gap_text : Gap → List ℕ
gap_text (Space c) = c ∷ []
gap_text (Line chars) = 0x3B ∷ 0x3B ∷ chars
gap_text (Block inside) = 0x28 ∷ 0x3B ∷ inside_text inside

-- a line comment goes up to a line feed or to the end of the source
abbrev pub EndsLine : List ℕ → Type 0
EndsLine [] = Unit {0}
EndsLine (c ∷ rest) = is_in_line c ≡ false

-- it is one, where this text follows it
abbrev pub IsGap : Gap → List ℕ → Type 0
IsGap (Space c) after = is_space c ≡ true
IsGap (Line chars) after = AllPass is_in_line chars × EndsLine after
IsGap (Block inside) after = IsInside inside

abbrev pub AreGaps : List Gap → List ℕ → Type 0
AreGaps [] after = Unit {0}
AreGaps (gap ∷ gaps) after = IsGap gap (flat_map gap_text gaps ++ after) × AreGaps gaps after

-- ---- tokens

-- the text of a string: its pieces between quotes
pub record IsString (text : List ℕ) : Type 0 where
  pub pieces : List Piece
  pub good : ArePieces pieces
  pub is : text ≡ 0x22 ∷ flat_map piece_text pieces ++ 0x22 ∷ []

-- the text of a word, where this text follows it: a longest run of word characters
pub record IsWord (text after : List ℕ) : Type 0 where
  pub some : 0 < length text
  pub all : AllPass is_word_char text
  pub longest : is_word_char (slice_index after 0) ≡ false

-- a text is that of a token, where this text follows it; a parenthesis before a semicolon opens a comment
abbrev pub IsToken : TokenKind → List ℕ → List ℕ → Type 0
IsToken Open text after = (text ≡ 0x28 ∷ []) × (slice_index after 0 ≢ 0x3B)
IsToken Close text after = text ≡ 0x29 ∷ []
IsToken Str text after = IsString text
IsToken Word text after = IsWord text after

-- from a place on, separators and comments come first, and then this token
pub record IsNext (source : List ℕ) (at : ℕ) (t : Token) : Type 0 where
  pub gaps : List Gap
  pub text : List ℕ
  pub after : List ℕ
  pub gaps_good : AreGaps gaps (text ++ after)
  pub token : IsToken t.kind text after
  pub is : drop at source ≡ flat_map gap_text gaps ++ (text ++ after)
  pub start : t.start ≡ at + length (flat_map gap_text gaps)
  pub end : t.end ≡ t.start + length text

-- from a place on there are only separators and comments
pub record IsEnd (source : List ℕ) (at : ℕ) : Type 0 where
  pub gaps : List Gap
  pub gaps_good : AreGaps gaps []
  pub is : drop at source ≡ flat_map gap_text gaps ++ []
