-- The tokens of a text (Text Format, Lexical Format).
--
-- A function here says where a form ends that begins in a text at a place, or which trouble is met first. It takes the
-- place beside what follows from there.
use Rattle.std.specs.Prelude.{◌≡◌, ℕ, ◌+◌, ◌-◌, ◌*◌, Bool, true, false, List, [], ◌∷◌, drop, slice_index, Option, Some, None, Result, Ok, Err, nat_lt, ◌==◌, ◌&&◌, ◌||◌, if◌then◌else◌}
use Rattle.wasm_text.specs.declared.tokens.Token.{Token}
use Rattle.wasm_text.specs.declared.tokens.TokenKind.{TokenKind}
use Rattle.wasm_text.specs.declared.tokens.TokenKind.TheVariants.{Open, Close, Str, Word}
use Rattle.wasm_text.specs.declared.tokens.LexBad.{LexBad}
use Rattle.wasm_text.specs.declared.tokens.LexReason.{LexReason}
use Rattle.wasm_text.specs.declared.tokens.LexReason.TheVariants.{Char, OpenString, OpenComment, BadEscape}
use Rattle.wasm_text.specs.Characters.{is_space, is_word_char, is_in_line, is_string_char, is_short_escape, is_hex, hex_value, is_scalar}

abbrev pub trouble : {A : Type 0} → LexReason → ℕ → Result A LexBad
trouble reason at = Err (record { reason = reason; at = at })

-- the place after the longest run of characters that pass a test
abbrev pub run_end : (ℕ → Bool) → ℕ → List ℕ → ℕ
run_end test at [] = at
run_end test at (c ∷ rest) = if test c then run_end test (at + 1) rest else at

-- ---- separators and comments

-- The place after a block comment, in whose text so many further ones are open. Block comments nest.
abbrev pub comment_end : ℕ → ℕ → List ℕ → Option ℕ
comment_end inner at [] = None
comment_end inner at (c ∷ []) = None
comment_end inner at (c ∷ d ∷ rest) =
    if c == 0x28 && d == 0x3B then comment_end (inner + 1) (at + 2) rest
    else (if c == 0x3B && d == 0x29 then (if inner == 0 then Some (at + 2) else comment_end (inner - 1) (at + 2) rest)
    else comment_end inner (at + 1) (d ∷ rest))

-- where a comment ends that begins with these characters: a line comment before its line feed, or where the text ends
abbrev pub comment_at : ℕ → ℕ → List ℕ → Option (Option ℕ)
comment_at at c rest =
    if c == 0x3B && slice_index rest 0 == 0x3B then Some (Some (run_end is_in_line (at + 2) (drop 1 rest)))
    else (if c == 0x28 && slice_index rest 0 == 0x3B then Some (comment_end 0 (at + 2) (drop 1 rest))
    else None)

-- what follows where no comment begins, where one isn't closed, and where it ends at a place
abbrev pub past_comment : ℕ → Option (Option ℕ) → (ℕ → Result ℕ LexBad) → Result ℕ LexBad
past_comment at None next = Ok at
past_comment at (Some None) next = trouble OpenComment at
past_comment at (Some (Some end)) next = next end

-- The place after the separators and comments that come first. What stands before the place `from` is part of a comment.
-- A comment that isn't closed is in trouble at its opening, and of those that nest at the outermost.
abbrev pub gap_end : ℕ → ℕ → List ℕ → Result ℕ LexBad
gap_end from at [] = Ok at
gap_end from at (c ∷ rest) =
    if nat_lt at from || is_space c then gap_end from (at + 1) rest
    else past_comment at (comment_at at c rest) (λ next. gap_end next (at + 1) rest)

-- ---- strings

-- Of a string that begins at the place `quote`, the place after an escape whose backslash is at the place `slash`. Where the
-- text ends inside, the string isn't closed; where a character follows with which no escape goes on, the escape is bad.
abbrev pub hex_pair_end : ℕ → ℕ → List ℕ → Result ℕ LexBad
hex_pair_end quote slash [] = trouble OpenString quote
hex_pair_end quote slash (c ∷ rest) = if is_hex c then Ok (slash + 3) else trouble BadEscape slash

-- The same after `\u{`: the digits of a character's number, with single underscores between them, and `}`. So far they
-- give this number; and whether a digit was the last, after which alone an underscore or the end may come.
abbrev pub number_end : ℕ → ℕ → ℕ → ℕ → Bool → List ℕ → Result ℕ LexBad
number_end quote slash at number digit [] = trouble OpenString quote
number_end quote slash at number digit (c ∷ rest) =
    if is_hex c then number_end quote slash (at + 1) (16 * number + hex_value c) true rest
    else (if digit && c == 0x5F then number_end quote slash (at + 1) number false rest
    else (if digit && c == 0x7D && is_scalar number then Ok (at + 1)
    else trouble BadEscape slash))

-- the same after `\u`
abbrev pub braces_end : ℕ → ℕ → List ℕ → Result ℕ LexBad
braces_end quote slash [] = trouble OpenString quote
braces_end quote slash (c ∷ rest) =
    if c == 0x7B then number_end quote slash (slash + 3) 0 false rest else trouble BadEscape slash

-- the same after the backslash
abbrev pub escape_end : ℕ → ℕ → List ℕ → Result ℕ LexBad
escape_end quote slash [] = trouble OpenString quote
escape_end quote slash (c ∷ rest) =
    if is_short_escape c then Ok (slash + 2)
    else (if is_hex c then hex_pair_end quote slash rest
    else (if c == 0x75 then braces_end quote slash rest
    else trouble BadEscape slash))

-- what follows an escape that ends at a place
abbrev pub past_escape : Result ℕ LexBad → (ℕ → Result ℕ LexBad) → Result ℕ LexBad
past_escape (Ok end) next = next end
past_escape (Err bad) next = Err bad

-- The place after the string that begins at the place `quote`. What stands before the place `from` is part of an escape.
abbrev pub string_end : ℕ → ℕ → ℕ → List ℕ → Result ℕ LexBad
string_end quote from at [] = trouble OpenString quote
string_end quote from at (c ∷ rest) =
    if nat_lt at from then string_end quote from (at + 1) rest
    else (if c == 0x22 then Ok (at + 1)
    else (if c == 0x5C then past_escape (escape_end quote at rest) (λ next. string_end quote next (at + 1) rest)
    else (if is_string_char c then string_end quote from (at + 1) rest
    else trouble Char at)))

-- ---- tokens

abbrev pub token : TokenKind → ℕ → ℕ → Result (Option Token) LexBad
token kind start end = Ok (Some (record { kind = kind; start = start; end = end }))

abbrev pub string_token : ℕ → Result ℕ LexBad → Result (Option Token) LexBad
string_token start (Ok end) = token Str start end
string_token start (Err bad) = Err bad

-- what stands at a place where no separator and no comment does
abbrev pub token_at : ℕ → List ℕ → Result (Option Token) LexBad
token_at at [] = Ok None
token_at at (c ∷ rest) =
    if c == 0x28 then token Open at (at + 1)
    else (if c == 0x29 then token Close at (at + 1)
    else (if c == 0x22 then string_token at (string_end at 0 (at + 1) rest)
    else (if is_word_char c then token Word at (run_end is_word_char (at + 1) rest)
    else trouble Char at)))

abbrev pub past_gap : List ℕ → Result ℕ LexBad → Result (Option Token) LexBad
past_gap source (Ok at) = token_at at (drop at source)
past_gap source (Err bad) = Err bad

-- The next token from a place on; None where only separators and whole comments are left; or the first trouble.
abbrev pub next_token : List ℕ → ℕ → Result (Option Token) LexBad
next_token source at = past_gap source (gap_end 0 at (drop at source))

-- ---- all tokens

-- From a place on there are these tokens, and then nothing more, or this trouble.
abbrev pub TokensFrom : List ℕ → ℕ → List Token → Option LexBad → Type 0
TokensFrom source at [] None = next_token source at ≡ Ok None
TokensFrom source at [] (Some bad) = next_token source at ≡ Err bad
TokensFrom source at (t ∷ rest) bad = (next_token source at ≡ Ok (Some t)) × TokensFrom source t.end rest bad

-- the tokens of a text, up to its end or its first trouble
abbrev pub AreTokens : List ℕ → List Token → Option LexBad → Type 0
AreTokens source tokens bad = TokensFrom source 0 tokens bad
