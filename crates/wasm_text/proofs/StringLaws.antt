-- Where a string ends is where the grammar has its end.
use Rattle.std.proofs.Common.{◌≡◌, ℕ, ◌+◌, ◌*◌, ◌<◌, ◌≤◌, Bool, true, false, cond, List, [], ◌∷◌, ◌++◌, length, flat_map, Result, Ok, refl, sym, ap, ◌∙◌, arith, length-append, append_assoc}
use Rattle.std.specs.Prelude.{◌==◌, ◌&&◌, nat_lt}
use Rattle.std.proofs.lemmas.Bool.Decides.{nat_tests}
use Rattle.wasm_text.specs.declared.tokens.LexBad.{LexBad}
use Rattle.wasm_text.specs.declared.tokens.LexReason.TheVariants.{Char, BadEscape}
use Rattle.wasm_text.specs.Characters.{is_string_char, is_short_escape, is_hex, hex_value, is_scalar}
use Rattle.wasm_text.specs.Lexing.{trouble, hex_pair_end, number_end, braces_end, escape_end, past_escape, string_end}
use Rattle.wasm_text.specs.Strings.{Piece, Itself, Short, Byte, Number, next_digit, piece_text, number_from, AreHex, IsPiece, ArePieces, ClosesString}
use Rattle.wasm_text.proofs.Choosing.{by_test, not_before, before}
use Rattle.std.proofs.lemmas.Bool.{cond-true as holds, cond-false as fails}

-- ---- tests

hex_not_short : (c : ℕ) → is_hex c ≡ true → is_short_escape c ≡ false
hex_not_short c hex = grind (arith, nat_tests)

-- ---- what is spelled is found

-- one more digit of a number
digit_on : (quote slash at n : ℕ) (mark : Bool) (d : ℕ) (rest : List ℕ) → is_hex d ≡ true
    → number_end quote slash at n true (next_digit (mark, d) ++ rest) ≡ number_end quote slash (at + length (next_digit (mark, d))) (16 * n + hex_value d) true rest
digit_on quote slash at n true d rest hex =
    let on = number_end quote slash (at + 1 + 1) (16 * n + hex_value d) true rest in
    holds (is_hex d) on (trouble BadEscape slash) hex
    ∙ (let same : at + 1 + 1 ≡ at + 2 = omega arith in ap (λ k. number_end quote slash k (16 * n + hex_value d) true rest) same)
digit_on quote slash at n false d rest hex =
    holds (is_hex d) (number_end quote slash (at + 1) (16 * n + hex_value d) true rest)
    (cond (d == 0x5F) (number_end quote slash (at + 1) n false rest) (cond (d == 0x7D && is_scalar n) (Ok (at + 1)) (trouble BadEscape slash))) hex

number_spelled : (quote slash at n : ℕ) (more : List (Bool × ℕ)) (left : List ℕ) → AreHex more → is_scalar (number_from n more) ≡ true
    → number_end quote slash at n true (flat_map next_digit more ++ 0x7D ∷ left) ≡ Ok (at + length (flat_map next_digit more) + 1)
number_spelled quote slash at n [] left hex scalar =
    holds (is_scalar n) (Ok (at + 1)) (trouble BadEscape slash) scalar ∙ (let same : at + 1 ≡ at + 0 + 1 = omega arith in ap (λ k. Ok k) same)
number_spelled quote slash at n (digit ∷ more) left hex scalar =
    let here = next_digit digit in
    let rest = flat_map next_digit more in
    ap (λ t. number_end quote slash at n true t) (append_assoc here rest (0x7D ∷ left))
    ∙ digit_on quote slash at n digit.0 digit.1 (rest ++ 0x7D ∷ left) hex.0
    ∙ number_spelled quote slash (at + length here) (16 * n + hex_value digit.1) more left hex.1 scalar
    ∙ (let same : at + length here + length rest + 1 ≡ at + length (here ++ rest) + 1 = omega (arith, length-append here rest) in ap (λ k. Ok k) same)

-- what follows the backslash of an escape
abbrev escape_text : Piece → List ℕ
escape_text (Itself c) = []
escape_text (Short c) = c ∷ []
escape_text (Byte high low) = high ∷ low ∷ []
escape_text (Number first more) = 0x75 ∷ 0x7B ∷ first ∷ flat_map next_digit more ++ 0x7D ∷ []

first_digit : (quote slash at first : ℕ) (rest : List ℕ) → is_hex first ≡ true → number_end quote slash at 0 false (first ∷ rest) ≡ number_end quote slash (at + 1) (hex_value first) true rest
first_digit quote slash at first rest hex =
    holds (is_hex first) (number_end quote slash (at + 1) (16 * 0 + hex_value first) true rest) (trouble BadEscape slash) hex
    ∙ (let same : 16 * 0 + hex_value first ≡ hex_value first = omega arith in ap (λ k. number_end quote slash (at + 1) k true rest) same)

number_escape : (quote slash first : ℕ) (more : List (Bool × ℕ)) (left : List ℕ) → IsPiece (Number first more)
    → escape_end quote slash (escape_text (Number first more) ++ left) ≡ Ok (slash + length (piece_text (Number first more)))
number_escape quote slash first more left good =
    let digits = flat_map next_digit more in
    ap (λ t. number_end quote slash (slash + 3) 0 false (first ∷ t)) (append_assoc digits (0x7D ∷ []) left)
    ∙ first_digit quote slash (slash + 3) first (digits ++ 0x7D ∷ left) good.0
    ∙ number_spelled quote slash (slash + 3 + 1) (hex_value first) more left good.1 good.2
    ∙ (let same : slash + 3 + 1 + length digits + 1 ≡ slash + length (0x5C ∷ 0x75 ∷ 0x7B ∷ first ∷ digits ++ 0x7D ∷ []) = omega (arith, length-append digits (0x7D ∷ [])) in ap (λ k. Ok k) same)

short_escape : (quote slash c : ℕ) (left : List ℕ) → IsPiece (Short c) → escape_end quote slash (c ∷ left) ≡ Ok (slash + 2)
short_escape quote slash c left good =
    holds (is_short_escape c) (Ok (slash + 2)) (cond (is_hex c) (hex_pair_end quote slash left) (cond (c == 0x75) (braces_end quote slash left) (trouble BadEscape slash))) good

byte_escape : (quote slash high low : ℕ) (left : List ℕ) → IsPiece (Byte high low) → escape_end quote slash (high ∷ low ∷ left) ≡ Ok (slash + 3)
byte_escape quote slash high low left good =
    fails (is_short_escape high) (Ok (slash + 2)) (cond (is_hex high) (hex_pair_end quote slash (low ∷ left)) (cond (high == 0x75) (braces_end quote slash (low ∷ left)) (trouble BadEscape slash))) (hex_not_short high good.0)
    ∙ holds (is_hex high) (hex_pair_end quote slash (low ∷ left)) (cond (high == 0x75) (braces_end quote slash (low ∷ left)) (trouble BadEscape slash)) good.0
    ∙ holds (is_hex low) (Ok (slash + 3)) (trouble BadEscape slash) good.1

-- ---- one piece after another

abbrev string_step : ℕ → ℕ → ℕ → Bool → ℕ → List ℕ → Result ℕ LexBad
string_step quote from at passes c rest =
    cond passes (string_end quote from (at + 1) rest)
    (cond (c == 0x22) (Ok (at + 1))
    (cond (c == 0x5C) (past_escape (escape_end quote at rest) (λ next. string_end quote next (at + 1) rest))
    (cond (is_string_char c) (string_end quote from (at + 1) rest) (trouble Char at))))

reached : (quote from at : ℕ) (text : List ℕ) → from ≤ at → string_end quote from at text ≡ string_end quote 0 at text
reached quote from at [] le = refl
reached quote from at (c ∷ rest) le =
    ap (λ b. string_step quote from at b c rest) (not_before at from le ∙ sym (not_before at 0 (omega arith)))
    ∙ ap (λ g. cond (nat_lt at 0) g (cond (c == 0x22) (Ok (at + 1)) (cond (c == 0x5C) (past_escape (escape_end quote at rest) (λ n. string_end quote n (at + 1) rest)) (cond (is_string_char c) g (trouble Char at)))))
    (reached quote from (at + 1) rest (omega arith))

skips : (quote at : ℕ) (u w : List ℕ) → string_end quote (at + length u) at (u ++ w) ≡ string_end quote 0 (at + length u) w
skips quote at [] w =
    let same : at + 0 ≡ at = omega arith in
    ap (λ k. string_end quote k at w) same ∙ reached quote at at w (omega arith) ∙ ap (λ k. string_end quote 0 k w) (sym same)
skips quote at (c ∷ u) w =
    let all = at + length (c ∷ u) in
    let same : at + 1 + length u ≡ at + length (c ∷ u) = omega arith in
    ap (λ b. string_step quote all at b c (u ++ w)) (before at all (omega arith))
    ∙ ap (λ k. string_end quote k (at + 1) (u ++ w)) (sym same)
    ∙ skips quote (at + 1) u w
    ∙ ap (λ k. string_end quote 0 k w) same

-- an escape whose end is found is passed
escape_on : (quote at : ℕ) (u w : List ℕ) → escape_end quote at (u ++ w) ≡ Ok (at + 1 + length u) → string_end quote 0 at (0x5C ∷ u ++ w) ≡ string_end quote 0 (at + 1 + length u) w
escape_on quote at u w e =
    ap (λ b. string_step quote 0 at b 0x5C (u ++ w)) (not_before at 0 (omega arith))
    ∙ ap (λ r. past_escape r (λ next. string_end quote next (at + 1) (u ++ w))) e
    ∙ skips quote (at + 1) u w

piece_on : (quote at : ℕ) (piece : Piece) (w : List ℕ) → IsPiece piece → string_end quote 0 at (piece_text piece ++ w) ≡ string_end quote 0 (at + length (piece_text piece)) w
piece_on quote at (Itself c) w good =
    let on = string_end quote 0 (at + 1) w in
    let last : Result ℕ LexBad = cond (is_string_char c) on (trouble Char at) in
    let escape = past_escape (escape_end quote at w) (λ next. string_end quote next (at + 1) w) in
    ap (λ b. string_step quote 0 at b c w) (not_before at 0 (omega arith))
    ∙ fails (c == 0x22) (Ok (at + 1)) (cond (c == 0x5C) escape last) good.1 ∙ fails (c == 0x5C) escape last good.2 ∙ holds (is_string_char c) on (trouble Char at) good.0
piece_on quote at (Short c) w good =
    let same : at + 2 ≡ at + 1 + 1 = omega arith in
    escape_on quote at (c ∷ []) w (short_escape quote at c w good ∙ ap (λ k. Ok k) same) ∙ ap (λ k. string_end quote 0 k w) (sym same)
piece_on quote at (Byte high low) w good =
    let same : at + 3 ≡ at + 1 + 2 = omega arith in
    escape_on quote at (high ∷ low ∷ []) w (byte_escape quote at high low w good ∙ ap (λ k. Ok k) same) ∙ ap (λ k. string_end quote 0 k w) (sym same)
piece_on quote at (Number first more) w good =
    let u = escape_text (Number first more) in
    let same : at + length (piece_text (Number first more)) ≡ at + 1 + length u = omega arith in
    escape_on quote at u w (number_escape quote at first more w good ∙ ap (λ k. Ok k) same) ∙ ap (λ k. string_end quote 0 k w) (sym same)

quote_ends : (quote at : ℕ) (left : List ℕ) → string_end quote 0 at (0x22 ∷ left) ≡ Ok (at + 1)
quote_ends quote at left = ap (λ b. string_step quote 0 at b 0x22 left) (not_before at 0 (omega arith))

spelled : (quote at : ℕ) (pieces : List Piece) (left : List ℕ) → ArePieces pieces
    → string_end quote 0 at (flat_map piece_text pieces ++ 0x22 ∷ left) ≡ Ok (at + length (flat_map piece_text pieces) + 1)
spelled quote at [] left good = quote_ends quote at left ∙ (let same : at + 1 ≡ at + 0 + 1 = omega arith in ap (λ k. Ok k) same)
spelled quote at (piece ∷ pieces) left good =
    let here = piece_text piece in
    let rest = flat_map piece_text pieces in
    ap (λ t. string_end quote 0 at t) (append_assoc here rest (0x22 ∷ left))
    ∙ piece_on quote at piece (rest ++ 0x22 ∷ left) good.0
    ∙ spelled quote (at + length here) pieces left good.1
    ∙ (let same : at + length here + length rest + 1 ≡ at + length (here ++ rest) + 1 = omega (arith, length-append here rest) in ap (λ k. Ok k) same)

pub closes_string : (quote at n : ℕ) (text left : List ℕ) → ClosesString text left → n + length left ≡ at + length text → string_end quote 0 at text ≡ Ok n
closes_string quote at n text left closes place =
    let u = flat_map piece_text closes.pieces in
    ap (λ t. string_end quote 0 at t) closes.is ∙ spelled quote at closes.pieces left closes.good
    ∙ ap (λ k. Ok k) (omega (arith, place, length-append u (0x22 ∷ left), ap length closes.is))
