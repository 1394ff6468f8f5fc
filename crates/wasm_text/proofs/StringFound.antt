-- A string whose end is found is one of the grammar.
use Rattle.std.proofs.Common.{◌≡◌, ℕ, ◌+◌, ◌*◌, ◌-◌, ◌<◌, ◌≤◌, Bool, true, false, cond, List, [], ◌∷◌, ◌++◌, length, flat_map, Result, Ok, Err, refl, sym, ap, subst, ◌∙◌, arith, length-append, append_assoc}
use Rattle.std.specs.Prelude.{◌==◌, ◌&&◌, nat_lt}
use Rattle.std.proofs.lemmas.Bool.Decides.{nat_tests}
use Rattle.wasm_text.specs.declared.tokens.LexBad.{LexBad}
use Rattle.wasm_text.specs.declared.tokens.LexReason.TheVariants.{Char, OpenString, BadEscape}
use Rattle.wasm_text.specs.Characters.{is_string_char, is_short_escape, is_hex, hex_value, is_scalar}
use Rattle.wasm_text.specs.Lexing.{trouble, hex_pair_end, number_end, braces_end, escape_end, past_escape, string_end}
use Rattle.wasm_text.specs.Strings.{Piece, Itself, Short, Byte, Number, next_digit, piece_text, number_from, AreHex, IsPiece, ArePieces, ClosesString}
use Rattle.wasm_text.proofs.Choosing.{by_test, ok_is, refuses, is_number, is_before, is_not_before, no_items, same_end}
use Rattle.std.proofs.lemmas.Bool.{and_parts as both_of}

-- ---- a number

pub record NumberRest (at n next : ℕ) (text : List ℕ) : Type 0 where
  pub more : List (Bool × ℕ)
  pub left : List ℕ
  pub hex : AreHex more
  pub scalar : is_scalar (number_from n more) ≡ true
  pub is : text ≡ flat_map next_digit more ++ 0x7D ∷ left
  pub place : next ≡ at + length (flat_map next_digit more) + 1

pub record DigitRest (at n next : ℕ) (text : List ℕ) : Type 0 where
  pub digit : ℕ
  pub rest : List ℕ
  pub hex : is_hex digit ≡ true
  pub is : text ≡ digit ∷ rest
  pub number : NumberRest (at + 1) (16 * n + hex_value digit) next rest

-- after a digit anything may follow, else a digit has to
abbrev AfterDigit : Bool → ℕ → ℕ → ℕ → List ℕ → Type 0
AfterDigit true at n next text = NumberRest at n next text
AfterDigit false at n next text = DigitRest at n next text

-- a digit, after a mark or without
one_digit : (mark : Bool) (at n next c : ℕ) (rest text : List ℕ) → is_hex c ≡ true → text ≡ next_digit (mark, c) ++ rest
    → NumberRest (at + length (next_digit (mark, c))) (16 * n + hex_value c) next rest → NumberRest at n next text
one_digit mark at n next c rest text hex is number = record {
  more = (mark, c) ∷ number.more;
  left = number.left;
  hex = (hex, number.hex);
  scalar = number.scalar;
  is = is ∙ ap (λ t. next_digit (mark, c) ++ t) number.is ∙ sym (append_assoc (next_digit (mark, c)) (flat_map next_digit number.more) (0x7D ∷ number.left));
  place = omega (arith, number.place, length-append (next_digit (mark, c)) (flat_map next_digit number.more));
}

digit_case : (digit : Bool) (at n next c : ℕ) (rest : List ℕ) → is_hex c ≡ true → NumberRest (at + 1) (16 * n + hex_value c) next rest → AfterDigit digit at n next (c ∷ rest)
digit_case true at n next c rest hex number = one_digit false at n next c rest (c ∷ rest) hex refl number
digit_case false at n next c rest hex number = record { digit = c; rest = rest; hex = hex; is = refl; number = number }

mark_case : (digit : Bool) (at n next c : ℕ) (rest : List ℕ) → (digit && c == 0x5F) ≡ true → DigitRest (at + 1) n next rest → AfterDigit digit at n next (c ∷ rest)
mark_case true at n next c rest e d =
    let mark : c ≡ 0x5F = is_number c 0x5F e in
    let same : at + 1 + 1 ≡ at + 2 = omega arith in
    one_digit true at n next d.digit d.rest (c ∷ rest) d.hex (ap (λ x. x ∷ rest) mark ∙ ap (λ t. 0x5F ∷ t) d.is)
    (subst (λ k. NumberRest k (16 * n + hex_value d.digit) next d.rest) same d.number)
mark_case false at n next c rest e d = absurd cc

brace_case : (digit : Bool) (at n next c : ℕ) (rest : List ℕ) → (digit && c == 0x7D && is_scalar n) ≡ true → at + 1 ≡ next → AfterDigit digit at n next (c ∷ rest)
brace_case true at n next c rest e place =
    let both = both_of (c == 0x7D) (is_scalar n) e in
    record { more = []; left = rest; hex = tt; scalar = both.1; is = ap (λ x. x ∷ rest) (is_number c 0x7D both.0); place = omega (arith, place) }
brace_case false at n next c rest e place = absurd cc

number_found : (quote slash at n next : ℕ) (digit : Bool) (text : List ℕ) → number_end quote slash at n digit text ≡ Ok next → AfterDigit digit at n next text
number_found quote slash at n next digit [] e = absurd (refuses (record { reason = OpenString; at = quote }) next e)
number_found quote slash at n next digit (c ∷ rest) e =
    let P = AfterDigit digit at n next (c ∷ rest) in
    let on = number_end quote slash (at + 1) (16 * n + hex_value c) true rest in
    let marked = number_end quote slash (at + 1) n false rest in
    let braced : Result ℕ LexBad = cond (digit && c == 0x7D && is_scalar n) (Ok (at + 1)) (trouble BadEscape slash) in
    by_test (is_hex c) on (cond (digit && c == 0x5F) marked braced) (Ok next) P
    (λ hex f. digit_case digit at n next c rest hex (number_found quote slash (at + 1) (16 * n + hex_value c) next true rest f))
    (λ not f. by_test (digit && c == 0x5F) marked braced (Ok next) P
    (λ mark g. mark_case digit at n next c rest mark (number_found quote slash (at + 1) n next false rest g))
    (λ nor g. by_test (digit && c == 0x7D && is_scalar n) (Ok (at + 1)) (trouble BadEscape slash) (Ok next) P
    (λ brace h. brace_case digit at n next c rest brace (ok_is (at + 1) next h))
    (λ no h. absurd (refuses (record { reason = BadEscape; at = slash }) next h)) g) f) e

-- ---- an escape

pub record EscapeRest (slash next : ℕ) (text : List ℕ) : Type 0 where
  pub piece : Piece
  pub left : List ℕ
  pub good : IsPiece piece
  pub is : 0x5C ∷ text ≡ piece_text piece ++ left
  pub place : next ≡ slash + length (piece_text piece)

pair_found : (quote slash next c : ℕ) (text : List ℕ) → is_hex c ≡ true → hex_pair_end quote slash text ≡ Ok next → EscapeRest slash next (c ∷ text)
pair_found quote slash next c [] hex e = absurd (refuses (record { reason = OpenString; at = quote }) next e)
pair_found quote slash next c (d ∷ rest) hex e =
    by_test (is_hex d) (Ok (slash + 3)) (trouble BadEscape slash) (Ok next) (EscapeRest slash next (c ∷ d ∷ rest))
    (λ low f. record { piece = Byte c d; left = rest; good = (hex, low); is = refl; place = sym (ok_is (slash + 3) next f) })
    (λ no f. absurd (refuses (record { reason = BadEscape; at = slash }) next f)) e

from_digit : (slash next : ℕ) (text : List ℕ) → DigitRest (slash + 3) 0 next text → EscapeRest slash next (0x75 ∷ 0x7B ∷ text)
from_digit slash next text d =
    let same : 16 * 0 + hex_value d.digit ≡ hex_value d.digit = omega arith in
    let number : NumberRest (slash + 3 + 1) (hex_value d.digit) next d.rest = subst (λ k. NumberRest (slash + 3 + 1) k next d.rest) same d.number in
    let digits = flat_map next_digit number.more in
    record {
      piece = Number d.digit number.more;
      left = number.left;
      good = (d.hex, number.hex, number.scalar);
      is = ap (λ t. 0x5C ∷ 0x75 ∷ 0x7B ∷ t) (d.is ∙ ap (λ t. d.digit ∷ t) (number.is ∙ sym (append_assoc digits (0x7D ∷ []) number.left)));
      place = omega (arith, number.place, length-append digits (0x7D ∷ []));
    }

braces_found : (quote slash next : ℕ) (text : List ℕ) → braces_end quote slash text ≡ Ok next → EscapeRest slash next (0x75 ∷ text)
braces_found quote slash next [] e = absurd (refuses (record { reason = OpenString; at = quote }) next e)
braces_found quote slash next (c ∷ rest) e =
    by_test (c == 0x7B) (number_end quote slash (slash + 3) 0 false rest) (trouble BadEscape slash) (Ok next) (EscapeRest slash next (0x75 ∷ c ∷ rest))
    (λ brace f. subst (λ x. EscapeRest slash next (0x75 ∷ x ∷ rest)) (sym (is_number c 0x7B brace)) (from_digit slash next rest (number_found quote slash (slash + 3) 0 next false rest f)))
    (λ no f. absurd (refuses (record { reason = BadEscape; at = slash }) next f)) e

escape_found : (quote slash next : ℕ) (text : List ℕ) → escape_end quote slash text ≡ Ok next → EscapeRest slash next text
escape_found quote slash next [] e = absurd (refuses (record { reason = OpenString; at = quote }) next e)
escape_found quote slash next (c ∷ rest) e =
    let P = EscapeRest slash next (c ∷ rest) in
    let pair = hex_pair_end quote slash rest in
    let braces = cond (c == 0x75) (braces_end quote slash rest) (trouble BadEscape slash) in
    by_test (is_short_escape c) (Ok (slash + 2)) (cond (is_hex c) pair braces) (Ok next) P
    (λ short f. record { piece = Short c; left = rest; good = short; is = refl; place = sym (ok_is (slash + 2) next f) })
    (λ not f. by_test (is_hex c) pair braces (Ok next) P (λ hex g. pair_found quote slash next c rest hex g)
    (λ nor g. by_test (c == 0x75) (braces_end quote slash rest) (trouble BadEscape slash) (Ok next) P
    (λ u h. subst (λ x. EscapeRest slash next (x ∷ rest)) (sym (is_number c 0x75 u)) (braces_found quote slash next rest h))
    (λ no h. absurd (refuses (record { reason = BadEscape; at = slash }) next h)) g) f) e

-- ---- a string

pub record StringRest (from at n : ℕ) (text : List ℕ) : Type 0 where
  pub skipped : List ℕ
  pub pieces : List Piece
  pub left : List ℕ
  pub good : ArePieces pieces
  pub is : text ≡ skipped ++ (flat_map piece_text pieces ++ 0x22 ∷ left)
  pub skips : length skipped ≡ from - at
  pub place : n + length left ≡ at + length text

skip_case : (from at n c : ℕ) (rest : List ℕ) → at < from → StringRest from (at + 1) n rest → StringRest from at n (c ∷ rest)
skip_case from at n c rest lt s = record {
  skipped = c ∷ s.skipped;
  pieces = s.pieces;
  left = s.left;
  good = s.good;
  is = ap (λ t. c ∷ t) s.is;
  skips = omega (arith, s.skips);
  place = omega (arith, s.place);
}

-- nothing is skipped
none_skipped : (from at n : ℕ) (text : List ℕ) → from ≤ at → (s : StringRest from at n text) → text ≡ flat_map piece_text s.pieces ++ 0x22 ∷ s.left
none_skipped from at n text le s =
    s.is ∙ ap (λ l. l ++ (flat_map piece_text s.pieces ++ 0x22 ∷ s.left)) (no_items s.skipped (omega (arith, s.skips)))

quote_case : (from at n : ℕ) (rest : List ℕ) → from ≤ at → at + 1 ≡ n → StringRest from at n (0x22 ∷ rest)
quote_case from at n rest le e = record { skipped = []; pieces = []; left = rest; good = tt; is = refl; skips = omega arith; place = omega arith }

itself_case : (from at n c : ℕ) (rest : List ℕ) → from ≤ at → IsPiece (Itself c) → StringRest from (at + 1) n rest → StringRest from at n (c ∷ rest)
itself_case from at n c rest le good s = record {
  skipped = [];
  pieces = Itself c ∷ s.pieces;
  left = s.left;
  good = (good, s.good);
  is = ap (λ t. c ∷ t) (none_skipped from (at + 1) n rest (omega arith) s);
  skips = omega arith;
  place = omega (arith, s.place);
}

escape_case : (from at n next : ℕ) (rest : List ℕ) → from ≤ at → EscapeRest at next rest → StringRest next (at + 1) n rest → StringRest from at n (0x5C ∷ rest)
escape_case from at n next rest le escape s =
    let text = piece_text escape.piece in
    let pieces = flat_map piece_text s.pieces ++ 0x22 ∷ s.left in
    let far : 1 ≤ length text = escape_some escape.piece in
    let same : escape.left ≡ pieces =
    same_end text (0x5C ∷ s.skipped) escape.left pieces (sym escape.is ∙ ap (λ t. 0x5C ∷ t) s.is) (omega (arith, escape.place, s.skips, far)) in
    record {
      skipped = [];
      pieces = escape.piece ∷ s.pieces;
      left = s.left;
      good = (escape.good, s.good);
      is = escape.is ∙ ap (λ t. text ++ t) same ∙ sym (append_assoc text (flat_map piece_text s.pieces) (0x22 ∷ s.left));
      skips = omega arith;
      place = omega (arith, s.place);
    }
  where
    escape_some : (p : Piece) → 1 ≤ length (piece_text p)
    escape_some (Itself c) = omega arith
    escape_some (Short c) = omega arith
    escape_some (Byte high low) = omega arith
    escape_some (Number first more) = omega arith

past_found : (quote from at n : ℕ) (rest : List ℕ) → from ≤ at → ((next : ℕ) → string_end quote next (at + 1) rest ≡ Ok n → StringRest next (at + 1) n rest)
    → (r : Result ℕ LexBad) → escape_end quote at rest ≡ r → past_escape r (λ next. string_end quote next (at + 1) rest) ≡ Ok n → StringRest from at n (0x5C ∷ rest)
past_found quote from at n rest le others (Ok next) is e = escape_case from at n next rest le (escape_found quote at next rest is) (others next e)
past_found quote from at n rest le others (Err bad) is e = absurd (refuses bad n e)

string_found : (quote from at n : ℕ) (text : List ℕ) → string_end quote from at text ≡ Ok n → StringRest from at n text
string_found quote from at n [] e = absurd (refuses (record { reason = OpenString; at = quote }) n e)
string_found quote from at n (c ∷ rest) e =
    let P = StringRest from at n (c ∷ rest) in
    let on = string_end quote from (at + 1) rest in
    let escape = past_escape (escape_end quote at rest) (λ next. string_end quote next (at + 1) rest) in
    let last : Result ℕ LexBad = cond (is_string_char c) on (trouble Char at) in
    by_test (nat_lt at from) on (cond (c == 0x22) (Ok (at + 1)) (cond (c == 0x5C) escape last)) (Ok n) P
    (λ lt f. skip_case from at n c rest (is_before at from lt) (string_found quote from (at + 1) n rest f))
    (λ ge f. by_test (c == 0x22) (Ok (at + 1)) (cond (c == 0x5C) escape last) (Ok n) P
    (λ q g. subst (λ x. StringRest from at n (x ∷ rest)) (sym (is_number c 0x22 q)) (quote_case from at n rest (is_not_before at from ge) (ok_is (at + 1) n g)))
    (λ nq g. by_test (c == 0x5C) escape last (Ok n) P
    (λ s h. subst (λ x. StringRest from at n (x ∷ rest)) (sym (is_number c 0x5C s))
    (past_found quote from at n rest (is_not_before at from ge) (λ next k. string_found quote next (at + 1) n rest k) (escape_end quote at rest) refl h))
    (λ ns h. by_test (is_string_char c) on (trouble Char at) (Ok n) P
    (λ i k. itself_case from at n c rest (is_not_before at from ge) (i, nq, ns) (string_found quote from (at + 1) n rest k))
    (λ no k. absurd (refuses (record { reason = Char; at = at }) n k)) h) g) f) e

pub string_closes : (quote at n : ℕ) (text : List ℕ) → string_end quote 0 at text ≡ Ok n → (left : List ℕ) × ClosesString text left × (n + length left ≡ at + length text)
string_closes quote at n text e =
    let found = string_found quote 0 at n text e in
    (found.left, record { pieces = found.pieces; good = found.good; is = none_skipped 0 at n text (omega arith) found }, found.place)
