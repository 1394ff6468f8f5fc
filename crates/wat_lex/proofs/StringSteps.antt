-- Strings and their escapes, one step further.
use Rattle.std.proofs.Common.{◌≡◌, ℕ, zero, suc, ◌+◌, ◌*◌, ◌-◌, ◌<◌, ◌≤◌, inl, inr, Bool, true, false, cond, List, [], ◌∷◌, length, drop, get_or, Result, Ok, refl, sym, ap, subst, ◌∙◌, arith}
use Rattle.std.specs.Prelude.{◌==◌, ◌&&◌, nat_lt}
use Rattle.std.proofs.lemmas.Bool.Decides.{nat_tests}
use Rattle.std.proofs.lemmas.List.{drop_more}
use Rattle.std.proofs.Math.ListN.{drop_of_length-le}
use Rattle.wasm_text.specs.declared.tokens.LexBad.{LexBad}
use Rattle.wasm_text.specs.declared.tokens.LexReason.TheVariants.{Char, OpenString, BadEscape}
use Rattle.wasm_text.specs.Characters.{is_string_char, is_hex, hex_value, is_scalar}
use Rattle.wasm_text.specs.Lexing.{trouble, number_end, escape_end, past_escape, string_end}
use Rattle.wat_lex.specs.code.Numbers.{Alike}
use Rattle.wasm_text.proofs.Choosing.{before, not_before as not_before_any}

-- ---- a character's number

scalar_past : (n : ℕ) → 0x10FFFF < n → is_scalar n ≡ false
scalar_past n past = grind (arith, nat_tests)

scalar_alike : (n m : ℕ) → Alike n m → is_scalar n ≡ is_scalar m
scalar_alike n m (inl e) = ap is_scalar e
scalar_alike n m (inr both) = scalar_past n both.0 ∙ sym (scalar_past m both.1)

more_alike : (n m d : ℕ) → Alike n m → Alike (16 * n + d) (16 * m + d)
more_alike n m d (inl e) = inl (ap (λ x. 16 * x + d) e)
more_alike n m d (inr both) = inr (omega (arith, both.0), omega (arith, both.1))

pub number_alike : (quote slash at n m : ℕ) (digit : Bool) (text : List ℕ) → Alike n m → number_end quote slash at n digit text ≡ number_end quote slash at m digit text
number_alike quote slash at n m digit [] alike = refl
number_alike quote slash at n m digit (c ∷ rest) alike =
    ap (λ g. cond (is_hex c) g (cond (digit && c == 0x5F) (number_end quote slash (at + 1) n false rest) (cond (digit && c == 0x7D && is_scalar n) (Ok (at + 1)) (trouble BadEscape slash))))
    (number_alike quote slash (at + 1) (16 * n + hex_value c) (16 * m + hex_value c) true rest (more_alike n m (hex_value c) alike))
    ∙ ap (λ g. cond (is_hex c) (number_end quote slash (at + 1) (16 * m + hex_value c) true rest) (cond (digit && c == 0x5F) g (cond (digit && c == 0x7D && is_scalar n) (Ok (at + 1)) (trouble BadEscape slash))))
    (number_alike quote slash (at + 1) n m false rest alike)
    ∙ ap (λ b. cond (is_hex c) (number_end quote slash (at + 1) (16 * m + hex_value c) true rest) (cond (digit && c == 0x5F) (number_end quote slash (at + 1) m false rest) (cond (digit && c == 0x7D && b) (Ok (at + 1)) (trouble BadEscape slash))))
    (scalar_alike n m alike)

pub number_on : (s : List ℕ) (quote slash n i : ℕ) (digit : Bool) → i < length s
    → number_end quote slash i n digit (drop i s)
    ≡ cond (is_hex (get_or s i 0)) (number_end quote slash (i + 1) (16 * n + hex_value (get_or s i 0)) true (drop (i + 1) s))
    (cond (digit && get_or s i 0 == 0x5F) (number_end quote slash (i + 1) n false (drop (i + 1) s))
    (cond (digit && get_or s i 0 == 0x7D && is_scalar n) (Ok (i + 1)) (trouble BadEscape slash)))
number_on s quote slash n i digit lt = ap (λ l. number_end quote slash i n digit l) (drop_more s i 0 lt)

pub number_over : (s : List ℕ) (quote slash n i : ℕ) (digit : Bool) → length s ≤ i → number_end quote slash i n digit (drop i s) ≡ trouble OpenString quote
number_over s quote slash n i digit le = ap (λ l. number_end quote slash i n digit l) (drop_of_length-le s le)

-- ---- strings

abbrev string_step : ℕ → ℕ → ℕ → Bool → ℕ → List ℕ → Result ℕ LexBad
string_step quote from i passes c rest =
    cond passes (string_end quote from (i + 1) rest)
    (cond (c == 0x22) (Ok (i + 1))
    (cond (c == 0x5C) (past_escape (escape_end quote i rest) (λ next. string_end quote next (i + 1) rest))
    (cond (is_string_char c) (string_end quote from (i + 1) rest) (trouble Char i))))

string_cons : (quote from : ℕ) (s : List ℕ) (i : ℕ) → i < length s → string_end quote from i (drop i s) ≡ string_step quote from i (nat_lt i from) (get_or s i 0) (drop (i + 1) s)
string_cons quote from s i lt = ap (λ l. string_end quote from i l) (drop_more s i 0 lt)

pub string_on : (s : List ℕ) (quote i : ℕ) → i < length s
    → string_end quote 0 i (drop i s)
    ≡ cond (get_or s i 0 == 0x22) (Ok (i + 1))
    (cond (get_or s i 0 == 0x5C) (past_escape (escape_end quote i (drop (i + 1) s)) (λ next. string_end quote next (i + 1) (drop (i + 1) s)))
    (cond (is_string_char (get_or s i 0)) (string_end quote 0 (i + 1) (drop (i + 1) s)) (trouble Char i)))
string_on s quote i lt =
    string_cons quote 0 s i lt ∙ ap (λ b. string_step quote 0 i b (get_or s i 0) (drop (i + 1) s)) (not_before_any i 0 (omega arith))

pub string_over : (s : List ℕ) (quote i : ℕ) → length s ≤ i → string_end quote 0 i (drop i s) ≡ trouble OpenString quote
string_over s quote i le = ap (λ l. string_end quote 0 i l) (drop_of_length-le s le)

string_reached : (quote from at : ℕ) (text : List ℕ) → from ≤ at → string_end quote from at text ≡ string_end quote 0 at text
string_reached quote from at [] le = refl
string_reached quote from at (c ∷ rest) le =
    let next : from ≤ at + 1 = omega arith in
    ap (λ b. string_step quote from at b c rest) (not_before_any at from le ∙ sym (not_before_any at 0 (omega arith)))
    ∙ ap (λ g. cond (nat_lt at 0) g (cond (c == 0x22) (Ok (at + 1)) (cond (c == 0x5C) (past_escape (escape_end quote at rest) (λ n. string_end quote n (at + 1) rest)) (cond (is_string_char c) g (trouble Char at)))))
    (string_reached quote from (at + 1) rest next)

pub string_skips : (s : List ℕ) (quote k at from : ℕ) → from ≡ at + k → from ≤ length s → string_end quote from at (drop at s) ≡ string_end quote 0 from (drop from s)
string_skips s quote zero at from e le =
    let same : at ≡ from = omega arith in
    subst (λ n. string_end quote from n (drop n s) ≡ string_end quote 0 from (drop from s)) (sym same) (string_reached quote from from (drop from s) (omega arith))
string_skips s quote (suc k) at from e le =
    let here : at < length s = omega arith in
    string_cons quote from s at here
    ∙ ap (λ b. string_step quote from at b (get_or s at 0) (drop (at + 1) s)) (before at from (omega arith))
    ∙ string_skips s quote k (at + 1) from (omega arith) le

-- ---- by what comes next

pub number_hex : (s : List ℕ) (quote slash n m i : ℕ) (digit : Bool) → i < length s → true ≡ is_hex (get_or s i 0) → Alike (16 * n + hex_value (get_or s i 0)) m
    → number_end quote slash i n digit (drop i s) ≡ number_end quote slash (i + 1) m true (drop (i + 1) s)
number_hex s quote slash n m i digit lt e alike =
    let c = get_or s i 0 in
    number_on s quote slash n i digit lt
    ∙ ap (λ b. cond b (number_end quote slash (i + 1) (16 * n + hex_value c) true (drop (i + 1) s))
    (cond (digit && c == 0x5F) (number_end quote slash (i + 1) n false (drop (i + 1) s)) (cond (digit && c == 0x7D && is_scalar n) (Ok (i + 1)) (trouble BadEscape slash)))) (sym e)
    ∙ number_alike quote slash (i + 1) (16 * n + hex_value c) m true (drop (i + 1) s) alike

pub string_escape : (s : List ℕ) (quote i next : ℕ) → i < length s → get_or s i 0 ≡ 0x5C → (let r : Result ℕ LexBad = Ok next in r) ≡ escape_end quote i (drop (i + 1) s)
    → i < next → next ≤ length s → string_end quote 0 i (drop i s) ≡ string_end quote 0 next (drop next s)
string_escape s quote i next lt slash is before_it le =
    let rest = drop (i + 1) s in
    string_on s quote i lt
    ∙ ap (λ c. cond (c == 0x22) (Ok (i + 1)) (cond (c == 0x5C) (past_escape (escape_end quote i rest) (λ n. string_end quote n (i + 1) rest)) (cond (is_string_char c) (string_end quote 0 (i + 1) rest) (trouble Char i)))) slash
    ∙ ap (λ r. past_escape r (λ n. string_end quote n (i + 1) rest)) (sym is)
    ∙ string_skips s quote (next - (i + 1)) (i + 1) next (omega arith) le
