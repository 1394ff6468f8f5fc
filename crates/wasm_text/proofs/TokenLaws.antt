-- A text has one list of tokens, with its end or its first trouble.
use Rattle.std.proofs.Common.{◌≡◌, ℕ, zero, suc, ◌+◌, ◌<◌, ◌≤◌, Bool, true, false, cond, List, [], ◌∷◌, length, drop, Option, Some, None, Result, Ok, Err, refl, sym, ap, subst, ◌∙◌, arith, length-drop}
use Rattle.std.specs.Prelude.{◌==◌, ◌||◌, nat_lt}
use Rattle.wasm_text.specs.declared.tokens.Token.{Token}
use Rattle.wasm_text.specs.declared.tokens.TokenKind.{TokenKind}
use Rattle.wasm_text.specs.declared.tokens.TokenKind.TheVariants.{Open, Close, Str, Word}
use Rattle.wasm_text.specs.declared.tokens.LexBad.{LexBad}
use Rattle.wasm_text.specs.declared.tokens.LexReason.TheVariants.{Char}
use Rattle.wasm_text.specs.Characters.{is_space, is_word_char, is_string_char}
use Rattle.wasm_text.specs.Lexing.{trouble, run_end, comment_at, past_comment, gap_end, escape_end, past_escape, string_end, token, string_token, token_at, past_gap, next_token, TokensFrom}
use Rattle.wasm_text.proofs.Choosing.{ok_is}

-- ---- where forms end

pub record Within (at n : ℕ) (text : List ℕ) : Type 0 where
  pub start : at ≤ n
  pub end : n ≤ at + length text

pub record Past (at n : ℕ) (text : List ℕ) : Type 0 where
  pub start : at < n
  pub end : n ≤ at + length text

by_test : {A : Type 0} (b : Bool) (x y z : A) (P : Type 0) → (x ≡ z → P) → (y ≡ z → P) → cond b x y ≡ z → P
by_test true x y z P f g e = f e
by_test false x y z P f g e = g e

longer : (at n c : ℕ) (rest : List ℕ) → Within (at + 1) n rest → Within at n (c ∷ rest)
longer at n c rest w = record { start = omega arith; end = omega arith }

further : (at n c : ℕ) (rest : List ℕ) → Past (at + 1) n rest → Past at n (c ∷ rest)
further at n c rest w = record { start = omega arith; end = omega arith }

here : (at n c : ℕ) (rest : List ℕ) → at + 1 ≡ n → Past at n (c ∷ rest)
here at n c rest e = record { start = omega arith; end = omega arith }

stays : (at n : ℕ) (text : List ℕ) → at ≡ n → Within at n text
stays at n text e = record { start = omega arith; end = omega arith }

pub run_within : (test : ℕ → Bool) (at : ℕ) (text : List ℕ) → Within at (run_end test at text) text
run_within test at [] = stays at at [] refl
run_within test at (c ∷ rest) =
    by_test (test c) (run_end test (at + 1) rest) at (run_end test at (c ∷ rest)) (Within at (run_end test at (c ∷ rest)) (c ∷ rest))
    (λ e. longer at (run_end test at (c ∷ rest)) c rest (subst (λ n. Within (at + 1) n rest) e (run_within test (at + 1) rest)))
    (λ e. stays at (run_end test at (c ∷ rest)) (c ∷ rest) e) refl

past_gap_comment : (at n c : ℕ) (rest : List ℕ) → ((from : ℕ) → gap_end from (at + 1) rest ≡ Ok n → Within (at + 1) n rest)
    → (found : Option (Option ℕ)) → past_comment at found (λ next. gap_end next (at + 1) rest) ≡ Ok n → Within at n (c ∷ rest)
past_gap_comment at n c rest others None e = stays at n (c ∷ rest) (ok_is at n e)
past_gap_comment at n c rest others (Some None) e = absurd cc
past_gap_comment at n c rest others (Some (Some end)) e = longer at n c rest (others end e)

pub gap_within : (from at n : ℕ) (text : List ℕ) → gap_end from at text ≡ Ok n → Within at n text
gap_within from at n [] e = stays at n [] (ok_is at n e)
gap_within from at n (c ∷ rest) e =
    by_test (nat_lt at from || is_space c) (gap_end from (at + 1) rest) (past_comment at (comment_at at c rest) (λ next. gap_end next (at + 1) rest)) (Ok n) (Within at n (c ∷ rest))
    (λ f. longer at n c rest (gap_within from (at + 1) n rest f))
    (λ f. past_gap_comment at n c rest (λ start g. gap_within start (at + 1) n rest g) (comment_at at c rest) f) e

past_string_escape : (quote at n c : ℕ) (rest : List ℕ) → ((from : ℕ) → string_end quote from (at + 1) rest ≡ Ok n → Past (at + 1) n rest)
    → (r : Result ℕ LexBad) → past_escape r (λ next. string_end quote next (at + 1) rest) ≡ Ok n → Past at n (c ∷ rest)
past_string_escape quote at n c rest others (Ok end) e = further at n c rest (others end e)
past_string_escape quote at n c rest others (Err bad) e = absurd cc

pub string_past : (quote from at n : ℕ) (text : List ℕ) → string_end quote from at text ≡ Ok n → Past at n text
string_past quote from at n [] e = absurd cc
string_past quote from at n (c ∷ rest) e =
    let P = Past at n (c ∷ rest) in
    let on = string_end quote from (at + 1) rest in
    let escape = past_escape (escape_end quote at rest) (λ next. string_end quote next (at + 1) rest) in
    let last : Result ℕ LexBad = cond (is_string_char c) on (trouble Char at) in
    by_test (nat_lt at from) on (cond (c == 0x22) (Ok (at + 1)) (cond (c == 0x5C) escape last)) (Ok n) P
    (λ f. further at n c rest (string_past quote from (at + 1) n rest f))
    (λ f. by_test (c == 0x22) (Ok (at + 1)) (cond (c == 0x5C) escape last) (Ok n) P (λ g. here at n c rest (ok_is (at + 1) n g))
    (λ g. by_test (c == 0x5C) escape last (Ok n) P
    (λ h. past_string_escape quote at n c rest (λ start k. string_past quote start (at + 1) n rest k) (escape_end quote at rest) h)
    (λ h. by_test (is_string_char c) on (trouble Char at) (Ok n) P (λ k. further at n c rest (string_past quote from (at + 1) n rest k)) (λ k. absurd cc) h) g) f) e

-- ---- a token

token_is : (kind : TokenKind) (start end : ℕ) (t : Token) → token kind start end ≡ Ok (Some t) → end ≡ t.end
token_is kind start end t e =
    let f : Result (Option Token) LexBad → ℕ = λ r. elim r [ Ok found ↦ elim found [ Some x ↦ x.end | None ↦ 0 ] | Err bad ↦ 0 ] in
    ap f e

past_token : (at n c : ℕ) (rest : List ℕ) → Within (at + 1) n rest → Past at n (c ∷ rest)
past_token at n c rest w = record { start = omega arith; end = omega arith }

string_case : (at c : ℕ) (rest : List ℕ) (t : Token) (r : Result ℕ LexBad) → string_end at 0 (at + 1) rest ≡ r → string_token at r ≡ Ok (Some t) → Past at t.end (c ∷ rest)
string_case at c rest t (Ok end) is e =
    subst (λ n. Past at n (c ∷ rest)) (token_is Str at end t e) (further at end c rest (string_past at 0 (at + 1) end rest is))
string_case at c rest t (Err bad) is e = absurd cc

pub token_past : (at : ℕ) (text : List ℕ) (t : Token) → token_at at text ≡ Ok (Some t) → Past at t.end text
token_past at [] t e = absurd cc
token_past at (c ∷ rest) t e =
    let P = Past at t.end (c ∷ rest) in
    let wanted : Result (Option Token) LexBad = Ok (Some t) in
    let one_open = token Open at (at + 1) in
    let one_close = token Close at (at + 1) in
    let string = string_token at (string_end at 0 (at + 1) rest) in
    let word = token Word at (run_end is_word_char (at + 1) rest) in
    let none : Result (Option Token) LexBad = trouble Char at in
    let last = cond (is_word_char c) word none in
    by_test (c == 0x28) one_open (cond (c == 0x29) one_close (cond (c == 0x22) string last)) wanted P (λ f. here at t.end c rest (token_is Open at (at + 1) t f))
    (λ f. by_test (c == 0x29) one_close (cond (c == 0x22) string last) wanted P (λ g. here at t.end c rest (token_is Close at (at + 1) t g))
    (λ g. by_test (c == 0x22) string last wanted P (λ h. string_case at c rest t (string_end at 0 (at + 1) rest) refl h)
    (λ h. by_test (is_word_char c) word none wanted P
    (λ k. subst (λ n. Past at n (c ∷ rest)) (token_is Word at (run_end is_word_char (at + 1) rest) t k) (past_token at (run_end is_word_char (at + 1) rest) c rest (run_within is_word_char (at + 1) rest)))
    (λ k. absurd cc) h) g) f) e

-- ---- the next token

pub record Next (source : List ℕ) (at : ℕ) (t : Token) : Type 0 where
  pub further : at < t.end
  pub within : t.end ≤ length source

next_case : (source : List ℕ) (at : ℕ) (t : Token) (r : Result ℕ LexBad) → at ≤ length source → gap_end 0 at (drop at source) ≡ r → past_gap source r ≡ Ok (Some t) → Next source at t
next_case source at t (Ok n) le is e =
    let gap = gap_within 0 at n (drop at source) is in
    let one = token_past n (drop n source) t e in
    record {
      further = omega (arith, gap.start, one.start);
      within = omega (arith, gap.end, one.end, length-drop at source, length-drop n source);
    }
next_case source at t (Err bad) le is e = absurd cc

pub next_is : (source : List ℕ) (at : ℕ) (t : Token) → at ≤ length source → next_token source at ≡ Ok (Some t) → Next source at t
next_is source at t le e = next_case source at t (gap_end 0 at (drop at source)) le refl e

-- ---- all tokens

pub record SomeTokens (source : List ℕ) (at : ℕ) : Type 0 where
  pub tokens : List Token
  pub bad : Option LexBad
  pub are : TokensFrom source at tokens bad

one_more : (source : List ℕ) (at : ℕ) → ((t : Token) → next_token source at ≡ Ok (Some t) → SomeTokens source t.end) → (r : Result (Option Token) LexBad) → next_token source at ≡ r → SomeTokens source at
one_more source at others (Ok (Some t)) e = let rest = others t e in record { tokens = t ∷ rest.tokens; bad = rest.bad; are = (e, rest.are) }
one_more source at others (Ok None) e = record { tokens = []; bad = None; are = e }
one_more source at others (Err bad) e = record { tokens = []; bad = Some bad; are = e }

pub some_tokens : (k : ℕ) (source : List ℕ) (at : ℕ) → at ≤ length source → length source ≤ at + k → SomeTokens source at
some_tokens zero source at le few =
    one_more source at (λ t e. let next = next_is source at t le e in absurd (omega (arith, next.further, next.within))) (next_token source at) refl
some_tokens (suc k) source at le few =
    one_more source at (λ t e. let next = next_is source at t le e in some_tokens k source t.end next.within (omega (arith, next.further))) (next_token source at) refl

pub record SameTokens (ts us : List Token) (b c : Option LexBad) : Type 0 where
  pub tokens : ts ≡ us
  pub bad : b ≡ c

-- what an answer says, where it says two things
two_tokens : (x y : Token) (r : Result (Option Token) LexBad) → r ≡ Ok (Some x) → r ≡ Ok (Some y) → x ≡ y
two_tokens x y r e f = cc

two_troubles : (x y : LexBad) (r : Result (Option Token) LexBad) → r ≡ Err x → r ≡ Err y → x ≡ y
two_troubles x y r e f = cc

token_or_none : (x : Token) (r : Result (Option Token) LexBad) → r ≡ Ok (Some x) → r ≡ Ok None → ⊥
token_or_none x r e f = cc

token_or_trouble : (x : Token) (y : LexBad) (r : Result (Option Token) LexBad) → r ≡ Ok (Some x) → r ≡ Err y → ⊥
token_or_trouble x y r e f = cc

none_or_trouble : (y : LexBad) (r : Result (Option Token) LexBad) → r ≡ Ok None → r ≡ Err y → ⊥
none_or_trouble y r e f = cc

pub same_tokens : (source : List ℕ) (at : ℕ) (ts us : List Token) (b c : Option LexBad) → TokensFrom source at ts b → TokensFrom source at us c → SameTokens ts us b c
same_tokens source at [] [] None None h k = record { tokens = refl; bad = refl }
same_tokens source at [] [] None (Some y) h k = absurd (none_or_trouble y (next_token source at) h k)
same_tokens source at [] [] (Some x) None h k = absurd (none_or_trouble x (next_token source at) k h)
same_tokens source at [] [] (Some x) (Some y) h k = record { tokens = refl; bad = ap (λ z. Some z) (two_troubles x y (next_token source at) h k) }
same_tokens source at [] (u ∷ us) None c h k = absurd (token_or_none u (next_token source at) k.0 h)
same_tokens source at [] (u ∷ us) (Some x) c h k = absurd (token_or_trouble u x (next_token source at) k.0 h)
same_tokens source at (t ∷ ts) [] b None h k = absurd (token_or_none t (next_token source at) h.0 k)
same_tokens source at (t ∷ ts) [] b (Some y) h k = absurd (token_or_trouble t y (next_token source at) h.0 k)
same_tokens source at (t ∷ ts) (u ∷ us) b c h k =
    let same : t ≡ u = two_tokens t u (next_token source at) h.0 k.0 in
    let rest = same_tokens source t.end ts us b c h.1 (subst (λ x. TokensFrom source x.end us c) (sym same) k.1) in
    record { tokens = ap (λ x. x ∷ ts) same ∙ ap (λ l. u ∷ l) rest.tokens; bad = rest.bad }
