-- The next token is the one that the grammar has next.
use Rattle.std.proofs.Common.{◌≡◌, ◌≢◌, ℕ, zero, suc, ◌+◌, ◌≤◌, Bool, true, false, cond, List, [], ◌∷◌, ◌++◌, length, drop, flat_map, Option, Some, None, Result, Ok, Err, refl, sym, ap, subst, ◌∙◌, arith, length-append, append_assoc}
use Rattle.std.specs.Prelude.{◌==◌, ◌&&◌, ◌||◌, slice_index}
use Rattle.std.proofs.lemmas.Bool.{ne_eqb, cond-true as holds, cond-false as fails, or_from as or_of}
use Rattle.std.proofs.lemmas.Bool.Decides.{nat_tests}
use Rattle.wasm_text.specs.declared.tokens.Token.{Token}
use Rattle.wasm_text.specs.declared.tokens.TokenKind.{TokenKind}
use Rattle.wasm_text.specs.declared.tokens.TokenKind.TheVariants.{Open, Close, Str, Word}
use Rattle.wasm_text.specs.declared.tokens.LexBad.{LexBad}
use Rattle.wasm_text.specs.declared.tokens.LexReason.TheVariants.{Char, OpenComment}
use Rattle.wasm_text.specs.Characters.{is_space, is_word_char, is_in_line}
use Rattle.wasm_text.specs.Lexing.{trouble, run_end, comment_end, past_comment, gap_end, string_end, token, string_token, token_at, past_gap, next_token}
use Rattle.wasm_text.specs.Strings.{piece_text, ClosesString}
use Rattle.wasm_text.specs.Tokens.{gap_text, AreGaps, IsString, IsWord, IsToken, IsNext, IsEnd}
use Rattle.wasm_text.proofs.TokenLaws.{gap_within}
use Rattle.wasm_text.proofs.GapLaws.{Stops, run_spelled, run_found, gap_step, from_0, gaps_spelled, none_skipped, gap_found}
use Rattle.wasm_text.proofs.StringLaws.{closes_string}
use Rattle.wasm_text.proofs.StringFound.{string_closes}
use Rattle.wasm_text.proofs.Choosing.{by_test, is_number, by_bool, refuses, no_items}

-- ---- what is found

pub record TokenFound (n : ℕ) (x : List ℕ) (t : Token) : Type 0 where
  pub text : List ℕ
  pub after : List ℕ
  pub token : IsToken t.kind text after
  pub is : x ≡ text ++ after
  pub start : t.start ≡ n
  pub end : t.end ≡ n + length text

abbrev made : TokenKind → ℕ → ℕ → Token
made kind start end = record { kind = kind; start = start; end = end }

token_is : (kind : TokenKind) (start end : ℕ) (t : Token) → token kind start end ≡ Ok (Some t) → made kind start end ≡ t
token_is kind start end t e = same (made kind start end) t e
  where
    same : (a b : Token) → (let r : Result (Option Token) LexBad = Ok (Some a) in r) ≡ Ok (Some b) → a ≡ b
    same a b e = cc

no_token : (bad : LexBad) (t : Token) → (let r : Result (Option Token) LexBad = Err bad in r) ≡ Ok (Some t) → ⊥
no_token bad t e = cc

none_token : (t : Token) → (let r : Result (Option Token) LexBad = Ok None in r) ≡ Ok (Some t) → ⊥
none_token t e = cc

-- a parenthesis at which no comment begins
comment_goes_on : (n : ℕ) (rest : List ℕ) (found : Option ℕ) → past_comment n (Some found) (λ next. gap_end next (n + 1) rest) ≡ Ok n → ⊥
comment_goes_on n rest None e = refuses (record { reason = OpenComment; at = n }) n e
comment_goes_on n rest (Some next) e = let within = gap_within next (n + 1) n rest e in omega (arith, within.start)

opens_none : (n : ℕ) (rest : List ℕ) → gap_end 0 n (0x28 ∷ rest) ≡ Ok n → slice_index rest 0 ≢ 0x3B
opens_none n rest stops = λ semicolon.
    let test : (slice_index rest 0 == 0x3B) ≡ true = ap (λ c. c == 0x3B) semicolon in
    let end = comment_end 0 (n + 2) (drop 1 rest) in
    let none : Option (Option ℕ) = None in
    comment_goes_on n rest end
    (ap (λ b. past_comment n (cond b (Some end) none) (λ next. gap_end next (n + 1) rest)) (sym test) ∙ sym (from_0 n 0x28 rest) ∙ stops)

open_case : (n : ℕ) (rest : List ℕ) → gap_end 0 n (0x28 ∷ rest) ≡ Ok n → TokenFound n (0x28 ∷ rest) (made Open n (n + 1))
open_case n rest stops = record { text = 0x28 ∷ []; after = rest; token = (refl, opens_none n rest stops); is = refl; start = refl; end = refl }

close_case : (n : ℕ) (rest : List ℕ) → TokenFound n (0x29 ∷ rest) (made Close n (n + 1))
close_case n rest = record { text = 0x29 ∷ []; after = rest; token = refl; is = refl; start = refl; end = refl }

string_case : (n end : ℕ) (rest : List ℕ) → string_end n 0 (n + 1) rest ≡ Ok end → TokenFound n (0x22 ∷ rest) (made Str n end)
string_case n end rest e =
    let found = string_closes n (n + 1) end rest e in
    let pieces = flat_map piece_text found.1.pieces in
    record {
      text = 0x22 ∷ pieces ++ 0x22 ∷ [];
      after = found.0;
      token = record { pieces = found.1.pieces; good = found.1.good; is = refl };
      is = ap (λ t. 0x22 ∷ t) (found.1.is ∙ sym (append_assoc pieces (0x22 ∷ []) found.0));
      start = refl;
      end = omega (arith, found.2, ap length found.1.is, length-append pieces (0x22 ∷ found.0), length-append pieces (0x22 ∷ []));
    }

string_found : (n : ℕ) (rest : List ℕ) (t : Token) (r : Result ℕ LexBad) → string_end n 0 (n + 1) rest ≡ r → string_token n r ≡ Ok (Some t) → TokenFound n (0x22 ∷ rest) t
string_found n rest t (Ok end) is e = subst (λ x. TokenFound n (0x22 ∷ rest) x) (token_is Str n end t e) (string_case n end rest is)
string_found n rest t (Err bad) is e = absurd (no_token bad t e)

stops_first : (test : ℕ → Bool) (text : List ℕ) → test 0 ≡ false → Stops test text → test (slice_index text 0) ≡ false
stops_first test [] nul stops = nul
stops_first test (c ∷ rest) nul stops = stops

word_case : (n c : ℕ) (rest : List ℕ) → is_word_char c ≡ true → TokenFound n (c ∷ rest) (made Word n (run_end is_word_char (n + 1) rest))
word_case n c rest e =
    let run = run_found is_word_char (n + 1) rest in
    record {
      text = c ∷ run.run;
      after = run.after;
      token = record { some = omega arith; all = (e, run.all); longest = stops_first is_word_char run.after refl run.stops };
      is = ap (λ t. c ∷ t) run.is;
      start = refl;
      end = omega (arith, run.place);
    }

token_found : (n : ℕ) (x : List ℕ) (t : Token) → gap_end 0 n x ≡ Ok n → token_at n x ≡ Ok (Some t) → TokenFound n x t
token_found n [] t stops e = absurd (none_token t e)
token_found n (c ∷ rest) t stops e =
    let P = TokenFound n (c ∷ rest) t in
    let wanted : Result (Option Token) LexBad = Ok (Some t) in
    let string = string_token n (string_end n 0 (n + 1) rest) in
    let word = token Word n (run_end is_word_char (n + 1) rest) in
    let none : Result (Option Token) LexBad = trouble Char n in
    let last = cond (is_word_char c) word none in
    by_test (c == 0x28) (token Open n (n + 1)) (cond (c == 0x29) (token Close n (n + 1)) (cond (c == 0x22) string last)) wanted P
    (λ is f. let same = is_number c 0x28 is in
    subst (λ d. TokenFound n (d ∷ rest) t) (sym same)
    (subst (λ y. TokenFound n (0x28 ∷ rest) y) (token_is Open n (n + 1) t f) (open_case n rest (ap (λ d. gap_end 0 n (d ∷ rest)) (sym same) ∙ stops))))
    (λ no f. by_test (c == 0x29) (token Close n (n + 1)) (cond (c == 0x22) string last) wanted P
    (λ is g. subst (λ d. TokenFound n (d ∷ rest) t) (sym (is_number c 0x29 is)) (subst (λ y. TokenFound n (0x29 ∷ rest) y) (token_is Close n (n + 1) t g) (close_case n rest)))
    (λ nor g. by_test (c == 0x22) string last wanted P
    (λ is h. subst (λ d. TokenFound n (d ∷ rest) t) (sym (is_number c 0x22 is)) (string_found n rest t (string_end n 0 (n + 1) rest) refl h))
    (λ neither h. by_test (is_word_char c) word none wanted P
    (λ is k. subst (λ y. TokenFound n (c ∷ rest) y) (token_is Word n (run_end is_word_char (n + 1) rest) t k) (word_case n c rest is))
    (λ not k. absurd (no_token (record { reason = Char; at = n }) t k)) h) g) f) e

-- ---- places

drop_seam : (u w : List ℕ) → drop (length u) (u ++ w) ≡ w
drop_seam [] w = refl
drop_seam (c ∷ u) w = drop_seam u w

drop_after : (at : ℕ) (source u w : List ℕ) → drop at source ≡ u ++ w → drop (at + length u) source ≡ w
drop_after zero source u w e =
    (let same : 0 + length u ≡ length u = omega arith in ap (λ k. drop k source) same) ∙ ap (λ l. drop (length u) l) e ∙ drop_seam u w
drop_after (suc at) [] u w e =
    let empty : length (u ++ w) ≡ 0 = ap length (sym e) in
    let nothing : w ≡ [] = no_items w (omega (arith, empty, length-append u w)) in
    (let same : suc at + length u ≡ suc (at + length u) = omega arith in ap (λ k. drop {A = ℕ} k []) same) ∙ sym nothing
drop_after (suc at) (s ∷ source) u w e =
    (let same : suc at + length u ≡ suc (at + length u) = omega arith in ap (λ k. drop k (s ∷ source)) same) ∙ drop_after at source u w e

-- ---- the next token, and the end

pub next_found : (source : List ℕ) (at : ℕ) (t : Token) → at ≤ length source → next_token source at ≡ Ok (Some t) → IsNext source at t
next_found source at t le e = go (gap_end 0 at (drop at source)) refl e
  where
    after_gap : (n : ℕ) → gap_end 0 at (drop at source) ≡ Ok n → token_at n (drop n source) ≡ Ok (Some t) → IsNext source at t
    after_gap n gap one =
        let g = gap_found 0 at n (drop at source) (omega arith) gap in
        let split : drop at source ≡ flat_map gap_text g.gaps ++ g.left = none_skipped 0 at n (drop at source) (omega arith) g in
        let place : n ≡ at + length (flat_map gap_text g.gaps) = omega (arith, g.place, ap length split, length-append (flat_map gap_text g.gaps) g.left) in
        let here : drop n source ≡ g.left = ap (λ k. drop k source) place ∙ drop_after at source (flat_map gap_text g.gaps) g.left split in
        let found = token_found n g.left t g.stops (ap (λ l. token_at n l) (sym here) ∙ one) in
        record {
          gaps = g.gaps;
          text = found.text;
          after = found.after;
          gaps_good = subst (λ l. AreGaps g.gaps l) found.is g.good;
          token = found.token;
          is = split ∙ ap (λ l. flat_map gap_text g.gaps ++ l) found.is;
          start = found.start ∙ place;
          end = found.end ∙ ap (λ k. k + length found.text) (sym found.start);
        }

    go : (r : Result ℕ LexBad) → gap_end 0 at (drop at source) ≡ r → past_gap source r ≡ Ok (Some t) → IsNext source at t
    go (Ok n) gap one = after_gap n gap one
    go (Err bad) gap one = absurd (no_token bad t one)

none_left : (n : ℕ) (x : List ℕ) → token_at n x ≡ Ok None → x ≡ []
none_left n [] e = refl
none_left n (c ∷ rest) e =
    let P = c ∷ rest ≡ [] in
    let wanted : Result (Option Token) LexBad = Ok None in
    let string = string_token n (string_end n 0 (n + 1) rest) in
    let word = token Word n (run_end is_word_char (n + 1) rest) in
    let none : Result (Option Token) LexBad = trouble Char n in
    let last = cond (is_word_char c) word none in
    by_test (c == 0x28) (token Open n (n + 1)) (cond (c == 0x29) (token Close n (n + 1)) (cond (c == 0x22) string last)) wanted P (λ is f. absurd (some_none (made Open n (n + 1)) f))
    (λ no f. by_test (c == 0x29) (token Close n (n + 1)) (cond (c == 0x22) string last) wanted P (λ is g. absurd (some_none (made Close n (n + 1)) g))
    (λ nor g. by_test (c == 0x22) string last wanted P (λ is h. absurd (string_none n (string_end n 0 (n + 1) rest) h))
    (λ neither h. by_test (is_word_char c) word none wanted P (λ is k. absurd (some_none (made Word n (run_end is_word_char (n + 1) rest)) k)) (λ not k. absurd (bad_none (record { reason = Char; at = n }) k)) h) g) f) e
  where
    some_none : (t : Token) → (let r : Result (Option Token) LexBad = Ok (Some t) in r) ≡ Ok None → ⊥
    some_none t e = cc

    bad_none : (bad : LexBad) → (let r : Result (Option Token) LexBad = Err bad in r) ≡ Ok None → ⊥
    bad_none bad e = cc

    string_none : (start : ℕ) (r : Result ℕ LexBad) → string_token start r ≡ Ok None → ⊥
    string_none start (Ok end) e = some_none (made Str start end) e
    string_none start (Err bad) e = bad_none bad e

pub end_found : (source : List ℕ) (at : ℕ) → at ≤ length source → next_token source at ≡ Ok None → IsEnd source at
end_found source at le e = go (gap_end 0 at (drop at source)) refl e
  where
    after_gap : (n : ℕ) → gap_end 0 at (drop at source) ≡ Ok n → token_at n (drop n source) ≡ Ok None → IsEnd source at
    after_gap n gap one =
        let g = gap_found 0 at n (drop at source) (omega arith) gap in
        let split : drop at source ≡ flat_map gap_text g.gaps ++ g.left = none_skipped 0 at n (drop at source) (omega arith) g in
        let place : n ≡ at + length (flat_map gap_text g.gaps) = omega (arith, g.place, ap length split, length-append (flat_map gap_text g.gaps) g.left) in
        let here : drop n source ≡ g.left = ap (λ k. drop k source) place ∙ drop_after at source (flat_map gap_text g.gaps) g.left split in
        let nothing : g.left ≡ [] = none_left n g.left (ap (λ l. token_at n l) (sym here) ∙ one) in
        record {
          gaps = g.gaps;
          gaps_good = subst (λ l. AreGaps g.gaps l) nothing g.good;
          is = split ∙ ap (λ l. flat_map gap_text g.gaps ++ l) nothing;
        }

    bad_none : (bad : LexBad) → (let r : Result (Option Token) LexBad = Err bad in r) ≡ Ok None → ⊥
    bad_none bad e = cc

    go : (r : Result ℕ LexBad) → gap_end 0 at (drop at source) ≡ r → past_gap source r ≡ Ok None → IsEnd source at
    go (Ok n) gap one = after_gap n gap one
    go (Err bad) gap one = absurd (bad_none bad one)

-- ---- what is spelled

-- a character of words is none of these
word_is_not : (c k : ℕ) → is_word_char c ≡ true → is_word_char k ≡ false → (c == k) ≡ false
word_is_not c k word not =
    by_bool (c == k) ((c == k) ≡ false) (λ e. absurd (both_ways (is_word_char c) word (ap is_word_char (is_number c k e) ∙ not))) (λ e. e)
  where
    both_ways : (b : Bool) → b ≡ true → b ≡ false → ⊥
    both_ways b e f = cc

word_no_space : (c : ℕ) → is_word_char c ≡ true → is_space c ≡ false
word_no_space c word =
    or_of (c == 0x20 || c == 0x09 || c == 0x0A) (c == 0x0D)
    (or_of (c == 0x20 || c == 0x09) (c == 0x0A) (or_of (c == 0x20) (c == 0x09) (word_is_not c 0x20 word refl) (word_is_not c 0x09 word refl)) (word_is_not c 0x0A word refl))
    (word_is_not c 0x0D word refl)

and_of : (a b : Bool) → a ≡ false → (a && b) ≡ false
and_of a b e = ap (λ x. x && b) e

-- the token stands where it is looked for
pub record Stands (kind : TokenKind) (n : ℕ) (text after : List ℕ) : Type 0 where
  pub stops : gap_end 0 n (text ++ after) ≡ Ok n
  pub token : token_at n (text ++ after) ≡ token kind n (n + length text)

open_stands : (n : ℕ) (after : List ℕ) → slice_index after 0 ≢ 0x3B → Stands Open n (0x28 ∷ []) after
open_stands n after ne =
    let end = comment_end 0 (n + 2) (drop 1 after) in
    let none : Option (Option ℕ) = None in
    record {
      stops = from_0 n 0x28 after ∙ ap (λ b. past_comment n (cond b (Some end) none) (λ next. gap_end next (n + 1) after)) (ne_eqb (slice_index after 0) 0x3B ne);
      token = refl;
    }

string_stands : (n : ℕ) (after text : List ℕ) → IsString text → Stands Str n text after
string_stands n after text s =
    let pieces = flat_map piece_text s.pieces in
    let inner = pieces ++ 0x22 ∷ [] in
    let rest = inner ++ after in
    let closes : ClosesString rest after = record { pieces = s.pieces; good = s.good; is = append_assoc pieces (0x22 ∷ []) after } in
    let end : string_end n 0 (n + 1) rest ≡ Ok (n + length (0x22 ∷ inner)) = closes_string n (n + 1) (n + length (0x22 ∷ inner)) rest after closes (omega (arith, length-append inner after)) in
    subst (λ t. Stands Str n t after) (sym s.is)
    (record { stops = from_0 n 0x22 rest; token = ap (λ r. string_token n r) end })

after_stops : (after : List ℕ) → is_word_char (slice_index after 0) ≡ false → Stops is_word_char after
after_stops [] e = tt
after_stops (c ∷ rest) e = e

word_stands : (n : ℕ) (text after : List ℕ) → IsWord text after → Stands Word n text after
word_stands n [] after w = absurd (omega (arith, w.some))
word_stands n (c ∷ rest) after w =
    let word = w.all.0 in
    let more = rest ++ after in
    let none : Option (Option ℕ) = None in
    let line : Option (Option ℕ) = Some (Some (run_end is_in_line (n + 2) (drop 1 more))) in
    let block : Option (Option ℕ) = Some (comment_end 0 (n + 2) (drop 1 more)) in
    let string = string_token n (string_end n 0 (n + 1) more) in
    let one = token Word n (run_end is_word_char (n + 1) more) in
    let bad : Result (Option Token) LexBad = trouble Char n in
    record {
      stops = from_0 n c more ∙ ap (λ b. gap_step 0 n b c more) (word_no_space c word)
          ∙ ap (λ f. past_comment n f (λ next. gap_end next (n + 1) more))
          (fails (c == 0x3B && slice_index more 0 == 0x3B) line (cond (c == 0x28 && slice_index more 0 == 0x3B) block none) (and_of (c == 0x3B) (slice_index more 0 == 0x3B) (word_is_not c 0x3B word refl))
          ∙ fails (c == 0x28 && slice_index more 0 == 0x3B) block none (and_of (c == 0x28) (slice_index more 0 == 0x3B) (word_is_not c 0x28 word refl)));
      token = fails (c == 0x28) (token Open n (n + 1)) (cond (c == 0x29) (token Close n (n + 1)) (cond (c == 0x22) string (cond (is_word_char c) one bad))) (word_is_not c 0x28 word refl)
          ∙ fails (c == 0x29) (token Close n (n + 1)) (cond (c == 0x22) string (cond (is_word_char c) one bad)) (word_is_not c 0x29 word refl)
          ∙ fails (c == 0x22) string (cond (is_word_char c) one bad) (word_is_not c 0x22 word refl)
          ∙ holds (is_word_char c) one bad word
          ∙ ap (λ end. token Word n end) (run_spelled is_word_char (n + 1) rest after w.all.1 (after_stops after w.longest) ∙ (let same : n + 1 + length rest ≡ n + length (c ∷ rest) = omega arith in same));
    }

stands : (kind : TokenKind) (n : ℕ) (text after : List ℕ) → IsToken kind text after → Stands kind n text after
stands Open n text after t = subst (λ x. Stands Open n x after) (sym t.0) (open_stands n after t.1)
stands Close n text after t = subst (λ x. Stands Close n x after) (sym t) (record { stops = from_0 n 0x29 after; token = refl })
stands Str n text after t = string_stands n after text t
stands Word n text after t = word_stands n text after t

pub next_spelled : (source : List ℕ) (at : ℕ) (t : Token) → IsNext source at t → next_token source at ≡ Ok (Some t)
next_spelled source at t next =
    let gaps = flat_map gap_text next.gaps in
    let n = at + length gaps in
    let rest = next.text ++ next.after in
    let s = stands t.kind n next.text next.after next.token in
    let gap : gap_end 0 at (drop at source) ≡ Ok n = ap (λ l. gap_end 0 at l) next.is ∙ gaps_spelled at next.gaps rest next.gaps_good ∙ s.stops in
    let here : drop n source ≡ rest = drop_after at source gaps rest next.is in
    let end : n + length next.text ≡ t.end = ap (λ k. k + length next.text) (sym next.start) ∙ sym next.end in
    ap (λ r. past_gap source r) gap ∙ ap (λ l. token_at n l) here ∙ s.token
    ∙ ap (λ k. token t.kind n k) end ∙ ap (λ k. token t.kind k t.end) (sym next.start)

pub end_spelled : (source : List ℕ) (at : ℕ) → IsEnd source at → next_token source at ≡ Ok None
end_spelled source at end =
    let gaps = flat_map gap_text end.gaps in
    let n = at + length gaps in
    let gap : gap_end 0 at (drop at source) ≡ Ok n = ap (λ l. gap_end 0 at l) end.is ∙ gaps_spelled at end.gaps [] end.gaps_good in
    let here : drop n source ≡ [] = drop_after at source gaps [] end.is in
    ap (λ r. past_gap source r) gap ∙ ap (λ l. token_at n l) here
