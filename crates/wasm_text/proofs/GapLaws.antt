-- Separators and comments end where the grammar has their end.
use Rattle.std.proofs.Common.{◌≡◌, ℕ, suc, ◌+◌, ◌-◌, ◌<◌, ◌≤◌, Bool, true, false, cond, List, [], ◌∷◌, ◌++◌, length, drop, flat_map, Option, Some, None, Result, Ok, Err, refl, sym, ap, subst, ◌∙◌, arith, length-append, append_assoc}
use Rattle.std.specs.Prelude.{◌==◌, ◌&&◌, ◌||◌, nat_lt, slice_index}
use Rattle.std.proofs.lemmas.Bool.Decides.{nat_tests}
use Rattle.wasm_text.specs.declared.tokens.LexBad.{LexBad}
use Rattle.wasm_text.specs.declared.tokens.LexReason.TheVariants.{OpenComment}
use Rattle.wasm_text.specs.Characters.{is_space, is_in_line}
use Rattle.wasm_text.specs.Comments.{inside_text}
use Rattle.wasm_text.specs.Lexing.{run_end, comment_end, comment_at, past_comment, gap_end}
use Rattle.wasm_text.specs.Tokens.{AllPass, Gap, Space, Line, Block, gap_text, EndsLine, IsGap, AreGaps}
use Rattle.wasm_text.proofs.CommentLaws.{closes_at, comment_closes, first_false as not_either}
use Rattle.wasm_text.proofs.Choosing.{by_test, by_bool, ok_is, refuses, is_number, not_before, before, is_before, is_not_before, no_items, same_end, some_is as end_is}
use Rattle.std.proofs.lemmas.Bool.{cond-true as holds, cond-false as fails, and_parts as both_of}

-- ---- runs

abbrev pub Stops : (ℕ → Bool) → List ℕ → Type 0
Stops test [] = Unit {0}
Stops test (c ∷ rest) = test c ≡ false

pub run_spelled : (test : ℕ → Bool) (at : ℕ) (u w : List ℕ) → AllPass test u → Stops test w → run_end test at (u ++ w) ≡ at + length u
run_spelled test at [] [] all stops = (let same : at ≡ at + 0 = omega arith in same)
run_spelled test at [] (c ∷ w) all stops = fails (test c) (run_end test (at + 1) w) at stops ∙ (let same : at ≡ at + 0 = omega arith in same)
run_spelled test at (c ∷ u) w all stops =
    holds (test c) (run_end test (at + 1) (u ++ w)) at all.0 ∙ run_spelled test (at + 1) u w all.1 stops
    ∙ (let same : at + 1 + length u ≡ at + length (c ∷ u) = omega arith in same)

pub record Run (test : ℕ → Bool) (at : ℕ) (text : List ℕ) : Type 0 where
  pub run : List ℕ
  pub after : List ℕ
  pub all : AllPass test run
  pub stops : Stops test after
  pub is : text ≡ run ++ after
  pub place : run_end test at text ≡ at + length run

run_on : (test : ℕ → Bool) (at c : ℕ) (rest : List ℕ) → test c ≡ true → Run test (at + 1) rest → Run test at (c ∷ rest)
run_on test at c rest e r = record {
  run = c ∷ r.run;
  after = r.after;
  all = (e, r.all);
  stops = r.stops;
  is = ap (λ t. c ∷ t) r.is;
  place = holds (test c) (run_end test (at + 1) rest) at e ∙ r.place ∙ (let same : at + 1 + length r.run ≡ at + length (c ∷ r.run) = omega arith in same);
}

run_stops : (test : ℕ → Bool) (at c : ℕ) (rest : List ℕ) → test c ≡ false → Run test at (c ∷ rest)
run_stops test at c rest e = record {
  run = [];
  after = c ∷ rest;
  all = tt;
  stops = e;
  is = refl;
  place = fails (test c) (run_end test (at + 1) rest) at e ∙ (let same : at ≡ at + 0 = omega arith in same);
}

pub run_found : (test : ℕ → Bool) (at : ℕ) (text : List ℕ) → Run test at text
run_found test at [] = record { run = []; after = []; all = tt; stops = tt; is = refl; place = (let same : at ≡ at + 0 = omega arith in same) }
run_found test at (c ∷ rest) = by_bool (test c) (Run test at (c ∷ rest)) (λ e. run_on test at c rest e (run_found test (at + 1) rest)) (λ e. run_stops test at c rest e)

line_stops : (text : List ℕ) → EndsLine text → Stops is_in_line text
line_stops [] h = tt
line_stops (c ∷ rest) h = h

line_ends : (text : List ℕ) → Stops is_in_line text → EndsLine text
line_ends [] h = tt
line_ends (c ∷ rest) h = h

-- ---- what is spelled is found

abbrev pub gap_step : ℕ → ℕ → Bool → ℕ → List ℕ → Result ℕ LexBad
gap_step from at passes c rest = cond passes (gap_end from (at + 1) rest) (past_comment at (comment_at at c rest) (λ next. gap_end next (at + 1) rest))

pub reached : (from at : ℕ) (text : List ℕ) → from ≤ at → gap_end from at text ≡ gap_end 0 at text
reached from at [] le = refl
reached from at (c ∷ rest) le =
    ap (λ b. gap_step from at (b || is_space c) c rest) (not_before at from le ∙ sym (not_before at 0 (omega arith)))
    ∙ ap (λ g. cond (nat_lt at 0 || is_space c) g (past_comment at (comment_at at c rest) (λ n. gap_end n (at + 1) rest))) (reached from (at + 1) rest (omega arith))

skips : (at : ℕ) (u w : List ℕ) → gap_end (at + length u) at (u ++ w) ≡ gap_end 0 (at + length u) w
skips at [] w =
    let same : at + 0 ≡ at = omega arith in
    ap (λ k. gap_end k at w) same ∙ reached at at w (omega arith) ∙ ap (λ k. gap_end 0 k w) (sym same)
skips at (c ∷ u) w =
    let all = at + length (c ∷ u) in
    let same : at + 1 + length u ≡ at + length (c ∷ u) = omega arith in
    ap (λ b. gap_step all at (b || is_space c) c (u ++ w)) (before at all (omega arith))
    ∙ ap (λ k. gap_end k (at + 1) (u ++ w)) (sym same) ∙ skips (at + 1) u w ∙ ap (λ k. gap_end 0 k w) same

pub from_0 : (at c : ℕ) (rest : List ℕ) → gap_end 0 at (c ∷ rest) ≡ gap_step 0 at (is_space c) c rest
from_0 at c rest = ap (λ b. gap_step 0 at (b || is_space c) c rest) (not_before at 0 (omega arith))

gap_on : (at : ℕ) (gap : Gap) (w : List ℕ) → IsGap gap w → gap_end 0 at (gap_text gap ++ w) ≡ gap_end 0 (at + length (gap_text gap)) w
gap_on at (Space c) w good = from_0 at c w ∙ ap (λ b. gap_step 0 at b c w) good
gap_on at (Line chars) w good =
    let rest = 0x3B ∷ chars ++ w in
    let same : at + 2 + length chars ≡ at + 1 + length (0x3B ∷ chars) = omega arith in
    let all : at + 1 + length (0x3B ∷ chars) ≡ at + length (0x3B ∷ 0x3B ∷ chars) = omega arith in
    from_0 at 0x3B rest
    ∙ ap (λ k. gap_end k (at + 1) rest) (run_spelled is_in_line (at + 2) chars w good.0 (line_stops w good.1) ∙ same)
    ∙ skips (at + 1) (0x3B ∷ chars) w ∙ ap (λ k. gap_end 0 k w) all
gap_on at (Block inside) w good =
    let text = inside_text inside in
    let rest = 0x3B ∷ text ++ w in
    let same : at + 2 + length text ≡ at + 1 + length (0x3B ∷ text) = omega arith in
    let all : at + 1 + length (0x3B ∷ text) ≡ at + length (0x28 ∷ 0x3B ∷ text) = omega arith in
    from_0 at 0x28 rest
    ∙ ap (λ end. past_comment at (Some end) (λ next. gap_end next (at + 1) rest)) (closes_at inside 0 (at + 2) w good ∙ ap (λ k. Some k) same)
    ∙ skips (at + 1) (0x3B ∷ text) w ∙ ap (λ k. gap_end 0 k w) all

pub gaps_spelled : (at : ℕ) (gaps : List Gap) (w : List ℕ) → AreGaps gaps w → gap_end 0 at (flat_map gap_text gaps ++ w) ≡ gap_end 0 (at + length (flat_map gap_text gaps)) w
gaps_spelled at [] w good = (let same : at ≡ at + 0 = omega arith in ap (λ k. gap_end 0 k w) same)
gaps_spelled at (gap ∷ gaps) w good =
    let here = gap_text gap in
    let rest = flat_map gap_text gaps in
    ap (λ t. gap_end 0 at t) (append_assoc here rest w) ∙ gap_on at gap (rest ++ w) good.0 ∙ gaps_spelled (at + length here) gaps w good.1
    ∙ (let same : at + length here + length rest ≡ at + length (here ++ rest) = omega (arith, length-append here rest) in ap (λ k. gap_end 0 k w) same)

-- ---- what is found is spelled

pub record GapRest (from at n : ℕ) (text : List ℕ) : Type 0 where
  pub skipped : List ℕ
  pub gaps : List Gap
  pub left : List ℕ
  pub good : AreGaps gaps left
  pub is : text ≡ skipped ++ (flat_map gap_text gaps ++ left)
  pub skips : length skipped ≡ from - at
  pub place : n + length left ≡ at + length text
  pub stops : gap_end 0 n left ≡ Ok n

skip_case : (from at n c : ℕ) (rest : List ℕ) → at < from → GapRest from (at + 1) n rest → GapRest from at n (c ∷ rest)
skip_case from at n c rest lt s = record {
  skipped = c ∷ s.skipped;
  gaps = s.gaps;
  left = s.left;
  good = s.good;
  is = ap (λ t. c ∷ t) s.is;
  skips = omega (arith, s.skips);
  place = omega (arith, s.place);
  stops = s.stops;
}

pub none_skipped : (from at n : ℕ) (text : List ℕ) → from ≤ at → (s : GapRest from at n text) → text ≡ flat_map gap_text s.gaps ++ s.left
none_skipped from at n text le s = s.is ∙ ap (λ l. l ++ (flat_map gap_text s.gaps ++ s.left)) (no_items s.skipped (omega (arith, s.skips)))

space_case : (from at n c : ℕ) (rest : List ℕ) → from ≤ at → is_space c ≡ true → GapRest from (at + 1) n rest → GapRest from at n (c ∷ rest)
space_case from at n c rest le space s = record {
  skipped = [];
  gaps = Space c ∷ s.gaps;
  left = s.left;
  good = (space, s.good);
  is = ap (λ t. c ∷ t) (none_skipped from (at + 1) n rest (omega arith) s);
  skips = omega arith;
  place = omega (arith, s.place);
  stops = s.stops;
}

stop_case : (from at n : ℕ) (text : List ℕ) → from ≤ at → gap_end from at text ≡ Ok n → at ≡ n → GapRest from at n text
stop_case from at n text le found e = record {
  skipped = [];
  gaps = [];
  left = text;
  good = tt;
  is = refl;
  skips = omega arith;
  place = omega arith;
  stops = ap (λ k. gap_end 0 k text) (sym e) ∙ sym (reached from at text le) ∙ found;
}

-- a comment comes first, of this text after its first character, and then what was found from its end on
comment_case : (from at n end : ℕ) (gap : Gap) (c : ℕ) (text after rest : List ℕ) → from ≤ at → gap_text gap ≡ c ∷ text → rest ≡ text ++ after → IsGap gap after → end ≡ at + 1 + length text
    → GapRest end (at + 1) n rest → GapRest from at n (c ∷ rest)
comment_case from at n end gap c text after rest le here is good place s =
    let more = flat_map gap_text s.gaps ++ s.left in
    let same : after ≡ more = same_end text s.skipped after more (sym is ∙ s.is) (omega (arith, place, s.skips)) in
    record {
      skipped = [];
      gaps = gap ∷ s.gaps;
      left = s.left;
      good = (subst (λ t. IsGap gap t) same good, s.good);
      is = ap (λ t. c ∷ t) (is ∙ ap (λ t. text ++ t) same) ∙ ap (λ t. t ++ more) (sym here) ∙ sym (append_assoc (gap_text gap) (flat_map gap_text s.gaps) s.left);
      skips = omega arith;
      place = omega (arith, s.place);
      stops = s.stops;
    }

first_is : (rest : List ℕ) (c : ℕ) → slice_index rest 0 ≡ suc c → rest ≡ suc c ∷ drop 1 rest
first_is [] c e = absurd (omega arith)
first_is (d ∷ rest) c e = ap (λ x. x ∷ rest) e

line_case : (from at n end c : ℕ) (rest : List ℕ) → from ≤ at → c ≡ 0x3B → rest ≡ 0x3B ∷ drop 1 rest → run_end is_in_line (at + 2) (drop 1 rest) ≡ end → GapRest end (at + 1) n rest → GapRest from at n (c ∷ rest)
line_case from at n end c rest le first second is s =
    let run = run_found is_in_line (at + 2) (drop 1 rest) in
    let place : end ≡ at + 1 + length (0x3B ∷ run.run) = sym is ∙ run.place ∙ (let same : at + 2 + length run.run ≡ at + 1 + length (0x3B ∷ run.run) = omega arith in same) in
    subst (λ x. GapRest from at n (x ∷ rest)) (sym first)
    (comment_case from at n end (Line run.run) 0x3B (0x3B ∷ run.run) run.after rest le refl (second ∙ ap (λ t. 0x3B ∷ t) run.is) (run.all, line_ends run.after run.stops) place s)

block_case : (from at n end c : ℕ) (rest : List ℕ) → from ≤ at → c ≡ 0x28 → rest ≡ 0x3B ∷ drop 1 rest → comment_end 0 (at + 2) (drop 1 rest) ≡ Some end → GapRest end (at + 1) n rest → GapRest from at n (c ∷ rest)
block_case from at n end c rest le first second is s =
    let found = comment_closes (at + 2) end (drop 1 rest) is in
    let inside = found.1.inside in
    let text = inside_text inside in
    let place : end ≡ at + 1 + length (0x3B ∷ text) = omega (arith, found.2, ap length found.1.is, length-append text found.0) in
    subst (λ x. GapRest from at n (x ∷ rest)) (sym first)
    (comment_case from at n end (Block inside) 0x28 (0x3B ∷ text) found.0 rest le refl (second ∙ ap (λ t. 0x3B ∷ t) found.1.is) found.1.good place s)

some_is : (a b : Option ℕ) → (let r : Option (Option ℕ) = Some a in r) ≡ Some b → a ≡ b
some_is a b e = cc

none_some : (a : Option ℕ) → (let r : Option (Option ℕ) = None in r) ≡ Some a → ⊥
none_some a e = cc

-- which comment was found
which_comment : (from at n end c : ℕ) (rest : List ℕ) → from ≤ at → comment_at at c rest ≡ Some (Some end) → GapRest end (at + 1) n rest → GapRest from at n (c ∷ rest)
which_comment from at n end c rest le e s =
    let P = GapRest from at n (c ∷ rest) in
    let wanted : Option (Option ℕ) = Some (Some end) in
    let line : Option (Option ℕ) = Some (Some (run_end is_in_line (at + 2) (drop 1 rest))) in
    let block : Option (Option ℕ) = Some (comment_end 0 (at + 2) (drop 1 rest)) in
    let none : Option (Option ℕ) = None in
    by_test (c == 0x3B && slice_index rest 0 == 0x3B) line (cond (c == 0x28 && slice_index rest 0 == 0x3B) block none) wanted P
    (λ is f. let both = both_of (c == 0x3B) (slice_index rest 0 == 0x3B) is in
    line_case from at n end c rest le (is_number c 0x3B both.0) (first_is rest 0x3A (is_number (slice_index rest 0) 0x3B both.1))
    (end_is (run_end is_in_line (at + 2) (drop 1 rest)) end (some_is (Some (run_end is_in_line (at + 2) (drop 1 rest))) (Some end) f)) s)
    (λ not f. by_test (c == 0x28 && slice_index rest 0 == 0x3B) block none wanted P
    (λ is g. let both = both_of (c == 0x28) (slice_index rest 0 == 0x3B) is in
    block_case from at n end c rest le (is_number c 0x28 both.0) (first_is rest 0x3A (is_number (slice_index rest 0) 0x3B both.1)) (some_is (comment_end 0 (at + 2) (drop 1 rest)) (Some end) g) s)
    (λ nor g. absurd (none_some (Some end) g)) f) e

-- no comment ends past the text
comment_bound : (at end c : ℕ) (rest : List ℕ) → comment_at at c rest ≡ Some (Some end) → end ≤ at + 1 + length rest
comment_bound at end c rest e =
    let P = end ≤ at + 1 + length rest in
    let wanted : Option (Option ℕ) = Some (Some end) in
    let line : Option (Option ℕ) = Some (Some (run_end is_in_line (at + 2) (drop 1 rest))) in
    let block : Option (Option ℕ) = Some (comment_end 0 (at + 2) (drop 1 rest)) in
    let none : Option (Option ℕ) = None in
    by_test (c == 0x3B && slice_index rest 0 == 0x3B) line (cond (c == 0x28 && slice_index rest 0 == 0x3B) block none) wanted P
    (λ is f. let both = both_of (c == 0x3B) (slice_index rest 0 == 0x3B) is in
    let second = first_is rest 0x3A (is_number (slice_index rest 0) 0x3B both.1) in
    let run = run_found is_in_line (at + 2) (drop 1 rest) in
    let place : run_end is_in_line (at + 2) (drop 1 rest) ≡ end = end_is (run_end is_in_line (at + 2) (drop 1 rest)) end (some_is (Some (run_end is_in_line (at + 2) (drop 1 rest))) (Some end) f) in
    omega (arith, place, run.place, ap length run.is, length-append run.run run.after, ap length second))
    (λ not f. by_test (c == 0x28 && slice_index rest 0 == 0x3B) block none wanted P
    (λ is g. let both = both_of (c == 0x28) (slice_index rest 0 == 0x3B) is in
    let second = first_is rest 0x3A (is_number (slice_index rest 0) 0x3B both.1) in
    let found = comment_closes (at + 2) end (drop 1 rest) (some_is (comment_end 0 (at + 2) (drop 1 rest)) (Some end) g) in
    omega (arith, found.2, ap length second))
    (λ nor g. absurd (none_some (Some end) g)) f) e

past_found : (from at n c : ℕ) (rest : List ℕ) → from ≤ at → gap_end from at (c ∷ rest) ≡ Ok n → ((next : ℕ) → next ≤ at + 1 + length rest → gap_end next (at + 1) rest ≡ Ok n → GapRest next (at + 1) n rest)
    → (found : Option (Option ℕ)) → comment_at at c rest ≡ found → past_comment at found (λ next. gap_end next (at + 1) rest) ≡ Ok n → GapRest from at n (c ∷ rest)
past_found from at n c rest le whole others None is e = stop_case from at n (c ∷ rest) le whole (ok_is at n e)
past_found from at n c rest le whole others (Some None) is e = absurd (refuses (record { reason = OpenComment; at = at }) n e)
past_found from at n c rest le whole others (Some (Some end)) is e = which_comment from at n end c rest le is (others end (comment_bound at end c rest is) e)

passes_case : (from at n c : ℕ) (rest : List ℕ) → (nat_lt at from || is_space c) ≡ true → GapRest from (at + 1) n rest → GapRest from at n (c ∷ rest)
passes_case from at n c rest e s =
    by_bool (nat_lt at from) (GapRest from at n (c ∷ rest)) (λ lt. skip_case from at n c rest (is_before at from lt) s)
    (λ ge. space_case from at n c rest (is_not_before at from ge) (ap (λ b. b || is_space c) (sym ge) ∙ e) s)

-- nothing is skipped past the end of a text
end_case : (from at n : ℕ) → at ≡ n → from ≤ at → GapRest from at n []
end_case from at n e le = record { skipped = []; gaps = []; left = []; good = tt; is = refl; skips = omega arith; place = omega arith; stops = refl }

pub gap_found : (from at n : ℕ) (text : List ℕ) → from ≤ at + length text → gap_end from at text ≡ Ok n → GapRest from at n text
gap_found from at n [] le e = end_case from at n (ok_is at n e) (omega arith)
gap_found from at n (c ∷ rest) le e =
    by_test (nat_lt at from || is_space c) (gap_end from (at + 1) rest) (past_comment at (comment_at at c rest) (λ next. gap_end next (at + 1) rest)) (Ok n) (GapRest from at n (c ∷ rest))
    (λ passes f. passes_case from at n c rest passes (gap_found from (at + 1) n rest (omega arith) f))
    (λ not f. past_found from at n c rest (is_not_before at from (not_either (nat_lt at from) (is_space c) not)) e (λ next within g. gap_found next (at + 1) n rest within g) (comment_at at c rest) refl f) e
