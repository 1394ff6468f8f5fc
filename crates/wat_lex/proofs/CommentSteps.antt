-- Comments and separators, one step further.
use Rattle.std.proofs.Common.{◌≡◌, ℕ, zero, suc, ◌+◌, ◌-◌, ◌<◌, ◌≤◌, Bool, true, false, cond, List, [], ◌∷◌, length, drop, get_or, Option, Some, None, Result, Ok, refl, sym, ap, subst, ◌∙◌, arith, length-drop}
use Rattle.std.specs.Prelude.{◌==◌, ◌&&◌, ◌||◌, nat_lt, slice_index}
use Rattle.std.proofs.lemmas.Bool.Decides.{nat_tests}
use Rattle.std.proofs.lemmas.List.{drop_more}
use Rattle.std.proofs.Math.ListN.{drop_of_length-le}
use Rattle.wasm_text.specs.declared.tokens.LexBad.{LexBad}
use Rattle.wasm_text.specs.Characters.{is_space}
use Rattle.wasm_text.specs.Lexing.{comment_end, comment_at, past_comment, gap_end}
use Rattle.wasm_text.proofs.Choosing.{before, not_before as not_before_any}
use Rattle.std.proofs.lemmas.Bool.{or_left as or_true}

-- ---- block comments

comment_cons : (inner at c : ℕ) (rest : List ℕ) → 0 < length rest
    → comment_end inner at (c ∷ rest)
    ≡ cond (c == 0x28 && slice_index rest 0 == 0x3B) (comment_end (inner + 1) (at + 2) (drop 1 rest))
    (cond (c == 0x3B && slice_index rest 0 == 0x29) (cond (inner == 0) (Some (at + 2)) (comment_end (inner - 1) (at + 2) (drop 1 rest)))
    (comment_end inner (at + 1) rest))
comment_cons inner at c [] some = absurd (omega arith)
comment_cons inner at c (d ∷ rest) some = refl

drop_two : (s : List ℕ) (i : ℕ) → i + 1 < length s → drop 1 (drop (i + 1) s) ≡ drop (i + 2) s
drop_two s i lt = ap (λ l. drop 1 l) (drop_more s (i + 1) 0 lt) ∙ (let e : i + 1 + 1 ≡ i + 2 = omega arith in ap (λ n. drop n s) e)

pub comment_on : (s : List ℕ) (inner i : ℕ) → i + 1 < length s
    → comment_end inner i (drop i s)
    ≡ cond (slice_index s i == 0x28 && slice_index (drop (i + 1) s) 0 == 0x3B) (comment_end (inner + 1) (i + 2) (drop (i + 2) s))
    (cond (slice_index s i == 0x3B && slice_index (drop (i + 1) s) 0 == 0x29) (cond (inner == 0) (Some (i + 2)) (comment_end (inner - 1) (i + 2) (drop (i + 2) s)))
    (comment_end inner (i + 1) (drop (i + 1) s)))
comment_on s inner i lt =
    let c = slice_index s i in
    let rest = drop (i + 1) s in
    let here : i < length s = omega arith in
    let some : 0 < length rest = omega (arith, length-drop (i + 1) s) in
    ap (λ l. comment_end inner i l) (drop_more s i 0 here) ∙ comment_cons inner i c rest some
    ∙ ap (λ l. cond (c == 0x28 && slice_index rest 0 == 0x3B) (comment_end (inner + 1) (i + 2) l)
    (cond (c == 0x3B && slice_index rest 0 == 0x29) (cond (inner == 0) (Some (i + 2)) (comment_end (inner - 1) (i + 2) l)) (comment_end inner (i + 1) rest))) (drop_two s i lt)

pub comment_over : (s : List ℕ) (inner i : ℕ) → length s ≤ i + 1 → comment_end inner i (drop i s) ≡ None
comment_over s inner i le = short (drop i s) (omega (arith, length-drop i s))
  where
    short : (text : List ℕ) → length text ≤ 1 → comment_end inner i text ≡ None
    short [] h = refl
    short (c ∷ []) h = refl
    short (c ∷ d ∷ rest) h = absurd (omega arith)

-- ---- separators and comments

not_before : (i : ℕ) → nat_lt i 0 ≡ false
not_before i = grind (arith, nat_tests)

or_of : (a b : Bool) → a ≡ false → (a || b) ≡ b
or_of true b e = absurd cc
or_of false b e = refl

abbrev gap_step : ℕ → List ℕ → ℕ → Bool → Result ℕ LexBad
gap_step from s i passes =
    cond passes (gap_end from (i + 1) (drop (i + 1) s)) (past_comment i (comment_at i (get_or s i 0) (drop (i + 1) s)) (λ next. gap_end next (i + 1) (drop (i + 1) s)))

gap_cons : (from : ℕ) (s : List ℕ) (i : ℕ) → i < length s → gap_end from i (drop i s) ≡ gap_step from s i (nat_lt i from || is_space (get_or s i 0))
gap_cons from s i lt = ap (λ l. gap_end from i l) (drop_more s i 0 lt)

gap_from_0 : (s : List ℕ) (i : ℕ) (space : Bool) → i < length s → is_space (get_or s i 0) ≡ space → gap_end 0 i (drop i s) ≡ gap_step 0 s i space
gap_from_0 s i space lt e =
    gap_cons 0 s i lt ∙ ap (λ b. gap_step 0 s i b) (or_of (nat_lt i 0) (is_space (get_or s i 0)) (not_before i) ∙ e)

pub gap_space : (s : List ℕ) (i : ℕ) → i < length s → is_space (get_or s i 0) ≡ true → gap_end 0 i (drop i s) ≡ gap_end 0 (i + 1) (drop (i + 1) s)
gap_space s i lt e = gap_from_0 s i true lt e

pub gap_comment : (s : List ℕ) (i : ℕ) (found : Option (Option ℕ)) → i < length s → is_space (get_or s i 0) ≡ false → found ≡ comment_at i (get_or s i 0) (drop (i + 1) s)
    → gap_end 0 i (drop i s) ≡ past_comment i found (λ next. gap_end next (i + 1) (drop (i + 1) s))
gap_comment s i found lt e is =
    gap_from_0 s i false lt e ∙ ap (λ f. past_comment i f (λ next. gap_end next (i + 1) (drop (i + 1) s))) (sym is)

pub gap_over : (s : List ℕ) (i : ℕ) → length s ≤ i → gap_end 0 i (drop i s) ≡ Ok i
gap_over s i le = ap (λ l. gap_end 0 i l) (drop_of_length-le s le)

-- a place that is passed already says nothing
gap_reached : (from at : ℕ) (text : List ℕ) → from ≤ at → gap_end from at text ≡ gap_end 0 at text
gap_reached from at [] le = refl
gap_reached from at (c ∷ rest) le =
    let next : from ≤ at + 1 = omega arith in
    ap (λ b. cond (b || is_space c) (gap_end from (at + 1) rest) (past_comment at (comment_at at c rest) (λ n. gap_end n (at + 1) rest))) (not_before_any at from le ∙ sym (not_before at))
    ∙ ap (λ g. cond (nat_lt at 0 || is_space c) g (past_comment at (comment_at at c rest) (λ n. gap_end n (at + 1) rest))) (gap_reached from (at + 1) rest next)

-- what belongs to a comment is passed
pub gap_skips : (s : List ℕ) (k at from : ℕ) → from ≡ at + k → from ≤ length s → gap_end from at (drop at s) ≡ gap_end 0 from (drop from s)
gap_skips s zero at from e le =
    let same : at ≡ from = omega arith in
    subst (λ n. gap_end from n (drop n s) ≡ gap_end 0 from (drop from s)) (sym same) (gap_reached from from (drop from s) (omega arith))
gap_skips s (suc k) at from e le =
    let here : at < length s = omega arith in
    gap_cons from s at here
    ∙ ap (λ b. gap_step from s at b) (or_true (nat_lt at from) (is_space (get_or s at 0)) (before at from (omega arith)))
    ∙ gap_skips s k (at + 1) from (omega arith) le

pub gap_passes : (s : List ℕ) (i next : ℕ) → i < length s → is_space (get_or s i 0) ≡ false → (let found : Option (Option ℕ) = Some (Some next) in found) ≡ comment_at i (get_or s i 0) (drop (i + 1) s)
    → i < next → next ≤ length s → gap_end 0 i (drop i s) ≡ gap_end 0 next (drop next s)
gap_passes s i next lt e is before_it le =
    gap_comment s i (Some (Some next)) lt e is ∙ gap_skips s (next - (i + 1)) (i + 1) next (omega arith) le

-- ---- block comments, by what comes first

pub comment_opens : (s : List ℕ) (inner i : ℕ) → i + 1 < length s → true ≡ (slice_index s i == 0x28 && slice_index (drop (i + 1) s) 0 == 0x3B)
    → comment_end inner i (drop i s) ≡ comment_end (inner + 1) (i + 2) (drop (i + 2) s)
comment_opens s inner i lt e =
    let c = slice_index s i in
    let rest = drop (i + 1) s in
    comment_on s inner i lt
    ∙ ap (λ b. cond b (comment_end (inner + 1) (i + 2) (drop (i + 2) s)) (cond (c == 0x3B && slice_index rest 0 == 0x29) (cond (inner == 0) (Some (i + 2)) (comment_end (inner - 1) (i + 2) (drop (i + 2) s))) (comment_end inner (i + 1) rest))) (sym e)

opens_not : (s : List ℕ) (inner i : ℕ) → i + 1 < length s → false ≡ (slice_index s i == 0x28 && slice_index (drop (i + 1) s) 0 == 0x3B)
    → comment_end inner i (drop i s)
    ≡ cond (slice_index s i == 0x3B && slice_index (drop (i + 1) s) 0 == 0x29) (cond (inner == 0) (Some (i + 2)) (comment_end (inner - 1) (i + 2) (drop (i + 2) s))) (comment_end inner (i + 1) (drop (i + 1) s))
opens_not s inner i lt e =
    let c = slice_index s i in
    let rest = drop (i + 1) s in
    comment_on s inner i lt
    ∙ ap (λ b. cond b (comment_end (inner + 1) (i + 2) (drop (i + 2) s)) (cond (c == 0x3B && slice_index rest 0 == 0x29) (cond (inner == 0) (Some (i + 2)) (comment_end (inner - 1) (i + 2) (drop (i + 2) s))) (comment_end inner (i + 1) rest))) (sym e)

pub comment_shuts : (s : List ℕ) (inner i : ℕ) → i + 1 < length s → false ≡ (slice_index s i == 0x28 && slice_index (drop (i + 1) s) 0 == 0x3B)
    → true ≡ (slice_index s i == 0x3B && slice_index (drop (i + 1) s) 0 == 0x29)
    → comment_end inner i (drop i s) ≡ cond (inner == 0) (Some (i + 2)) (comment_end (inner - 1) (i + 2) (drop (i + 2) s))
comment_shuts s inner i lt e f =
    opens_not s inner i lt e ∙ ap (λ b. cond b (cond (inner == 0) (Some (i + 2)) (comment_end (inner - 1) (i + 2) (drop (i + 2) s))) (comment_end inner (i + 1) (drop (i + 1) s))) (sym f)

some_inner : (inner : ℕ) → (inner ≡ 0 → ⊥) → (inner == 0) ≡ false
some_inner inner ne = grind (arith, nat_tests)

pub comment_shuts_inner : (s : List ℕ) (inner i : ℕ) → i + 1 < length s → false ≡ (slice_index s i == 0x28 && slice_index (drop (i + 1) s) 0 == 0x3B)
    → true ≡ (slice_index s i == 0x3B && slice_index (drop (i + 1) s) 0 == 0x29) → (inner ≡ 0 → ⊥)
    → comment_end inner i (drop i s) ≡ comment_end (inner - 1) (i + 2) (drop (i + 2) s)
comment_shuts_inner s inner i lt e f ne =
    comment_shuts s inner i lt e f ∙ ap (λ b. cond b (Some (i + 2)) (comment_end (inner - 1) (i + 2) (drop (i + 2) s))) (some_inner inner ne)

pub comment_passes : (s : List ℕ) (inner i : ℕ) → i + 1 < length s → false ≡ (slice_index s i == 0x28 && slice_index (drop (i + 1) s) 0 == 0x3B)
    → false ≡ (slice_index s i == 0x3B && slice_index (drop (i + 1) s) 0 == 0x29)
    → comment_end inner i (drop i s) ≡ comment_end inner (i + 1) (drop (i + 1) s)
comment_passes s inner i lt e f =
    opens_not s inner i lt e ∙ ap (λ b. cond b (cond (inner == 0) (Some (i + 2)) (comment_end (inner - 1) (i + 2) (drop (i + 2) s))) (comment_end inner (i + 1) (drop (i + 1) s))) (sym f)
