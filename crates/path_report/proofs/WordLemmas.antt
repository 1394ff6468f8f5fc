-- The words of a line, between spaces.
use Rattle.std.proofs.Common.{◌≡◌, ◌≢◌, ℕ, zero, suc, ◌+◌, ◌<◌, ◌≤◌, ◌^◌, ◌==◌, Bool, true, false, cond, List, [], ◌∷◌, ◌++◌, length, map, flat_map, take, drop, All, Some, None, codes, decimal, arith, refl, sym, ap, ◌∙◌, append_assoc}
use Rattle.std.proofs.lemmas.Bool.{ne_eqb}
use Rattle.std.proofs.lemmas.Fmt.{digits_decimal}
use Rattle.std.proofs.lemmas.Str.Parse.{IsDigitsTest, numerals_by_value}
use Rattle.std.specs.Int.{IsInRange}
use Rattle.std.specs.List.{join_with_byte, onto_first}
use Rattle.wasm_ast.specs.declared.runs.Value.{Value}
use Rattle.wasm_ast.specs.declared.runs.Value.TheVariants.{I32, I64, Func, Extern}
use Rattle.wasm_ast.specs.declared.runs.Draw.{Draw}
use Rattle.fork_tree.specs.declared.rows.Kind.{Kind}
use Rattle.fork_tree.specs.declared.rows.Kind.TheVariants.{Returns, Traps, Fails, Bound, Deep, Cut, Undecided, Void}
use Rattle.fork_tree.specs.declared.rows.Row.{Row}
use Rattle.path_report.specs.Report.{value_text, draw_value, draw_text, list_text, choices_text, kind_text, input_text, path_text}
use Rattle.path_report.specs.Reading.{Fits, IsOutcome, IsOutcomeRow}
use Rattle.path_report.specs.code.Words.{words_between, list_words, kind_words, row_words}
use Rattle.path_report.proofs.ZipLemmas.{all_first, all_rest}

-- ---- texts without a space

abbrev pub is_clear : List ℕ → Bool
is_clear [] = true
is_clear (b ∷ bs) = cond (b == 32) false (is_clear bs)

clear_both : (xs ys : List ℕ) → is_clear xs ≡ true → is_clear ys ≡ true → is_clear (xs ++ ys) ≡ true
clear_both [] ys first second = second
clear_both (x ∷ xs) ys first second = go (x == 32) (λ e. clear_both xs ys e second) first
  where
    go : (b : Bool) → (is_clear xs ≡ true → is_clear (xs ++ ys) ≡ true) → cond b false (is_clear xs) ≡ true → cond b false (is_clear (xs ++ ys)) ≡ true
    go true on e = e
    go false on e = on e

abbrev pub Digits : List ℕ → Type 0
Digits [] = Unit {0}
Digits (c ∷ cs) = IsInRange 48 57 c × Digits cs

are_digits : IsDigitsTest Digits
are_digits = record { empty = tt; parts = λ c cs h. h; more = λ c cs first rest. (first, rest) }

pub digits_of : (n : ℕ) → n < 2 ^ 64 → Digits (decimal n)
digits_of n low = digits_decimal (numerals_by_value Digits are_digits) n low

clear_digits : (ds : List ℕ) → Digits ds → is_clear ds ≡ true
clear_digits [] h = refl
clear_digits (d ∷ ds) h =
    let other : d ≢ 32 = λ e. omega (arith, e, h.0) in
    rw (ne_eqb d 32 other) (clear_digits ds h.1)

pub clear_decimal : (n : ℕ) → n < 2 ^ 64 → is_clear (decimal n) ≡ true
clear_decimal n low = clear_digits (decimal n) (digits_of n low)

-- ---- splitting

one_word : (xs : List ℕ) → is_clear xs ≡ true → words_between xs ≡ xs ∷ []
one_word [] clear = refl
one_word (x ∷ xs) clear = go (x == 32) (λ e. one_word xs e) clear
  where
    go : (b : Bool) → (is_clear xs ≡ true → words_between xs ≡ xs ∷ []) → cond b false (is_clear xs) ≡ true → cond b ([] ∷ words_between xs) (onto_first x (words_between xs)) ≡ (x ∷ xs) ∷ []
    go true on e = absurd (let f : false ≡ true = e in cc)
    go false on e = ap (λ ws. onto_first x ws) (on e)

some_word : (xs : List ℕ) → words_between xs ≢ []
some_word [] e = cc
some_word (x ∷ xs) e = go (x == 32) e
  where
    onto : (ws : List (List ℕ)) → onto_first x ws ≢ []
    onto [] e = cc
    onto (w ∷ ws) e = cc

    go : (b : Bool) → cond b ([] ∷ words_between xs) (onto_first x (words_between xs)) ≢ []
    go true e = cc
    go false e = onto (words_between xs) e

onto_both : (x : ℕ) (ws vs : List (List ℕ)) → ws ≢ [] → onto_first x (ws ++ vs) ≡ onto_first x ws ++ vs
onto_both x [] vs some = absurd (some refl)
onto_both x (w ∷ ws) vs some = refl

-- at a space
words_both : (xs ys : List ℕ) → words_between (xs ++ 32 ∷ ys) ≡ words_between xs ++ words_between ys
words_both [] ys = refl
words_both (x ∷ xs) ys = go (x == 32) (words_both xs ys)
  where
    go : (b : Bool) → words_between (xs ++ 32 ∷ ys) ≡ words_between xs ++ words_between ys → cond b ([] ∷ words_between (xs ++ 32 ∷ ys)) (onto_first x (words_between (xs ++ 32 ∷ ys))) ≡ cond b ([] ∷ words_between xs) (onto_first x (words_between xs)) ++ words_between ys
    go true on = ap (λ ws. [] ∷ ws) on
    go false on = ap (λ ws. onto_first x ws) on ∙ onto_both x (words_between xs) (words_between ys) (some_word xs)

-- ---- lists

abbrev AllClear : List (List ℕ) → Type 0
AllClear [] = Unit {0}
AllClear (t ∷ ts) = (is_clear t ≡ true) × AllClear ts

words_joined : (t : List ℕ) (ts : List (List ℕ)) → AllClear (t ∷ ts) → words_between (join_with_byte 32 (t ∷ ts)) ≡ t ∷ ts
words_joined t [] clear = one_word t clear.0
words_joined t (u ∷ us) clear = words_both t (join_with_byte 32 (u ∷ us)) ∙ ap (λ ws. ws ++ words_between (join_with_byte 32 (u ∷ us))) (one_word t clear.0) ∙ ap (λ ws. t ∷ ws) (words_joined u us clear.1)

words_of_list : (texts : List (List ℕ)) → AllClear texts → words_between (list_text texts) ≡ list_words texts
words_of_list [] clear = refl
words_of_list (t ∷ ts) clear = words_joined t ts clear

-- ---- values

clear_value : (v : Value) → Fits v → is_clear (value_text v) ≡ true
clear_value (I32 n) fits = clear_both (codes "i32:") (decimal n) refl (clear_decimal n (omega arith))
clear_value (I64 n) fits = clear_both (codes "i64:") (decimal n) refl (clear_decimal n fits)
clear_value (Func None) fits = refl
clear_value (Func (Some n)) fits = clear_both (codes "funcref:") (decimal n) refl (clear_decimal n (omega arith))
clear_value Extern fits = refl

clear_values : (vs : List Value) → All Fits vs → AllClear (map value_text vs)
clear_values [] fit = tt
clear_values (v ∷ vs) fit = (clear_value v (all_first Fits v vs fit), clear_values vs (all_rest Fits v vs fit))

clear_draws : (ds : List Draw) → All (λ d. Fits (draw_value d)) ds → AllClear (map draw_text ds)
clear_draws [] fit = tt
clear_draws (d ∷ ds) fit = (clear_value (draw_value d) (all_first (λ d. Fits (draw_value d)) d ds fit), clear_draws ds (all_rest (λ d. Fits (draw_value d)) d ds fit))

-- ---- choices

clear_sides : (cs : List ℕ) → All (λ side. side ≤ 1) cs → is_clear (flat_map decimal cs) ≡ true
clear_sides [] low = refl
clear_sides (c ∷ cs) low =
    let small : c ≤ 1 = all_first (λ side. side ≤ 1) c cs low in
    clear_both (decimal c) (flat_map decimal cs) (clear_decimal c (omega arith)) (clear_sides cs (all_rest (λ side. side ≤ 1) c cs low))

clear_choices : (cs : List ℕ) → All (λ side. side ≤ 1) cs → is_clear (choices_text cs) ≡ true
clear_choices [] low = refl
clear_choices (c ∷ cs) low = clear_sides (c ∷ cs) low

-- ---- rows

words_of_kind : (kind : Kind) → IsOutcome kind → words_between (kind_text kind) ≡ kind_words kind
words_of_kind (Returns vs) is = words_both (codes "returns") (list_text (map value_text vs)) ∙ ap (λ ws. codes "returns" ∷ ws) (words_of_list (map value_text vs) (clear_values vs is))
words_of_kind (Traps cause) is = refl
words_of_kind Fails is = refl
words_of_kind Bound is = refl
words_of_kind Deep is = refl
words_of_kind Cut is = absurd is
words_of_kind Undecided is = absurd is
words_of_kind Void is = absurd is

has_input : (kind : Kind) (draws : List Draw) → IsOutcome kind → input_text kind draws ≡ codes " input " ++ list_text (map draw_text draws)
has_input (Returns vs) draws is = refl
has_input (Traps cause) draws is = refl
has_input Fails draws is = refl
has_input Bound draws is = refl
has_input Deep draws is = refl
has_input Cut draws is = absurd is
has_input Undecided draws is = absurd is
has_input Void draws is = absurd is

spaced : (choices kind draws : List ℕ) → codes "path " ++ choices ++ codes " " ++ kind ++ (codes " input " ++ draws) ≡ codes "path" ++ 32 ∷ (choices ++ 32 ∷ (kind ++ 32 ∷ (codes "input" ++ 32 ∷ draws)))
spaced choices kind draws = simp append_assoc refl

words_spaced : (choices kind draws : List ℕ) → is_clear choices ≡ true → words_between (codes "path" ++ 32 ∷ (choices ++ 32 ∷ (kind ++ 32 ∷ (codes "input" ++ 32 ∷ draws)))) ≡ codes "path" ∷ choices ∷ words_between kind ++ codes "input" ∷ words_between draws
words_spaced choices kind draws clear =
    let last = words_both kind (codes "input" ++ 32 ∷ draws) in
    let inner = words_both choices (kind ++ 32 ∷ (codes "input" ++ 32 ∷ draws)) in
    words_both (codes "path") (choices ++ 32 ∷ (kind ++ 32 ∷ (codes "input" ++ 32 ∷ draws)))
    ∙ ap (λ ws. codes "path" ∷ ws) (inner ∙ ap (λ ws. ws ++ words_between (kind ++ 32 ∷ (codes "input" ++ 32 ∷ draws))) (one_word choices clear) ∙ ap (λ ws. choices ∷ ws) last)

-- the words of a row's line
pub words_of_row : (row : Row) → IsOutcomeRow row → words_between (path_text row) ≡ row_words row
words_of_row row is =
    let choices = choices_text row.choices in
    let kind = kind_text row.kind in
    let draws = list_text (map draw_text row.draws) in
    ap (λ input. words_between (codes "path " ++ choices ++ codes " " ++ kind ++ input)) (has_input row.kind row.draws is.kind)
    ∙ ap (λ text. words_between text) (spaced choices kind draws)
    ∙ words_spaced choices kind draws (clear_choices row.choices is.choices)
    ∙ ap (λ ws. codes "path" ∷ choices ∷ ws ++ codes "input" ∷ words_between draws) (words_of_kind row.kind is.kind)
    ∙ ap (λ ws. codes "path" ∷ choices ∷ kind_words row.kind ++ codes "input" ∷ ws) (words_of_list (map draw_text row.draws) (clear_draws row.draws is.draws))
