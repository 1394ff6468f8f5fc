-- What texts of values are read as.
use Rattle.std.proofs.Common.{◌≡◌, ◌≢◌, ◌↔◌, IsTrue, ℕ, zero, suc, ◌+◌, ◌-◌, ◌<◌, ◌≤◌, ◌^◌, ◌==◌, Bool, true, false, List, [], ◌∷◌, ◌++◌, length, map, flat_map, get_or, slice_index, take, drop, All, Option, Some, None, Result, Ok, Err, Bor, codes, decimal, arith, refl, sym, ap, ◌∙◌}
use Rattle.std.proofs.lemmas.Bool.{eq-eqb}
use Rattle.std.proofs.lemmas.Fmt.{parse-decimal, decimal_digit}
use Rattle.std.specs.Str.Parse.{ParsesUnsigned}
use Rattle.wasm_ast.specs.declared.runs.Value.{Value}
use Rattle.wasm_ast.specs.declared.runs.Value.TheVariants.{I32, I64, Func, Extern}
use Rattle.wasm_ast.specs.declared.runs.Draw.{Draw}
use Rattle.path_report.specs.Report.{value_text, draw_value, draw_text, choices_text}
use Rattle.path_report.specs.Reading.{Fits}
use Rattle.path_report.specs.code.Words.{list_words}
use Rattle.path_report.proofs.WordLemmas.{Digits, digits_of}
use Rattle.path_report.proofs.ZipLemmas.{all_first, all_rest}

-- texts of which a letter differs are two
pub letters_differ : (a b : List ℕ) (i : ℕ) → (slice_index a i == slice_index b i) ≡ false → a ≢ b
letters_differ a b i apart same =
    let e : (slice_index b i == slice_index b i) ≡ false = rw same at apart in
    let yes = eq-eqb (slice_index b i) (slice_index b i) refl in
    cc

-- ---- numbers

pub number_read : {E : Type 0} (k n m : ℕ) (bs : List ℕ) (r : Result ℕ E) → n < 2 ^ k → n < 2 ^ 64 → bs ≡ decimal n → ParsesUnsigned k 10 bs r → r ≡ Ok m → Some m ≡ Some n
number_read k n m bs r low small e parsed is = let same : r ≡ Ok n = parse-decimal k n bs r low small e parsed in cc

pub number_unread : {E : Type 0} (k n : ℕ) (f : E) (bs : List ℕ) (r : Result ℕ E) → n < 2 ^ k → n < 2 ^ 64 → bs ≡ decimal n → ParsesUnsigned k 10 bs r → r ≡ Err f → ⊥
number_unread k n f bs r low small e parsed is = let same : r ≡ Ok n = parse-decimal k n bs r low small e parsed in cc

-- no number begins with an n
no_digit : (n : ℕ) → n < 2 ^ 64 → (rest : List ℕ) → 110 ∷ rest ≡ decimal n → ⊥
no_digit n low rest e = go (decimal n) (digits_of n low) e
  where
    go : (ds : List ℕ) → Digits ds → 110 ∷ rest ≡ ds → ⊥
    go [] h same = cc
    go (d ∷ ds) h same = let first : 110 ≡ d = ap (λ l. get_or l 0 0) same in omega (arith, first, h.0)

-- ---- values by what they begin with

pub begins_narrow : (digits : List ℕ) (v : Value) → Fits v → codes "i32:" ++ digits ≡ value_text v → (n : ℕ) × (v ≡ I32 n) × (n < 2 ^ 32) × (digits ≡ decimal n)
begins_narrow digits (I32 n) fits e = (n, refl, fits, ap (λ t. drop 4 t) e)
begins_narrow digits (I64 n) fits e = absurd (letters_differ (codes "i32:" ++ digits) (codes "i64:" ++ decimal n) 1 refl e)
begins_narrow digits (Func None) fits e = absurd (letters_differ (codes "i32:" ++ digits) (codes "funcref:null") 0 refl e)
begins_narrow digits (Func (Some n)) fits e = absurd (letters_differ (codes "i32:" ++ digits) (codes "funcref:" ++ decimal n) 0 refl e)
begins_narrow digits Extern fits e = absurd (letters_differ (codes "i32:" ++ digits) (codes "externref:null") 0 refl e)

pub begins_wide : (digits : List ℕ) (v : Value) → Fits v → codes "i64:" ++ digits ≡ value_text v → (n : ℕ) × (v ≡ I64 n) × (n < 2 ^ 64) × (digits ≡ decimal n)
begins_wide digits (I32 n) fits e = absurd (letters_differ (codes "i64:" ++ digits) (codes "i32:" ++ decimal n) 1 refl e)
begins_wide digits (I64 n) fits e = (n, refl, fits, ap (λ t. drop 4 t) e)
begins_wide digits (Func None) fits e = absurd (letters_differ (codes "i64:" ++ digits) (codes "funcref:null") 0 refl e)
begins_wide digits (Func (Some n)) fits e = absurd (letters_differ (codes "i64:" ++ digits) (codes "funcref:" ++ decimal n) 0 refl e)
begins_wide digits Extern fits e = absurd (letters_differ (codes "i64:" ++ digits) (codes "externref:null") 0 refl e)

pub is_null : (v : Value) → Fits v → codes "funcref:null" ≡ value_text v → Some (Func None) ≡ Some v
is_null (I32 n) fits e = absurd (letters_differ (codes "funcref:null") (codes "i32:" ++ decimal n) 0 refl e)
is_null (I64 n) fits e = absurd (letters_differ (codes "funcref:null") (codes "i64:" ++ decimal n) 0 refl e)
is_null (Func None) fits e = refl
is_null (Func (Some n)) fits e = absurd (no_digit n (omega arith) (codes "ull") (ap (λ t. drop 8 t) e))
is_null Extern fits e = absurd (letters_differ (codes "funcref:null") (codes "externref:null") 0 refl e)

pub begins_func : (digits : List ℕ) → codes "funcref:" ++ digits ≢ codes "funcref:null" → (v : Value) → Fits v → codes "funcref:" ++ digits ≡ value_text v → (n : ℕ) × (v ≡ Func (Some n)) × (n < 2 ^ 32) × (digits ≡ decimal n)
begins_func digits other (I32 n) fits e = absurd (letters_differ (codes "funcref:" ++ digits) (codes "i32:" ++ decimal n) 0 refl e)
begins_func digits other (I64 n) fits e = absurd (letters_differ (codes "funcref:" ++ digits) (codes "i64:" ++ decimal n) 0 refl e)
begins_func digits other (Func None) fits e = absurd (other e)
begins_func digits other (Func (Some n)) fits e = (n, refl, fits, ap (λ t. drop 8 t) e)
begins_func digits other Extern fits e = absurd (letters_differ (codes "funcref:" ++ digits) (codes "externref:null") 0 refl e)

pub is_extern : (v : Value) → Fits v → codes "externref:null" ≡ value_text v → Some Extern ≡ Some v
is_extern (I32 n) fits e = absurd (letters_differ (codes "externref:null") (codes "i32:" ++ decimal n) 0 refl e)
is_extern (I64 n) fits e = absurd (letters_differ (codes "externref:null") (codes "i64:" ++ decimal n) 0 refl e)
is_extern (Func None) fits e = absurd (letters_differ (codes "externref:null") (codes "funcref:null") 0 refl e)
is_extern (Func (Some n)) fits e = absurd (letters_differ (codes "externref:null") (codes "funcref:" ++ decimal n) 0 refl e)
is_extern Extern fits e = refl

-- a text that begins as no value does
pub no_value : (word : List ℕ) → ((rest : List ℕ) → word ≢ codes "i32:" ++ rest) → ((rest : List ℕ) → word ≢ codes "i64:" ++ rest) → word ≢ codes "funcref:null" → ((rest : List ℕ) → word ≢ codes "funcref:" ++ rest) → word ≢ codes "externref:null"
    → (v : Value) → word ≢ value_text v
no_value word narrow wide null func extern (I32 n) e = narrow (decimal n) e
no_value word narrow wide null func extern (I64 n) e = wide (decimal n) e
no_value word narrow wide null func extern (Func None) e = null e
no_value word narrow wide null func extern (Func (Some n)) e = func (decimal n) e
no_value word narrow wide null func extern Extern e = extern e

-- ---- what is read after a beginning

pub narrow_read : (word digits : List ℕ) (r : Option ℕ) (m : ℕ) → word ≡ codes "i32:" ++ digits → ((n : ℕ) → n < 2 ^ 32 → digits ≡ decimal n → r ≡ Some n) → r ≡ Some m
    → (v : Value) → Fits v → word ≡ value_text v → Some (I32 m) ≡ Some v
narrow_read word digits r m starts only is v fits e =
    let had = begins_narrow digits v fits (sym starts ∙ e) in
    let same : Some m ≡ Some had.0 = sym is ∙ only had.0 had.2 had.3 in
    let number : m ≡ had.0 = cc in
    ap (λ n. Some (I32 n)) number ∙ ap (λ x. Some x) (sym had.1)

pub narrow_unread : (word digits : List ℕ) (r : Option ℕ) → word ≡ codes "i32:" ++ digits → ((n : ℕ) → n < 2 ^ 32 → digits ≡ decimal n → r ≡ Some n) → r ≡ None
    → (v : Value) → Fits v → word ≢ value_text v
narrow_unread word digits r starts only is v fits e =
    let had = begins_narrow digits v fits (sym starts ∙ e) in
    let same : r ≡ Some had.0 = only had.0 had.2 had.3 in
    cc

pub wide_read : (word digits : List ℕ) (r : Option ℕ) (m : ℕ) → word ≡ codes "i64:" ++ digits → ((n : ℕ) → n < 2 ^ 64 → digits ≡ decimal n → r ≡ Some n) → r ≡ Some m
    → (v : Value) → Fits v → word ≡ value_text v → Some (I64 m) ≡ Some v
wide_read word digits r m starts only is v fits e =
    let had = begins_wide digits v fits (sym starts ∙ e) in
    let same : Some m ≡ Some had.0 = sym is ∙ only had.0 had.2 had.3 in
    let number : m ≡ had.0 = cc in
    ap (λ n. Some (I64 n)) number ∙ ap (λ x. Some x) (sym had.1)

pub wide_unread : (word digits : List ℕ) (r : Option ℕ) → word ≡ codes "i64:" ++ digits → ((n : ℕ) → n < 2 ^ 64 → digits ≡ decimal n → r ≡ Some n) → r ≡ None
    → (v : Value) → Fits v → word ≢ value_text v
wide_unread word digits r starts only is v fits e =
    let had = begins_wide digits v fits (sym starts ∙ e) in
    let same : r ≡ Some had.0 = only had.0 had.2 had.3 in
    cc

pub func_read : (word digits : List ℕ) (r : Option ℕ) (m : ℕ) → word ≢ codes "funcref:null" → word ≡ codes "funcref:" ++ digits → ((n : ℕ) → n < 2 ^ 32 → digits ≡ decimal n → r ≡ Some n) → r ≡ Some m
    → (v : Value) → Fits v → word ≡ value_text v → Some (Func (Some m)) ≡ Some v
func_read word digits r m other starts only is v fits e =
    let had = begins_func digits (λ null. other (starts ∙ null)) v fits (sym starts ∙ e) in
    let same : Some m ≡ Some had.0 = sym is ∙ only had.0 had.2 had.3 in
    let number : m ≡ had.0 = cc in
    ap (λ n. Some (Func (Some n))) number ∙ ap (λ x. Some x) (sym had.1)

pub func_unread : (word digits : List ℕ) (r : Option ℕ) → word ≢ codes "funcref:null" → word ≡ codes "funcref:" ++ digits → ((n : ℕ) → n < 2 ^ 32 → digits ≡ decimal n → r ≡ Some n) → r ≡ None
    → (v : Value) → Fits v → word ≢ value_text v
func_unread word digits r other starts only is v fits e =
    let had = begins_func digits (λ null. other (starts ∙ null)) v fits (sym starts ∙ e) in
    let same : r ≡ Some had.0 = only had.0 had.2 had.3 in
    cc

-- ---- lists of values

-- no value is written as the empty list is
pub no_dash : (v : Value) → value_text v ≢ codes "-"
no_dash (I32 n) e = letters_differ (codes "i32:" ++ decimal n) (codes "-") 0 refl e
no_dash (I64 n) e = letters_differ (codes "i64:" ++ decimal n) (codes "-") 0 refl e
no_dash (Func None) e = letters_differ (codes "funcref:null") (codes "-") 0 refl e
no_dash (Func (Some n)) e = letters_differ (codes "funcref:" ++ decimal n) (codes "-") 0 refl e
no_dash Extern e = letters_differ (codes "externref:null") (codes "-") 0 refl e

pub no_input : (v : Value) → value_text v ≢ codes "input"
no_input (I32 n) e = letters_differ (codes "i32:" ++ decimal n) (codes "input") 1 refl e
no_input (I64 n) e = letters_differ (codes "i64:" ++ decimal n) (codes "input") 1 refl e
no_input (Func None) e = letters_differ (codes "funcref:null") (codes "input") 0 refl e
no_input (Func (Some n)) e = letters_differ (codes "funcref:" ++ decimal n) (codes "input") 0 refl e
no_input Extern e = letters_differ (codes "externref:null") (codes "input") 0 refl e

pub none_listed : (words : List (List ℕ)) (vs : List Value) → words ≡ codes "-" ∷ [] → words ≡ list_words (map value_text vs) → [] ≡ vs
none_listed words [] dash e = refl
none_listed words (v ∷ vs) dash e = absurd (no_dash v (ap (λ l. get_or l 0 []) (sym e ∙ dash)))

pub some_listed : (words : List (List ℕ)) (vs : List Value) → (words ≡ codes "-" ∷ [] → ⊥) → words ≡ list_words (map value_text vs) → words ≡ map value_text vs
some_listed words [] other e = absurd (other e)
some_listed words (v ∷ vs) other e = e

-- one word, and no more
pub is_alone : (b : Bool) (words : List (Bor (List ℕ))) (d : Bor (List ℕ)) (text : List ℕ) → 1 ≤ length words → length words < 2 → (IsTrue b ↔ ((get_or words 0 d).now ≡ text)) → IsTrue b ↔ (map (λ w. w.now) words ≡ text ∷ [])
is_alone b [] d text some few h = absurd (omega arith)
is_alone b (w ∷ []) d text some few h = (λ yes. ap (λ t. t ∷ []) (h.0 yes), λ e. h.1 (ap (λ l. get_or l 0 text) e))
is_alone b (w ∷ v ∷ ws) d text some few h = absurd (omega arith)

-- the values of draws
pub values_of_draws : (draws : List Draw) → map draw_text draws ≡ map value_text (map draw_value draws)
values_of_draws [] = refl
values_of_draws (d ∷ ds) = ap (λ ts. draw_text d ∷ ts) (values_of_draws ds)

pub fits_of_draws : (draws : List Draw) → All (λ d. Fits (draw_value d)) draws → All Fits (map draw_value draws)
fits_of_draws [] fit i d some = absurd (omega arith)
fits_of_draws (x ∷ xs) fit zero d some = all_first (λ d. Fits (draw_value d)) x xs fit
fits_of_draws (x ∷ xs) fit (suc i) d some = fits_of_draws xs (all_rest (λ d. Fits (draw_value d)) x xs fit) i d (omega arith)

pub narrow_draw : (m : ℕ) (draw : Draw) → I32 m ≡ draw_value draw → record { wide = false; value = m } ≡ draw
narrow_draw m draw e = go draw.wide draw.value e
  where
    go : (wide : Bool) (v : ℕ) → I32 m ≡ draw_value (record { wide = wide; value = v }) → (let d : Draw = record { wide = false; value = m } in d) ≡ record { wide = wide; value = v }
    go true v e = cc
    go false v e = let n : m ≡ v = cc in ap (λ x. record { wide = false; value = x }) n

pub wide_draw : (m : ℕ) (draw : Draw) → I64 m ≡ draw_value draw → record { wide = true; value = m } ≡ draw
wide_draw m draw e = go draw.wide draw.value e
  where
    go : (wide : Bool) (v : ℕ) → I64 m ≡ draw_value (record { wide = wide; value = v }) → (let d : Draw = record { wide = true; value = m } in d) ≡ record { wide = wide; value = v }
    go true v e = let n : m ≡ v = cc in ap (λ x. record { wide = true; value = x }) n
    go false v e = cc

-- ---- choices

digits_of_sides : (cs : List ℕ) → All (λ side. side ≤ 1) cs → flat_map decimal cs ≡ map (λ side. 48 + side) cs
digits_of_sides [] low = refl
digits_of_sides (c ∷ cs) low =
    let small : c ≤ 1 = all_first (λ side. side ≤ 1) c cs low in
    rw (decimal_digit c (omega arith)) (ap (λ ds. (48 + c) ∷ ds) (digits_of_sides cs (all_rest (λ side. side ≤ 1) c cs low)))

pub no_choices : (text cs : List ℕ) → All (λ side. side ≤ 1) cs → text ≡ codes "-" → text ≡ choices_text cs → [] ≡ cs
no_choices text [] low dash e = refl
no_choices text (c ∷ cs) low dash e =
    let f : codes "-" ≡ map (λ side. 48 + side) (c ∷ cs) = sym dash ∙ e ∙ digits_of_sides (c ∷ cs) low in
    absurd (omega (arith, ap (λ l. get_or l 0 0) f))

pub some_choices : (text cs : List ℕ) → All (λ side. side ≤ 1) cs → (text ≡ codes "-" → ⊥) → text ≡ choices_text cs → text ≡ map (λ side. 48 + side) cs
some_choices text [] low other e = absurd (other e)
some_choices text (c ∷ cs) low other e = e ∙ digits_of_sides (c ∷ cs) low
