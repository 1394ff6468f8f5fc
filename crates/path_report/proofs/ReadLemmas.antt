-- What follows for lists and rows that are read word by word.
use Rattle.std.proofs.Common.{◌≡◌, ◌≢◌, ℕ, zero, suc, ◌+◌, ◌-◌, ◌<◌, ◌≤◌, Bool, true, false, List, [], ◌∷◌, ◌++◌, length, map, get_or, slice_index_or, take, drop, All, Option, Some, None, Result, Ok, Err, IfOk, IfSome, subst, Bor, codes, arith, refl, sym, ap, ◌∙◌, take_all, length-drop}
use Rattle.std.specs.Prelude.{◌||◌, bytes_eq, string_bytes}
use Rattle.std.specs.Cmp.Lexicographic.{bytes_decides}
use Rattle.wasm_ast.specs.declared.runs.Value.{Value}
use Rattle.wasm_ast.specs.declared.runs.Cause.TheVariants.{Unreachable, DivZero, Overflow, Memory, Table, Undefined, Uninitialized, Mismatch}
use Rattle.fork_tree.specs.declared.rows.Kind.{Kind}
use Rattle.fork_tree.specs.declared.rows.Kind.TheVariants.{Returns, Traps, Fails, Bound, Deep, Cut, Undecided, Void}
use Rattle.fork_tree.specs.declared.rows.Row.{Row}
use Rattle.path_report.specs.Report.{value_text, kind_text, list_text}
use Rattle.path_report.specs.Reading.{Fits, IsOutcome}
use Rattle.path_report.specs.code.Words.{IsPlainOutcome, list_words, kind_words}
use Rattle.path_report.proofs.ValueLemmas.{no_input}
use Rattle.path_report.proofs.ZipLemmas.{all_none, all_more}

pub if_ok : {A E : Type 0} {P Q : A → Type 0} → (r : Result A E) → IfOk r P → ((x : A) → P x → Q x) → IfOk r Q
if_ok (Ok x) p f = f x p
if_ok (Err e) p f = tt

pub some_is_none : {A : Type 0} (r : Option A) (x : A) → r ≡ Some x → r ≡ None → ⊥
some_is_none r x is not = let f : Some x ≡ None = sym is ∙ not in cc

pub some_some : {A : Type 0} (r : Option A) (x y : A) → r ≡ Some x → r ≡ Some y → x ≡ y
some_some r x y a b = let f : Some x ≡ Some y = sym a ∙ b in cc

pub some_has : {A : Type 0} (P : A → Type 0) → (r : Option A) (x : A) → r ≡ Some x → IfSome r P → P x
some_has P r x is h = subst (λ o. IfSome o P) is h

pub apart : (b : Bool) → b ≡ true → b ≡ false → ⊥
apart b e f = let g : true ≡ false = sym e ∙ f in cc

pub is_text : (a b : List ℕ) → true ≡ bytes_eq a b → a ≡ b
is_text a b e = (bytes_decides a b).0 (sym e)

pub is_not_text : (a b : List ℕ) (r : Bool) → r ≡ bytes_eq a b → r ≡ false → a ≡ b → ⊥
is_not_text a b r e differs same = let test : bytes_eq a b ≡ true = (bytes_decides a b).1 same in let f : true ≡ false = sym test ∙ sym e ∙ differs in cc

-- all that is left after n
pub rest_is : {A : Type 0} (xs : List A) (n : ℕ) → take (length xs - n) (drop n xs) ≡ drop n xs
rest_is xs n = take_all (length xs - n) (drop n xs) (omega (arith, length-drop n xs))

-- ---- outcomes

-- a word is among these
abbrev has_word : List ℕ → List (List ℕ) → Bool
has_word t [] = false
has_word t (w ∷ ws) = bytes_eq w t || has_word t ws

none_is : (t : List ℕ) (ws : List (List ℕ)) → has_word t ws ≡ false → All (λ w. w ≢ t) ws
none_is t [] e = all_none (λ w. w ≢ t)
none_is t (w ∷ ws) e = all_more (λ w. w ≢ t) w ws (λ same. first (bytes_eq w t) (has_word t ws) ((bytes_decides w t).1 same) e) (none_is t ws (rest (bytes_eq w t) (has_word t ws) e))
  where
    first : (a b : Bool) → a ≡ true → (a || b) ≡ false → ⊥
    first true b e f = cc
    first false b e f = cc

    rest : (a b : Bool) → (a || b) ≡ false → b ≡ false
    rest true b f = absurd cc
    rest false b f = f

no_inputs : (vs : List Value) → All (λ w. w ≢ codes "input") (map value_text vs)
no_inputs [] = all_none (λ w. w ≢ codes "input")
no_inputs (v ∷ vs) = all_more (λ w. w ≢ codes "input") (value_text v) (map value_text vs) (no_input v) (no_inputs vs)

pub no_input_kind : (kind : Kind) → IsOutcome kind → All (λ w. w ≢ codes "input") (kind_words kind)
no_input_kind (Returns []) is = none_is (codes "input") (codes "returns" ∷ codes "-" ∷ []) refl
no_input_kind (Returns (v ∷ vs)) is = all_more (λ w. w ≢ codes "input") (codes "returns") (map value_text (v ∷ vs)) (none_is (codes "input") (codes "returns" ∷ []) refl 0 [] (omega arith)) (no_inputs (v ∷ vs))
no_input_kind (Traps Unreachable) is = none_is (codes "input") (kind_words (Traps Unreachable)) refl
no_input_kind (Traps DivZero) is = none_is (codes "input") (kind_words (Traps DivZero)) refl
no_input_kind (Traps Overflow) is = none_is (codes "input") (kind_words (Traps Overflow)) refl
no_input_kind (Traps Memory) is = none_is (codes "input") (kind_words (Traps Memory)) refl
no_input_kind (Traps Table) is = none_is (codes "input") (kind_words (Traps Table)) refl
no_input_kind (Traps Undefined) is = none_is (codes "input") (kind_words (Traps Undefined)) refl
no_input_kind (Traps Uninitialized) is = none_is (codes "input") (kind_words (Traps Uninitialized)) refl
no_input_kind (Traps Mismatch) is = none_is (codes "input") (kind_words (Traps Mismatch)) refl
no_input_kind Fails is = none_is (codes "input") (kind_words Fails) refl
no_input_kind Bound is = none_is (codes "input") (kind_words Bound) refl
no_input_kind Deep is = none_is (codes "input") (kind_words Deep) refl
no_input_kind Cut is = absurd is
no_input_kind Undecided is = absurd is
no_input_kind Void is = absurd is

-- an outcome without results: its text is its words with spaces between them, and its first word isn't that of results
record Plain (kind : Kind) : Type 0 where
  text : list_text (kind_words kind) ≡ kind_text kind
  first : bytes_eq (get_or (kind_words kind) 0 []) (codes "returns") ≡ false

plain : (kind : Kind) → IsPlainOutcome kind → Plain kind
plain (Returns vs) is = absurd is
plain (Traps Unreachable) is = record { text = refl; first = refl }
plain (Traps DivZero) is = record { text = refl; first = refl }
plain (Traps Overflow) is = record { text = refl; first = refl }
plain (Traps Memory) is = record { text = refl; first = refl }
plain (Traps Table) is = record { text = refl; first = refl }
plain (Traps Undefined) is = record { text = refl; first = refl }
plain (Traps Uninitialized) is = record { text = refl; first = refl }
plain (Traps Mismatch) is = record { text = refl; first = refl }
plain Fails is = record { text = refl; first = refl }
plain Bound is = record { text = refl; first = refl }
plain Deep is = record { text = refl; first = refl }
plain Cut is = absurd is
plain Undecided is = absurd is
plain Void is = absurd is

first_now : (ws : List (Bor (List ℕ))) (d : Bor (List ℕ)) → 1 ≤ length ws → (get_or ws 0 d).now ≡ get_or (map (λ w. w.now) ws) 0 []
first_now [] d some = absurd (omega arith)
first_now (w ∷ ws) d some = refl

not_returns : (ws : List (Bor (List ℕ))) (d : Bor (List ℕ)) (kind : Kind) → 1 ≤ length ws → IsPlainOutcome kind → map (λ w. w.now) ws ≡ kind_words kind → (get_or ws 0 d).now ≡ codes "returns" → ⊥
not_returns ws d kind some is e first =
    let word : get_or (kind_words kind) 0 [] ≡ codes "returns" = ap (λ l. get_or l 0 []) (sym e) ∙ sym (first_now ws d some) ∙ first in
    is_not_text (get_or (kind_words kind) 0 []) (codes "returns") (bytes_eq (get_or (kind_words kind) 0 []) (codes "returns")) refl (plain kind is).first word

-- what begins with the word of results is an outcome with results
pub returns_read : (ws : List (Bor (List ℕ))) (d : Bor (List ℕ)) (r : Option Kind) → 1 ≤ length ws → (get_or ws 0 d).now ≡ codes "returns"
    → ((vs : List Value) → All Fits vs → map (λ w. w.now) (take (length ws - 1) (drop 1 ws)) ≡ list_words (map value_text vs) → r ≡ Some (Returns vs))
    → (kind : Kind) → IsOutcome kind → map (λ w. w.now) ws ≡ kind_words kind → r ≡ Some kind
returns_read [] d r some first read kind is e = absurd (omega arith)
returns_read (w ∷ ws) d r some first read (Returns vs) is e =
    let all : take (suc (length ws) - 1) ws ≡ ws = take_all (suc (length ws) - 1) ws (omega arith) in
    read vs is (rw all (ap (λ l. drop 1 l) e))
returns_read (w ∷ ws) d r some first read (Traps cause) is e = absurd (not_returns (w ∷ ws) d (Traps cause) some tt e first)
returns_read (w ∷ ws) d r some first read Fails is e = absurd (not_returns (w ∷ ws) d Fails some tt e first)
returns_read (w ∷ ws) d r some first read Bound is e = absurd (not_returns (w ∷ ws) d Bound some tt e first)
returns_read (w ∷ ws) d r some first read Deep is e = absurd (not_returns (w ∷ ws) d Deep some tt e first)
returns_read (w ∷ ws) d r some first read Cut is e = absurd is
returns_read (w ∷ ws) d r some first read Undecided is e = absurd is
returns_read (w ∷ ws) d r some first read Void is e = absurd is

-- any other is one without
pub plain_read : (ws : List (Bor (List ℕ))) (d : Bor (List ℕ)) (r : Option Kind) (text : List ℕ) → 1 ≤ length ws → ((get_or ws 0 d).now ≡ codes "returns" → ⊥) → text ≡ list_text (map (λ w. w.now) ws)
    → ((kind : Kind) → IsPlainOutcome kind → text ≡ kind_text kind → r ≡ Some kind)
    → (kind : Kind) → IsOutcome kind → map (λ w. w.now) ws ≡ kind_words kind → r ≡ Some kind
plain_read ws d r text some other whole read (Returns vs) is e = absurd (other (first_now ws d some ∙ ap (λ l. get_or l 0 []) e))
plain_read ws d r text some other whole read (Traps cause) is e = read (Traps cause) tt (whole ∙ ap list_text e ∙ (plain (Traps cause) tt).text)
plain_read ws d r text some other whole read Fails is e = read Fails tt (whole ∙ ap list_text e ∙ (plain Fails tt).text)
plain_read ws d r text some other whole read Bound is e = read Bound tt (whole ∙ ap list_text e ∙ (plain Bound tt).text)
plain_read ws d r text some other whole read Deep is e = read Deep tt (whole ∙ ap list_text e ∙ (plain Deep tt).text)
plain_read ws d r text some other whole read Cut is e = absurd is
plain_read ws d r text some other whole read Undecided is e = absurd is
plain_read ws d r text some other whole read Void is e = absurd is

-- ---- rows

-- after two words
pub two_first : (ws : List (Bor (List ℕ))) (d : Bor (List ℕ)) (a b : List ℕ) (rest : List (List ℕ)) → map (λ w. w.now) ws ≡ a ∷ b ∷ rest → ((get_or ws 1 d).now ≡ b) × (map (λ w. w.now) (take (length ws - 2) (drop 2 ws)) ≡ rest)
two_first [] d a b rest e = absurd cc
two_first (w ∷ []) d a b rest e = absurd cc
two_first (w ∷ x ∷ ws) d a b rest e =
    let all : take (suc (suc (length ws)) - 2) ws ≡ ws = take_all (suc (suc (length ws)) - 2) ws (omega arith) in
    (ap (λ l. get_or l 1 []) e, rw all (ap (λ l. drop 2 l) e))

pub same_row : (a b : Row) → a.choices ≡ b.choices → a.kind ≡ b.kind → a.draws ≡ b.draws → a.terms ≡ b.terms → a ≡ b
same_row a b p q r t =
    ap (λ x. record a { choices = x }) p ∙ ap (λ x. record { choices = b.choices; kind = x; draws = a.draws; terms = a.terms }) q
    ∙ ap (λ x. record { choices = b.choices; kind = b.kind; draws = x; terms = a.terms }) r
    ∙ ap (λ x. record { choices = b.choices; kind = b.kind; draws = b.draws; terms = x }) t
