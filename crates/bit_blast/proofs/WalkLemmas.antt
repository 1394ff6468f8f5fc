-- Walks through the terms below conditions.
use Rattle.std.proofs.Common.{◌≡◌, ℕ, suc, ◌+◌, ◌<◌, Bool, true, false, cond, List, [], ◌∷◌, ◌++◌, length, map, All, refl, ap, sym, subst, ◌∙◌, arith, Option, Some, None}
use Rattle.std.specs.Prelude.{◌==◌, ◌||◌, nat_eq, if◌then◌else◌, is_some, option_map, Result, Ok, Err, is_err, OnOk}
use Rattle.std.specs.List.{list_any}
use Rattle.std.specs.HashMap.{get}
use Rattle.std.proofs.lemmas.Bool.{true≢false}
use Rattle.std.proofs.lemmas.Bool.Decides.{nat_tests}
use Rattle.bv_terms.specs.declared.words.Word.{Word}
use Rattle.bv_terms.specs.declared.words.Word.TheVariants.{Num, Term as Numbered}
use Rattle.bv_terms.specs.declared.words.Form.{Form}
use Rattle.bv_terms.specs.declared.words.Form.TheVariants.{Symbol as SymbolForm, Un, Bin, Choose as ChooseForm, Byte as ByteForm, Join as JoinForm}
use Rattle.bv_terms.specs.Terms.{Term, Number, Symbol, Unary, Binary, Choose, Byte, Join, Bytes, NoBytes, Then, bytes_from, is_same}
use Rattle.bv_terms.specs.Graphs.{TermGraph, Holds, OperandsBelow, IsGraph, term_of, form_term}
use Rattle.bv_terms.proofs.SameLemmas.{is_same-is, is_same-itself}
use Rattle.bv_terms.proofs.GraphLemmas.{word-unique, operands-more}
use Rattle.std.proofs.lemmas.List.{map-append}
use Rattle.std.proofs.lemmas.List.Folds.{list_any-append}
use Rattle.std.proofs.lemmas.List.Elements.{All-head, All-tail, All-append, All-cons, All-nil}
use Rattle.bit_blast.specs.declared.tasks.Task.{Task}
use Rattle.bit_blast.specs.declared.tasks.Task.TheVariants.{Visit, Put}
use Rattle.bit_blast.specs.Formulas.{once_after, with_terms, with_bytes}
use Rattle.bit_blast.specs.GraphConditions.{term_at, terms_at}
use Rattle.bit_blast.specs.code.Tasks.{place_of, with_number, AreDistinct, Places, IsPlaced, visits, operands_of, after_tasks, HoldsTask, size_of, size_of_all, work_in, CarriesOut}

all_one : {A : Type 0} (P : A → Type 0) (x : A) → P x → All P (x ∷ [])
all_one P x h = All-cons P x [] h (All-nil P)

-- ---- places

itself : (x : ℕ) → (x == x) ≡ true
itself x = grind (arith, nat_tests)

pub same_numbers : (x y : ℕ) → (x == y) ≡ true → x ≡ y
same_numbers x y e = grind (arith, nat_tests)

other : (x y : ℕ) → (x == y) ≡ false → x ≡ y → ⊥
other x y e is = true≢false (sym (ap (λ z. x == z) (sym is) ∙ itself x) ∙ e)

-- a number's place where another comes to the end
pub place-other : (xs : List ℕ) (t s : ℕ) → (t ≡ s → ⊥) → place_of (xs ++ t ∷ []) s ≡ place_of xs s
place-other [] t s apart = go (t == s) refl
  where
    go : (b : Bool) → (t == s) ≡ b → place_of (t ∷ []) s ≡ None
    go true e = absurd (apart (same_numbers t s e))
    go false e = ap (λ b. if b then Some 0 else None) e
place-other (x ∷ xs) t s apart = ap (λ p. if x == s then Some 0 else option_map (λ i. suc i) p) (place-other xs t s apart)

-- the place of the one that comes to the end
pub place-last : (xs : List ℕ) (t : ℕ) → place_of xs t ≡ None → place_of (xs ++ t ∷ []) t ≡ Some (length xs)
place-last [] t e = ap (λ b. if b then Some 0 else None) (itself t)
place-last (x ∷ xs) t e = go (λ at. place-last xs t at) (x == t) refl (place_of xs t) refl
  where
    some≢none : (i : ℕ) → Some i ≡ None → ⊥
    some≢none i e = cc

    go : (place_of xs t ≡ None → place_of (xs ++ t ∷ []) t ≡ Some (length xs)) → (b : Bool) → (x == t) ≡ b → (p : Option ℕ) → place_of xs t ≡ p → place_of ((x ∷ xs) ++ t ∷ []) t ≡ Some (suc (length xs))
    go rec true is p at = absurd (some≢none 0 (sym (ap (λ b. if b then Some 0 else option_map (λ i. suc i) (place_of xs t)) is) ∙ e))
    go rec false is (Some i) at =
        absurd (some≢none (suc i) (sym (ap (λ b. if b then Some 0 else option_map (λ i. suc i) (place_of xs t)) is ∙ ap (λ q. option_map (λ i. suc i) q) at) ∙ e))
    go rec false is None at =
        ap (λ b. if b then Some 0 else option_map (λ i. suc i) (place_of (xs ++ t ∷ []) t)) is ∙ ap (λ q. option_map (λ i. suc i) q) (rec at)

pub distinct-last : (xs : List ℕ) (t : ℕ) → place_of xs t ≡ None → AreDistinct xs → AreDistinct (xs ++ t ∷ [])
distinct-last [] t e once = (refl, tt)
distinct-last (x ∷ xs) t e once = go (λ at. distinct-last xs t at once.1) (x == t) refl (place_of xs t) refl
  where
    some≢none : (i : ℕ) → Some i ≡ None → ⊥
    some≢none i e = cc

    apart : (x == t) ≡ false → t ≡ x → ⊥
    apart is e = other x t is (sym e)

    go : (place_of xs t ≡ None → AreDistinct (xs ++ t ∷ [])) → (b : Bool) → (x == t) ≡ b → (p : Option ℕ) → place_of xs t ≡ p → AreDistinct ((x ∷ xs) ++ t ∷ [])
    go rec true is p at = absurd (some≢none 0 (sym (ap (λ b. if b then Some 0 else option_map (λ i. suc i) (place_of xs t)) is) ∙ e))
    go rec false is (Some i) at =
        absurd (some≢none (suc i) (sym (ap (λ b. if b then Some 0 else option_map (λ i. suc i) (place_of xs t)) is ∙ ap (λ q. option_map (λ i. suc i) q) at) ∙ e))
    go rec false is None at = (place-other xs t x (apart is) ∙ once.0, rec at)

-- the map with one place more
pub placed-last : (xs : List ℕ) (t : ℕ) (old new : Places) → IsPlaced xs old → place_of xs t ≡ None
    → ((s : ℕ) → get nat_eq new s ≡ cond (nat_eq t s) (Some (length xs)) (get nat_eq old s)) → IsPlaced (xs ++ t ∷ []) new
placed-last xs t old new placed none updates = record { places_are = λ s. go s (nat_eq t s) refl; once = distinct-last xs t none placed.once }
  where
    is_one : (t s : ℕ) → nat_eq t s ≡ true → t ≡ s
    is_one t s e = grind (arith, nat_tests)

    is_other : (t s : ℕ) → nat_eq t s ≡ false → t ≡ s → ⊥
    is_other t s e is = let wrong : nat_eq t s ≡ true = grind (arith, nat_tests) in true≢false (sym wrong ∙ e)

    go : (s : ℕ) (b : Bool) → nat_eq t s ≡ b → get nat_eq new s ≡ place_of (xs ++ t ∷ []) s
    go s true e = updates s ∙ ap (λ b. cond b (Some (length xs)) (get nat_eq old s)) e ∙ sym (place-last xs t none) ∙ ap (λ n. place_of (xs ++ t ∷ []) n) (is_one t s e)
    go s false e = updates s ∙ ap (λ b. cond b (Some (length xs)) (get nat_eq old s)) e ∙ placed.places_are s ∙ sym (place-other xs t s (is_other t s e))

pub where_ok : {T E : Type 0} (r : Result T E) (P : Type 0) → is_err r ≡ false → OnOk r P → P
where_ok (Ok x) P e h = h
where_ok (Err x) P e h = absurd (true≢false e)

pub none_where : (p : Option ℕ) → is_some p ≡ false → p ≡ None
none_where None e = refl
none_where (Some x) e = absurd (true≢false e)

-- ---- the terms that are there

term_apart : (g : TermGraph) (s t : ℕ) → IsGraph g.forms → Holds g (Numbered s) → Holds g (Numbered t) → term_at g s ≡ term_at g t → s ≡ t
term_apart g s t graph hs ht e = number_is (word-unique g.forms graph (Numbered s) (Numbered t) hs ht e)
  where
    number_is : Numbered s ≡ Numbered t → s ≡ t
    number_is e = cc

-- the test of terms is that of their numbers
pub same-at : (g : TermGraph) (t x : ℕ) → IsGraph g.forms → Holds g (Numbered t) → Holds g (Numbered x) → is_same (term_at g t) (term_at g x) ≡ (x == t)
same-at g t x graph ht hx = go (x == t) refl
  where
    go : (b : Bool) → (x == t) ≡ b → is_same (term_at g t) (term_at g x) ≡ (x == t)
    go true e = ap (λ n. is_same (term_at g t) (term_at g n)) (same_numbers x t e) ∙ is_same-itself (term_at g t) ∙ sym e
    go false e = differ (is_same (term_at g t) (term_at g x)) refl
      where
        differ : (b : Bool) → is_same (term_at g t) (term_at g x) ≡ b → is_same (term_at g t) (term_at g x) ≡ (x == t)
        differ true d = absurd (other x t e (sym (term_apart g t x graph ht hx (is_same-is (term_at g t) (term_at g x) d))))
        differ false d = d ∙ sym e

some_of : (p : Option ℕ) → is_some (option_map (λ i. suc i) p) ≡ is_some p
some_of None = refl
some_of (Some i) = refl

-- a term is there where its number is
pub seen-at : (g : TermGraph) (order : List ℕ) (t : ℕ) → IsGraph g.forms → Holds g (Numbered t) → All (λ x. Holds g (Numbered x)) order
    → list_any (is_same (term_at g t)) (terms_at g order) ≡ is_some (place_of order t)
seen-at g [] t graph ht held = refl
seen-at g (x ∷ xs) t graph ht held =
    ap (λ b. b || list_any (is_same (term_at g t)) (terms_at g xs)) (same-at g t x graph ht (All-head (λ x. Holds g (Numbered x)) x xs held))
    ∙ ap (λ b. (x == t) || b) (seen-at g xs t graph ht (All-tail (λ x. Holds g (Numbered x)) x xs held))
    ∙ by (x == t)
  where
    by : (b : Bool) → (b || is_some (place_of xs t)) ≡ is_some (if b then Some 0 else option_map (λ i. suc i) (place_of xs t))
    by true = refl
    by false = sym (some_of (place_of xs t))

-- putting a number puts its term
pub terms-with : (g : TermGraph) (order : List ℕ) (t : ℕ) → IsGraph g.forms → Holds g (Numbered t) → All (λ x. Holds g (Numbered x)) order
    → terms_at g (with_number order t) ≡ once_after (terms_at g order) (term_at g t) (terms_at g order)
terms-with g order t graph ht held = by (is_some (place_of order t)) ∙ ap (λ b. if b then terms_at g order else terms_at g order ++ term_at g t ∷ []) (sym (seen-at g order t graph ht held))
  where
    by : (b : Bool) → terms_at g (if b then order else order ++ t ∷ []) ≡ (if b then terms_at g order else terms_at g order ++ term_at g t ∷ [])
    by true = refl
    by false = map-append (term_at g) order (t ∷ [])

pub held-with : (g : TermGraph) (order : List ℕ) (t : ℕ) → Holds g (Numbered t) → All (λ x. Holds g (Numbered x)) order → All (λ x. Holds g (Numbered x)) (with_number order t)
held-with g order t ht held = by (is_some (place_of order t))
  where
    one : All (λ x. Holds g (Numbered x)) (t ∷ [])
    one = all_one (λ x. Holds g (Numbered x)) t ht

    by : (b : Bool) → All (λ x. Holds g (Numbered x)) (if b then order else order ++ t ∷ [])
    by true = held
    by false = All-append (λ x. Holds g (Numbered x)) order (t ∷ []) held one

-- ---- sizes: the terms below a term are smaller, so visiting them doesn't put it

pub once-grows : (others seen : List Term) (s t : Term) → size_of s < size_of t → list_any (is_same t) others ≡ list_any (is_same t) seen
    → list_any (is_same t) (once_after others s seen) ≡ list_any (is_same t) seen
once-grows others seen s t smaller e = by (list_any (is_same s) seen)
  where
    apart : (b : Bool) → is_same t s ≡ b → b ≡ false
    apart true is = absurd (unlike (ap (λ r. size_of r) (is_same-is t s is)))
      where
        unlike : size_of t ≡ size_of s → ⊥
        unlike e = omega (arith, smaller, e)
    apart false is = refl

    by : (b : Bool) → list_any (is_same t) (if b then seen else others ++ s ∷ []) ≡ list_any (is_same t) seen
    by true = refl
    by false =
        list_any-append (is_same t) others (s ∷ [])
        ∙ ap (λ b. list_any (is_same t) others || (b || false)) (apart (is_same t s) refl)
        ∙ right (list_any (is_same t) others) ∙ e
      where
        right : (b : Bool) → (b || false) ≡ b
        right true = refl
        right false = refl

mutual
  pub grows : (a : Term) (seen : List Term) (t : Term) → size_of a < size_of t → list_any (is_same t) (with_terms a seen) ≡ list_any (is_same t) seen
  grows (Number n) seen t h = refl
  grows (Symbol k wide) seen t h = once-grows seen seen (Symbol k wide) t h refl
  grows (Unary op a) seen t h = once-grows (with_terms a seen) seen (Unary op a) t h (grows a seen t (omega (arith, h)))
  grows (Binary op a b) seen t h =
      once-grows (with_terms b (with_terms a seen)) seen (Binary op a b) t h
      (grows b (with_terms a seen) t (omega (arith, h)) ∙ grows a seen t (omega (arith, h)))
  grows (Choose wide c a b) seen t h =
      once-grows (with_terms b (with_terms a (with_terms c seen))) seen (Choose wide c a b) t h
      (grows b (with_terms a (with_terms c seen)) t (omega (arith, h)) ∙ grows a (with_terms c seen) t (omega (arith, h)) ∙ grows c seen t (omega (arith, h)))
  grows (Byte a i) seen t h = once-grows (with_terms a seen) seen (Byte a i) t h (grows a seen t (omega (arith, h)))
  grows (Join wide bytes) seen t h = once-grows (with_bytes bytes seen) seen (Join wide bytes) t h (grows_all bytes seen t (omega (arith, h)))

  pub grows_all : (bytes : Bytes) (seen : List Term) (t : Term) → size_of_all bytes < size_of t → list_any (is_same t) (with_bytes bytes seen) ≡ list_any (is_same t) seen
  grows_all NoBytes seen t h = refl
  grows_all (Then a rest) seen t h = grows_all rest (with_terms a seen) t (omega (arith, h)) ∙ grows a seen t (omega (arith, h))

-- ---- a form's operands

abbrev with_all : TermGraph → List Word → List Term → List Term
with_all g [] seen = seen
with_all g (w ∷ words) seen = with_all g words (with_terms (term_of g w) seen)

abbrev sizes : TermGraph → List Word → ℕ
sizes g [] = 0
sizes g (w ∷ words) = size_of (term_of g w) + sizes g words

visits-run : (g : TermGraph) (words : List Word) (tasks : List Task) (seen : List Term)
    → after_tasks g (visits words ++ tasks) seen ≡ after_tasks g tasks (with_all g words seen)
visits-run g [] tasks seen = refl
visits-run g (Num n ∷ words) tasks seen = visits-run g words tasks seen
visits-run g (Numbered t ∷ words) tasks seen = visits-run g words tasks (with_terms (term_at g t) seen)

visits-work : (g : TermGraph) (words : List Word) (tasks : List Task) → work_in g (visits words ++ tasks) ≡ sizes g words + work_in g tasks
visits-work g [] tasks = omega arith
visits-work g (Num n ∷ words) tasks = omega (arith, visits-work g words tasks)
visits-work g (Numbered t ∷ words) tasks = omega (arith, visits-work g words tasks)

visits-held : (g : TermGraph) (words : List Word) (tasks : List Task) → All (Holds g) words → All (HoldsTask g) tasks → All (HoldsTask g) (visits words ++ tasks)
visits-held g [] tasks hw ht = ht
visits-held g (Num n ∷ words) tasks hw ht = visits-held g words tasks (All-tail (Holds g) (Num n) words hw) ht
visits-held g (Numbered t ∷ words) tasks hw ht =
    All-cons (HoldsTask g) (Visit t) (visits words ++ tasks) (All-head (Holds g) (Numbered t) words hw) (visits-held g words tasks (All-tail (Holds g) (Numbered t) words hw) ht)

bytes-run : (g : TermGraph) (words : List Word) (seen : List Term) → with_bytes (bytes_from (map (term_of g) words)) seen ≡ with_all g words seen
bytes-run g [] seen = refl
bytes-run g (w ∷ words) seen = bytes-run g words (with_terms (term_of g w) seen)

bytes-size : (g : TermGraph) (words : List Word) → size_of_all (bytes_from (map (term_of g) words)) ≡ sizes g words
bytes-size g [] = refl
bytes-size g (w ∷ words) = ap (λ n. size_of (term_of g w) + n) (bytes-size g words)

form-size : (g : TermGraph) (form : Form) → size_of (form_term g form) ≡ 2 + sizes g (operands_of form)
form-size g (SymbolForm number wide) = refl
form-size g (Un op a) = omega arith
form-size g (Bin op a b) = omega arith
form-size g (ChooseForm wide c a b) = omega arith
form-size g (ByteForm a i) = omega arith
form-size g (JoinForm wide bytes) = ap (λ n. 2 + n) (bytes-size g bytes)

-- a form's term comes after its operands
form-run : (g : TermGraph) (form : Form) (seen : List Term) → with_terms (form_term g form) seen ≡ once_after (with_all g (operands_of form) seen) (form_term g form) seen
form-run g (SymbolForm number wide) seen = refl
form-run g (Un op a) seen = refl
form-run g (Bin op a b) seen = refl
form-run g (ChooseForm wide c a b) seen = refl
form-run g (ByteForm a i) seen = refl
form-run g (JoinForm wide bytes) seen = ap (λ others. once_after others (form_term g (JoinForm wide bytes)) seen) (bytes-run g bytes seen)

operands-held : (g : TermGraph) (t : ℕ) (form : Form) → Holds g (Numbered t) → OperandsBelow t form → All (Holds g) (operands_of form)
operands-held g t form ht below = go form (operands-more t (256 + length g.forms) form (omega (arith, ht)) below)
  where
    go : (form : Form) → OperandsBelow (256 + length g.forms) form → All (Holds g) (operands_of form)
    go (SymbolForm number wide) b = All-nil (Holds g)
    go (Un op a) b = all_one (Holds g) a b
    go (Bin op a c) b = All-cons (Holds g) a (c ∷ []) b.0 (all_one (Holds g) c b.1)
    go (ChooseForm wide c a d) b = All-cons (Holds g) c (a ∷ d ∷ []) b.0 (All-cons (Holds g) a (d ∷ []) b.1 (all_one (Holds g) d b.2))
    go (ByteForm a i) b = all_one (Holds g) a b
    go (JoinForm wide bytes) b = b

all-grows : (g : TermGraph) (words : List Word) (seen : List Term) (t : Term) → sizes g words < size_of t → list_any (is_same t) (with_all g words seen) ≡ list_any (is_same t) seen
all-grows g [] seen t h = refl
all-grows g (w ∷ words) seen t h = all-grows g words (with_terms (term_of g w) seen) t (omega (arith, h)) ∙ grows (term_of g w) seen t (omega (arith, h))

-- ---- the tasks

pub carries-put : (g : TermGraph) (t : ℕ) (tasks : List Task) (order : List ℕ) → IsGraph g.forms → Holds g (Numbered t) → All (HoldsTask g) tasks
    → All (λ x. Holds g (Numbered x)) order → CarriesOut g (Put t) tasks order tasks (with_number order t)
carries-put g t tasks order graph ht h held = record {
  same = ap (λ seen. after_tasks g tasks seen) (terms-with g order t graph ht held);
  less = omega arith;
  tasks_held = h;
  order_held = held-with g order t ht held;
}

pub carries-seen : (g : TermGraph) (t : ℕ) (form : Form) (tasks : List Task) (order : List ℕ) → IsGraph g.forms → Holds g (Numbered t) → term_of g (Numbered t) ≡ form_term g form
    → All (HoldsTask g) tasks → All (λ x. Holds g (Numbered x)) order → is_some (place_of order t) ≡ true → CarriesOut g (Visit t) tasks order tasks order
carries-seen g t form tasks order graph ht means h held there = record {
  same = ap (λ seen. after_tasks g tasks seen) (sym nothing);
  less = omega (arith, ap (λ s. size_of s) means, form-size g form);
  tasks_held = h;
  order_held = held;
}
  where
    seen : list_any (is_same (form_term g form)) (terms_at g order) ≡ true
    seen = ap (λ s. list_any (is_same s) (terms_at g order)) (sym means) ∙ seen-at g order t graph ht held ∙ there

    nothing : with_terms (term_at g t) (terms_at g order) ≡ terms_at g order
    nothing = ap (λ s. with_terms s (terms_at g order)) means ∙ form-run g form (terms_at g order)
        ∙ ap (λ b. if b then terms_at g order else with_all g (operands_of form) (terms_at g order) ++ form_term g form ∷ []) seen

pub carries-visit : (g : TermGraph) (t : ℕ) (form : Form) (tasks : List Task) (order : List ℕ) → IsGraph g.forms → Holds g (Numbered t) → term_of g (Numbered t) ≡ form_term g form
    → OperandsBelow t form → All (HoldsTask g) tasks → All (λ x. Holds g (Numbered x)) order → is_some (place_of order t) ≡ false
    → CarriesOut g (Visit t) tasks order (visits (operands_of form) ++ Put t ∷ tasks) order
carries-visit g t form tasks order graph ht means below h held absent = record {
  same = visits-run g (operands_of form) (Put t ∷ tasks) S ∙ ap (λ all. after_tasks g tasks all) (all ∙ sym one);
  less = omega (arith, visits-work g (operands_of form) (Put t ∷ tasks), ap (λ s. size_of s) means, form-size g form);
  tasks_held = visits-held g (operands_of form) (Put t ∷ tasks) (operands-held g t form ht below) (All-cons (HoldsTask g) (Put t) tasks ht h);
  order_held = held;
}
  where
    S : List Term
    S = terms_at g order

    O : List Term
    O = with_all g (operands_of form) S

    unseen : list_any (is_same (form_term g form)) S ≡ false
    unseen = ap (λ s. list_any (is_same s) S) (sym means) ∙ seen-at g order t graph ht held ∙ absent

    later : list_any (is_same (form_term g form)) O ≡ false
    later = all-grows g (operands_of form) S (form_term g form) (omega (arith, form-size g form)) ∙ unseen

    all : once_after O (term_at g t) O ≡ O ++ form_term g form ∷ []
    all = ap (λ s. once_after O s O) means ∙ ap (λ b. if b then O else O ++ form_term g form ∷ []) later

    one : with_terms (term_at g t) S ≡ O ++ form_term g form ∷ []
    one = ap (λ s. with_terms s S) means ∙ form-run g form S ∙ ap (λ b. if b then S else O ++ form_term g form ∷ []) unseen

-- ---- the same of a task that is known by an equation

pub carried-put : (g : TermGraph) (task : Task) (t : ℕ) (tasks : List Task) (order new : List ℕ) → IsGraph g.forms → HoldsTask g task → All (HoldsTask g) tasks
    → All (λ x. Holds g (Numbered x)) order → task ≡ Put t → new ≡ with_number order t → CarriesOut g task tasks order tasks new
carried-put g task t tasks order new graph ht h held is n =
    subst (λ a. CarriesOut g a tasks order tasks new) (sym is)
    (subst (λ o. CarriesOut g (Put t) tasks order tasks o) (sym n) (carries-put g t tasks order graph (subst (HoldsTask g) is ht) h held))

pub carried-seen : (g : TermGraph) (task : Task) (t : ℕ) (form : Form) (tasks : List Task) (order : List ℕ) → IsGraph g.forms → HoldsTask g task → All (HoldsTask g) tasks
    → All (λ x. Holds g (Numbered x)) order → task ≡ Visit t → term_of g (Numbered t) ≡ form_term g form → is_some (place_of order t) ≡ true → CarriesOut g task tasks order tasks order
carried-seen g task t form tasks order graph ht h held is means there =
    subst (λ a. CarriesOut g a tasks order tasks order) (sym is) (carries-seen g t form tasks order graph (subst (HoldsTask g) is ht) means h held there)

pub carried-visit : (g : TermGraph) (task : Task) (t : ℕ) (form : Form) (tasks pushed new : List Task) (order : List ℕ) → IsGraph g.forms → HoldsTask g task → All (HoldsTask g) tasks
    → All (λ x. Holds g (Numbered x)) order → task ≡ Visit t → term_of g (Numbered t) ≡ form_term g form → OperandsBelow t form → is_some (place_of order t) ≡ false
    → pushed ≡ Put t ∷ tasks → new ≡ visits (operands_of form) ++ pushed → CarriesOut g task tasks order new order
carried-visit g task t form tasks pushed new order graph ht h held is means below absent p n =
    subst (λ a. CarriesOut g a tasks order new order) (sym is)
    (subst (λ ts. CarriesOut g (Visit t) tasks order ts order) (sym (n ∙ ap (λ ts. visits (operands_of form) ++ ts) p))
    (carries-visit g t form tasks order graph (subst (HoldsTask g) is ht) means below h held absent))
