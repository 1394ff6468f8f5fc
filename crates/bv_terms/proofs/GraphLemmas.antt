-- The terms of a graph.
use Rattle.std.proofs.Common.{◌≡◌, ℕ, zero, suc, ◌+◌, ◌-◌, ◌^◌, ◌<◌, ◌≤◌, Bool, true, false, cond, List, [], ◌∷◌, ◌++◌, length, map, All, refl, ap, sym, ◌∙◌, subst, arith, Some, ⊎_elim}
use Rattle.std.specs.Prelude.{◌||◌, not, IsTrue, slice_get}
use Rattle.std.specs.List.{list_any}
use Rattle.std.proofs.lemmas.Bool.{false≢true}
use Rattle.std.proofs.lemmas.List.{append_assoc, append-nil, length-append, get_or_append_left}
use Rattle.std.proofs.lemmas.List.Elements.{All-head, All-tail, All-weaker}
use Rattle.bv_terms.specs.declared.words.Word.{Word}
use Rattle.bv_terms.specs.declared.words.Word.TheVariants.{Num, Term as Numbered}
use Rattle.bv_terms.specs.declared.words.Form.{Form}
use Rattle.bv_terms.specs.declared.words.Form.TheVariants.{Symbol as SymbolForm, Un, Bin, Choose as ChooseForm, Byte as ByteForm, Join as JoinForm}
use Rattle.bv_terms.specs.Terms.{Term, Number, Unary, Byte, Join, bytes_from, is_number, width_of, HasWidth, is_same}
use Rattle.bv_terms.specs.Graphs.{word_among, form_among, terms_after, terms_of, IsBelow, OperandsBelow, IsGraph, with_term}
use Rattle.bv_terms.proofs.SameLemmas.{is_same-is, is_same-itself}
use Rattle.bv_terms.proofs.ListLemmas.{get-below, get-is, get-at, get-some, get-last, get-push, any-at, any-from, map-same}

-- ---- how many terms, and one more

length-terms_after : (terms : List Term) (forms : List Form) → length (terms_after terms forms) ≡ length terms + length forms
length-terms_after terms [] = omega arith
length-terms_after terms (form ∷ forms) =
    length-terms_after (terms ++ form_among terms form ∷ []) forms ∙ ap (λ n. n + length forms) (length-append terms (form_among terms form ∷ [])) ∙ omega arith

pub length-terms_of : (forms : List Form) → length (terms_of forms) ≡ length forms
length-terms_of forms = omega (arith, length-terms_after [] forms)

terms_after-push : (terms : List Term) (forms : List Form) (form : Form) → terms_after terms (forms ++ form ∷ []) ≡ terms_after terms forms ++ form_among (terms_after terms forms) form ∷ []
terms_after-push terms [] form = refl
terms_after-push terms (first ∷ forms) form = terms_after-push (terms ++ form_among terms first ∷ []) forms form

pub terms_of-push : (forms : List Form) (form : Form) → terms_of (forms ++ form ∷ []) ≡ terms_of forms ++ form_among (terms_of forms) form ∷ []
terms_of-push forms form = terms_after-push [] forms form

-- ---- words and forms mean the same where more terms follow

pub word-extends : (terms more : List Term) (w : Word) → IsBelow (256 + length terms) w → word_among (terms ++ more) w ≡ word_among terms w
word-extends terms more (Num n) below = refl
word-extends terms more (Numbered t) below = get_or_append_left terms more (Number 0) (t - 256) (omega arith)

pub form-extends : (terms more : List Term) (form : Form) → OperandsBelow (256 + length terms) form → form_among (terms ++ more) form ≡ form_among terms form
form-extends terms more (SymbolForm number wide) below = refl
form-extends terms more (Un op a) below = ap (λ t. Unary op t) (word-extends terms more a below)
form-extends terms more (Bin op a b) below =
    let first = word-extends terms more a below.0 in
    let second = word-extends terms more b below.1 in cc
form-extends terms more (ChooseForm wide c a b) below =
    let test = word-extends terms more c below.0 in
    let first = word-extends terms more a below.1 in
    let second = word-extends terms more b below.2 in cc
form-extends terms more (ByteForm a i) below = ap (λ t. Byte t i) (word-extends terms more a below)
form-extends terms more (JoinForm wide bytes) below =
    ap (λ ts. Join wide (bytes_from ts))
    (map-same (word_among (terms ++ more)) (word_among terms) bytes
    (All-weaker (IsBelow (256 + length terms)) (λ w. word_among (terms ++ more) w ≡ word_among terms w) (λ w h. word-extends terms more w h) bytes below))

pub below-more : (m n : ℕ) (w : Word) → m ≤ n → IsBelow m w → IsBelow n w
below-more m n (Num k) h below = tt
below-more m n (Numbered t) h below = (below.0, omega arith)

pub operands-more : (m n : ℕ) (form : Form) → m ≤ n → OperandsBelow m form → OperandsBelow n form
operands-more m n (SymbolForm number wide) h below = tt
operands-more m n (Un op a) h below = below-more m n a h below
operands-more m n (Bin op a b) h below = (below-more m n a h below.0, below-more m n b h below.1)
operands-more m n (ChooseForm wide c a b) h below = (below-more m n c h below.0, below-more m n a h below.1, below-more m n b h below.2)
operands-more m n (ByteForm a i) h below = below-more m n a h below
operands-more m n (JoinForm wide bytes) h below = All-weaker (IsBelow m) (IsBelow n) (λ w below. below-more m n w h below) bytes below

-- ---- the term of a number is that of its form

after-more : (terms : List Term) (forms : List Form) → (more : List Term) × (terms_after terms forms ≡ terms ++ more)
after-more terms [] = ([], sym (append-nil terms))
after-more terms (form ∷ forms) =
    let rest = after-more (terms ++ form_among terms form ∷ []) forms in
    (form_among terms form ∷ rest.0, rest.1 ∙ append_assoc terms (form_among terms form ∷ []) rest.0)

after-at : (terms : List Term) (forms : List Form) (i : ℕ) (form : Form) → slice_get forms i ≡ Some form → OperandsBelow (256 + (length terms + i)) form
    → slice_get (terms_after terms forms) (length terms + i) ≡ Some (form_among (terms_after terms forms) form)
after-at terms [] i form e below = let wrong : ⊥ = cc in absurd wrong
after-at terms (first ∷ forms) zero form e below =
    let is : first ≡ form = cc in
    let rest = after-more (terms ++ form_among terms first ∷ []) forms in
    let more : terms_after (terms ++ form_among terms first ∷ []) forms ≡ terms ++ (form_among terms first ∷ rest.0) = rest.1 ∙ append_assoc terms (form_among terms first ∷ []) rest.0 in
    let same : form_among (terms ++ (form_among terms first ∷ rest.0)) form ≡ form_among terms form =
    form-extends terms (form_among terms first ∷ rest.0) form (operands-more (256 + (length terms + 0)) (256 + length terms) form (omega arith) below) in
    let at : length terms + 0 ≡ length terms = omega arith in
    subst (λ (all : List Term). slice_get all (length terms + 0) ≡ Some (form_among all form)) (sym more)
    (ap (λ n. slice_get (terms ++ (form_among terms first ∷ rest.0)) n) at ∙ get-last terms rest.0 (form_among terms first)
    ∙ ap (λ f. Some (form_among terms f)) is ∙ ap (λ t. Some t) (sym same))
after-at terms (first ∷ forms) (suc i) form e below =
    let longer : length (terms ++ form_among terms first ∷ []) ≡ length terms + 1 = length-append terms (form_among terms first ∷ []) in
    let place : length (terms ++ form_among terms first ∷ []) + i ≡ length terms + suc i = omega (arith, longer) in
    let later = after-at (terms ++ form_among terms first ∷ []) forms i form e
    (operands-more (256 + (length terms + suc i)) (256 + (length (terms ++ form_among terms first ∷ []) + i)) form (omega (arith, place)) below) in
    subst (λ (n : ℕ). slice_get (terms_after terms (first ∷ forms)) n ≡ Some (form_among (terms_after terms (first ∷ forms)) form)) place later

pub term-at : (forms : List Form) (i : ℕ) (form : Form) → IsGraph forms → slice_get forms i ≡ Some form
    → slice_get (terms_of forms) i ≡ Some (form_among (terms_of forms) form)
term-at forms i form graph e =
    let is : 0 + i ≡ i = omega arith in
    subst (λ (n : ℕ). slice_get (terms_of forms) n ≡ Some (form_among (terms_of forms) form)) is
    (after-at [] forms i form e (operands-more (256 + i) (256 + (0 + i)) form (omega arith) (graph.ordered i form e)))

-- which term a number is
pub numbered-is : (forms : List Form) (t : ℕ) (form : Form) → IsGraph forms → slice_get forms (t - 256) ≡ Some form
    → word_among (terms_of forms) (Numbered t) ≡ form_among (terms_of forms) form
numbered-is forms t form graph e = get-is (terms_of forms) (t - 256) (form_among (terms_of forms) form) (Number 0) (term-at forms (t - 256) form graph e)

-- ---- different words are different terms

pub number_apart : (t : Term) (n : ℕ) → IsTrue (not (is_number t)) → t ≡ Number n → ⊥
number_apart t n proper e = false≢true (subst (λ s. not (is_number s) ≡ true) e proper)

pub held : (forms : List Form) (t : ℕ) → IsBelow (256 + length forms) (Numbered t)
    → slice_get (terms_of forms) (t - 256) ≡ Some (word_among (terms_of forms) (Numbered t))
held forms t below = get-at (terms_of forms) (t - 256) (Number 0) (omega (arith, length-terms_of forms, below))

pub word-unique : (forms : List Form) → IsGraph forms → (v w : Word) → IsBelow (256 + length forms) v → IsBelow (256 + length forms) w
    → word_among (terms_of forms) v ≡ word_among (terms_of forms) w → v ≡ w
word-unique forms graph (Num n) (Num m) hv hw e = cc
word-unique forms graph (Num n) (Numbered t) hv hw e =
    absurd (number_apart (word_among (terms_of forms) (Numbered t)) n (graph.proper (t - 256) (word_among (terms_of forms) (Numbered t)) (held forms t hw)).0 (sym e))
word-unique forms graph (Numbered t) (Num n) hv hw e =
    absurd (number_apart (word_among (terms_of forms) (Numbered t)) n (graph.proper (t - 256) (word_among (terms_of forms) (Numbered t)) (held forms t hv)).0 e)
word-unique forms graph (Numbered s) (Numbered t) hv hw e =
    let same : s - 256 ≡ t - 256 = graph.once (s - 256) (t - 256) (word_among (terms_of forms) (Numbered t)) (held forms s hv ∙ ap (λ x. Some x) e) (held forms t hw) in
    let is : s ≡ t = omega (arith, hv, hw) in ap (λ n. Numbered n) is

words-unique : (forms : List Form) → IsGraph forms → (vs ws : List Word) → All (IsBelow (256 + length forms)) vs → All (IsBelow (256 + length forms)) ws
    → bytes_from (map (word_among (terms_of forms)) vs) ≡ bytes_from (map (word_among (terms_of forms)) ws) → vs ≡ ws
words-unique forms graph [] [] hv hw e = refl
words-unique forms graph (v ∷ vs) (w ∷ ws) hv hw e =
    let one : word_among (terms_of forms) v ≡ word_among (terms_of forms) w = cc in
    let all : bytes_from (map (word_among (terms_of forms)) vs) ≡ bytes_from (map (word_among (terms_of forms)) ws) = cc in
    let first : v ≡ w = word-unique forms graph v w (All-head (IsBelow (256 + length forms)) v vs hv) (All-head (IsBelow (256 + length forms)) w ws hw) one in
    let others : vs ≡ ws = words-unique forms graph vs ws (All-tail (IsBelow (256 + length forms)) v vs hv) (All-tail (IsBelow (256 + length forms)) w ws hw) all in cc
words-unique forms graph [] (w ∷ ws) hv hw e = cc
words-unique forms graph (v ∷ vs) [] hv hw e = cc

pub form-unique : (forms : List Form) → IsGraph forms → (f g : Form) → OperandsBelow (256 + length forms) f → OperandsBelow (256 + length forms) g
    → form_among (terms_of forms) f ≡ form_among (terms_of forms) g → f ≡ g
form-unique forms graph (SymbolForm number wide) (SymbolForm other wider) hf hg e = cc
form-unique forms graph (Un op a) (Un oq b) hf hg e =
    let ops : op ≡ oq = cc in
    let means : word_among (terms_of forms) a ≡ word_among (terms_of forms) b = cc in
    let first : a ≡ b = word-unique forms graph a b hf hg means in cc
form-unique forms graph (Bin op a b) (Bin oq c d) hf hg e =
    let ops : op ≡ oq = cc in
    let one : word_among (terms_of forms) a ≡ word_among (terms_of forms) c = cc in
    let two : word_among (terms_of forms) b ≡ word_among (terms_of forms) d = cc in
    let first : a ≡ c = word-unique forms graph a c hf.0 hg.0 one in
    let second : b ≡ d = word-unique forms graph b d hf.1 hg.1 two in cc
form-unique forms graph (ChooseForm wide c a b) (ChooseForm wider d x y) hf hg e =
    let width : wide ≡ wider = cc in
    let zero_th : word_among (terms_of forms) c ≡ word_among (terms_of forms) d = cc in
    let one : word_among (terms_of forms) a ≡ word_among (terms_of forms) x = cc in
    let two : word_among (terms_of forms) b ≡ word_among (terms_of forms) y = cc in
    let test : c ≡ d = word-unique forms graph c d hf.0 hg.0 zero_th in
    let first : a ≡ x = word-unique forms graph a x hf.1 hg.1 one in
    let second : b ≡ y = word-unique forms graph b y hf.2 hg.2 two in cc
form-unique forms graph (ByteForm a i) (ByteForm b j) hf hg e =
    let place : i ≡ j = cc in
    let means : word_among (terms_of forms) a ≡ word_among (terms_of forms) b = cc in
    let first : a ≡ b = word-unique forms graph a b hf hg means in cc
form-unique forms graph (JoinForm wide bytes) (JoinForm wider others) hf hg e =
    let width : wide ≡ wider = cc in
    let means : bytes_from (map (word_among (terms_of forms)) bytes) ≡ bytes_from (map (word_among (terms_of forms)) others) = cc in
    let all : bytes ≡ others = words-unique forms graph bytes others hf hg means in cc
form-unique forms graph _ _ hf hg e = cc

-- ---- one more form

form_is_no_number : (terms : List Term) (form : Form) → is_number (form_among terms form) ≡ false
form_is_no_number terms (SymbolForm number wide) = refl
form_is_no_number terms (Un op a) = refl
form_is_no_number terms (Bin op a b) = refl
form_is_no_number terms (ChooseForm wide c a b) = refl
form_is_no_number terms (ByteForm a i) = refl
form_is_no_number terms (JoinForm wide bytes) = refl

-- a form that isn't there is another term than those that are
new-term : (forms : List Form) → IsGraph forms → (form : Form) → OperandsBelow (256 + length forms) form → ((i : ℕ) → slice_get forms i ≡ Some form → ⊥)
    → (i : ℕ) → slice_get (terms_of forms) i ≡ Some (form_among (terms_of forms) form) → ⊥
new-term forms graph form below absent i e =
    let within : i < length forms = omega (arith, get-below (terms_of forms) i (form_among (terms_of forms) form) e, length-terms_of forms) in
    let there = get-some forms i within in
    let means : slice_get (terms_of forms) i ≡ Some (form_among (terms_of forms) there.0) = term-at forms i there.0 graph there.1 in
    let same : form_among (terms_of forms) there.0 ≡ form_among (terms_of forms) form = cc in
    let is : there.0 ≡ form = form-unique forms graph there.0 form (operands-more (256 + i) (256 + length forms) there.0 (omega arith) (graph.ordered i there.0 there.1)) below same in
    absurd (absent i (there.1 ∙ ap (λ f. Some f) is))

pub graph-push : (forms : List Form) → IsGraph forms → (form : Form) → OperandsBelow (256 + length forms) form
    → HasWidth (width_of (form_among (terms_of forms) form)) (form_among (terms_of forms) form) → ((i : ℕ) → slice_get forms i ≡ Some form → ⊥) → length forms < 2 ^ 60
    → IsGraph (forms ++ form ∷ [])
graph-push forms graph form below typed absent room = record {
  once = λ i j t at_i at_j.
      once i j t (subst (λ (l : List Term). slice_get l i ≡ Some t) (terms_of-push forms form) at_i) (subst (λ (l : List Term). slice_get l j ≡ Some t) (terms_of-push forms form) at_j);
  ordered = λ i f at. ⊎_elim (λ old. graph.ordered i f old)
      (λ last. subst (λ g. OperandsBelow (256 + i) g) (sym last.1) (operands-more (256 + length forms) (256 + i) form (omega (arith, last.0)) below)) (get-push forms form i f at);
  proper = λ i t at. ⊎_elim (λ old. graph.proper i t old)
      (λ last. subst (λ s. IsTrue (not (is_number s)) × HasWidth (width_of s) s) (sym last.1) (ap not (form_is_no_number (terms_of forms) form), typed))
      (get-push (terms_of forms) (form_among (terms_of forms) form) i t (subst (λ (l : List Term). slice_get l i ≡ Some t) (terms_of-push forms form) at));
  few = omega (arith, length-append forms (form ∷ []));
}
  where
    T : Term
    T = form_among (terms_of forms) form

    once : (i j : ℕ) (t : Term) → slice_get (terms_of forms ++ T ∷ []) i ≡ Some t → slice_get (terms_of forms ++ T ∷ []) j ≡ Some t → i ≡ j
    once i j t at_i at_j =
        ⊎_elim
        (λ old. ⊎_elim (λ other. graph.once i j t old other)
        (λ last. absurd (new-term forms graph form below absent i (old ∙ ap (λ s. Some s) last.1))) (get-push (terms_of forms) T j t at_j))
        (λ last. ⊎_elim (λ other. absurd (new-term forms graph form below absent j (other ∙ ap (λ s. Some s) last.1)))
        (λ also. last.0 ∙ sym also.0) (get-push (terms_of forms) T j t at_j))
        (get-push (terms_of forms) T i t at_i)

-- ---- the terms with one more, where it is there or not

-- a word of the graph makes no term
pub with_held : (forms : List Form) (w : Word) → IsBelow (256 + length forms) w → terms_of forms ≡ with_term (terms_of forms) (word_among (terms_of forms) w)
with_held forms (Num n) below = refl
with_held forms (Numbered t) below =
    let there = any-from (is_same (word_among (terms_of forms) (Numbered t))) (terms_of forms) (t - 256) (word_among (terms_of forms) (Numbered t)) (held forms t below) (is_same-itself (word_among (terms_of forms) (Numbered t))) in
    go (is_number (word_among (terms_of forms) (Numbered t))) (list_any (is_same (word_among (terms_of forms) (Numbered t))) (terms_of forms)) there
  where
    go : (b c : Bool) → c ≡ true → terms_of forms ≡ cond (b || c) (terms_of forms) (terms_of forms ++ word_among (terms_of forms) (Numbered t) ∷ [])
    go true c e = refl
    go false true e = refl
    go false false e = absurd (false≢true e)

-- a form that isn't there makes one
pub with_new : (forms : List Form) → IsGraph forms → (form : Form) → OperandsBelow (256 + length forms) form → ((i : ℕ) → slice_get forms i ≡ Some form → ⊥)
    → terms_of (forms ++ form ∷ []) ≡ with_term (terms_of forms) (form_among (terms_of forms) form)
with_new forms graph form below absent =
    terms_of-push forms form ∙ go (is_number T) (list_any (is_same T) (terms_of forms)) refl (form_is_no_number (terms_of forms) form)
  where
    T : Term
    T = form_among (terms_of forms) form

    go : (b c : Bool) → list_any (is_same T) (terms_of forms) ≡ c → b ≡ false → terms_of forms ++ T ∷ [] ≡ cond (b || c) (terms_of forms) (terms_of forms ++ T ∷ [])
    go true c is e = absurd (false≢true (sym e))
    go false false is e = refl
    go false true is e =
        let found = any-at (is_same T) (terms_of forms) is in
        let same : T ≡ found.1 = is_same-is T found.1 found.3 in
        absurd (new-term forms graph form below absent found.0 (found.2 ∙ ap (λ s. Some s) (sym same)))
