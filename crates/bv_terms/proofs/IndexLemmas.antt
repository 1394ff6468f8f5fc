-- The index of a segment, and the forms of segments one after another.
use Rattle.std.proofs.Common.{◌≡◌, ℕ, zero, suc, ◌+◌, ◌-◌, ◌<◌, ◌≤◌, Bool, true, false, cond, List, [], ◌∷◌, ◌++◌, length, map, drop, refl, ap, ap₂, sym, ◌∙◌, arith, Option, Some, None, ⊎_elim}
use Rattle.std.specs.Prelude.{◌↔◌, ◌^◌, slice_get, IfSome, IfNone, Result, Ok, Err, is_err, OnOk, OnErr}
use Rattle.std.specs.List.{AllZip}
use Rattle.std.specs.declared.cmp.Ordering.{Ordering}
use Rattle.std.specs.declared.cmp.Ordering.TheVariants.{Less, Equal, Greater}
use Rattle.std.specs.declared.cmp.Reverse.{Reverse}
use Rattle.std.specs.Ordering.{is_eq}
use Rattle.std.specs.BTreeMap.{BTreeMap, get, is_at}
use Rattle.std.proofs.lemmas.Bool.{false≢true, cases_lt}
use Rattle.std.proofs.lemmas.List.{append_assoc, append-nil, length-append, drop_all}
use Rattle.bv_terms.specs.declared.words.Form.{Form}
use Rattle.bv_terms.specs.declared.key.Key.{Key}
use Rattle.bv_terms.specs.code.Index.{form_of, key_cmp, IsIndexed, all_forms}
use Rattle.bv_terms.proofs.ListLemmas.{get-below, get-some, get-left, get-last, get-push}
use Rattle.bv_terms.proofs.KeyLemmas.{key-equal, key-same}

-- ---- one more form

equal_is : (o : Ordering) → is_eq o ≡ true → o ≡ Equal
equal_is Less e = absurd (false≢true e)
equal_is Equal e = refl
equal_is Greater e = absurd (false≢true e)

some_number : (i j : ℕ) → Some i ≡ Some j → i ≡ j
some_number i j e = cc

some_form : (f g : Form) → Some f ≡ Some g → f ≡ g
some_form f g e = cc

module _ (forms : List Form) (form : Form) (key : Reverse Key) (old new : BTreeMap (Reverse Key) ℕ) (indexed : IsIndexed forms old) (is : form_of key.0 ≡ form)
    (absent : (i : ℕ) → slice_get forms i ≡ Some form → ⊥)
    (updates : (q : Reverse Key) → get key_cmp new q ≡ cond (is_at (key_cmp key) q) (Some (length forms)) (get key_cmp old q)) where
  -- at a key of the form that was put there
  here : (k : Reverse Key) (i : ℕ) → is_at (key_cmp key) k ≡ true → (get key_cmp new k ≡ Some i) ↔ (slice_get (forms ++ form ∷ []) i ≡ Some (form_of k.0))
  here k i e = (
    λ at. let place : length forms ≡ i = some_number (length forms) i (sym there ∙ at) in
        ap (λ n. slice_get (forms ++ form ∷ []) n) (sym place) ∙ get-last forms [] form ∙ ap (λ f. Some f) (sym is ∙ same),
    λ at. ⊎_elim (λ was. absurd (absent i (was ∙ ap (λ f. Some f) (sym same ∙ is)))) (λ last. there ∙ ap (λ n. Some n) (sym last.0)) (get-push forms form i (form_of k.0) at),
  )
    where
      same : form_of key.0 ≡ form_of k.0
      same = sym (key-equal k.0 key.0 (equal_is (key_cmp key k) e))

      there : get key_cmp new k ≡ Some (length forms)
      there = updates k ∙ ap (λ b. cond b (Some (length forms)) (get key_cmp old k)) e

  elsewhere : (k : Reverse Key) (i : ℕ) → is_at (key_cmp key) k ≡ false → (get key_cmp new k ≡ Some i) ↔ (slice_get (forms ++ form ∷ []) i ≡ Some (form_of k.0))
  elsewhere k i e = (
    λ at. get-left forms (form ∷ []) i (form_of k.0) ((indexed k i).0 (sym stays ∙ at)),
    λ at. ⊎_elim (λ was. stays ∙ (indexed k i).1 was)
        (λ last. absurd (false≢true (sym e ∙ ap is_eq (key-same k.0 key.0 (last.1 ∙ sym is))))) (get-push forms form i (form_of k.0) at),
  )
    where
      stays : get key_cmp new k ≡ get key_cmp old k
      stays = updates k ∙ ap (λ b. cond b (Some (length forms)) (get key_cmp old k)) e

  pub indexed-push : IsIndexed (forms ++ form ∷ []) new
  indexed-push k i = go (is_at (key_cmp key) k) refl
    where
      go : (b : Bool) → is_at (key_cmp key) k ≡ b → (get key_cmp new k ≡ Some i) ↔ (slice_get (forms ++ form ∷ []) i ≡ Some (form_of k.0))
      go true e = here k i e
      go false e = elsewhere k i e

-- ---- segments one after another

pub all-apart : (segments : List (List Form)) (last : List Form) → all_forms segments last ≡ all_forms segments [] ++ last
all-apart [] last = refl
all-apart (segment ∷ segments) last = ap (λ fs. segment ++ fs) (all-apart segments last) ∙ sym (append_assoc segment (all_forms segments []) last)

pub length-all : (segments : List (List Form)) (last : List Form) → length (all_forms segments last) ≡ length (all_forms segments []) + length last
length-all segments last = ap length (all-apart segments last) ∙ length-append (all_forms segments []) last

-- the last segment is closed
pub all-closed : (segments : List (List Form)) (last : List Form) → all_forms (segments ++ last ∷ []) [] ≡ all_forms segments last
all-closed [] last = append-nil last
all-closed (segment ∷ segments) last = ap (λ fs. segment ++ fs) (all-closed segments last)

pub all-push : (segments : List (List Form)) (last : List Form) (form : Form) → all_forms segments (last ++ form ∷ []) ≡ all_forms segments last ++ form ∷ []
all-push segments last form =
    all-apart segments (last ++ form ∷ []) ∙ sym (append_assoc (all_forms segments []) last (form ∷ [])) ∙ ap (λ fs. fs ++ form ∷ []) (sym (all-apart segments last))

-- ---- looking for a place, from the first segment on

pub behind : (xs ys : List Form) (i : ℕ) → slice_get (xs ++ ys) (length xs + i) ≡ slice_get ys i
behind [] ys i = let z : 0 + i ≡ i = omega arith in ap (λ n. slice_get ys n) z
behind (x ∷ xs) ys i = let z : suc (length xs) + i ≡ suc (length xs + i) = omega arith in ap (λ n. slice_get (x ∷ (xs ++ ys)) n) z ∙ behind xs ys i

pub get-past : (xs ys : List Form) (i : ℕ) → length xs ≤ i → slice_get (xs ++ ys) i ≡ slice_get ys (i - length xs)
get-past xs ys i h = let e : i ≡ length xs + (i - length xs) = omega arith in ap (λ n. slice_get (xs ++ ys) n) e ∙ behind xs ys (i - length xs)

pub get-before : (xs ys : List Form) (i : ℕ) → i < length xs → slice_get (xs ++ ys) i ≡ slice_get xs i
get-before [] ys i h = absurd (omega arith)
get-before (x ∷ xs) ys zero h = refl
get-before (x ∷ xs) ys (suc i) h = get-before xs ys i (omega arith)

-- the forms of the segments from a place on
module _ {X : Type 0} (f : X → List Form) where
  pub next-segment : (xs : List X) (last : List Form) (k : ℕ) (x : X) → slice_get xs k ≡ Some x → all_forms (map f (drop k xs)) last ≡ f x ++ all_forms (map f (drop (k + 1) xs)) last
  next-segment [] last k x e = let wrong : ⊥ = cc in absurd wrong
  next-segment (y ∷ xs) last zero x e = let is : y ≡ x = cc in ap (λ z. f z ++ all_forms (map f xs) last) is
  next-segment (y ∷ xs) last (suc k) x e = let next : suc k + 1 ≡ suc (k + 1) = omega arith in rw next (next-segment xs last k x e)

  pub no-segment : (xs : List X) (last : List Form) (k : ℕ) → length xs ≤ k → all_forms (map f (drop k xs)) last ≡ last
  no-segment xs last k h = ap (λ ys. all_forms (map f ys) last) (drop_all k xs h)

-- what is sought was not met yet: these forms are still to be seen
pub record Sought (all rest : List Form) (start : ℕ) (form : Form) : Type 0 where
  pub forward : (i : ℕ) → slice_get all (start + i) ≡ slice_get rest i
  pub before : (i : ℕ) → i < start → slice_get all i ≡ Some form → ⊥
  pub long : length all ≡ start + length rest

pub sought-all : (all : List Form) (form : Form) → Sought all all 0 form
sought-all all form = record {
  forward = λ i. let z : 0 + i ≡ i = omega arith in ap (λ n. slice_get all n) z;
  before = λ i h. absurd (omega arith);
  long = omega arith;
}

pub sought-next : (all rest segment more : List Form) (start : ℕ) (form : Form) → Sought all rest start form → rest ≡ segment ++ more → ((i : ℕ) → slice_get segment i ≡ Some form → ⊥)
    → Sought all more (start + length segment) form
sought-next all rest segment more start form s is absent = record {
  forward = λ i. let z : start + length segment + i ≡ start + (length segment + i) = omega arith in
      ap (λ n. slice_get all n) z ∙ s.forward (length segment + i) ∙ ap (λ fs. slice_get fs (length segment + i)) is ∙ behind segment more i;
  before = λ i h at. ⊎_elim (λ old. s.before i old at)
      (λ later. let z : start + (i - start) ≡ i = omega arith in
      absurd (absent (i - start) (sym (get-before segment more (i - start) (omega arith)) ∙ ap (λ fs. slice_get fs (i - start)) (sym is) ∙ sym (s.forward (i - start)) ∙ ap (λ n. slice_get all n) z ∙ at)))
      (cases_lt i start);
  long = s.long ∙ ap (λ fs. start + length fs) is ∙ ap (λ n. start + n) (length-append segment more) ∙ omega arith;
}

pub sought-found : (all rest segment more : List Form) (start i : ℕ) (form : Form) → Sought all rest start form → rest ≡ segment ++ more → slice_get segment i ≡ Some form
    → slice_get all (start + i) ≡ Some form
sought-found all rest segment more start i form s is at = s.forward i ∙ ap (λ fs. slice_get fs i) is ∙ get-left segment more i form at

pub sought-none : (all rest : List Form) (start : ℕ) (form : Form) → Sought all rest start form → ((i : ℕ) → slice_get rest i ≡ Some form → ⊥) → (i : ℕ) → slice_get all i ≡ Some form → ⊥
sought-none all rest start form s absent i at =
    ⊎_elim (λ old. s.before i old at)
    (λ later. let z : start + (i - start) ≡ i = omega arith in absurd (absent (i - start) (sym (s.forward (i - start)) ∙ ap (λ n. slice_get all n) z ∙ at)))
    (cases_lt i start)

-- ---- what the calls say of all forms

pub within : (all : List Form) (i : ℕ) (form : Form) → length all ≤ 2 ^ 60 → slice_get all i ≡ Some form → i < 2 ^ 64
within all i form most at = omega (arith, get-below all i form at)

pub not_there : (all : List Form) (i : ℕ) → i < length all → slice_get all i ≡ None → ⊥
not_there all i h e = let there = get-some all i h in cc

-- a segment behind the others
pub same-segments : {X : Type 0} (f : X → List Form) (xs ys : List X) → AllZip (λ x y. f y ≡ f x) xs ys → map f ys ≡ map f xs
same-segments f [] [] h = refl
same-segments f [] (y ∷ ys) h = elim h [ ]
same-segments f (x ∷ xs) [] h = elim h [ ]
same-segments f (x ∷ xs) (y ∷ ys) h = ap₂ (λ s ss. s ∷ ss) h.0 (same-segments f xs ys h.1)

pub fits-next : (all rest segment more : List Form) (start : ℕ) (form : Form) → Sought all rest start form → rest ≡ segment ++ more → start + length segment ≤ length all
fits-next all rest segment more start form s is = omega (arith, s.long, ap length is, length-append segment more)

module _ {T E : Type 0} where
  -- what holds where a result is Ok
  pub where_ok : (r : Result T E) (P : Type 0) → is_err r ≡ false → OnOk r P → P
  where_ok (Ok x) P is h = h
  where_ok (Err e) P is h = absurd (false≢true (sym is))

  pub on_ok : (r : Result T E) (P Q : Type 0) → (P → Q) → OnOk r P → OnOk r Q
  on_ok (Ok x) P Q more h = more h
  on_ok (Err e) P Q more h = h

  pub length-after : (r : Result T E) (old new : List Form) (form : Form) → OnOk r (new ≡ old ++ form ∷ []) → OnErr r (new ≡ old) → length new ≤ length old + 1
  length-after (Ok x) old new form ok err = omega (arith, ap length ok, length-append old (form ∷ []))
  length-after (Err e) old new form ok err = omega (arith, ap length err)

-- ---- what a map says of a key

pub found-at : (r : Option ℕ) (forms : List Form) (key : Reverse Key) (places : BTreeMap (Reverse Key) ℕ) → IsIndexed forms places → r ≡ get key_cmp places key
    → IfSome r (λ i. slice_get forms i ≡ Some (form_of key.0))
found-at (Some i) forms key places indexed e = (indexed key i).0 (sym e)
found-at None forms key places indexed e = tt

pub absent-at : (r : Option ℕ) (forms : List Form) (key : Reverse Key) (places : BTreeMap (Reverse Key) ℕ) → IsIndexed forms places → r ≡ get key_cmp places key
    → IfNone r ((i : ℕ) → slice_get forms i ≡ Some (form_of key.0) → ⊥)
absent-at (Some i) forms key places indexed e = tt
absent-at None forms key places indexed e = λ i at. let is : get key_cmp places key ≡ Some i = (indexed key i).1 at in let wrong : ⊥ = cc in wrong
