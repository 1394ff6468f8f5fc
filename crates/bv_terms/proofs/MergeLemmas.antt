-- Segments that become one.
use Rattle.std.proofs.Common.{◌≡◌, ℕ, zero, suc, ◌+◌, ◌≤◌, List, [], ◌∷◌, ◌++◌, length, map, take, ap, sym, ◌∙◌, arith, Option, Some, None}
use Rattle.std.specs.Prelude.{IfSome, slice_get}
use Rattle.std.proofs.lemmas.List.{append_assoc, take_all}
use Rattle.bv_terms.specs.declared.words.Form.{Form}
use Rattle.bv_terms.specs.code.Index.{all_forms}

pub some_more : {X : Type 0} (r : Option X) (P Q : X → Type 0) → ((x : X) → P x → Q x) → IfSome r P → IfSome r Q
some_more (Some x) P Q more h = more x h
some_more None P Q more h = h

-- the last segment with what follows it
pub last-joined : {X : Type 0} (f : X → List Form) (xs : List X) (k : ℕ) (x : X) (last both : List Form) → length xs ≡ suc k → slice_get xs k ≡ Some x → both ≡ f x ++ last
    → all_forms (map f (take k xs)) both ≡ all_forms (map f xs) last
last-joined f [] k x last both long at is = absurd (omega arith)
last-joined f (y ∷ []) zero x last both long at is = let same : y ≡ x = cc in is ∙ ap (λ z. f z ++ last) (sym same)
last-joined f (y ∷ z ∷ zs) zero x last both long at is = absurd (omega arith)
last-joined f (y ∷ xs) (suc k) x last both long at is = ap (λ fs. f y ++ fs) (last-joined f xs k x last both (omega arith) at is)

-- one more form of a segment
pub append-more : (old more now new : List Form) (i : ℕ) (form : Form) → now ≡ old ++ take i more → slice_get more i ≡ Some form → new ≡ now ++ form ∷ [] → new ≡ old ++ take (i + 1) more
append-more old more now new i form so_far at added =
    added ∙ ap (λ fs. fs ++ form ∷ []) so_far ∙ append_assoc old (take i more) (form ∷ []) ∙ ap (λ fs. old ++ fs) (sym (next more i at))
  where
    next : (xs : List Form) (i : ℕ) → slice_get xs i ≡ Some form → take (i + 1) xs ≡ take i xs ++ form ∷ []
    next [] i e = let wrong : ⊥ = cc in absurd wrong
    next (x ∷ xs) zero e = let is : x ≡ form = cc in ap (λ y. y ∷ []) is
    next (x ∷ xs) (suc i) e = let z : suc i + 1 ≡ suc (i + 1) = omega arith in rw z (ap (λ ys. x ∷ ys) (next xs i e))

pub append-all : (old more now : List Form) (i : ℕ) → now ≡ old ++ take i more → length more ≤ i → now ≡ old ++ more
append-all old more now i so_far h = so_far ∙ ap (λ fs. old ++ fs) (take_all i more h)
