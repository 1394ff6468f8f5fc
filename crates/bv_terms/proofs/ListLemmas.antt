-- Items of lists by their places.
use Rattle.std.proofs.Common.{◌≡◌, ℕ, zero, suc, ◌<◌, Bool, true, false, List, [], ◌∷◌, ◌++◌, length, map, All, refl, ap, sym, ◌∙◌, arith, Some, ⊎_elim, inl, inr}
use Rattle.std.specs.Prelude.{◌⊎◌, ◌||◌, slice_get, slice_index_or}
use Rattle.std.specs.List.{list_any}
use Rattle.std.proofs.lemmas.Bool.{false≢true}
use Rattle.std.proofs.lemmas.List.Elements.{All-head, All-tail}

module _ {X : Type 0} where
  pub get-below : (xs : List X) (i : ℕ) (x : X) → slice_get xs i ≡ Some x → i < length xs
  get-below [] i x e = let wrong : ⊥ = cc in absurd wrong
  get-below (y ∷ xs) zero x e = omega arith
  get-below (y ∷ xs) (suc i) x e = omega (arith, get-below xs i x e)

  pub get-is : (xs : List X) (i : ℕ) (x d : X) → slice_get xs i ≡ Some x → slice_index_or xs i d ≡ x
  get-is [] i x d e = let wrong : ⊥ = cc in absurd wrong
  get-is (y ∷ xs) zero x d e = cc
  get-is (y ∷ xs) (suc i) x d e = get-is xs i x d e

  pub get-at : (xs : List X) (i : ℕ) (d : X) → i < length xs → slice_get xs i ≡ Some (slice_index_or xs i d)
  get-at [] i d h = absurd (omega arith)
  get-at (y ∷ xs) zero d h = refl
  get-at (y ∷ xs) (suc i) d h = get-at xs i d (omega arith)

  pub get-read : (xs : List X) (i : ℕ) (x : X) → i < length xs → x ≡ slice_index_or xs i x → slice_get xs i ≡ Some x
  get-read xs i x h e = get-at xs i x h ∙ ap (λ y. Some y) (sym e)

  pub get-some : (xs : List X) (i : ℕ) → i < length xs → (x : X) × (slice_get xs i ≡ Some x)
  get-some [] i h = absurd (omega arith)
  get-some (y ∷ xs) zero h = (y, refl)
  get-some (y ∷ xs) (suc i) h = get-some xs i (omega arith)

  pub get-left : (xs ys : List X) (i : ℕ) (x : X) → slice_get xs i ≡ Some x → slice_get (xs ++ ys) i ≡ Some x
  get-left [] ys i x e = let wrong : ⊥ = cc in absurd wrong
  get-left (y ∷ xs) ys zero x e = e
  get-left (y ∷ xs) ys (suc i) x e = get-left xs ys i x e

  pub get-last : (xs ys : List X) (y : X) → slice_get (xs ++ y ∷ ys) (length xs) ≡ Some y
  get-last [] ys y = refl
  get-last (x ∷ xs) ys y = get-last xs ys y

  -- an item of a list with one more at its end is an old one, or that one
  pub get-push : (xs : List X) (y : X) (i : ℕ) (x : X) → slice_get (xs ++ y ∷ []) i ≡ Some x → (slice_get xs i ≡ Some x) ⊎ ((i ≡ length xs) × (x ≡ y))
  get-push [] y zero x e = inr (refl, cc)
  get-push [] y (suc i) x e = let wrong : ⊥ = cc in absurd wrong
  get-push (z ∷ xs) y zero x e = inl e
  get-push (z ∷ xs) y (suc i) x e = ⊎_elim (λ a. inl a) (λ b. inr (ap suc b.0, b.1)) (get-push xs y i x e)

  pub any-at : (p : X → Bool) (xs : List X) → list_any p xs ≡ true → (i : ℕ) × (x : X) × (slice_get xs i ≡ Some x) × (p x ≡ true)
  any-at p [] e = absurd (false≢true e)
  any-at p (x ∷ xs) e = go (λ later. any-at p xs later) (p x) refl e
    where
      go : (list_any p xs ≡ true → (i : ℕ) × (y : X) × (slice_get xs i ≡ Some y) × (p y ≡ true)) → (b : Bool) → p x ≡ b → (b || list_any p xs) ≡ true
          → (i : ℕ) × (y : X) × (slice_get (x ∷ xs) i ≡ Some y) × (p y ≡ true)
      go later true is e = (0, x, refl, is)
      go later false is e = let found = later e in (suc found.0, found.1, found.2, found.3)

  pub any-from : (p : X → Bool) (xs : List X) (i : ℕ) (x : X) → slice_get xs i ≡ Some x → p x ≡ true → list_any p xs ≡ true
  any-from p [] i x e holds = let wrong : ⊥ = cc in absurd wrong
  any-from p (y ∷ xs) zero x e holds = let is : y ≡ x = cc in rw is (rw holds refl)
  any-from p (y ∷ xs) (suc i) x e holds = go (p y) (any-from p xs i x e holds)
    where
      go : (b : Bool) → list_any p xs ≡ true → (b || list_any p xs) ≡ true
      go true later = refl
      go false later = later

module _ {X Y : Type 0} where
  pub map-same : (f g : X → Y) (xs : List X) → All (λ x. f x ≡ g x) xs → map f xs ≡ map g xs
  map-same f g [] each = refl
  map-same f g (x ∷ xs) each =
      let first : f x ≡ g x = All-head (λ x. f x ≡ g x) x xs each in
      let others : map f xs ≡ map g xs = map-same f g xs (All-tail (λ x. f x ≡ g x) x xs each) in cc

  pub get-map : (f : X → Y) (xs : List X) (i : ℕ) (y : Y) → slice_get (map f xs) i ≡ Some y → (x : X) × (slice_get xs i ≡ Some x) × (f x ≡ y)
  get-map f [] i y e = let wrong : ⊥ = cc in absurd wrong
  get-map f (x ∷ xs) zero y e = (x, refl, cc)
  get-map f (x ∷ xs) (suc i) y e = get-map f xs i y e
