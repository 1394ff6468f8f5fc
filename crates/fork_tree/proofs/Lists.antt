-- Facts of lists of draws and of lists of rows.
use Rattle.std.proofs.Common.{◌⊎◌, inl, inr, ◌≡◌, ℕ, ◌<◌, List, [], ◌∷◌, ◌++◌, refl, arith}
use Rattle.sym_state.specs.Nodes.{IsAtMost}
use Rattle.fork_tree.specs.Covers.{NoneOf, OneOf, OneAtMost, SomeOf}

-- two lists that are at most one another are one
pub at-most-both : (xs ys : List ℕ) → IsAtMost xs ys → IsAtMost ys xs → xs ≡ ys
at-most-both [] [] h k = refl
at-most-both [] (y ∷ ys) h k = absurd k
at-most-both (x ∷ xs) [] h k = absurd h
at-most-both (x ∷ xs) (y ∷ ys) h k = go (λ a b. at-most-both xs ys a b) h k
  where
    go : (IsAtMost xs ys → IsAtMost ys xs → xs ≡ ys) → (x < y) ⊎ ((x ≡ y) × IsAtMost xs ys) → (y < x) ⊎ ((y ≡ x) × IsAtMost ys xs) → (x ∷ xs) ≡ (y ∷ ys)
    go same (inl a) (inl b) = absurd (omega (arith, a, b))
    go same (inl a) (inr b) = absurd (omega (arith, a, b.0))
    go same (inr a) (inl b) = absurd (omega (arith, a.0, b))
    go same (inr a) (inr b) = let e : xs ≡ ys = same a.1 b.1 in let f = a.0 in cc

module _ {A : Type 0} (P : A → Type 0) where
  pub none-append : (xs ys : List A) → NoneOf P xs → NoneOf P ys → NoneOf P (xs ++ ys)
  none-append [] ys h k = k
  none-append (x ∷ xs) ys h k = (h.0, none-append xs ys h.1 k)

  pub none-of : (xs : List A) → (SomeOf P xs → ⊥) → NoneOf P xs
  none-of [] h = tt
  none-of (x ∷ xs) h = (λ p. h (inl p), none-of xs (λ k. h (inr k)))

  -- the lists have no element with P both
  pub at-most-append : (xs ys : List A) → OneAtMost P xs → OneAtMost P ys → (SomeOf P xs → SomeOf P ys → ⊥) → OneAtMost P (xs ++ ys)
  at-most-append [] ys h k apart = k
  at-most-append (x ∷ xs) ys h k apart = (λ p. none-append xs ys (h.0 p) (none-of ys (λ q. apart (inl p) q)), at-most-append xs ys h.1 k (λ p q. apart (inr p) q))

  pub some-append : (xs ys : List A) → SomeOf P (xs ++ ys) → SomeOf P xs ⊎ SomeOf P ys
  some-append [] ys h = inr h
  some-append (x ∷ xs) ys (inl p) = inl (inl p)
  some-append (x ∷ xs) ys (inr h) = go (some-append xs ys h)
    where
      go : SomeOf P xs ⊎ SomeOf P ys → (P x ⊎ SomeOf P xs) ⊎ SomeOf P ys
      go (inl a) = inl (inr a)
      go (inr b) = inr b

  pub some-left : (xs ys : List A) → SomeOf P xs → SomeOf P (xs ++ ys)
  some-left [] ys h = absurd h
  some-left (x ∷ xs) ys (inl p) = inl p
  some-left (x ∷ xs) ys (inr h) = inr (some-left xs ys h)

  pub some-right : (xs ys : List A) → SomeOf P ys → SomeOf P (xs ++ ys)
  some-right [] ys h = h
  some-right (x ∷ xs) ys h = inr (some-right xs ys h)

  -- one at most and some are exactly one
  pub one-of : (xs : List A) → OneAtMost P xs → SomeOf P xs → OneOf P xs
  one-of [] h k = absurd k
  one-of (x ∷ xs) h (inl p) = inl (p, h.0 p)
  one-of (x ∷ xs) h (inr k) = inr (λ p. clash xs (h.0 p) k, one-of xs h.1 k)
    where
      clash : (xs : List A) → NoneOf P xs → SomeOf P xs → ⊥
      clash [] h k = absurd k
      clash (x ∷ xs) h (inl p) = h.0 p
      clash (x ∷ xs) h (inr k) = clash xs h.1 k
