-- A clause whose literals stand once each, and a literal more.
use Rattle.std.proofs.Common.{◌≡◌, ℕ, List, [], ◌∷◌, ◌++◌, refl, sym, ap, ◌∙◌}
use Rattle.std.specs.Prelude.{Bool, true, false, not, ◌==◌, ◌||◌, if◌then◌else◌}
use Rattle.std.proofs.lemmas.Bool.{true≢false}
use Rattle.std.proofs.lemmas.List.{append-nil}
use Rattle.std.proofs.lemmas.List.Elements.{filter-append}
use Rattle.refute_check.specs.Resolution.{has, without, each_once}
use Rattle.refute_check.proofs.Membership.{swapped}

-- one literal more, which the clause doesn't hold
pub once_new : (xs : List ℕ) (x : ℕ) → has xs x ≡ false → each_once (xs ++ x ∷ []) ≡ each_once xs ++ x ∷ []
once_new [] x h = refl
once_new (y ∷ xs) x h = go (λ f. once_new xs x f) (y == x) (has xs x) refl refl
  where
    go : (has xs x ≡ false → each_once (xs ++ x ∷ []) ≡ each_once xs ++ x ∷ []) → (b d : Bool) → (y == x) ≡ b → has xs x ≡ d → each_once ((y ∷ xs) ++ x ∷ []) ≡ each_once (y ∷ xs) ++ x ∷ []
    go rec true d e f = absurd (true≢false (sym (ap (λ b. b || has xs x) e) ∙ h))
    go rec false true e f = absurd (true≢false (sym (ap (λ b. b || has xs x) e ∙ f) ∙ h))
    go rec false false e f =
        ap (λ r. y ∷ without y r) (rec f) ∙ ap (λ r. y ∷ r) (filter-append (λ o. not (o == y)) (each_once xs) (x ∷ []) ∙ ap (λ b. without y (each_once xs) ++ (if not b then x ∷ [] else [])) (swapped x y ∙ e))

-- and one that it holds already
pub once_there : (xs : List ℕ) (x : ℕ) → has xs x ≡ true → each_once (xs ++ x ∷ []) ≡ each_once xs
once_there [] x h = absurd (true≢false (sym h))
once_there (y ∷ xs) x h = go (λ f. once_there xs x f) (y == x) (has xs x) refl refl
  where
    new : (y == x) ≡ true → has xs x ≡ false → without y (each_once xs ++ x ∷ []) ≡ without y (each_once xs)
    new e f = filter-append (λ o. not (o == y)) (each_once xs) (x ∷ []) ∙ ap (λ b. without y (each_once xs) ++ (if not b then x ∷ [] else [])) (swapped x y ∙ e) ∙ append-nil (without y (each_once xs))

    go : (has xs x ≡ true → each_once (xs ++ x ∷ []) ≡ each_once xs) → (b d : Bool) → (y == x) ≡ b → has xs x ≡ d → each_once ((y ∷ xs) ++ x ∷ []) ≡ each_once (y ∷ xs)
    go rec b true e f = ap (λ r. y ∷ without y r) (rec f)
    go rec true false e f = ap (λ r. y ∷ without y r) (once_new xs x f) ∙ ap (λ r. y ∷ r) (new e f)
    go rec false false e f = absurd (true≢false (sym h ∙ ap (λ b. b || has xs x) e ∙ f))
