-- Turns, one at a time.
use Rattle.std.proofs.Common.{◌≡◌, ℕ, zero, suc, List, refl, ap, ◌∙◌}
use Rattle.refute_check.specs.Machine.{State, Turn, On, Model, Refuted, Spent, turn, turns, then_turn}

then-on : (x : Turn) → then_turn x (λ t. On t) ≡ x
then-on (On s) = refl
then-on (Model t) = refl
then-on (Refuted log) = refl
then-on Spent = refl

-- one turn more
pub turns_more : (order : List ℕ) (bound n : ℕ) (s t : State) → turns order bound n s ≡ On t → turns order bound (suc n) s ≡ turn order bound t
turns_more order bound zero s t e = let f : s ≡ t = cc in then-on (turn order bound s) ∙ ap (λ s. turn order bound s) f
turns_more order bound (suc n) s t e = go (λ u f. turns_more order bound n u t f) (turn order bound s) e
  where
    go : ((u : State) → turns order bound n u ≡ On t → turns order bound (suc n) u ≡ turn order bound t) → (x : Turn) →
        then_turn x (λ u. turns order bound n u) ≡ On t → then_turn x (λ u. turns order bound (suc n) u) ≡ turn order bound t
    go rec (On u) f = rec u f
    go rec (Model u) f = cc
    go rec (Refuted log) f = cc
    go rec Spent f = cc
