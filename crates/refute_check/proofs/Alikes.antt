-- Resolution doesn't heed the order of literals.
use Rattle.std.proofs.Common.{◌≡◌, ℕ, zero, suc, List, [], ◌∷◌, ◌++◌, refl, sym, ap, ◌∙◌}
use Rattle.std.specs.Prelude.{Option, Some, None, Bool, true, false, not, ◌==◌, ◌&&◌, ◌||◌, if◌then◌else◌, slice_get}
use Rattle.std.specs.Option.{option_and_then}
use Rattle.std.proofs.lemmas.Bool.{true≢false}
use Rattle.refute_check.specs.Clauses.{Clause, positive, negative}
use Rattle.refute_check.specs.Resolution.{has, joined, resolvent}
use Rattle.refute_check.specs.Logs.{after_step, after_steps, result_of}
use Rattle.refute_check.specs.code.Alike.{AreAlike, BothAlike, AllAlike}
use Rattle.refute_check.specs.declared.logs.Chain.{Chain}
use Rattle.refute_check.proofs.Membership.{has-joined, same_literal}

joined-alike : (p n : ℕ) (c c' d d' : Clause) → AreAlike c c' → AreAlike d d' → AreAlike (joined p n c d) (joined p n c' d')
joined-alike p n c c' d d' h k q =
    has-joined p n c d q ∙ ap (λ b. (b && not (q == p)) || (has d q && not (q == n))) (h q)
    ∙ ap (λ b. (has c' q && not (q == p)) || (b && not (q == n))) (k q) ∙ sym (has-joined p n c' d' q)

pub resolvent-alike : (c c' d d' : Clause) (v : ℕ) → AreAlike c c' → AreAlike d d' → BothAlike (resolvent c d v) (resolvent c' d' v)
resolvent-alike c c' d d' v h k =
    go (has c (positive v) && has d (negative v)) (has c' (positive v) && has d' (negative v)) (has c (negative v) && has d (positive v)) (has c' (negative v) && has d' (positive v))
    (both (positive v) (negative v)) (both (negative v) (positive v))
  where
    both : (p n : ℕ) → (has c p && has d n) ≡ (has c' p && has d' n)
    both p n = ap (λ b. b && has d n) (h p) ∙ ap (λ b. has c' p && b) (k n)

    go : (a b x y : Bool) → a ≡ b → x ≡ y →
        BothAlike (if a then Some (joined (positive v) (negative v) c d) else (if x then Some (joined (negative v) (positive v) c d) else None))
        (if b then Some (joined (positive v) (negative v) c' d') else (if y then Some (joined (negative v) (positive v) c' d') else None))
    go true true x y e f = joined-alike (positive v) (negative v) c c' d d' h k
    go true false x y e f = absurd (true≢false e)
    go false true x y e f = absurd (true≢false (sym e))
    go false false true true e f = joined-alike (negative v) (positive v) c c' d d' h k
    go false false true false e f = absurd (true≢false f)
    go false false false true e f = absurd (true≢false (sym f))
    go false false false false e f = tt

then-alike : (f g : Clause → Option Clause) → ((c d : Clause) → AreAlike c d → BothAlike (f c) (g d)) → (o p : Option Clause) → BothAlike o p → BothAlike (option_and_then f o) (option_and_then g p)
then-alike f g h None None k = tt
then-alike f g h None (Some d) k = absurd k
then-alike f g h (Some c) None k = absurd k
then-alike f g h (Some c) (Some d) k = h c d k

pub step-alike : (cs ds : List Clause) → AllAlike cs ds → (s : ℕ × ℕ) (c d : Clause) → AreAlike c d → BothAlike (after_step cs s c) (after_step ds s d)
step-alike cs ds all s c d h = then-alike (λ x. resolvent c x s.1) (λ x. resolvent d x s.1) (λ x y k. resolvent-alike c d x y s.1 h k) (slice_get cs s.0) (slice_get ds s.0) (all s.0)

pub steps-alike : (cs ds : List Clause) → AllAlike cs ds → (ss : List (ℕ × ℕ)) (c d : Clause) → AreAlike c d → BothAlike (after_steps cs ss c) (after_steps ds ss d)
steps-alike cs ds all [] c d h = h
steps-alike cs ds all (s ∷ ss) c d h = then-alike (λ x. after_steps cs ss x) (λ x. after_steps ds ss x) (λ x y k. steps-alike cs ds all ss x y k) (after_step cs s c) (after_step ds s d) (step-alike cs ds all s c d h)

pub result-alike : (cs ds : List Clause) → AllAlike cs ds → (chain : Chain) → BothAlike (result_of cs chain) (result_of ds chain)
result-alike cs ds all chain = then-alike (λ x. after_steps cs chain.steps x) (λ x. after_steps ds chain.steps x) (λ x y k. steps-alike cs ds all chain.steps x y k) (slice_get cs chain.start) (slice_get ds chain.start) (all chain.start)

pub all_more : (cs ds : List Clause) → AllAlike cs ds → (c d : Clause) → AreAlike c d → AllAlike (cs ++ c ∷ []) (ds ++ d ∷ [])
all_more [] [] all c d h zero = h
all_more [] [] all c d h (suc k) = tt
all_more [] (y ∷ ds) all c d h k = absurd (all 0)
all_more (x ∷ cs) [] all c d h k = absurd (all 0)
all_more (x ∷ cs) (y ∷ ds) all c d h zero = all 0
all_more (x ∷ cs) (y ∷ ds) all c d h (suc k) = all_more cs ds (λ i. all (suc i)) c d h k

-- only the empty clause is like the empty one
pub empty_alike : (c : Clause) → AreAlike c [] → c ≡ []
empty_alike [] h = refl
empty_alike (k ∷ c) h = absurd (true≢false (sym (ap (λ b. b || has c k) (same_literal k)) ∙ h k))

pub some_alike : (c : Clause) (o : Option Clause) → BothAlike (Some c) o → (d : Clause) × (o ≡ Some d) × AreAlike c d
some_alike c None h = absurd h
some_alike c (Some d) h = (d, refl, h)
