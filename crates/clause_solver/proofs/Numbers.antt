-- Sets of numbers.
use Rattle.std.proofs.Common.{◌⊎◌, inl, inr, ◌≡◌, ◌<◌, ◌≤◌, ℕ, List, [], ◌∷◌, length, refl, sym, ap, ◌∙◌, arith, cond}
use Rattle.std.specs.Prelude.{Bool, true, false, not, ◌==◌, ◌&&◌, ◌||◌, nat_lt, IsTrue}
use Rattle.std.specs.Ordering.{nat_cmp, is_gt}
use Rattle.std.specs.declared.cmp.Ordering.TheVariants.{Less, Equal, Greater}
use Rattle.std.specs.BTreeSet.{BTreeSet, contains, Updates, UpdatesBy, IsLowerBound}
use Rattle.std.proofs.lemmas.Bool.{eqb-true, eq-eqb, ltb-true, true≢false}
use Rattle.refute_check.specs.Resolution.{has}
use Rattle.refute_check.proofs.Sets.{contains-has, insert-has, remove-has}
use Rattle.clause_solver.specs.code.Watching.{AreAmong}

pub least_below : (s : BTreeSet ℕ) (k : ℕ) → IsLowerBound nat_cmp s k → (n : ℕ) → has s.keys n ≡ true → k ≤ n
least_below s k low n h = go (nat_lt k n) (k == n) refl refl (low n (contains-has s n ∙ h))
  where
    go : (a b : Bool) → nat_lt k n ≡ a → (k == n) ≡ b → is_gt (nat_cmp k n) ≡ false → k ≤ n
    go true b e f g = let l : k < n = ltb-true k n e in omega (arith, l)
    go false true e f g = let l : k ≡ n = eqb-true k n f in omega (arith, l)
    go false false e f g = let x : is_gt (cond false Less (cond false Equal Greater)) ≡ false = sym (ap (λ a. is_gt (cond a Less (cond (k == n) Equal Greater))) e ∙ ap (λ b. is_gt (cond false Less (cond b Equal Greater))) f) ∙ g in absurd (true≢false x)

pub least_there : (s : BTreeSet ℕ) (k : ℕ) → IsTrue (contains nat_cmp s k) → has s.keys k ≡ true
least_there s k h = sym (contains-has s k) ∙ h

pub put_kept : (s n : BTreeSet ℕ) (k : ℕ) → Updates nat_cmp s n k true → AreAmong s.keys n.keys
put_kept s n k u = λ q h. insert-has s n k u q ∙ ap (λ b. (k == q) || b) h ∙ or_true (k == q)
  where
    or_true : (b : Bool) → (b || true) ≡ true
    or_true true = refl
    or_true false = refl

pub put_there : (s n : BTreeSet ℕ) (k : ℕ) → Updates nat_cmp s n k true → has n.keys k ≡ true
put_there s n k u = insert-has s n k u k ∙ ap (λ b. b || has s.keys k) (eq-eqb k k refl)

pub taken_kept : (s n : BTreeSet ℕ) (k : ℕ) → UpdatesBy nat_cmp (nat_cmp k) s n false → (q : ℕ) → has s.keys q ≡ true → (q ≡ k) ⊎ (has n.keys q ≡ true)
taken_kept s n k u q h = go (q == k) refl
  where
    go : (b : Bool) → (q == k) ≡ b → (q ≡ k) ⊎ (has n.keys q ≡ true)
    go true e = inl (eqb-true q k e)
    go false e = inr (remove-has s n k u q ∙ ap (λ b. b && not (q == k)) h ∙ ap (λ b. not b) e)

pub no_least : (s : BTreeSet ℕ) → (0 < length s.keys → ⊥) → (n : ℕ) → has s.keys n ≡ true → ⊥
no_least s e = go s.keys e
  where
    go : (ks : List ℕ) → (0 < length ks → ⊥) → (n : ℕ) → has ks n ≡ true → ⊥
    go [] e n h = true≢false (sym h)
    go (k ∷ ks) e n h = e (omega arith)
