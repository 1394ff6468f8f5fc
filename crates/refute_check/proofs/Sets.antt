-- Clauses as sets of literals.
use Rattle.std.proofs.Common.{◌≡◌, ℕ, ◌+◌, ◌<◌, List, [], ◌∷◌, ◌++◌, length, take, get_or, refl, sym, ap, ◌∙◌, arith, cond}
use Rattle.std.specs.Prelude.{Bool, true, false, not, ◌==◌, ◌&&◌, ◌||◌, nat_lt}
use Rattle.std.specs.Ordering.{nat_cmp, is_eq}
use Rattle.std.specs.declared.cmp.Ordering.TheVariants.{Less, Equal, Greater}
use Rattle.std.specs.BTreeMap.{is_at}
use Rattle.std.specs.BTreeSet.{BTreeSet, contains, Updates, UpdatesBy}
use Rattle.std.specs.List.{list_any}
use Rattle.std.proofs.lemmas.Bool.{eqb-true, eq-eqb, ltb-true}
use Rattle.std.proofs.lemmas.List.{take_more}
use Rattle.std.proofs.lemmas.List.Folds.{list_any-append}
use Rattle.refute_check.specs.Clauses.{Clause}
use Rattle.refute_check.specs.Resolution.{has, joined}
use Rattle.refute_check.specs.code.Alike.{AreAlike}
use Rattle.refute_check.proofs.Membership.{other_literal, swapped, has-joined, or_true}

pub at-is : (k q : ℕ) → is_at (nat_cmp k) q ≡ (k == q)
at-is k q = go (nat_lt k q) (k == q) refl refl
  where
    go : (b e : Bool) → nat_lt k q ≡ b → (k == q) ≡ e → is_eq (cond b Less (cond e Equal Greater)) ≡ e
    go true true f g = let l : k < q = ltb-true k q f in let s : k ≡ q = eqb-true k q g in absurd (omega (arith, l, s))
    go true false f g = refl
    go false true f g = refl
    go false false f g = refl

pub contains-has : (s : BTreeSet ℕ) (q : ℕ) → contains nat_cmp s q ≡ has s.keys q
contains-has s q = go s.keys
  where
    go : (ks : List ℕ) → list_any (is_at (nat_cmp q)) ks ≡ has ks q
    go [] = refl
    go (k ∷ ks) = ap (λ b. b || list_any (is_at (nat_cmp q)) ks) (at-is q k ∙ swapped q k) ∙ ap (λ b. (k == q) || b) (go ks)

pub insert-has : (s n : BTreeSet ℕ) (k : ℕ) → Updates nat_cmp s n k true → (q : ℕ) → has n.keys q ≡ ((k == q) || has s.keys q)
insert-has s n k u q = sym (contains-has n q) ∙ u.0 q ∙ go (k == q) (at-is k q)
  where
    go : (b : Bool) → is_at (nat_cmp k) q ≡ b → cond (is_at (nat_cmp k) q) true (contains nat_cmp s q) ≡ (b || has s.keys q)
    go true e = ap (λ b. cond b true (contains nat_cmp s q)) e
    go false e = ap (λ b. cond b true (contains nat_cmp s q)) e ∙ contains-has s q

pub remove-has : (s n : BTreeSet ℕ) (k : ℕ) → UpdatesBy nat_cmp (nat_cmp k) s n false → (q : ℕ) → has n.keys q ≡ (has s.keys q && not (q == k))
remove-has s n k u q = sym (contains-has n q) ∙ u.0 q ∙ go (k == q) refl
  where
    none : (b : Bool) → false ≡ (b && false)
    none true = refl
    none false = refl

    all : (b : Bool) → b ≡ (b && true)
    all true = refl
    all false = refl

    go : (b : Bool) → (k == q) ≡ b → cond (is_at (nat_cmp k) q) false (contains nat_cmp s q) ≡ (has s.keys q && not (q == k))
    go true e = ap (λ b. cond b false (contains nat_cmp s q)) (at-is k q ∙ e) ∙ none (has s.keys q) ∙ sym (ap (λ b. has s.keys q && not b) (swapped q k ∙ e))
    go false e = ap (λ b. cond b false (contains nat_cmp s q)) (at-is k q ∙ e) ∙ contains-has s q ∙ all (has s.keys q) ∙ sym (ap (λ b. has s.keys q && not b) (swapped q k ∙ e))

has-push : (d : Clause) (found q : ℕ) → has (d ++ found ∷ []) q ≡ ((found == q) || has d q)
has-push d found q = list_any-append (λ k. k == q) d (found ∷ []) ∙ go (found == q) (has d q)
  where
    go : (a b : Bool) → (b || (a || false)) ≡ (a || b)
    go true true = refl
    go true false = refl
    go false true = refl
    go false false = refl

-- one literal more of the other clause goes in
joined-push : (p n : ℕ) (c d : Clause) (found : ℕ) → (found == n) ≡ false → (q : ℕ) → has (joined p n c (d ++ found ∷ [])) q ≡ ((found == q) || has (joined p n c d) q)
joined-push p n c d found e q =
    has-joined p n c (d ++ found ∷ []) q ∙ ap (λ b. (has c q && not (q == p)) || (b && not (q == n))) (has-push d found q)
    ∙ go (found == q) refl ∙ ap (λ b. (found == q) || b) (sym (has-joined p n c d q))
  where
    go : (b : Bool) → (found == q) ≡ b → ((has c q && not (q == p)) || ((b || has d q) && not (q == n))) ≡ (b || ((has c q && not (q == p)) || (has d q && not (q == n))))
    go true f = ap (λ b. (has c q && not (q == p)) || not b) (ap (λ q. q == n) (sym (eqb-true found q f)) ∙ e) ∙ or_true _
    go false f = refl

-- but not the negation
joined-skip : (p n : ℕ) (c d : Clause) (found : ℕ) → found ≡ n → (q : ℕ) → has (joined p n c (d ++ found ∷ [])) q ≡ has (joined p n c d) q
joined-skip p n c d found e q =
    has-joined p n c (d ++ found ∷ []) q ∙ ap (λ b. (has c q && not (q == p)) || (b && not (q == n))) (has-push d found q)
    ∙ go (found == q) refl ∙ sym (has-joined p n c d q)
  where
    none : (b : Bool) → (b && false) ≡ false
    none true = refl
    none false = refl

    go : (b : Bool) → (found == q) ≡ b → ((has c q && not (q == p)) || ((b || has d q) && not (q == n))) ≡ ((has c q && not (q == p)) || (has d q && not (q == n)))
    go true f =
        let g : (q == n) ≡ true = eq-eqb q n (sym (eqb-true found q f) ∙ e) in
        ap (λ b. (has c q && not (q == p)) || not b) g ∙ sym (ap (λ b. (has c q && not (q == p)) || b) (ap (λ b. has d q && not b) g ∙ none (has d q)))
    go false f = refl

-- the step of a loop that puts in a clause
pub set_more : (s n : BTreeSet ℕ) (xs : Clause) (i : ℕ) → i < length xs → AreAlike s.keys (take i xs) → Updates nat_cmp s n (get_or xs i 0) true → AreAlike n.keys (take (i + 1) xs)
set_more s n xs i l h u q =
    insert-has s n (get_or xs i 0) u q ∙ ap (λ b. (get_or xs i 0 == q) || b) (h q) ∙ sym (has-push (take i xs) (get_or xs i 0) q) ∙ ap (λ xs. has xs q) (sym (take_more xs i 0 l))

pub join_none : (s n : BTreeSet ℕ) (p m : ℕ) → UpdatesBy nat_cmp (nat_cmp p) s n false → AreAlike n.keys (joined p m s.keys [])
join_none s n p m u q = remove-has s n p u q ∙ all _ ∙ sym (has-joined p m s.keys [] q)
  where
    all : (b : Bool) → b ≡ (b || false)
    all true = refl
    all false = refl

pub join_more : (s n : BTreeSet ℕ) (p m : ℕ) (c xs : Clause) (i : ℕ) → i < length xs → (get_or xs i 0 ≡ m → ⊥) → AreAlike s.keys (joined p m c (take i xs)) → Updates nat_cmp s n (get_or xs i 0) true → AreAlike n.keys (joined p m c (take (i + 1) xs))
join_more s n p m c xs i l e h u q =
    insert-has s n (get_or xs i 0) u q ∙ ap (λ b. (get_or xs i 0 == q) || b) (h q) ∙ sym (joined-push p m c (take i xs) (get_or xs i 0) (other_literal _ m e) q)
    ∙ ap (λ xs. has (joined p m c xs) q) (sym (take_more xs i 0 l))

pub join_skips : (s : Clause) (p m : ℕ) (c xs : Clause) (i : ℕ) → i < length xs → get_or xs i 0 ≡ m → AreAlike s (joined p m c (take i xs)) → AreAlike s (joined p m c (take (i + 1) xs))
join_skips s p m c xs i l e h q = h q ∙ sym (joined-skip p m c (take i xs) (get_or xs i 0) e q) ∙ ap (λ xs. has (joined p m c xs) q) (sym (take_more xs i 0 l))
