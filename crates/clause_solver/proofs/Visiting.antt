-- Watches, a step at a time.
use Rattle.std.proofs.Common.{◌⊎◌, inl, inr, ◌≡◌, ◌≢◌, ◌<◌, ◌≤◌, ℕ, zero, suc, List, [], ◌∷◌, ◌++◌, length, get_or, refl, sym, ap, ◌∙◌, subst, arith}
use Rattle.std.specs.Prelude.{Bool, true, false, ◌==◌, ◌||◌, Option, Some, None, slice_get, slice_set, nat_lt}
use Rattle.std.proofs.lemmas.Bool.{eqb-true, eq-eqb, ltb-true, true≢false}
use Rattle.refute_check.specs.Clauses.{Clause}
use Rattle.refute_check.specs.Resolution.{has}
use Rattle.refute_check.specs.Machine.{Trail, Entry, entry_of}
use Rattle.refute_check.specs.Clauses.{variable_of}
use Rattle.clause_solver.specs.code.Watching.{opposite, listed, AreAmong, IsNoted, Put}
use Rattle.clause_solver.specs.code.Guarding.{IsGuarded, IsHeld, IsAlert, KeptAs, AllKept, GuardedAs, ListedAs, IsBelow, Watches as CanWatch, IsChosen}
use Rattle.clause_solver.specs.code.Renewing.{pair_at, IsKeptIn, IsGuardedIn, IsListedIn, IsSound, Renewed, IsWatchedBy, HeldAs, ListedBut, Visited}
use Rattle.clause_solver.specs.declared.watches.Watches.{Watches}
use Rattle.clause_solver.specs.declared.rules.Choice.{Choice}
use Rattle.clause_solver.specs.declared.rules.Status.{Status}
use Rattle.clause_solver.specs.declared.rules.Status.TheVariants.{Falsified, Forces, Idle}
use Rattle.clause_solver.proofs.Guarding.{kept_more, kept_put, two_swapped}

-- ---- lists

module _ {X : Type 0} where
  pub set_same : (xs : List X) (i : ℕ) (x : X) → i < length xs → slice_get (slice_set xs i x) i ≡ Some x
  set_same [] i x l = absurd (omega (arith, l))
  set_same (y ∷ xs) zero x l = refl
  set_same (y ∷ xs) (suc i) x l = set_same xs i x (omega (arith, l))

  pub set_other : (xs : List X) (i : ℕ) (x : X) (m : ℕ) → (m ≡ i → ⊥) → slice_get (slice_set xs i x) m ≡ slice_get xs m
  set_other [] i x m n = refl
  set_other (y ∷ xs) zero x zero n = absurd (n refl)
  set_other (y ∷ xs) zero x (suc m) n = refl
  set_other (y ∷ xs) (suc i) x zero n = refl
  set_other (y ∷ xs) (suc i) x (suc m) n = set_other xs i x m (λ e. n (ap suc e))

  pub set_length : (xs : List X) (i : ℕ) (x : X) → length (slice_set xs i x) ≡ length xs
  set_length [] i x = refl
  set_length (y ∷ xs) zero x = refl
  set_length (y ∷ xs) (suc i) x = ap suc (set_length xs i x)

  pub more_other : (xs : List X) (x : X) (m : ℕ) → (m ≡ length xs → ⊥) → slice_get (xs ++ x ∷ []) m ≡ slice_get xs m
  more_other [] x zero n = absurd (n refl)
  more_other [] x (suc m) n = refl
  more_other (y ∷ xs) x zero n = refl
  more_other (y ∷ xs) x (suc m) n = more_other xs x m (λ e. n (ap suc e))

  pub more_length : (xs : List X) (x : X) → length (xs ++ x ∷ []) ≡ suc (length xs)
  more_length [] x = refl
  more_length (y ∷ xs) x = ap suc (more_length xs x)

  pub past_none : (xs : List X) (n : ℕ) → length xs ≤ n → slice_get xs n ≡ None
  past_none [] n l = refl
  past_none (y ∷ xs) zero l = absurd (omega (arith, l))
  past_none (y ∷ xs) (suc n) l = past_none xs n (omega (arith, l))

differ : (m n : ℕ) → (m == n) ≡ false → m ≡ n → ⊥
differ m n f e = true≢false (sym (eq-eqb m n e) ∙ f)

-- ---- one clause is looked at

pub renewed : (t : Trail) (cs : List Clause) (n a b : ℕ) (x : Clause) (choice : Choice) (old new : Watches) → slice_get cs n ≡ Some x → n < length old.pairs.items → IsChosen t x a b choice →
    new.pairs.items ≡ slice_set old.pairs.items n (choice.first, choice.second) →
    AreAmong old.candidates.falsified.keys new.candidates.falsified.keys → AreAmong old.candidates.forcing.keys new.candidates.forcing.keys → IsNoted choice.status new.candidates.falsified.keys new.candidates.forcing.keys n →
    ((l : ℕ) → AreAmong (listed old.lists l) (listed new.lists l)) → ((b ≡ a) ⊎ (has (listed old.lists b) n ≡ true) → ListedAs new.lists (Some (choice.first, choice.second)) n) → Renewed t cs n a b old new
renewed t cs n a b x choice old new at within chosen is fs gs noted ls listed' = record {
  grown = record {
    lists = ls;
    falsified = fs;
    forcing = gs;
    others = λ m d. ap (λ ps. slice_get ps m) is ∙ set_other old.pairs.items n (choice.first, choice.second) m d;
    count = ap (λ (ps : List (ℕ × ℕ)). length ps) is ∙ set_length old.pairs.items n (choice.first, choice.second);
  };
  kept = subst (λ o. KeptAs t o (pair_at new n) new.candidates.falsified.keys new.candidates.forcing.keys n) (sym at)
      (subst (λ p. KeptAs t (Some x) p new.candidates.falsified.keys new.candidates.forcing.keys n) (sym here) (chosen.held, go choice.status chosen.now noted));
  listed = λ h. subst (λ p. ListedAs new.lists p n) (sym here) (listed' h);
  before = λ s below g. subst (λ o. GuardedAs s o (pair_at new n)) (sym at) (subst (λ p. GuardedAs s (Some x) p) (sym here) (chosen.before s below (subst (λ o. GuardedAs s o (Some (a, b))) at g)));
}
  where
    here : pair_at new n ≡ Some (choice.first, choice.second)
    here = ap (λ ps. slice_get ps n) is ∙ set_same old.pairs.items n (choice.first, choice.second) within

    go : (st : Status) → CanWatch st t x (choice.first, choice.second) → IsNoted st new.candidates.falsified.keys new.candidates.forcing.keys n →
        IsGuarded t x (choice.first, choice.second) ⊎ IsAlert t x (choice.first, choice.second) new.candidates.falsified.keys new.candidates.forcing.keys n
    go Falsified w k = inr (inl (w, k))
    go (Forces l) w k = inr (inr (l, w.0, k, w.1))
    go Idle w k = inl w

guarded_swapped : (s : Trail) (o : Option Clause) (a b : ℕ) → GuardedAs s o (Some (a, b)) → GuardedAs s o (Some (b, a))
guarded_swapped s None a b g = tt
guarded_swapped s (Some c) a b (inl m) = inl m
guarded_swapped s (Some c) a b (inr h) = inr (two_swapped c a b h.0, h.2, h.1)

pub held_swapped : (c : Clause) (a b : ℕ) → IsHeld c (a, b) → IsHeld c (b, a)
held_swapped c a b (inl e) = inl e
held_swapped c a b (inr h) = inr (h.1, h.0)

-- the clause watches the literal second
pub visited_second : (t : Trail) (cs : List Clause) (l n : ℕ) (old new : Watches) (p : ℕ × ℕ) → pair_at old n ≡ Some p → p.1 ≡ l → Renewed t cs n p.1 p.0 old new → Visited t cs l n old new
visited_second t cs l n old new p at is r = record {
  grown = r.grown;
  kept = λ h. r.kept;
  listed = λ h. r.listed (go (subst (λ q. ListedBut l old.lists q n) at h).0);
  before = λ s below g. r.before s below (guarded_swapped s (slice_get cs n) p.0 p.1 (subst (λ q. GuardedAs s (slice_get cs n) q) at g));
}
  where
    go : (p.0 ≡ l) ⊎ (has (listed old.lists p.0) n ≡ true) → (p.0 ≡ p.1) ⊎ (has (listed old.lists p.0) n ≡ true)
    go (inl e) = inl (e ∙ sym is)
    go (inr h) = inr h

-- it watches others
pub visited_not : (t : Trail) (cs : List Clause) (l n : ℕ) (old : Watches) (p : ℕ × ℕ) → pair_at old n ≡ Some p → (p.0 ≡ l → ⊥) → (p.1 ≡ l → ⊥) → Visited t cs l n old old
visited_not t cs l n old p at a b = record {
  grown = record { lists = λ l m h. h; falsified = λ m h. h; forcing = λ m h. h; others = λ m d. refl; count = refl };
  kept = λ h. go h;
  listed = λ h. subst (λ q. ListedAs old.lists q n) (sym at) (both (subst (λ q. ListedBut l old.lists q n) at h));
  before = λ s below g. g;
}
  where
    never : (p.0 ≡ l) ⊎ (p.1 ≡ l) → ⊥
    never (inl e) = a e
    never (inr e) = b e

    go : IsWatchedBy l (pair_at old n) ⊎ IsKeptIn t cs old n → IsKeptIn t cs old n
    go (inl w) = absurd (never (subst (λ q. IsWatchedBy l q) at w))
    go (inr k) = k

    one : (x : ℕ) → (x ≡ l → ⊥) → (x ≡ l) ⊎ (has (listed old.lists x) n ≡ true) → has (listed old.lists x) n ≡ true
    one x d (inl e) = absurd (d e)
    one x d (inr h) = h

    both : ListedBut l old.lists (Some p) n → ListedAs old.lists (Some p) n
    both h = (one p.0 a h.0, one p.1 b h.1)

-- ---- all that watch a literal are looked at

abbrev pub IsOr : ℕ → List (List ℕ) → List ℕ → ℕ → ℕ → Type 0
IsOr l lists rest n x = (has (listed lists x) n ≡ true) ⊎ ((x ≡ l) × (has rest n ≡ true))

abbrev pub ListedOr : ℕ → List (List ℕ) → List ℕ → Option (ℕ × ℕ) → ℕ → Type 0
ListedOr l lists rest None n = Unit {0}
ListedOr l lists rest (Some p) n = IsOr l lists rest n p.0 × IsOr l lists rest n p.1

-- these numbers are left, and the other clauses are kept
pub record Visiting (t : Trail) (cs : List Clause) (l : ℕ) (rest : List ℕ) (old now : Watches) : Type 0 where
  pub count : length now.pairs.items ≡ length cs
  pub held : (n : ℕ) → HeldAs (slice_get cs n) (pair_at now n)
  pub kept : (n : ℕ) → IsKeptIn t cs now n ⊎ ((has rest n ≡ true) × IsWatchedBy l (pair_at now n))
  pub listed : (n : ℕ) → ListedOr l now.lists rest (pair_at now n) n
  pub before : (s : Trail) → IsBelow s t → ((n : ℕ) → IsGuardedIn s cs old n) → (n : ℕ) → IsGuardedIn s cs now n

pub visiting_none : (t : Trail) (cs : List Clause) (l : ℕ) (numbers : List ℕ) (old now : Watches) → now.pairs.items ≡ old.pairs.items → now.candidates.falsified.keys ≡ old.candidates.falsified.keys → now.candidates.forcing.keys ≡ old.candidates.forcing.keys →
    numbers ≡ listed old.lists l → ((o : ℕ) → o ≢ l → listed now.lists o ≡ listed old.lists o) → length old.pairs.items ≡ length cs → ((n : ℕ) → HeldAs (slice_get cs n) (pair_at old n)) → ((n : ℕ) → IsListedIn old n) →
    ((n : ℕ) → IsWatchedBy l (pair_at old n) ⊎ IsKeptIn t cs old n) → Visiting t cs l numbers old now
visiting_none t cs l numbers old now ps fs gs is others count held all kept = record {
  count = ap (λ (ps : List (ℕ × ℕ)). length ps) ps ∙ count;
  held = λ n. subst (λ ps. HeldAs (slice_get cs n) (slice_get ps n)) (sym ps) (held n);
  kept = λ n. keeps n (kept n);
  listed = λ n. subst (λ ps. ListedOr l now.lists numbers (slice_get ps n) n) (sym ps) (lists n (pair_at old n) (all n));
  before = λ s below g n. subst (λ ps. GuardedAs s (slice_get cs n) (slice_get ps n)) (sym ps) (g n);
}
  where
    watched : (n : ℕ) (p : Option (ℕ × ℕ)) → IsWatchedBy l p → ListedAs old.lists p n → has numbers n ≡ true
    watched n None w h = absurd w
    watched n (Some p) (inl e) h = ap (λ ns. has ns n) (is ∙ ap (λ l. listed old.lists l) (sym e)) ∙ h.0
    watched n (Some p) (inr e) h = ap (λ ns. has ns n) (is ∙ ap (λ l. listed old.lists l) (sym e)) ∙ h.1

    keeps : (n : ℕ) → IsWatchedBy l (pair_at old n) ⊎ IsKeptIn t cs old n → IsKeptIn t cs now n ⊎ ((has numbers n ≡ true) × IsWatchedBy l (pair_at now n))
    keeps n (inl w) = inr (watched n (pair_at old n) w (all n), subst (λ ps. IsWatchedBy l (slice_get ps n)) (sym ps) w)
    keeps n (inr k) = inl (subst (λ ps. KeptAs t (slice_get cs n) (slice_get ps n) now.candidates.falsified.keys now.candidates.forcing.keys n) (sym ps)
        (subst (λ fs. KeptAs t (slice_get cs n) (pair_at old n) fs now.candidates.forcing.keys n) (sym fs) (subst (λ gs. KeptAs t (slice_get cs n) (pair_at old n) old.candidates.falsified.keys gs n) (sym gs) k)))

    one : (n x : ℕ) → has (listed old.lists x) n ≡ true → IsOr l now.lists numbers n x
    one n x h = go (x == l) refl
      where
        go : (b : Bool) → (x == l) ≡ b → IsOr l now.lists numbers n x
        go true e = inr (eqb-true x l e, ap (λ ns. has ns n) (is ∙ ap (λ l. listed old.lists l) (sym (eqb-true x l e))) ∙ h)
        go false e = inl (ap (λ ns. has ns n) (others x (differ x l e)) ∙ h)

    lists : (n : ℕ) (p : Option (ℕ × ℕ)) → ListedAs old.lists p n → ListedOr l now.lists numbers p n
    lists n None h = tt
    lists n (Some p) h = (one n p.0 h.0, one n p.1 h.1)

held_of : (t : Trail) (o : Option Clause) (p : Option (ℕ × ℕ)) (fs gs : List ℕ) (n : ℕ) → KeptAs t o p fs gs n → HeldAs o p
held_of t None p fs gs n h = tt
held_of t (Some c) None fs gs n h = tt
held_of t (Some c) (Some p) fs gs n h = h.0

left : (k n : ℕ) (rest : List ℕ) → (n ≡ k → ⊥) → has (k ∷ rest) n ≡ true → has rest n ≡ true
left k n rest d h = go (k == n) refl h
  where
    go : (b : Bool) → (k == n) ≡ b → (b || has rest n) ≡ true → has rest n ≡ true
    go true e h = absurd (d (sym (eqb-true k n e)))
    go false e h = h

pub visiting_next : (t : Trail) (cs : List Clause) (l k : ℕ) (rest : List ℕ) (old now new : Watches) → Visiting t cs l (k ∷ rest) old now → Visited t cs l k now new → Visiting t cs l rest old new
visiting_next t cs l k rest old now new v r = record {
  count = r.grown.count ∙ v.count;
  held = λ n. holds n (n == k) refl;
  kept = λ n. inl-or n (n == k) refl;
  listed = λ n. lists n (n == k) refl;
  before = λ s below g n. guards s below g n (n == k) refl;
}
  where
    visited : IsKeptIn t cs new k
    visited = r.kept (turn (v.kept k))
      where
        turn : IsKeptIn t cs now k ⊎ ((has (k ∷ rest) k ≡ true) × IsWatchedBy l (pair_at now k)) → IsWatchedBy l (pair_at now k) ⊎ IsKeptIn t cs now k
        turn (inl x) = inr x
        turn (inr x) = inl x.1

    same : (n : ℕ) → (n == k) ≡ false → pair_at new n ≡ pair_at now n
    same n e = r.grown.others n (differ n k e)

    holds : (n : ℕ) (b : Bool) → (n == k) ≡ b → HeldAs (slice_get cs n) (pair_at new n)
    holds n true e = subst (λ n. HeldAs (slice_get cs n) (pair_at new n)) (sym (eqb-true n k e)) (held_of t (slice_get cs k) (pair_at new k) new.candidates.falsified.keys new.candidates.forcing.keys k visited)
    holds n false e = subst (λ p. HeldAs (slice_get cs n) p) (sym (same n e)) (v.held n)

    inl-or : (n : ℕ) (b : Bool) → (n == k) ≡ b → IsKeptIn t cs new n ⊎ ((has rest n ≡ true) × IsWatchedBy l (pair_at new n))
    inl-or n true e = inl (subst (λ n. IsKeptIn t cs new n) (sym (eqb-true n k e)) visited)
    inl-or n false e = turn (v.kept n)
      where
        turn : IsKeptIn t cs now n ⊎ ((has (k ∷ rest) n ≡ true) × IsWatchedBy l (pair_at now n)) → IsKeptIn t cs new n ⊎ ((has rest n ≡ true) × IsWatchedBy l (pair_at new n))
        turn (inl x) = inl (subst (λ p. KeptAs t (slice_get cs n) p new.candidates.falsified.keys new.candidates.forcing.keys n) (sym (same n e))
            (kept_more t (slice_get cs n) (pair_at now n) now.candidates.falsified.keys now.candidates.forcing.keys new.candidates.falsified.keys new.candidates.forcing.keys n r.grown.falsified r.grown.forcing x))
        turn (inr x) = inr (left k n rest (differ n k e) x.0, subst (λ p. IsWatchedBy l p) (sym (same n e)) x.1)

    lists : (n : ℕ) (b : Bool) → (n == k) ≡ b → ListedOr l new.lists rest (pair_at new n) n
    lists n true e = subst (λ n. ListedOr l new.lists rest (pair_at new n) n) (sym (eqb-true n k e)) (now-listed (pair_at new k) (r.listed (but (pair_at now k) (v.listed k))))
      where
        now-listed : (p : Option (ℕ × ℕ)) → ListedAs new.lists p k → ListedOr l new.lists rest p k
        now-listed None h = tt
        now-listed (Some p) h = (inl h.0, inl h.1)

        one : (x : ℕ) → IsOr l now.lists (k ∷ rest) k x → (x ≡ l) ⊎ (has (listed now.lists x) k ≡ true)
        one x (inl h) = inr h
        one x (inr h) = inl h.0

        but : (p : Option (ℕ × ℕ)) → ListedOr l now.lists (k ∷ rest) p k → ListedBut l now.lists p k
        but None h = tt
        but (Some p) h = (one p.0 h.0, one p.1 h.1)
    lists n false e = subst (λ p. ListedOr l new.lists rest p n) (sym (same n e)) (go (pair_at now n) (v.listed n))
      where
        one : (x : ℕ) → IsOr l now.lists (k ∷ rest) n x → IsOr l new.lists rest n x
        one x (inl h) = inl (r.grown.lists x n h)
        one x (inr h) = inr (h.0, left k n rest (differ n k e) h.1)

        go : (p : Option (ℕ × ℕ)) → ListedOr l now.lists (k ∷ rest) p n → ListedOr l new.lists rest p n
        go None h = tt
        go (Some p) h = (one p.0 h.0, one p.1 h.1)

    guards : (s : Trail) → IsBelow s t → ((n : ℕ) → IsGuardedIn s cs old n) → (n : ℕ) (b : Bool) → (n == k) ≡ b → IsGuardedIn s cs new n
    guards s below g n true e = subst (λ n. IsGuardedIn s cs new n) (sym (eqb-true n k e)) (r.before s below (v.before s below g k))
    guards s below g n false e = subst (λ p. GuardedAs s (slice_get cs n) p) (sym (same n e)) (v.before s below g n)

pub visiting_all : (t : Trail) (cs : List Clause) (l : ℕ) (rest : List ℕ) (old now : Watches) → rest ≡ [] → Visiting t cs l rest old now → IsSound t cs now (length cs)
visiting_all t cs l rest old now e v = record {
  count = v.count;
  kept = λ n m. keeps n (v.kept n);
  listed = λ n. lists n (pair_at now n) (v.listed n);
}
  where
    none : (n : ℕ) → has rest n ≡ true → ⊥
    none n h = true≢false (sym h ∙ ap (λ ns. has ns n) e)

    keeps : (n : ℕ) → IsKeptIn t cs now n ⊎ ((has rest n ≡ true) × IsWatchedBy l (pair_at now n)) → IsKeptIn t cs now n
    keeps n (inl k) = k
    keeps n (inr x) = absurd (none n x.0)

    one : (n x : ℕ) → IsOr l now.lists rest n x → has (listed now.lists x) n ≡ true
    one n x (inl h) = h
    one n x (inr h) = absurd (none n h.1)

    lists : (n : ℕ) (p : Option (ℕ × ℕ)) → ListedOr l now.lists rest p n → ListedAs now.lists p n
    lists n None h = tt
    lists n (Some p) h = (one n p.0 h.0, one n p.1 h.1)

-- ---- one clause more

-- the watches with a pair more, of which the second literal is listed
module _ (t : Trail) (cs : List Clause) (p : ℕ × ℕ) (old mid new : Watches) (is : mid.pairs.items ≡ old.pairs.items ++ p ∷ []) (cand : mid.candidates ≡ old.candidates) (put : Put old.lists mid.lists (length old.pairs.items) (p.1 ∷ []))
    (r : Renewed t cs (length old.pairs.items) p.0 p.1 mid new) where
  abbrev pub k : ℕ
  k = length old.pairs.items

  other_pair : (n : ℕ) → (n == k) ≡ false → pair_at new n ≡ pair_at old n
  other_pair n e = r.grown.others n (differ n k e) ∙ ap (λ ps. slice_get ps n) is ∙ more_other old.pairs.items p n (differ n k e)

  pub added_sound : IsSound t cs old k → IsSound t cs new (suc k)
  added_sound s = record {
    count = r.grown.count ∙ ap (λ (ps : List (ℕ × ℕ)). length ps) is ∙ more_length old.pairs.items p;
    kept = λ n l. keeps n l (n == k) refl;
    listed = λ n. lists n (n == k) refl;
  }
    where
      keeps : (n : ℕ) → n < suc k → (b : Bool) → (n == k) ≡ b → IsKeptIn t cs new n
      keeps n l true e = subst (λ n. IsKeptIn t cs new n) (sym (eqb-true n k e)) r.kept
      keeps n l false e = subst (λ q. KeptAs t (slice_get cs n) q new.candidates.falsified.keys new.candidates.forcing.keys n) (sym (other_pair n e))
          (kept_more t (slice_get cs n) (pair_at old n) old.candidates.falsified.keys old.candidates.forcing.keys new.candidates.falsified.keys new.candidates.forcing.keys n
          (λ m h. r.grown.falsified m (ap (λ c. has c.falsified.keys m) cand ∙ h)) (λ m h. r.grown.forcing m (ap (λ c. has c.forcing.keys m) cand ∙ h)) (s.kept n (grind (arith, l, e))))

      lists : (n : ℕ) (b : Bool) → (n == k) ≡ b → IsListedIn new n
      lists n true e = subst (λ n. IsListedIn new n) (sym (eqb-true n k e)) (r.listed (inr (put.put p.1 (ap (λ b. b || false) (eq-eqb p.1 p.1 refl)))))
      lists n false e = subst (λ q. ListedAs new.lists q n) (sym (other_pair n e)) (go (pair_at old n) (s.listed n))
        where
          go : (q : Option (ℕ × ℕ)) → ListedAs old.lists q n → ListedAs new.lists q n
          go None h = tt
          go (Some q) h = (r.grown.lists q.0 n (put.kept q.0 n h.0), r.grown.lists q.1 n (put.kept q.1 n h.1))

  pub added_before : (s : Trail) → IsBelow s t → ((n : ℕ) → n < k → IsGuardedIn s cs old n) → GuardedAs s (slice_get cs k) (Some p) → (n : ℕ) → n < suc k → IsGuardedIn s cs new n
  added_before s below g h n l = go (n == k) refl
    where
      go : (b : Bool) → (n == k) ≡ b → IsGuardedIn s cs new n
      go true e = subst (λ n. IsGuardedIn s cs new n) (sym (eqb-true n k e)) (r.before s below h)
      go false e = subst (λ q. GuardedAs s (slice_get cs n) q) (sym (other_pair n e)) (g n (grind (arith, l, e)))

-- ---- what is guarded is kept

pub guarded_kept : (t : Trail) (o : Option Clause) (p : Option (ℕ × ℕ)) (fs gs : List ℕ) (n : ℕ) → HeldAs o p → GuardedAs t o p → KeptAs t o p fs gs n
guarded_kept t None p fs gs n h g = tt
guarded_kept t (Some c) None fs gs n h g = absurd g
guarded_kept t (Some c) (Some p) fs gs n h g = (h, inl g)

-- ---- all clauses

pub sound_all : (t : Trail) (cs : List Clause) (w : Watches) → IsSound t cs w (length cs) → AllKept t cs w.pairs.items w.candidates.falsified.keys w.candidates.forcing.keys
sound_all t cs w s n = go (nat_lt n (length cs)) refl
  where
    go : (b : Bool) → nat_lt n (length cs) ≡ b → IsKeptIn t cs w n
    go true e = s.kept n (ltb-true n (length cs) e)
    go false e = subst (λ o. KeptAs t o (pair_at w n) w.candidates.falsified.keys w.candidates.forcing.keys n) (sym (past_none cs n (grind (arith, e)))) tt

pub sound_held : (t : Trail) (cs : List Clause) (w : Watches) → IsSound t cs w (length cs) → (n : ℕ) → HeldAs (slice_get cs n) (pair_at w n)
sound_held t cs w s n = held_of t (slice_get cs n) (pair_at w n) w.candidates.falsified.keys w.candidates.forcing.keys n (sound_all t cs w s n)

-- with one literal more each clause is kept, or watches its opposite
pub sound_put : (t : Trail) (e : Entry) (cs : List Clause) (w : Watches) → entry_of t (variable_of e.literal) ≡ None → IsSound t cs w (length cs) → (n : ℕ) → IsWatchedBy (opposite e.literal) (pair_at w n) ⊎ IsKeptIn (e ∷ t) cs w n
sound_put t e cs w free s n = go (pair_at w n) refl (sound_all t cs w s n)
  where
    Either : Option (ℕ × ℕ) → Type 0
    Either p = IsWatchedBy (opposite e.literal) p ⊎ KeptAs (e ∷ t) (slice_get cs n) p w.candidates.falsified.keys w.candidates.forcing.keys n

    go : (p : Option (ℕ × ℕ)) → pair_at w n ≡ p → KeptAs t (slice_get cs n) p w.candidates.falsified.keys w.candidates.forcing.keys n → Either p
    go None f k = inr (none (slice_get cs n) k)
      where
        none : (o : Option Clause) → KeptAs t o None w.candidates.falsified.keys w.candidates.forcing.keys n → KeptAs (e ∷ t) o None w.candidates.falsified.keys w.candidates.forcing.keys n
        none None k = tt
        none (Some c) k = absurd k
    go (Some p) f k = by (p.0 == opposite e.literal) (p.1 == opposite e.literal) refl refl
      where
        by : (a b : Bool) → (p.0 == opposite e.literal) ≡ a → (p.1 == opposite e.literal) ≡ b → Either (Some p)
        by true b x y = inl (inl (eqb-true p.0 (opposite e.literal) x))
        by false true x y = inl (inr (eqb-true p.1 (opposite e.literal) y))
        by false false x y = inr (kept_put t e free (slice_get cs n) p w.candidates.falsified.keys w.candidates.forcing.keys n (differ p.0 (opposite e.literal) x) (differ p.1 (opposite e.literal) y) k)

pub at_index : (ps : List (ℕ × ℕ)) (i : ℕ) (p : ℕ × ℕ) → i < length ps → p ≡ get_or ps i p → slice_get ps i ≡ Some p
at_index [] i p l e = absurd (omega (arith, l))
at_index (q ∷ ps) zero p l e = ap (λ q. Some q) (sym e)
at_index (q ∷ ps) (suc i) p l e = at_index ps i p (omega (arith, l)) e

-- a clause without a pair yet is held
pub held_more : (cs ds : List Clause) (c : Clause) (ps : List (ℕ × ℕ)) → ds ≡ cs ++ c ∷ [] → length ps ≡ length cs → ((n : ℕ) → HeldAs (slice_get cs n) (slice_get ps n)) → (n : ℕ) → HeldAs (slice_get ds n) (slice_get ps n)
held_more cs ds c ps is count h n = subst (λ o. HeldAs o (slice_get ps n)) (sym (ap (λ ds. slice_get ds n) is)) (go (n == length cs) refl)
  where
    none : (o : Option Clause) → HeldAs o None
    none None = tt
    none (Some c) = tt

    go : (b : Bool) → (n == length cs) ≡ b → HeldAs (slice_get (cs ++ c ∷ []) n) (slice_get ps n)
    go true e = subst (λ p. HeldAs (slice_get (cs ++ c ∷ []) n) p) (sym (past_none ps n (omega (arith, count, eqb-true n (length cs) e)))) (none (slice_get (cs ++ c ∷ []) n))
    go false e = subst (λ o. HeldAs o (slice_get ps n)) (sym (more_other cs c n (differ n (length cs) e))) (h n)
