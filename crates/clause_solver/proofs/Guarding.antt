-- What watched literals say of a clause.
use Rattle.std.proofs.Common.{◌⊎◌, inl, inr, ◌≡◌, ◌≢◌, ℕ, zero, suc, List, [], ◌∷◌, refl, sym, ap, ◌∙◌, subst}
use Rattle.std.specs.Prelude.{Bool, true, false, ◌==◌, ◌||◌, if◌then◌else◌, Option, Some, None, slice_get}
use Rattle.std.proofs.lemmas.Bool.{eqb-true, eq-eqb, true≢false}
use Rattle.refute_check.specs.Clauses.{Clause, variable_of}
use Rattle.refute_check.specs.Resolution.{has}
use Rattle.refute_check.specs.Machine.{Entry, Trail, entry_of, Value, True, False, Unset, value_at, value_of, Status, Falsified, Forces, Idle, status_with, status}
use Rattle.refute_check.proofs.Membership.{has-holds, holds-has}
use Rattle.refute_check.proofs.Trails.{status-false, status-forces}
use Rattle.clause_solver.specs.code.Watching.{opposite, IsSeenAs, AreAmong}
use Rattle.clause_solver.specs.code.Guarding.{IsMet, HasTwo, IsGuarded, IsHeld, IsAlert, KeptAs, IsBelow, IsChosen}
use Rattle.clause_solver.specs.declared.rules.Status.TheVariants as code
use Rattle.clause_solver.proofs.Watching.{seen_falsified, seen_forces, seen_idle, value_moved}

-- ---- values

true-unset : {X : Type 0} → True ≡ Unset → X
true-unset e = cc

true-false : {X : Type 0} → True ≡ False → X
true-false e = cc

unset-false : {X : Type 0} → Unset ≡ False → X
unset-false e = cc

pub unset-value : (t : Trail) (l : ℕ) → entry_of t (variable_of l) ≡ None → value_of t l ≡ Unset
unset-value t l e = ap (λ o. value_at l o) e

-- ---- places

pub has-at : (c : Clause) (i l : ℕ) → slice_get c i ≡ Some l → has c l ≡ true
has-at [] i l e = cc
has-at (m ∷ c) zero l e = let f : m ≡ l = cc in ap (λ b. b || has c l) (eq-eqb m l f)
has-at (m ∷ c) (suc i) l e = ap (λ b. (m == l) || b) (has-at c i l e) ∙ or_true (m == l)
  where
    or_true : (b : Bool) → (b || true) ≡ true
    or_true true = refl
    or_true false = refl

pub at-has : (c : Clause) (l : ℕ) → has c l ≡ true → (i : ℕ) × (slice_get c i ≡ Some l)
at-has [] l h = absurd (true≢false (sym h))
at-has (m ∷ c) l h = go (λ k. at-has c l k) (m == l) refl h
  where
    go : (has c l ≡ true → (i : ℕ) × (slice_get c i ≡ Some l)) → (b : Bool) → (m == l) ≡ b → (b || has c l) ≡ true → (i : ℕ) × (slice_get (m ∷ c) i ≡ Some l)
    go rec true e h = (0, ap (λ m. Some m) (eqb-true m l e))
    go rec false e h = let r = rec h in (suc r.0, r.1)

-- two literals that the clause holds are at two places
pub two_held : (c : Clause) (a b : ℕ) → a ≢ b → has c a ≡ true → has c b ≡ true → HasTwo c a b
two_held c a b n ha hb = go (at-has c a ha) (at-has c b hb)
  where
    go : (i : ℕ) × (slice_get c i ≡ Some a) → (j : ℕ) × (slice_get c j ≡ Some b) → HasTwo c a b
    go x y = (x.0, y.0, λ e. n (same (sym x.1 ∙ ap (λ i. slice_get c i) e ∙ y.1)), x.1, y.1)
      where
        same : Some a ≡ Some b → a ≡ b
        same e = cc

pub two_swapped : (c : Clause) (a b : ℕ) → HasTwo c a b → HasTwo c b a
two_swapped c a b h = (h.1, h.0, λ e. h.2 (sym e), h.4, h.3)

pub two_are_held : (c : Clause) (a b : ℕ) → HasTwo c a b → IsHeld c (a, b)
two_are_held c a b h = inr (has-at c h.0 a h.3, has-at c h.1 b h.4)

pub none_held : (a b : ℕ) {X : Type 0} → HasTwo [] a b → X
none_held a b h = let e = h.3 in cc

-- ---- what is guarded does nothing

pub met_idle : (t : Trail) (c : Clause) → IsMet t c → status t c ≡ Idle
met_idle t c m = go (status t c) refl
  where
    go : (s : Status) → status t c ≡ s → status t c ≡ Idle
    go Falsified e = true-false (sym m.2 ∙ status-false t c e m.0 (has-holds c m.0 m.1))
    go (Forces l) e = by ((status-forces t c l e).others m.0 (has-holds c m.0 m.1))
      where
        by : (m.0 ≡ l) ⊎ (value_of t m.0 ≡ False) → status t c ≡ Idle
        by (inl f) = true-unset (sym m.2 ∙ ap (λ m. value_of t m) f ∙ unset-value t l (status-forces t c l e).free)
        by (inr f) = true-false (sym m.2 ∙ f)
    go Idle e = e

idle_with : (v : Value) (m : ℕ) → status_with v m Idle ≡ Idle
idle_with True m = refl
idle_with False m = refl
idle_with Unset m = refl

one_unset : (t : Trail) (c : Clause) (j b : ℕ) → slice_get c j ≡ Some b → value_of t b ≡ Unset → status t c ≡ Falsified → ⊥
one_unset t c j b e u f = unset-false (sym u ∙ status-false t c f b (has-holds c b (has-at c j b e)))

first_unset : (t : Trail) (m a j b : ℕ) (c : Clause) → Some m ≡ Some a → value_of t a ≡ Unset → slice_get c j ≡ Some b → value_of t b ≡ Unset → status t (m ∷ c) ≡ Idle
first_unset t m a j b c e u f w =
    let same : m ≡ a = cc in
    ap (λ v. status_with v m (status t c)) (ap (λ m. value_of t m) same ∙ u) ∙ go (status t c) refl
  where
    go : (s : Status) → status t c ≡ s → status_with Unset m (status t c) ≡ Idle
    go Falsified g = absurd (one_unset t c j b f w g)
    go (Forces l) g = ap (λ s. status_with Unset m s) g
    go Idle g = ap (λ s. status_with Unset m s) g

two_idle : (t : Trail) (c : Clause) (i j a b : ℕ) → i ≢ j → slice_get c i ≡ Some a → slice_get c j ≡ Some b → value_of t a ≡ Unset → value_of t b ≡ Unset → status t c ≡ Idle
two_idle t [] i j a b n e f u w = cc
two_idle t (m ∷ c) zero zero a b n e f u w = absurd (n refl)
two_idle t (m ∷ c) zero (suc j) a b n e f u w = first_unset t m a j b c e u f w
two_idle t (m ∷ c) (suc i) zero a b n e f u w = first_unset t m b i a c f w e u
two_idle t (m ∷ c) (suc i) (suc j) a b n e f u w = ap (λ s. status_with (value_of t m) m s) (two_idle t c i j a b (λ g. n (ap suc g)) e f u w) ∙ idle_with (value_of t m) m

pub guarded_idle : (t : Trail) (c : Clause) (p : ℕ × ℕ) → IsGuarded t c p → status t c ≡ Idle
guarded_idle t c p (inl m) = met_idle t c m
guarded_idle t c p (inr h) = two_idle t c h.0.0 h.0.1 p.0 p.1 h.0.2 h.0.3 h.0.4 h.1 h.2

-- what is kept is seen
pub kept_seen : (t : Trail) (o : Option Clause) (p : Option (ℕ × ℕ)) (fs gs : List ℕ) (n : ℕ) → KeptAs t o p fs gs n → IsSeenAs t o fs gs n
kept_seen t None p fs gs n h = seen_idle t None fs gs n refl
kept_seen t (Some c) None fs gs n h = absurd h
kept_seen t (Some c) (Some p) fs gs n h = go h.1
  where
    go : IsGuarded t c p ⊎ IsAlert t c p fs gs n → IsSeenAs t (Some c) fs gs n
    go (inl g) = seen_idle t (Some c) fs gs n (sym (guarded_idle t c p g))
    go (inr (inl a)) = seen_falsified t (Some c) fs gs n (sym a.0) a.1
    go (inr (inr a)) = seen_forces t (Some c) fs gs n a.0 (sym a.1) a.2

-- ---- choices

pub chosen_met : (t : Trail) (c : Clause) (a b : ℕ) → IsHeld c (a, b) → IsMet t c → IsChosen t c a b (record { first = a; second = b; status = code.Idle })
chosen_met t c a b h m = record { held = h; now = inl m; before = λ s below g. g }

pub chosen_true : (t : Trail) (c : Clause) (a b : ℕ) → (c ≡ [] → ⊥) → IsHeld c (a, b) → value_of t b ≡ True → IsChosen t c a b (record { first = a; second = b; status = code.Idle })
chosen_true t c a b n h v = chosen_met t c a b h (go h)
  where
    go : IsHeld c (a, b) → IsMet t c
    go (inl e) = absurd (n e)
    go (inr k) = (b, k.1, v)

pub chosen_falsified : (t : Trail) (c : Clause) (a b : ℕ) → IsHeld c (a, b) → status t c ≡ Falsified → IsChosen t c a b (record { first = a; second = b; status = code.Falsified })
chosen_falsified t c a b h f = record { held = h; now = f; before = λ s below g. g }

pub chosen_kept : (t : Trail) (c : Clause) (a b l : ℕ) → IsHeld c (a, b) → status t c ≡ Forces l → l ≡ b → IsChosen t c a b (record { first = a; second = b; status = code.Forces l })
chosen_kept t c a b l h f e = record { held = h; now = (f, inr e); before = λ s below g. g }

pub chosen_forces : (t : Trail) (c : Clause) (a b l : ℕ) → IsHeld c (a, b) → status t c ≡ Forces l → l ≢ b → IsChosen t c a b (record { first = l; second = b; status = code.Forces l })
chosen_forces t c a b l h f n = record { held = inr (here, other h); now = (f, inl refl); before = λ s below g. moved s below g }
  where
    here : has c l ≡ true
    here = holds-has c l (status-forces t c l f).holds

    other : IsHeld c (a, b) → has c b ≡ true
    other (inl e) = let x : Falsified ≡ Forces l = sym (ap (λ c. status t c) e) ∙ f in cc
    other (inr k) = k.1

    moved : (s : Trail) → IsBelow s t → IsGuarded s c (a, b) → IsGuarded s c (l, b)
    moved s below (inl m) = inl m
    moved s below (inr k) = inr (two_held c l b n here (other h), below l (unset-value t l (status-forces t c l f).free), k.2)

pub chosen_two : (t : Trail) (c : Clause) (a b x y : ℕ) → HasTwo c x y → value_of t x ≡ Unset → value_of t y ≡ Unset → IsChosen t c a b (record { first = x; second = y; status = code.Idle })
chosen_two t c a b x y h u w = record { held = two_are_held c x y h; now = inr (h, u, w); before = λ s below g. inr (h, below x u, below y w) }

pub chosen_beside : (t : Trail) (c : Clause) (a b x y : ℕ) → IsHeld c (a, b) → HasTwo c x y → value_of t x ≡ Unset → x ≢ b → value_of t b ≡ Unset → IsChosen t c a b (record { first = x; second = b; status = code.Idle })
chosen_beside t c a b x y h two u n w = go h
  where
    go : IsHeld c (a, b) → IsChosen t c a b (record { first = x; second = b; status = code.Idle })
    go (inl e) = none_held x y (subst (λ c. HasTwo c x y) e two)
    go (inr k) = chosen_two t c a b x b (two_held c x b n (has-at c two.0 x two.3) k.1) u w

-- ---- one literal more is true

module _ (t : Trail) (e : Entry) (free : entry_of t (variable_of e.literal) ≡ None) where
  -- a value that was there stays
  stays : (l : ℕ) (v : Value) → (v ≡ Unset → ⊥) → value_of t l ≡ v → value_of (e ∷ t) l ≡ v
  stays l v n f = go (variable_of e.literal == variable_of l) refl
    where
      go : (b : Bool) → (variable_of e.literal == variable_of l) ≡ b → value_at l (if b then Some e else entry_of t (variable_of l)) ≡ v
      go true g = absurd (n (sym f ∙ unset-value t l (ap (λ v. entry_of t v) (sym (eqb-true (variable_of e.literal) (variable_of l) g)) ∙ free)))
      go false g = f

  pub false_stays : (l : ℕ) → value_of t l ≡ False → value_of (e ∷ t) l ≡ False
  false_stays l f = stays l False (λ x. cc) f

  pub met_stays : (c : Clause) → IsMet t c → IsMet (e ∷ t) c
  met_stays c m = (m.0, m.1, stays m.0 True (λ x. cc) m.2)

falsified_stays : (t u : Trail) → ((l : ℕ) → value_of t l ≡ False → value_of u l ≡ False) → (c : Clause) → status t c ≡ Falsified → status u c ≡ Falsified
falsified_stays t u h [] f = refl
falsified_stays t u h (m ∷ c) f =
    let v : value_of u m ≡ False = h m (status-false t (m ∷ c) f m (inl refl)) in
    ap (λ v. status_with v m (status u c)) v ∙ falsified_stays t u h c (rest (value_of t m) (status-false t (m ∷ c) f m (inl refl)) f)
  where
    rest : (v : Value) → v ≡ False → status_with v m (status t c) ≡ Falsified → status t c ≡ Falsified
    rest True e g = cc
    rest False e g = g
    rest Unset e g = cc

forces_stays : (t u : Trail) → ((l : ℕ) → value_of t l ≡ False → value_of u l ≡ False) → (c : Clause) (l : ℕ) → status t c ≡ Forces l → value_of u l ≡ Unset → status u c ≡ Forces l
forces_stays t u h [] l f w = cc
forces_stays t u h (m ∷ c) l f w = go (λ g. forces_stays t u h c l g w) (value_of t m) (status t c) refl refl f
  where
    go : (status t c ≡ Forces l → status u c ≡ Forces l) → (v : Value) (s : Status) → value_of t m ≡ v → status t c ≡ s → status_with v m s ≡ Forces l → status u (m ∷ c) ≡ Forces l
    go rec True s e g f = cc
    go rec False s e g f = ap (λ v. status_with v m (status u c)) (h m e) ∙ rec (g ∙ f)
    go rec Unset Falsified e g f =
        let same : m ≡ l = cc in
        ap (λ v. status_with v m (status u c)) (ap (λ m. value_of u m) same ∙ w) ∙ ap (λ s. status_with Unset m s) (falsified_stays t u h c g) ∙ ap (λ m. Forces m) same
    go rec Unset (Forces k) e g f = cc
    go rec Unset Idle e g f = cc

-- a clause that watches other literals than the opposite stays as it was
pub kept_put : (t : Trail) (e : Entry) → entry_of t (variable_of e.literal) ≡ None → (o : Option Clause) (p : ℕ × ℕ) (fs gs : List ℕ) (n : ℕ) →
    p.0 ≢ opposite e.literal → p.1 ≢ opposite e.literal → KeptAs t o (Some p) fs gs n → KeptAs (e ∷ t) o (Some p) fs gs n
kept_put t e free None p fs gs n a b h = tt
kept_put t e free (Some c) p fs gs n a b h = (h.0, go h.1)
  where
    Kept : Type 0
    Kept = IsGuarded (e ∷ t) c p ⊎ IsAlert (e ∷ t) c p fs gs n

    two : HasTwo c p.0 p.1 → value_of t p.0 ≡ Unset → value_of t p.1 ≡ Unset → Kept
    two h u w = by (value_moved t e p.0 a) (value_moved t e p.1 b)
      where
        by : (value_of (e ∷ t) p.0 ≡ True) ⊎ (value_of (e ∷ t) p.0 ≡ value_of t p.0) → (value_of (e ∷ t) p.1 ≡ True) ⊎ (value_of (e ∷ t) p.1 ≡ value_of t p.1) → Kept
        by (inl f) y = inl (inl (p.0, has-at c h.0 p.0 h.3, f))
        by (inr f) (inl g) = inl (inl (p.1, has-at c h.1 p.1 h.4, g))
        by (inr f) (inr g) = inl (inr (h, f ∙ u, g ∙ w))

    forces : (l : ℕ) → status t c ≡ Forces l → has gs n ≡ true → (l ≡ p.0) ⊎ (l ≡ p.1) → Kept
    forces l f k at = by (value_moved t e l (other at))
      where
        other : (l ≡ p.0) ⊎ (l ≡ p.1) → l ≡ opposite e.literal → ⊥
        other (inl x) y = a (sym x ∙ y)
        other (inr x) y = b (sym x ∙ y)

        by : (value_of (e ∷ t) l ≡ True) ⊎ (value_of (e ∷ t) l ≡ value_of t l) → Kept
        by (inl x) = inl (inl (l, holds-has c l (status-forces t c l f).holds, x))
        by (inr x) = inr (inr (l, forces_stays t (e ∷ t) (λ m z. false_stays t e free m z) c l f (x ∙ unset-value t l (status-forces t c l f).free), k, at))

    go : IsGuarded t c p ⊎ IsAlert t c p fs gs n → Kept
    go (inl (inl m)) = inl (inl (met_stays t e free c m))
    go (inl (inr k)) = two k.0 k.1 k.2
    go (inr (inl k)) = inr (inl (falsified_stays t (e ∷ t) (λ m z. false_stays t e free m z) c k.0, k.1))
    go (inr (inr k)) = forces k.0 k.1 k.2 k.3

-- larger sets keep as much
pub kept_more : (t : Trail) (o : Option Clause) (p : Option (ℕ × ℕ)) (fs gs hs ks : List ℕ) (n : ℕ) → AreAmong fs hs → AreAmong gs ks → KeptAs t o p fs gs n → KeptAs t o p hs ks n
kept_more t None p fs gs hs ks n a b h = tt
kept_more t (Some c) None fs gs hs ks n a b h = absurd h
kept_more t (Some c) (Some p) fs gs hs ks n a b h = (h.0, go h.1)
  where
    go : IsGuarded t c p ⊎ IsAlert t c p fs gs n → IsGuarded t c p ⊎ IsAlert t c p hs ks n
    go (inl g) = inl g
    go (inr (inl k)) = inr (inl (k.0, a n k.1))
    go (inr (inr k)) = inr (inr (k.0, k.1, b n k.2, k.3))
