-- The machine ends: a number falls with each turn.
use Rattle.std.proofs.Common.{◌⊎◌, inl, inr, ◌≡◌, ℕ, zero, suc, ◌+◌, ◌-◌, ◌*◌, ◌<◌, ◌≤◌, List, [], ◌∷◌, ◌++◌, length, refl, sym, ap, ◌∙◌, subst, arith}
use Rattle.std.specs.Prelude.{Option, Some, None, Bool, true, false, ◌==◌, if◌then◌else◌, slice_get, nat_lt}
use Rattle.std.proofs.lemmas.Bool.{eq-eqb, ltb-true}
use Rattle.refute_check.specs.Clauses.{Clause, HasLiteral, variable_of, positive, negative}
use Rattle.refute_check.specs.Resolution.{has, joined, resolvent}
use Rattle.refute_check.specs.Logs.{after_step}
use Rattle.refute_check.specs.Machine.{Entry, Trail, entry_of, status, Falsified, Forces, falsified, forced, unset, Learnt, analysed, is_learnt, is_empty, cut, has_decision, State, Turn, On, Model, Refuted, Spent, learn, chain_of, conflict, puts, decide, force, turn_by, turn, then_turn, turns, start, level_now, highest_but}
use Rattle.refute_check.specs.Orders.{Names, NamesAll}
use Rattle.refute_check.proofs.Membership.{has-holds, holds-has, joined_was, variable-negative}
use Rattle.refute_check.proofs.Soundness.{resolvent-keeps, then_some}
use Rattle.refute_check.proofs.Trails.{Forcing, status-forces, forced-is, unset-is, falsified-is, analysed-keeps}

abbrev pub Within : List ℕ → Clause → Type 0
Within order c = (l : ℕ) → HasLiteral l c → Names order (variable_of l)

within-joined : (order : List ℕ) (p n : ℕ) (c d : Clause) → Within order c → Within order d → Within order (joined p n c d)
within-joined order p n c d h k m i = go (joined_was p n c d m (holds-has _ m i))
  where
    go : ((has c m ≡ true) × ((m == p) ≡ false)) ⊎ ((has d m ≡ true) × ((m == n) ≡ false)) → Names order (variable_of m)
    go (inl i) = h m (has-holds c m i.0)
    go (inr i) = k m (has-holds d m i.0)

get-within : (order : List ℕ) (cs : List Clause) → NamesAll order cs → (k : ℕ) (c : Clause) → slice_get cs k ≡ Some c → Within order c
get-within order [] h k c e = cc
get-within order (d ∷ cs) h zero c e = let f : d ≡ c = cc in subst (λ c. Within order c) f h.0
get-within order (d ∷ cs) h (suc k) c e = get-within order cs h.1 k c e

within-step : (order : List ℕ) (cs : List Clause) → NamesAll order cs → (s : ℕ × ℕ) (c r : Clause) → Within order c → after_step cs s c ≡ Some r → Within order r
within-step order cs all s c r h e =
    let d : (d : Clause) × (slice_get cs s.0 ≡ Some d) × (resolvent c d s.1 ≡ Some r) = then_some (λ d. resolvent c d s.1) (slice_get cs s.0) r e in
    let k : Within order d.0 = get-within order cs all s.0 d.0 d.1 in
    resolvent-keeps (λ c. Within order c) c d.0 r s.1 (within-joined order (positive s.1) (negative s.1) c d.0 h k) (within-joined order (negative s.1) (positive s.1) c d.0 h k) d.2

named-append : (order : List ℕ) (cs : List Clause) (r : Clause) → NamesAll order cs → Within order r → NamesAll order (cs ++ r ∷ [])
named-append order [] r h k = (k, tt)
named-append order (c ∷ cs) r h k = (h.0, named-append order cs r h.1 k)

-- how many variables of the order are not on the trail
abbrev pub free_with : Option Entry → ℕ → ℕ
free_with None n = 1 + n
free_with (Some e) n = n

abbrev pub free : Trail → List ℕ → ℕ
free t [] = 0
free t (v ∷ vs) = free_with (entry_of t v) (free t vs)

free-most : (t : Trail) (vs : List ℕ) → free t vs ≤ length vs
free-most t [] = omega arith
free-most t (v ∷ vs) = go (free-most t vs) (entry_of t v)
  where
    go : free t vs ≤ length vs → (o : Option Entry) → free_with o (free t vs) ≤ suc (length vs)
    go rec None = omega (arith, rec)
    go rec (Some e) = omega (arith, rec)

with-most : (o : Option Entry) (n m : ℕ) → n ≤ m → free_with o n ≤ free_with o m
with-most None n m h = omega (arith, h)
with-most (Some e) n m h = h

free-later : (d : Entry) (t : Trail) (vs : List ℕ) → free (d ∷ t) vs ≤ free t vs
free-later d t [] = omega arith
free-later d t (v ∷ vs) = go (free-later d t vs) (variable_of d.literal == v) (entry_of t v)
  where
    go : free (d ∷ t) vs ≤ free t vs → (b : Bool) (o : Option Entry) → free_with (if b then Some d else o) (free (d ∷ t) vs) ≤ free_with o (free t vs)
    go rec true None = omega (arith, rec)
    go rec true (Some e) = rec
    go rec false o = with-most o _ _ rec

free-falls : (d : Entry) (t : Trail) → entry_of t (variable_of d.literal) ≡ None → (vs : List ℕ) → Names vs (variable_of d.literal) → free (d ∷ t) vs < free t vs
free-falls d t n [] i = absurd i
free-falls d t n (v ∷ vs) (inl e) =
    let own : entry_of (d ∷ t) v ≡ Some d = ap (λ c. if c then Some d else entry_of t v) (eq-eqb (variable_of d.literal) v e) in
    let none : entry_of t v ≡ None = subst (λ v. entry_of t v ≡ None) e n in
    let a : free (d ∷ t) (v ∷ vs) ≡ free (d ∷ t) vs = ap (λ o. free_with o (free (d ∷ t) vs)) own in
    let b : free t (v ∷ vs) ≡ 1 + free t vs = ap (λ o. free_with o (free t vs)) none in
    omega (arith, a, b, free-later d t vs)
free-falls d t n (v ∷ vs) (inr i) = go (free-falls d t n vs i) (free-later d t vs) (variable_of d.literal == v) (entry_of t v)
  where
    go : free (d ∷ t) vs < free t vs → free (d ∷ t) vs ≤ free t vs → (b : Bool) (o : Option Entry) → free_with (if b then Some d else o) (free (d ∷ t) vs) < free_with o (free t vs)
    go rec le true None = omega (arith, le)
    go rec le true (Some e) = rec
    go rec le false None = omega (arith, rec)
    go rec le false (Some e) = rec

in-middle : (xs : List ℕ) (v : ℕ) (ys : List ℕ) → Names (xs ++ v ∷ ys) v
in-middle [] v ys = inl refl
in-middle (x ∷ xs) v ys = inr (in-middle xs v ys)

falls : (a b n m k : ℕ) → a < b → n ≤ m → a * suc m + n < b * suc m + k
falls a b n m k h l = go b h
  where
    go : (b : ℕ) → a < b → a * suc m + n < b * suc m + k
    go zero h = absurd (omega (arith, h))
    go (suc b) h = let p : a * suc m ≤ b * suc m = times a b (omega (arith, h)) in let q : suc b * suc m ≡ suc m + b * suc m = omega arith in omega (arith, p, q, l)
      where
        times : (a b : ℕ) → a ≤ b → a * suc m ≤ b * suc m
        times a b h = grind (arith, h)

module _ (order : List ℕ) (bound : ℕ) where
  -- the conflicts that are left count most, then the variables that are unset
  abbrev pub weight : State → ℕ
  weight s = (bound - s.conflicts) * suc (length order) + free s.trail order

  abbrev pub Less : State → Turn → Type 0
  Less s (On t) = (weight t < weight s) × NamesAll order t.clauses
  Less s (Model t) = Unit {0}
  Less s (Refuted log) = Unit {0}
  Less s Spent = Unit {0}

  conflict-less : (s : State) → NamesAll order s.clauses → (k : ℕ) (c : Clause) → falsified s.trail 0 s.clauses ≡ Some (k, c) → Less s (conflict bound s (k, c))
  conflict-less s h k c e = go (has_decision s.trail) (nat_lt (suc s.conflicts) bound) refl
    where
      f : (i : ℕ) × (k ≡ 0 + i) × (slice_get s.clauses i ≡ Some c) × (status s.trail c ≡ Falsified)
      f = falsified-is s.trail 0 s.clauses k c e

      l : Learnt
      l = analysed s.clauses (is_learnt s.trail) s.trail c

      go : (b d : Bool) → nat_lt (suc s.conflicts) bound ≡ d → Less s (if b then (if d then learn k s l else Spent) else Refuted (s.log ++ chain_of k (analysed s.clauses is_empty s.trail c) ∷ []))
      go true true g =
          let b : suc s.conflicts < bound = ltb-true (suc s.conflicts) bound g in (
            falls (bound - suc s.conflicts) (bound - s.conflicts) (free (cut (highest_but s.trail (level_now s.trail) l.clause) s.trail) order) (length order) (free s.trail order) (omega (arith, b)) (free-most _ order),
            named-append order s.clauses l.clause h
                (analysed-keeps (λ c. Within order c) s.clauses (λ s' c r w e. within-step order s.clauses h s' c r w e) (is_learnt s.trail) s.trail c (get-within order s.clauses h f.0 c f.2)),
          )
      go true false g = tt
      go false d g = tt

  puts-less : (s : State) (d : Entry) → NamesAll order s.clauses → entry_of s.trail (variable_of d.literal) ≡ None → Names order (variable_of d.literal) → Less s (puts s d)
  puts-less s d h n i = (omega (arith, free-falls d s.trail n order i), h)

  decide-less : (s : State) → NamesAll order s.clauses → (o : Option ℕ) → unset s.trail order ≡ o → Less s (decide s o)
  decide-less s h None f = tt
  decide-less s h (Some v) f =
      let u = unset-is s.trail order v f in
      let w : v ≡ variable_of (negative v) = sym (variable-negative v) in
      puts-less s (record { literal = negative v; level = suc (level_now s.trail); reason = None }) h (subst (λ v. entry_of s.trail v ≡ None) w u.4)
      (subst (λ v. Names order v) w (subst (λ o. Names o v) (sym u.2) (in-middle u.0 v u.1)))

  force-less : (s : State) → NamesAll order s.clauses → (o : Option (ℕ × ℕ)) → forced s.trail 0 s.clauses ≡ o → Less s (force order s o)
  force-less s h None f = decide-less s h (unset s.trail order) refl
  force-less s h (Some x) f =
      let i : (i : ℕ) × (c : Clause) × (x.0 ≡ 0 + i) × (slice_get s.clauses i ≡ Some c) × (status s.trail c ≡ Forces x.1) = forced-is s.trail 0 s.clauses x.0 x.1 f in
      let g : Forcing s.trail i.1 x.1 = status-forces s.trail i.1 x.1 i.4 in
      puts-less s (record { literal = x.1; level = level_now s.trail; reason = Some x.0 }) h g.free (get-within order s.clauses h i.0 i.1 i.3 x.1 g.holds)

  -- each turn that goes on makes the weight less
  pub turn-less : (s : State) → NamesAll order s.clauses → Less s (turn order bound s)
  turn-less s h = go (falsified s.trail 0 s.clauses) refl
    where
      go : (o : Option (ℕ × Clause)) → falsified s.trail 0 s.clauses ≡ o → Less s (turn_by order bound s o)
      go None e = force-less s h (forced s.trail 0 s.clauses) refl
      go (Some x) e = conflict-less s h x.0 x.1 e

  ends : (k : ℕ) (s : State) → NamesAll order s.clauses → weight s < k → (n : ℕ) × ((t : State) → turns order bound n s ≡ On t → ⊥)
  ends zero s h l = absurd (omega (arith, l))
  ends (suc k) s h l = go (λ t i j. ends k t i j) (turn order bound s) refl (turn-less s h)
    where
      go : ((t : State) → NamesAll order t.clauses → weight t < k → (n : ℕ) × ((u : State) → turns order bound n t ≡ On u → ⊥)) → (x : Turn) → turn order bound s ≡ x → Less s x → (n : ℕ) × ((t : State) → turns order bound n s ≡ On t → ⊥)
      go rec (On t) e i =
          let r : (n : ℕ) × ((u : State) → turns order bound n t ≡ On u → ⊥) = rec t i.1 (omega (arith, i.0, l)) in
          (suc r.0, λ u f. r.1 u (sym (ap (λ x. then_turn x (λ t. turns order bound r.0 t)) e) ∙ f))
      go rec (Model t) e i = (1, λ u f. let x : Model t ≡ On u = sym (ap (λ x. then_turn x (λ t. turns order bound 0 t)) e) ∙ f in cc)
      go rec (Refuted log) e i = (1, λ u f. let x : Refuted log ≡ On u = sym (ap (λ x. then_turn x (λ t. turns order bound 0 t)) e) ∙ f in cc)
      go rec Spent e i = (1, λ u f. let x : Spent ≡ On u = sym (ap (λ x. then_turn x (λ t. turns order bound 0 t)) e) ∙ f in cc)

-- the machine ends
pub machine_ends : (cs : List Clause) (order : List ℕ) (bound : ℕ) → NamesAll order cs → (n : ℕ) × ((t : State) → turns order bound n (start cs) ≡ On t → ⊥)
machine_ends cs order bound h = ends order bound (suc (weight order bound (start cs))) (start cs) h (omega arith)
