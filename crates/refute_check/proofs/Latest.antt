-- The latest variable that a clause holds is of the last level, if one is.
use Rattle.std.proofs.Common.{◌⊎◌, inl, inr, ◌≡◌, ◌≤◌, ℕ, zero, suc, List, [], ◌∷◌, ◌++◌, refl, sym, ap, ◌∙◌, subst, arith}
use Rattle.std.specs.Prelude.{Bool, true, false, ◌==◌, ◌&&◌, ◌||◌, Option, Some, None, nat_lt, if◌then◌else◌}
use Rattle.std.proofs.lemmas.Bool.{eqb-true, eq-eqb, true≢false}
use Rattle.refute_check.specs.Clauses.{Clause, variable_of}
use Rattle.refute_check.specs.Machine.{Entry, Trail, entry_of, level_now, level_at, level_of, count_at, has_variable, cut, State, Turn, On, Model, Refuted, Spent, turn, turn_by, turns, then_turn, start, falsified, forced, unset, force, decide, learn, analysed, is_learnt, is_empty, has_decision, chain_of}
use Rattle.refute_check.specs.Rising.{level_after, IsLevelled}
use Rattle.refute_check.specs.Latest.{latest, is_held, is_held_at}

-- ---- levels

pub levelled_cut : (n : ℕ) (t : Trail) → IsLevelled t → IsLevelled (cut n t)
levelled_cut n [] h = tt
levelled_cut n (e ∷ t) h = go (levelled_cut n t h.1) (nat_lt n e.level)
  where
    go : IsLevelled (cut n t) → (b : Bool) → IsLevelled (if b then cut n t else e ∷ t)
    go rec true = rec
    go rec false = h

-- what comes before is of no higher level
pub level_before : (e : Entry) (t : Trail) → IsLevelled (e ∷ t) → level_now t ≤ e.level
level_before e t h = go e.reason h.0
  where
    go : (o : Option ℕ) → e.level ≡ level_after o t → level_now t ≤ e.level
    go None f = omega (arith, f)
    go (Some r) f = omega (arith, f)

module _ (order : List ℕ) (bound : ℕ) where
  abbrev pub Keeps : Turn → Type 0
  Keeps (On s) = IsLevelled s.trail
  Keeps (Model t) = Unit {0}
  Keeps (Refuted log) = Unit {0}
  Keeps Spent = Unit {0}

  pub turn_levelled : (s : State) → IsLevelled s.trail → Keeps (turn order bound s)
  turn_levelled s h = go (falsified s.trail 0 s.clauses)
    where
      on_conflict : (k : ℕ) (c : Clause) (b d : Bool) → Keeps (if b then (if d then learn k s (analysed s.clauses (is_learnt s.trail) s.trail c) else Spent) else Refuted (s.log ++ chain_of k (analysed s.clauses is_empty s.trail c) ∷ []))
      on_conflict k c true true = levelled_cut _ s.trail h
      on_conflict k c true false = tt
      on_conflict k c false d = tt

      on_unset : (o : Option ℕ) → Keeps (decide s o)
      on_unset None = tt
      on_unset (Some v) = (refl, h)

      on_forced : (o : Option (ℕ × ℕ)) → Keeps (force order s o)
      on_forced None = on_unset (unset s.trail order)
      on_forced (Some x) = (refl, h)

      go : (o : Option (ℕ × Clause)) → Keeps (turn_by order bound s o)
      go None = on_forced (forced s.trail 0 s.clauses)
      go (Some x) = on_conflict x.0 x.1 (has_decision s.trail) (nat_lt (suc s.conflicts) bound)

  turns_levelled : (n : ℕ) (s : State) → IsLevelled s.trail → Keeps (turns order bound n s)
  turns_levelled zero s h = h
  turns_levelled (suc n) s h = go (λ t k. turns_levelled n t k) (turn order bound s) (turn_levelled s h)
    where
      go : ((t : State) → IsLevelled t.trail → Keeps (turns order bound n t)) → (x : Turn) → Keeps x → Keeps (then_turn x (λ t. turns order bound n t))
      go rec (On t) k = rec t k
      go rec (Model t) k = tt
      go rec (Refuted l) k = k
      go rec Spent k = tt

-- ---- the latest

-- the clause holds the variable of an entry of this level
abbrev IsHeldIn : ℕ → Clause → Trail → Type 0
IsHeldIn level c [] = ⊥
IsHeldIn level c (e ∷ t) = ((is_held c e ≡ true) × (e.level ≡ level)) ⊎ IsHeldIn level c t

held_in : (c : Clause) (t : Trail) (v : ℕ) (x : Entry) → entry_of t v ≡ Some x → has_variable v c ≡ true → IsHeldIn x.level c t
held_in c [] v x e h = cc
held_in c (y ∷ t) v x e h = go (λ e. held_in c t v x e h) (variable_of y.literal == v) refl e
  where
    go : (entry_of t v ≡ Some x → IsHeldIn x.level c t) → (b : Bool) → (variable_of y.literal == v) ≡ b → (if b then Some y else entry_of t v) ≡ Some x → IsHeldIn x.level c (y ∷ t)
    go rec true f g = let same : y ≡ x = cc in inl (ap (λ v. has_variable v c) (eqb-true (variable_of y.literal) v f) ∙ h, ap (λ (y : Entry). y.level) same)
    go rec false f g = inr (rec g)

held_low : (level : ℕ) (c : Clause) (t : Trail) → IsLevelled t → IsHeldIn level c t → level ≤ level_now t
held_low level c [] l h = absurd h
held_low level c (e ∷ t) l (inl h) = omega (arith, h.1)
held_low level c (e ∷ t) l (inr h) = omega (arith, held_low level c t l.1 h, level_before e t l)

latest_held : (level : ℕ) (c : Clause) (t : Trail) → IsLevelled t → level_now t ≤ level → IsHeldIn level c t ⊎ (level ≡ 0) → latest (is_held_at level c) t ≡ latest (is_held c) t
latest_held level c [] l n h = refl
latest_held level c (e ∷ t) l n h = go (λ k. latest_held level c t l.1 (omega (arith, level_before e t l, n)) k) (is_held c e) (e.level == level) refl refl
  where
    rest : is_held c e ≡ false → IsHeldIn level c (e ∷ t) ⊎ (level ≡ 0) → IsHeldIn level c t ⊎ (level ≡ 0)
    rest f (inr z) = inr z
    rest f (inl (inl x)) = absurd (true≢false (sym x.0 ∙ f))
    rest f (inl (inr x)) = inl x

    never : (e.level == level) ≡ false → IsHeldIn level c (e ∷ t) ⊎ (level ≡ 0) → ⊥
    never g (inr z) = let low : e.level ≤ level = n in let same : e.level ≡ level = omega (arith, low, z) in true≢false (sym (eq-eqb e.level level same) ∙ g)
    never g (inl x) = let low : e.level ≤ level = n in let high = held_low level c (e ∷ t) l x in let same : e.level ≡ level = omega (arith, low, high) in true≢false (sym (eq-eqb e.level level same) ∙ g)

    go : (IsHeldIn level c t ⊎ (level ≡ 0) → latest (is_held_at level c) t ≡ latest (is_held c) t) → (b d : Bool) → is_held c e ≡ b → (e.level == level) ≡ d → latest (is_held_at level c) (e ∷ t) ≡ latest (is_held c) (e ∷ t)
    go rec false d f g = ap (λ b. if (b && (e.level == level)) then Some e else latest (is_held_at level c) t) f ∙ rec (rest f h) ∙ sym (ap (λ b. if b then Some e else latest (is_held c) t) f)
    go rec true true f g = ap (λ b. if (b && (e.level == level)) then Some e else latest (is_held_at level c) t) f ∙ ap (λ d. if d then Some e else latest (is_held_at level c) t) g ∙ sym (ap (λ b. if b then Some e else latest (is_held c) t) f)
    go rec true false f g = absurd (never g h)

-- a literal that counts
counted : (t : Trail) (level : ℕ) (c : Clause) → 1 ≤ count_at t level c → (l : ℕ) × (has_variable (variable_of l) c ≡ true) × (level_of t l ≡ level)
counted t level [] h = absurd (omega (arith, h))
counted t level (l ∷ c) h = go (λ k. counted t level c k) (level_of t l == level) refl h
  where
    go : (1 ≤ count_at t level c → (m : ℕ) × (has_variable (variable_of m) c ≡ true) × (level_of t m ≡ level)) → (b : Bool) → (level_of t l == level) ≡ b →
        1 ≤ (if b then suc (count_at t level c) else count_at t level c) → (m : ℕ) × (has_variable (variable_of m) (l ∷ c) ≡ true) × (level_of t m ≡ level)
    go rec true e k = (l, ap (λ b. b || has_variable (variable_of l) c) (eq-eqb (variable_of l) (variable_of l) refl), eqb-true (level_of t l) level e)
    go rec false e k = let r = rec k in (r.0, ap (λ b. (variable_of l == variable_of r.0) || b) r.1 ∙ or_true (variable_of l == variable_of r.0), r.2)
      where
        or_true : (b : Bool) → (b || true) ≡ true
        or_true true = refl
        or_true false = refl

pub latest_is : (cs : List Clause) (order : List ℕ) (bound n : ℕ) (s : State) → turns order bound n (start cs) ≡ On s → (c : Clause) → 1 ≤ count_at s.trail (level_now s.trail) c →
    latest (is_held_at (level_now s.trail) c) s.trail ≡ latest (is_held c) s.trail
latest_is cs order bound n s e c h = latest_held (level_now s.trail) c s.trail levelled (omega arith) (go (entry_of s.trail (variable_of x.0)) refl)
  where
    levelled : IsLevelled s.trail
    levelled = subst (λ t. Keeps order bound t) e (turns_levelled order bound n (start cs) tt)

    x : (l : ℕ) × (has_variable (variable_of l) c ≡ true) × (level_of s.trail l ≡ level_now s.trail)
    x = counted s.trail (level_now s.trail) c h

    go : (o : Option Entry) → entry_of s.trail (variable_of x.0) ≡ o → IsHeldIn (level_now s.trail) c s.trail ⊎ (level_now s.trail ≡ 0)
    go None f = inr (sym x.2 ∙ ap (λ o. level_at o) f)
    go (Some y) f = inl (subst (λ k. IsHeldIn k c s.trail) (sym (ap (λ o. level_at o) f) ∙ x.2) (held_in c s.trail (variable_of x.0) y f x.1))
