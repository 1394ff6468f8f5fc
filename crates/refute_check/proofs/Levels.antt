-- Levels rise by one at most, so that no level is more than the length of the trail.
use Rattle.std.proofs.Common.{◌≡◌, ◌≤◌, ◌<◌, ℕ, suc, List, [], ◌∷◌, ◌++◌, length, refl, arith}
use Rattle.std.specs.Prelude.{Bool, true, false, Option, Some, None, nat_lt, if◌then◌else◌}
use Rattle.refute_check.specs.Clauses.{Clause}
use Rattle.refute_check.specs.Machine.{Trail, level_now, cut, State, Turn, On, Model, Refuted, Spent, turn, turn_by, falsified, forced, unset, force, decide, learn, analysed, is_learnt, is_empty, has_decision, chain_of}
use Rattle.refute_check.specs.Rising.{Rises}
use Rattle.std.proofs.lemmas.Bool.{ltb-true}

pub level_small : (t : Trail) → Rises t → level_now t ≤ length t
level_small [] h = omega arith
level_small (e ∷ t) h = omega (arith, h.0, level_small t h.1)

pub rises_cut : (n : ℕ) (t : Trail) → Rises t → Rises (cut n t)
rises_cut n [] h = tt
rises_cut n (e ∷ t) h = go (rises_cut n t h.1) (nat_lt n e.level)
  where
    go : Rises (cut n t) → (b : Bool) → Rises (if b then cut n t else e ∷ t)
    go rec true = rec
    go rec false = h

module _ (order : List ℕ) (bound : ℕ) where
  -- what the machine keeps while it goes on
  abbrev pub Goes : Turn → Type 0
  Goes (On s) = Rises s.trail × (s.conflicts < bound)
  Goes (Model t) = Unit {0}
  Goes (Refuted log) = Unit {0}
  Goes Spent = Unit {0}

  pub turn_goes : (s : State) → Rises s.trail → s.conflicts < bound → Goes (turn order bound s)
  turn_goes s h l = go (falsified s.trail 0 s.clauses)
    where
      on_conflict : (k : ℕ) (c : Clause) (b d : Bool) → nat_lt (suc s.conflicts) bound ≡ d → Goes (if b then (if d then learn k s (analysed s.clauses (is_learnt s.trail) s.trail c) else Spent) else Refuted (s.log ++ chain_of k (analysed s.clauses is_empty s.trail c) ∷ []))
      on_conflict k c true true e = (rises_cut _ s.trail h, ltb-true (suc s.conflicts) bound e)
      on_conflict k c true false e = tt
      on_conflict k c false d e = tt

      on_unset : (o : Option ℕ) → Goes (decide s o)
      on_unset None = tt
      on_unset (Some v) = ((omega arith, h), l)

      on_forced : (o : Option (ℕ × ℕ)) → Goes (force order s o)
      on_forced None = on_unset (unset s.trail order)
      on_forced (Some x) = ((omega arith, h), l)

      go : (o : Option (ℕ × Clause)) → Goes (turn_by order bound s o)
      go None = on_forced (forced s.trail 0 s.clauses)
      go (Some x) = on_conflict x.0 x.1 (has_decision s.trail) (nat_lt (suc s.conflicts) bound) refl
