-- The machine's log is accepted.
use Rattle.std.proofs.Common.{◌≡◌, ℕ, zero, suc, ◌+◌, List, [], ◌∷◌, ◌++◌, refl, ap, ◌∙◌, subst}
use Rattle.std.specs.Prelude.{Option, Some, None, Bool, true, false, if◌then◌else◌, slice_get, nat_lt}
use Rattle.std.specs.Option.{option_and_then}
use Rattle.refute_check.specs.Clauses.{Clause}
use Rattle.refute_check.specs.Logs.{after_steps, result_of, Leads, IsAccepted}
use Rattle.refute_check.specs.declared.logs.Chain.{Chain}
use Rattle.refute_check.specs.Machine.{Trail, status, Falsified, Forces, falsified, forced, unset, Learnt, analysed, is_learnt, is_empty, cut, has_decision, State, Turn, On, Model, Refuted, Spent, learn, chain_of, conflict, decide, force, turn_by, turn, then_turn, turns, start, level_now, highest_but}
use Rattle.refute_check.proofs.Fits.{Fits}
use Rattle.refute_check.proofs.Exclusion.{leads_more}
use Rattle.refute_check.proofs.Trails.{Forcing, status-forces, forced-is, unset-is, fits-append, fits-cut, falsified-is, status-false, at_number, decided-fits}
use Rattle.refute_check.proofs.Learning.{analysed-chain, empties}

chain-gives : (cs : List Clause) (k : ℕ) (c : Clause) (enough : Clause → Bool) (t : Trail) → slice_get cs k ≡ Some c → result_of cs (chain_of k (analysed cs enough t c)) ≡ Some (analysed cs enough t c).clause
chain-gives cs k c enough t e = ap (λ o. option_and_then (λ x. after_steps cs (analysed cs enough t c).steps x) o) e ∙ analysed-chain cs enough t c

module _ (first : List Clause) (order : List ℕ) (bound : ℕ) where
  record Logged (s : State) : Type 0 where
    leads : Leads first s.log s.clauses
    fits : Fits s.clauses order s.trail

  abbrev Right : Turn → Type 0
  Right (On s) = Logged s
  Right (Model t) = Unit {0}
  Right (Refuted log) = IsAccepted first log
  Right Spent = Unit {0}

  conflict-right : (s : State) → Logged s → (k : ℕ) (c : Clause) → falsified s.trail 0 s.clauses ≡ Some (k, c) → Right (conflict bound s (k, c))
  conflict-right s h k c e = go (has_decision s.trail) refl (nat_lt (suc s.conflicts) bound)
    where
      f : (i : ℕ) × (k ≡ 0 + i) × (slice_get s.clauses i ≡ Some c) × (status s.trail c ≡ Falsified)
      f = falsified-is s.trail 0 s.clauses k c e

      at_k : slice_get s.clauses k ≡ Some c
      at_k = at_number s.clauses k f.0 c f.1 f.2

      l : Learnt
      l = analysed s.clauses (is_learnt s.trail) s.trail c

      m : Learnt
      m = analysed s.clauses is_empty s.trail c

      go : (b : Bool) → has_decision s.trail ≡ b → (d : Bool) → Right (if b then (if d then learn k s l else Spent) else Refuted (s.log ++ chain_of k m ∷ []))
      go true n true = record {
        leads = leads_more first s.log s.clauses h.leads (chain_of k l) l.clause (chain-gives s.clauses k c (is_learnt s.trail) s.trail at_k);
        fits = fits-append s.clauses order l.clause (cut (highest_but s.trail (level_now s.trail) l.clause) s.trail) (fits-cut s.clauses order _ s.trail h.fits);
      }
      go true n false = tt
      go false n d = record {
        front = s.log;
        last = chain_of k m;
        ends = refl;
        before = s.clauses;
        leads = h.leads;
        empty = chain-gives s.clauses k c is_empty s.trail at_k ∙ ap (λ c. Some c) (empties s.clauses order s.trail h.fits n c (λ x y. status-false s.trail c f.3 x y));
      }

  decide-right : (s : State) → Logged s → (o : Option ℕ) → unset s.trail order ≡ o → Right (decide s o)
  decide-right s h None f = tt
  decide-right s h (Some v) f =
      let u = unset-is s.trail order v f in
      record { leads = h.leads; fits = decided-fits s.clauses order s.trail h.fits v u.0 u.1 u.2 u.3 u.4 (suc (level_now s.trail)) }

  force-right : (s : State) → Logged s → (o : Option (ℕ × ℕ)) → forced s.trail 0 s.clauses ≡ o → Right (force order s o)
  force-right s h None f = decide-right s h (unset s.trail order) refl
  force-right s h (Some x) f =
      let i : (i : ℕ) × (c : Clause) × (x.0 ≡ 0 + i) × (slice_get s.clauses i ≡ Some c) × (status s.trail c ≡ Forces x.1) = forced-is s.trail 0 s.clauses x.0 x.1 f in
      let g : Forcing s.trail i.1 x.1 = status-forces s.trail i.1 x.1 i.4 in
      record { leads = h.leads; fits = (g.free, (i.1, at_number s.clauses x.0 i.0 i.1 i.2 i.3, g.holds, g.others), h.fits) }

  turn-right : (s : State) → Logged s → Right (turn order bound s)
  turn-right s h = go (falsified s.trail 0 s.clauses) refl
    where
      go : (o : Option (ℕ × Clause)) → falsified s.trail 0 s.clauses ≡ o → Right (turn_by order bound s o)
      go None e = force-right s h (forced s.trail 0 s.clauses) refl
      go (Some x) e = conflict-right s h x.0 x.1 e

  turns-right : (n : ℕ) (s : State) → Logged s → Right (turns order bound n s)
  turns-right zero s h = h
  turns-right (suc n) s h = go (λ t k. turns-right n t k) (turn order bound s) (turn-right s h)
    where
      go : ((t : State) → Logged t → Right (turns order bound n t)) → (x : Turn) → Right x → Right (then_turn x (λ t. turns order bound n t))
      go rec (On t) k = rec t k
      go rec (Model t) k = tt
      go rec (Refuted l) k = k
      go rec Spent k = tt

  -- the log of a refutation is accepted
  pub refuted_accepted : (n : ℕ) (log : List Chain) → turns order bound n (start first) ≡ Refuted log → IsAccepted first log
  refuted_accepted n log e = subst (λ x. Right x) e (turns-right n (start first) (record { leads = refl; fits = tt }))
