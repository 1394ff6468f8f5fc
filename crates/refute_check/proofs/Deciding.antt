-- Whether a log is accepted can be decided, so that a fact that it is has its witnesses.
use Rattle.std.proofs.Common.{◌⊎◌, inl, inr, ◌≡◌, List, [], ◌∷◌, ◌++◌, refl, sym, ap, ◌∙◌, subst}
use Rattle.std.specs.Prelude.{Option, Some, None}
use Rattle.std.proofs.Math.Logic.{∥∥₁_elim}
use mathlib.Core.HLevel.{⊥_prop}
use Rattle.refute_check.specs.Clauses.{Clause}
use Rattle.refute_check.specs.Logs.{result_of, Leads, IsAccepted}
use Rattle.refute_check.specs.declared.logs.Chain.{Chain}

none_accepted : (cs : List Clause) → IsAccepted cs [] → ⊥
none_accepted cs a = go a.front a.ends
  where
    go : (front : List Chain) → [] ≡ front ++ a.last ∷ [] → ⊥
    go [] e = cc
    go (c ∷ front) e = cc

one_accepted : (cs : List Clause) (chain : Chain) → IsAccepted cs (chain ∷ []) → result_of cs chain ≡ Some []
one_accepted cs chain a = go a.front a.ends a.leads
  where
    go : (front : List Chain) → chain ∷ [] ≡ front ++ a.last ∷ [] → Leads cs front a.before → result_of cs chain ≡ Some []
    go [] e l = let same : chain ≡ a.last = cc in ap (λ x. result_of cs x) same ∙ ap (λ ds. result_of ds a.last) (sym l) ∙ a.empty
    go (c ∷ []) e l = cc
    go (c ∷ d ∷ front) e l = cc

more_accepted : (cs : List Clause) (chain next : Chain) (log : List Chain) → IsAccepted cs (chain ∷ next ∷ log) → (r : Clause) × (result_of cs chain ≡ Some r) × IsAccepted (cs ++ r ∷ []) (next ∷ log)
more_accepted cs chain next log a = go a.front a.ends a.leads
  where
    go : (front : List Chain) → chain ∷ next ∷ log ≡ front ++ a.last ∷ [] → Leads cs front a.before → (r : Clause) × (result_of cs chain ≡ Some r) × IsAccepted (cs ++ r ∷ []) (next ∷ log)
    go [] e l = cc
    go (c ∷ front) e l =
        let same : c ≡ chain = cc in
        let rest : next ∷ log ≡ front ++ a.last ∷ [] = cc in
        (l.0, subst (λ c. result_of cs c ≡ Some l.0) same l.1, record { front = front; last = a.last; ends = rest; before = a.before; leads = l.2; empty = a.empty })

accepted_more : (cs : List Clause) (chain : Chain) (log : List Chain) (r : Clause) → result_of cs chain ≡ Some r → IsAccepted (cs ++ r ∷ []) log → IsAccepted cs (chain ∷ log)
accepted_more cs chain log r e a = record {
  front = chain ∷ a.front;
  last = a.last;
  ends = ap (λ l. chain ∷ l) a.ends;
  before = a.before;
  leads = (r, e, a.leads);
  empty = a.empty;
}

decided : (cs : List Clause) (log : List Chain) → IsAccepted cs log ⊎ (IsAccepted cs log → ⊥)
decided cs [] = inr (none_accepted cs)
decided cs (chain ∷ []) = go (result_of cs chain) refl
  where
    go : (o : Option Clause) → result_of cs chain ≡ o → IsAccepted cs (chain ∷ []) ⊎ (IsAccepted cs (chain ∷ []) → ⊥)
    go None e = inr (λ a. let x : None ≡ Some [] = sym e ∙ one_accepted cs chain a in cc)
    go (Some []) e = inl (record { front = []; last = chain; ends = refl; before = cs; leads = refl; empty = e })
    go (Some (l ∷ r)) e = inr (λ a. let x : Some (l ∷ r) ≡ Some [] = sym e ∙ one_accepted cs chain a in cc)
decided cs (chain ∷ next ∷ log) = go (λ r. decided (cs ++ r ∷ []) (next ∷ log)) (result_of cs chain) refl
  where
    go : ((r : Clause) → IsAccepted (cs ++ r ∷ []) (next ∷ log) ⊎ (IsAccepted (cs ++ r ∷ []) (next ∷ log) → ⊥)) → (o : Option Clause) → result_of cs chain ≡ o →
        IsAccepted cs (chain ∷ next ∷ log) ⊎ (IsAccepted cs (chain ∷ next ∷ log) → ⊥)
    go rec None e = inr (λ a. let m = more_accepted cs chain next log a in let x : None ≡ Some m.0 = sym e ∙ m.1 in cc)
    go rec (Some r) e = by (rec r)
      where
        by : IsAccepted (cs ++ r ∷ []) (next ∷ log) ⊎ (IsAccepted (cs ++ r ∷ []) (next ∷ log) → ⊥) → IsAccepted cs (chain ∷ next ∷ log) ⊎ (IsAccepted cs (chain ∷ next ∷ log) → ⊥)
        by (inl a) = inl (accepted_more cs chain (next ∷ log) r e a)
        by (inr n) = inr (λ a.
            let m = more_accepted cs chain next log a in
            let both : Some m.0 ≡ Some r = sym m.1 ∙ e in
            let same : m.0 ≡ r = cc in
            n (subst (λ r. IsAccepted (cs ++ r ∷ []) (next ∷ log)) same m.2))

pub open_accepted : (cs : List Clause) (log : List Chain) → ∥ IsAccepted cs log ∥₁ → IsAccepted cs log
open_accepted cs log h = go (decided cs log)
  where
    go : IsAccepted cs log ⊎ (IsAccepted cs log → ⊥) → IsAccepted cs log
    go (inl a) = a
    go (inr n) = absurd (∥∥₁_elim h ⊥_prop n)
