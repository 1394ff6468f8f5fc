-- A log is accepted, or refused with one number, and never both.
use Rattle.std.proofs.Common.{◌⊎◌, inl, inr, ◌≡◌, ◌<◌, ℕ, zero, suc, List, [], ◌∷◌, ◌++◌, take, refl, sym, ap, ◌∙◌, subst, arith}
use Rattle.std.specs.Prelude.{Some, None, slice_get}
use Rattle.refute_check.specs.Clauses.{Clause}
use Rattle.refute_check.specs.Logs.{result_of, Leads, IsAccepted, FailsAt, IsRefused}
use Rattle.refute_check.specs.declared.logs.Chain.{Chain}

pub leads_more : (cs : List Clause) (log : List Chain) (all : List Clause) → Leads cs log all → (h : Chain) (r : Clause) → result_of all h ≡ Some r → Leads cs (log ++ h ∷ []) (all ++ r ∷ [])
leads_more cs [] all l h r e = (r, subst (λ all. result_of all h ≡ Some r) l e, ap (λ cs. cs ++ r ∷ []) l)
leads_more cs (k ∷ log) all l h r e = (l.0, l.1, leads_more (cs ++ l.0 ∷ []) log all l.2 h r e)

-- where the chains before one lead somewhere and it can't be resolved there, the log leads nowhere
passes : (cs : List Clause) (log : List Chain) (all : List Clause) → Leads cs log all → (k : ℕ) (chain : Chain) (mid : List Clause) → slice_get log k ≡ Some chain → Leads cs (take k log) mid → result_of mid chain ≡ None → ⊥
passes cs [] all l k chain mid at m f = cc
passes cs (h ∷ log) all l zero chain mid at m f =
    let same : h ≡ chain = cc in
    let some : result_of cs h ≡ Some l.0 = l.1 in
    let none : result_of cs h ≡ None = subst (λ cs. result_of cs h ≡ None) m (subst (λ c. result_of mid c ≡ None) (sym same) f) in
    let clash : Some l.0 ≡ None = sym some ∙ none in cc
passes cs (h ∷ log) all l (suc k) chain mid at m f =
    let both : Some l.0 ≡ Some m.0 = sym l.1 ∙ m.1 in
    let same : m.0 ≡ l.0 = cc in
    passes (cs ++ l.0 ∷ []) log all l.2 k chain mid at (subst (λ r. Leads (cs ++ r ∷ []) (take k log) mid) same m.2) f

pub accepted_leads : (cs : List Clause) (log : List Chain) → IsAccepted cs log → (all : List Clause) × Leads cs log all
accepted_leads cs log h = (h.before ++ [] ∷ [], subst (λ log. Leads cs log (h.before ++ [] ∷ [])) (sym h.ends) (leads_more cs h.front h.before h.leads h.last [] h.empty))

pub accepted_not_refused : (cs : List Clause) (log : List Chain) → IsAccepted cs log → (k : ℕ) → IsRefused cs log k → ⊥
accepted_not_refused cs log h k (inl f) = let l = accepted_leads cs log h in passes cs log l.0 l.1 k f.chain f.before f.at f.leads f.fails
accepted_not_refused cs log h k (inr f) = f.1.open_ended h

get-take : (log : List Chain) (k j : ℕ) (chain : Chain) → k < j → slice_get log k ≡ Some chain → slice_get (take j log) k ≡ Some chain
get-take [] k j chain l e = cc
get-take (h ∷ log) k zero chain l e = absurd (omega (arith, l))
get-take (h ∷ log) zero (suc j) chain l e = e
get-take (h ∷ log) (suc k) (suc j) chain l e = get-take log k j chain (omega (arith, l)) e

take-take : (log : List Chain) (k j : ℕ) → k < j → take k (take j log) ≡ take k log
take-take [] zero zero l = refl
take-take [] zero (suc j) l = refl
take-take [] (suc k) zero l = refl
take-take [] (suc k) (suc j) l = refl
take-take (h ∷ log) k zero l = absurd (omega (arith, l))
take-take (h ∷ log) zero (suc j) l = refl
take-take (h ∷ log) (suc k) (suc j) l = ap (λ log. h ∷ log) (take-take log k j (omega (arith, l)))

-- no chain can't be resolved before another that can't be
fails_once : (cs : List Clause) (log : List Chain) (k j : ℕ) → k < j → FailsAt cs log k → FailsAt cs log j → ⊥
fails_once cs log k j l f g = passes cs (take j log) g.before g.leads k f.chain f.before (get-take log k j f.chain l f.at)
    (subst (λ log. Leads cs log f.before) (sym (take-take log k j l)) f.leads) f.fails

order : (k j : ℕ) → (k ≡ j) ⊎ ((k < j) ⊎ (j < k))
order zero zero = inl refl
order zero (suc j) = inr (inl (omega arith))
order (suc k) zero = inr (inr (omega arith))
order (suc k) (suc j) = go (order k j)
  where
    go : (k ≡ j) ⊎ ((k < j) ⊎ (j < k)) → (suc k ≡ suc j) ⊎ ((suc k < suc j) ⊎ (suc j < suc k))
    go (inl e) = inl (ap suc e)
    go (inr (inl l)) = inr (inl (omega (arith, l)))
    go (inr (inr l)) = inr (inr (omega (arith, l)))

pub refused_once : (cs : List Clause) (log : List Chain) (k j : ℕ) → IsRefused cs log k → IsRefused cs log j → k ≡ j
refused_once cs log k j (inl f) (inl g) = go (order k j)
  where
    go : (k ≡ j) ⊎ ((k < j) ⊎ (j < k)) → k ≡ j
    go (inl e) = e
    go (inr (inl l)) = absurd (fails_once cs log k j l f g)
    go (inr (inr l)) = absurd (fails_once cs log j k l g f)
refused_once cs log k j (inl f) (inr g) = absurd (passes cs log g.1.all g.1.leads k f.chain f.before f.at f.leads f.fails)
refused_once cs log k j (inr f) (inl g) = absurd (passes cs log f.1.all f.1.leads j g.chain g.before g.at g.leads g.fails)
refused_once cs log k j (inr f) (inr g) = f.0 ∙ sym g.0
