-- How far a log is checked.
use Rattle.std.proofs.Common.{◌≡◌, ◌<◌, ◌+◌, ℕ, zero, suc, List, [], ◌∷◌, ◌++◌, length, take, get_or, refl, sym, ap, ◌∙◌, subst, arith, append_assoc, ◌↔◌}
use Rattle.std.specs.Prelude.{Option, Some, None, Bool, true, false, IsTrue, MatchBool, slice_get}
use Rattle.std.proofs.lemmas.Bool.{true≢false}
use Rattle.std.proofs.lemmas.List.{take_more}
use Rattle.refute_check.specs.Clauses.{Clause}
use Rattle.refute_check.specs.Resolution.{has}
use Rattle.refute_check.specs.Logs.{result_of, Leads, IsAccepted, FailsAt}
use Rattle.refute_check.specs.code.Alike.{AreAlike, BothAlike, AllAlike}
use Rattle.refute_check.specs.declared.logs.Chain.{Chain}
use Rattle.refute_check.proofs.Alikes.{result-alike, all_more, empty_alike}
use Rattle.refute_check.proofs.Exclusion.{leads_more}

-- so many chains resolve to these results, in some order of their literals
pub record HasChecked (clauses : List Clause) (log : List Chain) (results : List Clause) (closed : Bool) (count : ℕ) : Type 0 where
  pub all : List Clause
  pub leads : Leads clauses (take count log) all
  pub alike : AllAlike all (clauses ++ results)
  pub end : MatchBool closed (IsAccepted clauses (take count log)) (IsAccepted clauses (take count log) → ⊥)

some_back : (c : Clause) (o : Option Clause) → BothAlike (Some c) o → (p : Option Clause) → BothAlike p o → (r : Clause) × (p ≡ Some r) × AreAlike r c
some_back c None h p k = absurd h
some_back c (Some d) h None k = absurd k
some_back c (Some d) h (Some r) k = (r, refl, λ q. k q ∙ sym (h q))

none_back : (o : Option Clause) → BothAlike None o → (p : Option Clause) → BothAlike p o → p ≡ None
none_back None h None k = refl
none_back None h (Some c) k = absurd k
none_back (Some d) h p k = absurd h

get-at : {X : Type 0} (xs : List X) (i : ℕ) (d x : X) → i < length xs → get_or xs i d ≡ x → slice_get xs i ≡ Some x
get-at [] i d x l e = absurd (omega (arith, l))
get-at (y ∷ xs) zero d x l e = ap (λ y. Some y) e
get-at (y ∷ xs) (suc i) d x l e = get-at xs i d x (omega (arith, l)) e

-- the next chain can't be resolved
pub checked_fails : (cs : List Clause) (log : List Chain) (results : List Clause) (closed : Bool) (count : ℕ) → HasChecked cs log results closed count →
    (chain d : Chain) → count < length log → get_or log count d ≡ chain → BothAlike None (result_of (cs ++ results) chain) → FailsAt cs log count
checked_fails cs log results closed count h chain d l e n =
    record { chain = chain; at = get-at log count d chain l e; before = h.all; leads = h.leads; fails = none_back _ n _ (result-alike h.all (cs ++ results) h.alike chain) }

last_same : (xs ys : List Chain) (x y : Chain) → xs ++ x ∷ [] ≡ ys ++ y ∷ [] → (xs ≡ ys) × (x ≡ y)
last_same [] [] x y e = (refl, cc)
last_same [] (b ∷ []) x y e = cc
last_same [] (b ∷ c ∷ ys) x y e = cc
last_same (a ∷ []) [] x y e = cc
last_same (a ∷ c ∷ xs) [] x y e = cc
last_same (a ∷ xs) (b ∷ ys) x y e = go (last_same xs ys x y (cc))
  where
    go : (xs ≡ ys) × (x ≡ y) → (a ∷ xs ≡ b ∷ ys) × (x ≡ y)
    go r = (let f : a ≡ b = cc in ap (λ a. a ∷ xs) f ∙ ap (λ xs. b ∷ xs) r.0, r.1)

leads_once : (cs : List Clause) (log : List Chain) (xs ys : List Clause) → Leads cs log xs → Leads cs log ys → xs ≡ ys
leads_once cs [] xs ys h k = h ∙ sym k
leads_once cs (c ∷ log) xs ys h k =
    let both : Some h.0 ≡ Some k.0 = sym h.1 ∙ k.1 in
    let same : k.0 ≡ h.0 = cc in
    leads_once (cs ++ h.0 ∷ []) log xs ys h.2 (subst (λ r. Leads (cs ++ r ∷ []) log ys) same k.2)

-- one chain more that resolves: the log is accepted so far exactly where it gives the empty clause
pub checked_more : (cs : List Clause) (log : List Chain) (results : List Clause) (closed : Bool) (count : ℕ) → HasChecked cs log results closed count →
    (chain d : Chain) → count < length log → get_or log count d ≡ chain → (clause : Clause) → BothAlike (Some clause) (result_of (cs ++ results) chain) →
    (empty : Bool) → (IsTrue empty ↔ (clause ≡ [])) → HasChecked cs log (results ++ clause ∷ []) empty (count + 1)
checked_more cs log results closed count h chain d l e clause s empty is =
    record {
      all = h.all ++ r.0 ∷ [];
      leads = subst (λ log. Leads cs log (h.all ++ r.0 ∷ [])) (sym longer) (leads_more cs (take count log) h.all h.leads chain r.0 r.1);
      alike = subst (λ ds. AllAlike (h.all ++ r.0 ∷ []) ds) (append_assoc cs results (clause ∷ [])) (all_more h.all (cs ++ results) h.alike r.0 clause r.2);
      end = go empty is;
    }
  where
    r : (r : Clause) × (result_of h.all chain ≡ Some r) × AreAlike r clause
    r = some_back clause _ s _ (result-alike h.all (cs ++ results) h.alike chain)

    longer : take (count + 1) log ≡ take count log ++ chain ∷ []
    longer = take_more log count d l ∙ ap (λ x. take count log ++ x ∷ []) e

    closes : clause ≡ [] → IsAccepted cs (take (count + 1) log)
    closes n = record {
      front = take count log;
      last = chain;
      ends = longer;
      before = h.all;
      leads = h.leads;
      empty = r.1 ∙ ap (λ c. Some c) (empty_alike r.0 (subst (λ c. AreAlike r.0 c) n r.2));
    }

    open_still : IsAccepted cs (take (count + 1) log) → clause ≡ []
    open_still a =
        let both = last_same a.front (take count log) a.last chain (sym a.ends ∙ longer) in
        let same : a.before ≡ h.all = leads_once cs (take count log) a.before h.all (subst (λ log. Leads cs log a.before) both.0 a.leads) h.leads in
        let gives : result_of h.all chain ≡ Some [] = ap (λ ds. result_of ds chain) (sym same) ∙ ap (λ c. result_of a.before c) (sym both.1) ∙ a.empty in
        let none : Some r.0 ≡ Some [] = sym r.1 ∙ gives in
        let nil : r.0 ≡ [] = cc in
        empty_alike clause (λ q. sym (r.2 q) ∙ ap (λ c. has c q) nil)

    go : (b : Bool) → (IsTrue b ↔ (clause ≡ [])) → MatchBool b (IsAccepted cs (take (count + 1) log)) (IsAccepted cs (take (count + 1) log) → ⊥)
    go true is = closes (is.0 refl)
    go false is = λ a. true≢false (sym (is.1 (open_still a)))
