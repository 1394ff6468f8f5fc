-- The values of a model, as an assignment.
use Rattle.std.proofs.Common.{◌⊎◌, inl, inr, ◌≡◌, ◌<◌, ◌≤◌, ◌-◌, ℕ, zero, suc, List, [], ◌∷◌, ◌++◌, length, refl, sym, ap, ◌∙◌, subst, arith}
use Rattle.std.specs.Prelude.{Bool, false, Some, slice_get, unwrap_or}
use Rattle.refute_check.specs.Clauses.{Clause, Assignment, SatisfiesAll, variable_of}
use Rattle.refute_check.specs.Machine.{Trail, assigned}
use Rattle.refute_check.specs.Orders.{Names, NamesAll, AreSame, IsGreater}
use Rattle.refute_check.specs.declared.formulas.Cnf.{Cnf}
use Rattle.refute_check.proofs.Least.{model_meets, model_least}
use Rattle.refute_check.proofs.Refutes.{refuted_accepted}
use Rattle.clause_solver.specs.Answers.{IsFormula, values_of, assignment_of, IsAnswer, IsCorrectAnswer}
use Rattle.clause_solver.specs.declared.answer.Answer.{Answer}
use Rattle.clause_solver.specs.declared.answer.Answer.TheVariants.{Model as SaysModel, Refuted as SaysRefuted, Spent as SaysSpent}

get-left : (xs : List Bool) (x y : Bool) (k : ℕ) → slice_get xs k ≡ Some y → slice_get (xs ++ x ∷ []) k ≡ Some y
get-left [] x y k e = cc
get-left (z ∷ xs) x y zero e = e
get-left (z ∷ xs) x y (suc k) e = get-left xs x y k e

get-last : (xs : List Bool) (x : Bool) (k : ℕ) → k ≡ length xs → slice_get (xs ++ x ∷ []) k ≡ Some x
get-last [] x zero e = refl
get-last [] x (suc k) e = absurd (omega (arith, e))
get-last (z ∷ xs) x zero e = absurd (omega (arith, e))
get-last (z ∷ xs) x (suc k) e = get-last xs x k (omega (arith, e))

length-push : (xs : List Bool) (x : Bool) → length (xs ++ x ∷ []) ≡ suc (length xs)
length-push [] x = refl
length-push (z ∷ xs) x = ap suc (length-push xs x)

pub length-values : (t : Trail) (n : ℕ) → length (values_of t n) ≡ n
length-values t zero = refl
length-values t (suc n) = length-push (values_of t n) (assigned t (suc n)) ∙ ap suc (length-values t n)

get-values : (t : Trail) (n k : ℕ) → k < n → slice_get (values_of t n) k ≡ Some (assigned t (suc k))
get-values t zero k l = absurd (omega (arith, l))
get-values t (suc n) k l = go (λ m. get-values t n k m) (split k n l)
  where
    split : (k n : ℕ) → k < suc n → (k < n) ⊎ (k ≡ n)
    split zero zero l = inr refl
    split zero (suc n) l = inl (omega arith)
    split (suc k) zero l = absurd (omega (arith, l))
    split (suc k) (suc n) l = two (split k n (omega (arith, l)))
      where
        two : (k < n) ⊎ (k ≡ n) → (suc k < suc n) ⊎ (suc k ≡ suc n)
        two (inl m) = inl (omega (arith, m))
        two (inr e) = inr (ap suc e)

    go : (k < n → slice_get (values_of t n) k ≡ Some (assigned t (suc k))) → (k < n) ⊎ (k ≡ n) → slice_get (values_of t n ++ assigned t (suc n) ∷ []) k ≡ Some (assigned t (suc k))
    go rec (inl m) = get-left (values_of t n) (assigned t (suc n)) (assigned t (suc k)) k (rec m)
    go rec (inr e) = get-last (values_of t n) (assigned t (suc n)) k (e ∙ sym (length-values t n)) ∙ ap (λ k. Some (assigned t (suc k))) (sym e)

values-are : (t : Trail) (n v : ℕ) → 1 ≤ v → v ≤ n → assigned t v ≡ assignment_of (values_of t n) v
values-are t n v a b =
    let back : suc (v - 1) ≡ v = omega (arith, a) in
    sym (ap (λ o. unwrap_or o false) (get-values t n (v - 1) (omega (arith, a, b))) ∙ ap (λ v. assigned t v) back)

-- an assignment that gives the same values to these variables does the same
meets-alike : (a b : Assignment) (order : List ℕ) → ((v : ℕ) → Names order v → a v ≡ b v) → (cs : List Clause) → NamesAll order cs → SatisfiesAll a cs → SatisfiesAll b cs
meets-alike a b order same [] n m = tt
meets-alike a b order same (c ∷ cs) n m = ((m.0.0, m.0.1, sym (same (variable_of m.0.0) (n.0 m.0.0 m.0.1)) ∙ m.0.2), meets-alike a b order same cs n.1 m.1)

same-alike : (a b o : Assignment) (vs : List ℕ) → ((v : ℕ) → Names vs v → a v ≡ b v) → AreSame a o vs → AreSame b o vs
same-alike a b o [] same s = tt
same-alike a b o (v ∷ vs) same s = (sym (same v (inl refl)) ∙ s.0, same-alike a b o vs (λ u n. same u (inr n)) s.1)

names-left : (xs : List ℕ) (v : ℕ) (ys : List ℕ) (u : ℕ) → Names xs u → Names (xs ++ v ∷ ys) u
names-left [] v ys u n = absurd n
names-left (x ∷ xs) v ys u (inl e) = inl e
names-left (x ∷ xs) v ys u (inr n) = inr (names-left xs v ys u n)

names-here : (xs : List ℕ) (v : ℕ) (ys : List ℕ) → Names (xs ++ v ∷ ys) v
names-here [] v ys = inl refl
names-here (x ∷ xs) v ys = inr (names-here xs v ys)

greater-alike : (a b o : Assignment) (order : List ℕ) → ((v : ℕ) → Names order v → a v ≡ b v) → IsGreater order a o → IsGreater order b o
greater-alike a b o order same g = (
  g.0,
  g.1,
  g.2,
  g.3,
  same-alike a b o g.0 (λ u n. same u (subst (λ vs. Names vs u) (sym g.3) (names-left g.0 g.1 g.2 u n))) g.4,
  sym (same g.1 (subst (λ vs. Names vs g.1) (sym g.3) (names-here g.0 g.1 g.2))) ∙ g.5,
  g.6,
)

-- what the machine gives is right
pub answer_is_right : (cnf : Cnf) (bound : ℕ) → IsFormula cnf → (answer : Answer) → IsAnswer cnf bound answer → IsCorrectAnswer cnf answer
answer_is_right cnf bound f SaysSpent h = tt
answer_is_right cnf bound f (SaysRefuted log) h = refuted_accepted cnf.clauses cnf.order bound h.0 log h.1
answer_is_right cnf bound f (SaysModel values) h =
    subst (λ values. IsCorrectAnswer cnf (SaysModel values)) (sym h.2) (
      meets-alike (assigned h.0) (assignment_of (values_of h.0 cnf.vars)) cnf.order same cnf.clauses f.literals (model_meets cnf.clauses cnf.order bound f.literals h.1.0 h.0 h.1.1),
      λ other m. go other (model_least cnf.clauses cnf.order bound f.literals h.1.0 h.0 h.1.1 other m),
    )
  where
    same : (v : ℕ) → Names cnf.order v → assigned h.0 v ≡ assignment_of (values_of h.0 cnf.vars) v
    same v n = values-are h.0 cnf.vars v (f.only v n).0 (f.only v n).1

    go : (other : Assignment) → AreSame (assigned h.0) other cnf.order ⊎ IsGreater cnf.order (assigned h.0) other →
        AreSame (assignment_of (values_of h.0 cnf.vars)) other cnf.order ⊎ IsGreater cnf.order (assignment_of (values_of h.0 cnf.vars)) other
    go other (inl s) = inl (same-alike (assigned h.0) (assignment_of (values_of h.0 cnf.vars)) other cnf.order same s)
    go other (inr g) = inr (greater-alike (assigned h.0) (assignment_of (values_of h.0 cnf.vars)) other cnf.order same g)
