-- What the test of a formula tells.
use Rattle.std.proofs.Common.{◌≡◌, ◌≤◌, ◌<◌, ◌+◌, ℕ, zero, suc, List, [], ◌∷◌, length, get_or, ◌⊎◌, inl, inr, refl, sym, subst, arith}
use Rattle.std.specs.Prelude.{Bool, true, false, ◌==◌, ◌&&◌, ◌/◌, nat_le}
use Rattle.std.specs.List.{list_all}
use Rattle.std.proofs.lemmas.Bool.{eqb-true, true≢false, and_parts as both}
use Rattle.refute_check.specs.Clauses.{Clause, HasLiteral, variable_of}
use Rattle.refute_check.specs.Orders.{Names, NamesAll}
use Rattle.refute_check.specs.declared.formulas.Cnf.{Cnf}
use Rattle.clause_solver.specs.Answers.{IsFormula}

abbrev pub is_within : ℕ → ℕ → Bool
is_within vars variable = nat_le 1 variable && nat_le variable vars

-- the order names what it has at a place
pub named-at : (order : List ℕ) (i v : ℕ) (d : ℕ) → i < length order → get_or order i d ≡ v → Names order v
named-at [] i v d l e = absurd (omega (arith, l))
named-at (k ∷ order) zero v d l e = inl (sym e)
named-at (k ∷ order) (suc i) v d l e = inr (named-at order i v d (omega (arith, l)) e)

-- one variable more is named
pub named-more : (order : List ℕ) (n : ℕ) → ((v : ℕ) → 1 ≤ v → v ≤ n → Names order v) → Names order (n + 1) → (v : ℕ) → 1 ≤ v → v ≤ n + 1 → Names order v
named-more order n h e v a b = go (v == n + 1) refl
  where
    go : (t : Bool) → (v == n + 1) ≡ t → Names order v
    go true f = subst (λ v. Names order v) (sym (eqb-true v (n + 1) f)) e
    go false f = h v a (grind (arith, b, f))

within-all : (vars : ℕ) (order : List ℕ) → list_all (is_within vars) order ≡ true → (v : ℕ) → Names order v → (1 ≤ v) × (v ≤ vars)
within-all vars [] e v h = absurd h
within-all vars (k ∷ order) e v h =
    let here = both (is_within vars k) (list_all (is_within vars) order) e in
    let ends = both (nat_le 1 k) (nat_le k vars) here.0 in
    go ends.0 ends.1 (λ h. within-all vars order here.1 v h) h
  where
    go : nat_le 1 k ≡ true → nat_le k vars ≡ true → (Names order v → (1 ≤ v) × (v ≤ vars)) → (v ≡ k) ⊎ Names order v → (1 ≤ v) × (v ≤ vars)
    go low high later (inl f) = (grind (arith, low, f), grind (arith, high, f))
    go low high later (inr h) = later h

within-is : (vars v : ℕ) → is_within vars v ≡ true → (1 ≤ v) × (v ≤ vars)
within-is vars v e =
    let ends = both (nat_le 1 v) (nat_le v vars) e in
    (low ends.0, high ends.1)
  where
    low : nat_le 1 v ≡ true → 1 ≤ v
    low f = grind (arith, f)

    high : nat_le v vars ≡ true → v ≤ vars
    high f = grind (arith, f)

-- all literals of a clause are of variables from 1 to the last
abbrev pub is_clause : ℕ → Clause → Bool
is_clause vars clause = list_all (λ literal. nat_le 1 (literal / 2) && nat_le (literal / 2) vars) clause

named-clause : (vars : ℕ) (order : List ℕ) → ((v : ℕ) → 1 ≤ v → v ≤ vars → Names order v) → (clause : Clause) → is_clause vars clause ≡ true → (l : ℕ) → HasLiteral l clause → Names order (variable_of l)
named-clause vars order each [] e l h = absurd h
named-clause vars order each (k ∷ clause) e l h =
    let here = both (is_within vars (k / 2)) (is_clause vars clause) e in
    go here.0 (λ h. named-clause vars order each clause here.1 l h) h
  where
    go : is_within vars (k / 2) ≡ true → (HasLiteral l clause → Names order (variable_of l)) → (l ≡ k) ⊎ HasLiteral l clause → Names order (variable_of l)
    go first later (inl f) = let w = within-is vars (k / 2) first in subst (λ l. Names order (variable_of l)) (sym f) (each (k / 2) w.0 w.1)
    go first later (inr h) = later h

named-all : (vars : ℕ) (order : List ℕ) → ((v : ℕ) → 1 ≤ v → v ≤ vars → Names order v) → (clauses : List Clause) → list_all (is_clause vars) clauses ≡ true → NamesAll order clauses
named-all vars order each [] e = tt
named-all vars order each (clause ∷ clauses) e =
    let here = both (is_clause vars clause) (list_all (is_clause vars) clauses) e in
    (λ l h. named-clause vars order each clause here.0 l h, named-all vars order each clauses here.1)

pub formula_is : (cnf : Cnf) → length cnf.order ≡ cnf.vars → ((v : ℕ) → 1 ≤ v → v ≤ cnf.vars → Names cnf.order v)
    → list_all (is_within cnf.vars) cnf.order ≡ true → list_all (is_clause cnf.vars) cnf.clauses ≡ true → IsFormula cnf
formula_is cnf count each only named = record {
  names = each;
  only = within-all cnf.vars cnf.order only;
  once = count;
  literals = named-all cnf.vars cnf.order each cnf.clauses named;
}
