-- How many literals have a level, and which variables a clause has.
use Rattle.std.proofs.Common.{◌≡◌, ◌≢◌, ◌≤◌, ◌+◌, ◌*◌, ◌/◌, ℕ, suc, [], ◌∷◌, ◌++◌, length, refl, sym, ap, ◌∙◌, arith}
use Rattle.std.specs.Prelude.{Bool, true, false, not, ◌==◌, ◌||◌, if◌then◌else◌}
use Rattle.std.proofs.lemmas.Bool.{eqb-true, eq-eqb, true≢false}
use Rattle.refute_check.specs.Clauses.{Clause, variable_of}
use Rattle.refute_check.specs.Resolution.{has, without, each_once}
use Rattle.refute_check.specs.Machine.{Trail, level_of, count_at, has_variable}
use Rattle.refute_check.proofs.Membership.{has-each_once, other_literal, apart, or_true}
use Rattle.clause_solver.proofs.Storing.{without_absent}
use Rattle.clause_solver.proofs.Joins.{once_tail}

module _ (t : Trail) (n : ℕ) where
  pub count_small : (xs : Clause) → count_at t n xs ≤ length xs
  count_small [] = omega arith
  count_small (k ∷ xs) = go (count_small xs) (level_of t k == n)
    where
      go : count_at t n xs ≤ length xs → (b : Bool) → (if b then suc (count_at t n xs) else count_at t n xs) ≤ suc (length xs)
      go r true = omega (arith, r)
      go r false = omega (arith, r)

  pub count_push : (xs : Clause) (x : ℕ) → count_at t n (xs ++ x ∷ []) ≡ (if level_of t x == n then suc (count_at t n xs) else count_at t n xs)
  count_push [] x = refl
  count_push (k ∷ xs) x = ap (λ c. if level_of t k == n then suc c else c) (count_push xs x) ∙ swap (level_of t k == n) (level_of t x == n) (count_at t n xs)
    where
      swap : (a b : Bool) (c : ℕ) → (if a then suc (if b then suc c else c) else (if b then suc c else c)) ≡ (if b then suc (if a then suc c else c) else (if a then suc c else c))
      swap true true c = refl
      swap true false c = refl
      swap false true c = refl
      swap false false c = refl

  pub count_off : (xs : Clause) (x : ℕ) → each_once xs ≡ xs → has xs x ≡ true → count_at t n xs ≡ (if level_of t x == n then suc (count_at t n (without x xs)) else count_at t n (without x xs))
  count_off [] x o h = absurd (true≢false (sym h))
  count_off (k ∷ xs) x o h = go (λ h. count_off xs x (once_tail k xs o).0 h) (k == x) refl h
    where
      swap : (a b : Bool) (c : ℕ) → (if a then suc (if b then suc c else c) else (if b then suc c else c)) ≡ (if b then suc (if a then suc c else c) else (if a then suc c else c))
      swap true true c = refl
      swap true false c = refl
      swap false true c = refl
      swap false false c = refl

      left : (b : Bool) → (k == x) ≡ b → without x (k ∷ xs) ≡ (if not b then k ∷ without x xs else without x xs)
      left b e = ap (λ b. if not b then k ∷ without x xs else without x xs) e

      go : (has xs x ≡ true → count_at t n xs ≡ (if level_of t x == n then suc (count_at t n (without x xs)) else count_at t n (without x xs))) → (b : Bool) → (k == x) ≡ b → (b || has xs x) ≡ true →
          (if level_of t k == n then suc (count_at t n xs) else count_at t n xs) ≡ (if level_of t x == n then suc (count_at t n (without x (k ∷ xs))) else count_at t n (without x (k ∷ xs)))
      go rec true e f =
          let same : k ≡ x = eqb-true k x e in
          let rest : without x (k ∷ xs) ≡ xs = left true e ∙ without_absent xs x (ap (λ k. has xs k) (sym same) ∙ (once_tail k xs o).1) in
          ap (λ k. if level_of t k == n then suc (count_at t n xs) else count_at t n xs) same
          ∙ ap (λ ys. if level_of t x == n then suc (count_at t n ys) else count_at t n ys) (sym rest)
      go rec false e f =
          ap (λ c. if level_of t k == n then suc c else c) (rec f)
          ∙ swap (level_of t k == n) (level_of t x == n) (count_at t n (without x xs))
          ∙ ap (λ ys. if level_of t x == n then suc (count_at t n ys) else count_at t n ys) (sym (left false e))

  -- by whether the literal has the level
  pub push_here : (xs new : Clause) (x : ℕ) → new ≡ xs ++ x ∷ [] → level_of t x ≡ n → count_at t n xs + 1 ≡ count_at t n new
  push_here xs new x e l = sym (ap (λ c. count_at t n c) e ∙ count_push xs x ∙ ap (λ b. if b then suc (count_at t n xs) else count_at t n xs) (eq-eqb (level_of t x) n l) ∙ omega arith)

  pub push_other : (xs new : Clause) (x : ℕ) → new ≡ xs ++ x ∷ [] → (level_of t x ≡ n → ⊥) → count_at t n xs ≡ count_at t n new
  push_other xs new x e l = sym (ap (λ c. count_at t n c) e ∙ count_push xs x ∙ ap (λ b. if b then suc (count_at t n xs) else count_at t n xs) (other_literal (level_of t x) n l))

  pub off_here : (xs new : Clause) (x : ℕ) → new ≡ without x xs → each_once xs ≡ xs → has xs x ≡ true → level_of t x ≡ n → count_at t n xs ≡ suc (count_at t n new)
  off_here xs new x e o h l =
      count_off xs x o h ∙ ap (λ b. if b then suc (count_at t n (without x xs)) else count_at t n (without x xs)) (eq-eqb (level_of t x) n l) ∙ ap (λ c. suc (count_at t n c)) (sym e)

  pub off_other : (xs new : Clause) (x : ℕ) → new ≡ without x xs → each_once xs ≡ xs → has xs x ≡ true → (level_of t x ≡ n → ⊥) → count_at t n xs ≡ count_at t n new
  off_other xs new x e o h l =
      count_off xs x o h ∙ ap (λ b. if b then suc (count_at t n (without x xs)) else count_at t n (without x xs)) (other_literal (level_of t x) n l) ∙ ap (λ c. count_at t n c) (sym e)

-- ---- variables

of_variable : (v k : ℕ) → (variable_of k == v) ≡ ((k == 2 * v) || (k == 2 * v + 1))
of_variable v k = go (k == 2 * v) (k == 2 * v + 1) refl refl
  where
    go : (a b : Bool) → (k == 2 * v) ≡ a → (k == 2 * v + 1) ≡ b → (variable_of k == v) ≡ (a || b)
    go true b e f = let s : k ≡ 2 * v = eqb-true k (2 * v) e in eq-eqb (k / 2) v (omega (arith, s))
    go false true e f = let s : k ≡ 2 * v + 1 = eqb-true k (2 * v + 1) f in eq-eqb (k / 2) v (omega (arith, s))
    go false false e f = other_literal (k / 2) v (λ i. let a : k ≢ 2 * v = apart k (2 * v) e in let b : k ≢ 2 * v + 1 = apart k (2 * v + 1) f in omega (arith, i, a, b))

pub has_either : (v : ℕ) (c : Clause) → (has c (2 * v) || has c (2 * v + 1)) ≡ has_variable v c
has_either v [] = refl
has_either v (k ∷ c) = mixed (k == 2 * v) (has c (2 * v)) (k == 2 * v + 1) (has c (2 * v + 1)) ∙ ap (λ b. b || (has c (2 * v) || has c (2 * v + 1))) (sym (of_variable v k)) ∙ ap (λ b. (variable_of k == v) || b) (has_either v c)
  where
    mixed : (a x b y : Bool) → ((a || x) || (b || y)) ≡ ((a || b) || (x || y))
    mixed true x b y = refl
    mixed false true b y = sym (or_true b)
    mixed false false b y = refl

pub has_variable_once : (v : ℕ) (c : Clause) → has_variable v (each_once c) ≡ has_variable v c
has_variable_once v c =
    sym (has_either v (each_once c)) ∙ ap (λ b. b || has (each_once c) (2 * v + 1)) (has-each_once c (2 * v)) ∙ ap (λ b. has c (2 * v) || b) (has-each_once c (2 * v + 1)) ∙ has_either v c
