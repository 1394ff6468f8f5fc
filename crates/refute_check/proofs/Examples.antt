-- Small runs of the machine, worked out from its rules by hand.
use Rattle.std.proofs.Common.{◌≡◌, ℕ, zero, suc, List, [], ◌∷◌, ◌++◌, refl}
use Rattle.std.specs.Prelude.{Bool, true, false}
use Rattle.refute_check.specs.Clauses.{Clause}
use Rattle.refute_check.specs.Machine.{Trail, Turn, On, Model, Refuted, Spent, turns, start, assigned}
use Rattle.refute_check.specs.declared.logs.Chain.{Chain}

data Told : Type 0 where
  GoesOn : Told
  IsModel : List Bool → Told
  IsRefuted : List Chain → Told
  IsSpent : Told

abbrev values : Trail → ℕ → List Bool
values t zero = []
values t (suc n) = values t n ++ assigned t (suc n) ∷ []

-- what the machine tells of the first so many variables
abbrev told : ℕ → Turn → Told
told vars (On s) = GoesOn
told vars (Model t) = IsModel (values t vars)
told vars (Refuted log) = IsRefuted log
told vars Spent = IsSpent

abbrev chain : ℕ → List (ℕ × ℕ) → Chain
chain begin steps = record { start = begin; steps = steps }

-- one of two variables, and the first is false where it may be
one_of_two : told 2 (turns (1 ∷ 2 ∷ []) 1 9 (start ((2 ∷ 4 ∷ []) ∷ []))) ≡ IsModel (false ∷ true ∷ [])
one_of_two = refl

-- the order of decisions tells which of the models is the least
first_order : told 3 (turns (1 ∷ 2 ∷ 3 ∷ []) 9 9 (start ((2 ∷ 4 ∷ 6 ∷ []) ∷ (5 ∷ 7 ∷ []) ∷ []))) ≡ IsModel (false ∷ false ∷ true ∷ [])
first_order = refl

second_order : told 3 (turns (3 ∷ 2 ∷ 1 ∷ []) 9 9 (start ((2 ∷ 4 ∷ 6 ∷ []) ∷ (5 ∷ 7 ∷ []) ∷ []))) ≡ IsModel (true ∷ false ∷ false ∷ [])
second_order = refl

-- a variable and its negation
opposed : told 1 (turns (1 ∷ []) 1 9 (start ((2 ∷ []) ∷ (3 ∷ []) ∷ []))) ≡ IsRefuted (chain 1 ((0, 1) ∷ []) ∷ [])
opposed = refl

abbrev four : List Clause
four = (2 ∷ 4 ∷ []) ∷ (2 ∷ 5 ∷ []) ∷ (3 ∷ 4 ∷ []) ∷ (3 ∷ 5 ∷ []) ∷ []

-- one clause is learnt, and then there is a conflict with no decision
learns : told 2 (turns (1 ∷ 2 ∷ []) 2 9 (start four)) ≡ IsRefuted (chain 1 ((0, 2) ∷ []) ∷ chain 3 ((2, 2) ∷ (4, 1) ∷ []) ∷ [])
learns = refl

spent_at_once : told 2 (turns (1 ∷ 2 ∷ []) 1 9 (start four)) ≡ IsSpent
spent_at_once = refl

abbrev eight : List Clause
eight = (2 ∷ 4 ∷ 6 ∷ []) ∷ (2 ∷ 4 ∷ 7 ∷ []) ∷ (2 ∷ 5 ∷ 6 ∷ []) ∷ (2 ∷ 5 ∷ 7 ∷ []) ∷ (3 ∷ 4 ∷ 6 ∷ []) ∷ (3 ∷ 4 ∷ 7 ∷ []) ∷ (3 ∷ 5 ∷ 6 ∷ []) ∷ (3 ∷ 5 ∷ 7 ∷ []) ∷ []

-- three conflicts are needed
spent_one : told 3 (turns (1 ∷ 2 ∷ 3 ∷ []) 1 30 (start eight)) ≡ IsSpent
spent_one = refl

spent_two : told 3 (turns (1 ∷ 2 ∷ 3 ∷ []) 2 30 (start eight)) ≡ IsSpent
spent_two = refl

spent_three : told 3 (turns (1 ∷ 2 ∷ 3 ∷ []) 3 30 (start eight)) ≡ IsSpent
spent_three = refl

enough : told 3 (turns (1 ∷ 2 ∷ 3 ∷ []) 4 30 (start eight)) ≡ IsRefuted (chain 1 ((0, 3) ∷ []) ∷ chain 3 ((2, 3) ∷ (8, 2) ∷ []) ∷ chain 5 ((4, 3) ∷ []) ∷ chain 7 ((6, 3) ∷ (10, 2) ∷ (9, 1) ∷ []) ∷ [])
enough = refl

-- the clause that is learnt has literals of levels 1 and 3, so that two levels are taken back
jumps_back : told 4 (turns (1 ∷ 2 ∷ 3 ∷ 4 ∷ []) 9 20 (start ((2 ∷ 6 ∷ 8 ∷ []) ∷ (2 ∷ 6 ∷ 9 ∷ []) ∷ []))) ≡ IsModel (false ∷ false ∷ true ∷ false ∷ [])
jumps_back = refl

-- both literals of a variable, the empty clause, no clause, and no variable
both_literals : told 2 (turns (1 ∷ 2 ∷ []) 9 9 (start ((2 ∷ 3 ∷ []) ∷ (2 ∷ []) ∷ []))) ≡ IsModel (true ∷ false ∷ [])
both_literals = refl

empty_clause : told 1 (turns (1 ∷ []) 9 9 (start ([] ∷ []))) ≡ IsRefuted (chain 0 [] ∷ [])
empty_clause = refl

no_clause : told 2 (turns (1 ∷ 2 ∷ []) 9 9 (start [])) ≡ IsModel (false ∷ false ∷ [])
no_clause = refl

no_variable : told 0 (turns [] 9 9 (start [])) ≡ IsModel []
no_variable = refl
