-- The machine gives an answer, and only one.
use Rattle.std.proofs.Common.{◌≡◌, ℕ, zero, suc, List, refl, sym, ap, ◌∙◌, Bool}
use Rattle.refute_check.specs.Machine.{State, Trail, Turn, On, Model as ModelTurn, Refuted as RefutedTurn, Spent as SpentTurn, turn, then_turn, turns, start}
use Rattle.refute_check.specs.declared.formulas.Cnf.{Cnf}
use Rattle.refute_check.proofs.Ends.{machine_ends}
use Rattle.clause_solver.specs.Answers.{IsFormula, values_of, IsAnswer}
use Rattle.clause_solver.specs.declared.answer.Answer.{Answer}
use Rattle.clause_solver.specs.declared.answer.Answer.TheVariants.{Model, Refuted, Spent}

abbrev IsOver : Turn → Type 0
IsOver (On state) = ⊥
IsOver (ModelTurn trail) = Unit {0}
IsOver (RefutedTurn log) = Unit {0}
IsOver SpentTurn = Unit {0}

-- two numbers of turns that come to an end come to the same
one_end : (order : List ℕ) (bound m n : ℕ) (s : State) (x y : Turn) → turns order bound m s ≡ x → turns order bound n s ≡ y → IsOver x → IsOver y → x ≡ y
one_end order bound zero n s (On t) y e f h k = absurd h
one_end order bound zero n s (ModelTurn t) y e f h k = cc
one_end order bound zero n s (RefutedTurn l) y e f h k = cc
one_end order bound zero n s SpentTurn y e f h k = cc
one_end order bound (suc m) zero s x (On t) e f h k = absurd k
one_end order bound (suc m) zero s x (ModelTurn t) e f h k = cc
one_end order bound (suc m) zero s x (RefutedTurn l) e f h k = cc
one_end order bound (suc m) zero s x SpentTurn e f h k = cc
one_end order bound (suc m) (suc n) s x y e f h k = go (turn order bound s) (λ t e f. one_end order bound m n t x y e f h k) e f
  where
    go : (t : Turn) → ((next : State) → turns order bound m next ≡ x → turns order bound n next ≡ y → x ≡ y)
        → then_turn t (λ next. turns order bound m next) ≡ x → then_turn t (λ next. turns order bound n next) ≡ y → x ≡ y
    go (On next) rec e f = rec next e f
    go (ModelTurn t) rec e f = sym e ∙ f
    go (RefutedTurn l) rec e f = sym e ∙ f
    go SpentTurn rec e f = sym e ∙ f

pub one_answer : (cnf : Cnf) (bound : ℕ) (a b : Answer) → IsAnswer cnf bound a → IsAnswer cnf bound b → a ≡ b
one_answer cnf bound (Model v) (Model w) h k =
    let e : ModelTurn h.0 ≡ ModelTurn k.0 = one_end cnf.order bound h.1.0 k.1.0 (start cnf.clauses) (ModelTurn h.0) (ModelTurn k.0) h.1.1 k.1.1 tt tt in
    let t : h.0 ≡ k.0 = cc in
    ap (λ (vs : List Bool). Model vs) (h.2 ∙ ap (λ (t : Trail). values_of t cnf.vars) t ∙ sym k.2)
one_answer cnf bound (Model v) (Refuted l) h k = let e = one_end cnf.order bound h.1.0 k.0 (start cnf.clauses) (ModelTurn h.0) (RefutedTurn l) h.1.1 k.1 tt tt in cc
one_answer cnf bound (Model v) Spent h k = let e = one_end cnf.order bound h.1.0 k.0 (start cnf.clauses) (ModelTurn h.0) SpentTurn h.1.1 k.1 tt tt in cc
one_answer cnf bound (Refuted l) (Model w) h k = let e = one_end cnf.order bound h.0 k.1.0 (start cnf.clauses) (RefutedTurn l) (ModelTurn k.0) h.1 k.1.1 tt tt in cc
one_answer cnf bound (Refuted l) (Refuted m) h k = let e = one_end cnf.order bound h.0 k.0 (start cnf.clauses) (RefutedTurn l) (RefutedTurn m) h.1 k.1 tt tt in cc
one_answer cnf bound (Refuted l) Spent h k = let e = one_end cnf.order bound h.0 k.0 (start cnf.clauses) (RefutedTurn l) SpentTurn h.1 k.1 tt tt in cc
one_answer cnf bound Spent (Model w) h k = let e = one_end cnf.order bound h.0 k.1.0 (start cnf.clauses) SpentTurn (ModelTurn k.0) h.1 k.1.1 tt tt in cc
one_answer cnf bound Spent (Refuted m) h k = let e = one_end cnf.order bound h.0 k.0 (start cnf.clauses) SpentTurn (RefutedTurn m) h.1 k.1 tt tt in cc
one_answer cnf bound Spent Spent h k = refl

-- it ends, with an answer
pub some_answer : (cnf : Cnf) (bound : ℕ) → IsFormula cnf → (answer : Answer) × IsAnswer cnf bound answer
some_answer cnf bound f = go (turns cnf.order bound ends.0 (start cnf.clauses)) refl
  where
    ends : (n : ℕ) × ((t : State) → turns cnf.order bound n (start cnf.clauses) ≡ On t → ⊥)
    ends = machine_ends cnf.clauses cnf.order bound f.literals

    go : (x : Turn) → turns cnf.order bound ends.0 (start cnf.clauses) ≡ x → (answer : Answer) × IsAnswer cnf bound answer
    go (On t) e = absurd (ends.1 t e)
    go (ModelTurn t) e = (Model (values_of t cnf.vars), (t, (ends.0, e), refl))
    go (RefutedTurn log) e = (Refuted log, (ends.0, e))
    go SpentTurn e = (Spent, (ends.0, e))
