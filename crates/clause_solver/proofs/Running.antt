-- How far the machine has run.
use Rattle.std.proofs.Common.{◌≡◌, ◌<◌, ◌≤◌, ℕ, suc, refl, sym, ◌∙◌, subst, arith}
use Rattle.refute_check.specs.Machine.{State, Turn, On, turn, turns, start}
use Rattle.refute_check.specs.Orders.{NamesAll}
use Rattle.refute_check.specs.Rising.{Rises}
use Rattle.refute_check.specs.declared.formulas.Cnf.{Cnf}
use Rattle.refute_check.proofs.Turns.{turns_more}
use Rattle.refute_check.proofs.Ends.{weight, Less, turn-less}
use Rattle.refute_check.proofs.Levels.{Goes, turn_goes}
use Rattle.clause_solver.specs.Answers.{IsFormula, ComesTo}

-- so many turns led here
pub record HasRun (cnf : Cnf) (bound : ℕ) (state : State) : Type 0 where
  pub count : ℕ
  pub came : turns cnf.order bound count (start cnf.clauses) ≡ On state
  pub named : NamesAll cnf.order state.clauses
  pub rises : Rises state.trail
  pub left : state.conflicts < bound

pub run_start : (cnf : Cnf) (bound : ℕ) (s : State) → s ≡ start cnf.clauses → IsFormula cnf → 1 ≤ bound → HasRun cnf bound s
run_start cnf bound s e f l = subst (λ s. HasRun cnf bound s) (sym e) (record { count = 0; came = refl; named = f.literals; rises = tt; left = omega (arith, l) })

-- one turn more comes to this
pub run_comes : (cnf : Cnf) (bound : ℕ) (s : State) → HasRun cnf bound s → (x : Turn) → turn cnf.order bound s ≡ x → ComesTo cnf bound x
run_comes cnf bound s h x e = (suc h.count, turns_more cnf.order bound h.count (start cnf.clauses) s h.came ∙ e)

pub run_on : (cnf : Cnf) (bound : ℕ) (s t : State) → HasRun cnf bound s → turn cnf.order bound s ≡ On t → HasRun cnf bound t
run_on cnf bound s t h e =
    let c = run_comes cnf bound s h (On t) e in
    let l : Less cnf.order bound s (On t) = subst (λ x. Less cnf.order bound s x) e (turn-less cnf.order bound s h.named) in
    let g : Goes cnf.order bound (On t) = subst (λ x. Goes cnf.order bound x) e (turn_goes cnf.order bound s h.rises h.left) in
    record { count = c.0; came = c.1; named = l.1; rises = g.0; left = g.1 }

pub run_falls : (cnf : Cnf) (bound : ℕ) (s t : State) → HasRun cnf bound s → turn cnf.order bound s ≡ On t → weight cnf.order bound t < weight cnf.order bound s
run_falls cnf bound s t h e =
    let l : Less cnf.order bound s (On t) = subst (λ x. Less cnf.order bound s x) e (turn-less cnf.order bound s h.named) in l.0
