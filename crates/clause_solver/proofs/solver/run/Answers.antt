use Rattle.std.proofs.Common.{◌≡◌, sym, ap, ◌∙◌, subst}
use Rattle.refute_check.specs.Machine.{turn, start, On, Model, Refuted, Spent}
use Rattle.clause_solver.specs.code.Turned.{seen, IsWatched}
use Rattle.clause_solver.proofs.Running.{run_start, run_comes, run_on, run_falls}
use Rattle.clause_solver.proofs.solver.run.Goals as goal

pub turns-smaller : goal.turns-smaller
turns-smaller c =
    let a : turn c.as_slice-order.result.now c.args.conflicts (seen c.turns.state) ≡ On (seen c.turn.new.self) = rw c.in-On.is at c.in_ok-turn.ensures.turned in
    run_falls c.args.cnf.now c.args.conflicts (seen c.turns.state) (seen c.turn.new.self) c.turns.invariant.run
    (ap (λ o. turn o c.args.conflicts (seen c.turns.state)) (sym c.as_slice-order.ensures) ∙ a)

pub turns-preserved : goal.turns-preserved
turns-preserved c =
    let a : turn c.as_slice-order.result.now c.args.conflicts (seen c.turns.state) ≡ On (seen c.turn.new.self) = rw c.in-On.is at c.in_ok-turn.ensures.turned in
    record {
      run = run_on c.args.cnf.now c.args.conflicts (seen c.turns.state) (seen c.turn.new.self) c.turns.invariant.run
          (ap (λ o. turn o c.args.conflicts (seen c.turns.state)) (sym c.as_slice-order.ensures) ∙ a);
      watched = subst (λ o. IsWatched o c.turn.new.self) c.as_slice-order.ensures c.in_ok-turn.ensures.watched;
    }

pub turns-init : goal.turns-init
turns-init c = record {
  run = run_start c.args.cnf.now c.args.conflicts (seen c.in_ok-state.state) (c.in_ok-state.ensures.seen ∙ ap (λ cs. start cs) c.in_ok-clauses.ensures) c.requires.formula c.requires.conflicts;
  watched = c.in_ok-state.ensures.watched c.args.cnf.now.order;
}

pub turn-requires-clause-watched : goal.turn-requires-clause-watched
turn-requires-clause-watched c = subst (λ o. IsWatched o c.turns.state) (sym c.as_slice-order.ensures) c.turns.invariant.watched

pub returns-in-Model : goal.returns-in-Model
returns-in-Model c =
    let a : turn c.as_slice-order.result.now c.args.conflicts (seen c.turns.state) ≡ Model c.turn.new.self.trail = rw c.in-Model.is at c.in_ok-turn.ensures.turned in (
      c.turn.new.self.trail,
      run_comes c.args.cnf.now c.args.conflicts (seen c.turns.state) c.turns.invariant.run (Model c.turn.new.self.trail)
          (ap (λ o. turn o c.args.conflicts (seen c.turns.state)) (sym c.as_slice-order.ensures) ∙ a),
      c.in_ok-values-in-Model.ensures,
    )

pub returns-in-Refuted : goal.returns-in-Refuted
returns-in-Refuted c =
    let a : turn c.as_slice-order.result.now c.args.conflicts (seen c.turns.state) ≡ Refuted c.turn.new.self.log = rw c.in-Refuted.is at c.in_ok-turn.ensures.turned in
    run_comes c.args.cnf.now c.args.conflicts (seen c.turns.state) c.turns.invariant.run (Refuted c.into_log.result)
    (ap (λ o. turn o c.args.conflicts (seen c.turns.state)) (sym c.as_slice-order.ensures) ∙ a ∙ ap (λ log. Refuted log) (sym c.into_log.ensures))

pub returns-in-Spent : goal.returns-in-Spent
returns-in-Spent c =
    let a : turn c.as_slice-order.result.now c.args.conflicts (seen c.turns.state) ≡ Spent = rw c.in-Spent.is at c.in_ok-turn.ensures.turned in
    run_comes c.args.cnf.now c.args.conflicts (seen c.turns.state) c.turns.invariant.run Spent
    (ap (λ o. turn o c.args.conflicts (seen c.turns.state)) (sym c.as_slice-order.ensures) ∙ a)
