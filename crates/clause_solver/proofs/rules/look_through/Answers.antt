use Rattle.std.proofs.Common.{◌≡◌, drop, subst}
use Rattle.refute_check.specs.Machine.{status}
use Rattle.clause_solver.proofs.Statuses.{with_unset, passed_false, passed_unset, place_kept, place_here}
use Rattle.clause_solver.proofs.rules.look_through.Goals as goal
use Rattle.clause_solver.proofs.rules.look_through.Goals.{in-False, in-Unset+in_default}

pub loop-literal-preserved : goal.loop-literal-preserved
loop-literal-preserved c = elim c.match-value.branch [
  | in-False w ↦ record {
    status = rw w.unset-is (passed_false c.args.trail.now c.args.clause.now c.loop-literal.literal-index (status c.args.trail.now c.args.clause.now) c.loop-literal-test.true c.loop-literal.unset w.in-False.ensures c.loop-literal.invariant.status);
    place = rw w.unset-is (place_kept c.args.trail.now c.args.clause.now c.loop-literal.literal-index c.loop-literal.unset c.loop-literal.invariant.place);
  }
  | in-Unset+in_default w ↦ record {
    status = rw w.unset-is (passed_unset c.args.trail.now c.args.clause.now c.loop-literal.literal-index (status c.args.trail.now c.args.clause.now) c.loop-literal-test.true w.in-Unset.ensures
        (subst (λ o. status c.args.trail.now c.args.clause.now ≡ with_unset o (status c.args.trail.now (drop c.loop-literal.literal-index c.args.clause.now))) w.in_default.is c.loop-literal.invariant.status));
    place = rw w.unset-is (place_here c.args.trail.now c.args.clause.now c.loop-literal.literal-index c.loop-literal-test.true w.in-Unset.ensures);
  }
]
