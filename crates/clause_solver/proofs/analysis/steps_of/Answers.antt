use Rattle.std.proofs.Common.{◌≡◌, ℕ, drop, sym, ap, ◌∙◌}
use Rattle.std.specs.Prelude.{Some, None}
use Rattle.refute_check.specs.Clauses.{variable_of}
use Rattle.refute_check.specs.Logs.{after_step}
use Rattle.refute_check.specs.Resolution.{each_once}
use Rattle.refute_check.specs.Machine.{has_variable, count_at}
use Rattle.clause_solver.specs.code.Analysis.{enough_for}
use Rattle.clause_solver.specs.code.Literals.{clause_now}
use Rattle.clause_solver.proofs.Analyses.{stopped, come_end, come_stuck, come_step, come_skip, now_stepped, now_after, now_has, now_once, no_step}
use Rattle.clause_solver.proofs.Joins.{step_once}
use Rattle.clause_solver.proofs.analysis.steps_of.Goals as goal
use Rattle.clause_solver.proofs.analysis.steps_of.Goals.{then-has_variable+in_ok-reason+in-Some+in_ok-push, else-has_variable}

pub returns-then-far-clause-clause : goal.returns-then-far-clause-clause
returns-then-far-clause-clause c = (come_end c.args.clauses.now (enough_for c.args.until c.args.trail.now) c.args.trail.now c.args.clause.now c.loop-after.after (clause_now c.loop-after.steps c.args.clause.now c.loop-after.literals) c.loop-after.steps c.loop-after.invariant.come
    (stopped c.args.clauses.now (enough_for c.args.until c.args.trail.now) (drop c.loop-after.after c.args.trail.now) (clause_now c.loop-after.steps c.args.clause.now c.loop-after.literals) (sym c.loop-after.invariant.far ∙ c.if-far.true))).0

pub returns-then-far-clause-steps : goal.returns-then-far-clause-steps
returns-then-far-clause-steps c = (come_end c.args.clauses.now (enough_for c.args.until c.args.trail.now) c.args.trail.now c.args.clause.now c.loop-after.after (clause_now c.loop-after.steps c.args.clause.now c.loop-after.literals) c.loop-after.steps c.loop-after.invariant.come
    (stopped c.args.clauses.now (enough_for c.args.until c.args.trail.now) (drop c.loop-after.after c.args.trail.now) (clause_now c.loop-after.steps c.args.clause.now c.loop-after.literals) (sym c.loop-after.invariant.far ∙ c.if-far.true))).1

pub step-requires-clause-once : goal.step-requires-clause-once
step-requires-clause-once c = now_once c.loop-after.steps c.args.clause.now c.loop-after.literals c.loop-after.invariant.kept

pub returns-in_default-clause-clause : goal.returns-in_default-clause-clause
returns-in_default-clause-clause c =
    let none : ((k : ℕ) → c.get-entry.result.reason ≡ Some k → after_step c.args.clauses.now (k, variable_of c.get-entry.result.literal) c.loop-after.literals ≡ None) × (c.step.new.literals ≡ c.loop-after.literals) = rw c.in_default.is at c.in_ok-reason.ensures in
    let both = come_stuck c.args.clauses.now (enough_for c.args.until c.args.trail.now) c.args.trail.now c.args.clause.now c.loop-after.after (clause_now c.loop-after.steps c.args.clause.now c.loop-after.literals) c.loop-after.steps c.loop-after.invariant.come
    c.get-entry.result c.get-entry.ensures (sym c.loop-after.invariant.far ∙ c.if-far.false)
    (now_has (variable_of c.get-entry.result.literal) c.loop-after.steps c.args.clause.now c.loop-after.literals c.loop-after.invariant.kept
    ∙ ap (λ v. has_variable v c.loop-after.literals) (sym c.variable-variable.ensures.exact) ∙ sym c.has_variable.ensures ∙ c.if-has_variable.true)
    (no_step c.args.clauses.now (variable_of c.get-entry.result.literal) (clause_now c.loop-after.steps c.args.clause.now c.loop-after.literals) c.get-entry.result.reason
    (λ k e. now_after c.args.clauses.now (k, variable_of c.get-entry.result.literal) c.loop-after.steps c.args.clause.now c.loop-after.literals c.loop-after.invariant.kept ∙ none.0 k e)) in
    ap (λ ls. clause_now c.loop-after.steps c.args.clause.now ls) none.1 ∙ both.0

pub returns-in_default-clause-steps : goal.returns-in_default-clause-steps
returns-in_default-clause-steps c =
    let none : ((k : ℕ) → c.get-entry.result.reason ≡ Some k → after_step c.args.clauses.now (k, variable_of c.get-entry.result.literal) c.loop-after.literals ≡ None) × (c.step.new.literals ≡ c.loop-after.literals) = rw c.in_default.is at c.in_ok-reason.ensures in
    let both = come_stuck c.args.clauses.now (enough_for c.args.until c.args.trail.now) c.args.trail.now c.args.clause.now c.loop-after.after (clause_now c.loop-after.steps c.args.clause.now c.loop-after.literals) c.loop-after.steps c.loop-after.invariant.come
    c.get-entry.result c.get-entry.ensures (sym c.loop-after.invariant.far ∙ c.if-far.false)
    (now_has (variable_of c.get-entry.result.literal) c.loop-after.steps c.args.clause.now c.loop-after.literals c.loop-after.invariant.kept
    ∙ ap (λ v. has_variable v c.loop-after.literals) (sym c.variable-variable.ensures.exact) ∙ sym c.has_variable.ensures ∙ c.if-has_variable.true)
    (no_step c.args.clauses.now (variable_of c.get-entry.result.literal) (clause_now c.loop-after.steps c.args.clause.now c.loop-after.literals) c.get-entry.result.reason
    (λ k e. now_after c.args.clauses.now (k, variable_of c.get-entry.result.literal) c.loop-after.steps c.args.clause.now c.loop-after.literals c.loop-after.invariant.kept ∙ none.0 k e)) in
    both.1

pub loop-after-preserved : goal.loop-after-preserved
loop-after-preserved c = elim c.if-has_variable.branch [
  | then-has_variable+in_ok-reason+in-Some+in_ok-push w ↦
      let both : (c.get-entry.result.reason ≡ Some w.in-Some.reason) × (after_step c.args.clauses.now (w.in-Some.reason, variable_of c.get-entry.result.literal) c.loop-after.literals ≡ Some w.step.new.literals)
      × (w.in-Some.next ≡ count_at c.args.trail.now c.last_level-last.result w.step.new.literals) = rw w.in-Some.is at w.in_ok-reason.ensures in
      let once : each_once w.step.new.literals ≡ w.step.new.literals = step_once c.args.clauses.now (w.in-Some.reason, variable_of c.get-entry.result.literal) c.loop-after.literals w.step.new.literals both.1 in
      let now = now_stepped c.loop-after.steps (w.in-Some.reason, variable_of c.get-entry.result.literal) c.args.clause.now w.step.new.literals in
      rw (w.steps-is, w.literals-is, w.many-is, w.far-is, w.in_ok-push.ensures.ok, c.variable-variable.ensures.exact, now) (record {
        come = come_step c.args.clauses.now (enough_for c.args.until c.args.trail.now) c.args.trail.now c.args.clause.now c.loop-after.after (clause_now c.loop-after.steps c.args.clause.now c.loop-after.literals) c.loop-after.steps c.loop-after.invariant.come
            c.get-entry.result c.get-entry.ensures (sym c.loop-after.invariant.far ∙ c.if-far.false)
            (now_has (variable_of c.get-entry.result.literal) c.loop-after.steps c.args.clause.now c.loop-after.literals c.loop-after.invariant.kept
            ∙ ap (λ v. has_variable v c.loop-after.literals) (sym c.variable-variable.ensures.exact) ∙ sym c.has_variable.ensures ∙ w.if-has_variable.true)
            w.in-Some.reason w.step.new.literals both.0
            (now_after c.args.clauses.now (w.in-Some.reason, variable_of c.get-entry.result.literal) c.loop-after.steps c.args.clause.now c.loop-after.literals c.loop-after.invariant.kept ∙ both.1);
        far = w.are_enough-far.ensures;
        kept = once;
        counted = both.2;
      })
  | else-has_variable w ↦ rw (w.steps-is, w.literals-is, w.many-is, w.far-is) (record {
    come = come_skip c.args.clauses.now (enough_for c.args.until c.args.trail.now) c.args.trail.now c.args.clause.now c.loop-after.after (clause_now c.loop-after.steps c.args.clause.now c.loop-after.literals) c.loop-after.steps c.loop-after.invariant.come
        c.get-entry.result c.get-entry.ensures (sym c.loop-after.invariant.far ∙ c.if-far.false)
        (now_has (variable_of c.get-entry.result.literal) c.loop-after.steps c.args.clause.now c.loop-after.literals c.loop-after.invariant.kept
        ∙ ap (λ v. has_variable v c.loop-after.literals) (sym c.variable-variable.ensures.exact) ∙ sym c.has_variable.ensures ∙ w.if-has_variable.false);
    far = c.loop-after.invariant.far;
    kept = c.loop-after.invariant.kept;
    counted = c.loop-after.invariant.counted;
  })
]
