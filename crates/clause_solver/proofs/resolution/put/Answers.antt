use Rattle.std.proofs.Common.{◌∙◌, arith, sym}
use Rattle.clause_solver.proofs.Joins.{more_there, more_new}
use Rattle.clause_solver.proofs.Counts.{count_small, push_here, push_other}
use Rattle.clause_solver.proofs.resolution.put.Goals as goal

pub returns-then-has-clause-put : goal.returns-then-has-clause-put
returns-then-has-clause-put c = λ before e. more_there c.args.literals.now before c.args.literal (sym c.has.ensures ∙ c.if-has.true) e

pub overflow_add-result : goal.overflow_add-result
overflow_add-result c = omega (arith, count_small c.args.trail.now c.args.level c.args.literals.now, c.requires, c.len-many.ensures.exact, c.len-many.ensures.small)

pub returns-then-level-clause-put : goal.returns-then-level-clause-put
returns-then-level-clause-put c = λ before e. more_new c.args.literals.now c.put.new.self before c.args.literal (sym c.has.ensures ∙ c.if-has.false) c.in_ok-put.ensures e

pub returns-then-level-clause-counted : goal.returns-then-level-clause-counted
returns-then-level-clause-counted c =
    let p = push_here c.args.trail.now c.args.level c.args.literals.now c.put.new.self c.args.literal c.in_ok-put.ensures (sym c.level.ensures ∙ c.if-level.true) in
    omega (arith, p, c.requires)

pub returns-else-level-clause-put : goal.returns-else-level-clause-put
returns-else-level-clause-put c = λ before e. more_new c.args.literals.now c.put.new.self before c.args.literal (sym c.has.ensures ∙ c.if-has.false) c.in_ok-put.ensures e

pub returns-else-level-clause-counted : goal.returns-else-level-clause-counted
returns-else-level-clause-counted c = c.requires ∙ push_other c.args.trail.now c.args.level c.args.literals.now c.put.new.self c.args.literal c.in_ok-put.ensures (λ e. c.if-level.false (c.level.ensures ∙ e))
