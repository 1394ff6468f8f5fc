use Rattle.std.proofs.Common.{◌∙◌, arith, sym}
use Rattle.clause_solver.proofs.Counts.{off_here, off_other}
use Rattle.clause_solver.proofs.resolution.take_off.Goals as goal

pub overflow_sub-result : goal.overflow_sub-result
overflow_sub-result c =
    let o = off_here c.args.trail.now c.args.level c.args.literals.now c.take_off.new.self c.args.literal c.take_off.ensures c.requires.once c.requires.there (sym c.level.ensures ∙ c.if-level.true) in
    omega (arith, o, c.requires.counted)

pub returns-then-level-clause-counted : goal.returns-then-level-clause-counted
returns-then-level-clause-counted c =
    let o = off_here c.args.trail.now c.args.level c.args.literals.now c.take_off.new.self c.args.literal c.take_off.ensures c.requires.once c.requires.there (sym c.level.ensures ∙ c.if-level.true) in
    omega (arith, o, c.requires.counted)

pub returns-else-level-clause-counted : goal.returns-else-level-clause-counted
returns-else-level-clause-counted c = c.requires.counted ∙ off_other c.args.trail.now c.args.level c.args.literals.now c.take_off.new.self c.args.literal c.take_off.ensures c.requires.once c.requires.there (λ e. c.if-level.false (c.level.ensures ∙ e))
