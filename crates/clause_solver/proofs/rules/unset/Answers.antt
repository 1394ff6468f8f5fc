use Rattle.std.proofs.Common.{sym}
use Rattle.clause_solver.proofs.Watching.{set_more, unset_here, unset_none}
use Rattle.clause_solver.proofs.rules.unset.Goals as goal

pub returns-in-None-clause-first : goal.returns-in-None-clause-first
returns-in-None-clause-first c = sym (unset_here c.args.trail.now c.args.order.now c.loop-ahead.ahead c.loop-ahead-test.true c.loop-ahead.invariant (sym c.in-None.ensures))

pub loop-ahead-preserved : goal.loop-ahead-preserved
loop-ahead-preserved c = set_more c.args.trail.now c.args.order.now c.loop-ahead.ahead c.in-Some.field-0 c.loop-ahead-test.true c.loop-ahead.invariant (sym c.in-Some.ensures)

pub returns-clause-first : goal.returns-clause-first
returns-clause-first c = sym (unset_none c.args.trail.now c.args.order.now c.loop-ahead.ahead c.loop-ahead-test.false c.loop-ahead.invariant)
