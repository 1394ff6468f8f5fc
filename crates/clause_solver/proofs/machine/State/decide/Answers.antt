use Rattle.std.proofs.Common.{◌∙◌, arith}
use Rattle.clause_solver.proofs.Turning.{unset_named, unset_free}
use Rattle.clause_solver.proofs.machine.State.decide.Goals as goal

pub overflow_mul-literal : goal.overflow_mul-literal
overflow_mul-literal c = omega (arith, c.requires.small c.in-Some.variable (unset_named c.args.self.now.trail c.args.order.now c.in-Some.variable c.in-Some.ensures.first))

pub overflow_add-literal : goal.overflow_add-literal
overflow_add-literal c = omega (arith, c.requires.small c.in-Some.variable (unset_named c.args.self.now.trail c.args.order.now c.in-Some.variable c.in-Some.ensures.first))

pub put-requires-clause-free : goal.put-requires-clause-free
put-requires-clause-free c = unset_free c.args.self.now.trail c.args.order.now c.in-Some.variable c.in-Some.ensures.first

pub returns-in_default-clause-watched : goal.returns-in_default-clause-watched
returns-in_default-clause-watched c =
    let w = c.requires.watched in
    record { sound = w.sound; set = c.unset.ensures.set; levelled = w.levelled; once = w.once; settled = w.settled }

pub returns-clause-watched : goal.returns-clause-watched
returns-clause-watched c =
    let w = c.requires.watched in
    c.in_ok-put.ensures.watched c.args.order.now (record { sound = w.sound; set = c.unset.ensures.set; levelled = w.levelled; once = w.once; settled = w.settled })
    (c.next_level-level.ensures ∙ omega arith) c.requires.guarded
