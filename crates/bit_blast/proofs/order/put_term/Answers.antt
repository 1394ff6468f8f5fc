use Rattle.std.proofs.Common.{subst, All}
use Rattle.std.proofs.lemmas.List.Elements.{All-tail}
use Rattle.bit_blast.specs.code.Tasks.{HoldsTask}
use Rattle.bit_blast.proofs.order.put_term.Goals as goal

pub carry_out-requires-clause-tasks : goal.carry_out-requires-clause-tasks
carry_out-requires-clause-tasks c =
    All-tail (HoldsTask c.args.g.now) c.in-Some.task c.pop.new.self (subst (All (HoldsTask c.args.g.now)) c.in-Some.ensures c.loop-task.invariant.tasks_held)
