use Rattle.clause_solver.proofs.Watching.{vector_put}
use Rattle.clause_solver.proofs.lists.take_list.Goals as goal

pub returns-clause-kept : goal.returns-clause-kept
returns-clause-kept c = vector_put c.args.lists.now.items c.args.at c.replace.new.dest _ (rw c.replace.ensures.after c.new.ensures.items)
