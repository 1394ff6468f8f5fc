use Rattle.std.proofs.Common.{◌∙◌, arith}
use Rattle.clause_solver.proofs.Watching.{vector_longer, vector_long}
use Rattle.clause_solver.proofs.lists.make_lists.Goals as goal

pub loop-alloc-preserved : goal.loop-alloc-preserved
loop-alloc-preserved c = λ i. vector_longer c.loop-alloc.lists.items c.push.new.self.items c.new.result c.in_ok-push.ensures.items c.new.ensures.items i ∙ c.loop-alloc.invariant i

pub returns-clause-long : goal.returns-clause-long
returns-clause-long c = vector_long c.loop-alloc.lists.items c.args.at (omega (arith, c.loop-alloc.lists.ok.0))
