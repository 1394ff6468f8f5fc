use Rattle.clause_solver.proofs.Numbers.{put_kept, put_there}
use Rattle.clause_solver.proofs.candidates.put.Goals as goal

pub returns : goal.returns
returns c = (put_kept c.args.numbers.now c.insert.new.self c.args.number c.in_ok-insert.ensures.updates, put_there c.args.numbers.now c.insert.new.self c.args.number c.in_ok-insert.ensures.updates)
