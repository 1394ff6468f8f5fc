use Rattle.clause_solver.proofs.Models.{answer_is_right}
use Rattle.clause_solver.proofs.solver.solve.Goals as goal

pub returns-clause-right : goal.returns-clause-right
returns-clause-right c = answer_is_right c.args.cnf.now c.args.conflicts c.requires.formula c.in_ok-answer.answer c.in_ok-answer.ensures
