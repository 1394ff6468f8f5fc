use Rattle.sym_state.proofs.LeastLemmas.{least-follows, least-before}
use Rattle.sym_state.proofs.laws.least_inputs_are_least.Goals as goal

pub returns-clause-follows : goal.returns-clause-follows
returns-clause-follows c = least-follows

pub returns-clause-before : goal.returns-clause-before
returns-clause-before c = least-before
