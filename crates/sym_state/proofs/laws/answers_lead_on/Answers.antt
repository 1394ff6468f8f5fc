use Rattle.sym_state.proofs.SideLemmas.{before-follows, goes-follows}
use Rattle.sym_state.proofs.laws.answers_lead_on.Goals as goal

pub returns-clause-before : goal.returns-clause-before
returns-clause-before c = before-follows

pub returns-clause-goes_on : goal.returns-clause-goes_on
returns-clause-goes_on c = λ n q t p answer can h question answers some. goes-follows n p can h q t answer question answers some
