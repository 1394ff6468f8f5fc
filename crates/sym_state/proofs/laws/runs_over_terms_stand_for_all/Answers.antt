use Rattle.sym_state.proofs.ValueLemmas.{place-values, members-ask}
use Rattle.sym_state.proofs.laws.runs_over_terms_stand_for_all.Goals as goal

pub returns-clause-values : goal.returns-clause-values
returns-clause-values c = λ n input turns can member answered. place-values n can input turns member answered

pub returns-clause-asks : goal.returns-clause-asks
returns-clause-asks c = λ n q t turns trace can over. members-ask n can q t turns trace over
