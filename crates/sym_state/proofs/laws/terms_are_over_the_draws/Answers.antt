use Rattle.sym_state.proofs.DrawnLemmas.{words-held, asked-held}
use Rattle.sym_state.proofs.laws.terms_are_over_the_draws.Goals as goal

pub returns-clause-words : goal.returns-clause-words
returns-clause-words c = λ n turns g can e. words-held n can turns g e

pub returns-clause-asks : goal.returns-clause-asks
returns-clause-asks c = λ n q t turns trace can e. asked-held n can q t turns trace e
