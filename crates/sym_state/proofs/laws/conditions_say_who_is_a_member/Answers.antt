use Rattle.sym_state.proofs.ExactLemmas.{test-exact, assume-exact, pick-exact, other-exact, goes-exact}
use Rattle.sym_state.proofs.laws.conditions_say_who_is_a_member.Goals as goal

pub returns-clause-tests : goal.returns-clause-tests
returns-clause-tests c = λ n input t side exact member asks. test-exact n exact input t side member asks

pub returns-clause-assumes : goal.returns-clause-assumes
returns-clause-assumes c = λ n input t exact member asks. assume-exact n exact input t member asks

pub returns-clause-picks : goal.returns-clause-picks
returns-clause-picks c = λ n input t other a can exact member asks differ picked. pick-exact n exact can input t other a member asks differ picked

pub returns-clause-others : goal.returns-clause-others
returns-clause-others c = λ n t other a exact asks differ. other-exact n exact t other a asks differ

pub returns-clause-goes_on : goal.returns-clause-goes_on
returns-clause-goes_on c = λ n input q t answer can exact member asks answers some. goes-exact n exact can input q t answer member asks answers some
