use Rattle.sym_state.proofs.SideLemmas.{test-follows, pick-follows, other-follows, assume-follows}
use Rattle.sym_state.proofs.laws.sides_stand_for_their_nodes.Goals as goal

pub returns-clause-tests : goal.returns-clause-tests
returns-clause-tests c = λ n p t side input can h question met k. test-follows n p can h t side input question met k

pub returns-clause-picks : goal.returns-clause-picks
returns-clause-picks c = λ n p t other a input can h question differ met k. pick-follows n p can h t other a input question differ met k

pub returns-clause-others : goal.returns-clause-others
returns-clause-others c = λ n p t other a input can h question differ met k. other-follows n p can h t other a input question differ met k

pub returns-clause-assumes : goal.returns-clause-assumes
returns-clause-assumes c = λ n p t input can h question met k. assume-follows n p can h t input question met k
