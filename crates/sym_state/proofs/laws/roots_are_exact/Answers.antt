use Rattle.sym_state.proofs.ExactLemmas.{root-exact}
use Rattle.sym_state.proofs.laws.roots_are_exact.Goals as goal

pub returns : goal.returns
returns c = root-exact
