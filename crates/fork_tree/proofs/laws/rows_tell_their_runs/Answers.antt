use Rattle.sym_state.specs.Nodes.{root}
use Rattle.fork_tree.proofs.Knowing.{knows}
use Rattle.fork_tree.proofs.Telling.{all-tell}
use Rattle.fork_tree.proofs.laws.rows_tell_their_runs.Goals as goal

pub returns : goal.returns
returns c = λ words marks F i t can h. all-tell words marks F t (root i) (knows i can) h
