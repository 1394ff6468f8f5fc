use Rattle.sym_state.specs.Nodes.{root}
use Rattle.fork_tree.proofs.Knowing.{knows}
use Rattle.fork_tree.proofs.Ordered.{prints}
use Rattle.fork_tree.proofs.laws.rows_print_the_least.Goals as goal

pub returns : goal.returns
returns c = λ words marks F i t can h. prints words marks F t (root i) (knows i can) h
