use Rattle.sym_state.specs.Nodes.{root}
use Rattle.fork_tree.proofs.Ordered.{rising}
use Rattle.fork_tree.proofs.laws.rows_are_in_order.Goals as goal

pub returns : goal.returns
returns c = λ words marks F i t h. rising words marks F t (root i) h
