use Rattle.fork_tree.proofs.Knowing.{knows}
use Rattle.fork_tree.proofs.Same.{rows-same}
use Rattle.fork_tree.proofs.laws.rows_are_unique.Goals as goal

pub returns : goal.returns
returns c = λ words marks F n can rows others h k. rows-same words marks F n (knows n.invocation can) rows others h k
