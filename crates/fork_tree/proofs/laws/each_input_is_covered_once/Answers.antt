use Rattle.sym_state.specs.Nodes.{root}
use Rattle.fork_tree.proofs.Covering.{once, covered}
use Rattle.fork_tree.proofs.Knowing.{knows, meets, in-root}
use Rattle.fork_tree.proofs.laws.each_input_is_covered_once.Goals as goal

pub returns-clause-one : goal.returns-clause-one
returns-clause-one c = λ words marks F i t can h input passes. covered words marks F input t (root i) (knows i can) (meets i can input passes) h (in-root i can input)

pub returns-clause-at_most : goal.returns-clause-at_most
returns-clause-at_most c = λ words marks F i t can h input. once words marks F input t (root i) (knows i can) h
