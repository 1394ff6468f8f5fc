use Rattle.sym_state.specs.Nodes.{root}
use Rattle.fork_tree.proofs.Refuting.{root-known, below-known, left-out-refuted}
use Rattle.fork_tree.proofs.laws.left_out_sides_are_refuted.Goals as goal

pub returns : goal.returns
returns c = λ words marks F bound i can are solver nodes n below left least q side out.
    left-out-refuted words marks F bound solver n (below-known words marks F bound solver nodes (root i) n (root-known words i can are) below) left least q side out
