use Rattle.sym_state.proofs.ExampleNodes.{node_examples}
use Rattle.sym_state.proofs.examples.nodes_have_their_members.Goals as goal

pub returns : goal.returns
returns c = node_examples
