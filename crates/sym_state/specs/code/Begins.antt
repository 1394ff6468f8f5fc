-- What is known of the configuration in which a path begins.
use Rattle.bv_terms.specs.Graphs.{TermGraph}
use Rattle.sym_state.specs.declared.config.Config.{Config}
use Rattle.sym_state.specs.Fields.{ExecutionHeld, StandingHeld}

-- its words are of the graph, and its machine is in order
pub record IsHeldAtFirst (g : TermGraph) (c : Config) : Type 0 where
  pub execution : ExecutionHeld g c.execution
  pub standing : StandingHeld g c.standing
