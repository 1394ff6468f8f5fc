use Rattle.std.proofs.Common.{subst}
use Rattle.std.proofs.lemmas.List.Elements.{recursion_from_All}
use Rattle.bv_terms.specs.Graphs.{Holds}
use Rattle.wasm_start.specs.Starts.{IsInOrder}
use Rattle.sym_state.specs.Fields.{words_of_cells}
use Rattle.sym_state.proofs.starting.begun_config.Goals as goal

pub returns-in-Goes-clause-held : goal.returns-in-Goes-clause-held
returns-in-Goes-clause-held c = λ g order held. record {
  execution = record { sane = subst (IsInOrder Holds g) c.in-Goes.is order; cells = recursion_from_All (Holds g) (words_of_cells c.args.memory) held };
  standing = tt;
}

pub returns-in-Ends-clause-held : goal.returns-in-Ends-clause-held
returns-in-Ends-clause-held c = λ g order held. record { execution = tt; standing = c.stopped.ensures.held g }
