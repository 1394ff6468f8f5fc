use Rattle.sym_state.proofs.CellLemmas.{copied-words}
use Rattle.sym_state.proofs.cells.CellsMemoryGraph.copy.Goals as goal

pub returns-clause-copied : goal.returns-clause-copied
returns-clause-copied c = rw (← c.self.view_is) (copied-words c.args.to c.args.from c.args.count c.self.inside.pages c.copy.new.self c.in_ok-copy.ensures.copied)
