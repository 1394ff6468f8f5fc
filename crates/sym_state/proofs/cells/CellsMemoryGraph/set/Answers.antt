use Rattle.sym_state.proofs.CellLemmas.{set-words}
use Rattle.sym_state.proofs.cells.CellsMemoryGraph.set.Goals as goal

pub returns-clause-set : goal.returns-clause-set
returns-clause-set c = rw (← c.self.view_is) (set-words c.args.at c.cell_of.result c.args.w c.self.inside.pages c.set.new.self c.in_ok-set.ensures.set c.cell_of.ensures)
