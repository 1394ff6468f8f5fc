use Rattle.sym_state.proofs.CellLemmas.{filled-words}
use Rattle.sym_state.proofs.cells.CellsMemoryGraph.fill.Goals as goal

pub returns-clause-filled : goal.returns-clause-filled
returns-clause-filled c = rw (← c.self.view_is) (filled-words c.args.at c.args.count c.cell_of.result c.args.w c.self.inside.pages c.fill.new.self c.in_ok-fill.ensures.filled c.cell_of.ensures)
