use Rattle.std.proofs.Common.{arith}
use Rattle.sym_state.proofs.CellLemmas.{grown-words}
use Rattle.sym_state.proofs.cells.CellsMemoryGraph.grow.Goals as goal

pub returns-clause-grown : goal.returns-clause-grown
returns-clause-grown c = rw (← c.self.view_is) (grown-words c.in-Some.cells c.args.pages c.self.inside.pages c.grow.new.self c.in_ok-grow.ensures.grown (omega (arith, c.in-Some.ensures)))
