use Rattle.sym_state.proofs.CellLemmas.{WordsSoFar}
use Rattle.sym_state.proofs.cells.write_words.Given as goal

abbrev pub invariant-loop-i : goal.invariant-loop-i
invariant-loop-i l = WordsSoFar l.initial.pages l.at l.words l.i l.pages
