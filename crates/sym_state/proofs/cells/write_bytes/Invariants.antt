use Rattle.std.proofs.Common.{map}
use Rattle.sym_state.specs.Fields.{cell_word}
use Rattle.sym_state.proofs.CellLemmas.{WordsSoFar}
use Rattle.sym_state.proofs.cells.write_bytes.Given as goal

abbrev pub invariant-loop-i : goal.invariant-loop-i
invariant-loop-i l = WordsSoFar l.initial.pages l.at (map cell_word l.bytes) l.i l.pages
