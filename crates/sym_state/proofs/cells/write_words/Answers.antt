use Rattle.sym_state.proofs.CellLemmas.{words-more}
use Rattle.sym_state.proofs.cells.write_words.Goals as goal

pub loop-i-preserved : goal.loop-i-preserved
loop-i-preserved c =
    words-more c.args.pages.now c.args.at c.args.words.now c.requires.within c.loop-i.i c.cell_of.result _ c.loop-i.pages c.set.new.self c.loop-i-test.true c.loop-i.invariant c.in_ok-set.ensures.set c.cell_of.ensures
