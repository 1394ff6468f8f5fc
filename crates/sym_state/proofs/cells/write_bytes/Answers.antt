use Rattle.std.proofs.Common.{◌∙◌, ap, slice_set, ◌+◌}
use Rattle.sym_state.proofs.CellLemmas.{bytes-more}
use Rattle.sym_state.proofs.cells.write_bytes.Goals as goal

pub loop-i-preserved : goal.loop-i-preserved
loop-i-preserved c =
    bytes-more c.args.pages.now c.args.at c.args.bytes.now c.requires c.loop-i.i _ c.loop-i.pages c.set.new.self c.loop-i-test.true c.loop-i.invariant
    (c.in_ok-set.ensures.set ∙ ap (slice_set c.loop-i.pages (c.args.at + c.loop-i.i)) c.from.ensures)
