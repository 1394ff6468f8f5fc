use Rattle.std.proofs.Common.{◌≡◌, length, slice_set, ◌/◌, arith, subst, sym, replicate}
use Rattle.std.proofs.lemmas.List.{length-replicate}
use Rattle.cow_pages.specs.code.Chunks.{source_cells, Writes, FitsSource}
use Rattle.cow_pages.proofs.ChunkLemmas.{chunk_written}
use Rattle.cow_pages.proofs.ranges.put.Goals as goal

pub returns-in-Cells-clause-written : goal.returns-in-Cells-clause-written
returns-in-Cells-clause-written c =
    let counted : length c.in-Cells.cells.now ≡ c.args.count = subst (λ s. FitsSource c.args.chunks.now c.args.count s) c.in-Cells.is c.requires.fits in
    subst (λ s. Writes c.args.chunks.now c.args.at (source_cells c.args.chunks.now c.args.count s) (slice_set c.args.chunks.now (c.args.at / 1024) c.write.new.self)) (sym c.in-Cells.is)
    (chunk_written c.args.chunks.now c.args.at c.in-Cells.cells.now c.index-chunks-at.result c.write.new.self c.requires.whole
    (omega (arith, c.requires.within, c.if-count-eq0.false))
    (omega (arith, counted, c.if-count-at.true))
    c.in_ok-write.ensures.written)

pub returns-in-Cell-clause-written : goal.returns-in-Cell-clause-written
returns-in-Cell-clause-written c =
    subst (λ s. Writes c.args.chunks.now c.args.at (source_cells c.args.chunks.now c.args.count s) (slice_set c.args.chunks.now (c.args.at / 1024) c.fill.new.self)) (sym c.in-Cell.is)
    (chunk_written c.args.chunks.now c.args.at (replicate c.args.count c.in-Cell.cell) c.index-chunks-at-in-Cell.result c.fill.new.self c.requires.whole
    (omega (arith, c.requires.within, c.if-count-eq0.false))
    (omega (arith, length-replicate c.args.count c.in-Cell.cell, c.if-count-at.true))
    c.in_ok-fill.ensures.filled)
