use Rattle.std.proofs.Common.{◌≡◌, ◌≤◌, ◌<◌, ◌*◌, ◌∙◌, ◌+◌, ◌-◌, ◌%◌, ap, take, drop, arith, length}
use Rattle.cow_pages.specs.Cells.{part}
use Rattle.cow_pages.specs.code.Chunks.{chunk_cells, cells_of}
use Rattle.cow_pages.proofs.WrittenLemmas.{mid-long}
use Rattle.cow_pages.proofs.ChunkLemmas.{chunk-read, put-long, read_on, long-read}
use Rattle.cow_pages.proofs.ranges.read.Goals as goal

pub loop-done-preserved : goal.loop-done-preserved
loop-done-preserved c =
    let done = c.loop-done.done in
    let count = c.min-count.result in
    let chunks = c.args.chunks.now in
    let more : done + count ≤ length c.loop-done.out = omega (arith, c.loop-done-test.true, c.min-count.ensures, c.loop-done.invariant.1) in
    let within : c.args.at + done + count ≤ chunk_cells * length chunks = omega (arith, more, c.loop-done.invariant.1, c.requires.within) in
    let some : 0 < count = omega (arith, c.loop-done-test.true, c.min-count.ensures) in
    let new : c.read.new.out ≡ part (c.args.at + done) count (cells_of chunks) =
    chunk-read chunks c.args.at done count _ c.read.new.out c.index-chunks-place.result c.requires.whole within some
    (omega (arith, c.min-count.ensures)) (mid-long done count c.loop-done.out more) (c.read.ensures ∙ ap (λ p. part ((c.args.at + done) % chunk_cells) (length (take (done + count - done) (drop done c.loop-done.out))) p) c.index-chunks-place.is) in
    let counted : length c.read.new.out ≡ count = long-read chunks (c.args.at + done) count c.read.new.out c.requires.whole within new in (
      omega (arith, more, c.loop-done.invariant.1),
      put-long c.loop-done.out c.read.new.out done count more counted ∙ c.loop-done.invariant.1,
      read_on c.loop-done.out c.read.new.out done count more counted c.args.at (cells_of chunks) new c.loop-done.invariant.2,
    )
