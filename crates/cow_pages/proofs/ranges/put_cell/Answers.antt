use Rattle.std.proofs.Common.{◌≡◌, ◌∙◌, ◌%◌, ◌/◌, [], ◌∷◌, length, get_or, arith}
use Rattle.cow_pages.specs.code.Chunks.{chunk_cells}
use Rattle.cow_pages.proofs.WrittenLemmas.{set-written}
use Rattle.cow_pages.proofs.ChunkLemmas.{chunk_written, chunk_within, place_within, whole-get}
use Rattle.cow_pages.proofs.ranges.put_cell.Goals as goal

pub returns-clause-written : goal.returns-clause-written
returns-clause-written c =
    let at = c.args.at in
    let chunks = c.args.chunks.now in
    let d = c.index-chunks-at.result in
    let before : length (get_or chunks (at / chunk_cells) d) ≡ chunk_cells = whole-get chunk_cells chunks (at / chunk_cells) d c.requires.whole (chunk_within at (length chunks) c.requires.within) in
    chunk_written chunks at (c.args.cell ∷ []) d c.set.new.self c.requires.whole c.requires.within (omega (arith, place_within at))
    (c.in_ok-set.ensures.set ∙ set-written (get_or chunks (at / chunk_cells) d) (at % chunk_cells) c.args.cell (omega (arith, before, place_within at)))
