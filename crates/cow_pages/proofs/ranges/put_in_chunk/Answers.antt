use Rattle.std.proofs.Common.{◌≡◌, ℕ, ◌∙◌, ◌+◌, ◌-◌, ◌%◌, ◌<◌, ◌≤◌, get_or, ◌/◌, ap, sym, take, drop, length, arith, subst, replicate}
use Rattle.std.proofs.lemmas.List.{length-take-le, length-replicate}
use Rattle.cow_pages.specs.Cells.{written, part}
use Rattle.cow_pages.specs.code.Chunks.{chunk_cells, source_cells, Writes}
use Rattle.cow_pages.proofs.WrittenLemmas.{part-all}
use Rattle.cow_pages.proofs.ChunkLemmas.{chunk_written, source_long}
use Rattle.cow_pages.proofs.ranges.put_in_chunk.Goals as goal

pub returns-clause-written : goal.returns-clause-written
returns-clause-written c =
    let chunks = c.args.chunks.now in
    let count = c.args.count in
    let xs = source_cells chunks count c.args.source.now in
    let all : length xs ≡ count = source_long chunks count c.args.source.now c.requires.whole c.requires.fits in
    let cut : c.take_piece.new.out ≡ xs = c.take_piece.ensures ∙ ap (λ n. part 0 n xs) (length-take-le count (replicate 1024 0) (omega (arith, c.requires.one, length-replicate {A = ℕ} 1024 0))) ∙ part-all count xs all in
    chunk_written chunks c.args.at xs c.index-chunks-at.result c.write.new.self c.requires.whole (omega (arith, c.requires.within, c.requires.some)) (omega (arith, all, c.requires.one))
    (c.in_ok-write.ensures.written ∙ ap (λ l. written (c.args.at % chunk_cells) l (get_or c.args.chunks.now (c.args.at / chunk_cells) c.index-chunks-at.result)) cut)
