use Rattle.std.proofs.Common.{◌≡◌, ◌∙◌, ◌+◌, ◌-◌, ◌%◌, ◌<◌, ◌≤◌, ap, sym, take, drop, length, arith, inl, inr, ⊎_elim, length-append, subst}
use Rattle.std.proofs.lemmas.Bool.{cases_lt}
use Rattle.std.proofs.lemmas.List.{length-take-le, length-drop}
use Rattle.cow_pages.specs.Cells.{written, part}
use Rattle.cow_pages.specs.code.Chunks.{chunk_cells, source_cells}
use Rattle.cow_pages.proofs.WrittenLemmas.{length-part}
use Rattle.cow_pages.proofs.ChunkLemmas.{Made, made-more, source_long}
use Rattle.cow_pages.proofs.ranges.make.Goals as goal

pub loop-done-preserved : goal.loop-done-preserved
loop-done-preserved c =
    let done = c.loop-done.done in
    let piece = c.min-piece.result in
    let chunks = c.args.chunks.now in
    let xs = source_cells chunks c.args.count c.args.source.now in
    let all : length xs ≡ c.args.count = source_long chunks c.args.count c.args.source.now c.requires.whole c.requires.fits in
    let some : 0 < piece = omega (arith, c.loop-done-test.true, c.min-piece.ensures) in
    let room : length (take piece c.loop-done.buffer) ≡ piece = length-take-le piece c.loop-done.buffer (omega (arith, c.min-piece.ensures, c.loop-done.invariant.1)) in
    let cut : c.take_piece.new.out ≡ take piece (drop done xs) = c.take_piece.ensures ∙ ap (λ n. part done n xs) room in
    let counted : length c.take_piece.new.out ≡ piece = ap (λ l. length l) cut ∙ length-part done piece xs (omega (arith, all, c.loop-done-test.true, c.min-piece.ensures)) in (
      omega (arith, c.loop-done-test.true, c.min-piece.ensures),
      omega (arith, counted, c.min-piece.ensures, c.loop-done.invariant.1, length-append c.take_piece.new.out (drop piece c.loop-done.buffer), length-drop piece c.loop-done.buffer),
      subst (λ l. Made chunks c.args.at xs (done + piece) l) (sym c.in_ok-push.ensures.items)
          (made-more chunks c.loop-done.made.items c.args.at done piece xs c.take_piece.new.out c.index-chunks-place.result c.write.new.self c.requires.whole
          (omega (arith, all, c.requires.within)) (omega (arith, all, c.loop-done-test.true)) some
          (⊎_elim
          (λ h. inl (omega (arith, all, c.min-piece.ensures, h), omega (arith, c.min-piece.ensures, h)))
          (λ h. inr (omega (arith, all, c.min-piece.ensures, h), omega (arith, c.min-piece.ensures, h)))
          (cases_lt (c.args.count - done) (chunk_cells - (c.args.at + done) % chunk_cells)))
          cut
          (c.in_ok-write.ensures.written ∙ ap (λ l. written ((c.args.at + done) % chunk_cells) c.take_piece.new.out l) (c.in_ok-chunk.ensures ∙ c.index-chunks-place.is))
          c.loop-done.invariant.2),
    )
