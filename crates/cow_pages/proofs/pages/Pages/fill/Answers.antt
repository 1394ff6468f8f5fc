use Rattle.std.proofs.Common.{◌≡◌, ◌∙◌, ◌+◌, ℕ, ap, sym, length, arith, replicate, subst}
use Rattle.std.proofs.lemmas.List.{length-replicate}
use Rattle.cow_pages.specs.Cells.{written, part}
use Rattle.cow_pages.specs.code.Chunks.{cells_of}
use Rattle.cow_pages.proofs.WrittenLemmas.{length-part}
use Rattle.cow_pages.proofs.PaddedLemmas.{put-padded, put-list, list-part}
use Rattle.cow_pages.proofs.pages.Pages.fill.Goals as goal

pub invariant_of-self-2 : goal.invariant_of-self-2
invariant_of-self-2 c = (
  put-padded c.self.inside.chunks.items c.as_mut_slice-chunks.result.now c.put.new.chunks c.self.inside.chunks.len c.self.inside.cells c.args.at (replicate c.args.count c.args.cell) c.args.self.now
      c.self.invariant.0 c.self.view_is c.as_mut_slice-chunks.ensures.value c.as_mut_slice-chunks.ensures.len c.put.ensures.long
      (omega (arith, c.requires, length-replicate c.args.count c.args.cell))
      c.in_ok-put.ensures.written,
  c.self.invariant.1,
)

pub returns-clause-filled : goal.returns-clause-filled
returns-clause-filled c =
    put-list c.self.inside.chunks.items c.as_mut_slice-chunks.result.now c.put.new.chunks c.self.inside.chunks.len c.self.inside.cells c.args.at (replicate c.args.count c.args.cell) c.args.self.now
    c.self.invariant.0 c.self.view_is c.as_mut_slice-chunks.ensures.value c.as_mut_slice-chunks.ensures.len c.put.ensures.long
    (omega (arith, c.requires, length-replicate c.args.count c.args.cell))
    c.in_ok-put.ensures.written
