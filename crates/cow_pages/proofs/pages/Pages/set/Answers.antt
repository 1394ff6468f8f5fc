use Rattle.std.proofs.Common.{◌≡◌, ◌∙◌, [], ◌∷◌, ap, sym, length, arith}
use Rattle.cow_pages.proofs.WrittenLemmas.{set-written}
use Rattle.cow_pages.proofs.PaddedLemmas.{put-padded, put-list}
use Rattle.cow_pages.proofs.pages.Pages.set.Goals as goal

pub invariant_of-self-2 : goal.invariant_of-self-2
invariant_of-self-2 c = (
  put-padded c.self.inside.chunks.items c.as_mut_slice-chunks.result.now c.put_cell.new.chunks c.self.inside.chunks.len c.self.inside.cells c.args.at (c.args.cell ∷ []) c.args.self.now
      c.self.invariant.0 c.self.view_is c.as_mut_slice-chunks.ensures.value c.as_mut_slice-chunks.ensures.len c.put_cell.ensures.long
      (omega (arith, c.requires))
      c.in_ok-put_cell.ensures.written,
  c.self.invariant.1,
)

pub returns-clause-set : goal.returns-clause-set
returns-clause-set c =
    put-list c.self.inside.chunks.items c.as_mut_slice-chunks.result.now c.put_cell.new.chunks c.self.inside.chunks.len c.self.inside.cells c.args.at (c.args.cell ∷ []) c.args.self.now
    c.self.invariant.0 c.self.view_is c.as_mut_slice-chunks.ensures.value c.as_mut_slice-chunks.ensures.len c.put_cell.ensures.long
    (omega (arith, c.requires))
    c.in_ok-put_cell.ensures.written
    ∙ sym (set-written c.args.self.now c.args.at c.args.cell c.requires)
