use Rattle.std.proofs.Common.{◌∙◌, ◌%◌, ap, sym, length, slice_get, arith}
use Rattle.cow_pages.specs.code.Chunks.{chunk_cells}
use Rattle.cow_pages.proofs.PaddedLemmas.{list-long, list-get}
use Rattle.cow_pages.proofs.pages.Pages.get.Goals as goal

pub returns : goal.returns
returns c =
    ap (λ l. slice_get l c.args.at) (sym c.self.view_is)
    ∙ list-get c.self.inside.chunks.items c.self.inside.cells c.args.at c.index.result.now c.get.result c.self.invariant.0
    (omega (arith, c.requires, list-long c.self.inside.chunks.items c.self.inside.cells c.self.invariant.0, ap (λ l. length l) c.self.view_is))
    (ap (λ l. slice_get l (c.args.at % chunk_cells)) (sym c.index.ensures) ∙ c.get.ensures)
