use Rattle.std.proofs.Common.{◌∙◌, ap, sym, length}
use Rattle.cow_pages.proofs.PaddedLemmas.{list-long}
use Rattle.cow_pages.proofs.pages.Pages.len.Goals as goal

pub returns : goal.returns
returns c = sym (list-long c.self.inside.chunks.items c.self.inside.cells c.self.invariant.0) ∙ ap (λ l. length l) c.self.view_is
