use Rattle.std.proofs.Common.{◌≡◌, ◌∙◌, length, subst, sym}
use Rattle.cow_pages.specs.Cells.{part}
use Rattle.cow_pages.specs.code.Chunks.{cells_of, source_cells}
use Rattle.cow_pages.proofs.WrittenLemmas.{part-part}
use Rattle.cow_pages.proofs.ranges.take_piece.Goals as goal

pub returns-in-Place : goal.returns-in-Place
returns-in-Place c =
    subst (λ s. c.read.new.out ≡ part c.args.done (length c.args.out.now) (source_cells c.args.chunks.now c.args.count s)) (sym c.in-Place.is)
    (c.read.ensures ∙ sym (part-part c.in-Place.from c.args.count c.args.done (length c.args.out.now) (cells_of c.args.chunks.now) c.requires.within))
