use Rattle.std.proofs.Common.{◌≡◌, ◌≤◌, ◌-◌, length}
use Rattle.cow_pages.specs.code.Chunks.{chunk_cells, source_cells}
use Rattle.cow_pages.proofs.ChunkLemmas.{Made}
use Rattle.cow_pages.proofs.ranges.make.Given as goal

abbrev pub invariant-loop-done : goal.invariant-loop-done
invariant-loop-done l = (l.done ≤ l.count) × (length l.buffer ≡ chunk_cells) × Made l.chunks l.at (source_cells l.chunks l.count l.source) l.done l.made.items

abbrev pub decreases-loop-done : goal.decreases-loop-done
decreases-loop-done l = l.count - l.done
