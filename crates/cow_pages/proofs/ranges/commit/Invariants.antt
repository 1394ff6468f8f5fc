use Rattle.std.proofs.Common.{length}
use Rattle.cow_pages.proofs.ChunkLemmas.{Committed}
use Rattle.cow_pages.proofs.ranges.commit.Given as goal

abbrev pub invariant-loop-chunk : goal.invariant-loop-chunk
invariant-loop-chunk l = Committed l.initial.chunks l.initial.made.items l.first l.made.items l.chunks

abbrev pub decreases-loop-chunk : goal.decreases-loop-chunk
decreases-loop-chunk l = length l.made.items
