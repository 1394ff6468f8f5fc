use Rattle.std.proofs.Common.{◌≡◌, take}
use Rattle.cow_pages.proofs.ranges.share_all.Given as goal

abbrev pub invariant-loop-k : goal.invariant-loop-k
invariant-loop-k l = l.out.items ≡ take l.k l.chunks
