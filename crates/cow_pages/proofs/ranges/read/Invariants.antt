use Rattle.std.proofs.Common.{◌≡◌, ◌≤◌, ◌-◌, length, take, drop}
use Rattle.cow_pages.specs.code.Chunks.{cells_of}
use Rattle.cow_pages.proofs.ranges.read.Given as goal

abbrev pub invariant-loop-done : goal.invariant-loop-done
invariant-loop-done l =
    (l.done ≤ length l.initial.out) × (length l.out ≡ length l.initial.out) × (take l.done l.out ≡ take l.done (drop l.at (cells_of l.chunks)))

abbrev pub decreases-loop-done : goal.decreases-loop-done
decreases-loop-done l = length l.initial.out - l.done
