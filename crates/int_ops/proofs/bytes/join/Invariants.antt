use Rattle.std.proofs.Common.{◌≡◌, ◌≤◌, length, drop}
use Rattle.int_ops.specs.Bytes.{joined}
use Rattle.int_ops.proofs.bytes.join.Given as goal

abbrev pub invariant-loop-place : goal.invariant-loop-place
invariant-loop-place l = record { within : l.place ≤ length l.bytes; so_far : l.whole ≡ joined (drop l.place l.bytes) }

abbrev pub decreases-loop-place : goal.decreases-loop-place
decreases-loop-place l = l.place
