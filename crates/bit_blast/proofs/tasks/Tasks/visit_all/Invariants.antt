use Rattle.std.proofs.Common.{◌≡◌, ◌≤◌, ◌++◌, drop, length}
use Rattle.bit_blast.specs.code.Tasks.{visits}
use Rattle.bit_blast.proofs.tasks.Tasks.visit_all.Given as goal

abbrev pub invariant-loop-left : goal.invariant-loop-left
invariant-loop-left l = (l.left ≤ length l.words) × (l.self ≡ visits (drop l.left l.words) ++ l.fn.self)

abbrev pub decreases-loop-left : goal.decreases-loop-left
decreases-loop-left l = l.left
