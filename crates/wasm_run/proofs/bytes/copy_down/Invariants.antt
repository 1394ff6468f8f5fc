use Rattle.std.proofs.Common.{◌≡◌, ◌≤◌, ◌+◌, ◌-◌, length}
use Rattle.wasm_reduction.specs.Combinators.{part}
use Rattle.wasm_run.specs.code.Pages.{Writes, cells_of}
use Rattle.wasm_run.proofs.bytes.copy_down.Given as goal

abbrev pub invariant-loop-left : goal.invariant-loop-left
invariant-loop-left l =
    (l.left ≤ l.count) × (length l.pages ≡ length l.initial.pages)
    × Writes l.initial.pages (l.to + l.left) (part (l.from + l.left) (l.count - l.left) (cells_of l.initial.pages)) l.pages

abbrev pub decreases-loop-left : goal.decreases-loop-left
decreases-loop-left l = l.left
