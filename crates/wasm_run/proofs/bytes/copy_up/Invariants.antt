use Rattle.std.proofs.Common.{◌≡◌, ◌≤◌, ◌-◌, length}
use Rattle.wasm_reduction.specs.Combinators.{part}
use Rattle.wasm_run.specs.code.Pages.{Writes, cells_of}
use Rattle.wasm_run.proofs.bytes.copy_up.Given as goal

abbrev pub invariant-loop-done : goal.invariant-loop-done
invariant-loop-done l = (l.done ≤ l.count) × (length l.pages ≡ length l.initial.pages) × Writes l.initial.pages l.to (part l.from l.done (cells_of l.initial.pages)) l.pages

abbrev pub decreases-loop-done : goal.decreases-loop-done
decreases-loop-done l = l.count - l.done
