use Rattle.std.proofs.Common.{◌≡◌, ◌≤◌, ◌-◌, length, replicate}
use Rattle.wasm_run.specs.code.Pages.{Writes}
use Rattle.wasm_run.proofs.bytes.fill.Given as goal

abbrev pub invariant-loop-done : goal.invariant-loop-done
invariant-loop-done l = (l.done ≤ l.count) × (length l.pages ≡ length l.initial.pages) × Writes l.initial.pages l.at (replicate l.done l.byte) l.pages

abbrev pub decreases-loop-done : goal.decreases-loop-done
decreases-loop-done l = l.count - l.done
