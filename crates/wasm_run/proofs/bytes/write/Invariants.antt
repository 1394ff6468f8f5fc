use Rattle.std.proofs.Common.{◌≡◌, ◌≤◌, ◌-◌, length, take}
use Rattle.wasm_run.specs.code.Pages.{Writes}
use Rattle.wasm_run.proofs.bytes.write.Given as goal

abbrev pub invariant-loop-done : goal.invariant-loop-done
invariant-loop-done l = (l.done ≤ length l.bytes) × (length l.pages ≡ length l.initial.pages) × Writes l.initial.pages l.at (take l.done l.bytes) l.pages

abbrev pub decreases-loop-done : goal.decreases-loop-done
decreases-loop-done l = length l.bytes - l.done
