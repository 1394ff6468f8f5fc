use Rattle.std.proofs.Common.{◌≡◌, ◌≤◌, ◌-◌, length, take, drop}
use Rattle.wasm_run.specs.code.Pages.{cells_of}
use Rattle.wasm_run.proofs.bytes.read.Given as goal

abbrev pub invariant-loop-done : goal.invariant-loop-done
invariant-loop-done l =
    (l.done ≤ length l.initial.out) × (length l.out ≡ length l.initial.out) × (take l.done l.out ≡ take l.done (drop l.at (cells_of l.pages)))

abbrev pub decreases-loop-done : goal.decreases-loop-done
decreases-loop-done l = length l.initial.out - l.done
