use Rattle.std.proofs.Common.{◌+◌}
use Rattle.wasm_check.specs.Faults.{ValidBelow}
use Rattle.wasm_check.proofs.checked.front_fault.Given as goal

abbrev pub invariant-loop-s : goal.invariant-loop-s
invariant-loop-s l = ValidBelow l.m (l.s-index + 2)
