use Rattle.std.proofs.Common.{◌≡◌, ◌≤◌, drop, length}
use Rattle.type_suffixes.specs.Lists.{listed}
use Rattle.wasm_check.specs.code.Runs.{known, peeked}
use Rattle.wasm_check.proofs.stack.Stack.decisive.Given as goal

-- the operands of the runs so far are counted, and the others are those that are left
abbrev pub invariant-loop-run : goal.invariant-loop-run
invariant-loop-run l =
    (l.count ≤ length (listed l.scope.types l.fn.list)) × (drop l.count (known l.scope.types l.self).ops ≡ (peeked l.scope.types l.rest).ops)

abbrev pub decreases-loop-run : goal.decreases-loop-run
decreases-loop-run l = length l.rest.below.now
