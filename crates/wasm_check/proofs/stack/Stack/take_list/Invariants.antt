use Rattle.std.proofs.Common.{◌≡◌, ◌≤◌, length}
use Rattle.wasm_check.specs.declared.stack.Run.TheVariants.{First}
use Rattle.wasm_check.specs.Operands.{operands}
use Rattle.wasm_check.specs.code.Checker.{popped}
use Rattle.type_suffixes.specs.Lists.{listed}
use Rattle.wasm_check.specs.code.Runs.{run_of, known}
use Rattle.wasm_check.proofs.stack.Stack.take_list.Given as goal

-- what was wanted of the stack as it was is still wanted of the present one
abbrev pub invariant-loop-left : goal.invariant-loop-left
invariant-loop-left l =
    (l.left ≤ length (listed l.scope.types l.list))
    × (popped (operands (listed l.scope.types l.list)) (known l.scope.types l.fn.self) ≡ popped (run_of l.scope.types (First l.list l.left)) (known l.scope.types l.self))

abbrev pub decreases-loop-left : goal.decreases-loop-left
decreases-loop-left l = l.left
