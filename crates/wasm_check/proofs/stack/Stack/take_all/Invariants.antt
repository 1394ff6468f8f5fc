use Rattle.std.proofs.Common.{◌≡◌, take}
use Rattle.wasm_check.specs.Operands.{operands}
use Rattle.wasm_check.specs.code.Checker.{popped}
use Rattle.wasm_check.specs.code.Runs.{known}
use Rattle.wasm_check.proofs.stack.Stack.take_all.Given as goal

abbrev pub invariant-loop-i : goal.invariant-loop-i
invariant-loop-i l = popped (operands l.types) (known l.scope.types l.fn.self) ≡ popped (operands (take l.i l.types)) (known l.scope.types l.self)
