use Rattle.std.proofs.Common.{◌≡◌, take}
use Rattle.wasm_check.specs.Operands.{operands}
use Rattle.wasm_check.specs.code.Checker.{onto}
use Rattle.wasm_check.specs.code.Runs.{known}
use Rattle.wasm_check.proofs.stack.Stack.put_all.Given as goal

abbrev pub invariant-loop-t : goal.invariant-loop-t
invariant-loop-t l = known l.scope.types l.self ≡ onto (operands (take l.t-index l.types)) (known l.scope.types l.fn.self)
