use Rattle.std.proofs.Common.{◌≡◌, length}
use Rattle.wasm_check.specs.code.Runs.{known}
use Rattle.wasm_check.proofs.stack.Stack.settle.Given as goal

abbrev pub invariant-loop-self : goal.invariant-loop-self
invariant-loop-self l = known l.scope.types l.self ≡ known l.scope.types l.fn.self

abbrev pub decreases-loop-self : goal.decreases-loop-self
decreases-loop-self l = length l.self.below.items
