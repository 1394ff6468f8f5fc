use Rattle.std.proofs.Common.{◌≡◌, length}
use Rattle.wasm_check.specs.code.Runs.{peeked}
use Rattle.wasm_check.proofs.stack.Peek.settle.Given as goal

abbrev pub invariant-loop-run : goal.invariant-loop-run
invariant-loop-run l = peeked l.scope.types l.self ≡ peeked l.scope.types l.fn.self

abbrev pub decreases-loop-run : goal.decreases-loop-run
decreases-loop-run l = length l.self.below.now
