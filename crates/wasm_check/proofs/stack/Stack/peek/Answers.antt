use Rattle.std.proofs.Common.{reverse, ap}
use Rattle.wasm_check.specs.code.Runs.{held, known, peeked}
use Rattle.wasm_check.proofs.stack.Stack.peek.Goals as goal

pub returns : goal.returns
unfolding known peeked
returns c = ap (λ l. held c.args._scope.now.types c.args.self.now.dead c.args.self.now.last (reverse l)) c.as_slice.ensures.value
