use Rattle.std.proofs.Common.{◌∙◌}
use Rattle.wasm_check.specs.code.Runs.{peeked}
use Rattle.wasm_check.proofs.RunLemmas.{peeked-is-none}
use Rattle.wasm_check.proofs.stack.Peek.is_empty.Goals as goal

pub returns : goal.returns
returns c = c.is_gone.ensures ∙ peeked-is-none c.args.scope.now.types c.settle.new.self (peeked c.args.scope.now.types c.args.self.now) c.settle.ensures.same c.settle.ensures.bare
