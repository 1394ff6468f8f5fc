use Rattle.std.proofs.Common.{◌∙◌, reverse, sym}
use Rattle.wasm_check.specs.code.Runs.{known}
use Rattle.wasm_check.proofs.RunLemmas.{on-none, on-some}
use Rattle.wasm_check.proofs.stack.Stack.add.Goals as goal

pub returns-then-is_gone : goal.returns-then-is_gone
unfolding known
returns-then-is_gone c =
    on-none c.args.scope.now.types c.args.self.now.dead c.args.self.now.last c.args.run (reverse c.args.self.now.below.items) (sym c.is_gone.ensures ∙ c.if-is_gone.true)

pub returns : goal.returns
unfolding known
returns c =
    on-some c.args.scope.now.types c.args.self.now.dead c.args.self.now.last c.args.run c.args.self.now.below.items c.push.new.self.items c.in_ok-push.ensures.items
