use Rattle.std.proofs.Common.{true, reverse, ap}
use Rattle.type_suffixes.specs.declared.lists.Listed.TheVariants.{Nothing}
use Rattle.wasm_check.specs.declared.stack.Run.TheVariants.{First}
use Rattle.wasm_check.specs.code.Runs.{held, known}
use Rattle.wasm_check.proofs.stack.Stack.kill.Goals as goal

pub returns : goal.returns
unfolding known
returns c = ap (λ l. held c.args._scope.now.types true (First Nothing 0) (reverse l)) c.clear.ensures.items
