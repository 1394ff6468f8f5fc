use Rattle.std.proofs.Common.{false, reverse, ap}
use Rattle.type_suffixes.specs.declared.lists.Listed.TheVariants.{Nothing}
use Rattle.wasm_check.specs.declared.stack.Run.TheVariants.{First}
use Rattle.wasm_check.specs.code.Runs.{held, known}
use Rattle.wasm_check.proofs.stack.Stack.new.Goals as goal

pub returns : goal.returns
unfolding known
returns c = ap (λ l. held c.args._scope.now.types false (First Nothing 0) (reverse l)) c.new.ensures.items
