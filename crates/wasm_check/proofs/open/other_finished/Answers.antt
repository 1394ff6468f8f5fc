use Rattle.wasm_check.proofs.OpenLemmas.{no-other, other-as}
use Rattle.wasm_check.proofs.open.other_finished.Goals as goal

pub returns-then-not-o : goal.returns-then-not-o
returns-then-not-o c = no-other c.args.scope.now.types c.args.o.now c.if-not-o.true

pub returns : goal.returns
returns c = other-as c.args.scope.now.types c.args.o.now c.in_ok-stack.stack c.finished.result c.if-not-o.false c.in_ok-stack.ensures c.finished.ensures
