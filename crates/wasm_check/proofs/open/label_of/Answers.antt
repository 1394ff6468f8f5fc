use Rattle.wasm_check.proofs.RunLemmas.{label-none, label-some}
use Rattle.wasm_check.proofs.open.label_of.Goals as goal

pub returns-then-k-outer : goal.returns-then-k-outer
returns-then-k-outer c = label-none c.args._scope.now.types c.args.own c.args.outer.now c.args.k c.if-k-eq0.false c.if-k-outer.true

pub returns : goal.returns
returns c =
    label-some c.args._scope.now.types c.args.own c.args.outer.now c.args.k c.index-outer-outer.result c.if-k-eq0.false c.if-k-outer.false c.index-outer-outer.is
