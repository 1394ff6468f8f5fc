use Rattle.wasm_check.specs.code.Runs.{open_seqs}
use Rattle.wasm_check.proofs.OpenLemmas.{turns-not, turns-unfinished, turns-goes}
use Rattle.wasm_check.proofs.open.turns.Goals as goal

pub returns-then-not-o : goal.returns-then-not-o
returns-then-not-o c =
    let types = c.args.scope.now.types in turns-not types c.args.o (open_seqs types c.args.seqs.now.items) c.if-not-o.true

pub returns-then-not-finished : goal.returns-then-not-finished
returns-then-not-finished c =
    let types = c.args.scope.now.types in turns-unfinished types c.args.o (open_seqs types c.args.seqs.now.items) c.if-not-o.false c.if-not-finished.ensures

pub returns : goal.returns
returns c =
    turns-goes c.args.scope.now.types c.args.o c.in_ok-stack.stack c.args.seqs.now.items c.push.new.self.items c.if-not-o.false c.if-not-finished.ensures c.in_ok-stack.ensures c.in_ok-push.ensures.items
