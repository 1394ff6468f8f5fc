use Rattle.std.specs.Prelude.{false}
use Rattle.wasm_check.specs.Operands.{operands}
use Rattle.wasm_check.specs.Operators.{arrow}
use Rattle.type_suffixes.specs.Lists.{listed}
use Rattle.wasm_check.specs.code.Runs.{open_seqs}
use Rattle.wasm_check.specs.code.Checker.{opened}
use Rattle.wasm_check.proofs.OpenLemmas.{opens-not, opens-goes}
use Rattle.wasm_check.proofs.open.opens.Goals as goal

pub returns-then-not-take_list : goal.returns-then-not-take_list
returns-then-not-take_list c =
    let types = c.args.scope.now.types in
    opens-not types c.args.o (operands (listed types c.args.params)) (opened (listed types c.args.label) (arrow (listed types c.args.params) (listed types c.args.results)) false) (open_seqs types c.args.seqs.now.items)
    c.if-not-take_list.ensures

pub returns : goal.returns
returns c =
    let types = c.args.scope.now.types in
    opens-goes types c.args.o c.take_list.new.self c.in_ok-stack.stack (operands (listed types c.args.params)) c.args.label c.args.params c.args.results false
    c.args.seqs.now.items c.push.new.self.items c.push-2.new.self.items c.if-not-take_list.ensures c.in_ok-stack.ensures c.in_ok-push.ensures.items c.in_ok-push-2.ensures.items
