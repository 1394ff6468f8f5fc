use Rattle.std.specs.Prelude.{◌∷◌, true, Some, None}
use Rattle.wasm_ast.specs.declared.types.ValType.TheVariants.{I32}
use Rattle.wasm_check.specs.declared.operands.Operand.TheVariants.{Of}
use Rattle.wasm_check.specs.Operands.{operands}
use Rattle.wasm_check.specs.Operators.{arrow}
use Rattle.type_suffixes.specs.Lists.{listed}
use Rattle.wasm_check.specs.code.Runs.{known, open_seqs}
use Rattle.wasm_check.specs.code.Checker.{opened}
use Rattle.wasm_check.proofs.OpenLemmas.{opens-not, opens-goes, first-not, first-taken}
use Rattle.wasm_check.proofs.open.opens_if.Goals as goal

pub returns-then-not-take : goal.returns-then-not-take
returns-then-not-take c =
    let types = c.args.scope.now.types in
    opens-not types c.args.o (Of I32 ∷ operands (listed types c.args.params)) (opened (listed types c.args.results) (arrow (listed types c.args.params) (listed types c.args.results)) true) (open_seqs types c.args.seqs.now.items)
    (first-not types c.args.o I32 (operands (listed types c.args.params)) c.if-not-take.ensures)

pub returns-then-not-take_list : goal.returns-then-not-take_list
returns-then-not-take_list c =
    let types = c.args.scope.now.types in
    opens-not types c.args.o (Of I32 ∷ operands (listed types c.args.params)) (opened (listed types c.args.results) (arrow (listed types c.args.params) (listed types c.args.results)) true) (open_seqs types c.args.seqs.now.items)
    (first-taken types c.args.o I32 (operands (listed types c.args.params)) (known types c.take.new.self) None c.if-not-take.ensures c.if-not-take_list.ensures)

pub returns : goal.returns
returns c =
    let types = c.args.scope.now.types in
    opens-goes types c.args.o c.take_list.new.self c.in_ok-stack.stack (Of I32 ∷ operands (listed types c.args.params)) c.args.results c.args.params c.args.results true
    c.args.seqs.now.items c.push.new.self.items c.push-2.new.self.items
    (first-taken types c.args.o I32 (operands (listed types c.args.params)) (known types c.take.new.self) (Some (known types c.take_list.new.self)) c.if-not-take.ensures c.if-not-take_list.ensures)
    c.in_ok-stack.ensures c.in_ok-push.ensures.items c.in_ok-push-2.ensures.items
