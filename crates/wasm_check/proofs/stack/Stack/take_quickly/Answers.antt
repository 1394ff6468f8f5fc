use Rattle.std.proofs.Common.{reverse, sym, ap, ◌∙◌}
use Rattle.wasm_check.specs.declared.stack.Run.TheVariants.{First}
use Rattle.wasm_check.specs.code.Runs.{run_of, runs_of, known}
use Rattle.wasm_check.specs.code.Checker.{popped}
use Rattle.wasm_check.proofs.RunLemmas.{all-at-once}
use Rattle.wasm_check.proofs.stack.Stack.take_quickly.Goals as goal

pub returns-then-is_gone-clause-same : goal.returns-then-is_gone-clause-same
unfolding known
returns-then-is_gone-clause-same c =
    let types = c.args.scope.now.types in
    all-at-once (run_of types (First c.args.list c.args.left)) (run_of types c.settle.new.self.last) (known types c.settle.new.self) (known types c.args.self.now)
    (sym c.is_gone.ensures ∙ c.if-is_gone.true) c.settle.ensures.same c.if-self.true c.settle.ensures.bare

pub returns-clause-same : goal.returns-clause-same
unfolding known
returns-clause-same c =
    let types = c.args.scope.now.types in
    ap (popped (run_of types (First c.args.list c.args.left))) (sym c.settle.ensures.same)
    ∙ c.meet-last.ensures.same c.settle.new.self.dead (runs_of types (reverse c.settle.new.self.below.items))
