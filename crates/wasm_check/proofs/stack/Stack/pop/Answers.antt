use Rattle.wasm_check.specs.code.Runs.{known}
use Rattle.wasm_check.proofs.RunLemmas.{known-pop, pop-base}
use Rattle.wasm_check.proofs.stack.Stack.pop.Goals as goal

pub returns-in-None : goal.returns-in-None
unfolding known
returns-in-None c =
    pop-base (known c.args.scope.now.types c.settle.new.self) (known c.args.scope.now.types c.args.self.now) c.base.result c.settle.ensures.same (c.settle.ensures.bare c.in-None.ensures) c.base.ensures

pub returns-in-Some : goal.returns-in-Some
returns-in-Some c =
    known-pop c.args.scope.now.types c.settle.new.self c.in-Some.rest c.in-Some.t (known c.args.scope.now.types c.args.self.now) c.settle.ensures.same c.in-Some.ensures
