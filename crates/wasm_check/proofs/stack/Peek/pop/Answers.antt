use Rattle.wasm_check.specs.code.Runs.{peeked}
use Rattle.wasm_check.proofs.RunLemmas.{peeked-pop, pop-base}
use Rattle.wasm_check.proofs.stack.Peek.pop.Goals as goal

pub returns-in-None : goal.returns-in-None
unfolding peeked
returns-in-None c =
    pop-base (peeked c.args.scope.now.types c.settle.new.self) (peeked c.args.scope.now.types c.args.self.now) c.base.result c.settle.ensures.same (c.settle.ensures.bare c.in-None.ensures) c.base.ensures

pub returns-in-Some : goal.returns-in-Some
returns-in-Some c =
    peeked-pop c.args.scope.now.types c.settle.new.self c.in-Some.rest c.in-Some.t (peeked c.args.scope.now.types c.args.self.now) c.settle.ensures.same c.in-Some.ensures
