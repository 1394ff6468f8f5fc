use Rattle.std.proofs.Common.{◌∙◌, length, refl, sym}
use Rattle.wasm_check.specs.code.Runs.{peeked}
use Rattle.wasm_check.proofs.RunLemmas.{brought-up, none-left, peeked-none}
use Rattle.wasm_check.proofs.stack.Peek.settle.Goals as goal

pub returns-in-None-clause-bare : goal.returns-in-None-clause-bare
returns-in-None-clause-bare c =
    peeked-none c.args.scope.now.types c.loop-run.self (none-left c.loop-run.self.below.now (length c.loop-run.self.below.now) refl c.in-None.ensures.cases)

pub loop-run-preserved : goal.loop-run-preserved
unfolding peeked
loop-run-preserved c =
    brought-up c.args.scope.now.types c.loop-run.self.dead c.loop-run.self.last c.in-Some.run'.now c.loop-run.self.below.now c.in-Some.rest.now c.in-Some.ensures.cases.0 (sym c.is_gone.ensures ∙ c.loop-run-test.true)
    ∙ c.loop-run.invariant
