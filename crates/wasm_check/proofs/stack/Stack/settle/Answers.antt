use Rattle.std.proofs.Common.{◌∙◌, reverse, sym, ap}
use Rattle.std.proofs.lemmas.List.{append-nil}
use Rattle.wasm_check.specs.code.Runs.{held, known}
use Rattle.wasm_check.proofs.RunLemmas.{brought-up, none-left, known-none}
use Rattle.wasm_check.proofs.stack.Stack.settle.Goals as goal

pub returns-in-None-clause-same : goal.returns-in-None-clause-same
unfolding known
returns-in-None-clause-same c =
    ap (λ l. held c.args.scope.now.types c.loop-self.self.dead c.loop-self.self.last (reverse l)) (sym (c.in-None.ensures.items ∙ append-nil c.pop.new.self.items))
    ∙ c.loop-self.invariant

pub returns-in-None-clause-bare : goal.returns-in-None-clause-bare
returns-in-None-clause-bare c =
    known-none c.args.scope.now.types (record { dead = c.loop-self.self.dead; below = c.pop.new.self; last = c.loop-self.self.last })
    (none-left c.pop.new.self.items c.pop.new.self.len c.pop.new.self.ok.0 c.in-None.ensures.cases.1)

pub loop-self-preserved : goal.loop-self-preserved
unfolding known
loop-self-preserved c =
    brought-up c.args.scope.now.types c.loop-self.self.dead c.loop-self.self.last c.in-Some.run' c.loop-self.self.below.items c.pop.new.self.items c.in-Some.ensures.items (sym c.is_gone.ensures ∙ c.loop-self-test.true)
    ∙ c.loop-self.invariant
