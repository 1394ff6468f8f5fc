use Rattle.std.proofs.Common.{sym, ◌∙◌, arith}
use Rattle.wasm_machine.proofs.BranchLaws.{choice-asks, choice-labels, choice-goes, choice-last}
use Rattle.wasm_machine.proofs.branches.choose.Goals as goal

pub returns-then-k-answers : goal.returns-then-k-answers
returns-then-k-answers c = sym (c.loop-k.invariant ∙ choice-asks c.args.labels.now c.args.last c.args.answers.now c.loop-k.k (omega (arith, c.loop-k-test.true)) (omega (arith, c.if-k-answers.true)))

pub loop-k-preserved : goal.loop-k-preserved
loop-k-preserved c = c.loop-k.invariant ∙ choice-goes c.args.labels.now c.args.last c.args.answers.now c.loop-k.k c.loop-k-test.true c.if-k-answers.false c.if-answers-k-eq0.false

pub returns : goal.returns
returns c = sym (c.loop-k.invariant ∙ choice-last c.args.labels.now c.args.last c.args.answers.now c.loop-k.k (omega (arith, c.loop-k-test.false)))

pub returns-then-answers-k-eq0 : goal.returns-then-answers-k-eq0
returns-then-answers-k-eq0 c = sym (c.loop-k.invariant ∙ choice-labels c.args.labels.now c.args.last c.args.answers.now c.loop-k.k c.loop-k-test.true c.if-k-answers.false c.if-answers-k-eq0.true)
