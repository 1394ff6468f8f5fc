use Rattle.bit_blast.proofs.FormulaLemmas.{variables-next}
use Rattle.bit_blast.proofs.formulas.put_variables.Goals as goal

pub loop-i-preserved : goal.loop-i-preserved
loop-i-preserved c =
    variables-next c.loop-i.order c.push.new.self _ c.args.from c.loop-i.i c.args.count c.loop-i-test.true c.in_ok-push.ensures.ok c.loop-i.invariant
