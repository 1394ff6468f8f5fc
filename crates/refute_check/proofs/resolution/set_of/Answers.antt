use Rattle.refute_check.proofs.Sets.{set_more}
use Rattle.refute_check.proofs.resolution.set_of.Goals as goal

pub loop-literal-preserved : goal.loop-literal-preserved
loop-literal-preserved c = set_more c.loop-literal.literals c.insert.new.self c.args.clause.now c.loop-literal.literal-index c.loop-literal-test.true c.loop-literal.invariant c.in_ok-insert.ensures.updates
