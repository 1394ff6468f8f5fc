use Rattle.bit_blast.proofs.ClauseLoops.{put_once-next}
use Rattle.bit_blast.proofs.gates.distinct.Goals as goal

pub loop-literal-preserved : goal.loop-literal-preserved
loop-literal-preserved c =
    put_once-next c.loop-literal.clause _ c.args.literals.now c.loop-literal.literal-index c.loop-literal-test.true c.loop-literal.invariant c.in_ok-put_once.ensures
