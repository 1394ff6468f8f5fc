use Rattle.owi_cmd.proofs.WordsLemmas.{arguments_more}
use Rattle.owi_cmd.proofs.words.arguments.read_arguments.Goals as goal

pub loop-at-preserved : goal.loop-at-preserved
loop-at-preserved c =
    rw c.in_ok-push.ensures.items (arguments_more c.args.words.now c.loop-at.args.items c.loop-at.at _ c.in-Some.value c.loop-at-test.true c.loop-at.invariant c.in-Some.ensures)
