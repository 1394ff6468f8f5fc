use Rattle.refute_check.proofs.Sets.{join_none, join_more, join_skips}
use Rattle.refute_check.proofs.resolution.join.Goals as goal
use Rattle.refute_check.proofs.resolution.join.Goals.{then-found-negation+in_ok-insert, else-found-negation}

pub loop-found-init : goal.loop-found-init
loop-found-init c = join_none c.args.literals.now c.remove.new.self c.args.literal c.args.negation c.remove.ensures.updates

pub loop-found-preserved : goal.loop-found-preserved
loop-found-preserved c = elim c.if-found-negation.branch [
  | then-found-negation+in_ok-insert w ↦ rw w.literals-is (join_more c.loop-found.literals w.insert.new.self c.args.literal c.args.negation c.args.literals.now.keys c.args.other.now c.loop-found.found-index c.loop-found-test.true w.if-found-negation.true c.loop-found.invariant w.in_ok-insert.ensures.updates)
  | else-found-negation w ↦ rw w.literals-is (join_skips c.loop-found.literals.keys c.args.literal c.args.negation c.args.literals.now.keys c.args.other.now c.loop-found.found-index c.loop-found-test.true w.if-found-negation.false c.loop-found.invariant)
]
