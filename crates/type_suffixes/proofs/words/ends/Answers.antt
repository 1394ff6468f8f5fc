use Rattle.type_suffixes.proofs.Trees.{step_link}
use Rattle.type_suffixes.proofs.words.ends.Goals as goal

pub loop-turn-preserved : goal.loop-turn-preserved
loop-turn-preserved c = step_link _ _ _ _ _ c.loop-turn.invariant c.at-w.ensures.links c.step-here.ensures
