use Rattle.type_suffixes.proofs.Trees.{pushed_tree, pushed_spelled}
use Rattle.type_suffixes.proofs.words.push.Goals as goal

pub returns-clause-tree : goal.returns-clause-tree
returns-clause-tree c = pushed_tree _ _ _ _ c.in_ok-push.ensures.items c.requires.tree c.fresh.ensures.before c.requires.within c.fresh.ensures.end c.fresh.ensures.far c.fresh.ensures.after

pub returns-clause-spelled : goal.returns-clause-spelled
returns-clause-spelled c = pushed_spelled _ _ _ _ _ c.in_ok-push.ensures.items c.requires.tree c.fresh.ensures.before c.fresh.ensures.last
