use Rattle.type_suffixes.proofs.Trees.{tree_set}
use Rattle.type_suffixes.proofs.words.put.Goals as goal

pub returns-clause-tree : goal.returns-clause-tree
returns-clause-tree c = (tree_set c.args.words.now.items c.args.k c.args.w c.requires.tree c.requires.within c.requires.same c.requires.links).0

pub returns-clause-spelled : goal.returns-clause-spelled
returns-clause-spelled c = (tree_set c.args.words.now.items c.args.k c.args.w c.requires.tree c.requires.within c.requires.same c.requires.links).1
