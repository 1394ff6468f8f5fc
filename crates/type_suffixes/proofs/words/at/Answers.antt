use Rattle.type_suffixes.proofs.Trees.{at_is, at_links}
use Rattle.type_suffixes.proofs.words.at.Goals as goal

pub returns-clause-is : goal.returns-clause-is
returns-clause-is c = at_is c.args.words.now.items c.args.k c.index.result.now c.requires.tree c.requires.within c.index.ensures

pub returns-clause-links : goal.returns-clause-links
returns-clause-links c = at_links c.args.words.now.items c.args.k c.index.result.now c.requires.tree c.requires.within c.index.ensures
