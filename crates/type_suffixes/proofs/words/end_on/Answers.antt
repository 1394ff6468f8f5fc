use Rattle.type_suffixes.proofs.Trees.{link_zero, end_on_link}
use Rattle.type_suffixes.proofs.words.end_on.Goals as goal

pub returns-then-from-eq0 : goal.returns-then-from-eq0
returns-then-from-eq0 c = link_zero _ _ c.requires.tree

pub returns : goal.returns
returns c = end_on_link _ _ _ _ _ _ c.at-end.ensures.links.end c.at.ensures.links c.leads_to.ensures
