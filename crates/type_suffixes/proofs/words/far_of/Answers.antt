use Rattle.type_suffixes.proofs.Trees.{link_link, link_self}
use Rattle.type_suffixes.proofs.words.far_of.Goals as goal

pub returns-then-first-second : goal.returns-then-first-second
returns-then-first-second c = link_link _ _ _ _ c.at-e.ensures.links.far c.at-far.ensures.links.far

pub returns-else-first-second : goal.returns-else-first-second
returns-else-first-second c = link_self _ _ c.requires.within
