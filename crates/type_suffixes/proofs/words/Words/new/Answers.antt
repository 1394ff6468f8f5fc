use Rattle.type_suffixes.proofs.Trees.{first_tree, first_spelled}
use Rattle.type_suffixes.proofs.words.Words.new.Goals as goal

pub invariant_of-result : goal.invariant_of-result
invariant_of-result c = first_tree _ _ _ c.new-words.ensures.items c.in_ok-push.ensures.items c.fresh.ensures.end c.fresh.ensures.far c.fresh.ensures.after

pub returns : goal.returns
returns c = first_spelled _ _ _ c.new-words.ensures.items c.in_ok-push.ensures.items
