use Rattle.type_suffixes.proofs.NamedLists.{naming-more}
use Rattle.type_suffixes.proofs.lists.Lists.new.Goals as goal

pub invariant_of-result : goal.invariant_of-result
invariant_of-result c = (c.loop-x.invariant.of_takes, c.loop-x.invariant.of_gives)

pub loop-x-preserved : goal.loop-x-preserved
loop-x-preserved c =
    naming-more c.args.types.now c.loop-x.x c.loop-x.takes.items c.loop-x.gives.items c.in_ok-name.name c.in_ok-name-2.name c.push.new.self.items c.push-in-loop-x.new.self.items
    c.in_ok-push.ensures.items c.in_ok-push-2.ensures.items c.in_ok-name.ensures c.in_ok-name-2.ensures c.loop-x.invariant
