use Rattle.type_suffixes.proofs.NamedLists.{Naming}
use Rattle.type_suffixes.proofs.lists.Lists.new.Given as goal

abbrev pub invariant-loop-x : goal.invariant-loop-x
invariant-loop-x l = Naming l.types l.x l.takes.items l.gives.items
