use Rattle.std.proofs.Common.{◌≡◌, map, reverse}
use Rattle.type_suffixes.proofs.NamedLists.{Placing}
use Rattle.type_suffixes.proofs.ends.Ends.new.Given as goal

abbrev pub invariant-loop-x : goal.invariant-loop-x
invariant-loop-x l = Placing l.lists l.x l.endings l.taken.items l.given.items × (l.backward ≡ map (λ types. reverse types) l.endings)
