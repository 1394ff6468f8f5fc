use Rattle.std.proofs.Common.{◌≡◌}
use Rattle.type_suffixes.specs.code.Links.{spelled, IsTree}
use Rattle.type_suffixes.proofs.words.link_all.Given as goal

abbrev pub invariant-loop-i : goal.invariant-loop-i
invariant-loop-i l = IsTree l.words.items × (spelled l.words.items ≡ spelled l.fn.words.items)
