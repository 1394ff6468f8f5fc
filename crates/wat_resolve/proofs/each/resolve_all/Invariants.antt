use Rattle.std.proofs.Common.{◌≡◌, take, map}
use Rattle.std.specs.Prelude.{flat_map}
use Rattle.wat_resolve.specs.code.Noting.{noted}
use Rattle.wat_resolve.proofs.each.resolve_all.Given as goal

abbrev pub invariant-loop-entry : goal.invariant-loop-entry
invariant-loop-entry g l =
    (l.made ≡ map (g.T.Entry.meaning l.inside) (take l.entry-index l.entries))
    × (l.found ≡ noted (flat_map (g.T.Entry.faults l.inside) (take l.entry-index l.entries)) l.initial.found)
