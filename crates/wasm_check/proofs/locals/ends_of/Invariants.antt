use Rattle.std.proofs.Common.{◌≡◌, take}
use Rattle.std.specs.Prelude.{sum_by}
use Rattle.wasm_check.specs.code.Sections.{AreEnds}
use Rattle.wasm_check.proofs.locals.ends_of.Given as goal

abbrev pub invariant-loop-group : goal.invariant-loop-group
invariant-loop-group l =
    (l.end ≡ sum_by (λ g. g.count) (take l.group-index l.groups)) × AreEnds l.groups l.group-index l.ends.items
