use Rattle.std.proofs.Common.{◌≡◌, drop}
use Rattle.wasm_check.specs.code.Checker.{each_fits}
use Rattle.wasm_check.specs.code.Carried.{SeenPass}
use Rattle.type_suffixes.specs.Lists.{listed}
use Rattle.wasm_check.specs.code.Runs.{known, labels_in}
use Rattle.wasm_check.proofs.open.each.Given as goal

-- what the labels so far don't decide is left to the others, and what was seen can be carried
abbrev pub invariant-loop-k : goal.invariant-loop-k
invariant-loop-k l =
    let ls = labels_in l.scope.types l.own l.outer in
    let own = listed l.scope.types l.wanted in
    let s = known l.scope.types l.s in
    (each_fits ls own l.labels s.dead s.ops ≡ each_fits ls own (drop l.k-index l.labels) s.dead s.ops)
    × SeenPass l.scope.types own s l.seen
