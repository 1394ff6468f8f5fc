use Rattle.std.proofs.Common.{map}
use Rattle.wasm_reduction.specs.Instantiation.{argument}
use Rattle.wasm_start.proofs.StartLemmas.{GlobalsSoFar}
use Rattle.wasm_start.proofs.allocation.first_globals.Given as goal

abbrev pub invariant-loop-global : goal.invariant-loop-global
invariant-loop-global l = GlobalsSoFar l.m.globals l.global-index (map argument l.globals.items)
