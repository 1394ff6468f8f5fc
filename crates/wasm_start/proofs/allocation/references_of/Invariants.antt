use Rattle.std.proofs.Common.{map}
use Rattle.wasm_reduction.specs.Instantiation.{argument, reference_in}
use Rattle.wasm_machine.specs.Values.{reference}
use Rattle.wasm_start.proofs.StartLemmas.{Done}
use Rattle.wasm_start.proofs.allocation.references_of.Given as goal

abbrev pub invariant-loop-item : goal.invariant-loop-item
invariant-loop-item l = Done (reference_in (map argument l.globals)) l.items l.item-index (map reference l.references.items)
