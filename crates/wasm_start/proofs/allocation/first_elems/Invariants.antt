use Rattle.std.proofs.Common.{map}
use Rattle.wasm_reduction.specs.Instantiation.{argument, all_of, reference_in}
use Rattle.wasm_machine.specs.Values.{reference}
use Rattle.wasm_start.proofs.StartLemmas.{Done}
use Rattle.wasm_start.proofs.allocation.first_elems.Given as goal

abbrev pub invariant-loop-elem : goal.invariant-loop-elem
invariant-loop-elem l =
    Done (λ e. all_of (map (reference_in (map argument l.globals)) e.items)) l.m.elems l.elem-index (map (λ t. map reference t.items) l.elems.items)
