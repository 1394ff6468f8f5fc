use Rattle.std.proofs.Common.{map}
use Rattle.std.specs.Prelude.{option_map, replicate}
use Rattle.wasm_reduction.specs.Tables.{null_of}
use Rattle.wasm_machine.specs.Values.{reference}
use Rattle.wasm_start.proofs.StartLemmas.{Done}
use Rattle.wasm_start.proofs.allocation.first_tables.Given as goal

abbrev pub invariant-loop-ty : goal.invariant-loop-ty
invariant-loop-ty l =
    Done (λ t. option_map (replicate t.limits.min) (null_of t.kind)) l.m.tables l.ty-index (map (λ t. map reference t.items) l.tables.items)
