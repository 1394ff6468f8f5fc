use Rattle.std.proofs.Common.{take}
use Rattle.std.specs.List.{list_any}
use Rattle.wasm_check.specs.Contexts.{refers_to}
use Rattle.wasm_check.specs.code.Sections.{Marks}
use Rattle.wasm_check.proofs.declared.mark_exprs.Given as goal

abbrev pub invariant-loop-e : goal.invariant-loop-e
invariant-loop-e l = Marks l.initial.flags l.flags (λ x. list_any (refers_to x) (take l.e-index l.items))
