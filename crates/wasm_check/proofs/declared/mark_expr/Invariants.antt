use Rattle.std.proofs.Common.{take}
use Rattle.std.specs.List.{list_any}
use Rattle.wasm_check.specs.Contexts.{is_ref_of}
use Rattle.wasm_check.specs.code.Sections.{Marks}
use Rattle.wasm_check.proofs.declared.mark_expr.Given as goal

abbrev pub invariant-loop-instrs : goal.invariant-loop-instrs
invariant-loop-instrs l = Marks l.initial.flags l.flags (λ x. list_any (λ instrs. list_any (is_ref_of x) instrs) (take l.instrs-index l.instrs-items))
