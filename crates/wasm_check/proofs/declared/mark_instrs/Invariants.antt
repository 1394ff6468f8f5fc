use Rattle.std.proofs.Common.{take}
use Rattle.std.specs.List.{list_any}
use Rattle.wasm_check.specs.Contexts.{is_ref_of}
use Rattle.wasm_check.specs.code.Sections.{Marks}
use Rattle.wasm_check.proofs.declared.mark_instrs.Given as goal

abbrev pub invariant-loop-instr : goal.invariant-loop-instr
invariant-loop-instr l = Marks l.initial.flags l.flags (λ x. list_any (is_ref_of x) (take l.instr-index l.instrs))
