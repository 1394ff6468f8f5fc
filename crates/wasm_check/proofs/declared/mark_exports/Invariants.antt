use Rattle.std.proofs.Common.{take}
use Rattle.std.specs.List.{list_any}
use Rattle.wasm_check.specs.Contexts.{exports_func}
use Rattle.wasm_check.specs.code.Sections.{Marks}
use Rattle.wasm_check.proofs.declared.mark_exports.Given as goal

abbrev pub invariant-loop-export : goal.invariant-loop-export
invariant-loop-export l = Marks l.initial.flags l.flags (λ x. list_any (exports_func x) (take l.export-index l.exports))
