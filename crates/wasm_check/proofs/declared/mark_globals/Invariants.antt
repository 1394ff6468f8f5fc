use Rattle.std.proofs.Common.{take}
use Rattle.std.specs.List.{list_any}
use Rattle.wasm_check.specs.Contexts.{refers_to}
use Rattle.wasm_check.specs.code.Sections.{Marks}
use Rattle.wasm_check.proofs.declared.mark_globals.Given as goal

abbrev pub invariant-loop-g : goal.invariant-loop-g
invariant-loop-g l = Marks l.initial.flags l.flags (λ x. list_any (λ g. refers_to x g.init) (take l.g-index l.globals))
