use Rattle.std.proofs.Common.{ℕ, ◌<◌}
use Rattle.wasm_check.specs.declared.sections.Section.TheVariants.{Code}
use Rattle.wasm_check.specs.Modules.{EntryIsValid}
use Rattle.wasm_check.proofs.functions.first_body.Given as goal

abbrev pub invariant-loop-k : goal.invariant-loop-k
invariant-loop-k l = (j : ℕ) → j < l.k → EntryIsValid l.m Code j
