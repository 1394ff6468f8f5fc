use Rattle.std.proofs.Common.{ℕ, ◌<◌}
use Rattle.wasm_check.specs.declared.sections.Section.TheVariants.{Exports}
use Rattle.wasm_check.specs.Modules.{EntryIsValid}
use Rattle.wasm_check.proofs.NameLemmas.{HoldsNames}
use Rattle.wasm_check.proofs.exports.first_invalid_export.Given as goal

abbrev pub invariant-loop-k : goal.invariant-loop-k
invariant-loop-k l = ((j : ℕ) → j < l.k → EntryIsValid l.m Exports j) × HoldsNames l.m l.k l.names
