use Rattle.std.proofs.Common.{ℕ, ◌<◌}
use Rattle.wasm_check.specs.Modules.{EntryIsValid}
use Rattle.wasm_check.proofs.fields.first_entry.Given as goal

abbrev pub invariant-loop-k : goal.invariant-loop-k
invariant-loop-k l = (j : ℕ) → j < l.k → EntryIsValid l.m l.s j
