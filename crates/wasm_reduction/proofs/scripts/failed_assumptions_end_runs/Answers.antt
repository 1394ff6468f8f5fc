use Rattle.std.proofs.Common.{refl}
use Rattle.wasm_reduction.proofs.ScriptEnds.{failed, kept}
use Rattle.wasm_reduction.proofs.scripts.failed_assumptions_end_runs.Goals as goal

pub returns-clause-failed : goal.returns-clause-failed
returns-clause-failed c = λ m entry args input steps s rest answers draws h e. failed m entry args input steps (λ q v. Unit {0}) answers s rest 0 draws h e refl

pub returns-clause-kept : goal.returns-clause-kept
returns-clause-kept c = λ m entry args input steps s answers outcome draws h e. kept m entry args input steps answers s outcome draws h e
