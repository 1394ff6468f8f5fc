use Rattle.wasm_reduction.proofs.ScriptRuns.{script-told}
use Rattle.wasm_reduction.proofs.ScriptLaws.{script-of, one-script}
use Rattle.wasm_reduction.proofs.scripts.bounded_runs_have_scripts.Goals as goal

pub returns-clause-scripts : goal.returns-clause-scripts
returns-clause-scripts c = script-of

pub returns-clause-one : goal.returns-clause-one
returns-clause-one c = one-script

pub returns-clause-runs : goal.returns-clause-runs
returns-clause-runs c = script-told
