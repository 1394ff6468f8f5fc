use Rattle.wasm_reduction.proofs.ScriptLaws.{script-of, one-script}
use Rattle.wasm_soundness.proofs.Runs.{has-one-run, results-typed}
use Rattle.wasm_soundness.proofs.laws.bounded_runs_are_one.Goals as goal

pub returns-clause-one : goal.returns-clause-one
returns-clause-one c = has-one-run

pub returns-clause-types : goal.returns-clause-types
returns-clause-types c = results-typed

pub returns-clause-script : goal.returns-clause-script
returns-clause-script c = λ m entry args input steps can fit.
    let one = has-one-run m entry args input steps can fit in
    let script = script-of m entry args input steps one.run one.is_run in
    record { script = script.0; is_script = script.1; only = λ other h. one-script m entry args input steps other script.0 h script.1 }
