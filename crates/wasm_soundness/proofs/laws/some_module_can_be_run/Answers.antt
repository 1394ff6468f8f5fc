use Rattle.wasm_soundness.proofs.Examples.{sum-can-be-run, sum-takes-nothing}
use Rattle.wasm_soundness.proofs.laws.some_module_can_be_run.Goals as goal

pub returns-clause-can : goal.returns-clause-can
returns-clause-can c = sum-can-be-run

pub returns-clause-fit : goal.returns-clause-fit
returns-clause-fit c = sum-takes-nothing
