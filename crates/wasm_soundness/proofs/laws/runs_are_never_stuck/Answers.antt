use Rattle.wasm_soundness.proofs.Runs.{run-unstuck}
use Rattle.wasm_soundness.proofs.laws.runs_are_never_stuck.Goals as goal

pub returns : goal.returns
returns g c = λ m entry args draw reply steps n can h. run-unstuck g.A.Algebra.kind draw reply m entry args steps n can h
