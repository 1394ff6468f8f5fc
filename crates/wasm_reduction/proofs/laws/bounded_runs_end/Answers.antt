use Rattle.wasm_reduction.proofs.OneRun.{comes-to-an-end, one-run}
use Rattle.wasm_reduction.proofs.laws.bounded_runs_end.Goals as goal

pub returns-clause-ends : goal.returns-clause-ends
returns-clause-ends c = comes-to-an-end

pub returns-clause-one : goal.returns-clause-one
returns-clause-one c = one-run
