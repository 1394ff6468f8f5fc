use Rattle.wasm_reduction.proofs.ListedRuns.{runs-listed, runs-there, runs-ask}
use Rattle.wasm_reduction.proofs.laws.bounded_runs_are_listed.Goals as goal

pub returns-clause-so_far : goal.returns-clause-so_far
returns-clause-so_far c = runs-listed

pub returns-clause-there : goal.returns-clause-there
returns-clause-there c = runs-there

pub returns-clause-asks : goal.returns-clause-asks
returns-clause-asks c = runs-ask
