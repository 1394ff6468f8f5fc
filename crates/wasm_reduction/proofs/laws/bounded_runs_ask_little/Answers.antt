use Rattle.wasm_reduction.proofs.ShortModules.{few-answers-law}
use Rattle.wasm_reduction.proofs.laws.bounded_runs_ask_little.Goals as goal

pub returns : goal.returns
returns c = few-answers-law
