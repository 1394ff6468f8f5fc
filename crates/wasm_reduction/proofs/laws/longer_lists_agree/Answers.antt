use Rattle.wasm_reduction.proofs.ListedRuns.{runs-longer}
use Rattle.wasm_reduction.proofs.laws.longer_lists_agree.Goals as goal

pub returns : goal.returns
returns g c = λ draw m entry args steps n answers more x h e. runs-longer g.W.Words.kind draw m entry args steps n answers more x h e
