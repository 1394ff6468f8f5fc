use Rattle.wasm_reduction.proofs.ScriptPlaces.{keeps-blank}
use Rattle.wasm_reduction.proofs.laws.words_can_be_forgotten.Goals as goal

pub returns : goal.returns
returns g c = λ given. keeps-blank (g.V.Words.Has given) g.V.Words.kind
