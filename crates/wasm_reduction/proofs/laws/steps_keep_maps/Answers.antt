use Rattle.wasm_reduction.proofs.MapSteps.{step-image}
use Rattle.wasm_reduction.proofs.laws.steps_keep_maps.Goals as goal

pub returns : goal.returns
returns g c = λ given gives h keeps m d wide. step-image (g.V.Words.Has given) h g.V.Words.kind g.W.Words.kind gives keeps m d wide
