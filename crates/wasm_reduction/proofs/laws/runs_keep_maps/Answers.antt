use Rattle.std.proofs.Common.{refl}
use Rattle.wasm_reduction.specs.Runs.{by_list}
use Rattle.wasm_reduction.proofs.WideStarts.{code-in-range}
use Rattle.wasm_reduction.proofs.MapRuns.{follows-image, runs-image}
use Rattle.wasm_reduction.proofs.laws.runs_keep_maps.Goals as goal

pub returns-clause-turns : goal.returns-clause-turns
returns-clause-turns g c = λ given gives h keeps draw drawn symbols answers m steps n at numbers-fit w.
    follows-image h draw drawn symbols.value (by_list answers) (by_list answers) (λ q x given. refl) (g.V.Words.Has given) g.V.Words.kind g.W.Words.kind gives keeps m (code-in-range m numbers-fit) steps symbols.has n at w

pub returns-clause-runs : goal.returns-clause-runs
returns-clause-runs g c = λ given gives h keeps draw drawn symbols answers m entry args steps n numbers-fit valid ready fit.
    runs-image h draw drawn symbols.value (by_list answers) (by_list answers) (λ q x given. refl) (g.V.Words.Has given) g.V.Words.kind g.W.Words.kind gives keeps m (code-in-range m numbers-fit) steps symbols.has numbers-fit valid ready entry args fit n
