use Rattle.wasm_reduction.proofs.Endings.{weight}
use Rattle.wasm_run.specs.code.Places.{config_at}
use Rattle.wasm_run.proofs.PlaceLemmas.{Turning}
use Rattle.wasm_run.proofs.turns.go.Given as goal

abbrev pub invariant-turning : goal.invariant-turning
invariant-turning l = Turning l.request.image.now l.request.entry l.request.args.now l.request.input.now l.request.steps l.numbers l.s l.memory l.draws.items

abbrev pub decreases-turning : goal.decreases-turning
decreases-turning l = weight l.request.steps (config_at l.request.image.now l.memory l.s)
