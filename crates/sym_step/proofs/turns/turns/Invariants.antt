use Rattle.wasm_reduction.proofs.Endings.{weight}
use Rattle.sym_step.specs.code.Turning.{config_at}
use Rattle.sym_step.proofs.StandLaws.{Turning}
use Rattle.sym_step.proofs.turns.turns.Given as goal

abbrev pub invariant-turning : goal.invariant-turning
invariant-turning l = Turning l.image l.steps l.initial.graph l.initial.s l.initial.memory l.initial.draws l.initial.asks l.graph l.s l.memory l.draws l.asks

abbrev pub decreases-turning : goal.decreases-turning
decreases-turning l = weight l.steps (config_at l.image l.graph l.s l.memory)
