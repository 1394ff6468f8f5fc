use Rattle.wasm_reduction.proofs.Endings.{left}
use Rattle.wasm_run.specs.code.Places.{config_at}
use Rattle.wasm_run.proofs.PlaceLemmas.{Asking}
use Rattle.wasm_run.proofs.turns.settle.Given as goal

abbrev pub invariant-asking : goal.invariant-asking
invariant-asking l = Asking l.image l.steps l.initial.s l.initial.memory l.numbers l.s l.memory

abbrev pub decreases-asking : goal.decreases-asking
decreases-asking l = left (config_at l.image l.memory l.s)
