use Rattle.wasm_reduction.proofs.Endings.{left}
use Rattle.sym_step.specs.code.Turning.{config_at}
use Rattle.sym_step.proofs.SettleLaws.{Asking}
use Rattle.sym_step.proofs.turns.settle.Given as goal

abbrev pub invariant-asking : goal.invariant-asking
invariant-asking l = Asking l.image l.initial.graph l.initial.s l.initial.memory l.initial.asks l.graph l.s l.memory l.asks

abbrev pub decreases-asking : goal.decreases-asking
decreases-asking l = left (config_at l.image l.graph l.s l.memory)
