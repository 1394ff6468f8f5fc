use Rattle.wasm_reduction.specs.Scripts.{Passes}
use Rattle.wasm_reduction.proofs.ScriptAgain.{again}
use Rattle.wasm_reduction.proofs.scripts.draws_lead_to_the_same.Goals as goal

pub returns-clause-after : goal.returns-clause-after
returns-clause-after c = λ m entry args input steps s left t answers h e k. again m entry args steps (λ q v. Unit {0}) input answers s left t h e k

pub returns-clause-past : goal.returns-clause-past
returns-clause-past c = λ m entry args input steps s left t answers h e k. again m entry args steps Passes input answers s left t h e k
