use Rattle.wasm_soundness.proofs.Modules.{module-fits}
use Rattle.wasm_soundness.proofs.Configs.{step-fits, answered-fits}
use Rattle.wasm_soundness.proofs.Starts.{first-fits}
use Rattle.wasm_soundness.proofs.Runs.{step-unstuck}
use Rattle.wasm_soundness.proofs.laws.steps_keep_types.Goals as goal

pub returns-clause-first : goal.returns-clause-first
returns-clause-first g c = λ m entry args can h. first-fits g.A.Algebra.kind m can entry args h

pub returns-clause-steps : goal.returns-clause-steps
returns-clause-steps g c = λ m final d can h. step-fits g.A.Algebra.kind m (module-fits m can.shape can.valid can.ready) final d h

pub returns-clause-answers : goal.returns-clause-answers
returns-clause-answers g c = λ m final d n h. answered-fits m final d n h

pub returns-clause-unstuck : goal.returns-clause-unstuck
returns-clause-unstuck g c = λ m final d can h. step-unstuck g.A.Algebra.kind m final d can h
