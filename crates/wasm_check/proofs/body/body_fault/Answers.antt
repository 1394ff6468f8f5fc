use Rattle.wasm_check.proofs.Verdicts.{found}
use Rattle.wasm_check.specs.code.Kept.{context}
use Rattle.wasm_check.proofs.body.body_fault.Goals as goal

pub returns : goal.returns
returns c = found (context c.args.scope.now) c.args.body.now c.in_ok-find_fault.field-0 c.requires c.in_ok-find_fault.ensures
