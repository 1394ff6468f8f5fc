use Rattle.wasm_machine.proofs.IndirectLaws.{same-is}
use Rattle.wasm_machine.proofs.calls.is_same_type.Goals as goal

pub returns : goal.returns
returns c = same-is c.same.result c.args.s.now c.args.t.now c.same.ensures
