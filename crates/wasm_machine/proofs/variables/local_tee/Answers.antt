use Rattle.std.proofs.Common.{ap}
use Rattle.wasm_machine.proofs.VariableLaws.{tee-lacks-local, tee-lacks-value, tee-goes, local-within}
use Rattle.wasm_machine.proofs.variables.local_tee.Goals as goal

pub set_local-requires : goal.set_local-requires
set_local-requires g c = local-within c.args.s.now c.pass.new.self c.args.x c.in-Some.field-0 c.in-Some.ensures (ap (λ s. s.locals) c.pass.ensures) (ap (λ s. s.frame.base) c.pass.ensures)

pub returns-in-None : goal.returns-in-None
returns-in-None g c = λ m. tee-lacks-local g.A.Algebra.holds g.A.Algebra.means g.A.Algebra.kind m c.args.a.now c.args.s.now c.args.x c.in-None.ensures

pub returns-in-None-operand : goal.returns-in-None-operand
returns-in-None-operand g c = λ m. tee-lacks-value g.A.Algebra.holds g.A.Algebra.means g.A.Algebra.kind m c.args.a.now c.args.s.now c.args.x c.in-Some.field-0 c.in-Some.ensures c.in-None-operand.ensures

pub returns-in-Some-operand : goal.returns-in-Some-operand
returns-in-Some-operand g c = λ m. tee-goes g.A.Algebra.holds g.A.Algebra.means g.A.Algebra.kind m c.args.a.now c.args.s.now c.pass.new.self c.set_local.new.self c.args.x c.in-Some.field-0 c.in-Some-operand.v c.requires.sane c.in-Some.ensures c.in-Some-operand.ensures
    c.pass.ensures c.set_local.ensures
