use Rattle.wasm_machine.proofs.ParametricLaws.{select-lacks-condition, select-lacks-second, select-lacks-first}
use Rattle.wasm_machine.proofs.parametric.select.Goals as goal

pub choose-requires-clause-three : goal.choose-requires-clause-three
choose-requires-clause-three g c = record { condition = c.in-Some.ensures; second_is = c.in-Some-operand.ensures; first_is = c.in-Some-operand-2.ensures }

pub returns-in-None-clause-acts : goal.returns-in-None-clause-acts
returns-in-None-clause-acts g c = λ m. select-lacks-condition g.A.Algebra.holds g.A.Algebra.means g.A.Algebra.kind m c.args.a.now c.args.s.now c.in-None.ensures

pub returns-in-None-operand-clause-acts : goal.returns-in-None-operand-clause-acts
returns-in-None-operand-clause-acts g c = λ m. select-lacks-second g.A.Algebra.holds g.A.Algebra.means g.A.Algebra.kind m c.args.a.now c.args.s.now c.in-Some.condition c.in-Some.ensures c.in-None-operand.ensures

pub returns-in-None-operand-2-clause-acts : goal.returns-in-None-operand-2-clause-acts
returns-in-None-operand-2-clause-acts g c = λ m. select-lacks-first g.A.Algebra.holds g.A.Algebra.means g.A.Algebra.kind m c.args.a.now c.args.s.now c.in-Some.condition c.in-Some-operand.second c.in-Some.ensures c.in-Some-operand.ensures c.in-None-operand-2.ensures
