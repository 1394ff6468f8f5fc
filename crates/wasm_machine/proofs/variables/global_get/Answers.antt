use Rattle.wasm_machine.proofs.VariableLaws.{global-stuck, global-goes}
use Rattle.wasm_machine.proofs.variables.global_get.Goals as goal

pub returns-in-None : goal.returns-in-None
returns-in-None g c = λ m. global-stuck g.A.Algebra.holds g.A.Algebra.means g.A.Algebra.kind m c.args.a.now c.args.s.now c.args.x c.in-None.ensures

pub returns-in_ok-push-in-Some : goal.returns-in_ok-push-in-Some
returns-in_ok-push-in-Some g c = λ m. global-goes g.A.Algebra.holds g.A.Algebra.means g.A.Algebra.kind m c.args.a.now c.args.s.now c.pass.new.self c.push.new.self c.args.x c.in-Some.v c.requires.sane c.in-Some.ensures c.pass.ensures c.in_ok-push-in-Some.ensures
