use Rattle.wasm_machine.proofs.CallLaws.{call-acts}
use Rattle.wasm_machine.proofs.calls.call.Goals as goal

pub returns-clause-acts : goal.returns-clause-acts
returns-clause-acts g c = call-acts g.A.Algebra.holds g.A.Algebra.means g.A.Algebra.kind c.args.image.now c.args.a.now c.call_function.new.a c.args.s.now c.call_function.new.s c.args.x c.in_ok-next.next c.in_ok-next.ensures.tells
