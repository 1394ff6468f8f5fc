use Rattle.wasm_machine.proofs.ControlLaws.{loop-acts}
use Rattle.wasm_machine.proofs.control.repeat.Goals as goal

pub returns : goal.returns
returns g c = loop-acts g.A.Algebra.holds g.A.Algebra.means g.A.Algebra.kind c.args.m.now c.args.a.now c.args.s.now c.open.new.s c.args.ty c.args.body c.in_ok-next.next c.in_ok-next.ensures
