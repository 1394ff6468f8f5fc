use Rattle.wasm_machine.proofs.ControlLaws.{block-acts}
use Rattle.wasm_machine.proofs.control.block.Goals as goal

pub open-requires-clause-opening : goal.open-requires-clause-opening
open-requires-clause-opening g c = (c.requires.next.f, c.requires.next.there)

pub returns : goal.returns
returns g c = block-acts g.A.Algebra.holds g.A.Algebra.means g.A.Algebra.kind c.args.m.now c.args.a.now c.args.s.now c.open.new.s c.args.ty c.args.body c.in_ok-next.next c.in_ok-next.ensures
