use Rattle.std.proofs.Common.{refl}
use Rattle.wasm_machine.proofs.ReferenceLaws.{func-goes}
use Rattle.wasm_machine.proofs.references.ref_func.Goals as goal

pub returns : goal.returns
returns g c = λ m. func-goes g.A.Algebra.holds g.A.Algebra.means g.A.Algebra.kind m c.args.a.now c.args.s.now c.pass.new.self c.push.new.self c.args.x _ c.requires.sane refl c.pass.ensures c.in_ok-push.ensures
