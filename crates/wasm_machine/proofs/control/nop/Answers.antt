use Rattle.std.proofs.Common.{refl}
use Rattle.wasm_machine.proofs.ActLaws.{pass-acts}
use Rattle.wasm_machine.proofs.control.nop.Goals as goal

pub returns : goal.returns
returns g c = λ m. pass-acts g.A.Algebra.holds g.A.Algebra.means g.A.Algebra.kind m _ c.args.a.now c.args.s.now c.pass.new.self c.requires.sane c.pass.ensures (λ b. refl)
