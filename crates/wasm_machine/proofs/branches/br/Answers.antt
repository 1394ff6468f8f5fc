use Rattle.std.proofs.Common.{sym, subst}
use Rattle.wasm_machine.specs.Acts.{Sane}
use Rattle.wasm_machine.proofs.Images.{sane-passed}
use Rattle.wasm_machine.proofs.BranchLaws.{br-acts}
use Rattle.wasm_machine.proofs.branches.br.Goals as goal

pub jump-requires : goal.jump-requires
jump-requires g c = subst (λ s. Sane g.A.Algebra.holds c.args.a.now s) (sym c.pass.ensures) (sane-passed g.A.Algebra.holds c.args.a.now c.args.s.now c.requires.sane)

pub returns : goal.returns
returns g c = λ m. br-acts g.A.Algebra.holds g.A.Algebra.means g.A.Algebra.kind m c.args.a.now c.args.s.now c.pass.new.self c.jump.new.s c.args.l c.in_ok-next.next c.pass.ensures (c.in_ok-next.ensures m)
