use Rattle.std.proofs.Common.{refl, ap}
use Rattle.wasm_machine.specs.declared.values.Value.TheVariants.{I32 as CodeI32}
use Rattle.wasm_reduction.specs.Configurations.{I32}
use Rattle.wasm_machine.proofs.ActLaws.{push-acts}
use Rattle.wasm_machine.proofs.numeric.const32.Goals as goal

pub returns-clause-acts : goal.returns-clause-acts
returns-clause-acts g c = λ m. push-acts g.A.Algebra.holds g.A.Algebra.means g.A.Algebra.kind m _ c.args.a.now c.constant-w.new.self c.constant-w.ensures.keeps c.args.s.now c.pass.new.self c.push.new.self (CodeI32 c.constant-w.result) (I32 (g.A.Algebra.kind.number c.args.n))
    c.requires.sane c.pass.ensures c.in_ok-push.ensures c.constant-w.ensures.held (ap (λ x. I32 x) c.constant-w.ensures.means) (λ b. refl)
