use Rattle.wasm_machine.proofs.NumericLaws.{num-stuck}
use Rattle.wasm_machine.proofs.numeric.num.Goals as goal

pub returns-in-None-clause-acts : goal.returns-in-None-clause-acts
returns-in-None-clause-acts g c = λ m. num-stuck g.A.Algebra.holds g.A.Algebra.means g.A.Algebra.kind m c.args.a.now c.args.s.now c.args.op c.in-None.ensures
