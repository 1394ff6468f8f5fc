use Rattle.wasm_machine.proofs.ReferenceLaws.{null-stuck, null-goes}
use Rattle.wasm_machine.proofs.references.ref_null.Goals as goal

pub returns-in-None : goal.returns-in-None
returns-in-None g c = λ m. null-stuck g.A.Algebra.holds g.A.Algebra.means g.A.Algebra.kind m c.args.a.now c.args.s.now c.args.kind c.in-None.ensures

pub returns-in_ok-push-in-Some : goal.returns-in_ok-push-in-Some
returns-in_ok-push-in-Some g c = λ m. null-goes g.A.Algebra.holds g.A.Algebra.means g.A.Algebra.kind m c.args.a.now c.args.s.now c.pass.new.self c.push.new.self c.args.kind c.in-Some.r c.requires.sane c.in-Some.ensures c.pass.ensures c.in_ok-push-in-Some.ensures
