use Rattle.wasm_machine.proofs.ProgressLaws.{reference-found, reference-there}
use Rattle.wasm_machine.proofs.progress.reference.Goals as goal

pub returns-clause-found : goal.returns-clause-found
returns-clause-found g c = reference-found (g.A.Algebra.means c.args.a.now) c.args.s.now c.args.k c.reference.result c.reference.ensures

pub returns-clause-there : goal.returns-clause-there
returns-clause-there g c = reference-there (g.A.Algebra.means c.args.a.now) c.args.s.now c.args.k c.reference.result c.reference.ensures
