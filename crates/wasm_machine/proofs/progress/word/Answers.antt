use Rattle.wasm_machine.proofs.ProgressLaws.{word-found, word-held, word-width, word-there}
use Rattle.wasm_machine.proofs.progress.word.Goals as goal

pub returns-clause-found : goal.returns-clause-found
returns-clause-found g c = word-found g.A.Algebra.holds g.A.Algebra.Has g.A.Algebra.means c.args.a.now c.args.s.now c.args.wide c.args.k c.word.result c.word.ensures

pub returns-clause-held : goal.returns-clause-held
returns-clause-held g c = word-held g.A.Algebra.holds g.A.Algebra.Has g.A.Algebra.means c.args.a.now c.args.s.now c.args.wide c.args.k c.requires c.word.result c.word.ensures

pub returns-clause-width : goal.returns-clause-width
returns-clause-width g c = word-width g.A.Algebra.holds g.A.Algebra.Has g.A.Algebra.means c.args.a.now c.args.s.now c.args.wide c.args.k c.requires c.word.result c.word.ensures

pub returns-clause-there : goal.returns-clause-there
returns-clause-there g c = word-there g.A.Algebra.holds g.A.Algebra.Has g.A.Algebra.means c.args.a.now c.args.s.now c.args.wide c.args.k c.word.result c.word.ensures
