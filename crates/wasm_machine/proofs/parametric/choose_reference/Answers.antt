use Rattle.std.specs.Prelude.{false}
use Rattle.wasm_machine.specs.declared.values.Value.TheVariants.{Ref as CodeRef}
use Rattle.wasm_machine.proofs.NumericLaws.{own-word-held}
use Rattle.wasm_machine.proofs.ParametricLaws.{reference-unlike, select-asks, select-refers, three-within}
use Rattle.wasm_machine.proofs.parametric.choose_reference.Goals as goal

pub replace-requires-clause-within : goal.replace-requires-clause-within
replace-requires-clause-within g c = three-within c.args.s.now c.pass.new.self c.args.condition (CodeRef c.args.first) c.args.second c.requires.three c.pass.ensures

pub returns-in-None : goal.returns-in-None
returns-in-None g c = λ m. reference-unlike g.A.Algebra.holds g.A.Algebra.means g.A.Algebra.kind m c.args.a.now c.args.s.now c.args.condition c.args.first c.args.second c.requires.three c.in-None.ensures

pub returns-in-None-answer : goal.returns-in-None-answer
returns-in-None-answer g c = λ m. select-asks g.A.Algebra.holds g.A.Algebra.means g.A.Algebra.kind m c.args.a.now c.args.s.now c.args.condition c.args.first c.in-Some.other c.args.second c.requires.ready.sane c.requires.three c.in-Some.ensures
    (own-word-held g.A.Algebra.holds g.A.Algebra.Has g.A.Algebra.means c.args.a.now c.args.s.now false 0 c.args.condition c.requires.ready c.requires.three.condition) c.in-None-answer.ensures

pub returns-in-Some-answer : goal.returns-in-Some-answer
returns-in-Some-answer g c = λ m. select-refers g.A.Algebra.holds g.A.Algebra.means g.A.Algebra.kind m c.args.a.now c.args.s.now c.pass.new.self c.replace.new.self c.args.condition c.args.first c.in-Some.other c.one_of.result c.args.second c.in-Some-answer.n c.requires.ready.sane c.requires.three c.in-Some.ensures
    c.in-Some-answer.ensures c.one_of.ensures c.pass.ensures c.replace.ensures
