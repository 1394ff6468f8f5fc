use Rattle.std.proofs.Common.{refl, arith}
use Rattle.std.specs.Prelude.{false, ◌+◌}
use Rattle.wasm_image.specs.declared.hosts.Host.TheVariants.{Assert as AssertHost}
use Rattle.wasm_reduction.specs.Configurations.{Goes, Ends, Fails}
use Rattle.wasm_reduction.specs.Combinators.{holding, testing}
use Rattle.wasm_machine.specs.States.{own}
use Rattle.wasm_machine.proofs.Images.{word_at-some}
use Rattle.wasm_machine.proofs.NumericLaws.{own-within, own-word-held}
use Rattle.wasm_machine.proofs.CallLaws.{host-stuck, assert-asks, assert-ends, assert-goes}
use Rattle.wasm_machine.proofs.calls.assert.Goals as goal

pub discard-requires : goal.discard-requires
discard-requires g c = own-within c.args.s.now c.pass.new.self (c.args.k + 1) c.pass.ensures (omega (arith, word_at-some false (own c.args.s.now) c.args.k c.in-Some.condition c.in-Some.ensures))

pub returns-in-None : goal.returns-in-None
returns-in-None g c = λ m. host-stuck g.A.Algebra.holds g.A.Algebra.means m c.args.a.now c.args.s.now c.args.k c.args.j AssertHost c.in-None.ensures (λ c vs ns. ((λ condition rest. testing condition ns (λ ns. Ends Fails) (λ ns. Goes (holding c rest))), refl))

pub returns-in-None-answer : goal.returns-in-None-answer
returns-in-None-answer g c = λ m. assert-asks g.A.Algebra.holds g.A.Algebra.means m c.args.a.now c.args.s.now c.args.k c.args.j c.in-Some.condition c.requires.ready.sane c.in-Some.ensures (own-word-held g.A.Algebra.holds g.A.Algebra.Has g.A.Algebra.means c.args.a.now c.args.s.now false c.args.k c.in-Some.condition c.requires.ready c.in-Some.ensures) c.in-None-answer.ensures

pub returns-then-n-eq0 : goal.returns-then-n-eq0
returns-then-n-eq0 g c = λ m. assert-ends g.A.Algebra.holds g.A.Algebra.means m c.args.a.now c.args.s.now c.args.k c.args.j c.in-Some.condition c.in-Some-answer.n c.in-Some.ensures c.in-Some-answer.ensures c.if-n-eq0.true

pub returns-else-n-eq0 : goal.returns-else-n-eq0
returns-else-n-eq0 g c = λ m. assert-goes g.A.Algebra.holds g.A.Algebra.means m c.args.a.now c.args.s.now c.pass.new.self c.discard.new.self c.args.k c.args.j c.in-Some.condition c.in-Some-answer.n c.requires.ready.sane c.in-Some.ensures
    (omega (arith, word_at-some false (own c.args.s.now) c.args.k c.in-Some.condition c.in-Some.ensures)) c.in-Some-answer.ensures c.if-n-eq0.false c.pass.ensures c.discard.ensures
