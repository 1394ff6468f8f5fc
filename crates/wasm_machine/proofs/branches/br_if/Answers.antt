use Rattle.std.proofs.Common.{arith}
use Rattle.std.specs.Prelude.{false}
use Rattle.wasm_machine.specs.States.{own}
use Rattle.wasm_machine.proofs.Images.{word_at-some}
use Rattle.wasm_machine.proofs.NumericLaws.{own-word-held, own-within}
use Rattle.wasm_machine.proofs.BranchLaws.{br_if-stuck, br_if-asks, br_if-falls, br_if-goes, sane-below}
use Rattle.wasm_machine.proofs.branches.br_if.Goals as goal

pub discard-requires : goal.discard-requires
discard-requires g c = own-within c.args.s.now c.pass.new.self 1 c.pass.ensures (omega (arith, word_at-some false (own c.args.s.now) 0 c.in-Some.condition c.in-Some.ensures))

pub jump-requires : goal.jump-requires
jump-requires g c = sane-below g.A.Algebra.holds c.args.a.now c.args.s.now c.pass.new.self c.discard.new.self 1 c.requires.sane (omega (arith, word_at-some false (own c.args.s.now) 0 c.in-Some.condition c.in-Some.ensures)) c.pass.ensures c.discard.ensures

pub returns-in-None : goal.returns-in-None
returns-in-None g c = λ m. br_if-stuck g.A.Algebra.holds g.A.Algebra.means g.A.Algebra.kind m c.args.a.now c.args.s.now c.args.l c.in-None.ensures

pub returns-in-None-answer : goal.returns-in-None-answer
returns-in-None-answer g c = λ m. br_if-asks g.A.Algebra.holds g.A.Algebra.means g.A.Algebra.kind m c.args.a.now c.args.s.now c.args.l c.in-Some.condition c.requires.sane c.in-Some.ensures (own-word-held g.A.Algebra.holds g.A.Algebra.Has g.A.Algebra.means c.args.a.now c.args.s.now false 0 c.in-Some.condition c.requires c.in-Some.ensures) c.in-None-answer.ensures

pub returns-then-n-eq0 : goal.returns-then-n-eq0
returns-then-n-eq0 g c = λ m. br_if-falls g.A.Algebra.holds g.A.Algebra.means g.A.Algebra.kind m c.args.a.now c.args.s.now c.pass.new.self c.discard.new.self c.args.l c.in-Some.condition c.in-Some-answer.n c.requires.sane c.in-Some.ensures
    (omega (arith, word_at-some false (own c.args.s.now) 0 c.in-Some.condition c.in-Some.ensures)) c.in-Some-answer.ensures c.if-n-eq0.true c.pass.ensures c.discard.ensures

pub returns-in_ok-next-in-Some-answer : goal.returns-in_ok-next-in-Some-answer
returns-in_ok-next-in-Some-answer g c = λ m. br_if-goes g.A.Algebra.holds g.A.Algebra.means g.A.Algebra.kind m c.args.a.now c.args.s.now c.pass.new.self c.discard.new.self c.jump.new.s c.args.l c.in-Some.condition c.in-Some-answer.n c.in_ok-next-in-Some-answer.next c.requires.sane c.in-Some.ensures
    (omega (arith, word_at-some false (own c.args.s.now) 0 c.in-Some.condition c.in-Some.ensures)) c.in-Some-answer.ensures c.if-n-eq0.false c.pass.ensures c.discard.ensures (c.in_ok-next-in-Some-answer.ensures m)
