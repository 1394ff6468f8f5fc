use Rattle.std.proofs.Common.{sym, subst, arith}
use Rattle.std.specs.Prelude.{false}
use Rattle.wasm_machine.specs.States.{own}
use Rattle.wasm_machine.specs.Acts.{Sane}
use Rattle.wasm_machine.proofs.Images.{word_at-some, sane-without}
use Rattle.wasm_machine.proofs.NumericLaws.{own-word-held}
use Rattle.wasm_machine.proofs.ControlLaws.{if-stuck, if-asks, if-goes}
use Rattle.wasm_machine.proofs.control.if_else.Goals as goal

pub open-requires-clause-sane : goal.open-requires-clause-sane
open-requires-clause-sane g c = subst (λ s. Sane g.A.Algebra.holds c.args.a.now s) (sym c.discard.ensures)
    (sane-without g.A.Algebra.holds c.args.a.now c.args.s.now 1 c.requires.ready.sane (omega (arith, word_at-some false (own c.args.s.now) 0 c.in-Some.condition c.in-Some.ensures)))

pub returns-in-None : goal.returns-in-None
returns-in-None g c = if-stuck g.A.Algebra.holds g.A.Algebra.means g.A.Algebra.kind c.args.m.now c.args.a.now c.args.s.now c.args.ty c.args.first c.args.other c.in-None.ensures

pub returns-in-None-answer : goal.returns-in-None-answer
returns-in-None-answer g c = if-asks g.A.Algebra.holds g.A.Algebra.means g.A.Algebra.kind c.args.m.now c.args.a.now c.args.s.now c.args.ty c.args.first c.args.other c.in-Some.condition c.requires.ready.sane c.in-Some.ensures
    (own-word-held g.A.Algebra.holds g.A.Algebra.Has g.A.Algebra.means c.args.a.now c.args.s.now false 0 c.in-Some.condition c.requires.ready c.in-Some.ensures) c.in-None-answer.ensures

pub returns-in_ok-next-in-Some-answer : goal.returns-in_ok-next-in-Some-answer
returns-in_ok-next-in-Some-answer g c = if-goes g.A.Algebra.holds g.A.Algebra.means g.A.Algebra.kind c.args.m.now c.args.a.now c.args.s.now c.discard.new.self c.open.new.s c.args.ty c.args.first c.args.other c.by_test.result c.in-Some.condition c.in-Some-answer.n c.in_ok-next-in-Some-answer.next
    c.requires.ready.sane c.in-Some.ensures c.in-Some-answer.ensures (omega (arith, word_at-some false (own c.args.s.now) 0 c.in-Some.condition c.in-Some.ensures)) c.discard.ensures c.by_test.ensures c.in_ok-next-in-Some-answer.ensures
