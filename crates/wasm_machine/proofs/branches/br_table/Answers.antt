use Rattle.std.proofs.Common.{ap, sym, arith}
use Rattle.std.specs.Prelude.{false, length}
use Rattle.wasm_machine.specs.States.{own}
use Rattle.wasm_machine.proofs.Images.{word_at-some}
use Rattle.wasm_machine.proofs.NumericLaws.{own-word-held, own-word-wide, own-within}
use Rattle.wasm_machine.proofs.BranchLaws.{table-stuck, table-asks, table-goes, sane-below, choice-small}
use Rattle.wasm_machine.proofs.branches.br_table.Goals as goal

pub differs-requires : goal.differs-requires
differs-requires g c = record {
  held = own-word-held g.A.Algebra.holds g.A.Algebra.Has g.A.Algebra.means c.args.a.now c.args.s.now false 0 c.in-Some.index c.requires.ready c.in-Some.ensures;
  wide = own-word-wide g.A.Algebra.holds g.A.Algebra.Has g.A.Algebra.means c.args.a.now c.args.s.now false 0 c.in-Some.index c.requires.ready c.in-Some.ensures;
  small = omega (arith, c.requires.few, choice-small c.as_slice.result.now c.args.last c.given.result.now 0 c.in-Ask.k c.in-Ask.ensures, ap (λ l. length l) c.as_slice.ensures);
}

pub discard-requires : goal.discard-requires
discard-requires g c = own-within c.args.s.now c.pass.new.self 1 c.pass.ensures (omega (arith, word_at-some false (own c.args.s.now) 0 c.in-Some.index c.in-Some.ensures))

pub jump-requires : goal.jump-requires
jump-requires g c = sane-below g.A.Algebra.holds c.args.a.now c.args.s.now c.pass.new.self c.discard.new.self 1 c.requires.ready.sane (omega (arith, word_at-some false (own c.args.s.now) 0 c.in-Some.index c.in-Some.ensures)) c.pass.ensures c.discard.ensures

pub returns-in-None-clause-acts : goal.returns-in-None-clause-acts
returns-in-None-clause-acts g c = λ m. table-stuck g.A.Algebra.holds g.A.Algebra.means g.A.Algebra.kind m c.args.a.now c.args.s.now c.args.labels.now c.args.last c.in-None.ensures

pub returns-in_ok-w-in-Ask-clause-acts : goal.returns-in_ok-w-in-Ask-clause-acts
returns-in_ok-w-in-Ask-clause-acts g c = λ m. table-asks g.A.Algebra.holds g.A.Algebra.means g.A.Algebra.kind m c.args.a.now c.differs.new.a c.in_ok-w-in-Ask.ensures.kept c.args.s.now c.args.labels.now c.args.last c.in-Some.index c.in_ok-w-in-Ask.w c.in-Ask.k c.given.result.now c.requires.ready.sane c.in-Some.ensures
    c.given.ensures (rw (sym c.as_slice.ensures) c.in-Ask.ensures) c.in_ok-w-in-Ask.ensures.held c.in_ok-w-in-Ask.ensures.means

pub returns-in_ok-next-in-Label-clause-acts : goal.returns-in_ok-next-in-Label-clause-acts
returns-in_ok-next-in-Label-clause-acts g c = λ m. table-goes g.A.Algebra.holds g.A.Algebra.means g.A.Algebra.kind m c.args.a.now c.args.s.now c.pass.new.self c.discard.new.self c.jump.new.s c.args.labels.now c.args.last c.in-Some.index c.in-Label.l c.given.result.now c.in_ok-next-in-Label.next c.requires.ready.sane c.in-Some.ensures
    (omega (arith, word_at-some false (own c.args.s.now) 0 c.in-Some.index c.in-Some.ensures)) c.given.ensures (rw (sym c.as_slice.ensures) c.in-Label.ensures) c.pass.ensures c.discard.ensures (c.in_ok-next-in-Label.ensures m)
