use Rattle.std.proofs.Common.{sym, arith, subst}
use Rattle.std.specs.Prelude.{false}
use Rattle.wasm_ast.specs.declared.runs.Cause.TheVariants.{Undefined}
use Rattle.wasm_machine.specs.States.{own}
use Rattle.wasm_machine.specs.Acts.{Ready}
use Rattle.wasm_machine.proofs.Images.{word_at-some}
use Rattle.wasm_machine.proofs.NumericLaws.{own-word-held, own-word-wide}
use Rattle.wasm_machine.proofs.IndirectLaws.{indirect-asks, indirect-out, indirect-lacks, indirect-calls, table-small}
use Rattle.wasm_machine.proofs.calls.call_element.Goals as goal

pub indexing-requires : goal.indexing-requires
indexing-requires g c = record {
  held = own-word-held g.A.Algebra.holds g.A.Algebra.Has g.A.Algebra.means c.args.a.now c.args.s.now false 0 c.args.index c.requires.ready c.requires.index;
  width = own-word-wide g.A.Algebra.holds g.A.Algebra.Has g.A.Algebra.means c.args.a.now c.args.s.now false 0 c.args.index c.requires.ready c.requires.index;
  small = table-small c.args.s.now c.args.table c.args.size c.requires.small c.requires.table;
}

pub call_reference-requires-clause-ready : goal.call_reference-requires-clause-ready
call_reference-requires-clause-ready g c = subst (λ a. Ready g.A.Algebra.holds g.A.Algebra.Has g.A.Algebra.means a c.args.s.now) (sym (rw c.in-At.is at c.in_ok-reached.ensures.same)) c.requires.ready

pub call_reference-requires-clause-above : goal.call_reference-requires-clause-above
call_reference-requires-clause-above g c = omega (arith, word_at-some false (own c.args.s.now) 0 c.args.index c.requires.index)

pub returns-in-Ask-clause-acts : goal.returns-in-Ask-clause-acts
returns-in-Ask-clause-acts g c = indirect-asks g.A.Algebra.holds g.A.Algebra.means g.A.Algebra.kind c.args.image.now c.args.a.now c.indexing.new.a c.in_ok-reached.ensures.keeps c.args.s.now c.args.ty c.args.table c.args.t.now c.args.size c.args.index c.given.result.now c.in-Ask.q c.in-Ask.w c.requires.ready.sane
    (record { typed = c.requires.typed; table = c.requires.table; index_is = c.requires.index; answers = c.given.ensures }) (rw c.in-Ask.is at c.in_ok-reached.ensures.held) (rw c.in-Ask.is at (c.in_ok-reached.ensures.says Undefined))

pub returns-in-OutOfBounds-clause-acts : goal.returns-in-OutOfBounds-clause-acts
returns-in-OutOfBounds-clause-acts g c = indirect-out g.A.Algebra.holds g.A.Algebra.means g.A.Algebra.kind c.args.image.now c.args.a.now c.indexing.new.a c.args.s.now c.args.ty c.args.table c.args.t.now c.args.size c.args.index c.given.result.now
    (record { typed = c.requires.typed; table = c.requires.table; index_is = c.requires.index; answers = c.given.ensures }) (rw c.in-OutOfBounds.is at (c.in_ok-reached.ensures.says Undefined))

pub returns-in-None-clause-acts : goal.returns-in-None-clause-acts
returns-in-None-clause-acts g c = indirect-lacks g.A.Algebra.holds g.A.Algebra.means g.A.Algebra.kind c.args.image.now c.args.a.now c.indexing.new.a c.args.s.now c.args.ty c.args.table c.args.t.now c.args.size c.args.index c.given.result.now c.in-At.i
    (record { typed = c.requires.typed; table = c.requires.table; index_is = c.requires.index; answers = c.given.ensures }) (rw c.in-At.is at (c.in_ok-reached.ensures.says Undefined)) c.in-None.ensures

pub returns-in_ok-next-in-Some-clause-acts : goal.returns-in_ok-next-in-Some-clause-acts
returns-in_ok-next-in-Some-clause-acts g c = indirect-calls g.A.Algebra.holds g.A.Algebra.means g.A.Algebra.kind c.args.image.now c.args.a.now c.indexing.new.a c.call_reference.new.a c.args.s.now c.call_reference.new.s c.args.ty c.args.table c.args.t.now c.args.size c.args.index c.given.result.now c.in-At.i c.in-Some.r c.in_ok-next-in-Some.next
    (record { typed = c.requires.typed; table = c.requires.table; index_is = c.requires.index; answers = c.given.ensures }) (rw c.in-At.is at c.in_ok-reached.ensures.same) (rw c.in-At.is at (c.in_ok-reached.ensures.says Undefined)) c.in-Some.ensures c.in_ok-next-in-Some.ensures.tells
