use Rattle.std.proofs.Common.{◌≡◌, subst}
use Rattle.std.specs.Prelude.{slice_get, Some, None}
use Rattle.wasm_machine.proofs.IndirectLaws.{indirect-no-type, indirect-no-table, indirect-no-index}
use Rattle.wasm_machine.proofs.calls.call_indirect.Goals as goal

pub returns-in-None-clause-acts : goal.returns-in-None-clause-acts
returns-in-None-clause-acts g c = indirect-no-type g.A.Algebra.holds g.A.Algebra.means g.A.Algebra.kind c.args.image.now c.args.a.now c.args.s.now c.args.ty c.args.table (subst (λ m. slice_get m.types c.args.ty ≡ None) c.module.ensures.module c.in-None.ensures)

pub returns-in-None-table_length-clause-acts : goal.returns-in-None-table_length-clause-acts
returns-in-None-table_length-clause-acts g c = indirect-no-table g.A.Algebra.holds g.A.Algebra.means g.A.Algebra.kind c.args.image.now c.args.a.now c.args.s.now c.args.ty c.args.table c.in-Some.t.now (subst (λ m. slice_get m.types c.args.ty ≡ Some c.in-Some.t.now) c.module.ensures.module c.in-Some.ensures) c.in-None-table_length.ensures

pub returns-in-None-word-clause-acts : goal.returns-in-None-word-clause-acts
returns-in-None-word-clause-acts g c = indirect-no-index g.A.Algebra.holds g.A.Algebra.means g.A.Algebra.kind c.args.image.now c.args.a.now c.args.s.now c.args.ty c.args.table c.in-Some.t.now c.in-Some-table_length.size (subst (λ m. slice_get m.types c.args.ty ≡ Some c.in-Some.t.now) c.module.ensures.module c.in-Some.ensures) c.in-Some-table_length.ensures c.in-None-word.ensures
