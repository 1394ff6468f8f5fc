use Rattle.std.proofs.Common.{arith}
use Rattle.wasm_machine.proofs.IndirectLaws.{picked-none, picked-mismatch, picked-calls}
use Rattle.wasm_machine.proofs.calls.call_of_type.Goals as goal

pub returns-then-f-function_count-clause-tells : goal.returns-then-f-function_count-clause-tells
returns-then-f-function_count-clause-tells g c = picked-none g.A.Algebra.holds g.A.Algebra.means g.A.Algebra.kind c.args.image.now c.args.a.now c.args.s.now c.args.t.now c.args.f (omega (arith, c.if-f-function_count.true, c.function_count.ensures))

pub returns-then-not-is_same_type-clause-tells : goal.returns-then-not-is_same_type-clause-tells
returns-then-not-is_same_type-clause-tells g c = picked-mismatch g.A.Algebra.holds g.A.Algebra.means g.A.Algebra.kind c.args.image.now c.args.a.now c.args.s.now c.args.t.now c.function_type.result.now c.args.f c.is_same_type.result c.function_type.ensures c.is_same_type.ensures c.if-not-is_same_type.true

pub returns-clause-tells : goal.returns-clause-tells
returns-clause-tells g c = picked-calls g.A.Algebra.holds g.A.Algebra.means g.A.Algebra.kind c.args.image.now c.args.a.now c.call_function.new.a c.args.s.now c.call_function.new.s c.args.t.now c.function_type.result.now c.args.f c.is_same_type.result c.in_ok-next.next c.function_type.ensures c.is_same_type.ensures c.if-not-is_same_type.false c.in_ok-next.ensures.tells
