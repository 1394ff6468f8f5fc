use Rattle.wasm_machine.proofs.IndirectLaws.{reference-extern, reference-null, reference-function}
use Rattle.wasm_machine.proofs.calls.call_reference.Goals as goal

pub returns-in-Extern-clause-tells : goal.returns-in-Extern-clause-tells
returns-in-Extern-clause-tells g c = reference-extern g.A.Algebra.holds g.A.Algebra.means g.A.Algebra.kind c.args.image.now c.args.a.now c.args.s.now c.args.t.now c.args.r c.in-Extern.is

pub returns-in-None-clause-tells : goal.returns-in-None-clause-tells
returns-in-None-clause-tells g c = reference-null g.A.Algebra.holds g.A.Algebra.means g.A.Algebra.kind c.args.image.now c.args.a.now c.args.s.now c.args.t.now c.args.r c.in-Func.function c.in-Func.is c.in-None.is

pub returns-in_ok-next-in-Some-clause-tells : goal.returns-in_ok-next-in-Some-clause-tells
returns-in_ok-next-in-Some-clause-tells g c = reference-function g.A.Algebra.holds g.A.Algebra.means g.A.Algebra.kind c.args.image.now c.args.a.now c.call_of_type.new.a c.args.s.now c.call_of_type.new.s c.args.t.now c.args.r c.in-Func.function c.in-Some.f c.in_ok-next-in-Some.next c.in-Func.is c.in-Some.is c.in_ok-next-in-Some.ensures.tells
