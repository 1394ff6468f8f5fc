use Rattle.std.proofs.Common.{arith}
use Rattle.wasm_machine.proofs.Steps.{length-own}
use Rattle.wasm_machine.proofs.NumericLaws.{own-within}
use Rattle.wasm_machine.proofs.CallLaws.{code-lacks, code-goes, args-within}
use Rattle.wasm_machine.proofs.calls.call_code.Goals as goal

pub discard-requires : goal.discard-requires
discard-requires g c = own-within c.args.s.now c.pass.new.self c.args.k c.pass.ensures c.requires.above

pub invoke-requires : goal.invoke-requires
invoke-requires g c = args-within c.args.s.now c.pass.new.self c.discard.new.self c.args.k c.len-params.result c.pass.ensures c.discard.ensures (omega (arith, c.own_count.ensures, length-own c.args.s.now, c.saturating_sub.ensures, c.if-saturating_sub-params.false))

pub returns-in-None-clause-tells : goal.returns-in-None-clause-tells
returns-in-None-clause-tells g c = λ ns. code-lacks g.A.Algebra.holds g.A.Algebra.means g.A.Algebra.kind c.args.m.now c.args.a.now c.args.s.now c.args.k c.args.f.now ns c.in-None.ensures

pub returns-in_ok-invoke-in-Some-clause-tells : goal.returns-in_ok-invoke-in-Some-clause-tells
returns-in_ok-invoke-in-Some-clause-tells g c = λ ns. code-goes g.A.Algebra.holds g.A.Algebra.means g.A.Algebra.kind c.args.m.now c.args.a.now c.constant-zero.new.self c.constant-zero.ensures.keeps c.args.s.now c.pass.new.self c.discard.new.self c.invoke.new.self
    c.args.k c.args.g c.len-params.result c.len-results.result c.constant-zero.result c.args.f.now c.in-Some.t.now ns c.requires.ready.sane c.requires.above c.requires.code c.in-Some.ensures c.len-params.ensures c.len-results.ensures
    (omega (arith, c.own_count.ensures, length-own c.args.s.now, c.saturating_sub.ensures, c.if-saturating_sub-params.false, c.len-params.ensures))
    c.constant-zero.ensures.held c.constant-zero.ensures.means c.pass.ensures c.discard.ensures c.in_ok-invoke-in-Some.ensures
