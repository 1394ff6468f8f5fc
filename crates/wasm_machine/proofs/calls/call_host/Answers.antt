use Rattle.std.proofs.Common.{ap, subst, sym}
use Rattle.std.specs.Prelude.{true, false, Some}
use Rattle.wasm_machine.specs.code.Simulation.{Simulates}
use Rattle.wasm_reduction.specs.Control.{calling_host}
use Rattle.wasm_machine.proofs.NumericLaws.{own-within}
use Rattle.wasm_machine.proofs.CallLaws.{hosting, symbol-tells}
use Rattle.wasm_machine.proofs.calls.call_host.Goals as goal

pub discard-requires : goal.discard-requires
discard-requires g c = own-within c.args.s.now c.pass.new.self c.args.k c.pass.ensures c.requires.above

pub discard-requires-in-SymbolI64 : goal.discard-requires-in-SymbolI64
discard-requires-in-SymbolI64 g c = own-within c.args.s.now c.pass-in-SymbolI64.new.self c.args.k c.pass-in-SymbolI64.ensures c.requires.above

pub returns-in-SymbolI32 : goal.returns-in-SymbolI32
returns-in-SymbolI32 g c = λ m. symbol-tells g.A.Algebra.holds g.A.Algebra.means m c.args.a.now c.args.s.now c.pass.new.self c.discard.new.self c.args.k c.args.j false c.args.host c.requires.ready.sane c.requires.above c.pass.ensures c.discard.ensures (λ d vs ns. ap (λ h. calling_host d vs ns (Some h)) c.in-SymbolI32.is)

pub returns-in-SymbolI64 : goal.returns-in-SymbolI64
returns-in-SymbolI64 g c = λ m. symbol-tells g.A.Algebra.holds g.A.Algebra.means m c.args.a.now c.args.s.now c.pass-in-SymbolI64.new.self c.discard-in-SymbolI64.new.self c.args.k c.args.j true c.args.host c.requires.ready.sane c.requires.above c.pass-in-SymbolI64.ensures c.discard-in-SymbolI64.ensures (λ d vs ns. ap (λ h. calling_host d vs ns (Some h)) c.in-SymbolI64.is)

pub returns-in-Assume : goal.returns-in-Assume
returns-in-Assume g c = λ m. subst (λ h. Simulates g.A.Algebra.holds g.A.Algebra.means m c.args.a.now c.args.s.now c.assume.new.s c.assume.result (hosting g.A.Algebra.means m c.args.a.now c.args.s.now c.args.k c.args.j h)) (sym c.in-Assume.is) (c.assume.ensures m)

pub returns-in-Assert : goal.returns-in-Assert
returns-in-Assert g c = λ m. subst (λ h. Simulates g.A.Algebra.holds g.A.Algebra.means m c.args.a.now c.args.s.now c.assert.new.s c.assert.result (hosting g.A.Algebra.means m c.args.a.now c.args.s.now c.args.k c.args.j h)) (sym c.in-Assert.is) (c.assert.ensures m)
