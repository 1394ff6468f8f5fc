use Rattle.std.proofs.Common.{arith, subst}
use Rattle.std.specs.Prelude.{◌≤◌, ◌-◌, length, drop}
use Rattle.wasm_machine.specs.code.Simulation.{Simulates}
use Rattle.wasm_machine.proofs.CallLaws.{function_says, calls-host, calls-code, calls-none, linked-host}
use Rattle.wasm_machine.proofs.calls.call_function.Goals as goal

pub returns-in-Some-clause-tells : goal.returns-in-Some-clause-tells
returns-in-Some-clause-tells g c = calls-host g.A.Algebra.holds g.A.Algebra.means g.A.Algebra.kind c.args.image.now c.args.a.now c.args.s.now c.call_host.new.s c.args.x c.args.k c.args.j c.in-Some.host c.call_host.result c.in-Some.ensures (c.call_host.ensures c.args.image.now)

pub returns-then-at-imported-clause-tells : goal.returns-then-at-imported-clause-tells
returns-then-at-imported-clause-tells g c = absurd (linked-host c.args.image.now c.args.x c.requires.linked c.in-None.ensures (omega (arith, c.if-at-imported.true, c.imported_count-imported.ensures)))

pub returns-in-None-code_at-clause-tells : goal.returns-in-None-code_at-clause-tells
returns-in-None-code_at-clause-tells g c = calls-none g.A.Algebra.holds g.A.Algebra.means g.A.Algebra.kind c.args.image.now c.args.a.now c.args.s.now c.args.x c.args.k c.args.j
    (omega (arith, c.imported_count-imported.ensures, c.if-at-imported.false, subst (λ m. length m.funcs ≤ c.args.x - c.imported_count-imported.result) c.module-m.ensures.module c.in-None-code_at.ensures))

pub returns-in_ok-next-in-Some-code_at-clause-tells : goal.returns-in_ok-next-in-Some-code_at-clause-tells
returns-in_ok-next-in-Some-code_at-clause-tells g c =
    subst (λ m. Simulates g.A.Algebra.holds g.A.Algebra.means m c.call_code.new.a c.args.s.now c.call_code.new.s c.in_ok-next-in-Some-code_at.next (function_says g.A.Algebra.means g.A.Algebra.kind m c.args.a.now c.args.s.now c.args.x c.args.k c.args.j)) c.module-m.ensures.module
    (calls-code g.A.Algebra.holds g.A.Algebra.means g.A.Algebra.kind c.module-m.result.now c.args.a.now c.call_code.new.a c.args.s.now c.call_code.new.s c.args.x (c.args.x - c.imported_count-imported.result) c.args.k c.args.j c.in-Some-code_at.f.now c.in_ok-next-in-Some-code_at.next
    (rw c.module-m.ensures.module (omega (arith, c.imported_count-imported.ensures, c.if-at-imported.false))) c.in-Some-code_at.ensures (c.in_ok-next-in-Some-code_at.ensures.tells (drop c.args.j c.args.s.now.answers)))
