use Rattle.std.proofs.Common.{◌≡◌, ◌≤◌, Some, None, length, arith, ap, sym, ◌∙◌, nat_lt}
use Rattle.wasm_machine.specs.Configurations.{code_of, configuration}
use Rattle.wasm_machine.proofs.BoundLaws.{due_by, due_below, depth-is}
use Rattle.wasm_machine.proofs.bounds.is_due.Goals as goal

pub returns-in-Some : goal.returns-in-Some
returns-in-Some g c = λ b.
    let s = c.args.s.now in
    let at = configuration (g.A.Algebra.means c.args.a.now) c.args.m.now b s in
    let func : s.frame.func ≡ Some c.in-Some.f = sym (ap (λ t. t.frame.func) c.s.view_is) ∙ c.in-Some.is in
    let some : 1 ≤ length at.callers = omega (arith, depth-is (g.A.Algebra.means c.args.a.now) c.args.m.now b s, c.depth.ensures, c.if-depth-eq0.false) in
    rw func (c.is_some.ensures ∙ due_by (λ i. i.now) (code_of c.args.m.now s.entry (Some c.in-Some.f) s.frame.here.seq) s.frame.here.place at.callers c.instruction.result c.instruction.ensures.there some)

pub returns-in-None : goal.returns-in-None
returns-in-None g c = λ b.
    let s = c.args.s.now in
    let at = configuration (g.A.Algebra.means c.args.a.now) c.args.m.now b s in
    let func : s.frame.func ≡ None = sym (ap (λ t. t.frame.func) c.s.view_is) ∙ c.in-None.is in
    let some : 1 ≤ length at.callers = omega (arith, depth-is (g.A.Algebra.means c.args.a.now) c.args.m.now b s, c.depth.ensures, c.if-depth-eq0.false) in
    rw func (
    ap (λ p. nat_lt p c.outer_calls.result) (ap (λ t. t.frame.here.place) c.s.view_is)
    ∙ ap (λ n. nat_lt s.frame.here.place n) (c.outer_calls.ensures s.entry)
    ∙ due_below (code_of c.args.m.now s.entry None 0) s.frame.here.place at.callers some
    )
