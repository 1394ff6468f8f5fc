use Rattle.std.proofs.Common.{sym, ◌∙◌, arith, subst}
use Rattle.std.specs.Prelude.{◌≤◌, ◌<◌, length}
use Rattle.wasm_machine.specs.States.{own}
use Rattle.wasm_machine.proofs.Steps.{length-own}
use Rattle.wasm_machine.proofs.LabelLaws.{label-short, branch-room}
use Rattle.wasm_machine.proofs.BranchLaws.{branch-beyond, branch-few, branch-last, branch-goes, arity-within}
use Rattle.wasm_machine.proofs.branches.jump.Goals as goal

pub give_back-requires-clause-within : goal.give_back-requires-clause-within
give_back-requires-clause-within g c = arity-within c.args.s.now c.label-arity.result.arity (length c.args.s.now.operands) _ c.own_count.ensures c.if-own_count-arity.false

pub branch-s-requires : goal.branch-s-requires
branch-s-requires g c = record {
  within = omega (arith, c.if-k-count.false, c.if-k-count-2.false, c.label_count-count.ensures, c.requires.well_formed.frame.labels_within);
  room = branch-room c.args.s.now c.args.l c.requires.well_formed (omega (arith, c.if-k-count.false, c.label_count-count.ensures, c.requires.well_formed.frame.labels_within))
      (subst (λ t. t.arity ≤ length (own c.args.s.now)) c.label-arity.ensures (arity-within c.args.s.now c.label-arity.result.arity (length c.args.s.now.operands) _ c.own_count.ensures c.if-own_count-arity.false));
  place = label-short c.args.s.now.frame.here c.args.s.now.labels c.args.l c.requires.well_formed.short (omega (arith, c.if-k-count.false, c.if-k-count-2.false, c.label_count-count.ensures, c.requires.well_formed.frame.labels_within));
}

pub returns-then-k-count : goal.returns-then-k-count
returns-then-k-count g c = λ m. branch-beyond g.A.Algebra.holds g.A.Algebra.means m c.args.a.now c.args.s.now c.args.l (omega (arith, c.if-k-count.true, c.label_count-count.ensures))

pub returns-then-own_count-arity : goal.returns-then-own_count-arity
returns-then-own_count-arity g c = λ m. branch-few g.A.Algebra.holds g.A.Algebra.means m c.args.a.now c.args.s.now c.args.l c.requires (omega (arith, c.if-k-count.false, c.label_count-count.ensures))
    (subst (λ t. length (own c.args.s.now) < t.arity) c.label-arity.ensures (omega (arith, c.own_count.ensures, length-own c.args.s.now, c.if-own_count-arity.true)))

pub returns-then-k-count-2 : goal.returns-then-k-count-2
returns-then-k-count-2 g c = λ m. branch-last g.A.Algebra.holds g.A.Algebra.means m c.args.a.now c.args.s.now c.give_back.new.s c.args.l c.in_ok-next.next c.requires (c.if-k-count-2.true ∙ c.label_count-count.ensures)
    (subst (λ t. t.arity ≤ length (own c.args.s.now)) c.label-arity.ensures (arity-within c.args.s.now c.label-arity.result.arity (length c.args.s.now.operands) _ c.own_count.ensures c.if-own_count-arity.false))
    (rw (sym c.label-arity.ensures) (c.in_ok-next.ensures m))

pub returns : goal.returns
returns g c = λ m. branch-goes g.A.Algebra.holds g.A.Algebra.means m c.args.a.now c.args.s.now c.branch-s.new.self c.args.l c.requires (omega (arith, c.if-k-count.false, c.if-k-count-2.false, c.label_count-count.ensures))
    (subst (λ t. t.arity ≤ length (own c.args.s.now)) c.label-arity.ensures (arity-within c.args.s.now c.label-arity.result.arity (length c.args.s.now.operands) _ c.own_count.ensures c.if-own_count-arity.false)) c.branch-s.ensures
