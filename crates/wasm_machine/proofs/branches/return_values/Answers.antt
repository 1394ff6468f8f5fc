use Rattle.std.proofs.Common.{sym, subst, arith}
use Rattle.std.specs.Prelude.{◌≤◌, length}
use Rattle.wasm_machine.specs.States.{own}
use Rattle.wasm_machine.specs.Acts.{Sane}
use Rattle.wasm_machine.proofs.Steps.{length-own}
use Rattle.wasm_machine.proofs.Images.{sane-passed}
use Rattle.wasm_machine.proofs.BranchLaws.{return-few, return-goes}
use Rattle.wasm_machine.proofs.branches.return_values.Goals as goal

pub give_back-requires : goal.give_back-requires
give_back-requires g c = record {
  sane = subst (λ s. Sane g.A.Algebra.holds c.args.a.now s) (sym c.pass.ensures) (sane-passed g.A.Algebra.holds c.args.a.now c.args.s.now c.requires.sane);
  within = subst (λ s. c.frame_arity-arity.result ≤ length (own s)) (sym c.pass.ensures) (omega (arith, c.own_count.ensures, length-own c.args.s.now, c.if-own_count-arity.false));
}

pub returns-then-own_count-arity : goal.returns-then-own_count-arity
returns-then-own_count-arity g c = λ m. return-few g.A.Algebra.holds g.A.Algebra.means g.A.Algebra.kind m c.args.a.now c.args.s.now (omega (arith, c.own_count.ensures, length-own c.args.s.now, c.if-own_count-arity.true, c.frame_arity-arity.ensures))

pub returns : goal.returns
returns g c = λ m. return-goes g.A.Algebra.holds g.A.Algebra.means g.A.Algebra.kind m c.args.a.now c.args.s.now c.pass.new.self c.give_back.new.s c.frame_arity-arity.result c.in_ok-next.next c.frame_arity-arity.ensures
    (omega (arith, c.own_count.ensures, length-own c.args.s.now, c.if-own_count-arity.false)) c.pass.ensures (c.in_ok-next.ensures m)
