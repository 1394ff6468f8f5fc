use Rattle.std.proofs.Common.{◌++◌, get_or, length, ap, sym, refl, subst, arith}
use Rattle.refute_check.specs.code.Alike.{BothAlike}
use Rattle.std.specs.Prelude.{Some}
use Rattle.refute_check.specs.Logs.{result_of}
use Rattle.refute_check.proofs.Chains.{started, goes_on, ended}
use Rattle.refute_check.proofs.resolution.result.Goals as goal

pub loop-number-init : goal.loop-number-init
loop-number-init c = started (c.args.clauses.now ++ c.args.results.now) c.args.chain.now c.in-Some.first.now c.in_ok-literals.literals.keys c.in-Some.ensures c.in_ok-literals.ensures

pub loop-number-preserved : goal.loop-number-preserved
loop-number-preserved c =
    goes_on (c.args.clauses.now ++ c.args.results.now) c.args.chain.now c.loop-number.literals.keys c.resolve.new.literals.keys c.loop-number.number-index c.loop-number.invariant
    c.as_slice-number-items.result.now c.as_slice-number-items.ensures (get_or c.as_slice-number-items.result.now c.loop-number.number-index (0, 0)) (0, 0) c.loop-number-test.true refl
    c.in-Some-numbered.other.now c.in-Some-numbered.ensures (rw c.if-not-branch.false at c.in_ok-resolve.ensures)

pub returns : goal.returns
returns c = subst (λ x. BothAlike (Some x) (result_of (c.args.clauses.now ++ c.args.results.now) c.args.chain.now)) (sym c.in_ok-clause.ensures)
    (ended (c.args.clauses.now ++ c.args.results.now) c.args.chain.now c.loop-number.literals.keys c.loop-number.number-index c.loop-number.invariant (omega (arith, ap (λ ss. length ss) c.as_slice-number-items.ensures)))
