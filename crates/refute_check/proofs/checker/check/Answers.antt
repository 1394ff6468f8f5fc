use Rattle.std.proofs.Common.{◌≡◌, ◌+◌, ◌++◌, ℕ, inl, refl, sym, subst, Err, Result}
use Rattle.std.specs.Prelude.{Some, None}
use Rattle.refute_check.specs.Logs.{IsRefused, result_of}
use Rattle.refute_check.specs.code.Alike.{BothAlike}
use Rattle.refute_check.specs.declared.checker.AcceptBad.{AcceptBad}
use Rattle.refute_check.specs.declared.checker.AcceptBad.TheVariants.{Bad}
use Rattle.refute_check.proofs.Checked.{HasChecked, checked_fails, checked_more}
use Rattle.refute_check.proofs.checker.check.Goals as goal

-- the number is the one that is told
told : (k n : ℕ) (r s : Result (Unit {0}) AcceptBad) → r ≡ Err (Bad k) → s ≡ Err (Bad n) → r ≡ s → k ≡ n
told k n r s e f g = cc

pub returns-in_default-clause-refused : goal.returns-in_default-clause-refused
returns-in_default-clause-refused c = λ number e.
    let here : BothAlike None (result_of (c.args.clauses.now ++ c.as_slice.result.now) c.index-log-number.result) = rw c.in_default.is at c.in_ok-clause.ensures in
    let there : BothAlike None (result_of (c.args.clauses.now ++ c.loop-number.results) c.index-log-number.result) = rw c.as_slice.ensures at here in
    subst (λ k. IsRefused c.args.clauses.now c.args.log.now k) (told c.loop-number.number number _ _ refl refl e)
    (inl (checked_fails c.args.clauses.now c.args.log.now c.loop-number.results c.loop-number.closed c.loop-number.number c.loop-number.invariant c.index-log-number.result c.index-log-number.result c.loop-number-test.true (sym c.index-log-number.is) there))

pub loop-number-preserved : goal.loop-number-preserved
loop-number-preserved c =
    let here : BothAlike (Some c.in-Some.clause) (result_of (c.args.clauses.now ++ c.as_slice.result.now) c.index-log-number.result) = rw c.in-Some.is at c.in_ok-clause.ensures in
    let there : BothAlike (Some c.in-Some.clause) (result_of (c.args.clauses.now ++ c.loop-number.results) c.index-log-number.result) = rw c.as_slice.ensures at here in
    subst (λ rs. HasChecked c.args.clauses.now c.args.log.now rs c.is_empty-closed.result (c.loop-number.number + 1)) (sym c.in_ok-push.ensures.ok)
    (checked_more c.args.clauses.now c.args.log.now c.loop-number.results c.loop-number.closed c.loop-number.number c.loop-number.invariant c.index-log-number.result c.index-log-number.result c.loop-number-test.true (sym c.index-log-number.is) c.in-Some.clause there c.is_empty-closed.result c.is_empty-closed.ensures)
