use Rattle.std.proofs.Common.{ap, ⊎_elim, inl, inr, Err}
use Rattle.refute_check.specs.Logs.{IsAccepted}
use Rattle.refute_check.proofs.Soundness.{accepted_refutes}
use Rattle.refute_check.proofs.Exclusion.{accepted_not_refused}
use Rattle.refute_check.proofs.Verdicts.{refused_accepts, refused_refuses}
use Rattle.refute_check.proofs.checker.accept.Goals as goal

pub invariant_of-result : goal.invariant_of-result
invariant_of-result c =
    let here : IsAccepted c.args.cnf.clauses c.args.log = rw (c.as_slice.ensures, c.as_slice-2.ensures) at c.in-Ok.ensures.accepted in
    record { accepted = ∣ here ∣₁; refuted = accepted_refutes _ _ here }

pub returns-in-Ok-clause-refuses : goal.returns-in-Ok-clause-refuses
returns-in-Ok-clause-refuses c = λ number refused.
    let here : IsAccepted c.args.cnf.clauses c.args.log = rw (c.as_slice.ensures, c.as_slice-2.ensures) at c.in-Ok.ensures.accepted in
    absurd (accepted_not_refused _ _ here number refused)

pub returns-in-Err-clause-accepts : goal.returns-in-Err-clause-accepts
returns-in-Err-clause-accepts c = refused_accepts c.args.cnf.clauses c.args.log c.in-Err.bad
    (λ number e. rw (c.as_slice.ensures, c.as_slice-2.ensures) at (c.in-Err.ensures.refused number (ap (λ bad. Err bad) e)))

pub returns-in-Err-clause-refuses : goal.returns-in-Err-clause-refuses
returns-in-Err-clause-refuses c = λ number refused.
    ⊎_elim (λ e. inl (ap (λ bad. Err bad) e)) (λ e. inr (ap (λ bad. Err bad) e))
    (refused_refuses c.args.cnf.clauses c.args.log c.in-Err.bad
    (λ number e. rw (c.as_slice.ensures, c.as_slice-2.ensures) at (c.in-Err.ensures.refused number (ap (λ bad. Err bad) e))) number refused)

pub returns-in-Ok-clause-unsatisfiable : goal.returns-in-Ok-clause-unsatisfiable
returns-in-Ok-clause-unsatisfiable c =
    let here : IsAccepted c.args.cnf.clauses c.args.log = rw (c.as_slice.ensures, c.as_slice-2.ensures) at c.in-Ok.ensures.accepted in
    accepted_refutes _ _ here
