-- Each question has one verdict, and that is right.
use Rattle.std.proofs.Common.{◌≡◌, ℕ, Bool, List, None, refl, sym, ap, ◌∙◌, subst}
use Rattle.std.proofs.Math.Logic.{∥∥₁_prop}
use mathlib.Core.HLevel.{Π_prop, ⊥_prop}
use Rattle.refute_check.specs.Clauses.{Clause, IsUnsatisfiable}
use Rattle.refute_check.specs.Logs.{IsAccepted}
use Rattle.refute_check.specs.declared.formulas.Cnf.{Cnf}
use Rattle.refute_check.specs.declared.logs.Chain.{Chain}
use Rattle.refute_check.specs.declared.refutation.Refutation.{Refutation}
use Rattle.refute_check.proofs.Soundness.{accepted_refutes}
use Rattle.clause_solver.specs.Answers.{assignment_of, IsAnswer}
use Rattle.clause_solver.specs.declared.answer.Answer.{Answer}
use Rattle.clause_solver.specs.declared.answer.Answer.TheVariants.{Model, Refuted, Spent}
use Rattle.clause_solver.proofs.OneAnswer.{some_answer, one_answer}
use Rattle.clause_solver.proofs.Models.{answer_is_right}
use Rattle.bit_blast.specs.Formulas.{Condition, formula}
use Rattle.bit_blast.specs.Meanings.{input_of, AreProper}
use Rattle.path_ask.specs.Verdicts.{SomeMeets, IsLeastInput, IsVerdict}
use Rattle.path_ask.specs.declared.verdicts.Verdict.{Verdict}
use Rattle.path_ask.specs.declared.verdicts.Verdict.TheVariants.{Least, Dropped, Undecided}
use Rattle.path_ask.proofs.VerdictLemmas.{formula_ok, none_meets, least_input}

pub log_accepted : (conditions : List Condition) (draws : List Bool) (bound : ℕ) (log : List Chain) → AreProper draws conditions → IsAnswer (formula conditions draws None) bound (Refuted log)
    → IsAccepted (formula conditions draws None).clauses log
log_accepted conditions draws bound log proper a = answer_is_right (formula conditions draws None) bound (formula_ok conditions draws None proper tt) (Refuted log) a

pub input_is_least : (conditions : List Condition) (draws : List Bool) (bound : ℕ) (input : List ℕ) → AreProper draws conditions → IsVerdict conditions draws bound (Least input) → IsLeastInput conditions draws input
input_is_least conditions draws bound input proper v =
    least_input conditions draws proper v.0 (answer_is_right (formula conditions draws None) bound (formula_ok conditions draws None proper tt) (Model v.0) v.1) input v.2

pub none_do_meet : (conditions : List Condition) (draws : List Bool) (bound : ℕ) (refutation : Refutation) → AreProper draws conditions → IsVerdict conditions draws bound (Dropped refutation) → SomeMeets conditions draws → ⊥
none_do_meet conditions draws bound refutation proper v some =
    none_meets conditions draws None proper tt (accepted_refutes (formula conditions draws None).clauses refutation.log (log_accepted conditions draws bound refutation.log proper v.0)) some

pub some_verdict : (conditions : List Condition) (draws : List Bool) (bound : ℕ) → AreProper draws conditions → (verdict : Verdict) × IsVerdict conditions draws bound verdict
some_verdict conditions draws bound proper = go a.0 a.1
  where
    a : (answer : Answer) × IsAnswer (formula conditions draws None) bound answer
    a = some_answer (formula conditions draws None) bound (formula_ok conditions draws None proper tt)

    go : (answer : Answer) → IsAnswer (formula conditions draws None) bound answer → (verdict : Verdict) × IsVerdict conditions draws bound verdict
    go (Model values) h = (Least (input_of (assignment_of values) draws), (values, h, refl))
    go (Refuted log) h =
        let accepted = log_accepted conditions draws bound log proper h in
        (Dropped (record { cnf = formula conditions draws None; log = log; accepted = ∣ accepted ∣₁; refuted = accepted_refutes (formula conditions draws None).clauses log accepted }), (h, refl))
    go Spent h = (Undecided, h)

-- two refutations of one formula by one log are one
same_refutation : (r s : Refutation) → r.cnf ≡ s.cnf → r.log ≡ s.log → r ≡ s
same_refutation r s e f =
    subst (λ (x : Cnf × List Chain). (a : ∥ IsAccepted x.0.clauses x.1 ∥₁) (u : IsUnsatisfiable x.0.clauses) → r ≡ record { cnf = x.0; log = x.1; accepted = a; refuted = u })
    (ap (λ (c : Cnf). (c, r.log)) e ∙ ap (λ (l : List Chain). (s.cnf, l)) f) here s.accepted s.refuted
  where
    none : (u v : IsUnsatisfiable r.cnf.clauses) → u ≡ v
    none u v = Π_prop (λ a. Π_prop (λ m. ⊥_prop)) u v

    here : (a : ∥ IsAccepted r.cnf.clauses r.log ∥₁) (u : IsUnsatisfiable r.cnf.clauses) → r ≡ record { cnf = r.cnf; log = r.log; accepted = a; refuted = u }
    here a u =
        ap (λ (b : ∥ IsAccepted r.cnf.clauses r.log ∥₁). record { cnf = r.cnf; log = r.log; accepted = b; refuted = r.refuted }) (∥∥₁_prop r.accepted a)
        ∙ ap (λ (v : IsUnsatisfiable r.cnf.clauses). record { cnf = r.cnf; log = r.log; accepted = a; refuted = v }) (none r.refuted u)

pub one_verdict : (conditions : List Condition) (draws : List Bool) (bound : ℕ) (v w : Verdict) → IsVerdict conditions draws bound v → IsVerdict conditions draws bound w → v ≡ w
one_verdict conditions draws bound (Least xs) (Least ys) h k =
    let e : Model h.0 ≡ Model k.0 = one_answer (formula conditions draws None) bound (Model h.0) (Model k.0) h.1 k.1 in
    let f : h.0 ≡ k.0 = cc in
    ap (λ (ns : List ℕ). Least ns) (h.2 ∙ ap (λ (vs : List Bool). input_of (assignment_of vs) draws) f ∙ sym k.2)
one_verdict conditions draws bound (Least xs) (Dropped s) h k = let e = one_answer (formula conditions draws None) bound (Model h.0) (Refuted s.log) h.1 k.0 in cc
one_verdict conditions draws bound (Least xs) Undecided h k = let e = one_answer (formula conditions draws None) bound (Model h.0) Spent h.1 k in cc
one_verdict conditions draws bound (Dropped r) (Least ys) h k = let e = one_answer (formula conditions draws None) bound (Refuted r.log) (Model k.0) h.0 k.1 in cc
one_verdict conditions draws bound (Dropped r) (Dropped s) h k =
    let e : Refuted r.log ≡ Refuted s.log = one_answer (formula conditions draws None) bound (Refuted r.log) (Refuted s.log) h.0 k.0 in
    let f : r.log ≡ s.log = cc in
    ap (λ (x : Refutation). Dropped x) (same_refutation r s (h.1 ∙ sym k.1) f)
one_verdict conditions draws bound (Dropped r) Undecided h k = let e = one_answer (formula conditions draws None) bound (Refuted r.log) Spent h.0 k in cc
one_verdict conditions draws bound Undecided (Least ys) h k = let e = one_answer (formula conditions draws None) bound Spent (Model k.0) h k.1 in cc
one_verdict conditions draws bound Undecided (Dropped s) h k = let e = one_answer (formula conditions draws None) bound Spent (Refuted s.log) h k.0 in cc
one_verdict conditions draws bound Undecided Undecided h k = refl
