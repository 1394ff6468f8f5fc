-- Where a log is accepted no assignment meets the clauses.
use Rattle.std.proofs.Common.{◌≡◌, ℕ, zero, suc, List, [], ◌∷◌, ◌++◌, refl, sym, ap, ◌∙◌, subst}
use Rattle.std.specs.Prelude.{Option, Some, None, Bool, true, false, ◌==◌, ◌&&◌, if◌then◌else◌, slice_get}
use Rattle.std.specs.Option.{option_and_then}
use Rattle.std.proofs.lemmas.Bool.{eqb-true, true≢false}
use Rattle.refute_check.specs.Clauses.{Clause, Assignment, Satisfies, SatisfiesAll, IsUnsatisfiable, positive, negative, variable_of, sign_of}
use Rattle.refute_check.specs.Resolution.{has, joined, resolvent}
use Rattle.refute_check.specs.Logs.{after_step, after_steps, result_of, Leads, IsAccepted}
use Rattle.refute_check.specs.declared.logs.Chain.{Chain}
use Rattle.refute_check.proofs.Membership.{has-holds, holds-has, in_first, in_second, variable-positive, variable-negative, sign-positive, sign-negative}

-- the assignment makes this literal true
abbrev pub MakesTrue : Assignment → ℕ → Type 0
MakesTrue a l = a (variable_of l) ≡ sign_of l

pub opposed : (a : Assignment) (v : ℕ) → MakesTrue a (positive v) → MakesTrue a (negative v) → ⊥
opposed a v h k = true≢false (sym (sign-positive v) ∙ sym h ∙ ap (λ v. a v) (variable-positive v ∙ sym (variable-negative v)) ∙ k ∙ sign-negative v)

joined-meets : (a : Assignment) (p n : ℕ) → (MakesTrue a p → MakesTrue a n → ⊥) → (c d : Clause) → Satisfies a c → Satisfies a d → Satisfies a (joined p n c d)
joined-meets a p n never c d h k = first (h.0 == p) refl
  where
    second : h.0 ≡ p → (b : Bool) → (k.0 == n) ≡ b → Satisfies a (joined p n c d)
    second e true f = absurd (never (subst (λ l. MakesTrue a l) e h.2) (subst (λ l. MakesTrue a l) (eqb-true k.0 n f) k.2))
    second e false f = (k.0, has-holds _ k.0 (in_second p n c d k.0 (holds-has d k.0 k.1) f), k.2)

    first : (b : Bool) → (h.0 == p) ≡ b → Satisfies a (joined p n c d)
    first true e = second (eqb-true h.0 p e) (k.0 == n) refl
    first false e = (h.0, has-holds _ h.0 (in_first p n c d h.0 (holds-has c h.0 h.1) e), h.2)

-- what two clauses resolve to keeps each fact that the two joins keep
pub resolvent-keeps : (Q : Clause → Type 0) (c d r : Clause) (v : ℕ) → Q (joined (positive v) (negative v) c d) → Q (joined (negative v) (positive v) c d) → resolvent c d v ≡ Some r → Q r
resolvent-keeps Q c d r v h k e = go (has c (positive v) && has d (negative v)) (has c (negative v) && has d (positive v)) e
  where
    some : (x : Clause) → Q x → Some x ≡ Some r → Q r
    some x q e = let f : x ≡ r = cc in subst Q f q

    go : (b t : Bool) → (if b then Some (joined (positive v) (negative v) c d) else (if t then Some (joined (negative v) (positive v) c d) else None)) ≡ Some r → Q r
    go true t e = some _ h e
    go false true e = some _ k e
    go false false e = cc

pub resolvent-meets : (a : Assignment) (c d r : Clause) (v : ℕ) → Satisfies a c → Satisfies a d → resolvent c d v ≡ Some r → Satisfies a r
resolvent-meets a c d r v h k e = resolvent-keeps (Satisfies a) c d r v
    (joined-meets a (positive v) (negative v) (opposed a v) c d h k)
    (joined-meets a (negative v) (positive v) (λ x y. opposed a v y x) c d h k) e

pub then_some : {A B : Type 0} (f : A → Option B) (o : Option A) (y : B) → option_and_then f o ≡ Some y → (x : A) × (o ≡ Some x) × (f x ≡ Some y)
then_some f None y e = cc
then_some f (Some x) y e = (x, refl, e)

pub get-meets : (a : Assignment) (cs : List Clause) (k : ℕ) (c : Clause) → SatisfiesAll a cs → slice_get cs k ≡ Some c → Satisfies a c
get-meets a [] k c h e = cc
get-meets a (d ∷ cs) zero c h e = let f : d ≡ c = cc in subst (λ c. Satisfies a c) f h.0
get-meets a (d ∷ cs) (suc k) c h e = get-meets a cs k c h.1 e

pub step-meets : (a : Assignment) (cs : List Clause) → SatisfiesAll a cs → (s : ℕ × ℕ) (c r : Clause) → Satisfies a c → after_step cs s c ≡ Some r → Satisfies a r
step-meets a cs all s c r h e =
    let d : (d : Clause) × (slice_get cs s.0 ≡ Some d) × (resolvent c d s.1 ≡ Some r) = then_some (λ d. resolvent c d s.1) (slice_get cs s.0) r e in
    resolvent-meets a c d.0 r s.1 h (get-meets a cs s.0 d.0 all d.1) d.2

steps-meet : (a : Assignment) (cs : List Clause) → SatisfiesAll a cs → (ss : List (ℕ × ℕ)) (c r : Clause) → Satisfies a c → after_steps cs ss c ≡ Some r → Satisfies a r
steps-meet a cs all [] c r h e = let f : c ≡ r = cc in subst (λ c. Satisfies a c) f h
steps-meet a cs all (s ∷ ss) c r h e =
    let x : (x : Clause) × (after_step cs s c ≡ Some x) × (after_steps cs ss x ≡ Some r) = then_some (λ x. after_steps cs ss x) (after_step cs s c) r e in
    steps-meet a cs all ss x.0 r (step-meets a cs all s c x.0 h x.1) x.2

pub result-meets : (a : Assignment) (cs : List Clause) → SatisfiesAll a cs → (h : Chain) (r : Clause) → result_of cs h ≡ Some r → Satisfies a r
result-meets a cs all h r e =
    let c : (c : Clause) × (slice_get cs h.start ≡ Some c) × (after_steps cs h.steps c ≡ Some r) = then_some (λ c. after_steps cs h.steps c) (slice_get cs h.start) r e in
    steps-meet a cs all h.steps c.0 r (get-meets a cs h.start c.0 all c.1) c.2

pub meets_all-append : (a : Assignment) (cs : List Clause) (r : Clause) → SatisfiesAll a cs → Satisfies a r → SatisfiesAll a (cs ++ r ∷ [])
meets_all-append a [] r h k = (k, tt)
meets_all-append a (c ∷ cs) r h k = (h.0, meets_all-append a cs r h.1 k)

leads-meet : (a : Assignment) (cs : List Clause) (log : List Chain) (all : List Clause) → Leads cs log all → SatisfiesAll a cs → SatisfiesAll a all
leads-meet a cs [] all l h = subst (λ cs. SatisfiesAll a cs) (sym l) h
leads-meet a cs (chain ∷ log) all l h = leads-meet a (cs ++ l.0 ∷ []) log all l.2 (meets_all-append a cs l.0 h (result-meets a cs h chain l.0 l.1))

-- no assignment meets clauses that a log refutes
pub accepted_refutes : (cs : List Clause) (log : List Chain) → IsAccepted cs log → IsUnsatisfiable cs
accepted_refutes cs log h a all = (result-meets a h.before (leads-meet a cs h.front h.before h.leads all) h.last [] h.empty).1
