-- How far a chain has come.
use Rattle.std.proofs.Common.{◌≡◌, ◌<◌, ◌≤◌, ◌^◌, ◌+◌, ℕ, zero, suc, List, [], ◌∷◌, length, drop, get_or, refl, sym, ap, ◌∙◌, subst, arith}
use Rattle.std.specs.Prelude.{Option, Some, None, Bool, true, false, ◌&&◌, ◌||◌, if◌then◌else◌, slice_get}
use Rattle.std.specs.Option.{option_and_then}
use Rattle.refute_check.specs.Clauses.{Clause, positive, negative}
use Rattle.refute_check.specs.Resolution.{has, joined, resolvent}
use Rattle.refute_check.specs.Logs.{after_step, after_steps, result_of}
use Rattle.refute_check.specs.code.Alike.{AreAlike, BothAlike}
use Rattle.refute_check.specs.declared.logs.Chain.{Chain}
use Rattle.refute_check.proofs.Membership.{other_literal}
use Rattle.refute_check.proofs.Alikes.{resolvent-alike, some_alike}

-- ---- one resolution

and_false : (b : Bool) → (b && false) ≡ false
and_false true = refl
and_false false = refl

pub first_way : (x c d : Clause) (v : ℕ) → (has c (positive v) && has d (negative v)) ≡ true → AreAlike x (joined (positive v) (negative v) c d) → BothAlike (Some x) (resolvent c d v)
first_way x c d v e h = subst (λ (o : Option Clause). BothAlike (Some x) o) (sym (ap (λ b. if b then Some (joined (positive v) (negative v) c d) else (if has c (negative v) && has d (positive v) then Some (joined (negative v) (positive v) c d) else None)) e)) h

pub second_way : (x c d : Clause) (v : ℕ) → (has c (positive v) && has d (negative v)) ≡ false → (has c (negative v) && has d (positive v)) ≡ true → AreAlike x (joined (negative v) (positive v) c d) → BothAlike (Some x) (resolvent c d v)
second_way x c d v e f h = subst (λ (o : Option Clause). BothAlike (Some x) o)
    (sym (ap (λ b. if b then Some (joined (positive v) (negative v) c d) else (if has c (negative v) && has d (positive v) then Some (joined (negative v) (positive v) c d) else None)) e
    ∙ ap (λ b. if b then Some (joined (negative v) (positive v) c d) else None) f)) h

pub no_way : (c d : Clause) (v : ℕ) → (has c (positive v) && has d (negative v)) ≡ false → (has c (negative v) && has d (positive v)) ≡ false → resolvent c d v ≡ None
no_way c d v e f =
    ap (λ b. if b then Some (joined (positive v) (negative v) c d) else (if has c (negative v) && has d (positive v) then Some (joined (negative v) (positive v) c d) else None)) e
    ∙ ap (λ b. if b then Some (joined (negative v) (positive v) c d) else None) f

has-far : (d : Clause) → ((i : ℕ) → get_or d i 0 < 2 ^ 64) → (l : ℕ) → 2 ^ 64 ≤ l → has d l ≡ false
has-far [] h l far = refl
has-far (k ∷ d) h l far = ap (λ b. b || has d l) (other_literal k l (λ e. omega (arith, h 0, far, e))) ∙ has-far d (λ i. h (suc i)) l far

-- a clause of words holds no literal of a variable that is too large for them
pub far_variable : (c d : Clause) → ((i : ℕ) → get_or d i 0 < 2 ^ 64) → (v : ℕ) → 2 ^ 63 ≤ v → resolvent c d v ≡ None
far_variable c d h v far = no_way c d v
    (ap (λ b. has c (positive v) && b) (has-far d h (negative v) (omega (arith, far))) ∙ and_false _)
    (ap (λ b. has c (negative v) && b) (has-far d h (positive v) (omega (arith, far))) ∙ and_false _)

-- ---- the steps of a chain

-- after so many steps the chain has come to a clause that holds these literals
pub record HasCome (all : List Clause) (chain : Chain) (literals : Clause) (count : ℕ) : Type 0 where
  pub clause : Clause
  pub alike : AreAlike literals clause
  pub rest : result_of all chain ≡ after_steps all (drop count chain.steps) clause

pub started : (all : List Clause) (chain : Chain) (first literals : Clause) → Some first ≡ slice_get all chain.start → AreAlike literals first → HasCome all chain literals 0
started all chain first literals e h = record { clause = first; alike = h; rest = ap (λ o. option_and_then (λ c. after_steps all chain.steps c) o) (sym e) }

next : (all : List Clause) (chain : Chain) (literals : Clause) (count : ℕ) (h : HasCome all chain literals count) (ss : List (ℕ × ℕ)) → ss ≡ chain.steps → (s d : ℕ × ℕ) → count < length ss → get_or ss count d ≡ s →
    result_of all chain ≡ option_and_then (λ x. after_steps all (drop (count + 1) chain.steps) x) (after_step all s h.clause)
next all chain literals count h ss same s d l e = h.rest ∙ ap (λ ss. after_steps all ss h.clause) (ap (λ ss. drop count ss) (sym same) ∙ parts ss count s d l e ∙ later ∙ ap (λ ss. s ∷ drop (count + 1) ss) same)
  where
    plus : suc count ≡ count + 1
    plus = omega arith

    later : s ∷ drop (suc count) ss ≡ s ∷ drop (count + 1) ss
    later = ap (λ i. s ∷ drop i ss) plus

    parts : (ss : List (ℕ × ℕ)) (i : ℕ) (s d : ℕ × ℕ) → i < length ss → get_or ss i d ≡ s → drop i ss ≡ s ∷ drop (suc i) ss
    parts [] i s d l e = absurd (omega (arith, l))
    parts (x ∷ ss) zero s d l e = ap (λ x. x ∷ ss) e
    parts (x ∷ ss) (suc i) s d l e = parts ss i s d (omega (arith, l)) e

pub unknown : (all : List Clause) (chain : Chain) (literals : Clause) (count : ℕ) → HasCome all chain literals count → (ss : List (ℕ × ℕ)) → ss ≡ chain.steps → (s d : ℕ × ℕ) → count < length ss → get_or ss count d ≡ s →
    None ≡ slice_get all s.0 → BothAlike None (result_of all chain)
unknown all chain literals count h ss same s d l e f =
    let t : after_step all s h.clause ≡ None = ap (λ o. option_and_then (λ x. resolvent h.clause x s.1) o) (sym f) in
    subst (λ (o : Option Clause). BothAlike None o) (sym (next all chain literals count h ss same s d l e ∙ ap (λ o. option_and_then (λ x. after_steps all (drop (count + 1) chain.steps) x) o) t)) tt

pub goes_on : (all : List Clause) (chain : Chain) (literals after : Clause) (count : ℕ) → HasCome all chain literals count → (ss : List (ℕ × ℕ)) → ss ≡ chain.steps → (s d : ℕ × ℕ) → count < length ss → get_or ss count d ≡ s →
    (other : Clause) → Some other ≡ slice_get all s.0 → BothAlike (Some after) (resolvent literals other s.1) → HasCome all chain after (count + 1)
goes_on all chain literals after count h ss same s d l e other f g =
    let r : (x : Clause) × (resolvent literals other s.1 ≡ Some x) × AreAlike after x = some_alike after (resolvent literals other s.1) g in
    let b : BothAlike (Some r.0) (resolvent h.clause other s.1) = subst (λ o. BothAlike o (resolvent h.clause other s.1)) r.1 (resolvent-alike literals h.clause other other s.1 h.alike (λ q. refl)) in
    let y : (y : Clause) × (resolvent h.clause other s.1 ≡ Some y) × AreAlike r.0 y = some_alike r.0 (resolvent h.clause other s.1) b in
    let t : after_step all s h.clause ≡ Some y.0 = ap (λ o. option_and_then (λ x. resolvent h.clause x s.1) o) (sym f) ∙ y.1 in
    record { clause = y.0; alike = λ q. r.2 q ∙ y.2 q; rest = next all chain literals count h ss same s d l e ∙ ap (λ o. option_and_then (λ x. after_steps all (drop (count + 1) chain.steps) x) o) t }

pub ended : (all : List Clause) (chain : Chain) (literals : Clause) (count : ℕ) → HasCome all chain literals count → length chain.steps ≤ count → BothAlike (Some literals) (result_of all chain)
ended all chain literals count h l =
    subst (λ (o : Option Clause). BothAlike (Some literals) o) (sym (h.rest ∙ ap (λ ss. after_steps all ss h.clause) (none chain.steps count l))) h.alike
  where
    none : (ss : List (ℕ × ℕ)) (i : ℕ) → length ss ≤ i → drop i ss ≡ []
    none [] zero l = refl
    none [] (suc i) l = refl
    none (x ∷ ss) zero l = absurd (omega (arith, l))
    none (x ∷ ss) (suc i) l = none ss i (omega (arith, l))
