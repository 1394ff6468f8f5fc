-- An analysis, a step at a time.
use Rattle.std.proofs.Common.{◌≡◌, ◌+◌, ℕ, zero, suc, List, [], ◌∷◌, ◌++◌, drop, refl, sym, ap, ◌∙◌, arith, append_assoc}
use Rattle.std.specs.Prelude.{Option, Some, None, Bool, true, false, if◌then◌else◌, slice_get}
use Rattle.std.proofs.lemmas.List.{append-nil}
use Rattle.refute_check.specs.Clauses.{Clause, variable_of}
use Rattle.refute_check.specs.Logs.{after_step}
use Rattle.refute_check.specs.Resolution.{each_once}
use Rattle.clause_solver.specs.code.Literals.{clause_now}
use Rattle.clause_solver.proofs.Joins.{after_once, once_once}
use Rattle.clause_solver.proofs.Counts.{has_variable_once}
use Rattle.refute_check.specs.Machine.{Entry, Trail, Learnt, stays, and_before, has_variable, resolved_with, by_reason, analysed}

-- what is learnt, with these steps before
abbrev pub after_these : List (ℕ × ℕ) → Learnt → Learnt
after_these steps learnt = record { clause = learnt.clause; steps = steps ++ learnt.steps }

-- the analysis has come to this clause by these steps
abbrev pub HasCome : List Clause → (Clause → Bool) → Trail → Clause → ℕ → Clause → List (ℕ × ℕ) → Type 0
HasCome clauses enough trail first after clause steps =
    analysed clauses enough trail first ≡ after_these steps (analysed clauses enough (drop after trail) clause)

pub come_none : (cs : List Clause) (enough : Clause → Bool) (t : Trail) (c : Clause) → HasCome cs enough t c 0 c []
come_none cs enough t c = refl

-- it is far enough
pub stopped : (cs : List Clause) (enough : Clause → Bool) (u : Trail) (c : Clause) → enough c ≡ true → analysed cs enough u c ≡ stays c
stopped cs enough [] c e = refl
stopped cs enough (x ∷ u) c e = ap (λ b. if b then stays c else (if has_variable (variable_of x.literal) c then by_reason cs x.reason (variable_of x.literal) c (λ r. analysed cs enough u r) else analysed cs enough u c)) e

pub at_entry : (t : Trail) (i : ℕ) (e : Entry) → slice_get t i ≡ Some e → drop i t ≡ e ∷ drop (i + 1) t
at_entry t i e h = go t i h ∙ ap (λ i. e ∷ drop i t) plus
  where
    plus : suc i ≡ i + 1
    plus = omega arith

    go : (t : Trail) (i : ℕ) → slice_get t i ≡ Some e → drop i t ≡ e ∷ drop (suc i) t
    go [] i h = cc
    go (x ∷ t) zero h = let f : x ≡ e = cc in ap (λ x. x ∷ t) f
    go (x ∷ t) (suc i) h = go t i h

-- the entry's reason doesn't resolve
pub stuck : (cs : List Clause) (enough : Clause → Bool) (e : Entry) (u : Trail) (c : Clause) → enough c ≡ false → has_variable (variable_of e.literal) c ≡ true →
    ((on : Clause → Learnt) → by_reason cs e.reason (variable_of e.literal) c on ≡ stays c) → analysed cs enough (e ∷ u) c ≡ stays c
stuck cs enough e u c f g h =
    ap (λ b. if b then stays c else (if has_variable (variable_of e.literal) c then by_reason cs e.reason (variable_of e.literal) c (λ r. analysed cs enough u r) else analysed cs enough u c)) f
    ∙ ap (λ b. if b then by_reason cs e.reason (variable_of e.literal) c (λ r. analysed cs enough u r) else analysed cs enough u c) g ∙ h (λ r. analysed cs enough u r)

stepped : (cs : List Clause) (enough : Clause → Bool) (e : Entry) (u : Trail) (c : Clause) → enough c ≡ false → has_variable (variable_of e.literal) c ≡ true →
    (k : ℕ) (r : Clause) → e.reason ≡ Some k → after_step cs (k, variable_of e.literal) c ≡ Some r → analysed cs enough (e ∷ u) c ≡ and_before (k, variable_of e.literal) (analysed cs enough u r)
stepped cs enough e u c f g k r i s =
    ap (λ b. if b then stays c else (if has_variable (variable_of e.literal) c then by_reason cs e.reason (variable_of e.literal) c (λ r. analysed cs enough u r) else analysed cs enough u c)) f
    ∙ ap (λ b. if b then by_reason cs e.reason (variable_of e.literal) c (λ r. analysed cs enough u r) else analysed cs enough u c) g
    ∙ ap (λ o. by_reason cs o (variable_of e.literal) c (λ r. analysed cs enough u r)) i
    ∙ ap (λ o. resolved_with o (k, variable_of e.literal) c (λ r. analysed cs enough u r)) s

skipped : (cs : List Clause) (enough : Clause → Bool) (e : Entry) (u : Trail) (c : Clause) → enough c ≡ false → has_variable (variable_of e.literal) c ≡ false → analysed cs enough (e ∷ u) c ≡ analysed cs enough u c
skipped cs enough e u c f g =
    ap (λ b. if b then stays c else (if has_variable (variable_of e.literal) c then by_reason cs e.reason (variable_of e.literal) c (λ r. analysed cs enough u r) else analysed cs enough u c)) f
    ∙ ap (λ b. if b then by_reason cs e.reason (variable_of e.literal) c (λ r. analysed cs enough u r) else analysed cs enough u c) g

pub come_step : (cs : List Clause) (enough : Clause → Bool) (t : Trail) (first : Clause) (i : ℕ) (c : Clause) (steps : List (ℕ × ℕ)) → HasCome cs enough t first i c steps →
    (e : Entry) → slice_get t i ≡ Some e → enough c ≡ false → has_variable (variable_of e.literal) c ≡ true → (k : ℕ) (r : Clause) → e.reason ≡ Some k → after_step cs (k, variable_of e.literal) c ≡ Some r →
    HasCome cs enough t first (i + 1) r (steps ++ (k, variable_of e.literal) ∷ [])
come_step cs enough t first i c steps h e at f g k r j s =
    h ∙ ap (λ u. after_these steps (analysed cs enough u c)) (at_entry t i e at)
    ∙ ap (λ l. after_these steps l) (stepped cs enough e (drop (i + 1) t) c f g k r j s)
    ∙ sym (ap (λ ss. learnt_of ss) (append_assoc steps ((k, variable_of e.literal) ∷ []) l.steps))
  where
    l : Learnt
    l = analysed cs enough (drop (i + 1) t) r

    learnt_of : List (ℕ × ℕ) → Learnt
    learnt_of ss = record { clause = l.clause; steps = ss }

pub come_skip : (cs : List Clause) (enough : Clause → Bool) (t : Trail) (first : Clause) (i : ℕ) (c : Clause) (steps : List (ℕ × ℕ)) → HasCome cs enough t first i c steps →
    (e : Entry) → slice_get t i ≡ Some e → enough c ≡ false → has_variable (variable_of e.literal) c ≡ false → HasCome cs enough t first (i + 1) c steps
come_skip cs enough t first i c steps h e at f g =
    h ∙ ap (λ u. after_these steps (analysed cs enough u c)) (at_entry t i e at) ∙ ap (λ l. after_these steps l) (skipped cs enough e (drop (i + 1) t) c f g)

-- where it stays, this is what the whole analysis gives
pub come_end : (cs : List Clause) (enough : Clause → Bool) (t : Trail) (first : Clause) (i : ℕ) (c : Clause) (steps : List (ℕ × ℕ)) → HasCome cs enough t first i c steps →
    analysed cs enough (drop i t) c ≡ stays c → (c ≡ (analysed cs enough t first).clause) × (steps ≡ (analysed cs enough t first).steps)
come_end cs enough t first i c steps h e =
    let f : analysed cs enough t first ≡ after_these steps (stays c) = h ∙ ap (λ l. after_these steps l) e in
    (sym (ap (λ l. l.clause) f), sym (append-nil steps) ∙ sym (ap (λ l. l.steps) f))

pub come_stuck : (cs : List Clause) (enough : Clause → Bool) (t : Trail) (first : Clause) (i : ℕ) (c : Clause) (steps : List (ℕ × ℕ)) → HasCome cs enough t first i c steps →
    (e : Entry) → slice_get t i ≡ Some e → enough c ≡ false → has_variable (variable_of e.literal) c ≡ true → ((on : Clause → Learnt) → by_reason cs e.reason (variable_of e.literal) c on ≡ stays c) →
    (c ≡ (analysed cs enough t first).clause) × (steps ≡ (analysed cs enough t first).steps)
come_stuck cs enough t first i c steps h e at f g k =
    come_end cs enough t first i c steps h (ap (λ u. analysed cs enough u c) (at_entry t i e at) ∙ stuck cs enough e (drop (i + 1) t) c f g k)

-- ---- the clause so far is what it was at first, or the literals

-- the clause so far, whose literals are these
abbrev pub IsKeptBy : List (ℕ × ℕ) → Clause → Clause → Type 0
IsKeptBy steps first literals = each_once (clause_now steps first literals) ≡ literals

pub now_stepped : (ss : List (ℕ × ℕ)) (s : ℕ × ℕ) (c ls : Clause) → clause_now (ss ++ s ∷ []) c ls ≡ ls
now_stepped [] s c ls = refl
now_stepped (r ∷ ss) s c ls = refl

pub now_after : (cs : List Clause) (s : ℕ × ℕ) (ss : List (ℕ × ℕ)) (c ls : Clause) → IsKeptBy ss c ls → after_step cs s (clause_now ss c ls) ≡ after_step cs s ls
now_after cs s ss c ls k = sym (after_once cs s (clause_now ss c ls)) ∙ ap (λ x. after_step cs s x) k

pub now_has : (v : ℕ) (ss : List (ℕ × ℕ)) (c ls : Clause) → IsKeptBy ss c ls → has_variable v (clause_now ss c ls) ≡ has_variable v ls
now_has v ss c ls k = sym (has_variable_once v (clause_now ss c ls)) ∙ ap (λ x. has_variable v x) k

pub now_once : (ss : List (ℕ × ℕ)) (c ls : Clause) → IsKeptBy ss c ls → each_once ls ≡ ls
now_once ss c ls k = ap (λ x. each_once x) (sym k) ∙ once_once (clause_now ss c ls) ∙ k

-- no reason resolves
pub no_step : (cs : List Clause) (v : ℕ) (c : Clause) (r : Option ℕ) → ((k : ℕ) → r ≡ Some k → after_step cs (k, v) c ≡ None) → (on : Clause → Learnt) → by_reason cs r v c on ≡ stays c
no_step cs v c None n on = refl
no_step cs v c (Some k) n on = ap (λ o. resolved_with o (k, v) c on) (n k refl)
