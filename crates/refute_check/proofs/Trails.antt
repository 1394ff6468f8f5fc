-- What the rules keep of a trail.
use Rattle.std.proofs.Common.{◌⊎◌, inl, inr, ◌≡◌, ℕ, zero, suc, ◌+◌, List, [], ◌∷◌, ◌++◌, refl, sym, ap, ◌∙◌, subst, arith}
use Rattle.std.specs.Prelude.{Option, Some, None, Bool, true, false, ◌==◌, if◌then◌else◌, slice_get, nat_lt}
use Rattle.std.proofs.lemmas.Bool.{eqb-true}
use Rattle.refute_check.specs.Clauses.{Clause, HasLiteral, Assignment, Satisfies, SatisfiesAll, variable_of, sign_of, negative}
use Rattle.refute_check.specs.Logs.{after_step}
use Rattle.refute_check.specs.Machine.{Entry, Trail, entry_of, Value, True, False, Unset, value_at, value_of, Status, Falsified, Forces, Idle, status_with, status, falsified_with, falsified, forced_with, forced, unset_with, unset, stays, has_variable, resolved_with, by_reason, analysed, cut, value_in, assigned}
use Rattle.refute_check.proofs.Fits.{AllSet, EntryFits, Fits}
use Rattle.refute_check.proofs.Membership.{variable-negative}
use Rattle.refute_check.proofs.Soundness.{step-meets}

pub unset-none : (l : ℕ) (o : Option Entry) → value_at l o ≡ Unset → o ≡ None
unset-none l None h = refl
unset-none l (Some e) h = go (e.literal == l) h
  where
    go : (b : Bool) → (if b then True else False) ≡ Unset → Some e ≡ None
    go true h = cc
    go false h = cc

pub false-entry : (l : ℕ) (o : Option Entry) → value_at l o ≡ False → (e : Entry) × (o ≡ Some e) × ((e.literal == l) ≡ false)
false-entry l None h = cc
false-entry l (Some e) h = go (e.literal == l) refl h
  where
    go : (b : Bool) → (e.literal == l) ≡ b → (if b then True else False) ≡ False → (f : Entry) × (Some e ≡ Some f) × ((f.literal == l) ≡ false)
    go true g h = cc
    go false g h = (e, refl, g)

pub status-false : (t : Trail) (c : Clause) → status t c ≡ Falsified → (l : ℕ) → HasLiteral l c → value_of t l ≡ False
status-false t [] e l h = absurd h
status-false t (m ∷ c) e l h = go (λ f i. status-false t c f l i) (value_of t m) (status t c) refl refl e h
  where
    go : (status t c ≡ Falsified → HasLiteral l c → value_of t l ≡ False) → (v : Value) (s : Status) → value_of t m ≡ v → status t c ≡ s → status_with v m s ≡ Falsified → (l ≡ m) ⊎ HasLiteral l c → value_of t l ≡ False
    go rec True s f g e h = cc
    go rec False s f g e (inl i) = subst (λ m. value_of t m ≡ False) (sym i) f
    go rec False s f g e (inr i) = rec (g ∙ e) i
    go rec Unset Falsified f g e h = cc
    go rec Unset (Forces k) f g e h = cc
    go rec Unset Idle f g e h = cc

pub record Forcing (t : Trail) (c : Clause) (l : ℕ) : Type 0 where
  pub holds : HasLiteral l c
  pub free : entry_of t (variable_of l) ≡ None
  pub others : (m : ℕ) → HasLiteral m c → (m ≡ l) ⊎ (value_of t m ≡ False)

pub status-forces : (t : Trail) (c : Clause) (l : ℕ) → status t c ≡ Forces l → Forcing t c l
status-forces t [] l e = cc
status-forces t (m ∷ c) l e = go (λ f. status-forces t c l f) (value_of t m) (status t c) refl refl e
  where
    go : (status t c ≡ Forces l → Forcing t c l) → (v : Value) (s : Status) → value_of t m ≡ v → status t c ≡ s → status_with v m s ≡ Forces l → Forcing t (m ∷ c) l
    go rec True s f g e = cc
    go rec False s f g e =
        let r : Forcing t c l = rec (g ∙ e) in
        record { holds = inr r.holds; free = r.free; others = λ k h. two r k h }
      where
        two : Forcing t c l → (k : ℕ) → (k ≡ m) ⊎ HasLiteral k c → (k ≡ l) ⊎ (value_of t k ≡ False)
        two r k (inl i) = inr (subst (λ m. value_of t m ≡ False) (sym i) f)
        two r k (inr i) = r.others k i
    go rec Unset Falsified f g e =
        let i : m ≡ l = cc in
        record { holds = inl (sym i); free = subst (λ m. entry_of t (variable_of m) ≡ None) i (unset-none m (entry_of t (variable_of m)) f); others = λ k h. two i k h }
      where
        two : m ≡ l → (k : ℕ) → (k ≡ m) ⊎ HasLiteral k c → (k ≡ l) ⊎ (value_of t k ≡ False)
        two i k (inl j) = inl (j ∙ i)
        two i k (inr j) = inr (status-false t c g k j)
    go rec Unset (Forces k) f g e = cc
    go rec Unset Idle f g e = cc

pub forced-is : (t : Trail) (k : ℕ) (cs : List Clause) (j l : ℕ) → forced t k cs ≡ Some (j, l) → (i : ℕ) × (c : Clause) × (j ≡ k + i) × (slice_get cs i ≡ Some c) × (status t c ≡ Forces l)
forced-is t k [] j l e = cc
forced-is t k (c ∷ cs) j l e = go (λ f. forced-is t (suc k) cs j l f) (status t c) refl e
  where
    Found : ℕ → List Clause → Type 0
    Found n ds = (i : ℕ) × (d : Clause) × (j ≡ n + i) × (slice_get ds i ≡ Some d) × (status t d ≡ Forces l)

    later : Found (suc k) cs → Found k (c ∷ cs)
    later r = (suc r.0, r.1, omega (arith, r.2), r.3, r.4)

    go : (forced t (suc k) cs ≡ Some (j, l) → Found (suc k) cs) → (s : Status) → status t c ≡ s → forced_with s k (forced t (suc k) cs) ≡ Some (j, l) → Found k (c ∷ cs)
    go rec Falsified f e = later (rec e)
    go rec Idle f e = later (rec e)
    go rec (Forces m) f e =
        let p : (k, m) ≡ (j, l) = some-is (k, m) (j, l) e in
        (0, c, omega (arith, ap (λ p. p.0) p), refl, f ∙ ap (λ p. Forces p.1) p)
      where
        some-is : (x y : ℕ × ℕ) → Some x ≡ Some y → x ≡ y
        some-is x y e = cc

pub unset-is : (t : Trail) (vs : List ℕ) (v : ℕ) → unset t vs ≡ Some v → (xs : List ℕ) × (ys : List ℕ) × (vs ≡ xs ++ v ∷ ys) × AllSet t xs × (entry_of t v ≡ None)
unset-is t [] v e = cc
unset-is t (u ∷ vs) v e = go (λ f. unset-is t vs v f) (entry_of t u) refl e
  where
    go : (unset t vs ≡ Some v → (xs : List ℕ) × (ys : List ℕ) × (vs ≡ xs ++ v ∷ ys) × AllSet t xs × (entry_of t v ≡ None)) → (o : Option Entry) → entry_of t u ≡ o → unset_with o u (unset t vs) ≡ Some v →
        (xs : List ℕ) × (ys : List ℕ) × (u ∷ vs ≡ xs ++ v ∷ ys) × AllSet t xs × (entry_of t v ≡ None)
    go rec None f e = let g : u ≡ v = cc in ([], vs, ap (λ u. u ∷ vs) g, tt, subst (λ u. entry_of t u ≡ None) g f)
    go rec (Some x) f e = let r = rec e in (u ∷ r.0, r.1, ap (λ l. u ∷ l) r.2, ((x, f), r.3), r.4)

pub unset-all : (t : Trail) (vs : List ℕ) → unset t vs ≡ None → AllSet t vs
unset-all t [] e = tt
unset-all t (u ∷ vs) e = go (λ f. unset-all t vs f) (entry_of t u) refl e
  where
    go : (unset t vs ≡ None → AllSet t vs) → (o : Option Entry) → entry_of t u ≡ o → unset_with o u (unset t vs) ≡ None → AllSet t (u ∷ vs)
    go rec None f e = cc
    go rec (Some x) f e = ((x, f), rec e)

get-append : (cs : List Clause) (r : Clause) (k : ℕ) (c : Clause) → slice_get cs k ≡ Some c → slice_get (cs ++ r ∷ []) k ≡ Some c
get-append [] r k c e = cc
get-append (d ∷ cs) r zero c e = e
get-append (d ∷ cs) r (suc k) c e = get-append cs r k c e

pub fits-append : (cs : List Clause) (order : List ℕ) (r : Clause) (t : Trail) → Fits cs order t → Fits (cs ++ r ∷ []) order t
fits-append cs order r [] h = tt
fits-append cs order r (e ∷ t) h = (h.0, go e.reason h.1, fits-append cs order r t h.2)
  where
    go : (o : Option ℕ) → EntryFits cs order o e t → EntryFits (cs ++ r ∷ []) order o e t
    go None h = h
    go (Some k) h = (h.0, get-append cs r k h.0 h.1, h.2, h.3)

pub fits-cut : (cs : List Clause) (order : List ℕ) (n : ℕ) (t : Trail) → Fits cs order t → Fits cs order (cut n t)
fits-cut cs order n [] h = tt
fits-cut cs order n (e ∷ t) h = go (fits-cut cs order n t h.2) (nat_lt n e.level)
  where
    go : Fits cs order (cut n t) → (b : Bool) → Fits cs order (if b then cut n t else e ∷ t)
    go rec true = rec
    go rec false = h

-- an analysis keeps what its steps keep
pub analysed-keeps : (Q : Clause → Type 0) (cs : List Clause) → ((s : ℕ × ℕ) (c r : Clause) → Q c → after_step cs s c ≡ Some r → Q r) →
    (enough : Clause → Bool) (t : Trail) (c : Clause) → Q c → Q (analysed cs enough t c).clause
analysed-keeps Q cs keeps enough [] c m = m
analysed-keeps Q cs keeps enough (e ∷ t) c m = go (λ r n. analysed-keeps Q cs keeps enough t r n) (enough c) (has_variable v c)
  where
    v : ℕ
    v = variable_of e.literal

    resolved : ((r : Clause) → Q r → Q (analysed cs enough t r).clause) → (s : ℕ × ℕ) (o : Option Clause) → ((r : Clause) → o ≡ Some r → Q r) → Q (resolved_with o s c (λ r. analysed cs enough t r)).clause
    resolved rec s None f = m
    resolved rec s (Some r) f = rec r (f r refl)

    reasoned : ((r : Clause) → Q r → Q (analysed cs enough t r).clause) → (o : Option ℕ) → Q (by_reason cs o v c (λ r. analysed cs enough t r)).clause
    reasoned rec None = m
    reasoned rec (Some k) = resolved rec (k, v) _ (λ r g. keeps (k, v) c r m g)

    go : ((r : Clause) → Q r → Q (analysed cs enough t r).clause) → (b d : Bool) →
        Q (if b then stays c else (if d then by_reason cs e.reason v c (λ r. analysed cs enough t r) else analysed cs enough t c)).clause
    go rec true d = m
    go rec false true = reasoned rec e.reason
    go rec false false = rec c m

-- what an analysis learns is met wherever the clauses are
pub analysed-meets : (a : Assignment) (cs : List Clause) → SatisfiesAll a cs → (enough : Clause → Bool) (t : Trail) (c : Clause) → Satisfies a c → Satisfies a (analysed cs enough t c).clause
analysed-meets a cs all enough t c m = analysed-keeps (Satisfies a) cs (λ s d r h e. step-meets a cs all s d r h e) enough t c m

falsified-none : (t : Trail) (k : ℕ) (cs : List Clause) → falsified t k cs ≡ None → (i : ℕ) (c : Clause) → slice_get cs i ≡ Some c → status t c ≡ Falsified → ⊥
falsified-none t k [] e i c f g = cc
falsified-none t k (d ∷ cs) e i c f g = go (λ e i f. falsified-none t (suc k) cs e i c f g) (status t d) refl e i f
  where
    other : (falsified t (suc k) cs ≡ None → (i : ℕ) → slice_get cs i ≡ Some c → ⊥) → (status t d ≡ Falsified → ⊥) → falsified t (suc k) cs ≡ None → (i : ℕ) → slice_get (d ∷ cs) i ≡ Some c → ⊥
    other rec n e zero f = let h : d ≡ c = cc in n (ap (λ c. status t c) h ∙ g)
    other rec n e (suc i) f = rec e i f

    go : (falsified t (suc k) cs ≡ None → (i : ℕ) → slice_get cs i ≡ Some c → ⊥) → (s : Status) → status t d ≡ s → falsified_with s (k, d) (falsified t (suc k) cs) ≡ None → (i : ℕ) → slice_get (d ∷ cs) i ≡ Some c → ⊥
    go rec Falsified h e i f = cc
    go rec (Forces l) h e i f = other rec (λ q. let x : Forces l ≡ Falsified = sym h ∙ q in cc) e i f
    go rec Idle h e i f = other rec (λ q. let x : Idle ≡ Falsified = sym h ∙ q in cc) e i f

pub not-falsified : (t : Trail) (cs : List Clause) → falsified t 0 cs ≡ None → (i : ℕ) (c : Clause) → slice_get cs i ≡ Some c → status t c ≡ Falsified → ⊥
not-falsified t cs e i c f g = falsified-none t 0 cs e i c f g

-- a clause whose literals are all set and that is not falsified is met
pub set-meets : (t : Trail) (c : Clause) → ((l : ℕ) → HasLiteral l c → (e : Entry) × (entry_of t (variable_of l) ≡ Some e)) → (status t c ≡ Falsified → ⊥) → Satisfies (assigned t) c
set-meets t [] set n = absurd (n refl)
set-meets t (l ∷ c) set n = go (λ m. set-meets t c (λ k h. set k (inr h)) m) (set l (inl refl))
  where
    go : ((status t c ≡ Falsified → ⊥) → Satisfies (assigned t) c) → (e : Entry) × (entry_of t (variable_of l) ≡ Some e) → Satisfies (assigned t) (l ∷ c)
    go rec x = by (x.0.literal == l) refl
      where
        by : (b : Bool) → (x.0.literal == l) ≡ b → Satisfies (assigned t) (l ∷ c)
        by true f = (l, inl refl, ap (λ o. value_in o) x.1 ∙ ap (λ l. sign_of l) (eqb-true x.0.literal l f))
        by false f =
            let v : value_of t l ≡ False = ap (λ o. value_at l o) x.1 ∙ ap (λ b. if b then True else False) f in
            let r : Satisfies (assigned t) c = rec (λ q. n (ap (λ v. status_with v l (status t c)) v ∙ q)) in
            (r.0, inr r.1, r.2)

pub falsified-is : (t : Trail) (k : ℕ) (cs : List Clause) (j : ℕ) (c : Clause) → falsified t k cs ≡ Some (j, c) → (i : ℕ) × (j ≡ k + i) × (slice_get cs i ≡ Some c) × (status t c ≡ Falsified)
falsified-is t k [] j c e = cc
falsified-is t k (d ∷ cs) j c e = go (λ f. falsified-is t (suc k) cs j c f) (status t d) refl e
  where
    Found : ℕ → List Clause → Type 0
    Found n ds = (i : ℕ) × (j ≡ n + i) × (slice_get ds i ≡ Some c) × (status t c ≡ Falsified)

    later : Found (suc k) cs → Found k (d ∷ cs)
    later r = (suc r.0, omega (arith, r.1), r.2, r.3)

    some-is : (x y : ℕ × Clause) → Some x ≡ Some y → x ≡ y
    some-is x y e = cc

    go : (falsified t (suc k) cs ≡ Some (j, c) → Found (suc k) cs) → (s : Status) → status t d ≡ s → falsified_with s (k, d) (falsified t (suc k) cs) ≡ Some (j, c) → Found k (d ∷ cs)
    go rec Falsified f e =
        let p : (k, d) ≡ (j, c) = some-is (k, d) (j, c) e in
        let q : d ≡ c = ap (λ p. p.1) p in
        (0, omega (arith, ap (λ p. p.0) p), ap (λ c. Some c) q, ap (λ c. status t c) (sym q) ∙ f)
    go rec (Forces l) f e = later (rec e)
    go rec Idle f e = later (rec e)

-- the clause of that number
pub at_number : (cs : List Clause) (k i : ℕ) (c : Clause) → k ≡ 0 + i → slice_get cs i ≡ Some c → slice_get cs k ≡ Some c
at_number cs k i c e f = let g : i ≡ k = omega (arith, e) in subst (λ i. slice_get cs i ≡ Some c) g f

-- a decision fits
pub decided-fits : (cs : List Clause) (order : List ℕ) (t : Trail) → Fits cs order t → (v : ℕ) (xs ys : List ℕ) → order ≡ xs ++ v ∷ ys → AllSet t xs → entry_of t v ≡ None → (level : ℕ) →
    Fits cs order (record { literal = negative v; level = level; reason = None } ∷ t)
decided-fits cs order t fits v xs ys o set free level =
    let w : v ≡ variable_of (negative v) = sym (variable-negative v) in
    (subst (λ v. entry_of t v ≡ None) w free, (ap (λ v. negative v) w, (xs, ys, subst (λ v. order ≡ xs ++ v ∷ ys) w o, set)), fits)
