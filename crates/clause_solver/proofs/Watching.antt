-- How it is kept which clauses a turn has to look at.
use Rattle.std.proofs.Common.{◌⊎◌, inl, inr, ◌≡◌, ◌<◌, ◌≤◌, ◌+◌, ◌-◌, ◌%◌, ℕ, zero, suc, List, [], ◌∷◌, ◌++◌, length, map, take, get_or, refl, sym, ap, ◌∙◌, subst, arith}
use Rattle.std.specs.Prelude.{Bool, true, false, ◌==◌, ◌||◌, if◌then◌else◌, Option, Some, None, slice_get, slice_set, Vec}
use Rattle.std.proofs.lemmas.Bool.{eqb-true, eq-eqb, true≢false}
use Rattle.std.proofs.lemmas.List.{map-set, map-append, take_more}
use Rattle.std.proofs.lemmas.List.Folds.{list_any-append}
use Rattle.refute_check.specs.Clauses.{Clause, variable_of}
use Rattle.refute_check.specs.Resolution.{has}
use Rattle.refute_check.specs.Machine.{Entry, Trail, entry_of, Value, True, False, Unset, value_at, value_of, Status, Falsified, Forces, Idle, status_with, status, falsified_with, falsified, forced_with, forced, unset_with, unset}
use Rattle.refute_check.proofs.Membership.{apart}
use Rattle.clause_solver.specs.code.Watching.{opposite, status_at, IsSeenAs, IsSeen, AreAmong, listed, Put, AllSet}

pub among_then : (ks ls ms : List ℕ) → AreAmong ks ls → AreAmong ls ms → AreAmong ks ms
among_then ks ls ms a b = λ n h. b n (a n h)

-- larger sets have seen as much
pub seen_more : (t : Trail) (o : Option Clause) (fs gs hs ks : List ℕ) (n : ℕ) → AreAmong fs hs → AreAmong gs ks → IsSeenAs t o fs gs n → IsSeenAs t o hs ks n
seen_more t o fs gs hs ks n a b s = (λ e. a n (s.0 e), λ l e. b n (s.1 l e))

-- there is no clause of this number
pub status_past : (t : Trail) (cs : List Clause) (n : ℕ) → length cs ≤ n → Idle ≡ status_at t (slice_get cs n)
status_past t [] n h = refl
status_past t (c ∷ cs) zero h = absurd (omega (arith, h))
status_past t (c ∷ cs) (suc n) h = status_past t cs n (omega (arith, h))

-- the clause of this number is looked at
module _ (t : Trail) (o : Option Clause) (fs gs : List ℕ) (n : ℕ) where
  pub seen_falsified : Falsified ≡ status_at t o → has fs n ≡ true → IsSeenAs t o fs gs n
  seen_falsified s h = (λ e. h, λ l e. let x : Falsified ≡ Forces l = s ∙ e in cc)

  pub seen_forces : (k : ℕ) → Forces k ≡ status_at t o → has gs n ≡ true → IsSeenAs t o fs gs n
  seen_forces k s h = (λ e. let x : Forces k ≡ Falsified = s ∙ e in cc, λ l e. h)

  pub seen_idle : Idle ≡ status_at t o → IsSeenAs t o fs gs n
  seen_idle s = (λ e. let x : Idle ≡ Falsified = s ∙ e in cc, λ l e. let x : Idle ≡ Forces l = s ∙ e in cc)

pub seen_past : (t : Trail) (cs : List Clause) (fs gs : List ℕ) (n : ℕ) → length cs ≤ n → IsSeen t cs fs gs n
seen_past t cs fs gs n h = seen_idle t (slice_get cs n) fs gs n (status_past t cs n h)

-- a stale number is taken off
pub seen_taken : (t : Trail) (cs : List Clause) (fs gs hs : List ℕ) (k : ℕ) → ((n : ℕ) → IsSeen t cs fs gs n) → ((n : ℕ) → has fs n ≡ true → (n ≡ k) ⊎ (has hs n ≡ true)) →
    (status_at t (slice_get cs k) ≡ Falsified → ⊥) → (n : ℕ) → IsSeen t cs hs gs n
seen_taken t cs fs gs hs k seen kept stale n = (λ e. go e (kept n ((seen n).0 e)), (seen n).1)
  where
    go : status_at t (slice_get cs n) ≡ Falsified → (n ≡ k) ⊎ (has hs n ≡ true) → has hs n ≡ true
    go e (inl f) = absurd (stale (ap (λ n. status_at t (slice_get cs n)) (sym f) ∙ e))
    go e (inr h) = h

pub seen_spent : (t : Trail) (cs : List Clause) (fs gs hs : List ℕ) (k : ℕ) → ((n : ℕ) → IsSeen t cs fs gs n) → ((n : ℕ) → has gs n ≡ true → (n ≡ k) ⊎ (has hs n ≡ true)) →
    ((l : ℕ) → status_at t (slice_get cs k) ≡ Forces l → ⊥) → (n : ℕ) → IsSeen t cs fs hs n
seen_spent t cs fs gs hs k seen kept stale n = ((seen n).0, λ l e. go l e (kept n ((seen n).1 l e)))
  where
    go : (l : ℕ) → status_at t (slice_get cs n) ≡ Forces l → (n ≡ k) ⊎ (has hs n ≡ true) → has hs n ≡ true
    go l e (inl f) = absurd (stale l (ap (λ n. status_at t (slice_get cs n)) (sym f) ∙ e))
    go l e (inr h) = h

-- ---- one literal more is true

-- a literal of the same variable is the same or the opposite one
two_literals : (l m : ℕ) → variable_of l ≡ variable_of m → (m ≡ l) ⊎ (m ≡ opposite l)
two_literals l m e = go (l % 2 == 0) refl (m == l) refl
  where
    go : (b : Bool) → (l % 2 == 0) ≡ b → (d : Bool) → (m == l) ≡ d → (m ≡ l) ⊎ (m ≡ (if b then l + 1 else l - 1))
    go b f true g = inl (eqb-true m l g)
    go true f false g = let h : l % 2 ≡ 0 = eqb-true (l % 2) 0 f in let n : m ≡ l → ⊥ = apart m l g in inr (omega (arith, e, h, n))
    go false f false g = let h : l % 2 ≡ 0 → ⊥ = apart (l % 2) 0 f in let n : m ≡ l → ⊥ = apart m l g in inr (omega (arith, e, h, n))

idle_with : (v : Value) (m : ℕ) → status_with v m Idle ≡ Idle
idle_with True m = refl
idle_with False m = refl
idle_with Unset m = refl

-- a literal that isn't the opposite one becomes true, or stays what it was
pub value_moved : (t : Trail) (e : Entry) (m : ℕ) → (m ≡ opposite e.literal → ⊥) → (value_of (e ∷ t) m ≡ True) ⊎ (value_of (e ∷ t) m ≡ value_of t m)
value_moved t e m n = by (variable_of e.literal == variable_of m) refl
  where
    by : (b : Bool) → (variable_of e.literal == variable_of m) ≡ b → (value_at m (if b then Some e else entry_of t (variable_of m)) ≡ True) ⊎ (value_at m (if b then Some e else entry_of t (variable_of m)) ≡ value_of t m)
    by false f = inr refl
    by true f = same (two_literals e.literal m (eqb-true (variable_of e.literal) (variable_of m) f))
      where
        same : (m ≡ e.literal) ⊎ (m ≡ opposite e.literal) → ((if e.literal == m then True else False) ≡ True) ⊎ ((if e.literal == m then True else False) ≡ value_of t m)
        same (inl g) = inl (ap (λ b. if b then True else False) (eq-eqb e.literal m (sym g)))
        same (inr g) = absurd (n g)

-- ---- the least number

-- the clause of this number is falsified, and none of a lesser one is
pub falsified_first : (t : Trail) (k : ℕ) (cs : List Clause) (n : ℕ) (c : Clause) → slice_get cs n ≡ Some c → status t c ≡ Falsified →
    ((m : ℕ) (d : Clause) → slice_get cs m ≡ Some d → status t d ≡ Falsified → n ≤ m) → falsified t k cs ≡ Some (k + n, c)
falsified_first t k [] n c at s least = cc
falsified_first t k (d ∷ cs) zero c at s least =
    let f : d ≡ c = cc in
    let p : k ≡ k + 0 = omega arith in
    ap (λ x. falsified_with x (k, d) (falsified t (suc k) cs)) (ap (λ d. status t d) f ∙ s) ∙ ap (λ c. Some (k, c)) f ∙ ap (λ k. Some (k, c)) p
falsified_first t k (d ∷ cs) (suc n) c at s least =
    let p : suc k + n ≡ k + suc n = omega arith in
    go (falsified_first t (suc k) cs n c at s (λ m d at e. omega (arith, least (suc m) d at e)) ∙ ap (λ k. Some (k, c)) p) (status t d) refl
  where
    go : falsified t (suc k) cs ≡ Some (k + suc n, c) → (x : Status) → status t d ≡ x → falsified_with x (k, d) (falsified t (suc k) cs) ≡ Some (k + suc n, c)
    go rest Falsified e = absurd (omega (arith, least 0 d refl e))
    go rest (Forces l) e = rest
    go rest Idle e = rest

pub falsified_none : (t : Trail) (k : ℕ) (cs : List Clause) → ((m : ℕ) (d : Clause) → slice_get cs m ≡ Some d → status t d ≡ Falsified → ⊥) → falsified t k cs ≡ None
falsified_none t k [] none = refl
falsified_none t k (d ∷ cs) none = go (falsified_none t (suc k) cs (λ m d at e. none (suc m) d at e)) (status t d) refl
  where
    go : falsified t (suc k) cs ≡ None → (x : Status) → status t d ≡ x → falsified_with x (k, d) (falsified t (suc k) cs) ≡ None
    go rest Falsified e = absurd (none 0 d refl e)
    go rest (Forces l) e = rest
    go rest Idle e = rest

pub forced_first : (t : Trail) (k : ℕ) (cs : List Clause) (n : ℕ) (c : Clause) (l : ℕ) → slice_get cs n ≡ Some c → status t c ≡ Forces l →
    ((m : ℕ) (d : Clause) (j : ℕ) → slice_get cs m ≡ Some d → status t d ≡ Forces j → n ≤ m) → forced t k cs ≡ Some (k + n, l)
forced_first t k [] n c l at s least = cc
forced_first t k (d ∷ cs) zero c l at s least =
    let f : d ≡ c = cc in
    let p : k ≡ k + 0 = omega arith in
    ap (λ x. forced_with x k (forced t (suc k) cs)) (ap (λ d. status t d) f ∙ s) ∙ ap (λ k. Some (k, l)) p
forced_first t k (d ∷ cs) (suc n) c l at s least =
    let p : suc k + n ≡ k + suc n = omega arith in
    go (forced_first t (suc k) cs n c l at s (λ m d j at e. omega (arith, least (suc m) d j at e)) ∙ ap (λ k. Some (k, l)) p) (status t d) refl
  where
    go : forced t (suc k) cs ≡ Some (k + suc n, l) → (x : Status) → status t d ≡ x → forced_with x k (forced t (suc k) cs) ≡ Some (k + suc n, l)
    go rest Falsified e = rest
    go rest (Forces j) e = absurd (omega (arith, least 0 d j refl e))
    go rest Idle e = rest

pub forced_none : (t : Trail) (k : ℕ) (cs : List Clause) → ((m : ℕ) (d : Clause) (j : ℕ) → slice_get cs m ≡ Some d → status t d ≡ Forces j → ⊥) → forced t k cs ≡ None
forced_none t k [] none = refl
forced_none t k (d ∷ cs) none = go (forced_none t (suc k) cs (λ m d j at e. none (suc m) d j at e)) (status t d) refl
  where
    go : forced t (suc k) cs ≡ None → (x : Status) → status t d ≡ x → forced_with x k (forced t (suc k) cs) ≡ None
    go rest Falsified e = rest
    go rest (Forces j) e = absurd (none 0 d j refl e)
    go rest Idle e = rest

-- what is found among the candidates
module _ (t : Trail) (cs : List Clause) (fs gs : List ℕ) (seen : (n : ℕ) → IsSeen t cs fs gs n) where
  there : (n : ℕ) (o : Option Clause) → slice_get cs n ≡ o → (s : Status) → (s ≡ Idle → ⊥) → status_at t o ≡ s → (c : Clause) × (slice_get cs n ≡ Some c) × (status t c ≡ s)
  there n None f s b e = absurd (b (sym e))
  there n (Some c) f s b e = (c, f, e)

  told : (n : ℕ) (c : Clause) → slice_get cs n ≡ Some c → (s : Status) → status t c ≡ s → status_at t (slice_get cs n) ≡ s
  told n c f s e = ap (λ o. status_at t o) f ∙ e

  pub falsified_found : (n : ℕ) → ((m : ℕ) → has fs m ≡ true → n ≤ m) → Falsified ≡ status_at t (slice_get cs n) → (c : Clause) × (slice_get cs n ≡ Some c) × (falsified t 0 cs ≡ Some (n, c))
  falsified_found n least s =
      let x = there n (slice_get cs n) refl Falsified (λ e. cc) (sym s) in
      let p : 0 + n ≡ n = omega arith in
      (x.0, x.1, falsified_first t 0 cs n x.0 x.1 x.2 (λ m d at e. least m ((seen m).0 (told m d at Falsified e))) ∙ ap (λ k. Some (k, x.0)) p)

  pub falsified_absent : ((m : ℕ) → has fs m ≡ true → ⊥) → falsified t 0 cs ≡ None
  falsified_absent none = falsified_none t 0 cs (λ m d at e. none m ((seen m).0 (told m d at Falsified e)))

  pub forced_found : (n l : ℕ) → ((m : ℕ) → has gs m ≡ true → n ≤ m) → Forces l ≡ status_at t (slice_get cs n) → forced t 0 cs ≡ Some (n, l)
  forced_found n l least s =
      let x = there n (slice_get cs n) refl (Forces l) (λ e. cc) (sym s) in
      let p : 0 + n ≡ n = omega arith in
      forced_first t 0 cs n x.0 l x.1 x.2 (λ m d j at e. least m ((seen m).1 j (told m d at (Forces j) e))) ∙ ap (λ k. Some (k, l)) p

  pub forced_absent : ((m : ℕ) → has gs m ≡ true → ⊥) → forced t 0 cs ≡ None
  forced_absent none = forced_none t 0 cs (λ m d j at e. none m ((seen m).1 j (told m d at (Forces j) e)))

-- ---- the order

pub set_put : (e : Entry) (t : Trail) (vs : List ℕ) → AllSet t vs → AllSet (e ∷ t) vs
set_put e t [] h = tt
set_put e t (v ∷ vs) h = (go (variable_of e.literal == v), set_put e t vs h.1)
  where
    go : (b : Bool) → (x : Entry) × ((if b then Some e else entry_of t v) ≡ Some x)
    go true = (e, refl)
    go false = h.0

pub set_more : (t : Trail) (vs : List ℕ) (i : ℕ) (x : Entry) → i < length vs → AllSet t (take i vs) → entry_of t (get_or vs i 0) ≡ Some x → AllSet t (take (i + 1) vs)
set_more t vs i x l h e = let p : suc i ≡ i + 1 = omega arith in subst (λ k. AllSet t (take k vs)) p (go vs i l h e)
  where
    go : (vs : List ℕ) (i : ℕ) → i < length vs → AllSet t (take i vs) → entry_of t (get_or vs i 0) ≡ Some x → AllSet t (take (suc i) vs)
    go [] i l h e = absurd (omega (arith, l))
    go (v ∷ vs) zero l h e = ((x, e), tt)
    go (v ∷ vs) (suc i) l h e = (h.0, go vs i (omega (arith, l)) h.1 e)

pub unset_here : (t : Trail) (vs : List ℕ) (i : ℕ) → i < length vs → AllSet t (take i vs) → entry_of t (get_or vs i 0) ≡ None → unset t vs ≡ Some (get_or vs i 0)
unset_here t [] i l h e = absurd (omega (arith, l))
unset_here t (v ∷ vs) zero l h e = ap (λ o. unset_with o v (unset t vs)) e
unset_here t (v ∷ vs) (suc i) l h e = ap (λ o. unset_with o v (unset t vs)) h.0.1 ∙ unset_here t vs i (omega (arith, l)) h.1 e

pub unset_none : (t : Trail) (vs : List ℕ) (i : ℕ) → length vs ≤ i → AllSet t (take i vs) → unset t vs ≡ None
unset_none t [] i l h = refl
unset_none t (v ∷ vs) zero l h = absurd (omega (arith, l))
unset_none t (v ∷ vs) (suc i) l h = ap (λ o. unset_with o v (unset t vs)) h.0.1 ∙ unset_none t vs i (omega (arith, l)) h.1

-- ---- lists

pub has-push : (ks : List ℕ) (k n : ℕ) → has (ks ++ k ∷ []) n ≡ (has ks n || (k == n))
has-push ks k n = list_any-append (λ j. j == n) ks (k ∷ []) ∙ ap (λ b. has ks n || b) (or_false (k == n))
  where
    or_false : (b : Bool) → (b || false) ≡ b
    or_false true = refl
    or_false false = refl

-- a number at the end of one list
pub has_pushed : (ks : List ℕ) (k : ℕ) → has (ks ++ k ∷ []) k ≡ true
has_pushed ks k = has-push ks k k ∙ ap (λ b. has ks k || b) (eq-eqb k k refl) ∙ or_true (has ks k)
  where
    or_true : (b : Bool) → (b || true) ≡ true
    or_true true = refl
    or_true false = refl

among_pushed : (ks : List ℕ) (k : ℕ) → AreAmong ks (ks ++ k ∷ [])
among_pushed ks k = λ n h. has-push ks k n ∙ ap (λ b. b || (k == n)) h

-- one step of a loop over literals or numbers
pub has_next : (ks : List ℕ) (i n : ℕ) → i < length ks → has (take (i + 1) ks) n ≡ true → (has (take i ks) n ≡ true) ⊎ (get_or ks i 0 ≡ n)
has_next ks i n l h = go (has (take i ks) n) (get_or ks i 0 == n) refl refl (sym (has-push (take i ks) (get_or ks i 0) n) ∙ ap (λ ks. has ks n) (sym (take_more ks i 0 l)) ∙ h)
  where
    go : (a b : Bool) → has (take i ks) n ≡ a → (get_or ks i 0 == n) ≡ b → (has (take i ks) n || (get_or ks i 0 == n)) ≡ true → (has (take i ks) n ≡ true) ⊎ (get_or ks i 0 ≡ n)
    go true b e f g = inl e
    go false true e f g = inr (eqb-true (get_or ks i 0) n f)
    go false false e f g = let x : (false || false) ≡ true = sym (ap (λ a. a || (get_or ks i 0 == n)) e ∙ ap (λ b. false || b) f) ∙ g in absurd (true≢false (sym x))

-- one list is longer by a number
pub listed_pushed : (ls : List (List ℕ)) (i k : ℕ) → i < length ls → (j : ℕ) → AreAmong (listed ls j) (listed (slice_set ls i (listed ls i ++ k ∷ [])) j)
listed_pushed [] i k l j = absurd (omega (arith, l))
listed_pushed (m ∷ ls) zero k l zero = among_pushed m k
listed_pushed (m ∷ ls) zero k l (suc j) = λ n h. h
listed_pushed (m ∷ ls) (suc i) k l zero = λ n h. h
listed_pushed (m ∷ ls) (suc i) k l (suc j) = listed_pushed ls i k (omega (arith, l)) j

pub listed_there : (ls : List (List ℕ)) (i k : ℕ) → i < length ls → has (listed (slice_set ls i (listed ls i ++ k ∷ [])) i) k ≡ true
listed_there [] i k l = absurd (omega (arith, l))
listed_there (m ∷ ls) zero k l = has_pushed m k
listed_there (m ∷ ls) (suc i) k l = listed_there ls i k (omega (arith, l))

-- one list more is empty
pub listed_longer : (ls : List (List ℕ)) (j : ℕ) → listed (ls ++ [] ∷ []) j ≡ listed ls j
listed_longer [] zero = refl
listed_longer [] (suc j) = refl
listed_longer (m ∷ ls) zero = refl
listed_longer (m ∷ ls) (suc j) = listed_longer ls j

-- ---- loops

-- a number at the end of one list, where lists were made before
pub put_one : (ls ms ns : List (List ℕ)) (k l : ℕ) → ((j : ℕ) → listed ms j ≡ listed ls j) → l < length ms → ns ≡ slice_set ms l (listed ms l ++ k ∷ []) → Put ls ns k (l ∷ [])
put_one ls ms ns k l same m is = record {
  kept = λ j n h. ap (λ ns. has (listed ns j) n) is ∙ listed_pushed ms l k m j n (ap (λ ks. has ks n) (same j) ∙ h);
  put = λ j h. go j (l == j) refl h;
}
  where
    go : (j : ℕ) (b : Bool) → (l == j) ≡ b → (b || false) ≡ true → has (listed ns j) k ≡ true
    go j true e h = ap (λ j. has (listed ns j) k) (sym (eqb-true l j e)) ∙ ap (λ ns. has (listed ns l) k) is ∙ listed_there ms l k m
    go j false e h = absurd (true≢false (sym h))

-- ---- lists in vectors

module _ {Z : Type 0} where
  pub vector_past : (vs : List (Vec ℕ Z)) (i : ℕ) → length vs ≤ i → listed (map (λ (v : Vec ℕ Z). v.items) vs) i ≡ []
  vector_past [] i h = refl
  vector_past (v ∷ vs) zero h = absurd (omega (arith, h))
  vector_past (v ∷ vs) (suc i) h = vector_past vs i (omega (arith, h))

  pub vector_got : (vs : List (Vec ℕ Z)) (i : ℕ) (t : Vec ℕ Z) → i < length vs → t ≡ get_or vs i t → listed (map (λ (v : Vec ℕ Z). v.items) vs) i ≡ t.items
  vector_got [] i t h e = absurd (omega (arith, h))
  vector_got (v ∷ vs) zero t h e = ap (λ (v : Vec ℕ Z). v.items) (sym e)
  vector_got (v ∷ vs) (suc i) t h e = vector_got vs i t (omega (arith, h)) e

  pub vector_there : (vs : List (Vec ℕ Z)) (i : ℕ) → i < length (map (λ (v : Vec ℕ Z). v.items) vs) → i < length vs
  vector_there [] i h = h
  vector_there (v ∷ vs) zero h = omega arith
  vector_there (v ∷ vs) (suc i) h = let r = vector_there vs i (omega (arith, h)) in omega (arith, r)

  pub vector_long : (vs : List (Vec ℕ Z)) (i : ℕ) → i < length vs → i < length (map (λ (v : Vec ℕ Z). v.items) vs)
  vector_long [] i h = h
  vector_long (v ∷ vs) zero h = omega arith
  vector_long (v ∷ vs) (suc i) h = let r = vector_long vs i (omega (arith, h)) in omega (arith, r)

  pub vector_put : (vs : List (Vec ℕ Z)) (i : ℕ) (w : Vec ℕ Z) (new : List ℕ) → w.items ≡ new → map (λ (v : Vec ℕ Z). v.items) (slice_set vs i w) ≡ slice_set (map (λ (v : Vec ℕ Z). v.items) vs) i new
  vector_put vs i w new e = map-set (λ (v : Vec ℕ Z). v.items) vs i w ∙ ap (slice_set (map (λ (v : Vec ℕ Z). v.items) vs) i) e

  pub vector_longer : (vs ws : List (Vec ℕ Z)) (v : Vec ℕ Z) → ws ≡ vs ++ v ∷ [] → v.items ≡ [] → (i : ℕ) → listed (map (λ (v : Vec ℕ Z). v.items) ws) i ≡ listed (map (λ (v : Vec ℕ Z). v.items) vs) i
  vector_longer vs ws v is e i =
      ap (λ ws. listed (map (λ (v : Vec ℕ Z). v.items) ws) i) is ∙ ap (λ ls. listed ls i) (map-append (λ (v : Vec ℕ Z). v.items) vs (v ∷ []) ∙ ap (λ l. map (λ (v : Vec ℕ Z). v.items) vs ++ l ∷ []) e)
      ∙ listed_longer (map (λ (v : Vec ℕ Z). v.items) vs) i

-- ---- turns

pub set_after : (t u : Trail) (e : Entry) (vs : List ℕ) → u ≡ e ∷ t → AllSet t vs → AllSet u vs
set_after t u e vs is h = subst (λ u. AllSet u vs) (sym is) (set_put e t vs h)
