-- The machine's model meets the clauses, and each other assignment that does is greater.
use Rattle.std.proofs.Common.{◌⊎◌, inl, inr, ◌≡◌, ℕ, zero, suc, ◌+◌, List, [], ◌∷◌, ◌++◌, refl, sym, ap, ◌∙◌, subst, append_assoc}
use Rattle.std.specs.Prelude.{Option, Some, None, Bool, true, false, ◌==◌, if◌then◌else◌, slice_get, nat_lt}
use Rattle.std.proofs.lemmas.Bool.{eqb-true, eq-eqb, true≢false}
use Rattle.std.proofs.lemmas.List.{append-nil}
use Rattle.refute_check.specs.Clauses.{Clause, HasLiteral, Assignment, Satisfies, SatisfiesAll, variable_of, sign_of, positive, negative}
use Rattle.refute_check.specs.Machine.{Entry, Trail, entry_of, False, value_of, status, Falsified, Forces, falsified, forced, unset, Learnt, analysed, is_learnt, cut, has_decision, State, Turn, On, Model, Refuted, Spent, conflict, decide, force, turn_by, turn, then_turn, turns, start, level_now, highest_but, value_in, assigned}
use Rattle.refute_check.specs.Orders.{Names, NamesAll, AreSame, IsGreater}
use Rattle.refute_check.proofs.Fits.{AllSet, EntryFits, Fits}
use Rattle.refute_check.proofs.Membership.{sign-positive, sign-negative}
use Rattle.refute_check.proofs.Soundness.{get-meets, meets_all-append}
use Rattle.refute_check.proofs.Learning.{either_way}
use Rattle.refute_check.proofs.Trails.{false-entry, Forcing, status-forces, forced-is, unset-is, unset-all, fits-append, fits-cut, analysed-meets, not-falsified, falsified-is, set-meets, at_number, decided-fits}

-- the assignment has the values of the trail
abbrev Agrees : Assignment → Trail → Type 0
Agrees b [] = Unit {0}
Agrees b (e ∷ t) = (b (variable_of e.literal) ≡ sign_of e.literal) × Agrees b t

abbrev AgreesOn : Trail → Assignment → List ℕ → Type 0
AgreesOn t b [] = Unit {0}
AgreesOn t b (v ∷ vs) = ((e : Entry) × (entry_of t v ≡ Some e) × (b v ≡ sign_of e.literal)) × AgreesOn t b vs

abbrev GreaterOn : List ℕ → Trail → Assignment → Type 0
GreaterOn order t b = (xs : List ℕ) × (v : ℕ) × (ys : List ℕ) × (order ≡ xs ++ v ∷ ys) × AgreesOn t b xs × ((e : Entry) × (entry_of t v ≡ Some e) × (sign_of e.literal ≡ false)) × (b v ≡ true)

agrees-at : (b : Assignment) (t : Trail) → Agrees b t → (v : ℕ) (e : Entry) → entry_of t v ≡ Some e → b v ≡ sign_of e.literal
agrees-at b [] h v e f = cc
agrees-at b (d ∷ t) h v e f = go (λ f. agrees-at b t h.1 v e f) (variable_of d.literal == v) refl f
  where
    go : (entry_of t v ≡ Some e → b v ≡ sign_of e.literal) → (c : Bool) → (variable_of d.literal == v) ≡ c → (if c then Some d else entry_of t v) ≡ Some e → b v ≡ sign_of e.literal
    go rec true g f = let i : d ≡ e = cc in ap (λ v. b v) (sym (eqb-true (variable_of d.literal) v g)) ∙ h.0 ∙ ap (λ d. sign_of d.literal) i
    go rec false g f = rec f

agrees-on : (b : Assignment) (t : Trail) → Agrees b t → (vs : List ℕ) → AllSet t vs → AgreesOn t b vs
agrees-on b t h [] s = tt
agrees-on b t h (v ∷ vs) s = ((s.0.0, s.0.1, agrees-at b t h v s.0.0 s.0.1), agrees-on b t h vs s.1)

-- a new entry changes no value
later-entry : (d : Entry) (t : Trail) → entry_of t (variable_of d.literal) ≡ None → (v : ℕ) (e : Entry) → entry_of t v ≡ Some e → entry_of (d ∷ t) v ≡ Some e
later-entry d t n v e f = go (variable_of d.literal == v) refl
  where
    go : (c : Bool) → (variable_of d.literal == v) ≡ c → (if c then Some d else entry_of t v) ≡ Some e
    go true g = let x : None ≡ Some e = sym n ∙ ap (λ v. entry_of t v) (eqb-true (variable_of d.literal) v g) ∙ f in cc
    go false g = f

later-on : (d : Entry) (t : Trail) → entry_of t (variable_of d.literal) ≡ None → (b : Assignment) (vs : List ℕ) → AgreesOn t b vs → AgreesOn (d ∷ t) b vs
later-on d t n b [] h = tt
later-on d t n b (v ∷ vs) h = ((h.0.0, later-entry d t n v h.0.0 h.0.1, h.0.2), later-on d t n b vs h.1)

own-entry : (d : Entry) (t : Trail) → entry_of (d ∷ t) (variable_of d.literal) ≡ Some d
own-entry d t = ap (λ c. if c then Some d else entry_of t (variable_of d.literal)) (eq-eqb (variable_of d.literal) (variable_of d.literal) refl)

-- two literals of a variable with one sign are one
same-sign : (k l : ℕ) → variable_of k ≡ variable_of l → sign_of k ≡ sign_of l → k ≡ l
same-sign k l v s = go (either_way k) (either_way l)
  where
    up : (m : ℕ) → m ≡ positive (variable_of m) → sign_of m ≡ true
    up m e = ap (λ m. sign_of m) e ∙ sign-positive (variable_of m)

    down : (m : ℕ) → m ≡ negative (variable_of m) → sign_of m ≡ false
    down m e = ap (λ m. sign_of m) e ∙ sign-negative (variable_of m)

    go : (k ≡ positive (variable_of k)) ⊎ (k ≡ negative (variable_of k)) → (l ≡ positive (variable_of l)) ⊎ (l ≡ negative (variable_of l)) → k ≡ l
    go (inl e) (inl f) = e ∙ ap (λ v. positive v) v ∙ sym f
    go (inl e) (inr f) = absurd (true≢false (sym (up k e) ∙ s ∙ down l f))
    go (inr e) (inl f) = absurd (true≢false (sym (up l f) ∙ sym s ∙ down k e))
    go (inr e) (inr f) = e ∙ ap (λ v. negative v) v ∙ sym f

entry-variable : (t : Trail) (v : ℕ) (e : Entry) → entry_of t v ≡ Some e → variable_of e.literal ≡ v
entry-variable [] v e f = cc
entry-variable (d ∷ t) v e f = go (λ f. entry-variable t v e f) (variable_of d.literal == v) refl f
  where
    go : (entry_of t v ≡ Some e → variable_of e.literal ≡ v) → (c : Bool) → (variable_of d.literal == v) ≡ c → (if c then Some d else entry_of t v) ≡ Some e → variable_of e.literal ≡ v
    go rec true g f = let i : d ≡ e = cc in ap (λ d. variable_of d.literal) (sym i) ∙ eqb-true (variable_of d.literal) v g
    go rec false g f = rec f

-- an assignment that meets the clauses has the values of the trail, or is greater
split : (cs : List Clause) (order : List ℕ) (b : Assignment) → SatisfiesAll b cs → (t : Trail) → Fits cs order t → Agrees b t ⊎ GreaterOn order t b
split cs order b all [] h = inl tt
split cs order b all (e ∷ t) h = go (split cs order b all t h.2)
  where
    v : ℕ
    v = variable_of e.literal

    decided : Agrees b t → sign_of e.literal ≡ false → (xs : List ℕ) (ys : List ℕ) → order ≡ xs ++ v ∷ ys → AllSet t xs → (c : Bool) → b v ≡ c → Agrees b (e ∷ t) ⊎ GreaterOn order (e ∷ t) b
    decided a s xs ys o set true f = inr (xs, v, ys, o, later-on e t h.0 b xs (agrees-on b t a xs set), (e, own-entry e t, s), f)
    decided a s xs ys o set false f = inl (f ∙ sym s, a)

    from : Agrees b t → (l : ℕ) → b (variable_of l) ≡ sign_of l → (l ≡ e.literal) ⊎ (value_of t l ≡ False) → b v ≡ sign_of e.literal
    from a l m (inl i) = subst (λ l. b (variable_of l) ≡ sign_of l) i m
    from a l m (inr i) =
        let x : (f : Entry) × (entry_of t (variable_of l) ≡ Some f) × ((f.literal == l) ≡ false) = false-entry l (entry_of t (variable_of l)) i in
        let y : sign_of l ≡ sign_of x.0.literal = sym m ∙ agrees-at b t a (variable_of l) x.0 x.1 in
        let z : x.0.literal ≡ l = same-sign x.0.literal l (entry-variable t (variable_of l) x.0 x.1) (sym y) in
        absurd (true≢false (sym (eq-eqb x.0.literal l z) ∙ x.2))

    by : Agrees b t → (o : Option ℕ) → EntryFits cs order o e t → Agrees b (e ∷ t) ⊎ GreaterOn order (e ∷ t) b
    by a None f = decided a (ap (λ l. sign_of l) f.0 ∙ sign-negative v) f.1.0 f.1.1 f.1.2 f.1.3 (b v) refl
    by a (Some k) f =
        let m : Satisfies b f.0 = get-meets b cs k f.0 all f.1 in
        inl (from a m.0 m.2 (f.3 m.0 m.1), a)

    go : Agrees b t ⊎ GreaterOn order t b → Agrees b (e ∷ t) ⊎ GreaterOn order (e ∷ t) b
    go (inl a) = by a e.reason h.1
    go (inr g) = inr (g.0, g.1, g.2, g.3, later-on e t h.0 b g.0 g.4, (g.5.0, later-entry e t h.0 g.1 g.5.0 g.5.1, g.5.2), g.6)

same-on : (t : Trail) (b : Assignment) (vs : List ℕ) → AgreesOn t b vs → AreSame (assigned t) b vs
same-on t b [] h = tt
same-on t b (v ∷ vs) h = (ap (λ o. value_in o) h.0.1 ∙ sym h.0.2, same-on t b vs h.1)

least : (cs : List Clause) (order : List ℕ) (t : Trail) → Fits cs order t → AllSet t order → (b : Assignment) → SatisfiesAll b cs → AreSame (assigned t) b order ⊎ IsGreater order (assigned t) b
least cs order t h set b all = go (split cs order b all t h)
  where
    go : Agrees b t ⊎ GreaterOn order t b → AreSame (assigned t) b order ⊎ IsGreater order (assigned t) b
    go (inl a) = inl (same-on t b order (agrees-on b t a order set))
    go (inr g) = inr (g.0, g.1, g.2, g.3, same-on t b g.0 g.4, ap (λ o. value_in o) g.5.1 ∙ g.5.2, g.6)

pub set-in : (t : Trail) (vs : List ℕ) → AllSet t vs → (v : ℕ) → Names vs v → (e : Entry) × (entry_of t v ≡ Some e)
set-in t [] s v i = absurd i
set-in t (u ∷ vs) s v (inl e) = subst (λ u. (e : Entry) × (entry_of t u ≡ Some e)) (sym e) s.0
set-in t (u ∷ vs) s v (inr i) = set-in t vs s.1 v i

all-met : (a : Assignment) (cs : List Clause) → ((i : ℕ) (c : Clause) → slice_get cs i ≡ Some c → Satisfies a c) → SatisfiesAll a cs
all-met a [] f = tt
all-met a (c ∷ cs) f = (f 0 c refl, all-met a cs (λ i d e. f (suc i) d e))

get-named : (order : List ℕ) (cs : List Clause) → NamesAll order cs → (i : ℕ) (c : Clause) → slice_get cs i ≡ Some c → (l : ℕ) → HasLiteral l c → Names order (variable_of l)
get-named order [] h i c e = cc
get-named order (d ∷ cs) h zero c e = let f : d ≡ c = cc in subst (λ c. (l : ℕ) → HasLiteral l c → Names order (variable_of l)) f h.0
get-named order (d ∷ cs) h (suc i) c e = get-named order cs h.1 i c e

get-first : (cs ds : List Clause) (i : ℕ) (c : Clause) → slice_get cs i ≡ Some c → slice_get (cs ++ ds) i ≡ Some c
get-first [] ds i c e = cc
get-first (d ∷ cs) ds zero c e = e
get-first (d ∷ cs) ds (suc i) c e = get-first cs ds i c e

module _ (first : List Clause) (order : List ℕ) (bound : ℕ) where
  -- what each state keeps
  record Sound (s : State) : Type 0 where
    more : List Clause
    clauses : s.clauses ≡ first ++ more
    implied : (b : Assignment) → SatisfiesAll b first → SatisfiesAll b s.clauses
    fits : Fits s.clauses order s.trail

  -- what the machine's answer is to be
  abbrev Right : Turn → Type 0
  Right (On s) = Sound s
  Right (Model t) = SatisfiesAll (assigned t) first × ((b : Assignment) → SatisfiesAll b first → AreSame (assigned t) b order ⊎ IsGreater order (assigned t) b) × AllSet t order
  Right (Refuted log) = Unit {0}
  Right Spent = Unit {0}

  if-right : (c : Bool) (x y : Turn) → Right x → Right y → Right (if c then x else y)
  if-right true x y h k = h
  if-right false x y h k = k

  conflict-right : (s : State) → Sound s → (k : ℕ) (c : Clause) → falsified s.trail 0 s.clauses ≡ Some (k, c) → Right (conflict bound s (k, c))
  conflict-right s h k c e =
      if-right (has_decision s.trail) _ _ (if-right (nat_lt (suc s.conflicts) bound) _ _ (record {
        more = h.more ++ l.clause ∷ [];
        clauses = ap (λ x. x ++ l.clause ∷ []) h.clauses ∙ append_assoc first h.more (l.clause ∷ []);
        implied = λ b all. meets_all-append b s.clauses l.clause (h.implied b all) (analysed-meets b s.clauses (h.implied b all) (is_learnt s.trail) s.trail c (get-meets b s.clauses f.0 c (h.implied b all) f.2));
        fits = fits-append s.clauses order l.clause (cut (highest_but s.trail (level_now s.trail) l.clause) s.trail) (fits-cut s.clauses order _ s.trail h.fits);
      }) tt) tt
    where
      l : Learnt
      l = analysed s.clauses (is_learnt s.trail) s.trail c

      f : (i : ℕ) × (k ≡ 0 + i) × (slice_get s.clauses i ≡ Some c) × (status s.trail c ≡ Falsified)
      f = falsified-is s.trail 0 s.clauses k c e

  decide-right : (s : State) → Sound s → NamesAll order first → falsified s.trail 0 s.clauses ≡ None → (o : Option ℕ) → unset s.trail order ≡ o → Right (decide s o)
  decide-right s h named e None f =
      let set : AllSet s.trail order = unset-all s.trail order f in (
        all-met (assigned s.trail) first (λ i c g. set-meets s.trail c (λ l m. set-in s.trail order set (variable_of l) (get-named order first named i c g l m))
            (not-falsified s.trail s.clauses e i c (subst (λ cs. slice_get cs i ≡ Some c) (sym h.clauses) (get-first first h.more i c g)))),
        λ b all. least s.clauses order s.trail h.fits set b (h.implied b all),
        set,
      )
  decide-right s h named e (Some v) f =
      let u = unset-is s.trail order v f in
      record { more = h.more; clauses = h.clauses; implied = h.implied; fits = decided-fits s.clauses order s.trail h.fits v u.0 u.1 u.2 u.3 u.4 (suc (level_now s.trail)) }

  force-right : (s : State) → Sound s → NamesAll order first → falsified s.trail 0 s.clauses ≡ None → (o : Option (ℕ × ℕ)) → forced s.trail 0 s.clauses ≡ o → Right (force order s o)
  force-right s h named e None f = decide-right s h named e (unset s.trail order) refl
  force-right s h named e (Some x) f =
      let i : (i : ℕ) × (c : Clause) × (x.0 ≡ 0 + i) × (slice_get s.clauses i ≡ Some c) × (status s.trail c ≡ Forces x.1) = forced-is s.trail 0 s.clauses x.0 x.1 f in
      let g : Forcing s.trail i.1 x.1 = status-forces s.trail i.1 x.1 i.4 in
      record { more = h.more; clauses = h.clauses; implied = h.implied; fits = (g.free, (i.1, at_number s.clauses x.0 i.0 i.1 i.2 i.3, g.holds, g.others), h.fits) }

  turn-right : (s : State) → Sound s → NamesAll order first → Right (turn order bound s)
  turn-right s h named = go (falsified s.trail 0 s.clauses) refl
    where
      go : (o : Option (ℕ × Clause)) → falsified s.trail 0 s.clauses ≡ o → Right (turn_by order bound s o)
      go None e = force-right s h named e (forced s.trail 0 s.clauses) refl
      go (Some x) e = conflict-right s h x.0 x.1 e

  turns-right : NamesAll order first → (n : ℕ) (s : State) → Sound s → Right (turns order bound n s)
  turns-right named zero s h = h
  turns-right named (suc n) s h = go (λ t k. turns-right named n t k) (turn order bound s) (turn-right s h named)
    where
      go : ((t : State) → Sound t → Right (turns order bound n t)) → (x : Turn) → Right x → Right (then_turn x (λ t. turns order bound n t))
      go rec (On t) k = rec t k
      go rec (Model t) k = k
      go rec (Refuted l) k = tt
      go rec Spent k = tt

  model : NamesAll order first → (n : ℕ) (t : Trail) → turns order bound n (start first) ≡ Model t → Right (Model t)
  model named n t e = subst (λ x. Right x) e (turns-right named n (start first) (record { more = []; clauses = sym (append-nil first); implied = λ b all. all; fits = tt }))

  pub model_meets : NamesAll order first → (n : ℕ) (t : Trail) → turns order bound n (start first) ≡ Model t → SatisfiesAll (assigned t) first
  model_meets named n t e = (model named n t e).0

  -- every assignment that meets the clauses is the model or greater
  pub model_least : NamesAll order first → (n : ℕ) (t : Trail) → turns order bound n (start first) ≡ Model t → (b : Assignment) → SatisfiesAll b first → AreSame (assigned t) b order ⊎ IsGreater order (assigned t) b
  model_least named n t e = (model named n t e).1

  pub model_sets : NamesAll order first → (n : ℕ) (t : Trail) → turns order bound n (start first) ≡ Model t → AllSet t order
  model_sets named n t e = (model named n t e).2
