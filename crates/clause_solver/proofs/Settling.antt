-- On a trail that is cut to a lower level all clauses but the one that was learnt are guarded.
use Rattle.std.proofs.Common.{◌⊎◌, inl, inr, ◌≡◌, ◌<◌, ◌≤◌, ℕ, zero, suc, List, [], ◌∷◌, ◌++◌, length, refl, sym, ap, ◌∙◌, subst, arith, append_assoc}
use Rattle.std.specs.Prelude.{Bool, true, false, ◌==◌, if◌then◌else◌, max, Option, Some, None, slice_get, nat_lt}
use Rattle.std.proofs.lemmas.Bool.{eqb-true, ltb-true}
use Rattle.refute_check.specs.Clauses.{Clause, HasLiteral, variable_of}
use Rattle.refute_check.specs.Resolution.{has}
use Rattle.refute_check.specs.Machine.{Entry, Trail, entry_of, level_now, level_at, level_of, value_at, value_of, Unset, Status, Falsified, Forces, Idle, status, falsified, forced, forced_with, cut, count_at, highest_but}
use Rattle.refute_check.specs.Rising.{level_after, IsLevelled}
use Rattle.refute_check.proofs.Latest.{level_before, levelled_cut}
use Rattle.refute_check.proofs.Membership.{holds-has}
use Rattle.refute_check.proofs.Trails.{not-falsified, unset-none}
use Rattle.clause_solver.specs.code.Places.{IsOnce}
use Rattle.clause_solver.specs.code.Guarding.{IsGuarded, IsHeld, IsAlert, KeptAs, AllKept, GuardedAs, AreGuarded, WereGuarded, IsSettled, IsBelow}
use Rattle.clause_solver.proofs.Guarding.{two_held, unset-value}

-- ---- where no rule on clauses fits

forces-none : (t : Trail) (k : ℕ) (cs : List Clause) → forced t k cs ≡ None → (i : ℕ) (c : Clause) → slice_get cs i ≡ Some c → (l : ℕ) → status t c ≡ Forces l → ⊥
forces-none t k [] e i c f l g = cc
forces-none t k (d ∷ cs) e i c f l g = go (λ e i f. forces-none t (suc k) cs e i c f l g) (status t d) refl e i f
  where
    other : (forced t (suc k) cs ≡ None → (i : ℕ) → slice_get cs i ≡ Some c → ⊥) → (status t d ≡ Forces l → ⊥) → forced t (suc k) cs ≡ None → (i : ℕ) → slice_get (d ∷ cs) i ≡ Some c → ⊥
    other rec n e zero f = let h : d ≡ c = cc in n (ap (λ c. status t c) h ∙ g)
    other rec n e (suc i) f = rec e i f

    go : (forced t (suc k) cs ≡ None → (i : ℕ) → slice_get cs i ≡ Some c → ⊥) → (s : Status) → status t d ≡ s → forced_with s k (forced t (suc k) cs) ≡ None → (i : ℕ) → slice_get (d ∷ cs) i ≡ Some c → ⊥
    go rec (Forces m) h e i f = cc
    go rec Falsified h e i f = other rec (λ q. let x : Falsified ≡ Forces l = sym h ∙ q in cc) e i f
    go rec Idle h e i f = other rec (λ q. let x : Idle ≡ Forces l = sym h ∙ q in cc) e i f

-- where no rule on clauses fits, all are guarded
pub all_guarded : (t : Trail) (cs : List Clause) (ps : List (ℕ × ℕ)) (fs gs : List ℕ) → AllKept t cs ps fs gs → falsified t 0 cs ≡ None → forced t 0 cs ≡ None → AreGuarded t cs ps
all_guarded t cs ps fs gs kept e f n = go (slice_get cs n) (slice_get ps n) refl (kept n)
  where
    go : (o : Option Clause) (p : Option (ℕ × ℕ)) → slice_get cs n ≡ o → KeptAs t o p fs gs n → GuardedAs t o p
    go None p g k = tt
    go (Some c) None g k = absurd k
    go (Some c) (Some p) g k = by k.1
      where
        by : IsGuarded t c p ⊎ IsAlert t c p fs gs n → IsGuarded t c p
        by (inl x) = x
        by (inr (inl x)) = absurd (not-falsified t cs e n c g x.0)
        by (inr (inr x)) = absurd (forces-none t 0 cs f n c g x.0 x.1)

-- ---- a trail that is cut

pub settled_cut : (n : ℕ) (t : Trail) (cs : List Clause) (ps : List (ℕ × ℕ)) → IsSettled t cs ps → IsSettled (cut n t) cs ps
settled_cut n [] cs ps h = tt
settled_cut n (e ∷ t) cs ps h = go (settled_cut n t cs ps h.1) (nat_lt n e.level)
  where
    go : IsSettled (cut n t) cs ps → (b : Bool) → IsSettled (if b then cut n t else e ∷ t) cs ps
    go rec true = rec
    go rec false = h

pub once_cut : (n : ℕ) (t : Trail) → IsOnce t → IsOnce (cut n t)
once_cut n [] h = tt
once_cut n (e ∷ t) h = go (once_cut n t h.1) (nat_lt n e.level)
  where
    go : IsOnce (cut n t) → (b : Bool) → IsOnce (if b then cut n t else e ∷ t)
    go rec true = rec
    go rec false = h

cut_low : (n : ℕ) (t : Trail) → level_now (cut n t) ≤ n
cut_low n [] = omega arith
cut_low n (e ∷ t) = go (cut_low n t) (nat_lt n e.level) refl
  where
    go : level_now (cut n t) ≤ n → (b : Bool) → nat_lt n e.level ≡ b → level_now (if b then cut n t else e ∷ t) ≤ n
    go rec true f = rec
    go rec false f = grind (arith, f)

cut_whole : (n : ℕ) (t : Trail) → level_now t ≤ n → cut n t ≡ t
cut_whole n [] h = refl
cut_whole n (e ∷ t) h = go (nat_lt n e.level) refl
  where
    go : (b : Bool) → nat_lt n e.level ≡ b → (if b then cut n t else e ∷ t) ≡ e ∷ t
    go true f = let l : n < e.level = ltb-true n e.level f in absurd (omega (arith, l, h))
    go false f = refl

cut_off : (n : ℕ) (e : Entry) (t : Trail) → n < e.level → cut n (e ∷ t) ≡ cut n t
cut_off n e t h = go (nat_lt n e.level) refl
  where
    go : (b : Bool) → nat_lt n e.level ≡ b → (if b then cut n t else e ∷ t) ≡ cut n t
    go true f = refl
    go false f = absurd (grind (arith, f, h))

-- cut below the present level, it is the trail before a decision
pub cut_guarded : (n : ℕ) (t : Trail) (cs : List Clause) (ps : List (ℕ × ℕ)) → IsLevelled t → IsSettled t cs ps → n < level_now t → AreGuarded (cut n t) cs ps
cut_guarded n [] cs ps l s h = absurd (omega (arith, h))
cut_guarded n (e ∷ t) cs ps l s h = subst (λ u. AreGuarded u cs ps) (sym (cut_off n e t h)) (go (λ k. cut_guarded n t cs ps l.1 s.1 k) (nat_lt n (level_now t)) refl)
  where
    decided : level_now t ≤ n → (o : Option ℕ) → e.level ≡ level_after o t → WereGuarded o t cs ps → AreGuarded t cs ps
    decided low None f w = w
    decided low (Some r) f w = absurd (omega (arith, low, f, h))

    go : (n < level_now t → AreGuarded (cut n t) cs ps) → (b : Bool) → nat_lt n (level_now t) ≡ b → AreGuarded (cut n t) cs ps
    go rec true f = rec (ltb-true n (level_now t) f)
    go rec false f =
        let low : level_now t ≤ n = grind (arith, f) in
        subst (λ u. AreGuarded u cs ps) (sym (cut_whole n t low)) (decided low e.reason l.0 s.0)

cut_suffix : (n : ℕ) (t : Trail) → (front : Trail) × (t ≡ front ++ cut n t)
cut_suffix n [] = ([], refl)
cut_suffix n (e ∷ t) = go (cut_suffix n t) (nat_lt n e.level)
  where
    go : (front : Trail) × (t ≡ front ++ cut n t) → (b : Bool) → (front : Trail) × (e ∷ t ≡ front ++ (if b then cut n t else e ∷ t))
    go rec true = (e ∷ rec.0, ap (λ t. e ∷ t) rec.1)
    go rec false = ([], refl)

-- ---- literals of levels

entry_low : (s : Trail) (v : ℕ) (x : Entry) → IsLevelled s → entry_of s v ≡ Some x → x.level ≤ level_now s
entry_low [] v x l e = cc
entry_low (y ∷ s) v x l e = go (λ f. entry_low s v x l.1 f) (variable_of y.literal == v) e
  where
    go : (entry_of s v ≡ Some x → x.level ≤ level_now s) → (b : Bool) → (if b then Some y else entry_of s v) ≡ Some x → x.level ≤ y.level
    go rec true f = let same : y ≡ x = cc in let same_level : y.level ≡ x.level = ap (λ (z : Entry). z.level) same in omega (arith, same_level)
    go rec false f = omega (arith, rec f, level_before y s l)

entry_later : (front s : Trail) (v : ℕ) (x : Entry) → IsOnce (front ++ s) → entry_of s v ≡ Some x → entry_of (front ++ s) v ≡ Some x
entry_later [] s v x o e = e
entry_later (y ∷ front) s v x o e = go (entry_later front s v x o.1 e) (variable_of y.literal == v) refl
  where
    go : entry_of (front ++ s) v ≡ Some x → (b : Bool) → (variable_of y.literal == v) ≡ b → (if b then Some y else entry_of (front ++ s) v) ≡ Some x
    go rec true f = let none : entry_of (front ++ s) v ≡ None = ap (λ v. entry_of (front ++ s) v) (sym (eqb-true (variable_of y.literal) v f)) ∙ o.0 in cc
    go rec false f = rec

-- a literal of a higher level is unset on the trail below
pub unset_below : (front s : Trail) (l : ℕ) → IsOnce (front ++ s) → IsLevelled s → level_now s < level_of (front ++ s) l → value_of s l ≡ Unset
unset_below front s l o h high = go (entry_of s (variable_of l)) refl
  where
    go : (x : Option Entry) → entry_of s (variable_of l) ≡ x → value_at l x ≡ Unset
    go None e = refl
    go (Some x) e =
        let low = entry_low s (variable_of l) x h e in
        let same : level_of (front ++ s) l ≡ x.level = ap (λ o. level_at o) (entry_later front s (variable_of l) x o e) in
        absurd (omega (arith, low, same, high))

pub last_held : (t : Trail) (level : ℕ) (c : Clause) → 1 ≤ count_at t level c → (l : ℕ) × HasLiteral l c × (level_of t l ≡ level)
last_held t level [] h = absurd (omega (arith, h))
last_held t level (l ∷ c) h = go (λ k. last_held t level c k) (level_of t l == level) refl h
  where
    go : (1 ≤ count_at t level c → (m : ℕ) × HasLiteral m c × (level_of t m ≡ level)) → (b : Bool) → (level_of t l == level) ≡ b →
        1 ≤ (if b then suc (count_at t level c) else count_at t level c) → (m : ℕ) × HasLiteral m (l ∷ c) × (level_of t m ≡ level)
    go rec true e k = (l, inl refl, eqb-true (level_of t l) level e)
    go rec false e k = let r = rec k in (r.0, inr r.1, r.2)

max_either : (a b : ℕ) → (max a b ≡ a) ⊎ (max a b ≡ b)
max_either a b = go (nat_lt a b) refl
  where
    go : (t : Bool) → nat_lt a b ≡ t → (max a b ≡ a) ⊎ (max a b ≡ b)
    go true e = let l : a < b = ltb-true a b e in inr (omega (arith, l))
    go false e = let l : b ≤ a = grind (arith, e) in inl (omega (arith, l))

pub highest_held : (t : Trail) (level : ℕ) (c : Clause) → 1 ≤ highest_but t level c → (l : ℕ) × HasLiteral l c × (level_of t l ≡ highest_but t level c)
highest_held t level [] h = absurd (omega (arith, h))
highest_held t level (l ∷ c) h = go (λ k. highest_held t level c k) (level_of t l == level) refl h
  where
    go : (1 ≤ highest_but t level c → (m : ℕ) × HasLiteral m c × (level_of t m ≡ highest_but t level c)) → (b : Bool) → (level_of t l == level) ≡ b →
        1 ≤ (if b then highest_but t level c else max (level_of t l) (highest_but t level c)) →
        (m : ℕ) × HasLiteral m (l ∷ c) × (level_of t m ≡ (if b then highest_but t level c else max (level_of t l) (highest_but t level c)))
    go rec true e k = let r = rec k in (r.0, inr r.1, r.2)
    go rec false e k = by (max_either (level_of t l) (highest_but t level c))
      where
        by : (max (level_of t l) (highest_but t level c) ≡ level_of t l) ⊎ (max (level_of t l) (highest_but t level c) ≡ highest_but t level c) →
            (m : ℕ) × HasLiteral m (l ∷ c) × (level_of t m ≡ max (level_of t l) (highest_but t level c))
        by (inl f) = (l, inl refl, sym f)
        by (inr f) = let r = rec (subst (λ n. 1 ≤ n) f k) in (r.0, inr r.1, r.2 ∙ sym f)

-- ---- below

pub below_suffix : (front s : Trail) → IsOnce (front ++ s) → IsBelow s (front ++ s)
below_suffix front s o l u = go (entry_of s (variable_of l)) refl
  where
    go : (x : Option Entry) → entry_of s (variable_of l) ≡ x → value_of s l ≡ Unset
    go None e = unset-value s l e
    go (Some x) e = let none : Some x ≡ None = sym (entry_later front s (variable_of l) x o e) ∙ unset-none l (entry_of (front ++ s) (variable_of l)) u in cc

-- where all pairs guard what they guarded before, the trail stays settled
settled_from : (front v : Trail) (cs : List Clause) (ps qs : List (ℕ × ℕ)) → IsOnce (front ++ v) → ((s : Trail) → IsBelow s (front ++ v) → AreGuarded s cs ps → AreGuarded s cs qs) → IsSettled v cs ps → IsSettled v cs qs
settled_from front [] cs ps qs o before h = tt
settled_from front (e ∷ v) cs ps qs o before h =
    let whole : front ++ e ∷ v ≡ (front ++ e ∷ []) ++ v = sym (append_assoc front (e ∷ []) v) in
    let once : IsOnce ((front ++ e ∷ []) ++ v) = subst (λ t. IsOnce t) whole o in
    (go whole once e.reason h.0, settled_from (front ++ e ∷ []) v cs ps qs once (λ s b g. before s (subst (λ t. IsBelow s t) (sym whole) b) g) h.1)
  where
    go : front ++ e ∷ v ≡ (front ++ e ∷ []) ++ v → IsOnce ((front ++ e ∷ []) ++ v) → (r : Option ℕ) → WereGuarded r v cs ps → WereGuarded r v cs qs
    go whole once (Some r) g = tt
    go whole once None g = before v (subst (λ t. IsBelow v t) (sym whole) (below_suffix (front ++ e ∷ []) v once)) g

pub settled_moved : (t : Trail) (cs : List Clause) (ps qs : List (ℕ × ℕ)) → IsOnce t → ((s : Trail) → IsBelow s t → AreGuarded s cs ps → AreGuarded s cs qs) → IsSettled t cs ps → IsSettled t cs qs
settled_moved t cs ps qs o before h = settled_from [] t cs ps qs o before h

-- ---- the clause that is learnt

get-old : (cs : List Clause) (c : Clause) (n : ℕ) → n < length cs → slice_get (cs ++ c ∷ []) n ≡ slice_get cs n
get-old [] c n l = absurd (omega (arith, l))
get-old (d ∷ cs) c zero l = refl
get-old (d ∷ cs) c (suc n) l = get-old cs c n (omega (arith, l))

pub get-new : (cs : List Clause) (c : Clause) → slice_get (cs ++ c ∷ []) (length cs) ≡ Some c
get-new [] c = refl
get-new (d ∷ cs) c = get-new cs c

get-past : (cs : List Clause) (n : ℕ) → length cs ≤ n → slice_get cs n ≡ None
get-past [] n l = refl
get-past (d ∷ cs) zero l = absurd (omega (arith, l))
get-past (d ∷ cs) (suc n) l = get-past cs n (omega (arith, l))

length-more : (cs : List Clause) (c : Clause) → length (cs ++ c ∷ []) ≡ suc (length cs)
length-more [] c = refl
length-more (d ∷ cs) c = ap suc (length-more cs c)

-- what keeps and guards the clauses, with one more
pub guarded_old : (s : Trail) (cs ds : List Clause) (c : Clause) (ps : List (ℕ × ℕ)) → ds ≡ cs ++ c ∷ [] → length ps ≡ length cs → AreGuarded s cs ps → (n : ℕ) → n < length ps → GuardedAs s (slice_get ds n) (slice_get ps n)
guarded_old s cs ds c ps is count g n l =
    subst (λ o. GuardedAs s o (slice_get ps n)) (sym (ap (λ ds. slice_get ds n) is ∙ get-old cs c n (omega (arith, l, count)))) (g n)

-- Before each decision of a level up to this one the clause watches two unset literals: one of this level and one of a higher.
module _ (level a b : ℕ) (c : Clause) (cs ds : List Clause) (ps qs : List (ℕ × ℕ)) (is : ds ≡ cs ++ c ∷ []) (count : length ps ≡ length cs) (ha : has c a ≡ true) (hb : has c b ≡ true) where
  learnt_from : (above front u : Trail) → IsOnce (above ++ (front ++ u)) → IsLevelled u → level_now u ≤ level → level < level_of (above ++ (front ++ u)) a → (1 ≤ level → level_of (above ++ (front ++ u)) b ≡ level) →
      ((s : Trail) → IsBelow s (front ++ u) → ((n : ℕ) → n < length ps → GuardedAs s (slice_get ds n) (slice_get ps n)) → GuardedAs s (slice_get ds (length ps)) (Some (a, b)) → (n : ℕ) → n < suc (length ps) → GuardedAs s (slice_get ds n) (slice_get qs n)) →
      IsSettled u cs ps → IsSettled u ds qs
  learnt_from above front [] o l low la lb before h = tt
  learnt_from above front (e ∷ u) o l low la lb before h = (
    guarded e.reason l.0 h.0,
    learnt_from above (front ++ e ∷ []) u (subst (λ t. IsOnce (above ++ t)) whole o) l.1 (omega (arith, below, low)) (subst (λ t. level < level_of (above ++ t) a) whole la)
        (λ k. subst (λ t. level_of (above ++ t) b ≡ level) whole (lb k)) (λ s x. before s (subst (λ t. IsBelow s t) (sym whole) x)) h.1,
  )
    where
      below : level_now u ≤ e.level
      below = level_before e u l

      whole : front ++ e ∷ u ≡ (front ++ e ∷ []) ++ u
      whole = sym (append_assoc front (e ∷ []) u)

      all : above ++ (front ++ e ∷ u) ≡ (above ++ (front ++ e ∷ [])) ++ u
      all = ap (λ t. above ++ t) whole ∙ sym (append_assoc above (front ++ e ∷ []) u)

      once : IsOnce (front ++ e ∷ u)
      once = later above (front ++ e ∷ u) o
        where
          later : (xs ys : Trail) → IsOnce (xs ++ ys) → IsOnce ys
          later [] ys h = h
          later (x ∷ xs) ys h = later xs ys h.1

      guarded : (r : Option ℕ) → e.level ≡ level_after r u → WereGuarded r u cs ps → WereGuarded r u ds qs
      guarded (Some r) f g = tt
      guarded None f g = λ n. by n (nat_lt n (suc (length ps))) refl
        where
          high : level_now u < level
          high = omega (arith, f, low)

          same : level_of (above ++ (front ++ e ∷ u)) b ≡ level
          same = lb (omega (arith, high))

          apart : a ≡ b → ⊥
          apart x = let y : level_of (above ++ (front ++ e ∷ u)) a ≡ level = ap (λ l. level_of (above ++ (front ++ e ∷ u)) l) x ∙ same in omega (arith, y, la)

          ua : value_of u a ≡ Unset
          ua = unset_below (above ++ (front ++ e ∷ [])) u a (subst (λ t. IsOnce t) all o) l.1 (subst (λ t. level_now u < level_of t a) all (omega (arith, high, la)))

          ub : value_of u b ≡ Unset
          ub = unset_below (above ++ (front ++ e ∷ [])) u b (subst (λ t. IsOnce t) all o) l.1 (subst (λ t. level_now u < level_of t b) all (let x = same in omega (arith, high, x)))

          fresh : GuardedAs u (Some c) (Some (a, b))
          fresh = inr (two_held c a b apart ha hb, ua, ub)

          by : (n : ℕ) (t : Bool) → nat_lt n (suc (length ps)) ≡ t → GuardedAs u (slice_get ds n) (slice_get qs n)
          by n true x = before u (subst (λ t. IsBelow u t) (sym whole) (below_suffix (front ++ e ∷ []) u (subst (λ t. IsOnce t) whole once)))
              (guarded_old u cs ds c ps is count g) (subst (λ o. GuardedAs u o (Some (a, b))) (sym (ap (λ ds. slice_get ds (length ps)) is ∙ ap (λ k. slice_get (cs ++ c ∷ []) k) count ∙ get-new cs c)) fresh) n (ltb-true n (suc (length ps)) x)
          by n false x =
              let past : suc (length ps) ≤ n = grind (arith, x) in
              let long : length ds ≡ suc (length cs) = ap (λ (ds : List Clause). length ds) is ∙ length-more cs c in
              subst (λ o. GuardedAs u o (slice_get qs n)) (sym (get-past ds n (omega (arith, past, long, count)))) tt

pub settled_learnt : (t u : Trail) (cs ds : List Clause) (ps qs : List (ℕ × ℕ)) (c d : Clause) (level : ℕ) (p : ℕ × ℕ) → u ≡ cut level t → ds ≡ cs ++ c ∷ [] → d ≡ c → length ps ≡ length cs → IsOnce t → IsLevelled t → IsSettled t cs ps →
    level ≡ highest_but t (level_now t) c → level < level_now t → 1 ≤ count_at t (level_now t) d → IsHeld d p →
    ((l : ℕ) → has d l ≡ true → level_of t l ≡ level_now t → level_of t p.0 ≡ level_now t) → ((l : ℕ) → has d l ≡ true → level_of t l ≡ level → level_of t p.1 ≡ level) →
    ((s : Trail) → IsBelow s u → ((n : ℕ) → n < length ps → GuardedAs s (slice_get ds n) (slice_get ps n)) → GuardedAs s (slice_get ds (length ps)) (Some p) → (n : ℕ) → n < suc (length ps) → GuardedAs s (slice_get ds n) (slice_get qs n)) →
    IsSettled u ds qs
settled_learnt t u cs ds ps qs c d level p is more same count o l s e low some held first second before =
    go held (cut_suffix level t)
  where
    some' : 1 ≤ count_at t (level_now t) c
    some' = subst (λ d. 1 ≤ count_at t (level_now t) d) same some

    x : (m : ℕ) × HasLiteral m c × (level_of t m ≡ level_now t)
    x = last_held t (level_now t) c some'

    la : level_of t p.0 ≡ level_now t
    la = first x.0 (ap (λ d. has d x.0) same ∙ holds-has c x.0 x.1) x.2

    lb : 1 ≤ level → level_of t p.1 ≡ level
    lb k =
        let y = highest_held t (level_now t) c (omega (arith, k, e)) in
        second y.0 (ap (λ d. has d y.0) same ∙ holds-has c y.0 y.1) (y.2 ∙ sym e)

    go : IsHeld d p → (front : Trail) × (t ≡ front ++ cut level t) → IsSettled u ds qs
    go (inl k) f = let z = subst (λ c. HasLiteral x.0 c) (sym same ∙ k) x.1 in absurd z
    go (inr k) f = subst (λ u. IsSettled u ds qs) (sym is)
        (learnt_from level p.0 p.1 c cs ds ps qs more count (sym (ap (λ d. has d p.0) same) ∙ k.0) (sym (ap (λ d. has d p.1) same) ∙ k.1) f.0 [] (cut level t) (subst (λ t. IsOnce t) f.1 o) (levelled_cut level t l) (cut_low level t)
        (subst (λ t. level < level_of t p.0) f.1 (let y = la in omega (arith, y, low))) (λ j. subst (λ t. level_of t p.1 ≡ level) f.1 (lb j))
        (subst (λ u. (s : Trail) → IsBelow s u → ((n : ℕ) → n < length ps → GuardedAs s (slice_get ds n) (slice_get ps n)) → GuardedAs s (slice_get ds (length ps)) (Some p) → (n : ℕ) → n < suc (length ps) → GuardedAs s (slice_get ds n) (slice_get qs n)) is before)
        (settled_cut level t cs ps s))
