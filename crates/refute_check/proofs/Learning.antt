-- What an analysis of a conflict leads to.
use Rattle.std.proofs.Common.{◌⊎◌, inl, inr, ◌≡◌, ℕ, ◌%◌, List, [], ◌∷◌, refl, sym, ap, ◌∙◌, subst, arith}
use Rattle.std.specs.Prelude.{Option, Some, None, Bool, true, false, ◌==◌, ◌||◌, if◌then◌else◌}
use Rattle.std.specs.Option.{option_and_then}
use Rattle.std.proofs.lemmas.Bool.{eqb-true, eq-eqb, true≢false}
use Rattle.refute_check.specs.Clauses.{Clause, HasLiteral, variable_of, positive, negative}
use Rattle.refute_check.specs.Resolution.{has, joined, resolvent}
use Rattle.refute_check.specs.Logs.{after_step, after_steps}
use Rattle.refute_check.specs.Machine.{Entry, Trail, entry_of, True, False, Unset, value_at, value_of, Learnt, stays, has_variable, resolved_with, by_reason, analysed, is_empty, decided_or, has_decision}
use Rattle.refute_check.proofs.Fits.{EntryFits, Fits}
use Rattle.refute_check.proofs.Membership.{has-holds, holds-has, apart, joined_was}

-- what an analysis answers is what its chain gives
pub analysed-chain : (cs : List Clause) (enough : Clause → Bool) (t : Trail) (c : Clause) → after_steps cs (analysed cs enough t c).steps c ≡ Some (analysed cs enough t c).clause
analysed-chain cs enough [] c = refl
analysed-chain cs enough (e ∷ t) c = go (λ r. analysed-chain cs enough t r) (enough c) (has_variable v c)
  where
    v : ℕ
    v = variable_of e.literal

    Right : Learnt → Type 0
    Right l = after_steps cs l.steps c ≡ Some l.clause

    resolved : ((r : Clause) → after_steps cs (analysed cs enough t r).steps r ≡ Some (analysed cs enough t r).clause) → (k : ℕ) (o : Option Clause) →
        after_step cs (k, v) c ≡ o → Right (resolved_with o (k, v) c (λ r. analysed cs enough t r))
    resolved rec k None f = refl
    resolved rec k (Some r) f = ap (λ o. option_and_then (λ x. after_steps cs (analysed cs enough t r).steps x) o) f ∙ rec r

    reasoned : ((r : Clause) → after_steps cs (analysed cs enough t r).steps r ≡ Some (analysed cs enough t r).clause) → (o : Option ℕ) → Right (by_reason cs o v c (λ r. analysed cs enough t r))
    reasoned rec None = refl
    reasoned rec (Some k) = resolved rec k _ refl

    go : ((r : Clause) → after_steps cs (analysed cs enough t r).steps r ≡ Some (analysed cs enough t r).clause) → (b d : Bool) →
        Right (if b then stays c else (if d then by_reason cs e.reason v c (λ r. analysed cs enough t r) else analysed cs enough t c))
    go rec true d = refl
    go rec false true = reasoned rec e.reason
    go rec false false = rec c

-- all literals of the clause are false
abbrev pub AllFalse : Trail → Clause → Type 0
AllFalse t c = (l : ℕ) → HasLiteral l c → value_of t l ≡ False

none-false : (c : Clause) → AllFalse [] c → c ≡ []
none-false [] h = refl
none-false (l ∷ c) h = let x : Unset ≡ False = h l (inl refl) in cc

has_variable-is : (v : ℕ) (c : Clause) → has_variable v c ≡ true → (l : ℕ) × HasLiteral l c × (variable_of l ≡ v)
has_variable-is v [] e = cc
has_variable-is v (l ∷ c) e = go (λ f. has_variable-is v c f) (variable_of l == v) refl e
  where
    go : (has_variable v c ≡ true → (m : ℕ) × HasLiteral m c × (variable_of m ≡ v)) → (b : Bool) → (variable_of l == v) ≡ b → (b || has_variable v c) ≡ true → (m : ℕ) × HasLiteral m (l ∷ c) × (variable_of m ≡ v)
    go rec true f e = (l, inl refl, eqb-true (variable_of l) v f)
    go rec false f e = let r = rec e in (r.0, inr r.1, r.2)

has_variable-not : (v : ℕ) (c : Clause) → has_variable v c ≡ false → (l : ℕ) → HasLiteral l c → variable_of l ≡ v → ⊥
has_variable-not v [] e l h f = h
has_variable-not v (k ∷ c) e l h f = go (λ g i. has_variable-not v c g l i f) (variable_of k == v) refl e h
  where
    go : (has_variable v c ≡ false → HasLiteral l c → ⊥) → (b : Bool) → (variable_of k == v) ≡ b → (b || has_variable v c) ≡ false → (l ≡ k) ⊎ HasLiteral l c → ⊥
    go rec true g e h = true≢false e
    go rec false g e (inl i) = true≢false (sym (eq-eqb (variable_of k) v (ap (λ l. variable_of l) (sym i) ∙ f)) ∙ g)
    go rec false g e (inr i) = rec e i

-- the latest literal is true
own-true : (e : Entry) (t : Trail) → value_of (e ∷ t) e.literal ≡ True
own-true e t =
    ap (λ b. value_at e.literal (if b then Some e else entry_of t (variable_of e.literal))) (eq-eqb (variable_of e.literal) (variable_of e.literal) refl)
    ∙ ap (λ b. if b then True else False) (eq-eqb e.literal e.literal refl)

-- below the latest entry another variable's literal has its value
below : (e : Entry) (t : Trail) (m : ℕ) → value_of (e ∷ t) m ≡ False → (variable_of m ≡ variable_of e.literal → ⊥) → value_of t m ≡ False
below e t m h n = go (variable_of e.literal == variable_of m) refl h
  where
    go : (b : Bool) → (variable_of e.literal == variable_of m) ≡ b → value_at m (if b then Some e else entry_of t (variable_of m)) ≡ False → value_of t m ≡ False
    go true f h = absurd (n (sym (eqb-true (variable_of e.literal) (variable_of m) f)))
    go false f h = h

-- a literal is its variable or the negation
pub either_way : (l : ℕ) → (l ≡ positive (variable_of l)) ⊎ (l ≡ negative (variable_of l))
either_way l = go (l % 2 == 0) refl
  where
    go : (b : Bool) → (l % 2 == 0) ≡ b → (l ≡ positive (variable_of l)) ⊎ (l ≡ negative (variable_of l))
    go true e = let f : l % 2 ≡ 0 = eqb-true (l % 2) 0 e in inl (omega (arith, f))
    go false e = let f : l % 2 ≡ 0 → ⊥ = apart (l % 2) 0 e in inr (omega (arith, f))

-- a literal that was false before is not of the latest variable
resolved-false : (e : Entry) (t : Trail) (c d : Clause) (n : ℕ) → AllFalse (e ∷ t) c → ((m : ℕ) → variable_of m ≡ variable_of e.literal → (m ≡ e.literal) ⊎ (m ≡ n)) →
    ((m : ℕ) → HasLiteral m d → (m ≡ e.literal) ⊎ (value_of t m ≡ False)) → AllFalse t (joined n e.literal c d)
resolved-false e t c d n false_c ways others q h = go (joined_was n e.literal c d q (holds-has _ q h))
  where
    untrue : value_of (e ∷ t) q ≡ False → q ≡ e.literal → ⊥
    untrue f g = let x : True ≡ False = sym (own-true e t) ∙ ap (λ q. value_of (e ∷ t) q) (sym g) ∙ f in cc

    at_c : (f : value_of (e ∷ t) q ≡ False) → (q == n) ≡ false → variable_of q ≡ variable_of e.literal → ⊥
    at_c f g v = by (ways q v)
      where
        by : (q ≡ e.literal) ⊎ (q ≡ n) → ⊥
        by (inl i) = untrue f i
        by (inr i) = apart q n g i

    at_d : (q ≡ e.literal) ⊎ (value_of t q ≡ False) → (q == e.literal) ≡ false → value_of t q ≡ False
    at_d (inl i) g = absurd (apart q e.literal g i)
    at_d (inr f) g = f

    go : ((has c q ≡ true) × ((q == n) ≡ false)) ⊎ ((has d q ≡ true) × ((q == e.literal) ≡ false)) → value_of t q ≡ False
    go (inl i) = let f = false_c q (has-holds c q i.0) in below e t q f (at_c f i.1)
    go (inr i) = at_d (others q (has-holds d q i.0)) i.1

-- a clause that is false and holds the latest variable resolves with its reason to a clause that was false before
resolves : (e : Entry) (t : Trail) (c d : Clause) → AllFalse (e ∷ t) c → has_variable (variable_of e.literal) c ≡ true → HasLiteral e.literal d → ((m : ℕ) → HasLiteral m d → (m ≡ e.literal) ⊎ (value_of t m ≡ False)) →
    (r : Clause) × (resolvent c d (variable_of e.literal) ≡ Some r) × AllFalse t r
resolves e t c d false_c hv hd others = go (either_way e.literal)
  where
    v : ℕ
    v = variable_of e.literal

    x : (m : ℕ) × HasLiteral m c × (variable_of m ≡ v)
    x = has_variable-is v c hv

    true_out : has c e.literal ≡ false
    true_out = by (has c e.literal) refl
      where
        by : (b : Bool) → has c e.literal ≡ b → has c e.literal ≡ false
        by true f = let y : True ≡ False = sym (own-true e t) ∙ false_c e.literal (has-holds c e.literal f) in cc
        by false f = f

    -- the literal of the variable that the clause holds is the other one
    other_in : (n : ℕ) → ((m : ℕ) → variable_of m ≡ v → (m ≡ e.literal) ⊎ (m ≡ n)) → has c n ≡ true
    other_in n ways = by (ways x.0 x.2)
      where
        by : (x.0 ≡ e.literal) ⊎ (x.0 ≡ n) → has c n ≡ true
        by (inl i) = let y : True ≡ False = sym (own-true e t) ∙ ap (λ m. value_of (e ∷ t) m) (sym i) ∙ false_c x.0 x.1 in cc
        by (inr i) = ap (λ m. has c m) (sym i) ∙ holds-has c x.0 x.1

    ways_of : (m : ℕ) → variable_of m ≡ v → (m ≡ positive v) ⊎ (m ≡ negative v)
    ways_of m f = by (either_way m)
      where
        by : (m ≡ positive (variable_of m)) ⊎ (m ≡ negative (variable_of m)) → (m ≡ positive v) ⊎ (m ≡ negative v)
        by (inl i) = inl (i ∙ ap (λ v. positive v) f)
        by (inr i) = inr (i ∙ ap (λ v. negative v) f)

    go : (e.literal ≡ positive v) ⊎ (e.literal ≡ negative v) → (r : Clause) × (resolvent c d v ≡ Some r) × AllFalse t r
    go (inl p) =
        let a : has c (positive v) ≡ false = ap (λ l. has c l) (sym p) ∙ true_out in
        let b : has c (negative v) ≡ true = other_in (negative v) ways in
        let g : has d (positive v) ≡ true = ap (λ l. has d l) (sym p) ∙ holds-has d e.literal hd in
        (joined (negative v) e.literal c d, rw (a, b, g) (ap (λ l. Some (joined (negative v) l c d)) (sym p)), resolved-false e t c d (negative v) false_c ways others)
      where
        ways : (m : ℕ) → variable_of m ≡ v → (m ≡ e.literal) ⊎ (m ≡ negative v)
        ways m f = by (ways_of m f)
          where
            by : (m ≡ positive v) ⊎ (m ≡ negative v) → (m ≡ e.literal) ⊎ (m ≡ negative v)
            by (inl i) = inl (i ∙ sym p)
            by (inr i) = inr i
    go (inr p) =
        let a : has c (positive v) ≡ true = other_in (positive v) ways in
        let b : has d (negative v) ≡ true = ap (λ l. has d l) (sym p) ∙ holds-has d e.literal hd in
        (joined (positive v) e.literal c d, rw (a, b) (ap (λ l. Some (joined (positive v) l c d)) (sym p)), resolved-false e t c d (positive v) false_c ways others)
      where
        ways : (m : ℕ) → variable_of m ≡ v → (m ≡ e.literal) ⊎ (m ≡ positive v)
        ways m f = by (ways_of m f)
          where
            by : (m ≡ positive v) ⊎ (m ≡ negative v) → (m ≡ e.literal) ⊎ (m ≡ positive v)
            by (inl i) = inr i
            by (inr i) = inl (i ∙ sym p)

-- with no decision on the trail, a false clause resolves to the empty one
pub empties : (cs : List Clause) (order : List ℕ) (t : Trail) → Fits cs order t → has_decision t ≡ false → (c : Clause) → AllFalse t c → (analysed cs is_empty t c).clause ≡ []
empties cs order [] fits none c h = none-false c h
empties cs order (e ∷ t) fits none c h = go (λ n r k. empties cs order t fits.2 n r k) (is_empty c) (has_variable v c) refl refl
  where
    v : ℕ
    v = variable_of e.literal

    empty-is : (c : Clause) → is_empty c ≡ true → c ≡ []
    empty-is [] f = refl
    empty-is (l ∷ c) f = absurd (true≢false (sym f))

    rest-none : (o : Option ℕ) (b : Bool) → decided_or o b ≡ false → b ≡ false
    rest-none None b f = absurd (true≢false f)
    rest-none (Some k) b f = f

    after : (s : ℕ × ℕ) (o : Option Clause) (r : Clause) → o ≡ Some r → (analysed cs is_empty t r).clause ≡ [] → (resolved_with o s c (λ r. analysed cs is_empty t r)).clause ≡ []
    after s o r f g = subst (λ o. (resolved_with o s c (λ r. analysed cs is_empty t r)).clause ≡ []) (sym f) g

    reasoned : ((r : Clause) → AllFalse t r → (analysed cs is_empty t r).clause ≡ []) → (o : Option ℕ) → EntryFits cs order o e t → decided_or o (has_decision t) ≡ false → has_variable v c ≡ true →
        (by_reason cs o v c (λ r. analysed cs is_empty t r)).clause ≡ []
    reasoned rec None f n w = absurd (true≢false n)
    reasoned rec (Some k) f n w =
        let r : (r : Clause) × (resolvent c f.0 v ≡ Some r) × AllFalse t r = resolves e t c f.0 h w f.2 f.3 in
        after (k, v) _ r.0 (ap (λ o. option_and_then (λ d. resolvent c d v) o) f.1 ∙ r.1) (rec r.0 r.2)

    go : (has_decision t ≡ false → (r : Clause) → AllFalse t r → (analysed cs is_empty t r).clause ≡ []) → (b d : Bool) → is_empty c ≡ b → has_variable v c ≡ d →
        (if b then stays c else (if d then by_reason cs e.reason v c (λ r. analysed cs is_empty t r) else analysed cs is_empty t c)).clause ≡ []
    go rec true d f g = empty-is c f
    go rec false true f g = reasoned (λ r k. rec (rest-none e.reason _ none) r k) e.reason fits.1 none g
    go rec false false f g = rec (rest-none e.reason _ none) c (λ l m. below e t l (h l m) (λ w. has_variable-not v c g l m w))
