-- Literals with holes, and the table of their places.
use Rattle.std.proofs.Common.{◌⊎◌, inl, inr, ⊎_elim, ◌≡◌, ◌<◌, ◌≤◌, ◌+◌, ◌-◌, ℕ, zero, suc, List, [], ◌∷◌, ◌++◌, length, take, get_or, refl, sym, ap, ◌∙◌, arith}
use Rattle.std.specs.Prelude.{Bool, true, false, not, ◌==◌, ◌||◌, if◌then◌else◌, Option, Some, None, slice_get, slice_set}
use Rattle.std.proofs.lemmas.Bool.{eqb-true, eq-eqb, true≢false}
use Rattle.std.proofs.lemmas.List.{take_more, append-nil}
use Rattle.refute_check.specs.Resolution.{has, without}
use Rattle.refute_check.proofs.Membership.{other_literal, or_true}
use Rattle.clause_solver.specs.code.Literals.{present, IsStoredAt, IsStored}
use Rattle.clause_solver.proofs.Visiting.{set_same, set_other}

pub present_small : (ss : List (Option ℕ)) → length (present ss) ≤ length ss
present_small [] = omega arith
present_small (None ∷ ss) = let r = present_small ss in omega (arith, r)
present_small (Some l ∷ ss) = let r = present_small ss in omega (arith, r)

-- ---- which are there

pub stored_has : (ss : List (Option ℕ)) (p l : ℕ) → IsStoredAt ss p l → has (present ss) l ≡ true
stored_has [] p l h = cc
stored_has (None ∷ ss) zero l h = cc
stored_has (Some k ∷ ss) zero l h = let e : k ≡ l = cc in ap (λ b. b || has (present ss) l) (eq-eqb k l e)
stored_has (None ∷ ss) (suc p) l h = stored_has ss p l h
stored_has (Some k ∷ ss) (suc p) l h = ap (λ b. (k == l) || b) (stored_has ss p l h) ∙ or_true (k == l)

pub absent : (ss : List (Option ℕ)) (l : ℕ) → ((p : ℕ) → IsStoredAt ss p l → ⊥) → has (present ss) l ≡ false
absent [] l n = refl
absent (None ∷ ss) l n = absent ss l (λ p h. n (suc p) h)
absent (Some k ∷ ss) l n = ap (λ b. b || has (present ss) l) (other_literal k l (λ e. n 0 (ap (λ k. Some (Some k)) e))) ∙ absent ss l (λ p h. n (suc p) h)

-- the table has no place for it
pub not_found : (ss : List (Option ℕ)) (ps : List ℕ) (many : ℕ) → IsStored ss ps many → (l : ℕ) → ((p : ℕ) → IsStoredAt ss p l → slice_get ps l ≡ Some p → ⊥) → has (present ss) l ≡ false
not_found ss ps many s l n = absent ss l (λ p h. n p h (s.found p l h))

pub without_absent : (xs : List ℕ) (l : ℕ) → has xs l ≡ false → without l xs ≡ xs
without_absent [] l h = refl
without_absent (k ∷ xs) l h = go (λ f. without_absent xs l f) (k == l) refl h
  where
    go : (has xs l ≡ false → without l xs ≡ xs) → (b : Bool) → (k == l) ≡ b → (b || has xs l) ≡ false → (if not (k == l) then k ∷ without l xs else without l xs) ≡ k ∷ xs
    go rec true e f = absurd (true≢false f)
    go rec false e f = ap (λ b. if not b then k ∷ without l xs else without l xs) e ∙ ap (λ xs. k ∷ xs) (rec f)

-- ---- one more

pub present_push : (ss : List (Option ℕ)) (l : ℕ) → present (ss ++ Some l ∷ []) ≡ present ss ++ l ∷ []
present_push [] l = refl
present_push (None ∷ ss) l = present_push ss l
present_push (Some k ∷ ss) l = ap (λ xs. k ∷ xs) (present_push ss l)

pushed : (ss : List (Option ℕ)) (x : Option ℕ) (p l : ℕ) → slice_get (ss ++ x ∷ []) p ≡ Some (Some l) → (IsStoredAt ss p l) ⊎ ((p ≡ length ss) × (x ≡ Some l))
pushed [] x zero l h = inr (refl, cc)
pushed [] x (suc p) l h = cc
pushed (y ∷ ss) x zero l h = inl h
pushed (y ∷ ss) x (suc p) l h = ⊎_elim (λ a. inl a) (λ b. inr (ap suc b.0, b.1)) (pushed ss x p l h)

length_push : (xs : List ℕ) (x : ℕ) → length (xs ++ x ∷ []) ≡ length xs + 1
length_push [] x = refl
length_push (y ∷ xs) x = let r = length_push xs x in omega (arith, r)

-- a longer table
pub stored_longer : (ss : List (Option ℕ)) (ps qs : List ℕ) (many : ℕ) → IsStored ss ps many → ((o p : ℕ) → slice_get ps o ≡ Some p → slice_get qs o ≡ Some p) → IsStored ss qs many
stored_longer ss ps qs many s k = record { found = λ p l h. k l p (s.found p l h); counted = s.counted }

pub stored_push : (ss : List (Option ℕ)) (ps : List ℕ) (many l : ℕ) → IsStored ss ps many → has (present ss) l ≡ false → l < length ps → IsStored (ss ++ Some l ∷ []) (slice_set ps l (length ss)) (many + 1)
stored_push ss ps many l s n long = record {
  found = λ p k h. ⊎_elim (λ a. old p k a) (λ b. new p k b.0 (same k b.1)) (pushed ss (Some l) p k h);
  counted = ap (λ n. n + 1) s.counted ∙ sym (ap (λ xs. length xs) (present_push ss l) ∙ length_push (present ss) l);
}
  where
    same : (k : ℕ) → Some l ≡ Some k → l ≡ k
    same k e = cc

    old : (p k : ℕ) → IsStoredAt ss p k → slice_get (slice_set ps l (length ss)) k ≡ Some p
    old p k a = set_other ps l (length ss) k (λ e. true≢false (sym (stored_has ss p k a) ∙ ap (λ k. has (present ss) k) e ∙ n)) ∙ s.found p k a

    new : (p k : ℕ) → p ≡ length ss → l ≡ k → slice_get (slice_set ps l (length ss)) k ≡ Some p
    new p k e f = ap (λ k. slice_get (slice_set ps l (length ss)) k) (sym f) ∙ set_same ps l (length ss) long ∙ ap (λ p. Some p) (sym e)

-- ---- one less

stored_within : (ss : List (Option ℕ)) (p l : ℕ) → IsStoredAt ss p l → p < length ss
stored_within [] p l h = cc
stored_within (x ∷ ss) zero l h = omega arith
stored_within (x ∷ ss) (suc p) l h = let r = stored_within ss p l h in omega (arith, r)

off : (ss : List (Option ℕ)) (p l : ℕ) → IsStoredAt ss p l → ((q : ℕ) → IsStoredAt ss q l → q ≡ p) → present (slice_set ss p None) ≡ without l (present ss)
off [] p l h o = cc
off (None ∷ ss) zero l h o = cc
off (Some k ∷ ss) zero l h o =
    let e : k ≡ l = cc in
    sym (ap (λ b. if not b then k ∷ without l (present ss) else without l (present ss)) (eq-eqb k l e)
    ∙ without_absent (present ss) l (absent ss l (λ q i. let x = o (suc q) i in omega (arith, x))))
off (None ∷ ss) (suc p) l h o = off ss p l h (λ q i. let x = o (suc q) i in omega (arith, x))
off (Some k ∷ ss) (suc p) l h o =
    ap (λ xs. k ∷ xs) (off ss p l h (λ q i. let x = o (suc q) i in omega (arith, x)))
    ∙ sym (ap (λ b. if not b then k ∷ without l (present ss) else without l (present ss))
    (other_literal k l (λ e. let x = o 0 (ap (λ k. Some (Some k)) e) in absurd (omega (arith, x)))))

fewer : (ss : List (Option ℕ)) (p l : ℕ) → IsStoredAt ss p l → suc (length (present (slice_set ss p None))) ≡ length (present ss)
fewer [] p l h = cc
fewer (None ∷ ss) zero l h = cc
fewer (Some k ∷ ss) zero l h = refl
fewer (None ∷ ss) (suc p) l h = fewer ss p l h
fewer (Some k ∷ ss) (suc p) l h = ap suc (fewer ss p l h)

pub present_off : (ss : List (Option ℕ)) (ps : List ℕ) (many p l : ℕ) → IsStored ss ps many → IsStoredAt ss p l → present (slice_set ss p None) ≡ without l (present ss)
present_off ss ps many p l s h = off ss p l h (λ q i. same q (sym (s.found q l i) ∙ s.found p l h))
  where
    same : (q : ℕ) → Some q ≡ Some p → q ≡ p
    same q e = cc

pub stored_off : (ss : List (Option ℕ)) (ps : List ℕ) (many p l : ℕ) → IsStored ss ps many → IsStoredAt ss p l → IsStored (slice_set ss p None) ps (many - 1)
stored_off ss ps many p l s h = record {
  found = λ q k i. go q k i (q == p) refl;
  counted = let f = fewer ss p l h in omega (arith, f, s.counted);
}
  where
    go : (q k : ℕ) → IsStoredAt (slice_set ss p None) q k → (b : Bool) → (q == p) ≡ b → slice_get ps k ≡ Some q
    go q k i true e =
        let none : slice_get (slice_set ss p None) q ≡ Some None = ap (λ q. slice_get (slice_set ss p None) q) (eqb-true q p e) ∙ set_same ss p None (stored_within ss p l h) in
        cc
    go q k i false e = s.found q k (sym (set_other ss p None q (λ f. true≢false (sym (eq-eqb q p f) ∙ e))) ∙ i)

pub some_there : (ss : List (Option ℕ)) (ps : List ℕ) (many p l : ℕ) → IsStored ss ps many → IsStoredAt ss p l → 1 ≤ many
some_there ss ps many p l s h = let f = fewer ss p l h in omega (arith, f, s.counted)

-- ---- all of them, slot by slot

present_append : (ss us : List (Option ℕ)) → present (ss ++ us) ≡ present ss ++ present us
present_append [] us = refl
present_append (None ∷ ss) us = present_append ss us
present_append (Some k ∷ ss) us = ap (λ xs. k ∷ xs) (present_append ss us)

pub present_hole : (ss : List (Option ℕ)) (i : ℕ) (d : Option ℕ) → i < length ss → get_or ss i d ≡ None → present (take (i + 1) ss) ≡ present (take i ss)
present_hole ss i d h e = ap (λ ss. present ss) (take_more ss i d h) ∙ present_append (take i ss) (get_or ss i d ∷ []) ∙ ap (λ s. present (take i ss) ++ present (s ∷ [])) e ∙ append-nil (present (take i ss))

pub present_there : (ss : List (Option ℕ)) (i : ℕ) (d : Option ℕ) (l : ℕ) → i < length ss → get_or ss i d ≡ Some l → present (take (i + 1) ss) ≡ present (take i ss) ++ l ∷ []
present_there ss i d l h e = ap (λ ss. present ss) (take_more ss i d h) ∙ present_append (take i ss) (get_or ss i d ∷ []) ∙ ap (λ s. present (take i ss) ++ present (s ∷ [])) e
