-- Clauses whose literals stand once each, and what they resolve to.
use Rattle.std.proofs.Common.{◌≡◌, ◌<◌, ◌+◌, ℕ, List, [], ◌∷◌, ◌++◌, length, take, get_or, refl, sym, ap, ◌∙◌, append_assoc}
use Rattle.std.specs.Prelude.{Bool, true, false, not, ◌==◌, ◌&&◌, if◌then◌else◌, Option, Some, None, slice_get}
use Rattle.std.specs.Option.{option_and_then}
use Rattle.std.proofs.lemmas.Bool.{eqb-true, eq-eqb}
use Rattle.std.proofs.lemmas.List.{take_more, append-nil}
use Rattle.std.proofs.lemmas.List.Elements.{filter-append}
use Rattle.refute_check.specs.Clauses.{positive, negative}
use Rattle.refute_check.specs.Resolution.{has, without, each_once, joined, resolvent}
use Rattle.refute_check.specs.Logs.{after_step}
use Rattle.refute_check.proofs.Membership.{has-each_once, has-without, other_literal, same_literal}
use Rattle.refute_check.proofs.EachOnce.{once_new, once_there}

others_more : (l : ℕ) (c : List ℕ) (i : ℕ) → i < length c → without l (take (i + 1) c) ≡ without l (take i c) ++ (if not (get_or c i 0 == l) then get_or c i 0 ∷ [] else [])
others_more l c i h = ap (λ c. without l c) (take_more c i 0 h) ∙ filter-append (λ o. not (o == l)) (take i c) (get_or c i 0 ∷ [])

-- one literal more, which is there or not
pub more_there : (old before : List ℕ) (l : ℕ) → has old l ≡ true → old ≡ each_once before → old ≡ each_once (before ++ l ∷ [])
more_there old before l h e = e ∙ sym (once_there before l (sym (has-each_once before l) ∙ ap (λ c. has c l) (sym e) ∙ h))

pub more_new : (old new before : List ℕ) (l : ℕ) → has old l ≡ false → new ≡ old ++ l ∷ [] → old ≡ each_once before → new ≡ each_once (before ++ l ∷ [])
more_new old new before l h n e = n ∙ ap (λ c. c ++ l ∷ []) e ∙ sym (once_new before l (sym (has-each_once before l) ∙ ap (λ c. has c l) (sym e) ∙ h))

-- and the literals of a clause but one
pub put_other : (before : List ℕ) (l : ℕ) (c : List ℕ) (i : ℕ) → i < length c → (get_or c i 0 ≡ l → ⊥) → (before ++ without l (take i c)) ++ get_or c i 0 ∷ [] ≡ before ++ without l (take (i + 1) c)
put_other before l c i h n =
    append_assoc before (without l (take i c)) (get_or c i 0 ∷ [])
    ∙ ap (λ r. before ++ r) (sym (others_more l c i h ∙ ap (λ b. without l (take i c) ++ (if not b then get_or c i 0 ∷ [] else [])) (other_literal (get_or c i 0) l n)))

pub put_none : (before : List ℕ) (l : ℕ) (c : List ℕ) (i : ℕ) → i < length c → get_or c i 0 ≡ l → before ++ without l (take i c) ≡ before ++ without l (take (i + 1) c)
put_none before l c i h n =
    ap (λ r. before ++ r) (sym (others_more l c i h ∙ ap (λ b. without l (take i c) ++ (if not b then get_or c i 0 ∷ [] else [])) (eq-eqb (get_or c i 0) l n) ∙ append-nil (without l (take i c))))

-- ---- a clause that names each literal once

without_twice : (l : ℕ) (c : List ℕ) → without l (without l c) ≡ without l c
without_twice l [] = refl
without_twice l (k ∷ c) = go (without_twice l c) (k == l) refl
  where
    go : without l (without l c) ≡ without l c → (b : Bool) → (k == l) ≡ b → without l (if not b then k ∷ without l c else without l c) ≡ (if not b then k ∷ without l c else without l c)
    go rec true e = rec
    go rec false e = ap (λ b. if not b then k ∷ without l (without l c) else without l (without l c)) e ∙ ap (λ c. k ∷ c) rec

without_swap : (l m : ℕ) (c : List ℕ) → without l (without m c) ≡ without m (without l c)
without_swap l m [] = refl
without_swap l m (k ∷ c) = go (without_swap l m c) (k == l) (k == m) refl refl
  where
    go : without l (without m c) ≡ without m (without l c) → (a b : Bool) → (k == l) ≡ a → (k == m) ≡ b →
        without l (if not b then k ∷ without m c else without m c) ≡ without m (if not a then k ∷ without l c else without l c)
    go rec true true e f = rec
    go rec true false e f = ap (λ a. if not a then k ∷ without l (without m c) else without l (without m c)) e ∙ rec
    go rec false true e f = rec ∙ sym (ap (λ b. if not b then k ∷ without m (without l c) else without m (without l c)) f)
    go rec false false e f =
        ap (λ a. if not a then k ∷ without l (without m c) else without l (without m c)) e ∙ ap (λ c. k ∷ c) rec
        ∙ sym (ap (λ b. if not b then k ∷ without m (without l c) else without m (without l c)) f)

once_without : (l : ℕ) (c : List ℕ) → each_once (without l c) ≡ without l (each_once c)
once_without l [] = refl
once_without l (k ∷ c) = go (once_without l c) (k == l) refl
  where
    go : each_once (without l c) ≡ without l (each_once c) → (b : Bool) → (k == l) ≡ b → each_once (if not b then k ∷ without l c else without l c) ≡ (if not b then k ∷ without l (without k (each_once c)) else without l (without k (each_once c)))
    go rec true e = rec ∙ sym (ap (λ k. without l (without k (each_once c))) (eqb-true k l e) ∙ without_twice l (each_once c))
    go rec false e = ap (λ c. k ∷ without k c) rec ∙ ap (λ c. k ∷ c) (without_swap k l (each_once c))

-- taking a literal off leaves it so
pub once_stays : (l : ℕ) (c : List ℕ) → each_once c ≡ c → without l c ≡ each_once (without l c)
once_stays l c e = sym (once_without l c ∙ ap (λ c. without l c) e)

pub once_once : (c : List ℕ) → each_once (each_once c) ≡ each_once c
once_once [] = refl
once_once (k ∷ c) = ap (λ c. k ∷ without k c) (once_without k (each_once c) ∙ ap (λ c. without k c) (once_once c)) ∙ ap (λ c. k ∷ c) (without_twice k (each_once c))

-- what two clauses resolve to names each literal once
resolvent_once : (c d : List ℕ) (v : ℕ) (r : List ℕ) → resolvent c d v ≡ Some r → each_once r ≡ r
resolvent_once c d v r e = go (has c (positive v) && has d (negative v)) (has c (negative v) && has d (positive v)) e
  where
    one : (p n : ℕ) → Some (joined p n c d) ≡ Some r → each_once r ≡ r
    one p n e = let f : joined p n c d ≡ r = cc in ap (λ r. each_once r) (sym f) ∙ once_once (without p c ++ without n d) ∙ f

    go : (a b : Bool) → (if a then Some (joined (positive v) (negative v) c d) else (if b then Some (joined (negative v) (positive v) c d) else None)) ≡ Some r → each_once r ≡ r
    go true b e = one (positive v) (negative v) e
    go false true e = one (negative v) (positive v) e
    go false false e = cc

pub step_once : (cs : List (List ℕ)) (s : ℕ × ℕ) (c r : List ℕ) → after_step cs s c ≡ Some r → each_once r ≡ r
step_once cs s c r e = go (slice_get cs s.0) e
  where
    go : (o : Option (List ℕ)) → option_and_then (λ other. resolvent c other s.1) o ≡ Some r → each_once r ≡ r
    go None e = cc
    go (Some d) e = resolvent_once c d s.1 r e

-- ---- what a clause resolves to doesn't hang on how often it names a literal

once_append : (xs ys : List ℕ) → each_once (each_once xs ++ ys) ≡ each_once (xs ++ ys)
once_append [] ys = refl
once_append (k ∷ xs) ys =
    ap (λ c. k ∷ c)
    (sym (once_without k (without k (each_once xs) ++ ys))
    ∙ ap (λ c. each_once c) (filter-append (λ o. not (o == k)) (without k (each_once xs)) ys ∙ ap (λ c. c ++ without k ys) (without_twice k (each_once xs)) ∙ sym (filter-append (λ o. not (o == k)) (each_once xs) ys))
    ∙ once_without k (each_once xs ++ ys) ∙ ap (λ c. without k c) (once_append xs ys))

joined_once : (p n : ℕ) (c d : List ℕ) → joined p n (each_once c) d ≡ joined p n c d
joined_once p n c d = ap (λ x. each_once (x ++ without n d)) (sym (once_without p c)) ∙ once_append (without p c) (without n d)

resolvent_of_once : (c d : List ℕ) (v : ℕ) → resolvent (each_once c) d v ≡ resolvent c d v
resolvent_of_once c d v =
    rw (has-each_once c (positive v), has-each_once c (negative v), joined_once (positive v) (negative v) c d, joined_once (negative v) (positive v) c d) refl

pub after_once : (cs : List (List ℕ)) (s : ℕ × ℕ) (c : List ℕ) → after_step cs s (each_once c) ≡ after_step cs s c
after_once cs s c = go (slice_get cs s.0)
  where
    go : (o : Option (List ℕ)) → option_and_then (λ other. resolvent (each_once c) other s.1) o ≡ option_and_then (λ other. resolvent c other s.1) o
    go None = refl
    go (Some d) = resolvent_of_once c d s.1

pub once_tail : (k : ℕ) (xs : List ℕ) → each_once (k ∷ xs) ≡ k ∷ xs → (each_once xs ≡ xs) × (has xs k ≡ false)
once_tail k xs e =
    let f : without k (each_once xs) ≡ xs = cc in (
      ap (λ c. each_once c) (sym f) ∙ once_without k (each_once xs) ∙ ap (λ c. without k c) (once_once xs) ∙ f,
      ap (λ c. has c k) (sym f) ∙ has-without k (each_once xs) k ∙ ap (λ b. has (each_once xs) k && not b) (same_literal k) ∙ no (has (each_once xs) k),
    )
  where
    no : (b : Bool) → (b && false) ≡ false
    no true = refl
    no false = refl
