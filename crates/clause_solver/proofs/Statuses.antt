-- What clauses are on a trail, a step at a time.
use Rattle.std.proofs.Common.{◌≡◌, ◌<◌, ◌≤◌, ◌+◌, ℕ, zero, suc, List, [], ◌∷◌, length, drop, get_or, refl, sym, ap, ◌∙◌, arith}
use Rattle.std.specs.Prelude.{Option, Some, None, IfSome, slice_get}
use Rattle.clause_solver.specs.code.Seen.{status_seen}
use Rattle.clause_solver.specs.declared.rules.Status.{Status as OneStatus}
use Rattle.clause_solver.specs.declared.rules.Status.TheVariants.{Falsified as IsFalsified, Forces as DoesForce, Idle as IsIdle}
use Rattle.refute_check.specs.Machine.{Trail, False, Unset, value_of, Status, Falsified, Forces, status_with, status}

-- a status with an unset literal before
abbrev pub with_unset : Option ℕ → Status → Status
with_unset None rest = rest
with_unset (Some literal) rest = status_with Unset literal rest

pub parts : {X : Type 0} (xs : List X) (i : ℕ) (d : X) → i < length xs → drop i xs ≡ get_or xs i d ∷ drop (i + 1) xs
parts {X} xs i d l = go xs i l ∙ ap (λ i. get_or xs (at i) d ∷ drop i xs) plus
  where
    plus : suc i ≡ i + 1
    plus = omega arith

    at : ℕ → ℕ
    at j = i

    go : (xs : List X) (i : ℕ) → i < length xs → drop i xs ≡ get_or xs i d ∷ drop (suc i) xs
    go [] i l = absurd (omega (arith, l))
    go (x ∷ xs) zero l = refl
    go (x ∷ xs) (suc i) l = go xs i (omega (arith, l))

pub none_left : {X : Type 0} (xs : List X) (i : ℕ) → length xs ≤ i → drop i xs ≡ []
none_left [] zero l = refl
none_left [] (suc i) l = refl
none_left (x ∷ xs) zero l = absurd (omega (arith, l))
none_left (x ∷ xs) (suc i) l = none_left xs i (omega (arith, l))

pub status_at : (t : Trail) (c : List ℕ) (i : ℕ) → i < length c → status t (drop i c) ≡ status_with (value_of t (get_or c i 0)) (get_or c i 0) (status t (drop (i + 1) c))
status_at t c i l = ap (λ c. status t c) (parts c i 0 l)

-- a status that isn't this one
pub not_falsified : (s : OneStatus) → (s ≡ IsFalsified → ⊥) → status_seen s ≡ Falsified → ⊥
not_falsified IsFalsified n e = n refl
not_falsified (DoesForce l) n e = cc
not_falsified IsIdle n e = cc

pub not_forces : (s : OneStatus) → ((l : ℕ) → s ≡ DoesForce l → ⊥) → (l : ℕ) → status_seen s ≡ Forces l → ⊥
not_forces IsFalsified n l e = cc
not_forces (DoesForce k) n l e = n k refl
not_forces IsIdle n l e = cc

-- a loop over literals passes a false one, or the first that is unset
module _ (t : Trail) (c : List ℕ) (i : ℕ) (s : Status) (l : i < length c) where
  pub passed_false : (o : Option ℕ) → False ≡ value_of t (get_or c i 0) → s ≡ with_unset o (status t (drop i c)) → s ≡ with_unset o (status t (drop (i + 1) c))
  passed_false o v h = h ∙ ap (λ x. with_unset o x) (status_at t c i l ∙ ap (λ v. status_with v (get_or c i 0) (status t (drop (i + 1) c))) (sym v))

  pub passed_unset : Unset ≡ value_of t (get_or c i 0) → s ≡ with_unset None (status t (drop i c)) → s ≡ with_unset (Some (get_or c i 0)) (status t (drop (i + 1) c))
  passed_unset v h = h ∙ status_at t c i l ∙ ap (λ v. status_with v (get_or c i 0) (status t (drop (i + 1) c))) (sym v)

-- where the first unset literal of a clause stands
abbrev pub IsPlace : Trail → List ℕ → ℕ → ℕ → Type 0
IsPlace t c i first = (at : ℕ) × (at < i) × (slice_get c at ≡ Some first) × (value_of t first ≡ Unset)

pub place_kept : (t : Trail) (c : List ℕ) (i : ℕ) (o : Option ℕ) → IfSome o (λ first. IsPlace t c i first) → IfSome o (λ first. IsPlace t c (i + 1) first)
place_kept t c i None h = h
place_kept t c i (Some x) h = (h.0, omega (arith, h.1), h.2, h.3)

get_at : (c : List ℕ) (i : ℕ) → i < length c → slice_get c i ≡ Some (get_or c i 0)
get_at [] i l = absurd (omega (arith, l))
get_at (x ∷ c) zero l = refl
get_at (x ∷ c) (suc i) l = get_at c i (omega (arith, l))

pub place_here : (t : Trail) (c : List ℕ) (i : ℕ) → i < length c → Unset ≡ value_of t (get_or c i 0) → IsPlace t c (i + 1) (get_or c i 0)
place_here t c i l v = (i, omega arith, get_at c i l, sym v)
