-- How the table of a trail is kept.
use Rattle.std.proofs.Common.{◌≡◌, ◌≢◌, ◌<◌, ◌≤◌, ◌-◌, ℕ, suc, List, [], ◌∷◌, ◌++◌, length, get_or, set, refl, sym, ap, ◌∙◌, subst, arith}
use Rattle.std.specs.Prelude.{Bool, true, false, ◌==◌, if◌then◌else◌, Some, None, reverse, slice_index, nat_lt}
use Rattle.std.proofs.lemmas.Bool.{eqb-true, eq-eqb, ltb-true}
use Rattle.std.proofs.lemmas.List.{get_or_push, get_or_append_left, length-reverse, get_or-set_same, get_or-set_other, get_or_past, reverse-reverse, reverse-append}
use Rattle.refute_check.specs.Clauses.{variable_of}
use Rattle.refute_check.specs.Machine.{Entry, Trail, entry_of}
use Rattle.clause_solver.specs.code.Places.{place_of, IsPlaced}

pub place_small : (t : Trail) (v : ℕ) → place_of t v ≤ length t
place_small [] v = omega arith
place_small (e ∷ t) v = go (place_small t v) (variable_of e.literal == v)
  where
    go : place_of t v ≤ length t → (b : Bool) → (if b then suc (length t) else place_of t v) ≤ suc (length t)
    go rec true = omega arith
    go rec false = omega (arith, rec)

-- a variable without a place has no entry
pub entry_none : (t : Trail) (v : ℕ) → place_of t v ≡ 0 → entry_of t v ≡ None
entry_none [] v h = refl
entry_none (e ∷ t) v h = go (entry_none t v) (variable_of e.literal == v) h
  where
    go : (place_of t v ≡ 0 → entry_of t v ≡ None) → (b : Bool) → (if b then suc (length t) else place_of t v) ≡ 0 → (if b then Some e else entry_of t v) ≡ None
    go rec true h = absurd (omega (arith, h))
    go rec false h = rec h

-- and the other way round
pub place_none : (t : Trail) (v : ℕ) → entry_of t v ≡ None → place_of t v ≡ 0
place_none [] v h = refl
place_none (e ∷ t) v h = go (place_none t v) (variable_of e.literal == v) h
  where
    go : (entry_of t v ≡ None → place_of t v ≡ 0) → (b : Bool) → (if b then Some e else entry_of t v) ≡ None → (if b then suc (length t) else place_of t v) ≡ 0
    go rec true h = cc
    go rec false h = rec h

-- the entry lies at its place, where the latest comes last
entry_there : (t : Trail) (v k : ℕ) (d : Entry) → place_of t v ≡ suc k → entry_of t v ≡ Some (get_or (reverse t) k d)
entry_there [] v k d h = absurd (omega (arith, h))
entry_there (e ∷ t) v k d h = go (entry_there t v k d) (variable_of e.literal == v) h ∙ ap (λ es. Some (get_or es k d)) (sym (reverse-append (e ∷ []) t))
  where
    go : (place_of t v ≡ suc k → entry_of t v ≡ Some (get_or (reverse t) k d)) → (b : Bool) → (if b then suc (length t) else place_of t v) ≡ suc k →
        (if b then Some e else entry_of t v) ≡ Some (get_or (reverse t ++ e ∷ []) k d)
    go rec true h = ap (λ x. Some x) (sym (get_or_push (reverse t) e d k (length-reverse t ∙ omega (arith, h))))
    go rec false h = rec h ∙ ap (λ x. Some x) (sym (get_or_append_left (reverse t) (e ∷ []) d k (omega (arith, h, place_small t v, length-reverse t))))

-- what the code finds there
pub entry_some : (es : List Entry) (v p : ℕ) (x : Entry) → p ≡ place_of (reverse es) v → (p ≡ 0 → ⊥) → x ≡ get_or es (p - 1) x → Some x ≡ entry_of (reverse es) v
entry_some es v p x h n e =
    let f : place_of (reverse es) v ≡ suc (p - 1) = omega (arith, h, n) in
    let g : get_or (reverse (reverse es)) (p - 1) x ≡ get_or es (p - 1) x = ap (λ es. get_or es (p - 1) x) (reverse-reverse es) in
    ap (λ x. Some x) (e ∙ sym g) ∙ sym (entry_there (reverse es) v (p - 1) x f)

other : (k v : ℕ) → (k == v) ≡ false → k ≢ v
other k v h e = let f : (k == v) ≡ true = eq-eqb k v e in cc

-- one entry less
pub placed_off : (t : Trail) (ps : List ℕ) (e : Entry) (k : ℕ) → IsPlaced (e ∷ t) ps → k ≡ variable_of e.literal → k < length ps → IsPlaced t (set ps k 0)
placed_off t ps e k h is l = record { found = λ v. go v (variable_of e.literal == v) refl (h.found v); once = h.once.1 }
  where
    go : (v : ℕ) (b : Bool) → (variable_of e.literal == v) ≡ b → slice_index ps v ≡ (if b then suc (length t) else place_of t v) → slice_index (set ps k 0) v ≡ place_of t v
    go v true f i =
        let g : v ≡ k = sym (is ∙ eqb-true (variable_of e.literal) v f) in
        ap (λ v. slice_index (set ps k 0) v) g ∙ get_or-set_same ps k 0 0 l ∙ sym (place_none t v (ap (λ v. entry_of t v) (g ∙ is) ∙ h.once.0))
    go v false f i = get_or-set_other ps k v 0 0 (λ g. other (variable_of e.literal) v f (sym (g ∙ is))) ∙ i

-- and the variable of each entry is in the table
pub placed_within : (t : Trail) (ps : List ℕ) (e : Entry) → IsPlaced (e ∷ t) ps → variable_of e.literal < length ps
placed_within t ps e h = go (nat_lt (variable_of e.literal) (length ps)) refl
  where
    go : (b : Bool) → nat_lt (variable_of e.literal) (length ps) ≡ b → variable_of e.literal < length ps
    go true f = ltb-true (variable_of e.literal) (length ps) f
    go false f =
        let past : length ps ≤ variable_of e.literal = grind (arith, f) in
        let here : place_of (e ∷ t) (variable_of e.literal) ≡ suc (length t) = ap (λ b. if b then suc (length t) else place_of t (variable_of e.literal)) (eq-eqb (variable_of e.literal) (variable_of e.literal) refl) in
        absurd (omega (arith, h.found (variable_of e.literal), here, get_or_past ps (variable_of e.literal) 0 past))

-- the entries without the latest
pub placed_last : (es fs : List Entry) (e : Entry) (ps : List ℕ) → es ≡ fs ++ e ∷ [] → IsPlaced (reverse es) ps → IsPlaced (e ∷ reverse fs) ps
placed_last es fs e ps is h = subst (λ t. IsPlaced t ps) (ap (λ es. reverse es) is ∙ reverse-append fs (e ∷ [])) h
