-- Lists that are cut and turned round.
use Rattle.std.proofs.Common.{◌≡◌, ℕ, zero, suc, ◌+◌, ◌-◌, ◌<◌, ◌≤◌, List, [], ◌∷◌, ◌++◌, map, take, drop, length, reverse, refl, sym, ap, ◌∙◌, subst, arith}
use Rattle.std.specs.Prelude.{slice_get, Some, None, unwrap_or}
use Rattle.std.specs.List.{AllByRecursion}
use Rattle.std.proofs.lemmas.List.{drop_at, take_at, length-reverse, length-drop, take-append-drop, reverse-append, drop-append-le, drop-drop, length-take-le, map-append}

pub drop-suc : {A : Type 0} (n : ℕ) (xs : List A) (i : A) (is : List A) → drop n xs ≡ i ∷ is → drop (n + 1) xs ≡ is
drop-suc n xs i is e = sym (drop-drop 1 n xs) ∙ ap (λ l. drop 1 l) e

pub drop_split : {X : Type 0} → (a h : ℕ) (xs : List X) → a ≤ h → h ≤ length xs → drop a xs ≡ drop a (take h xs) ++ drop h xs
drop_split a h xs l k =
    let long : a ≤ length (take h xs) = omega (arith, length-take-le h xs k) in
    ap (λ o. drop a o) (sym (take-append-drop h xs)) ∙ drop-append-le a (take h xs) (drop h xs) long

-- the first of a list turned round, and the others
pub take-reverse : {A : Type 0} (n : ℕ) (xs : List A) → n ≤ length xs → take n (reverse xs) ≡ reverse (drop (length xs - n) xs)
take-reverse n xs h =
    let split : reverse xs ≡ reverse (drop (length xs - n) xs) ++ reverse (take (length xs - n) xs) =
    ap (λ l. reverse l) (sym (take-append-drop (length xs - n) xs)) ∙ reverse-append (take (length xs - n) xs) (drop (length xs - n) xs) in
    ap (λ l. take n l) split ∙ take_at (reverse (drop (length xs - n) xs)) (reverse (take (length xs - n) xs)) n
    (omega (arith, length-reverse (drop (length xs - n) xs), length-drop (length xs - n) xs))

pub drop-reverse : {A : Type 0} (n : ℕ) (xs : List A) → n ≤ length xs → drop n (reverse xs) ≡ reverse (take (length xs - n) xs)
drop-reverse n xs h =
    let split : reverse xs ≡ reverse (drop (length xs - n) xs) ++ reverse (take (length xs - n) xs) =
    ap (λ l. reverse l) (sym (take-append-drop (length xs - n) xs)) ∙ reverse-append (take (length xs - n) xs) (drop (length xs - n) xs) in
    ap (λ l. drop n l) split ∙ drop_at (reverse (drop (length xs - n) xs)) (reverse (take (length xs - n) xs)) n
    (omega (arith, length-reverse (drop (length xs - n) xs), length-drop (length xs - n) xs))

pub reverse-reverse : {A : Type 0} (xs : List A) → reverse (reverse xs) ≡ xs
reverse-reverse [] = refl
reverse-reverse (x ∷ xs) = rw (reverse-append (x ∷ []) xs, reverse-append (reverse xs) (x ∷ []), reverse-reverse xs)

pub map-reverse : {V W : Type 0} (h : V → W) (xs : List V) → map h (reverse xs) ≡ reverse (map h xs)
map-reverse h [] = refl
map-reverse h (x ∷ xs) = rw (reverse-append (x ∷ []) xs, map-append, map-reverse h xs, reverse-append (h x ∷ []) (map h xs))

pub take_more_at : {A : Type 0} (xs : List A) (j : ℕ) (d : A) → j < length xs → take (j + 1) xs ≡ take j xs ++ unwrap_or (slice_get xs j) d ∷ []
take_more_at [] j d h = absurd (omega arith)
take_more_at (x ∷ xs) zero d h = refl
take_more_at (x ∷ xs) (suc j) d h = let one : suc j + 1 ≡ suc (j + 1) = omega arith in rw one (ap (λ l. x ∷ l) (take_more_at xs j d (omega arith)))

pub drop_at_some : {A : Type 0} (xs : List A) (k : ℕ) (x : A) → slice_get xs k ≡ Some x → drop k xs ≡ x ∷ drop (k + 1) xs
drop_at_some [] k x e = cc
drop_at_some (y ∷ ys) zero x e = cc
drop_at_some (y ∷ ys) (suc k) x e = let one : suc k + 1 ≡ suc (k + 1) = omega arith in rw one (drop_at_some ys k x e)

pub drop_at_none : {A : Type 0} (xs : List A) (k : ℕ) → slice_get xs k ≡ None → drop k xs ≡ []
drop_at_none [] zero e = refl
drop_at_none [] (suc k) e = refl
drop_at_none (y ∷ ys) zero e = cc
drop_at_none (y ∷ ys) (suc k) e = drop_at_none ys k e

-- ---- all

pub all-append : {X : Type 0} (P : X → Type 0) (xs ys : List X) → AllByRecursion P xs → AllByRecursion P ys → AllByRecursion P (xs ++ ys)
all-append P [] ys h k = k
all-append P (x ∷ xs) ys h k = (h.0, all-append P xs ys h.1 k)

pub all-take : {X : Type 0} (P : X → Type 0) (n : ℕ) (xs : List X) → AllByRecursion P xs → AllByRecursion P (take n xs)
all-take P zero xs h = tt
all-take P (suc n) [] h = tt
all-take P (suc n) (x ∷ xs) h = (h.0, all-take P n xs h.1)

pub all-drop : {X : Type 0} (P : X → Type 0) (n : ℕ) (xs : List X) → AllByRecursion P xs → AllByRecursion P (drop n xs)
all-drop P zero xs h = h
all-drop P (suc n) [] h = tt
all-drop P (suc n) (x ∷ xs) h = all-drop P n xs h.1

pub all-reverse : {X : Type 0} (P : X → Type 0) (xs : List X) → AllByRecursion P xs → AllByRecursion P (reverse xs)
all-reverse P [] h = tt
all-reverse P (x ∷ xs) h = rw (reverse-append (x ∷ []) xs) (all-append P (reverse xs) (x ∷ []) (all-reverse P xs h.1) (h.0, tt))

pub all-get : {X : Type 0} (P : X → Type 0) (xs : List X) (k : ℕ) (x : X) → AllByRecursion P xs → slice_get xs k ≡ Some x → P x
all-get P [] k x h e = cc
all-get P (y ∷ ys) zero x h e = let f : y ≡ x = cc in subst P f h.0
all-get P (y ∷ ys) (suc k) x h e = all-get P ys k x h.1 e
