-- Lists that are read item by item.
use Rattle.std.proofs.Common.{◌≡◌, ◌≢◌, Bor, sym, ◌∙◌, ℕ, zero, suc, ◌+◌, ◌<◌, List, [], ◌∷◌, ◌++◌, length, map, slice_index_or, get_or, take, drop, All, arith, refl, ap}
use Rattle.std.specs.List.{AllZip}

-- ---- all of a list

pub all_none : {X : Type 0} (P : X → Type 0) → All P []
all_none P i d some = absurd (omega arith)

pub all_more : {X : Type 0} (P : X → Type 0) (x : X) (xs : List X) → P x → All P xs → All P (x ∷ xs)
all_more P x xs first rest zero d some = first
all_more P x xs first rest (suc i) d some = rest i d (omega arith)

pub all_first : {X : Type 0} (P : X → Type 0) (x : X) (xs : List X) → All P (x ∷ xs) → P x
all_first P x xs all = all 0 x (omega arith)

pub all_rest : {X : Type 0} (P : X → Type 0) (x : X) (xs : List X) → All P (x ∷ xs) → All P xs
all_rest P x xs all i d some = all (suc i) d (omega arith)

-- ---- one item more, and an item that none goes with

module _ {W X Y : Type 0} (f : W → X) (P : X → Y → Type 0) where
  pub zip_more : (ws : List W) (ys : List Y) (i : ℕ) (d : W) (y : Y) → i < length ws → AllZip P (map f (take i ws)) ys → P (f (slice_index_or ws i d)) y → AllZip P (map f (take (i + 1) ws)) (ys ++ y ∷ [])
  zip_more [] ys i d y lt h is = absurd (omega arith)
  zip_more (w ∷ ws) [] zero d y lt h is = (is, tt)
  zip_more (w ∷ ws) (z ∷ zs) zero d y lt h is = absurd h
  zip_more (w ∷ ws) [] (suc i) d y lt h is = absurd h
  zip_more (w ∷ ws) (z ∷ zs) (suc i) d y lt h is = let next : suc i + 1 ≡ suc (i + 1) = omega arith in rw next (h.0, zip_more ws zs i d y (omega arith) h.1 is)

-- ---- reading

-- the text a is read as b: b is good, and the only good one of this text
abbrev pub ReadsAs : {A B : Type 0} → (B → A) → (B → Type 0) → A → B → Type 0
ReadsAs {A} {B} text Good a b = Good b × ((c : B) → Good c → a ≡ text c → b ≡ c)

module _ {A B : Type 0} (text : B → A) (Good : B → Type 0) where
  pub zip_good : (xs : List A) (ys : List B) → AllZip (ReadsAs text Good) xs ys → All Good ys
  zip_good xs [] h = all_none Good
  zip_good [] (y ∷ ys) h = absurd h
  zip_good (x ∷ xs) (y ∷ ys) h = all_more Good y ys h.0.0 (zip_good xs ys h.1)

  pub zip_only : (xs : List A) (ys zs : List B) → AllZip (ReadsAs text Good) xs ys → All Good zs → xs ≡ map text zs → ys ≡ zs
  zip_only [] [] [] h good e = refl
  zip_only [] [] (z ∷ zs) h good e = cc
  zip_only [] (y ∷ ys) zs h good e = absurd h
  zip_only (x ∷ xs) [] zs h good e = absurd h
  zip_only (x ∷ xs) (y ∷ ys) [] h good e = cc
  zip_only (x ∷ xs) (y ∷ ys) (z ∷ zs) h good e =
      let first : x ≡ text z = ap (λ l. get_or l 0 x) e in
      let rest : xs ≡ map text zs = ap (λ l. drop 1 l) e in
      let one : y ≡ z = h.0.1 z (all_first Good z zs good) first in
      let more : ys ≡ zs = zip_only xs ys zs h.1 (all_rest Good z zs good) rest in
      cc

  pub none_read : {W : Type 0} (f : W → A) (ws : List W) (i : ℕ) (d : W) → i < length ws → ((z : B) → Good z → f (slice_index_or ws i d) ≡ text z → ⊥)
      → (zs : List B) → All Good zs → map f ws ≡ map text zs → ⊥
  none_read f [] i d some none zs good e = omega arith
  none_read f (w ∷ ws) i d some none [] good e = cc
  none_read f (w ∷ ws) zero d some none (z ∷ zs) good e = none z (all_first Good z zs good) (ap (λ l. get_or l 0 (f w)) e)
  none_read f (w ∷ ws) (suc i) d some none (z ∷ zs) good e = none_read f ws i d (omega arith) none zs (all_rest Good z zs good) (ap (λ l. drop 1 l) e)

-- ---- around a text

module _ (t : List ℕ) where
  pub around : (ws : List (Bor (List ℕ))) (i : ℕ) (d : Bor (List ℕ)) (before after : List (List ℕ)) → All (λ w. w.now ≢ t) (take i ws) → i < length ws → (slice_index_or ws i d).now ≡ t
      → All (λ w. w ≢ t) before → map (λ w. w.now) ws ≡ before ++ t ∷ after
      → (map (λ w. w.now) (take i ws) ≡ before) × (map (λ w. w.now) (drop (i + 1) ws) ≡ after)
  around [] i d before after so some is others e = absurd (omega arith)
  around (w ∷ ws) zero d [] after so some is others e = (refl, ap (λ l. drop 1 l) e)
  around (w ∷ ws) zero d (b ∷ before) after so some is others e =
      absurd (all_first (λ w. w ≢ t) b before others (sym (ap (λ l. get_or l 0 t) e) ∙ is))
  around (w ∷ ws) (suc i) d [] after so some is others e =
      absurd (all_first (λ w. w.now ≢ t) w (take i ws) so (ap (λ l. get_or l 0 t) e))
  around (w ∷ ws) (suc i) d (b ∷ before) after so some is others e =
      let first : w.now ≡ b = ap (λ l. get_or l 0 t) e in
      let next : suc i + 1 ≡ suc (i + 1) = omega arith in
      let rest = around ws i d before after (all_rest (λ w. w.now ≢ t) w (take i ws) so) (omega arith) is (all_rest (λ w. w ≢ t) b before others) (ap (λ l. drop 1 l) e) in
      (rw (first, rest.0) refl, rw next rest.1)

  pub none_around : (ws : List (Bor (List ℕ))) (before after : List (List ℕ)) → All (λ w. w.now ≢ t) ws → map (λ w. w.now) ws ≡ before ++ t ∷ after → ⊥
  none_around [] [] after so e = cc
  none_around [] (b ∷ before) after so e = cc
  none_around (w ∷ ws) [] after so e = all_first (λ w. w.now ≢ t) w ws so (ap (λ l. get_or l 0 t) e)
  none_around (w ∷ ws) (b ∷ before) after so e = none_around ws before after (all_rest (λ w. w.now ≢ t) w ws so) (ap (λ l. drop 1 l) e)
