-- The bytes of a word, written one after another.
use Rattle.std.proofs.Common.{◌≡◌, ℕ, suc, ◌+◌, ◌≤◌, List, [], ◌∷◌, ◌++◌, length, take, set, map, All, refl, sym, ap, ap₂, ◌∙◌, subst, arith, ⊎_elim, ◌<◌, take-suc-set, add-one, Bool}
use Rattle.std.proofs.lemmas.List.{map-append}
use Rattle.std.proofs.lemmas.List.Elements.{All-push, All-weaker, All-head, All-tail, All-nil}
use Rattle.int_ops.specs.Bytes.{byte_of}
use Rattle.wasm_rules.specs.Words.{Kind, Kept, numbers, CanJoin}
use Rattle.wasm_rules.specs.Accesses.{lowest_bytes}

-- as many bytes as can be joined to a word
pub count_small : (wide : Bool) (count : ℕ) → CanJoin wide count → count ≤ 8
count_small wide count h =
    ⊎_elim (λ e. omega (arith, e)) (⊎_elim (λ e. omega (arith, e)) (⊎_elim (λ e. omega (arith, e)) (λ e. omega (arith, e.0)))) h

pub count_some : (wide : Bool) (count : ℕ) → CanJoin wide count → 0 < count
count_some wide count h =
    ⊎_elim (λ e. omega (arith, e)) (⊎_elim (λ e. omega (arith, e)) (⊎_elim (λ e. omega (arith, e)) (λ e. omega (arith, e.0)))) h

module _ {A W M : Type 0} (holds : A → W → Type 0) (means : A → W → M) (Has : ℕ → M → Type 0) (value : List ℕ → M → ℕ) (K : Kind M) where
  -- the words are the n lowest bytes of what means m
  pub record Stored (a : A) (m : M) (words : List W) (n : ℕ) : Type 0 where
    pub each : All (λ w. holds a w × Has 8 (means a w)) words
    pub means_are : map (means a) words ≡ lowest_bytes K n m
    pub values_are : (input : List ℕ) → map (λ w. value input (means a w)) words ≡ lowest_bytes numbers n (value input m)

  pub Stored-none : (a : A) (m : M) → Stored a m [] 0
  Stored-none a m = record { each = All-nil (λ w. holds a w × Has 8 (means a w)); means_are = refl; values_are = λ input. refl }

  -- words that are kept keep what is read of them
  map-kept : {X : Type 0} (f : M → X) (a b : A) (words : List W) → Kept holds means a b → All (λ w. holds a w × Has 8 (means a w)) words
      → map (λ w. f (means b w)) words ≡ map (λ w. f (means a w)) words
  map-kept f a b [] kept each = refl
  map-kept f a b (w ∷ rest) kept each =
      let here = All-head (λ w. holds a w × Has 8 (means a w)) w rest each in
      ap₂ (λ x xs. x ∷ xs) (ap f (kept w here.0).1) (map-kept f a b rest kept (All-tail (λ w. holds a w × Has 8 (means a w)) w rest each))

  pub Stored-more : (a b : A) (m : M) (words : List W) (w : W) (n : ℕ) → Kept holds means a b → Stored a m words n
      → holds b w → Has 8 (means b w) → means b w ≡ K.byte m n → ((input : List ℕ) → value input (means b w) ≡ byte_of (value input m) n)
      → Stored b m (words ++ w ∷ []) (suc n)
  Stored-more a b m words w n kept so_far held width is value_is = record {
    each = All-push (λ v. holds b v × Has 8 (means b v)) words w
        (All-weaker (λ v. holds a v × Has 8 (means a v)) (λ v. holds b v × Has 8 (means b v))
        (λ v h. ((kept v h.0).0, subst (Has 8) (sym (kept v h.0).1) h.1)) words so_far.each)
        (held, width);
    means_are = map-append (means b) words (w ∷ [])
        ∙ ap₂ (λ xs x. xs ++ x ∷ []) (map-kept (λ x. x) a b words kept so_far.each ∙ so_far.means_are) is;
    values_are = λ input. map-append (λ v. value input (means b v)) words (w ∷ [])
        ∙ ap₂ (λ xs x. xs ++ x ∷ []) (map-kept (value input) a b words kept so_far.each ∙ so_far.values_are input) (value_is input);
  }

  -- the same at the next place of a list that is filled from its start
  pub Stored-next : (a b : A) (m : M) (out : List W) (i : ℕ) (w : W) → i < length out → Kept holds means a b → Stored a m (take i out) i
      → holds b w → Has 8 (means b w) → means b w ≡ K.byte m i → ((input : List ℕ) → value input (means b w) ≡ byte_of (value input m) i)
      → Stored b m (take (i + 1) (set out i w)) (i + 1)
  Stored-next a b m out i w within kept so_far held width is value_is =
      subst (λ n. Stored b m (take n (set out i w)) n) (sym (add-one i))
      (subst (λ words. Stored b m words (suc i)) (sym (take-suc-set out i w within))
      (Stored-more a b m (take i out) w i kept so_far held width is value_is))
