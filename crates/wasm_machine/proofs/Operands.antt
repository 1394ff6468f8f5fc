-- The operands that the reduction takes, where the machine looks at them in their places.
use Rattle.std.proofs.Common.{◌≡◌, ℕ, zero, suc, ◌+◌, List, [], ◌∷◌, map, drop, refl, sym, ap, ◌∙◌, arith}
use Rattle.std.specs.Prelude.{Bool, slice_get, Some, None, option_map}
use Rattle.wasm_reduction.specs.Configurations.{Reference, Value, Next, Ends, Stuck}
use Rattle.wasm_reduction.specs.Combinators.{with_found, with_value, with_word, with_reference}
use Rattle.wasm_machine.specs.declared.values.Reference.{Reference as CodeReference}
use Rattle.wasm_machine.specs.declared.values.Value.{Value as CodeValue}
use Rattle.wasm_machine.specs.declared.values.Value.TheVariants.{I32 as CodeI32, I64 as CodeI64, Ref as CodeRef}
use Rattle.wasm_machine.specs.States.{State, own}
use Rattle.wasm_machine.specs.Values.{reference, value, word_at, reference_at}
use Rattle.wasm_machine.specs.Configurations.{image}
use Rattle.wasm_machine.proofs.Images.{own-image, word-image}

suc-drop : {X : Type 0} (x : X) (xs : List X) (k : ℕ) → drop (suc k + 1) (x ∷ xs) ≡ drop (k + 1) xs
suc-drop x xs k = let one : suc k + 1 ≡ suc (k + 1) = omega arith in rw one

-- ---- in a list of values

value-there : {V W : Type 0} (h : V → W) (vs : List (CodeValue V)) (k : ℕ) (v : CodeValue V) (go : Value W → List (Value W) → Next W) → Some v ≡ slice_get vs k →
    with_value (drop k (map (value h) vs)) go ≡ go (value h v) (drop (k + 1) (map (value h) vs))
value-there h [] k v go e = cc
value-there h (x ∷ xs) zero v go e = let f : x ≡ v = cc in ap (λ y. go (value h y) (map (value h) xs)) f
value-there h (x ∷ xs) (suc k) v go e = value-there h xs k v go e ∙ ap (λ l. go (value h v) l) (sym (suc-drop (value h x) (map (value h) xs) k))

value-lacks : {V W : Type 0} (h : V → W) (vs : List (CodeValue V)) (k : ℕ) (go : Value W → List (Value W) → Next W) → None ≡ slice_get vs k →
    with_value (drop k (map (value h) vs)) go ≡ Ends Stuck
value-lacks h [] zero go e = refl
value-lacks h [] (suc k) go e = refl
value-lacks h (x ∷ xs) zero go e = cc
value-lacks h (x ∷ xs) (suc k) go e = value-lacks h xs k go e

word-there : {V W : Type 0} (h : V → W) (wide : Bool) (vs : List (CodeValue V)) (k : ℕ) (w : V) (go : W → List (Value W) → Next W) → Some w ≡ word_at wide vs k →
    with_word wide (drop k (map (value h) vs)) go ≡ go (h w) (drop (k + 1) (map (value h) vs))
word-there h wide [] k w go e = cc
word-there h wide (x ∷ xs) zero w go e = ap (λ o. with_found o (λ y. go y (map (value h) xs))) (word-image h wide x ∙ ap (λ o. option_map h o) (sym e))
word-there h wide (x ∷ xs) (suc k) w go e = word-there h wide xs k w go e ∙ ap (λ l. go (h w) l) (sym (suc-drop (value h x) (map (value h) xs) k))

word-lacks : {V W : Type 0} (h : V → W) (wide : Bool) (vs : List (CodeValue V)) (k : ℕ) (go : W → List (Value W) → Next W) → None ≡ word_at wide vs k →
    with_word wide (drop k (map (value h) vs)) go ≡ Ends Stuck
word-lacks h wide [] zero go e = refl
word-lacks h wide [] (suc k) go e = refl
word-lacks h wide (x ∷ xs) zero go e = ap (λ o. with_found o (λ y. go y (map (value h) xs))) (word-image h wide x ∙ ap (λ o. option_map h o) (sym e))
word-lacks h wide (x ∷ xs) (suc k) go e = word-lacks h wide xs k go e

reference-there : {V W : Type 0} (h : V → W) (vs : List (CodeValue V)) (k : ℕ) (r : CodeReference) (go : Reference → List (Value W) → Next W) → Some r ≡ reference_at vs k →
    with_reference (drop k (map (value h) vs)) go ≡ go (reference r) (drop (k + 1) (map (value h) vs))
reference-there h [] k w go e = cc
reference-there h (CodeI32 x ∷ xs) zero w go e = cc
reference-there h (CodeI64 x ∷ xs) zero w go e = cc
reference-there h (CodeRef r ∷ xs) zero w go e = let f : r ≡ w = cc in ap (λ y. go (reference y) (map (value h) xs)) f
reference-there h (x ∷ xs) (suc k) w go e = reference-there h xs k w go e ∙ ap (λ l. go (reference w) l) (sym (suc-drop (value h x) (map (value h) xs) k))

reference-lacks : {V W : Type 0} (h : V → W) (vs : List (CodeValue V)) (k : ℕ) (go : Reference → List (Value W) → Next W) → None ≡ reference_at vs k →
    with_reference (drop k (map (value h) vs)) go ≡ Ends Stuck
reference-lacks h [] zero go e = refl
reference-lacks h [] (suc k) go e = refl
reference-lacks h (CodeI32 x ∷ xs) zero go e = refl
reference-lacks h (CodeI64 x ∷ xs) zero go e = refl
reference-lacks h (CodeRef r ∷ xs) zero go e = cc
reference-lacks h (x ∷ xs) (suc k) go e = reference-lacks h xs k go e

-- ---- among the own operands of a state

pub found-value : {V W : Type 0} (h : V → W) (s : State (CodeValue V)) (k : ℕ) (v : CodeValue V) (go : Value W → List (Value W) → Next W) → Some v ≡ slice_get (own s) k →
    with_value (drop k (own (image h s))) go ≡ go (value h v) (drop (k + 1) (own (image h s)))
found-value h s k v go e = rw (own-image h s) (value-there h (own s) k v go e)

pub no-value : {V W : Type 0} (h : V → W) (s : State (CodeValue V)) (k : ℕ) (go : Value W → List (Value W) → Next W) → None ≡ slice_get (own s) k →
    with_value (drop k (own (image h s))) go ≡ Ends Stuck
no-value h s k go e = rw (own-image h s) (value-lacks h (own s) k go e)

pub found-word : {V W : Type 0} (h : V → W) (s : State (CodeValue V)) (wide : Bool) (k : ℕ) (w : V) (go : W → List (Value W) → Next W) → Some w ≡ word_at wide (own s) k →
    with_word wide (drop k (own (image h s))) go ≡ go (h w) (drop (k + 1) (own (image h s)))
found-word h s wide k w go e = rw (own-image h s) (word-there h wide (own s) k w go e)

pub no-word : {V W : Type 0} (h : V → W) (s : State (CodeValue V)) (wide : Bool) (k : ℕ) (go : W → List (Value W) → Next W) → None ≡ word_at wide (own s) k →
    with_word wide (drop k (own (image h s))) go ≡ Ends Stuck
no-word h s wide k go e = rw (own-image h s) (word-lacks h wide (own s) k go e)

pub found-reference : {V W : Type 0} (h : V → W) (s : State (CodeValue V)) (k : ℕ) (r : CodeReference) (go : Reference → List (Value W) → Next W) → Some r ≡ reference_at (own s) k →
    with_reference (drop k (own (image h s))) go ≡ go (reference r) (drop (k + 1) (own (image h s)))
found-reference h s k r go e = rw (own-image h s) (reference-there h (own s) k r go e)

pub no-reference : {V W : Type 0} (h : V → W) (s : State (CodeValue V)) (k : ℕ) (go : Reference → List (Value W) → Next W) → None ≡ reference_at (own s) k →
    with_reference (drop k (own (image h s))) go ≡ Ends Stuck
no-reference h s k go e = rw (own-image h s) (reference-lacks h (own s) k go e)
