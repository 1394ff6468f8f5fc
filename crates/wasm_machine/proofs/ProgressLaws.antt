-- The operands of instructions that access a table or a memory.
use Rattle.std.proofs.Common.{◌≡◌, ℕ, ◌+◌, ◌<◌, List, drop, length, sym, ap, ◌∙◌}
use Rattle.std.specs.Prelude.{Bool, false, Option, Some, None, IfSome, option_map, slice_get}
use Rattle.wasm_ast.specs.declared.runs.Cause.{Cause}
use Rattle.wasm_rules.specs.Words.{Kind, bits_where}
use Rattle.wasm_reduction.specs.Configurations.{Reference, Value, Next}
use Rattle.wasm_reduction.specs.Combinators.{with_found, with_word, with_reference}
use Rattle.wasm_reduction.specs.Ranges.{with_element, indexing, addressing, filling, copying, with_copy}
use Rattle.wasm_machine.specs.declared.values.Reference.{Reference as CodeReference}
use Rattle.wasm_machine.specs.declared.values.Value.{Value as CodeValue}
use Rattle.wasm_machine.specs.declared.ranges.Reached.{Reached}
use Rattle.wasm_machine.specs.declared.ranges.FillRange.{FillRange}
use Rattle.wasm_machine.specs.declared.ranges.CopyRange.{CopyRange}
use Rattle.wasm_machine.specs.States.{State, own}
use Rattle.wasm_machine.specs.Values.{reference, word_at, reference_at}
use Rattle.wasm_machine.specs.Configurations.{image}
use Rattle.wasm_machine.specs.Acts.{Ready}
use Rattle.wasm_machine.specs.code.RangeProgress.{reached}
use Rattle.wasm_machine.proofs.Images.{own-held, word_at-held, word_at-wide, word_at-some, reference_at-some}
use Rattle.wasm_machine.proofs.Operands.{found-word, no-word, found-reference, no-reference}

-- ---- one operand

module _ {A V M : Type 0} (H : A → V → Type 0) (Has : ℕ → M → Type 0) (means : A → V → M) (a : A) (s : State (CodeValue V)) (wide : Bool) (k : ℕ) where
  pub word-found : (r : Option V) → r ≡ word_at wide (own s) k → (go : M → List (Value M) → Next M) → with_word wide (drop k (own (image (means a) s))) go ≡ with_found (option_map (means a) r) (λ w. go w (drop (k + 1) (own (image (means a) s))))
  word-found None e go = no-word (means a) s wide k go e
  word-found (Some w) e go = found-word (means a) s wide k w go e

  pub word-held : Ready H Has means a s → (r : Option V) → r ≡ word_at wide (own s) k → IfSome r (H a)
  word-held ready None e = tt
  word-held ready (Some w) e = word_at-held (H a) wide (own s) k w (own-held H a s ready.sane) e

  pub word-width : Ready H Has means a s → (r : Option V) → r ≡ word_at wide (own s) k → IfSome r (λ w. Has (bits_where wide) (means a w))
  word-width ready None e = tt
  word-width ready (Some w) e = word_at-wide Has (means a) wide (own s) k w ready.wide e

  pub word-there : (r : Option V) → r ≡ word_at wide (own s) k → IfSome r (λ w. k < length (own s))
  word-there None e = tt
  word-there (Some w) e = word_at-some wide (own s) k w e

module _ {V M : Type 0} (h : V → M) (s : State (CodeValue V)) (k : ℕ) where
  pub reference-found : (r : Option CodeReference) → r ≡ reference_at (own s) k → (go : Reference → List (Value M) → Next M) → with_reference (drop k (own (image h s))) go ≡ with_found (option_map reference r) (λ x. go x (drop (k + 1) (own (image h s))))
  reference-found None e go = no-reference h s k go e
  reference-found (Some r) e go = found-reference h s k r go e

  pub reference-there : (r : Option CodeReference) → r ≡ reference_at (own s) k → IfSome r (λ w. k < length (own s))
  reference-there None e = tt
  reference-there (Some r) e = reference_at-some (own s) k r e

-- ---- with the questions on them

-- a word is found at this place, and the others after it
abbrev pub Found : {M : Type 0} → List (Value M) → ℕ → M → Type 0
Found {M = M} vs k w = (go : M → List (Value M) → Next M) → with_word false (drop k vs) go ≡ go w (drop (k + 1) vs)

module _ {V M : Type 0} (h : V → M) (K : Kind M) (vs : List (Value M)) (ns answers : List ℕ) (same : answers ≡ ns) (cause : Cause) where
  pub address-says : (k : ℕ) (address : M) (extent size : ℕ) (x : Reached V ℕ) → Found vs k address
      → ((cause : Cause) (go : ℕ → Next M) → addressing K cause address extent size answers go ≡ reached h cause go x)
      → (go : ℕ → List (Value M) → Next M) → with_word false (drop k vs) (λ address rest. addressing K cause address extent size ns (λ at. go at rest)) ≡ reached h cause (λ at. go at (drop (k + 1) vs)) x
  address-says k address extent size x found says go =
      found (λ address rest. addressing K cause address extent size ns (λ at. go at rest))
      ∙ ap (λ ns. addressing K cause address extent size ns (λ at. go at (drop (k + 1) vs))) (sym same)
      ∙ says cause (λ at. go at (drop (k + 1) vs))

  pub index-says : (k : ℕ) (index : M) (size : ℕ) (x : Reached V ℕ) → Found vs k index
      → ((cause : Cause) (elements : List Reference) (go : ℕ → Reference → List ℕ → Next M) → length elements ≡ size → indexing K cause index elements answers go ≡ reached h cause (λ i. with_element cause (slice_get elements i) (λ r. go i r (drop 2 answers))) x)
      → (elements : List Reference) (go : ℕ → Reference → List (Value M) → Next M) → length elements ≡ size →
      with_word false (drop k vs) (λ index rest. indexing K cause index elements ns (λ i r ns. go i r rest)) ≡ reached h cause (λ i. with_element cause (slice_get elements i) (λ r. go i r (drop (k + 1) vs))) x
  index-says k index size x found says elements go long =
      found (λ index rest. indexing K cause index elements ns (λ i r ns. go i r rest))
      ∙ ap (λ ns. indexing K cause index elements ns (λ i r ns. go i r (drop (k + 1) vs))) (sym same)
      ∙ says cause elements (λ i r ns. go i r (drop (k + 1) vs)) long

  pub fill-says : (to count : M) (size : ℕ) (x : Reached V FillRange) → Found vs 2 to
      → ((cause : Cause) (go : ℕ → ℕ → Next M) → filling K cause to count size answers go ≡ reached h cause (λ r. go r.to r.count) x)
      → (go : ℕ → ℕ → List (Value M) → Next M) → with_word false (drop 2 vs) (λ to rest. filling K cause to count size ns (λ t n. go t n rest)) ≡ reached h cause (λ r. go r.to r.count (drop 3 vs)) x
  fill-says to count size x found says go =
      found (λ to rest. filling K cause to count size ns (λ t n. go t n rest))
      ∙ ap (λ ns. filling K cause to count size ns (λ t n. go t n (drop 3 vs))) (sym same)
      ∙ says cause (λ t n. go t n (drop 3 vs))

  pub copy-says : (to from count : M) (target source : ℕ) (x : Reached V CopyRange) → Found vs 0 count → Found vs 1 from → Found vs 2 to
      → ((cause : Cause) (go : ℕ → ℕ → ℕ → Next M) → copying K cause to from count target source answers go ≡ reached h cause (λ r. go r.to r.from r.count) x)
      → (go : ℕ → ℕ → ℕ → List (Value M) → Next M) → with_copy vs (λ to from count rest. copying K cause to from count target source ns (λ t f n. go t f n rest)) ≡ reached h cause (λ r. go r.to r.from r.count (drop 3 vs)) x
  copy-says to from count target source x first second third says go =
      first (λ count rest. with_word false rest (λ from rest. with_word false rest (λ to rest. copying K cause to from count target source ns (λ t f n. go t f n rest))))
      ∙ second (λ from rest. with_word false rest (λ to rest. copying K cause to from count target source ns (λ t f n. go t f n rest)))
      ∙ third (λ to rest. copying K cause to from count target source ns (λ t f n. go t f n rest))
      ∙ ap (λ ns. copying K cause to from count target source ns (λ t f n. go t f n (drop 3 vs))) (sym same)
      ∙ says cause (λ t f n. go t f n (drop 3 vs))
