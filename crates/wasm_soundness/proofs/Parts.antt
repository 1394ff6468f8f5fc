-- What the parts of instructions' rules do with values of their types.
use Rattle.std.proofs.Common.{◌≡◌, ℕ, zero, suc, ◌+◌, ◌≤◌, List, [], ◌∷◌, ◌++◌, take, drop, length, refl, sym, ◌∙◌, subst, inl, inr, arith, length-append}
use Rattle.std.specs.Prelude.{Bool, true, false, nat_lt, nat_le, if◌then◌else◌, Option, Some, None, slice_get}
use Rattle.std.specs.List.{AllByRecursion}
use Rattle.std.proofs.lemmas.Bool.{le-ltb}
use Rattle.wasm_ast.specs.Shape.{IsReference}
use Rattle.wasm_ast.specs.declared.types.ValType.{ValType}
use Rattle.wasm_ast.specs.declared.types.ValType.TheVariants.{I32 as I32Type, I64 as I64Type}
use Rattle.wasm_ast.specs.declared.modules.Module.{Module}
use Rattle.wasm_ast.specs.declared.runs.Cause.{Cause}
use Rattle.wasm_rules.specs.Words.{Kind}
use Rattle.wasm_check.specs.declared.operands.Operand.{Operand}
use Rattle.wasm_check.specs.declared.operands.Operand.TheVariants.{Of}
use Rattle.wasm_check.specs.Operands.{operands}
use Rattle.wasm_reduction.specs.Configurations.{Reference, Value, I32, I64, Ref, Config, Next, Ends, Stuck, Traps}
use Rattle.wasm_reduction.specs.Combinators.{holding, with_found, with_value, with_word, with_reference, with_last, testing, trapping_if, picking, assuming, within}
use Rattle.wasm_reduction.specs.Ranges.{with_element, indexing, addressing, filling, copying, with_copy, grown, growing}
use Rattle.wasm_reduction.proofs.WideParts.{each-get}
use Rattle.wasm_soundness.specs.Values.{ReferenceIs, ValueIs, OperandIs, Hold}
use Rattle.wasm_soundness.specs.Configurations.{ConfigFits, NextFits}
use Rattle.wasm_soundness.proofs.Holding.{hold-length, hold-first, hold-others}
use Rattle.wasm_soundness.proofs.Tables.{number_type}
use Rattle.wasm_check.proofs.Rules.{operands-length}

module _ {W : Type 0} (m : Module) (final : List ValType) where
  abbrev N : Next W → Type 0
  N x = NextFits m final x

  pub found-fits : {A : Type 0} (o : Option A) (x : A) (go : A → Next W) → o ≡ Some x → N (go x) → N (with_found o go)
  found-fits None x go e h = absurd cc
  found-fits (Some y) x go e h = let same : x ≡ y = cc in subst (λ x. N (go x)) same h

  pub value-fits : (vs : List (Value W)) (t : Operand) (ts : List Operand) (go : Value W → List (Value W) → Next W) → Hold m vs (t ∷ ts) →
      ((v : Value W) (rest : List (Value W)) → OperandIs m v t → Hold m rest ts → N (go v rest)) → N (with_value vs go)
  value-fits [] t ts go h f = absurd h
  value-fits (v ∷ vs) t ts go h f = f v vs h.0 h.1

  pub word-fits : (wide : Bool) (vs : List (Value W)) (ts : List Operand) (go : W → List (Value W) → Next W) → Hold m vs (Of (number_type wide) ∷ ts) →
      ((w : W) (rest : List (Value W)) → Hold m rest ts → N (go w rest)) → N (with_word wide vs go)
  word-fits wide [] ts go h f = absurd h
  word-fits false (I32 w ∷ vs) ts go h f = f w vs h.1
  word-fits false (I64 w ∷ vs) ts go h f = absurd h.0
  word-fits false (Ref r ∷ vs) ts go h f = absurd (no-number r h.0)
    where
      no-number : (r : Reference) → ReferenceIs m I32Type r → ⊥
      no-number r h = h
  word-fits true (I32 w ∷ vs) ts go h f = absurd h.0
  word-fits true (I64 w ∷ vs) ts go h f = f w vs h.1
  word-fits true (Ref r ∷ vs) ts go h f = absurd (no-number r h.0)
    where
      no-number : (r : Reference) → ReferenceIs m I64Type r → ⊥
      no-number r h = h

  pub reference-fits : (kind : ValType) → IsReference kind → (vs : List (Value W)) (ts : List Operand) (go : Reference → List (Value W) → Next W) → Hold m vs (Of kind ∷ ts) →
      ((r : Reference) (rest : List (Value W)) → ReferenceIs m kind r → Hold m rest ts → N (go r rest)) → N (with_reference vs go)
  reference-fits kind is [] ts go h f = absurd h
  reference-fits kind is (Ref r ∷ vs) ts go h f = f r vs h.0 h.1
  reference-fits kind is (I32 w ∷ vs) ts go h f = elim is [ inl e ↦ absurd (subst (λ k. ValueIs m (I32 w) k) e h.0) | inr e ↦ absurd (subst (λ k. ValueIs m (I32 w) k) e h.0) ]
  reference-fits kind is (I64 w ∷ vs) ts go h f = elim is [ inl e ↦ absurd (subst (λ k. ValueIs m (I64 w) k) e h.0) | inr e ↦ absurd (subst (λ k. ValueIs m (I64 w) k) e h.0) ]

  pub copy-fits : (vs : List (Value W)) (ts : List Operand) (go : W → W → W → List (Value W) → Next W) → Hold m vs (Of I32Type ∷ Of I32Type ∷ Of I32Type ∷ ts) →
      ((to from count : W) (rest : List (Value W)) → Hold m rest ts → N (go to from count rest)) → N (with_copy vs go)
  copy-fits vs ts go h f = word-fits false vs _ _ h (λ count rest h. word-fits false rest _ _ h (λ from rest h. word-fits false rest ts _ h (λ to rest h. f to from count rest h)))

  choice-fits : (b : Bool) (x y : Next W) → b ≡ false → N y → N (if b then x else y)
  choice-fits true x y e h = absurd cc
  choice-fits false x y e h = h

  pub last-fits : (n : ℕ) (ps : List ValType) → n ≡ length ps → (vs : List (Value W)) (ts : List Operand) (go : List (Value W) → List (Value W) → Next W) → Hold m vs (operands ps ++ ts) →
      ((given rest : List (Value W)) → Hold m given (operands ps) → Hold m rest ts → N (go given rest)) → N (with_last n vs go)
  last-fits n ps e vs ts go h f =
      let long : length (operands ps) ≡ n = operands-length ps ∙ sym e in
      let enough : n ≤ length vs = let a = hold-length m vs (operands ps ++ ts) h in let b = length-append (operands ps) ts in omega (arith, a, b, long) in
      choice-fits (nat_lt (length vs) n) (Ends Stuck) (go (take n vs) (drop n vs)) (le-ltb _ _ enough)
      (f (take n vs) (drop n vs) (subst (λ n. Hold m (take n vs) (operands ps)) long (hold-first m vs (operands ps) ts h)) (subst (λ n. Hold m (drop n vs) ts) long (hold-others m vs (operands ps) ts h)))

  pub testing-fits : (w : W) (ns : List ℕ) (z o : List ℕ → Next W) → ((ns : List ℕ) → N (z ns)) → ((ns : List ℕ) → N (o ns)) → N (testing w ns z o)
  testing-fits w [] z o f g = tt
  testing-fits w (zero ∷ ns) z o f g = f ns
  testing-fits w (suc n ∷ ns) z o f g = g ns

  pub trapping-fits : (w : W) (cause : Cause) (ns : List ℕ) (go : List ℕ → Next W) → ((ns : List ℕ) → N (go ns)) → N (trapping_if w cause ns go)
  trapping-fits w cause ns go f = testing-fits w ns go _ f (λ ns. tt)

  pub picking-fits : (w : W) (ns : List ℕ) (go : ℕ → List ℕ → Next W) → ((n : ℕ) (ns : List ℕ) → N (go n ns)) → N (picking w ns go)
  picking-fits w [] go f = tt
  picking-fits w (n ∷ ns) go f = f n ns

  pub assuming-fits : (w : W) (ns : List ℕ) (x y : Next W) → N x → N y → N (assuming w ns x y)
  assuming-fits w [] x y f g = tt
  assuming-fits w (zero ∷ ns) x y f g = f
  assuming-fits w (suc n ∷ ns) x y f g = g

  pub within-fits : (end size : ℕ) (cause : Cause) (x : Next W) → N x → N (within end size cause x)
  within-fits end size cause x f = at (nat_lt size end)
    where
      at : (b : Bool) → N (if b then Ends (Traps cause) else x)
      at true = tt
      at false = f

  module _ (K : Kind W) where
    -- each element of the list is of this kind
    pub indexing-fits : {A : Type 0} (P : A → Type 0) (cause : Cause) (index : W) (elements : List A) (ns : List ℕ) (go : ℕ → A → List ℕ → Next W) → AllByRecursion P elements →
        ((i : ℕ) (x : A) (ns : List ℕ) → P x → N (go i x ns)) → N (indexing K cause index elements ns go)
    indexing-fits P cause index elements ns go each f =
        trapping-fits _ cause ns _ (λ ns. picking-fits index ns _ (λ i ns. element (slice_get elements i) i ns (λ x e. each-get P elements i x each e)))
      where
        element : (o : Option _) (i : ℕ) (ns : List ℕ) → ((x : _) → o ≡ Some x → P x) → N (with_element cause o (λ x. go i x ns))
        element None i ns h = tt
        element (Some x) i ns h = f i x ns (h x refl)

    pub addressing-fits : (cause : Cause) (address : W) (extent size : ℕ) (ns : List ℕ) (go : ℕ → Next W) → ((at : ℕ) → N (go at)) → N (addressing K cause address extent size ns go)
    addressing-fits cause address extent size ns go f = trapping-fits _ cause ns _ (λ ns. picking-fits address ns _ (λ at ns. within-fits (at + extent) size cause _ (f at)))

    pub filling-fits : (cause : Cause) (to count : W) (size : ℕ) (ns : List ℕ) (go : ℕ → ℕ → Next W) → ((t n : ℕ) → N (go t n)) → N (filling K cause to count size ns go)
    filling-fits cause to count size ns go f =
        trapping-fits _ cause ns _ (λ ns. picking-fits to ns _ (λ t ns. picking-fits count ns _ (λ n ns. within-fits (t + n) size cause _ (f t n))))

    pub copying-fits : (cause : Cause) (to from count : W) (target source : ℕ) (ns : List ℕ) (go : ℕ → ℕ → ℕ → Next W) → ((t f n : ℕ) → N (go t f n)) → N (copying K cause to from count target source ns go)
    copying-fits cause to from count target source ns go f =
        trapping-fits _ cause ns _ (λ ns. picking-fits to ns _ (λ t ns. picking-fits from ns _ (λ s ns. picking-fits count ns _ (λ n ns.
        within-fits (s + n) source cause _ (within-fits (t + n) target cause _ (f t s n))))))

    pub growing-fits : (c : Config W) (rest : List (Value W)) (count : W) (size most : ℕ) (ns : List ℕ) (go : ℕ → Config W) →
        ((w : W) → ConfigFits m final (holding c (I32 w ∷ rest))) → ((n : ℕ) (w : W) → ConfigFits m final (holding (go n) (I32 w ∷ rest))) → N (growing K c rest count size most ns go)
    growing-fits c rest count size most ns go stays grows = picking-fits count ns _ (λ n ns. at n (nat_le (size + n) most))
      where
        at : (n : ℕ) (b : Bool) → N (grown K c rest size n b go)
        at n true = grows n (K.number size)
        at n false = stays _
