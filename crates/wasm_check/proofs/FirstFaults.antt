-- Laws of the first fault, over the definitions alone: a module has one at most, and a valid one has none.
use Rattle.std.proofs.Common.{◌≡◌, ℕ, zero, suc, ◌+◌, ◌<◌, ◌≤◌, List, [], ◌∷◌, ◌++◌, take, length, refl, sym, ap, ◌∙◌, subst, arith, append_assoc, ◌⊎◌, inl, inr}
use Rattle.std.specs.Prelude.{Bool, true, false, nat_lt, Some, slice_get}
use Rattle.std.proofs.lemmas.Bool.Decides.{nat_tests}
use Rattle.wasm_ast.specs.declared.types.FuncType.{FuncType}
use Rattle.wasm_ast.specs.declared.modules.Func.{Func}
use Rattle.wasm_ast.specs.declared.modules.Module.{Module}
use Rattle.wasm_check.specs.declared.sections.Section.{Section}
use Rattle.wasm_check.specs.declared.sections.Section.TheVariants.{Code}
use Rattle.wasm_check.specs.declared.why.Why.{Why}
use Rattle.wasm_check.specs.declared.why.Why.TheVariants.{Field, Code as InCode, NoMemory}
use Rattle.wasm_check.specs.Contexts.{Context, imported_funcs, context_of}
use Rattle.wasm_check.specs.Faults.{CanBegin, IsFirstFault, BodyFailsAt, section_id, IsFirstInvalid, FirstFault}
use Rattle.wasm_check.specs.Modules.{EntryIsValid, IsValid}
use Rattle.wasm_check.specs.Trees.{Token, body_tokens, seq_of}
use Rattle.wasm_check.proofs.ModuleLemmas.{same-section}
use Rattle.wasm_check.proofs.TreeLemmas.{one-tree}

pub apart : (k j : ℕ) → (k < j) ⊎ (j < k) ⊎ (k ≡ j)
apart k j = by (nat_lt k j) (nat_lt j k) refl refl
  where
    by : (a b : Bool) → nat_lt k j ≡ a → nat_lt j k ≡ b → (k < j) ⊎ (j < k) ⊎ (k ≡ j)
    by true b is other = inl (grind (arith, nat_tests, is))
    by false true is other = inr (inl (grind (arith, nat_tests, other)))
    by false false is other = inr (inr (grind (arith, nat_tests, is, other)))

-- ---- the first entry

same-place : (P : ℕ → Type 0) (k j : ℕ) → (P k → ⊥) → ((i : ℕ) → i < k → P i) → (P j → ⊥) → ((i : ℕ) → i < j → P i) → k ≡ j
same-place P k j nk bk nj bj = elim (apart k j) [
  | inl lt ↦ absurd (nk (bj k lt))
  | inr (inl lt) ↦ absurd (nj (bk j lt))
  | inr (inr e) ↦ e
]

same-invalid : (m : Module) (s t : Section) (k j : ℕ) → IsFirstInvalid m s k → IsFirstInvalid m t j → (s ≡ t) × (k ≡ j)
same-invalid m s t k j h g = elim (apart (section_id s) (section_id t)) [
  | inl lt ↦ absurd (h.first.invalid (g.sections_before s lt k))
  | inr (inl lt) ↦ absurd (g.first.invalid (h.sections_before t lt j))
  | inr (inr e) ↦
      let same : s ≡ t = same-section s t e in
      let moved : IsFirstInvalid m t k = subst (λ s. IsFirstInvalid m s k) same h in
      (same, same-place (EntryIsValid m t) k j moved.first.invalid moved.first.before g.first.invalid g.first.before)
]

-- ---- the first place of a body

prefix : {A : Type 0} (n k : ℕ) (xs : List A) → n ≤ k → (ys : List A) × (take k xs ≡ take n xs ++ ys)
prefix zero k xs le = (take k xs, refl)
prefix (suc n) zero xs le = absurd (omega (arith, le))
prefix (suc n) (suc k) [] le = ([], refl)
prefix (suc n) (suc k) (x ∷ xs) le = let r = prefix n k xs (omega (arith, le)) in (r.0, ap (λ l. x ∷ l) r.1)

begins-less : (C : Context) (n k : ℕ) (body : List Token) → n ≤ k → CanBegin C (take k body) → CanBegin C (take n body)
begins-less C n k body le h =
    let p = prefix n k body le in
    (h.0, p.0 ++ h.1, h.2, h.3 ∙ ap (λ l. l ++ h.1) p.1 ∙ append_assoc (take n body) p.0 h.1)

one-place : (C : Context) (body : List Token) (p q : ℕ) → IsFirstFault C body p → IsFirstFault C body q → p ≡ q
one-place C body p q h g = elim (apart p q) [
  | inl lt ↦ absurd (h.here (begins-less C (p + 1) q body (omega (arith, lt)) g.before))
  | inr (inl lt) ↦ absurd (g.here (begins-less C (q + 1) p body (omega (arith, lt)) h.before))
  | inr (inr e) ↦ e
]

same-type : (t u : FuncType) → Some t ≡ Some u → t ≡ u
same-type t u e = cc

same-func : (f g : Func) → Some f ≡ Some g → f ≡ g
same-func f g e = cc

one-fails : (m : Module) (f : Func) (p q : ℕ) → BodyFailsAt m f p → BodyFailsAt m f q → p ≡ q
one-fails m f p q h g =
    let type : g.type ≡ h.type = same-type g.type h.type (sym g.has_type ∙ h.has_type) in
    let tree : g.tree ≡ h.tree = one-tree f.body.seqs (seq_of f.body.seqs 0) g.tree h.tree g.is_tree h.is_tree in
    one-place (context_of m f h.type) (body_tokens h.tree) p q h.first
    (subst (λ c. IsFirstFault (context_of m f h.type) (body_tokens c) q) tree (subst (λ t. IsFirstFault (context_of m f t) (body_tokens g.tree) q) type g.first))

-- ---- the laws

pub one-fault : (m : Module) (f g : Why) → FirstFault m f → FirstFault m g → f ≡ g
one-fault m (Field a k) (Field b j) h g =
    let same : (h.0 ≡ g.0) × (k ≡ j) = same-invalid m h.0 g.0 k j h.3 g.3 in
    ap (λ i. Field i k) (h.1 ∙ ap section_id same.0 ∙ sym g.1) ∙ ap (λ k. Field b k) same.1
one-fault m (Field a k) (InCode function place) h g =
    let same : (h.0 ≡ Code) × (k ≡ g.0) = same-invalid m h.0 Code k g.0 h.3 g.4 in
    absurd (h.2 (h.1 ∙ ap section_id same.0))
one-fault m (InCode function place) (Field b j) h g =
    let same : (g.0 ≡ Code) × (j ≡ h.0) = same-invalid m g.0 Code j h.0 g.3 h.4 in
    absurd (g.2 (g.1 ∙ ap section_id same.0))
one-fault m (InCode a p) (InCode b q) h g =
    let same : (Code ≡ Code) × (h.0 ≡ g.0) = same-invalid m Code Code h.0 g.0 h.4 g.4 in
    let func : h.1 ≡ g.1 = same-func h.1 g.1 (sym h.3 ∙ ap (λ k. slice_get m.funcs k) same.1 ∙ g.3) in
    let place : p ≡ q = one-fails m g.1 p q (subst (λ f. BodyFailsAt m f p) func h.5) g.5 in
    ap (λ a. InCode a p) (h.2 ∙ ap (λ k. length (imported_funcs m) + k) same.1 ∙ sym g.2) ∙ ap (λ p. InCode b p) place
one-fault m NoMemory g h k = absurd h
one-fault m (Field a k) NoMemory h g = absurd g
one-fault m (InCode a p) NoMemory h g = absurd g

pub never-both : (m : Module) (f : Why) → IsValid m → FirstFault m f → ⊥
never-both m (Field id k) valid h = let first : IsFirstInvalid m h.0 k = h.3 in first.first.invalid (valid h.0 k)
never-both m (InCode function place) valid h = let first : IsFirstInvalid m Code h.0 = h.4 in first.first.invalid (valid Code h.0)
never-both m NoMemory valid h = h
