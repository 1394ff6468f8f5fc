-- Labels by number.
use Rattle.std.proofs.Common.{◌≡◌, ℕ, zero, suc, ◌+◌, ◌-◌, ◌<◌, ◌≤◌, List, [], ◌∷◌, length, drop, reverse, get_or, drop-cons, refl, sym, ap, ◌∙◌, arith}
use Rattle.std.specs.Prelude.{Some, None, slice_get}
use Rattle.std.proofs.lemmas.List.{length-reverse, get_or-reverse}
use Rattle.wasm_ast.specs.declared.types.ValType.{ValType}
use Rattle.wasm_check.specs.declared.operands.Operand.{Operand}
use Rattle.wasm_check.specs.Operands.{operands}
use Rattle.wasm_check.specs.Instructions.{Labels}
use Rattle.wasm_check.specs.code.Checker.{Stack, bind, when, pops, popped, same_count, each_fits, Open, labels_of}
use Rattle.wasm_check.proofs.Stacks.{bind-some}
use Rattle.wasm_check.proofs.Rules.{count-same}

labels-past : (ys : List Open) (j : ℕ) → length ys ≤ j → slice_get (labels_of ys) j ≡ None
labels-past [] zero h = refl
labels-past [] (suc j) h = refl
labels-past (y ∷ ys) zero h = absurd (omega (arith, h))
labels-past (y ∷ ys) (suc j) h = labels-past ys j (omega (arith, h))

labels-get : (ys : List Open) (j : ℕ) (x : Open) → j < length ys → x ≡ get_or ys j x → slice_get (labels_of ys) j ≡ Some x.label
labels-get [] j x h e = absurd (omega (arith, h))
labels-get (y ∷ ys) zero x h e = ap (λ o. Some o.label) (sym e)
labels-get (y ∷ ys) (suc j) x h e = labels-get ys j x (omega (arith, h)) e

pub labels-none : (own : List ValType) (outer : List Open) (k : ℕ) → (k ≡ 0 → ⊥) → length outer < k → slice_get (own ∷ labels_of (reverse outer)) k ≡ None
labels-none own outer zero n h = absurd (n refl)
labels-none own outer (suc j) n h = labels-past (reverse outer) j (omega (arith, h, length-reverse outer))

pub labels-some : (own : List ValType) (outer : List Open) (k : ℕ) (x : Open) → (k ≡ 0 → ⊥) → k ≤ length outer → x ≡ get_or outer (length outer - k) x → slice_get (own ∷ labels_of (reverse outer)) k ≡ Some x.label
labels-some own outer zero x n h e = absurd (n refl)
labels-some own outer (suc j) x n h e =
    let place : length outer - suc j ≡ length outer - 1 - j = omega arith in
    labels-get (reverse outer) j x (omega (arith, h, length-reverse outer))
    (e ∙ ap (λ p. get_or outer p x) place ∙ sym (get_or-reverse outer j x (omega (arith, h))))

pub each-goes : (ls : Labels) (own : List ValType) (labels : List ℕ) (i : ℕ) (these : List ValType) (s t : Stack) → i < length labels → slice_get ls (get_or labels i 0) ≡ Some these → length these ≡ length own → popped (operands these) s ≡ Some t →
    each_fits ls own (drop i labels) s.dead s.ops ≡ each_fits ls own (drop (i + 1) labels) s.dead s.ops
each-goes ls own labels i these s t h e n p =
    let b : (ops : List Operand) × (pops (operands these) s.dead s.ops ≡ Some ops) × (Some (record s { ops = ops }) ≡ Some t) = bind-some _ _ t p in
    let next : suc i ≡ i + 1 = omega arith in
    ap (λ l. each_fits ls own l s.dead s.ops) (drop-cons labels i 0 h)
    ∙ ap (λ o. bind o (λ these. when (same_count these own) (bind (pops (operands these) s.dead s.ops) (λ gone. each_fits ls own (drop (suc i) labels) s.dead s.ops)))) e
    ∙ ap (λ b. when b (bind (pops (operands these) s.dead s.ops) (λ gone. each_fits ls own (drop (suc i) labels) s.dead s.ops))) (count-same these own n)
    ∙ ap (λ o. bind o (λ (gone : List Operand). each_fits ls own (drop (suc i) labels) s.dead s.ops)) b.1
    ∙ ap (λ k. each_fits ls own (drop k labels) s.dead s.ops) next
