-- How many of the last types of a list decide whether operands match it.
use Rattle.std.proofs.Common.{◌≡◌, ℕ, zero, suc, ◌+◌, ◌-◌, ◌<◌, ◌≤◌, min, List, [], ◌∷◌, ◌++◌, ◌⊎◌, inl, inr, length, map, take, drop, reverse, refl, sym, ap, ◌∙◌, subst, arith}
use Rattle.std.specs.Prelude.{Bool, true, false, nat_le, Option, Some}
use Rattle.std.proofs.lemmas.Bool.{leb-true, leb-false}
use Rattle.std.proofs.lemmas.List.{append-nil, reverse-append, length-reverse, take_all, drop_all, drop_at}
use Rattle.wasm_ast.specs.declared.types.ValType.{ValType}
use Rattle.wasm_ast.specs.declared.types.FuncType.{FuncType}
use Rattle.wasm_check.specs.declared.operands.Operand.{Operand}
use Rattle.wasm_check.specs.declared.operands.Operand.TheVariants.{Of, Bottom}
use Rattle.wasm_check.specs.declared.stack.Run.{Run}
use Rattle.wasm_check.specs.Operands.{operands}
use Rattle.wasm_check.specs.code.Runs.{run_of, runs_of, held}
use Rattle.wasm_check.specs.code.Checker.{fits, Stack, bind, when, pops, popped}
use Rattle.wasm_check.specs.code.Carried.{HangsOn}
use Rattle.wasm_check.proofs.Stacks.{bind-some, when-some}
use Rattle.wasm_check.proofs.RunLemmas.{operands-reverse}

-- operands that decide nothing
abbrev pub Blank : List Operand → Type 0
Blank ops = (ops ≡ []) ⊎ (ops ≡ Bottom ∷ [])

-- below all operands
none-decides : (xs ys : List ValType) (dead : Bool) (gone : List Operand) → length ys ≡ length xs → pops (map (λ t. Of t) xs) dead [] ≡ Some gone → (other : List Operand) × (pops (map (λ t. Of t) ys) dead [] ≡ Some other)
none-decides [] [] dead gone l e = ([], refl)
none-decides [] (y ∷ ys) dead gone l e = absurd (omega (arith, l))
none-decides (x ∷ xs) [] dead gone l e = absurd (omega (arith, l))
none-decides (x ∷ xs) (y ∷ ys) true gone l e = none-decides xs ys true gone (omega (arith, l)) e
none-decides (x ∷ xs) (y ∷ ys) false gone l e = cc

-- one operand that matches all types, below all others
bottom-decides : (xs ys : List ValType) (dead : Bool) (gone : List Operand) → length ys ≡ length xs → pops (map (λ t. Of t) xs) dead (Bottom ∷ []) ≡ Some gone → (other : List Operand) × (pops (map (λ t. Of t) ys) dead (Bottom ∷ []) ≡ Some other)
bottom-decides [] [] dead gone l e = (Bottom ∷ [], refl)
bottom-decides [] (y ∷ ys) dead gone l e = absurd (omega (arith, l))
bottom-decides (x ∷ xs) [] dead gone l e = absurd (omega (arith, l))
bottom-decides (x ∷ xs) (y ∷ ys) dead gone l e = none-decides xs ys dead gone (omega (arith, l)) e

blank-decides : (xs ys : List ValType) (dead : Bool) (ops gone : List Operand) → Blank ops → length ys ≡ length xs → pops (map (λ t. Of t) xs) dead ops ≡ Some gone → (other : List Operand) × (pops (map (λ t. Of t) ys) dead ops ≡ Some other)
blank-decides xs ys dead ops gone (inl is) l e =
    let P : List Operand → Type 0 = λ o. (other : List Operand) × (pops (map (λ t. Of t) ys) dead o ≡ Some other) in
    subst P (sym is) (none-decides xs ys dead gone l (ap (pops (map (λ t. Of t) xs) dead) (sym is) ∙ e))
blank-decides xs ys dead ops gone (inr is) l e =
    let P : List Operand → Type 0 = λ o. (other : List Operand) × (pops (map (λ t. Of t) ys) dead o ≡ Some other) in
    subst P (sym is) (bottom-decides xs ys dead gone l (ap (pops (map (λ t. Of t) xs) dead) (sym is) ∙ e))

-- lists whose first n types are the same, where only the first n operands decide
first-decide : (n : ℕ) (xs ys : List ValType) (dead : Bool) (ops gone : List Operand) → Blank (drop n ops) → length ys ≡ length xs → take n ys ≡ take n xs → pops (map (λ t. Of t) xs) dead ops ≡ Some gone → (other : List Operand) × (pops (map (λ t. Of t) ys) dead ops ≡ Some other)
first-decide zero xs ys dead ops gone b l s e = blank-decides xs ys dead ops gone b l e
first-decide (suc n) xs ys dead [] gone b l s e = none-decides xs ys dead gone l e
first-decide (suc n) [] [] dead (o ∷ ops) gone b l s e = (o ∷ ops, refl)
first-decide (suc n) [] (y ∷ ys) dead (o ∷ ops) gone b l s e = absurd (omega (arith, l))
first-decide (suc n) (x ∷ xs) [] dead (o ∷ ops) gone b l s e = absurd (omega (arith, l))
first-decide (suc n) (x ∷ xs) (y ∷ ys) dead (o ∷ ops) gone b l s e =
    let head : y ≡ x = cc in
    let tail : take n ys ≡ take n xs = cc in
    let w : (fits o (Of x) ≡ true) × (pops (map (λ t. Of t) xs) dead ops ≡ Some gone) = when-some (fits o (Of x)) _ gone e in
    let r : (other : List Operand) × (pops (map (λ t. Of t) ys) dead ops ≡ Some other) = first-decide n xs ys dead ops gone b (omega (arith, l)) tail w.1 in
    (r.0, ap (λ (z : ValType). when (fits o (Of z)) (pops (map (λ t. Of t) ys) dead ops)) head ∙ ap (λ (b : Bool). when b (pops (map (λ t. Of t) ys) dead ops)) w.0 ∙ r.1)

-- the last n types of a list, where the operands past the first n decide nothing
hangs-on-last : (s : Stack) (own : List ValType) (n : ℕ) → Blank (drop n s.ops) → HangsOn s own n
hangs-on-last s own n b t e these l same =
    let with_ops : List Operand → Option Stack = λ ops. Some (record s { ops = ops }) in
    let mine : bind (pops (map (λ t. Of t) (reverse own)) s.dead s.ops) with_ops ≡ Some t = ap (λ (w : List Operand). popped w s) (sym (operands-reverse own)) ∙ e in
    let p : (gone : List Operand) × (pops (map (λ t. Of t) (reverse own)) s.dead s.ops ≡ Some gone) × (with_ops gone ≡ Some t) = bind-some _ _ t mine in
    let long : length (reverse these) ≡ length (reverse own) = length-reverse these ∙ l ∙ sym (length-reverse own) in
    let r : (other : List Operand) × (pops (map (λ t. Of t) (reverse these)) s.dead s.ops ≡ Some other) = first-decide n (reverse own) (reverse these) s.dead s.ops p.0 b long same p.1 in
    (record s { ops = r.0 }, ap (λ (w : List Operand). popped w s) (operands-reverse these) ∙ ap (λ o. bind o with_ops) r.1)

-- the whole list
pub hangs-on-all : (s : Stack) (own : List ValType) (n : ℕ) → length own ≤ n → HangsOn s own n
hangs-on-all s own n h t e these l same =
    let mine : take n (reverse own) ≡ reverse own = take_all n (reverse own) (omega (arith, h, length-reverse own)) in
    let others : take n (reverse these) ≡ reverse these = take_all n (reverse these) (omega (arith, h, l, length-reverse these)) in
    let both : operands these ≡ operands own = operands-reverse these ∙ ap (λ (ts : List ValType). map (λ t. Of t) ts) (sym others ∙ same ∙ mine) ∙ sym (operands-reverse own) in
    (t, ap (λ (w : List Operand). popped w s) both ∙ e)

-- ---- runs

drop-on : (i n : ℕ) (ops : List Operand) → drop (i + n) ops ≡ drop n (drop i ops)
drop-on zero n ops = let none : 0 + n ≡ n = omega arith in ap (λ k. drop k ops) none
drop-on (suc i) n [] = let more : suc i + n ≡ suc (i + n) = omega arith in ap (λ k. drop k []) more ∙ sym (drop_all n [] (omega arith))
drop-on (suc i) n (o ∷ ops) = let more : suc i + n ≡ suc (i + n) = omega arith in ap (λ k. drop k (o ∷ ops)) more ∙ drop-on i n ops

pub down-run : (types : List FuncType) (dead : Bool) (last run : Run) (old new : List Run) (count n : ℕ) (ops : List Operand) → old ≡ new ++ run ∷ [] → n ≡ length (run_of types last) → drop count ops ≡ (held types dead last (reverse old)).ops →
    drop (count + n) ops ≡ (held types dead run (reverse new)).ops
down-run types dead last run old new count n ops e l d =
    drop-on count n ops ∙ ap (λ (os : List Operand). drop n os) d ∙ drop_at (run_of types last) (runs_of types (reverse old)) n (sym l)
    ∙ ap (λ (rs : List Run). runs_of types rs) (ap (λ (rs : List Run). reverse rs) e ∙ reverse-append new (run ∷ []))

-- at the lowest run
pub hangs-on-lowest : (types : List FuncType) (s : Stack) (own : List ValType) (dead : Bool) (last : Run) (old : List Run) (count n fewer most : ℕ) → old ≡ [] → most ≡ length own → count ≤ length own → drop count s.ops ≡ (held types dead last (reverse old)).ops →
    Blank (drop n (run_of types last)) → fewer ≡ min n (most - count) → HangsOn s own (count + fewer)
hangs-on-lowest types s own dead last old count n fewer most none long within d b is = go (nat_le n (most - count)) refl
  where
    below : runs_of types (reverse old) ≡ []
    below = ap (λ (rs : List Run). runs_of types (reverse rs)) none

    here : drop (count + n) s.ops ≡ drop n (run_of types last)
    here = drop-on count n s.ops ∙ ap (λ (os : List Operand). drop n os) (d ∙ ap (λ (os : List Operand). run_of types last ++ os) below ∙ append-nil (run_of types last))

    go : (b : Bool) → nat_le n (most - count) ≡ b → HangsOn s own (count + fewer)
    go true t =
        let le : n ≤ most - count = leb-true n (most - count) t in
        let same : count + fewer ≡ count + n = omega (arith, le, is) in
        subst (HangsOn s own) (sym same) (hangs-on-last s own (count + n) (subst Blank (sym here) b))
    go false f =
        let lt : most - count < n = leb-false n (most - count) f in
        hangs-on-all s own (count + fewer) (omega (arith, lt, is, long, within))
