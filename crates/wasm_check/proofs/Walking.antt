-- The walk through numbered sequences writes what they make.
use Rattle.std.proofs.Common.{◌≡◌, ℕ, zero, suc, ◌+◌, List, [], ◌∷◌, ◌++◌, drop, reverse, refl, sym, ap, ◌∙◌, subst, arith}
use Rattle.std.specs.Prelude.{Some, None, slice_get}
use Rattle.wasm_ast.specs.declared.instructions.Instr.{Instr}
use Rattle.wasm_ast.specs.declared.instructions.Instr.TheVariants.{Block, Loop, If}
use Rattle.wasm_check.specs.declared.walk.Place.{Place}
use Rattle.wasm_check.specs.Trees.{Tree, Nothing, Plain, Blocks, Loops, Ifs, Token, Does, Else, Ends, by_emptiness, written, seq_of, Makes, IsPlain}
use Rattle.wasm_check.specs.declared.walk.Written.TheVariants.{Instruction, Other, End}
use Rattle.wasm_check.specs.code.Walk.{Closing, Left, NextIs, opened_by, token_of}
use Rattle.std.proofs.lemmas.List.{reverse-append}

drop-some : {A : Type 0} (xs : List A) (n : ℕ) (x : A) → slice_get xs n ≡ Some x → drop n xs ≡ x ∷ drop (n + 1) xs
drop-some [] n x e = cc
drop-some (y ∷ xs) zero x e = let same : y ≡ x = cc in ap (λ y. y ∷ xs) same
drop-some (y ∷ xs) (suc n) x e = drop-some xs n x e ∙ ap (λ k. x ∷ drop k (y ∷ xs)) (let k : suc (n + 1) ≡ suc n + 1 = omega arith in k)

drop-none : {A : Type 0} (xs : List A) (n : ℕ) → slice_get xs n ≡ None → drop n xs ≡ []
drop-none [] zero e = refl
drop-none [] (suc n) e = refl
drop-none (y ∷ xs) zero e = cc
drop-none (y ∷ xs) (suc n) e = drop-none xs n e

plain-token : (i : Instr) → IsPlain i → token_of i ≡ Does i
plain-token (Block t b) p = absurd p
plain-token (Loop t b) p = absurd p
plain-token (If t b o) p = absurd p
plain-token _ p = refl

plain-opens : (i : Instr) (ps : List Place) → IsPlain i → opened_by i ps ≡ ps
plain-opens (Block t b) ps p = absurd p
plain-opens (Loop t b) ps p = absurd p
plain-opens (If t b o) ps p = absurd p
plain-opens _ ps p = refl

abbrev After : List (List Instr) → Instr → List Token → List Place → Type 0
After seqs i ts ps = (rest : List Token) × (ts ≡ token_of i ∷ rest) × Left seqs (opened_by i ps) rest

made-instr : (seqs : List (List Instr)) (i : Instr) (q : Place) (ps : List Place) (end more : List Token) (c : Tree) → Makes seqs (i ∷ drop q.at (seq_of seqs q.seq)) c → Closing seqs q.other more end → Left seqs ps more →
    After seqs i (written c end) (q ∷ ps)
made-instr seqs i q ps end more Nothing m k l = cc
made-instr seqs i q ps end more (Plain j c) m k l =
    let same : j ≡ i = cc in
    let others : m.0 ≡ drop q.at (seq_of seqs q.seq) = cc in
    let plain : IsPlain i = subst IsPlain same m.2 in (
      written c end,
      ap (λ x. x ∷ written c end) (ap (λ j. Does j) same ∙ sym (plain-token i plain)),
      subst (λ l. Left seqs l (written c end)) (sym (plain-opens i (q ∷ ps) plain)) (c, end, more, subst (λ x. Makes seqs x c) others m.3, refl, k, l),
    )
made-instr seqs i q ps end more (Blocks t b c) m k l =
    let same : Block t m.0 ≡ i = cc in
    let others : m.1 ≡ drop q.at (seq_of seqs q.seq) = cc in
    subst (λ i. After seqs i (written (Blocks t b c) end) (q ∷ ps)) same
    (written b (Ends ∷ written c end), refl, (b, Ends ∷ written c end, written c end, m.3, refl, refl, (c, end, more, subst (λ x. Makes seqs x c) others m.4, refl, k, l)))
made-instr seqs i q ps end more (Loops t b c) m k l =
    let same : Loop t m.0 ≡ i = cc in
    let others : m.1 ≡ drop q.at (seq_of seqs q.seq) = cc in
    subst (λ i. After seqs i (written (Loops t b c) end) (q ∷ ps)) same
    (written b (Ends ∷ written c end), refl, (b, Ends ∷ written c end, written c end, m.3, refl, refl, (c, end, more, subst (λ x. Makes seqs x c) others m.4, refl, k, l)))
made-instr seqs i q ps end more (Ifs t b o c) m k l =
    let same : If t m.0 m.1 ≡ i = cc in
    let others : m.2 ≡ drop q.at (seq_of seqs q.seq) = cc in
    let between : List Token = by_emptiness o (Ends ∷ written c end) (Else ∷ written o (Ends ∷ written c end)) in
    subst (λ i. After seqs i (written (Ifs t b o c) end) (q ∷ ps)) same
    (written b between, refl, (b, between, written c end, m.4, refl, (o, m.5, refl), (c, end, more, subst (λ x. Makes seqs x c) others m.6, refl, k, l)))

pub walk-instr : (seqs : List (List Instr)) (p : Place) (ps : List Place) (ts : List Token) (i : Instr) → slice_get (seq_of seqs p.seq) p.at ≡ Some i → Left seqs (p ∷ ps) ts →
    After seqs i ts (record p { at = p.at + 1 } ∷ ps)
walk-instr seqs p ps ts i e l =
    subst (λ ts. After seqs i ts (record p { at = p.at + 1 } ∷ ps)) (sym l.4)
    (made-instr seqs i (record p { at = p.at + 1 }) ps l.1 l.2 l.0 (subst (λ x. Makes seqs x l.0) (drop-some (seq_of seqs p.seq) p.at i e) l.3) l.5 l.6)

made-nothing : (seqs : List (List Instr)) (is : List Instr) (c : Tree) (end : List Token) → is ≡ [] → Makes seqs is c → written c end ≡ end
made-nothing seqs is Nothing end e m = refl
made-nothing seqs is (Plain j c) end e m = cc
made-nothing seqs is (Blocks t b c) end e m = cc
made-nothing seqs is (Loops t b c) end e m = cc
made-nothing seqs is (Ifs t b o c) end e m = cc

made-empty : (seqs : List (List Instr)) (is : List Instr) (c : Tree) (xs ys : List Token) → is ≡ [] → Makes seqs is c → by_emptiness c xs ys ≡ xs
made-empty seqs is Nothing xs ys e m = refl
made-empty seqs is (Plain j c) xs ys e m = cc
made-empty seqs is (Blocks t b c) xs ys e m = cc
made-empty seqs is (Loops t b c) xs ys e m = cc
made-empty seqs is (Ifs t b o c) xs ys e m = cc

made-full : (seqs : List (List Instr)) (is : List Instr) (c : Tree) (xs ys : List Token) → (is ≡ [] → ⊥) → Makes seqs is c → by_emptiness c xs ys ≡ ys
made-full seqs is Nothing xs ys e m = absurd (e m)
made-full seqs is (Plain j c) xs ys e m = refl
made-full seqs is (Blocks t b c) xs ys e m = refl
made-full seqs is (Loops t b c) xs ys e m = refl
made-full seqs is (Ifs t b o c) xs ys e m = refl

pub walk-end : (seqs : List (List Instr)) (p : Place) (ps : List Place) (ts : List Token) → slice_get (seq_of seqs p.seq) p.at ≡ None → p.other ≡ None → Left seqs (p ∷ ps) ts →
    (rest : List Token) × (ts ≡ Ends ∷ rest) × Left seqs ps rest
walk-end seqs p ps ts e n l =
    let closing : l.1 ≡ Ends ∷ l.2 = subst (λ o. Closing seqs o l.2 l.1) n l.5 in
    (l.2, l.4 ∙ made-nothing seqs _ l.0 l.1 (drop-none (seq_of seqs p.seq) p.at e) l.3 ∙ closing, l.6)

pub walk-empty : (seqs : List (List Instr)) (p : Place) (ps : List Place) (ts : List Token) (u : ℕ) → slice_get (seq_of seqs p.seq) p.at ≡ None → p.other ≡ Some u → seq_of seqs u ≡ [] → Left seqs (p ∷ ps) ts →
    (rest : List Token) × (ts ≡ Ends ∷ rest) × Left seqs ps rest
walk-empty seqs p ps ts u e n k l =
    let closing : Closing seqs (Some u) l.2 l.1 = subst (λ o. Closing seqs o l.2 l.1) n l.5 in
    (l.2, l.4 ∙ made-nothing seqs _ l.0 l.1 (drop-none (seq_of seqs p.seq) p.at e) l.3 ∙ closing.2 ∙ made-empty seqs (seq_of seqs u) closing.0 _ _ k closing.1, l.6)

pub walk-else : (seqs : List (List Instr)) (p : Place) (ps : List Place) (ts : List Token) (u : ℕ) → slice_get (seq_of seqs p.seq) p.at ≡ None → p.other ≡ Some u → (seq_of seqs u ≡ [] → ⊥) → Left seqs (p ∷ ps) ts →
    (rest : List Token) × (ts ≡ Else ∷ rest) × Left seqs (record { seq = u; at = 0; other = None } ∷ ps) rest
walk-else seqs p ps ts u e n k l =
    let closing : Closing seqs (Some u) l.2 l.1 = subst (λ o. Closing seqs o l.2 l.1) n l.5 in (
      written closing.0 (Ends ∷ l.2),
      l.4 ∙ made-nothing seqs _ l.0 l.1 (drop-none (seq_of seqs p.seq) p.at e) l.3 ∙ closing.2 ∙ made-full seqs (seq_of seqs u) closing.0 _ _ k closing.1,
      (closing.0, Ends ∷ l.2, l.2, closing.1, refl, refl, l.6),
    )

-- the same of lists with the innermost place last

last-first : (old gone : List Place) (p : Place) → old ≡ gone ++ p ∷ [] → reverse old ≡ p ∷ reverse gone
last-first old gone p e = ap (λ l. reverse l) e ∙ reverse-append gone (p ∷ [])

abbrev pub Next : List (List Instr) → Rattle.wasm_check.specs.declared.walk.Written.Written → List Place → List Place → Type 0
Next seqs w old new = (ts : List Token) → Left seqs (reverse old) ts → NextIs seqs w ts (reverse new)

pub next-instr : (seqs : List (List Instr)) (old gone pushed new : List Place) (p : Place) (i : Instr) → old ≡ gone ++ p ∷ [] → slice_get (seq_of seqs p.seq) p.at ≡ Some i → pushed ≡ gone ++ record p { at = p.at + 1 } ∷ [] →
    reverse new ≡ opened_by i (reverse pushed) → Next seqs (Instruction p.seq p.at) old new
next-instr seqs old gone pushed new p i e g k n ts l =
    let a : After seqs i ts (record p { at = p.at + 1 } ∷ reverse gone) = walk-instr seqs p (reverse gone) ts i g (subst (λ ps. Left seqs ps ts) (last-first old gone p e) l) in
    let same : opened_by i (record p { at = p.at + 1 } ∷ reverse gone) ≡ reverse new = ap (λ ps. opened_by i ps) (sym (last-first pushed gone (record p { at = p.at + 1 }) k)) ∙ sym n in
    (i, a.0, g, a.1, subst (λ ps. Left seqs ps a.0) same a.2)

pub next-end : (seqs : List (List Instr)) (old gone : List Place) (p : Place) → old ≡ gone ++ p ∷ [] → slice_get (seq_of seqs p.seq) p.at ≡ None → p.other ≡ None → Next seqs End old gone
next-end seqs old gone p e g n ts l = walk-end seqs p (reverse gone) ts g n (subst (λ ps. Left seqs ps ts) (last-first old gone p e) l)

none-empty : {A : Type 0} (xs : List A) → slice_get xs 0 ≡ None → xs ≡ []
none-empty [] e = refl
none-empty (x ∷ xs) e = cc

some-full : {A : Type 0} (xs : List A) (x : A) → slice_get xs 0 ≡ Some x → xs ≡ [] → ⊥
some-full [] x e k = cc
some-full (y ∷ xs) x e k = cc

pub next-empty : (seqs : List (List Instr)) (old gone : List Place) (p : Place) (u : ℕ) → old ≡ gone ++ p ∷ [] → slice_get (seq_of seqs p.seq) p.at ≡ None → p.other ≡ Some u → slice_get (seq_of seqs u) 0 ≡ None → Next seqs End old gone
next-empty seqs old gone p u e g n k ts l = walk-empty seqs p (reverse gone) ts u g n (none-empty (seq_of seqs u) k) (subst (λ ps. Left seqs ps ts) (last-first old gone p e) l)

pub next-else : (seqs : List (List Instr)) (old gone new : List Place) (p : Place) (u : ℕ) (x : Instr) → old ≡ gone ++ p ∷ [] → slice_get (seq_of seqs p.seq) p.at ≡ None → p.other ≡ Some u → slice_get (seq_of seqs u) 0 ≡ Some x →
    new ≡ gone ++ record { seq = u; at = 0; other = None } ∷ [] → Next seqs Other old new
next-else seqs old gone new p u x e g n k m ts l =
    let r : (rest : List Token) × (ts ≡ Else ∷ rest) × Left seqs (record { seq = u; at = 0; other = None } ∷ reverse gone) rest =
    walk-else seqs p (reverse gone) ts u g n (some-full (seq_of seqs u) x k) (subst (λ ps. Left seqs ps ts) (last-first old gone p e) l) in
    (r.0, r.1, subst (λ ps. Left seqs ps r.0) (sym (last-first new gone (record { seq = u; at = 0; other = None }) m)) r.2)
