-- The first fault: a body that is passed up to some place can be finished, and a valid one is passed.
use Rattle.std.proofs.Common.{◌≡◌, ℕ, zero, suc, ◌+◌, ◌<◌, List, [], ◌∷◌, ◌++◌, length, take, drop, refl, sym, ap, ◌∙◌, subst, arith, ◌⊎◌, inl, inr, add-one}
use Rattle.std.specs.Prelude.{true, false, Option, Some, None}
use Rattle.std.proofs.lemmas.List.{append-nil, take-append-drop}
use Rattle.wasm_ast.specs.declared.types.ValType.{ValType}
use Rattle.wasm_ast.specs.declared.types.ValType.TheVariants.{I32}
use Rattle.wasm_ast.specs.declared.types.BlockType.{BlockType}
use Rattle.wasm_ast.specs.declared.instructions.Instr.TheVariants.{Unreachable}
use Rattle.wasm_check.specs.Contexts.{Context, block_type}
use Rattle.wasm_ast.specs.declared.types.FuncType.{FuncType}
use Rattle.wasm_check.specs.Trees.{Tree, Nothing, Plain, Blocks, Loops, Ifs, Token, Does, Opens_block, Opens_loop, Opens_if, Else, Ends, by_emptiness, written, body_tokens}
use Rattle.wasm_check.specs.declared.operands.Operand.{Operand}
use Rattle.wasm_check.specs.declared.operands.Operand.TheVariants.{Of}
use Rattle.wasm_check.specs.Operands.{AllMatch, operands, Takes}
use Rattle.wasm_check.specs.Instructions.{Labels, IsTyped, IsValidBody}
use Rattle.wasm_check.specs.Faults.{CanBegin, IsFirstFault}
use Rattle.wasm_check.specs.code.Checker.{Stack, bind, onto, popped, acts, Open, labels_of, opened, second, reads, run, start_of, fault, fault_after, later}
use Rattle.wasm_check.proofs.Stacks.{bind-some, Covers, Covered, Fits, Matches-self, popped-sound, Covers-append}
use Rattle.wasm_check.proofs.Rules.{Covers-self, Takes-self, Sound, acts-sound}
use Rattle.wasm_check.proofs.Bodies.{emptiness, Reaches, finished-complete, at_stack, after_end, complete, Passes, plain-passes, inner-typed, around-passes, Opened, OpenedAs, block-some, ends-some, ends_first-some, turns-some, nothing-typed, sound, Covers-live, AllMatch-self}

written-append : (c : Tree) (xs ys : List Token) → written c xs ++ ys ≡ written c (xs ++ ys)
written-append Nothing xs ys = refl
written-append (Plain i c) xs ys = ap (λ l. Does i ∷ l) (written-append c xs ys)
written-append (Blocks t b c) xs ys =
    ap (λ l. Opens_block t ∷ l) (written-append b (Ends ∷ written c xs) ys ∙ ap (λ l. written b (Ends ∷ l)) (written-append c xs ys))
written-append (Loops t b c) xs ys =
    ap (λ l. Opens_loop t ∷ l) (written-append b (Ends ∷ written c xs) ys ∙ ap (λ l. written b (Ends ∷ l)) (written-append c xs ys))
written-append (Ifs t b o c) xs ys =
    ap (λ l. Opens_if t ∷ l) (written-append b _ ys ∙ ap (λ l. written b l) (inside o (written-append o (Ends ∷ written c xs) ys) (written-append c xs ys)))
  where
    inside : (o : Tree) → written o (Ends ∷ written c xs) ++ ys ≡ written o ((Ends ∷ written c xs) ++ ys) → written c xs ++ ys ≡ written c (xs ++ ys) →
        by_emptiness o (Ends ∷ written c xs) (Else ∷ written o (Ends ∷ written c xs)) ++ ys ≡ by_emptiness o (Ends ∷ written c (xs ++ ys)) (Else ∷ written o (Ends ∷ written c (xs ++ ys)))
    inside Nothing p q = ap (λ l. Ends ∷ l) q
    inside (Plain i d) p q = ap (λ l. Else ∷ l) (p ∙ ap (λ l. written (Plain i d) (Ends ∷ l)) q)
    inside (Blocks t d e) p q = ap (λ l. Else ∷ l) (p ∙ ap (λ l. written (Blocks t d e) (Ends ∷ l)) q)
    inside (Loops t d e) p q = ap (λ l. Else ∷ l) (p ∙ ap (λ l. written (Loops t d e) (Ends ∷ l)) q)
    inside (Ifs t d e g) p q = ap (λ l. Else ∷ l) (p ∙ ap (λ l. written (Ifs t d e g) (Ends ∷ l)) q)

-- what finishes any sequence
abbrev stop : Tree
stop = Plain Unreachable Nothing

stop-typed : (C : Context) (ls : Labels) (ts us : List Operand) → IsTyped C ls stop ts us
stop-typed C ls ts us = (ts, us, [], tt, Takes-self ts, subst (λ l. AllMatch l us) (sym (append-nil us)) (AllMatch-self us))

-- a sequence that is written as xs and more
record Finishes (xs : List Token) (d : Tree) : Type 0 where
  pub begins : (more : List Token) → (left : List Token) × (written d more ≡ xs ++ left)
  pub written_out : (ys zs : List Token) → by_emptiness d ys zs ≡ zs

-- the instructions xs can be finished, whatever is to be left
abbrev Inside : Context → Labels → Stack → List Token → Type 0
Inside C ls s xs = (us : List Operand) → (d : Tree) × (ts : List Operand) × Covered s ts × IsTyped C ls d ts us × Finishes xs d

-- all of the sequence c is passed, and at least one instruction after it is read
abbrev Beyond : Context → Tree → ℕ → Open → List Open → List Token → List Open → Type 0
Beyond C c n o os rest end =
    (m : ℕ) × (s : Stack) × (run C (take (suc m) rest) (at_stack o s ∷ os) ≡ Some end) × (take n (written c rest) ≡ written c (take (suc m) rest)) × Passes C (o.label ∷ labels_of os) c o.stack s

inside-inner : (C : Context) (o : Open) (os : List Open) (t : FuncType) (label : List ValType) (wanted : List Operand) (xs : List Token) (open_token : Token) (make : Tree → Tree) (v : Stack) →
    popped wanted o.stack ≡ Some v →
    ((b : Tree) (ts rest us : List Operand) → IsTyped C (label ∷ o.label ∷ labels_of os) b (operands t.params) (operands t.results) → Takes ts wanted rest → IsTyped C (o.label ∷ labels_of os) (make b) ts us) →
    ((b : Tree) → ((ys zs : List Token) → by_emptiness b ys zs ≡ zs) → (more : List Token) → (then_more : List Token) × (written (make b) more ≡ open_token ∷ written b then_more)) →
    ((b : Tree) (ys zs : List Token) → by_emptiness (make b) ys zs ≡ zs) →
    Inside C (label ∷ o.label ∷ labels_of os) (record { dead = false; ops = operands t.params }) xs →
    Inside C (o.label ∷ labels_of os) o.stack (open_token ∷ xs)
inside-inner C o os t label wanted xs open_token make v e types writes full h us =
    let k : (d : Tree) × (ts : List Operand) × Covers false (operands t.params) ts × IsTyped C (label ∷ o.label ∷ labels_of os) d ts (operands t.results) × Finishes xs d = h (operands t.results) in
    let p : (ts : List Operand) × Covered o.stack ts × Takes ts wanted v.ops = popped-sound wanted o.stack v v.ops e (Covers-self v.dead v.ops) in
    let typed : IsTyped C (label ∷ o.label ∷ labels_of os) k.0 (operands t.params) (operands t.results) =
    subst (λ ts. IsTyped C (label ∷ o.label ∷ labels_of os) k.0 ts (operands t.results)) (Covers-live (operands t.params) k.1 k.2) k.3 in (
      make k.0,
      p.0,
      p.1,
      types k.0 p.0 v.ops us typed p.2,
      record {
        begins = λ more.
            let w : (then_more : List Token) × (written (make k.0) more ≡ open_token ∷ written k.0 then_more) = writes k.0 k.4.written_out more in
            let b : (left : List Token) × (written k.0 w.0 ≡ xs ++ left) = k.4.begins w.0 in
            (b.0, w.1 ∙ ap (λ l. open_token ∷ l) b.1);
        written_out = full k.0;
      },
    )

nothing-read : (C : Context) (ls : Labels) (s : Stack) → Inside C ls s []
nothing-read C ls s us = (stop, s.ops, Covers-self s.dead s.ops, stop-typed C ls s.ops us, record { begins = λ more. (written stop more, refl); written_out = λ ys zs. refl })

-- the sequence inside is passed, and the one around it is finished
inside-after : (C : Context) (o : Open) (os : List Open) (t : FuncType) (wanted : List Operand) (xs : List Token) (before : List Token → List Token) (make : Tree → Tree) (v : Stack) →
    popped wanted o.stack ≡ Some v →
    ((d : Tree) (ts rest us : List Operand) → Takes ts wanted rest → IsTyped C (o.label ∷ labels_of os) d (operands t.results ++ rest) us → IsTyped C (o.label ∷ labels_of os) (make d) ts us) →
    ((d : Tree) (more : List Token) → written (make d) more ≡ before (written d more)) → ((ys zs : List Token) → before (ys ++ zs) ≡ before ys ++ zs) →
    ((d : Tree) (ys zs : List Token) → by_emptiness (make d) ys zs ≡ zs) →
    Inside C (o.label ∷ labels_of os) (onto (operands t.results) v) xs → Inside C (o.label ∷ labels_of os) o.stack (before xs)
inside-after C o os t wanted xs before make v e types writes appends full h us =
    let k : (d : Tree) × (ts : List Operand) × Covers v.dead (operands t.results ++ v.ops) ts × IsTyped C (o.label ∷ labels_of os) d ts us × Finishes xs d = h us in
    let a : (rest : List Operand) × (k.1 ≡ operands t.results ++ rest) × Covered v rest = Covers-append (operands t.results) v.dead v.ops k.1 k.2 in
    let p : (ts : List Operand) × Covered o.stack ts × Takes ts wanted a.0 = popped-sound wanted o.stack v a.0 e a.2 in (
      make k.0,
      p.0,
      p.1,
      types k.0 p.0 a.0 us p.2 (subst (λ l. IsTyped C (o.label ∷ labels_of os) k.0 l us) a.1 k.3),
      record {
        begins = λ more.
            let b : (left : List Token) × (written k.0 more ≡ xs ++ left) = k.4.begins more in
            (b.0, writes k.0 more ∙ ap before b.1 ∙ appends xs b.0);
        written_out = full k.0;
      },
    )

-- finished in the second part of an if, whose first part is b
inside-second : (C : Context) (o : Open) (os : List Open) (bt : BlockType) (t : FuncType) (b : Tree) (wanted : List Operand) (xs : List Token) (v : Stack) → block_type C bt ≡ Some t → popped wanted o.stack ≡ Some v →
    IsTyped C (t.results ∷ o.label ∷ labels_of os) b (operands t.params) (operands t.results) → wanted ≡ Of I32 ∷ operands t.params →
    Inside C (t.results ∷ o.label ∷ labels_of os) (record { dead = false; ops = operands t.params }) xs →
    Inside C (o.label ∷ labels_of os) o.stack (Opens_if bt ∷ written b (Else ∷ xs))
inside-second C o os bt t b wanted xs v is e yb w h us =
    let ls : Labels = o.label ∷ labels_of os in
    let k : (d : Tree) × (ts : List Operand) × Covers false (operands t.params) ts × IsTyped C (t.results ∷ ls) d ts (operands t.results) × Finishes xs d = h (operands t.results) in
    let p : (ts : List Operand) × Covered o.stack ts × Takes ts wanted v.ops = popped-sound wanted o.stack v v.ops e (Covers-self v.dead v.ops) in
    let yo : IsTyped C (t.results ∷ ls) k.0 (operands t.params) (operands t.results) = subst (λ ts. IsTyped C (t.results ∷ ls) k.0 ts (operands t.results)) (Covers-live (operands t.params) k.1 k.2) k.3 in (
      Ifs bt b k.0 stop,
      p.0,
      p.1,
      (t, v.ops, is, yb, yo, subst (λ w. Takes p.0 w v.ops) w p.2, stop-typed C ls (operands t.results ++ v.ops) us),
      record {
        begins = λ more.
            let g : (left : List Token) × (written k.0 (Ends ∷ written stop more) ≡ xs ++ left) = k.4.begins (Ends ∷ written stop more) in
            (g.0, ap (λ l. Opens_if bt ∷ l) (ap (λ l. written b l) (k.4.written_out (Ends ∷ written stop more) (Else ∷ written k.0 (Ends ∷ written stop more)) ∙ ap (λ l. Else ∷ l) g.1) ∙ sym (written-append b (Else ∷ xs) g.0)));
        written_out = λ ys zs. refl;
      },
    )

-- the control instruction is passed, and what follows it is finished or passed
goes-past : (C : Context) (c : Tree) (n m : ℕ) (o : Open) (os : List Open) (rest : List Token) (end : List Open) (t : FuncType) (wanted : List Operand) (before : List Token → List Token) (make : Tree → Tree) (v : Stack) →
    popped wanted o.stack ≡ Some v →
    ((d : Tree) (ts rest us : List Operand) → Takes ts wanted rest → IsTyped C (o.label ∷ labels_of os) d (operands t.results ++ rest) us → IsTyped C (o.label ∷ labels_of os) (make d) ts us) →
    ((d : Tree) (more : List Token) → written (make d) more ≡ before (written d more)) → ((ys zs : List Token) → before (ys ++ zs) ≡ before ys ++ zs) →
    ((d : Tree) (ys zs : List Token) → by_emptiness (make d) ys zs ≡ zs) →
    take n (written (make c) rest) ≡ before (take m (written c rest)) →
    Inside C (o.label ∷ labels_of os) (onto (operands t.results) v) (take m (written c rest)) ⊎ Beyond C c m (after_end o t v) os rest end →
    Inside C (o.label ∷ labels_of os) o.stack (take n (written (make c) rest)) ⊎ Beyond C (make c) n o os rest end
goes-past C c n m o os rest end t wanted before make v e types writes appends full is h = elim h [
  | inl h ↦ inl (subst (λ l. Inside C (o.label ∷ labels_of os) o.stack l) (sym is) (inside-after C o os t wanted (take m (written c rest)) before make v e types writes appends full h))
  | inr h ↦ inr (
    h.0,
    h.1,
    h.2,
    is ∙ ap before h.3 ∙ sym (writes c (take (suc h.0) rest)),
    λ us q.
        let a : (left ts : List Operand) × Covered o.stack ts × Takes ts wanted left × IsTyped C (o.label ∷ labels_of os) c (operands t.results ++ left) us = around-passes C (o.label ∷ labels_of os) c wanted t.results o.stack v h.1 e h.4 us q in
        (a.1, a.2, types c a.1 a.0 us a.3 a.4),
  )
]

stops : (C : Context) (c : Tree) (n : ℕ) (o : Open) (os : List Open) (rest : List Token) (end : List Open) → run C (take n (written c rest)) (o ∷ os) ≡ Some end →
    Inside C (o.label ∷ labels_of os) o.stack (take n (written c rest)) ⊎ Beyond C c n o os rest end
stops C c zero o os rest end e = inl (nothing-read C (o.label ∷ labels_of os) o.stack)
stops C Nothing (suc n) o os rest end e = inr (n, o.stack, e, refl, λ us r. r)
stops C (Plain i c) (suc n) o os rest end e =
    let ls : Labels = o.label ∷ labels_of os in
    let x : (next : List Open) × (bind (acts C ls i o.stack) (λ s. Some (at_stack o s ∷ os)) ≡ Some next) × (run C (take n (written c rest)) next ≡ Some end) = bind-some _ _ end e in
    let b : (v : Stack) × (acts C ls i o.stack ≡ Some v) × (Some (at_stack o v ∷ os) ≡ Some x.0) = bind-some _ _ x.0 x.1 in
    let same : x.0 ≡ at_stack o b.0 ∷ os = cc in
    elim (stops C c n (at_stack o b.0) os rest end (subst (λ l. run C (take n (written c rest)) l ≡ Some end) same x.2)) [
      | inl h ↦ inl (λ us.
          let k : (d : Tree) × (ts : List Operand) × Covered b.0 ts × IsTyped C ls d ts us × Finishes (take n (written c rest)) d = h us in
          let a : Sound C ls i o.stack k.1 = acts-sound C ls i o.stack b.0 k.1 b.1 k.2 in (
            Plain i k.0,
            a.3,
            a.7,
            (a.0, a.1, a.2, a.4, a.5, subst (λ l. IsTyped C ls k.0 l us) a.6 k.3),
            record {
              begins = λ more. let g : (left : List Token) × (written k.0 more ≡ take n (written c rest) ++ left) = k.4.begins more in (g.0, ap (λ l. Does i ∷ l) g.1);
              written_out = λ ys zs. refl;
            },
          ))
      | inr h ↦ inr (h.0, h.1, h.2, ap (λ l. Does i ∷ l) h.3, plain-passes C ls i c o.stack b.0 h.1 b.1 h.4)
    ]
stops C (Blocks bt b c) (suc n) o os rest end e =
    let ls : Labels = o.label ∷ labels_of os in
    let x : OpenedAs C bt (λ t. operands t.params) (λ t. opened t.results t false) o os (take n (written b (Ends ∷ written c rest))) end = block-some C bt (λ (t : FuncType). operands t.params) (λ (t : FuncType). opened t.results t false) o os (take n (written b (Ends ∷ written c rest))) end e in
    let t : FuncType = x.0 in
    let new : Open = opened t.results t false in
    let v : Opened C (operands t.params) new o os (take n (written b (Ends ∷ written c rest))) end = x.2 in
    elim (stops C b n new (at_stack o v.0 ∷ os) (Ends ∷ written c rest) end v.2) [
      | inl h ↦ inl (inside-inner C o os t t.results (operands t.params) _ (Opens_block bt) (λ d. Blocks bt d stop) v.0 v.1
          (λ d ts left us y k. (t, left, x.1, y, k, stop-typed C ls (operands t.results ++ left) us)) (λ d w more. (Ends ∷ written stop more, refl)) (λ d ys zs. refl) h)
      | inr i ↦
          let d : Reaches i.1 (operands t.results) × (run C (take i.0 (written c rest)) (after_end o t v.0 ∷ os) ≡ Some end) = ends-some C (at_stack new i.1) (at_stack o v.0 ∷ os) _ end refl i.2 in
          let y : IsTyped C (t.results ∷ ls) b (operands t.params) (operands t.results) = inner-typed C (t.results ∷ ls) b t.params t.results i.1 d.0 i.4 in
          goes-past C c (suc n) i.0 o os rest end t (operands t.params) (λ l. Opens_block bt ∷ written b (Ends ∷ l)) (λ d. Blocks bt b d) v.0 v.1
          (λ d ts left us k z. (t, left, x.1, y, k, z)) (λ d more. refl) (λ ys zs. ap (λ l. Opens_block bt ∷ l) (sym (written-append b (Ends ∷ ys) zs))) (λ d ys zs. refl)
          (ap (λ l. Opens_block bt ∷ l) i.3) (stops C c i.0 (after_end o t v.0) os rest end d.1)
    ]
stops C (Loops bt b c) (suc n) o os rest end e =
    let ls : Labels = o.label ∷ labels_of os in
    let x : OpenedAs C bt (λ t. operands t.params) (λ t. opened t.params t false) o os (take n (written b (Ends ∷ written c rest))) end = block-some C bt (λ (t : FuncType). operands t.params) (λ (t : FuncType). opened t.params t false) o os (take n (written b (Ends ∷ written c rest))) end e in
    let t : FuncType = x.0 in
    let new : Open = opened t.params t false in
    let v : Opened C (operands t.params) new o os (take n (written b (Ends ∷ written c rest))) end = x.2 in
    elim (stops C b n new (at_stack o v.0 ∷ os) (Ends ∷ written c rest) end v.2) [
      | inl h ↦ inl (inside-inner C o os t t.params (operands t.params) _ (Opens_loop bt) (λ d. Loops bt d stop) v.0 v.1
          (λ d ts left us y k. (t, left, x.1, y, k, stop-typed C ls (operands t.results ++ left) us)) (λ d w more. (Ends ∷ written stop more, refl)) (λ d ys zs. refl) h)
      | inr i ↦
          let d : Reaches i.1 (operands t.results) × (run C (take i.0 (written c rest)) (after_end o t v.0 ∷ os) ≡ Some end) = ends-some C (at_stack new i.1) (at_stack o v.0 ∷ os) _ end refl i.2 in
          let y : IsTyped C (t.params ∷ ls) b (operands t.params) (operands t.results) = inner-typed C (t.params ∷ ls) b t.params t.results i.1 d.0 i.4 in
          goes-past C c (suc n) i.0 o os rest end t (operands t.params) (λ l. Opens_loop bt ∷ written b (Ends ∷ l)) (λ d. Loops bt b d) v.0 v.1
          (λ d ts left us k z. (t, left, x.1, y, k, z)) (λ d more. refl) (λ ys zs. ap (λ l. Opens_loop bt ∷ l) (sym (written-append b (Ends ∷ ys) zs))) (λ d ys zs. refl)
          (ap (λ l. Opens_loop bt ∷ l) i.3) (stops C c i.0 (after_end o t v.0) os rest end d.1)
    ]
stops C (Ifs bt b other c) (suc n) o os rest end e =
    let ls : Labels = o.label ∷ labels_of os in
    let all : List Token = written b (by_emptiness other (Ends ∷ written c rest) (Else ∷ written other (Ends ∷ written c rest))) in
    let x : OpenedAs C bt (λ t. Of I32 ∷ operands t.params) (λ t. opened t.results t true) o os (take n all) end = block-some C bt (λ (t : FuncType). Of I32 ∷ operands t.params) (λ (t : FuncType). opened t.results t true) o os (take n all) end e in
    let t : FuncType = x.0 in
    let new : Open = opened t.results t true in
    let els : Open = second new in
    let wanted : List Operand = Of I32 ∷ operands t.params in
    let after : List Token = written c rest in
    let between : List Token = by_emptiness other (Ends ∷ after) (Else ∷ written other (Ends ∷ after)) in
    let v : Opened C wanted new o os (take n (written b between)) end = x.2 in
    let p : Open = at_stack o v.0 in
    elim (stops C b n new (p ∷ os) between end v.2) [
      | inl h ↦ inl (inside-inner C o os t t.results wanted _ (Opens_if bt) (λ d. Ifs bt d stop stop) v.0 v.1
          (λ d ts left us y k. (t, left, x.1, y, stop-typed C (t.results ∷ ls) (operands t.params) (operands t.results), k, stop-typed C ls (operands t.results ++ left) us))
          (λ d w more. (Else ∷ written stop (Ends ∷ written stop more), refl)) (λ d ys zs. refl) h)
      | inr i ↦
          let yb : Reaches i.1 (operands t.results) → IsTyped C (t.results ∷ ls) b (operands t.params) (operands t.results) = λ r. inner-typed C (t.results ∷ ls) b t.params t.results i.1 r i.4 in
          elim (emptiness other) [
            | inl k ↦
                let is : between ≡ Ends ∷ after = ap (λ d. by_emptiness d (Ends ∷ after) (Else ∷ written other (Ends ∷ after))) k in
                let d : Reaches i.1 (operands t.results) × Reaches els.stack (operands t.results) × (run C (take i.0 after) (after_end o t v.0 ∷ os) ≡ Some end) =
                ends_first-some C (at_stack new i.1) (p ∷ os) (take i.0 after) end refl (ap (λ l. run C (take (suc i.0) l) (at_stack new i.1 ∷ p ∷ os)) (sym is) ∙ i.2) in
                let yo : IsTyped C (t.results ∷ ls) other (operands t.params) (operands t.results) = subst (λ d. IsTyped C (t.results ∷ ls) d (operands t.params) (operands t.results)) (sym k) (nothing-typed C (t.results ∷ ls) t.params t.results d.1) in
                goes-past C c (suc n) i.0 o os rest end t wanted (λ l. Opens_if bt ∷ written b (Ends ∷ l)) (λ d. Ifs bt b other d) v.0 v.1
                (λ d' ts left us q z. (t, left, x.1, yb d.0, yo, q, z))
                (λ d more. ap (λ e. Opens_if bt ∷ written b (by_emptiness e (Ends ∷ written d more) (Else ∷ written other (Ends ∷ written d more)))) k)
                (λ ys zs. ap (λ l. Opens_if bt ∷ l) (sym (written-append b (Ends ∷ ys) zs))) (λ d ys zs. refl)
                (ap (λ l. Opens_if bt ∷ l) (i.3 ∙ ap (λ l. written b (take (suc i.0) l)) is)) (stops C c i.0 (after_end o t v.0) os rest end d.2)
            | inr k ↦
                let is : between ≡ Else ∷ written other (Ends ∷ after) = k (Ends ∷ after) (Else ∷ written other (Ends ∷ after)) in
                let d : Reaches i.1 (operands t.results) × (run C (take i.0 (written other (Ends ∷ after))) (els ∷ p ∷ os) ≡ Some end) =
                turns-some C (at_stack new i.1) (p ∷ os) (take i.0 (written other (Ends ∷ after))) end (ap (λ l. run C (take (suc i.0) l) (at_stack new i.1 ∷ p ∷ os)) (sym is) ∙ i.2) in
                let here : take (suc n) (written (Ifs bt b other c) rest) ≡ Opens_if bt ∷ written b (Else ∷ take i.0 (written other (Ends ∷ after))) = ap (λ l. Opens_if bt ∷ l) (i.3 ∙ ap (λ l. written b (take (suc i.0) l)) is) in
                elim (stops C other i.0 els (p ∷ os) (Ends ∷ after) end d.1) [
                  | inl h ↦ inl (subst (λ l. Inside C ls o.stack l) (sym here) (inside-second C o os bt t b wanted _ v.0 x.1 v.1 (yb d.0) refl h))
                  | inr j ↦
                      let z : Reaches j.1 (operands t.results) × (run C (take j.0 after) (after_end o t v.0 ∷ os) ≡ Some end) = ends-some C (at_stack els j.1) (p ∷ os) (take j.0 after) end refl j.2 in
                      let yo : IsTyped C (t.results ∷ ls) other (operands t.params) (operands t.results) = inner-typed C (t.results ∷ ls) other t.params t.results j.1 z.0 j.4 in
                      goes-past C c (suc n) j.0 o os rest end t wanted (λ l. Opens_if bt ∷ written b (Else ∷ written other (Ends ∷ l))) (λ d. Ifs bt b other d) v.0 v.1
                      (λ d' ts left us q z. (t, left, x.1, yb d.0, yo, q, z))
                      (λ d more. ap (λ l. Opens_if bt ∷ written b l) (k (Ends ∷ written d more) (Else ∷ written other (Ends ∷ written d more))))
                      (λ ys zs. ap (λ l. Opens_if bt ∷ l) (ap (λ l. written b (Else ∷ l)) (sym (written-append other (Ends ∷ ys) zs)) ∙ sym (written-append b (Else ∷ written other (Ends ∷ ys)) zs))) (λ d ys zs. refl)
                      (here ∙ ap (λ l. Opens_if bt ∷ written b (Else ∷ l)) j.3) (stops C c j.0 (after_end o t v.0) os rest end z.1)
                ]
          ]
    ]

-- a body that is passed up to some place can be finished
pub can-begin : (C : Context) (c : Tree) (n : ℕ) (end : List Open) → run C (take n (body_tokens c)) (start_of C) ≡ Some end → CanBegin C (take n (body_tokens c))
can-begin C c n end e =
    let o : Open = record { label = C.results; params = []; results = C.results; first = false; stack = record { dead = false; ops = [] } } in
    elim (stops C c n o [] (Ends ∷ []) end e) [
      | inl h ↦
          let k : (d : Tree) × (ts : List Operand) × Covers false [] ts × IsTyped C (C.results ∷ []) d ts (operands C.results) × Finishes (take n (body_tokens c)) d = h (operands C.results) in
          let g : (left : List Token) × (body_tokens k.0 ≡ take n (body_tokens c) ++ left) = k.4.begins (Ends ∷ []) in
          (k.0, g.0, subst (λ ts. IsTyped C (C.results ∷ []) k.0 ts (operands C.results)) (Covers-live [] k.1 k.2) k.3, g.1)
      | inr h ↦
          let d : Reaches h.1 (operands C.results) × (run C (take h.0 []) [] ≡ Some end) = ends-some C (at_stack o h.1) [] (take h.0 []) end refl h.2 in
          let k : (ts : List Operand) × Covers false [] ts × IsTyped C (C.results ∷ []) c ts (operands C.results) = h.4 (operands C.results) d.0 in
          (c, drop n (body_tokens c), subst (λ ts. IsTyped C (C.results ∷ []) c ts (operands C.results)) (Covers-live [] k.0 k.1) k.2, sym (take-append-drop n (body_tokens c)))
    ]

pub valid-runs : (C : Context) (c : Tree) → IsValidBody C c → run C (body_tokens c) (start_of C) ≡ Some []
valid-runs C c y =
    let o : Open = record { label = C.results; params = []; results = C.results; first = false; stack = record { dead = false; ops = [] } } in
    let r : (s : Stack) × (run C (body_tokens c) (o ∷ []) ≡ run C (Ends ∷ []) (at_stack o s ∷ [])) × Fits s (operands C.results) = complete C c o [] (Ends ∷ []) [] (operands C.results) y refl in
    r.1 ∙ ap (λ x. bind x (run C [])) (finished-complete C.results r.0 (Some []) r.2)

pub runs-valid : (C : Context) (c : Tree) (end : List Open) → run C (body_tokens c) (start_of C) ≡ Some end → IsValidBody C c
runs-valid C c end e =
    let o : Open = record { label = C.results; params = []; results = C.results; first = false; stack = record { dead = false; ops = [] } } in
    let r : (s : Stack) × (run C (Ends ∷ []) (at_stack o s ∷ []) ≡ Some end) × Passes C (C.results ∷ []) c (record { dead = false; ops = [] }) s = sound C c o [] (Ends ∷ []) end e in
    let d : Reaches r.0 (operands C.results) × (run C [] [] ≡ Some end) = ends-some C (at_stack o r.0) [] [] end refl r.1 in
    let k : (ts : List Operand) × Covers false [] ts × IsTyped C (C.results ∷ []) c ts (operands C.results) = r.2 (operands C.results) d.0 in
    subst (λ ts. IsTyped C (C.results ∷ []) c ts (operands C.results)) (Covers-live [] k.0 k.1) k.2

run-append : (C : Context) (xs ys : List Token) (os : List Open) → run C (xs ++ ys) os ≡ bind (run C xs os) (run C ys)
run-append C [] ys os = refl
run-append C (x ∷ xs) ys os = go (λ next. run-append C xs ys next) (reads C x os)
  where
    go : ((next : List Open) → run C (xs ++ ys) next ≡ bind (run C xs next) (run C ys)) → (next : Option (List Open)) → bind next (run C (xs ++ ys)) ≡ bind (bind next (run C xs)) (run C ys)
    go on None = refl
    go on (Some next) = on next

-- the place that the checker names
pub fault-none : (C : Context) (ts : List Token) (os : List Open) → fault C ts os ≡ None → (end : List Open) × (run C ts os ≡ Some end)
fault-none C [] os e = (os, refl)
fault-none C (t ∷ ts) os e = go (λ next e. fault-none C ts next e) (reads C t os) e
  where
    rest : ((next : List Open) → fault C ts next ≡ None → (end : List Open) × (run C ts next ≡ Some end)) → (next : List Open) (o : Option ℕ) → fault C ts next ≡ o → later o ≡ None → (end : List Open) × (run C ts next ≡ Some end)
    rest on next None k e = on next k
    rest on next (Some n) k e = cc

    go : ((next : List Open) → fault C ts next ≡ None → (end : List Open) × (run C ts next ≡ Some end)) → (next : Option (List Open)) → fault_after next (fault C ts) ≡ None → (end : List Open) × (bind next (run C ts) ≡ Some end)
    go on None e = cc
    go on (Some next) e = rest on next (fault C ts next) refl e

abbrev FaultAt : Context → List Token → List Open → ℕ → Type 0
FaultAt C ts os n = (mid : List Open) × (run C (take n ts) os ≡ Some mid) × (run C (take (suc n) ts) os ≡ None) × (n < length ts)

pub fault-some : (C : Context) (ts : List Token) (os : List Open) (n : ℕ) → fault C ts os ≡ Some n → FaultAt C ts os n
fault-some C [] os n e = cc
fault-some C (t ∷ ts) os n e = go (λ next n e. fault-some C ts next n e) (reads C t os) refl e
  where
    rest : ((next : List Open) (n : ℕ) → fault C ts next ≡ Some n → FaultAt C ts next n) → (next : List Open) → reads C t os ≡ Some next → (o : Option ℕ) → fault C ts next ≡ o → later o ≡ Some n → FaultAt C (t ∷ ts) os n
    rest on next r None k e = cc
    rest on next r (Some m) k e =
        let h : FaultAt C ts next m = on next m k in
        let is : suc m ≡ n = omega (arith, (let s : m + 1 ≡ n = cc in s)) in
        subst (λ n. FaultAt C (t ∷ ts) os n) is (h.0, ap (λ x. bind x (run C (take m ts))) r ∙ h.1, ap (λ x. bind x (run C (take (suc m) ts))) r ∙ h.2, omega (arith, h.3))

    go : ((next : List Open) (n : ℕ) → fault C ts next ≡ Some n → FaultAt C ts next n) → (next : Option (List Open)) → reads C t os ≡ next → fault_after next (fault C ts) ≡ Some n → FaultAt C (t ∷ ts) os n
    go on None r e =
        let is : 0 ≡ n = cc in
        subst (λ n. FaultAt C (t ∷ ts) os n) is (os, refl, ap (λ x. bind x (run C [])) r, omega arith)
    go on (Some next) r e = rest on next r (fault C ts next) refl e

-- The laws.

pub passed-valid : (C : Context) (c : Tree) → fault C (body_tokens c) (start_of C) ≡ None → IsValidBody C c
passed-valid C c e = let r : (end : List Open) × (run C (body_tokens c) (start_of C) ≡ Some end) = fault-none C (body_tokens c) (start_of C) e in runs-valid C c r.0 r.1

pub named-first : (C : Context) (c : Tree) (n : ℕ) → fault C (body_tokens c) (start_of C) ≡ Some n → IsFirstFault C (body_tokens c) n
named-first C c n e =
    let h : FaultAt C (body_tokens c) (start_of C) n = fault-some C (body_tokens c) (start_of C) n e in
    record {
      within = h.3;
      before = can-begin C c n h.0 h.1;
      here = λ can.
          let runs : run C (take (n + 1) (body_tokens c) ++ can.1) (start_of C) ≡ Some [] = ap (λ l. run C l (start_of C)) (sym can.3) ∙ valid-runs C can.0 can.2 in
          let fails : run C (take (n + 1) (body_tokens c)) (start_of C) ≡ None = ap (λ k. run C (take k (body_tokens c)) (start_of C)) (add-one n) ∙ h.2 in
          let both : None ≡ Some [] = sym (ap (λ x. bind x (run C can.1)) fails) ∙ sym (run-append C (take (n + 1) (body_tokens c)) can.1 (start_of C)) ∙ runs in
          cc;
    }

pub valid-passed : (C : Context) (c : Tree) → IsValidBody C c → fault C (body_tokens c) (start_of C) ≡ None
valid-passed C c y = go (fault C (body_tokens c) (start_of C)) refl
  where
    go : (o : Option ℕ) → fault C (body_tokens c) (start_of C) ≡ o → fault C (body_tokens c) (start_of C) ≡ None
    go None e = e
    go (Some n) e =
        let h : IsFirstFault C (body_tokens c) n = named-first C c n e in
        absurd (h.here (c, drop (n + 1) (body_tokens c), y, sym (take-append-drop (n + 1) (body_tokens c))))
