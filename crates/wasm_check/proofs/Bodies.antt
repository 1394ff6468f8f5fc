-- Whole bodies: what the checker passes is valid, and what is valid it passes.
use Rattle.std.proofs.Common.{◌≡◌, List, [], ◌∷◌, ◌++◌, refl, sym, ap, ◌∙◌, subst, ◌⊎◌, inl, inr}
use Rattle.std.specs.Prelude.{Bool, true, false, Option, Some}
use Rattle.wasm_ast.specs.declared.types.ValType.{ValType}
use Rattle.wasm_ast.specs.declared.types.ValType.TheVariants.{I32}
use Rattle.wasm_ast.specs.declared.types.BlockType.{BlockType}
use Rattle.wasm_ast.specs.declared.instructions.Instr.{Instr}
use Rattle.wasm_check.specs.Contexts.{Context, block_type}
use Rattle.wasm_ast.specs.declared.types.FuncType.{FuncType}
use Rattle.wasm_check.specs.Trees.{Tree, Nothing, Plain, Blocks, Loops, Ifs, Token, Else, Ends, by_emptiness, written}
use Rattle.wasm_check.specs.declared.operands.Operand.{Operand}
use Rattle.wasm_check.specs.declared.operands.Operand.TheVariants.{Of}
use Rattle.wasm_check.specs.Operands.{Matches, AllMatch, operands, Takes}
use Rattle.wasm_check.specs.Instructions.{Labels, IsTyped}
use Rattle.wasm_check.specs.code.Checker.{Stack, bind, when, onto, pops, popped, is_empty, acts, Open, labels_of, opened, opens, finished, closes, second, finished_other, ends, turns, run}
use Rattle.wasm_check.proofs.Stacks.{bind-some, when-some, Covers, General, Covered, Fits, Matches-self, Matches-on, popped-sound, popped-complete, pops-sound, pops-complete, Covers-append, General-append}
use Rattle.wasm_check.proofs.Rules.{Takes-self, Sound, acts-sound, acts-complete}

pub emptiness : (c : Tree) → (c ≡ Nothing) ⊎ ((xs ys : List Token) → by_emptiness c xs ys ≡ ys)
emptiness Nothing = inl refl
emptiness (Plain i c) = inr (λ xs ys. refl)
emptiness (Blocks t b c) = inr (λ xs ys. refl)
emptiness (Loops t b c) = inr (λ xs ys. refl)
emptiness (Ifs t b o c) = inr (λ xs ys. refl)

-- lists

pub AllMatch-self : (ts : List Operand) → AllMatch ts ts
AllMatch-self [] = tt
AllMatch-self (t ∷ ts) = (Matches-self t, AllMatch-self ts)

General-match : (dead : Bool) (ops ts us : List Operand) → General dead ops ts → AllMatch ts us → General dead ops us
General-match true [] ts us g m = tt
General-match false [] [] [] g m = refl
General-match false [] [] (u ∷ us) g m = absurd m
General-match false [] (t ∷ ts) us g m = cc
General-match dead (o ∷ ops) [] us g m = cc
General-match dead (o ∷ ops) (t ∷ ts) [] g m = absurd m
General-match dead (o ∷ ops) (t ∷ ts) (u ∷ us) g m =
    let both : t ∷ ts ≡ g.0 ∷ g.1 = g.2 in
    let first : g.0 ≡ t = cc in
    let others : g.1 ≡ ts = cc in
    (u, us, refl, Matches-on o t u (subst (λ t. Matches o t) first g.3) m.0, General-match dead ops ts us (subst (λ x. General dead ops x) others g.4) m.1)

General-self : (ops : List Operand) → General false ops ops
General-self [] = refl
General-self (o ∷ ops) = (o, ops, refl, Matches-self o, General-self ops)

pub Covers-live : (ops ts : List Operand) → Covers false ops ts → ts ≡ ops
Covers-live [] ts h = h
Covers-live (o ∷ ops) ts h = h.1 ∙ ap (λ l. o ∷ l) (Covers-live ops h.0 h.2)

Takes-all : (ts us : List Operand) → Takes ts us [] → AllMatch ts us
Takes-all [] [] k = tt
Takes-all (t ∷ ts) [] k = cc
Takes-all [] (u ∷ us) k = let e : [] ≡ k.0 ∷ k.1 = k.2 in cc
Takes-all (t ∷ ts) (u ∷ us) k =
    let both : t ∷ ts ≡ k.0 ∷ k.1 = k.2 in
    let first : k.0 ≡ t = cc in
    let others : k.1 ≡ ts = cc in
    (subst (λ t. Matches t u) first k.3, Takes-all ts us (subst (λ x. Takes x us []) others k.4))

empty-is : (ops : List Operand) → is_empty ops ≡ true → ops ≡ []
empty-is [] e = refl
empty-is (o ∷ ops) e = cc

gone-empty : (dead : Bool) (gone : List Operand) → General dead gone [] → is_empty gone ≡ true
gone-empty dead [] g = refl
gone-empty dead (o ∷ gone) g = let e : [] ≡ g.0 ∷ g.1 = g.2 in cc

nothing-left : (dead : Bool) → Covers dead [] []
nothing-left true = tt
nothing-left false = refl

-- what a stack stands for matches us
abbrev pub Reaches : Stack → List Operand → Type 0
Reaches s us = (ts : List Operand) × Covered s ts × AllMatch ts us

pub finished-sound : {B : Type 0} (results : List ValType) (s : Stack) (go : Option B) (y : B) → finished results s go ≡ Some y → Reaches s (operands results) × (go ≡ Some y)
finished-sound results s go y e =
    let b : (gone : List Operand) × (pops (operands results) s.dead s.ops ≡ Some gone) × (when (is_empty gone) go ≡ Some y) = bind-some _ _ y e in
    let w : (is_empty b.0 ≡ true) × (go ≡ Some y) = when-some _ _ y b.2 in
    let p : (ts : List Operand) × Covers s.dead s.ops ts × Takes ts (operands results) [] = pops-sound (operands results) s.dead s.ops b.0 [] b.1 (subst (λ l. Covers s.dead l []) (sym (empty-is b.0 w.0)) (nothing-left s.dead)) in
    ((p.0, p.1, Takes-all p.0 (operands results) p.2), w.1)

pub finished-complete : {B : Type 0} (results : List ValType) (s : Stack) (go : Option B) → Fits s (operands results) → finished results s go ≡ go
finished-complete results s go g =
    let p : (gone : List Operand) × (pops (operands results) s.dead s.ops ≡ Some gone) × General s.dead gone [] = pops-complete (operands results) s.dead s.ops (operands results) [] (Takes-self (operands results)) g in
    ap (λ o. bind o (λ ops. when (is_empty ops) go)) p.1 ∙ ap (λ b. when b go) (gone-empty s.dead p.0 p.2)

abbrev pub at_stack : Open → Stack → Open
at_stack o s = record o { stack = s }

-- the sequence opens in the open one, and the types of its results are left there when it ends
abbrev pub after_end : Open → FuncType → Stack → Open
after_end o t v = at_stack o (onto (operands t.results) v)

-- Valid implies passed.

pub complete : (C : Context) (c : Tree) (o : Open) (os : List Open) (rest : List Token) (ts us : List Operand) → IsTyped C (o.label ∷ labels_of os) c ts us → Fits o.stack ts →
    (s : Stack) × (run C (written c rest) (o ∷ os) ≡ run C rest (at_stack o s ∷ os)) × Fits s us
complete C Nothing o os rest ts us k g = (o.stack, refl, General-match o.stack.dead o.stack.ops ts us g k)
complete C (Plain i c) o os rest ts us k g =
    let a : (t : Stack) × (acts C (o.label ∷ labels_of os) i o.stack ≡ Some t) × Fits t (k.1 ++ k.2) = acts-complete C (o.label ∷ labels_of os) i o.stack k.0 k.1 ts k.2 k.3 k.4 g in
    let r : (s : Stack) × (run C (written c rest) (at_stack o a.0 ∷ os) ≡ run C rest (at_stack o s ∷ os)) × Fits s us = complete C c (at_stack o a.0) os rest (k.1 ++ k.2) us k.5 a.2 in
    (r.0, ap (λ x. bind (bind x (λ s. Some (at_stack o s ∷ os))) (run C (written c rest))) a.1 ∙ r.1, r.2)
complete C (Blocks bt b c) o os rest ts us k g =
    let t : FuncType = k.0 in
    let v : (v : Stack) × (popped (operands t.params) o.stack ≡ Some v) × Fits v k.1 = popped-complete (operands t.params) o.stack ts k.1 k.4 g in
    let new : Open = opened t.results t false in
    let i : (s : Stack) × (run C (written b (Ends ∷ written c rest)) (new ∷ at_stack o v.0 ∷ os) ≡ run C (Ends ∷ written c rest) (at_stack new s ∷ at_stack o v.0 ∷ os)) × Fits s (operands t.results) =
    complete C b new (at_stack o v.0 ∷ os) (Ends ∷ written c rest) (operands t.params) (operands t.results) k.3 (General-self (operands t.params)) in
    let r : (s : Stack) × (run C (written c rest) (after_end o t v.0 ∷ os) ≡ run C rest (at_stack o s ∷ os)) × Fits s us =
    complete C c (after_end o t v.0) os rest (operands t.results ++ k.1) us k.5 (General-append (operands t.results) v.0.dead v.0.ops k.1 v.2) in (
      r.0,
      ap (λ x. bind (bind x (λ t. opens (operands t.params) (opened t.results t false) o os)) (run C (written b (Ends ∷ written c rest)))) k.2
          ∙ ap (λ x. bind (bind x (λ s. Some (new ∷ at_stack o s ∷ os))) (run C (written b (Ends ∷ written c rest)))) v.1 ∙ i.1
          ∙ ap (λ x. bind x (run C (written c rest))) (finished-complete t.results i.0 (Some (after_end o t v.0 ∷ os)) i.2) ∙ r.1,
      r.2,
    )
complete C (Loops bt b c) o os rest ts us k g =
    let t : FuncType = k.0 in
    let v : (v : Stack) × (popped (operands t.params) o.stack ≡ Some v) × Fits v k.1 = popped-complete (operands t.params) o.stack ts k.1 k.4 g in
    let new : Open = opened t.params t false in
    let i : (s : Stack) × (run C (written b (Ends ∷ written c rest)) (new ∷ at_stack o v.0 ∷ os) ≡ run C (Ends ∷ written c rest) (at_stack new s ∷ at_stack o v.0 ∷ os)) × Fits s (operands t.results) =
    complete C b new (at_stack o v.0 ∷ os) (Ends ∷ written c rest) (operands t.params) (operands t.results) k.3 (General-self (operands t.params)) in
    let r : (s : Stack) × (run C (written c rest) (after_end o t v.0 ∷ os) ≡ run C rest (at_stack o s ∷ os)) × Fits s us =
    complete C c (after_end o t v.0) os rest (operands t.results ++ k.1) us k.5 (General-append (operands t.results) v.0.dead v.0.ops k.1 v.2) in (
      r.0,
      ap (λ x. bind (bind x (λ t. opens (operands t.params) (opened t.params t false) o os)) (run C (written b (Ends ∷ written c rest)))) k.2
          ∙ ap (λ x. bind (bind x (λ s. Some (new ∷ at_stack o s ∷ os))) (run C (written b (Ends ∷ written c rest)))) v.1 ∙ i.1
          ∙ ap (λ x. bind x (run C (written c rest))) (finished-complete t.results i.0 (Some (after_end o t v.0 ∷ os)) i.2) ∙ r.1,
      r.2,
    )
complete C (Ifs bt b other c) o os rest ts us k g =
    let t : FuncType = k.0 in
    let v : (v : Stack) × (popped (Of I32 ∷ operands t.params) o.stack ≡ Some v) × Fits v k.1 = popped-complete (Of I32 ∷ operands t.params) o.stack ts k.1 k.5 g in
    let new : Open = opened t.results t true in
    let els : Open = second new in
    let p : Open = at_stack o v.0 in
    let after : List Token = written c rest in
    let between : List Token = by_emptiness other (Ends ∷ after) (Else ∷ written other (Ends ∷ after)) in
    let i : (s : Stack) × (run C (written b between) (new ∷ p ∷ os) ≡ run C between (at_stack new s ∷ p ∷ os)) × Fits s (operands t.results) =
    complete C b new (p ∷ os) between (operands t.params) (operands t.results) k.3 (General-self (operands t.params)) in
    let j : (s : Stack) × (run C (written other (Ends ∷ after)) (els ∷ p ∷ os) ≡ run C (Ends ∷ after) (at_stack els s ∷ p ∷ os)) × Fits s (operands t.results) =
    complete C other els (p ∷ os) (Ends ∷ after) (operands t.params) (operands t.results) k.4 (General-self (operands t.params)) in
    let r : (s : Stack) × (run C after (after_end o t v.0 ∷ os) ≡ run C rest (at_stack o s ∷ os)) × Fits s us =
    complete C c (after_end o t v.0) os rest (operands t.results ++ k.1) us k.6 (General-append (operands t.results) v.0.dead v.0.ops k.1 v.2) in
    let middle : run C between (at_stack new i.0 ∷ p ∷ os) ≡ run C after (after_end o t v.0 ∷ os) =
    elim (emptiness other) [
      | inl e ↦
          let fit : AllMatch (operands t.params) (operands t.results) = subst (λ d. IsTyped C (t.results ∷ o.label ∷ labels_of os) d (operands t.params) (operands t.results)) e k.4 in
          ap (λ d. run C (by_emptiness d (Ends ∷ after) (Else ∷ written other (Ends ∷ after))) (at_stack new i.0 ∷ p ∷ os)) e
          ∙ ap (λ x. bind x (run C after)) (finished-complete t.results i.0 (finished t.results els.stack (Some (after_end o t v.0 ∷ os))) i.2
          ∙ finished-complete t.results els.stack (Some (after_end o t v.0 ∷ os)) (General-match false (operands t.params) (operands t.params) (operands t.results) (General-self (operands t.params)) fit))
      | inr e ↦
          ap (λ l. run C l (at_stack new i.0 ∷ p ∷ os)) (e (Ends ∷ after) (Else ∷ written other (Ends ∷ after)))
          ∙ ap (λ x. bind x (run C (written other (Ends ∷ after)))) (finished-complete t.results i.0 (Some (els ∷ p ∷ os)) i.2)
          ∙ j.1 ∙ ap (λ x. bind x (run C after)) (finished-complete t.results j.0 (Some (after_end o t v.0 ∷ os)) j.2)
    ] in (
      r.0,
      ap (λ x. bind (bind x (λ t. opens (Of I32 ∷ operands t.params) (opened t.results t true) o os)) (run C (written b between))) k.2
          ∙ ap (λ x. bind (bind x (λ s. Some (new ∷ at_stack o s ∷ os))) (run C (written b between))) v.1 ∙ i.1 ∙ middle ∙ r.1,
      r.2,
    )

-- Passed implies valid.

-- what the new stack stands for is reached from what the old one stands for
abbrev pub Passes : Context → Labels → Tree → Stack → Stack → Type 0
Passes C ls c s t = (us : List Operand) → Reaches t us → (ts : List Operand) × Covered s ts × IsTyped C ls c ts us

pub plain-passes : (C : Context) (ls : Labels) (i : Instr) (c : Tree) (s v t : Stack) → acts C ls i s ≡ Some v → Passes C ls c v t → Passes C ls (Plain i c) s t
plain-passes C ls i c s v t e h us r =
    let k : (ts : List Operand) × Covered v ts × IsTyped C ls c ts us = h us r in
    let a : Sound C ls i s k.0 = acts-sound C ls i s v k.0 e k.1 in
    (a.3, a.7, (a.0, a.1, a.2, a.4, a.5, subst (λ l. IsTyped C ls c l us) a.6 k.2))

-- a sequence inside, typed by what it takes and leaves
pub inner-typed : (C : Context) (ls : Labels) (b : Tree) (params results : List ValType) (s : Stack) → Reaches s (operands results) → Passes C ls b (record { dead = false; ops = operands params }) s →
    IsTyped C ls b (operands params) (operands results)
inner-typed C ls b params results s r h =
    let k : (ts : List Operand) × Covers false (operands params) ts × IsTyped C ls b ts (operands results) = h (operands results) r in
    subst (λ ts. IsTyped C ls b ts (operands results)) (Covers-live (operands params) k.0 k.1) k.2

-- what stands around it
pub around-passes : (C : Context) (ls : Labels) (c : Tree) (wanted : List Operand) (results : List ValType) (s v t : Stack) → popped wanted s ≡ Some v → Passes C ls c (onto (operands results) v) t →
    (us : List Operand) → Reaches t us → (rest ts : List Operand) × Covered s ts × Takes ts wanted rest × IsTyped C ls c (operands results ++ rest) us
around-passes C ls c wanted results s v t e h us r =
    let k : (ts : List Operand) × Covers v.dead (operands results ++ v.ops) ts × IsTyped C ls c ts us = h us r in
    let a : (rest : List Operand) × (k.0 ≡ operands results ++ rest) × Covered v rest = Covers-append (operands results) v.dead v.ops k.0 k.1 in
    let p : (ts : List Operand) × Covered s ts × Takes ts wanted a.0 = popped-sound wanted s v a.0 e a.2 in
    (a.0, p.0, p.1, p.2, subst (λ l. IsTyped C ls c l us) a.1 k.2)

abbrev pub Opened : Context → List Operand → Open → Open → List Open → List Token → List Open → Type 0
Opened C wanted new o os ts end = (v : Stack) × (popped wanted o.stack ≡ Some v) × (run C ts (new ∷ at_stack o v ∷ os) ≡ Some end)

pub opens-some : (C : Context) (wanted : List Operand) (new o : Open) (os : List Open) (ts : List Token) (end : List Open) → bind (opens wanted new o os) (run C ts) ≡ Some end → Opened C wanted new o os ts end
opens-some C wanted new o os ts end e =
    let n : (next : List Open) × (opens wanted new o os ≡ Some next) × (run C ts next ≡ Some end) = bind-some _ _ end e in
    let b : (v : Stack) × (popped wanted o.stack ≡ Some v) × (Some (new ∷ at_stack o v ∷ os) ≡ Some n.0) = bind-some _ _ n.0 n.1 in
    let same : n.0 ≡ new ∷ at_stack o b.0 ∷ os = cc in
    (b.0, b.1, subst (λ x. run C ts x ≡ Some end) same n.2)

-- a block type that is there
abbrev pub OpenedAs : Context → BlockType → (FuncType → List Operand) → (FuncType → Open) → Open → List Open → List Token → List Open → Type 0
OpenedAs C bt wanted new o os ts end = (t : FuncType) × (block_type C bt ≡ Some t) × Opened C (wanted t) (new t) o os ts end

pub block-some : (C : Context) (bt : BlockType) (wanted : FuncType → List Operand) (new : FuncType → Open) (o : Open) (os : List Open) (ts : List Token) (end : List Open) →
    bind (bind (block_type C bt) (λ t. opens (wanted t) (new t) o os)) (run C ts) ≡ Some end → OpenedAs C bt wanted new o os ts end
block-some C bt wanted new o os ts end e =
    let n : (next : List Open) × (bind (block_type C bt) (λ t. opens (wanted t) (new t) o os) ≡ Some next) × (run C ts next ≡ Some end) = bind-some _ _ end e in
    let b : (t : FuncType) × (block_type C bt ≡ Some t) × (opens (wanted t) (new t) o os ≡ Some n.0) = bind-some _ _ n.0 n.1 in
    (b.0, b.1, opens-some C (wanted b.0) (new b.0) o os ts end (ap (λ x. bind x (run C ts)) b.2 ∙ n.2))

-- the end of a sequence that isn't the first part of an if
pub ends-some : (C : Context) (o : Open) (os : List Open) (ts : List Token) (end : List Open) → o.first ≡ false → run C (Ends ∷ ts) (o ∷ os) ≡ Some end →
    Reaches o.stack (operands o.results) × (run C ts (closes o.results os) ≡ Some end)
ends-some C o os ts end not e =
    let n : (next : List Open) × (ends o os ≡ Some next) × (run C ts next ≡ Some end) = bind-some _ _ end e in
    let r : Reaches o.stack (operands o.results) × (finished_other o.first o (Some (closes o.results os)) ≡ Some n.0) = finished-sound o.results o.stack _ n.0 n.1 in
    let same : closes o.results os ≡ n.0 = let k : Some (closes o.results os) ≡ Some n.0 = ap (λ b. finished_other b o (Some (closes o.results os))) (sym not) ∙ r.1 in cc in
    (r.0, subst (λ x. run C ts x ≡ Some end) (sym same) n.2)

-- the end of a first part of an if, whose second part is empty
pub ends_first-some : (C : Context) (o : Open) (os : List Open) (ts : List Token) (end : List Open) → o.first ≡ true → run C (Ends ∷ ts) (o ∷ os) ≡ Some end →
    Reaches o.stack (operands o.results) × Reaches (second o).stack (operands o.results) × (run C ts (closes o.results os) ≡ Some end)
ends_first-some C o os ts end is e =
    let n : (next : List Open) × (ends o os ≡ Some next) × (run C ts next ≡ Some end) = bind-some _ _ end e in
    let r : Reaches o.stack (operands o.results) × (finished_other o.first o (Some (closes o.results os)) ≡ Some n.0) = finished-sound o.results o.stack _ n.0 n.1 in
    let q : Reaches (second o).stack (operands o.results) × (Some (closes o.results os) ≡ Some n.0) = finished-sound o.results (second o).stack _ n.0 (ap (λ b. finished_other b o (Some (closes o.results os))) (sym is) ∙ r.1) in
    let same : n.0 ≡ closes o.results os = cc in
    (r.0, q.0, subst (λ x. run C ts x ≡ Some end) same n.2)

-- an else
pub turns-some : (C : Context) (o : Open) (os : List Open) (ts : List Token) (end : List Open) → run C (Else ∷ ts) (o ∷ os) ≡ Some end →
    Reaches o.stack (operands o.results) × (run C ts (second o ∷ os) ≡ Some end)
turns-some C o os ts end e =
    let n : (next : List Open) × (turns o os ≡ Some next) × (run C ts next ≡ Some end) = bind-some _ _ end e in
    let w : (o.first ≡ true) × (finished o.results o.stack (Some (second o ∷ os)) ≡ Some n.0) = when-some _ _ n.0 n.1 in
    let r : Reaches o.stack (operands o.results) × (Some (second o ∷ os) ≡ Some n.0) = finished-sound o.results o.stack _ n.0 w.1 in
    let same : n.0 ≡ second o ∷ os = cc in
    (r.0, subst (λ x. run C ts x ≡ Some end) same n.2)

-- an empty sequence
pub nothing-typed : (C : Context) (ls : Labels) (params results : List ValType) → Reaches (record { dead = false; ops = operands params }) (operands results) → IsTyped C ls Nothing (operands params) (operands results)
nothing-typed C ls params results r = subst (λ ts. AllMatch ts (operands results)) (Covers-live (operands params) r.0 r.1) r.2

pub sound : (C : Context) (c : Tree) (o : Open) (os : List Open) (rest : List Token) (end : List Open) → run C (written c rest) (o ∷ os) ≡ Some end →
    (s : Stack) × (run C rest (at_stack o s ∷ os) ≡ Some end) × Passes C (o.label ∷ labels_of os) c o.stack s
sound C Nothing o os rest end e = (o.stack, e, λ us r. r)
sound C (Plain i c) o os rest end e =
    let n : (next : List Open) × (bind (acts C (o.label ∷ labels_of os) i o.stack) (λ s. Some (at_stack o s ∷ os)) ≡ Some next) × (run C (written c rest) next ≡ Some end) = bind-some _ _ end e in
    let b : (v : Stack) × (acts C (o.label ∷ labels_of os) i o.stack ≡ Some v) × (Some (at_stack o v ∷ os) ≡ Some n.0) = bind-some _ _ n.0 n.1 in
    let same : n.0 ≡ at_stack o b.0 ∷ os = cc in
    let r : (s : Stack) × (run C rest (at_stack o s ∷ os) ≡ Some end) × Passes C (o.label ∷ labels_of os) c b.0 s = sound C c (at_stack o b.0) os rest end (subst (λ x. run C (written c rest) x ≡ Some end) same n.2) in
    (r.0, r.1, plain-passes C (o.label ∷ labels_of os) i c o.stack b.0 r.0 b.1 r.2)
sound C (Blocks bt b c) o os rest end e =
    let x : OpenedAs C bt (λ t. operands t.params) (λ t. opened t.results t false) o os (written b (Ends ∷ written c rest)) end = block-some C bt (λ (t : FuncType). operands t.params) (λ (t : FuncType). opened t.results t false) o os (written b (Ends ∷ written c rest)) end e in
    let t : FuncType = x.0 in
    let new : Open = opened t.results t false in
    let v : Opened C (operands t.params) new o os (written b (Ends ∷ written c rest)) end = x.2 in
    let i : (s : Stack) × (run C (Ends ∷ written c rest) (at_stack new s ∷ at_stack o v.0 ∷ os) ≡ Some end) × Passes C (t.results ∷ o.label ∷ labels_of os) b new.stack s = sound C b new (at_stack o v.0 ∷ os) (Ends ∷ written c rest) end v.2 in
    let d : Reaches i.0 (operands t.results) × (run C (written c rest) (after_end o t v.0 ∷ os) ≡ Some end) = ends-some C (at_stack new i.0) (at_stack o v.0 ∷ os) (written c rest) end refl i.1 in
    let r : (s : Stack) × (run C rest (at_stack o s ∷ os) ≡ Some end) × Passes C (o.label ∷ labels_of os) c (onto (operands t.results) v.0) s = sound C c (after_end o t v.0) os rest end d.1 in (
      r.0,
      r.1,
      λ us q.
          let a : (left ts : List Operand) × Covered o.stack ts × Takes ts (operands t.params) left × IsTyped C (o.label ∷ labels_of os) c (operands t.results ++ left) us = around-passes C (o.label ∷ labels_of os) c (operands t.params) t.results o.stack v.0 r.0 v.1 r.2 us q in
          (a.1, a.2, (t, a.0, x.1, inner-typed C (t.results ∷ o.label ∷ labels_of os) b t.params t.results i.0 d.0 i.2, a.3, a.4)),
    )
sound C (Loops bt b c) o os rest end e =
    let x : OpenedAs C bt (λ t. operands t.params) (λ t. opened t.params t false) o os (written b (Ends ∷ written c rest)) end = block-some C bt (λ (t : FuncType). operands t.params) (λ (t : FuncType). opened t.params t false) o os (written b (Ends ∷ written c rest)) end e in
    let t : FuncType = x.0 in
    let new : Open = opened t.params t false in
    let v : Opened C (operands t.params) new o os (written b (Ends ∷ written c rest)) end = x.2 in
    let i : (s : Stack) × (run C (Ends ∷ written c rest) (at_stack new s ∷ at_stack o v.0 ∷ os) ≡ Some end) × Passes C (t.params ∷ o.label ∷ labels_of os) b new.stack s = sound C b new (at_stack o v.0 ∷ os) (Ends ∷ written c rest) end v.2 in
    let d : Reaches i.0 (operands t.results) × (run C (written c rest) (after_end o t v.0 ∷ os) ≡ Some end) = ends-some C (at_stack new i.0) (at_stack o v.0 ∷ os) (written c rest) end refl i.1 in
    let r : (s : Stack) × (run C rest (at_stack o s ∷ os) ≡ Some end) × Passes C (o.label ∷ labels_of os) c (onto (operands t.results) v.0) s = sound C c (after_end o t v.0) os rest end d.1 in (
      r.0,
      r.1,
      λ us q.
          let a : (left ts : List Operand) × Covered o.stack ts × Takes ts (operands t.params) left × IsTyped C (o.label ∷ labels_of os) c (operands t.results ++ left) us = around-passes C (o.label ∷ labels_of os) c (operands t.params) t.results o.stack v.0 r.0 v.1 r.2 us q in
          (a.1, a.2, (t, a.0, x.1, inner-typed C (t.params ∷ o.label ∷ labels_of os) b t.params t.results i.0 d.0 i.2, a.3, a.4)),
    )
sound C (Ifs bt b other c) o os rest end e =
    let ls : Labels = o.label ∷ labels_of os in
    let x : OpenedAs C bt (λ t. Of I32 ∷ operands t.params) (λ t. opened t.results t true) o os (written b (by_emptiness other (Ends ∷ written c rest) (Else ∷ written other (Ends ∷ written c rest)))) end = block-some C bt (λ (t : FuncType). Of I32 ∷ operands t.params) (λ (t : FuncType). opened t.results t true) o os (written b (by_emptiness other (Ends ∷ written c rest) (Else ∷ written other (Ends ∷ written c rest)))) end e in
    let t : FuncType = x.0 in
    let new : Open = opened t.results t true in
    let els : Open = second new in
    let after : List Token = written c rest in
    let between : List Token = by_emptiness other (Ends ∷ after) (Else ∷ written other (Ends ∷ after)) in
    let v : Opened C (Of I32 ∷ operands t.params) new o os (written b between) end = x.2 in
    let p : Open = at_stack o v.0 in
    let i : (s : Stack) × (run C between (at_stack new s ∷ p ∷ os) ≡ Some end) × Passes C (t.results ∷ ls) b new.stack s = sound C b new (p ∷ os) between end v.2 in
    let d : Reaches i.0 (operands t.results) × IsTyped C (t.results ∷ ls) other (operands t.params) (operands t.results) × (run C after (after_end o t v.0 ∷ os) ≡ Some end) =
    elim (emptiness other) [
      | inl k ↦
          let q : Reaches i.0 (operands t.results) × Reaches els.stack (operands t.results) × (run C after (after_end o t v.0 ∷ os) ≡ Some end) =
          ends_first-some C (at_stack new i.0) (p ∷ os) after end refl (ap (λ d. run C (by_emptiness d (Ends ∷ after) (Else ∷ written other (Ends ∷ after))) (at_stack new i.0 ∷ p ∷ os)) (sym k) ∙ i.1) in
          (q.0, subst (λ d. IsTyped C (t.results ∷ ls) d (operands t.params) (operands t.results)) (sym k) (nothing-typed C (t.results ∷ ls) t.params t.results q.1), q.2)
      | inr k ↦
          let q : Reaches i.0 (operands t.results) × (run C (written other (Ends ∷ after)) (els ∷ p ∷ os) ≡ Some end) =
          turns-some C (at_stack new i.0) (p ∷ os) (written other (Ends ∷ after)) end (ap (λ l. run C l (at_stack new i.0 ∷ p ∷ os)) (sym (k (Ends ∷ after) (Else ∷ written other (Ends ∷ after)))) ∙ i.1) in
          let j : (s : Stack) × (run C (Ends ∷ after) (at_stack els s ∷ p ∷ os) ≡ Some end) × Passes C (t.results ∷ ls) other els.stack s = sound C other els (p ∷ os) (Ends ∷ after) end q.1 in
          let z : Reaches j.0 (operands t.results) × (run C after (after_end o t v.0 ∷ os) ≡ Some end) = ends-some C (at_stack els j.0) (p ∷ os) after end refl j.1 in
          (q.0, inner-typed C (t.results ∷ ls) other t.params t.results j.0 z.0 j.2, z.1)
    ] in
    let r : (s : Stack) × (run C rest (at_stack o s ∷ os) ≡ Some end) × Passes C ls c (onto (operands t.results) v.0) s = sound C c (after_end o t v.0) os rest end d.2 in (
      r.0,
      r.1,
      λ us q.
          let a : (left ts : List Operand) × Covered o.stack ts × Takes ts (Of I32 ∷ operands t.params) left × IsTyped C ls c (operands t.results ++ left) us = around-passes C ls c (Of I32 ∷ operands t.params) t.results o.stack v.0 r.0 v.1 r.2 us q in
          (a.1, a.2, (t, a.0, x.1, inner-typed C (t.results ∷ ls) b t.params t.results i.0 d.0 i.2, d.1, a.3, a.4)),
    )
