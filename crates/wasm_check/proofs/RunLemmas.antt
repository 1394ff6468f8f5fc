-- Runs of operands: what is put on top of them and taken off is what the definitions say.
use Rattle.std.proofs.Common.{◌≡◌, ℕ, zero, suc, ◌+◌, ◌-◌, ◌<◌, ◌≤◌, min, append_assoc, length-append, List, [], ◌∷◌, ◌++◌, length, map, take, reverse, get_or, refl, sym, ap, ◌∙◌, arith}
use Rattle.std.specs.Prelude.{Bool, true, false, Option, Some, None, MatchOption, slice_get}
use Rattle.std.proofs.Math.Seq.{take-suc}
use Rattle.std.proofs.lemmas.List.{reverse-append, map-append, length-map, length-take-le, get_or-map, take_all, take_at, take-take, take_min}
use Rattle.wasm_ast.specs.declared.types.ValType.{ValType}
use Rattle.wasm_ast.specs.declared.types.FuncType.{FuncType}
use Rattle.wasm_check.specs.declared.operands.Operand.{Operand}
use Rattle.wasm_check.specs.declared.operands.Operand.TheVariants.{Of, Bottom}
use Rattle.type_suffixes.specs.declared.lists.Listed.{Listed}
use Rattle.type_suffixes.specs.declared.lists.Listed.TheVariants.{Nothing}
use Rattle.wasm_check.specs.declared.stack.Run.{Run}
use Rattle.wasm_check.specs.declared.stack.Run.TheVariants.{First}
use Rattle.wasm_check.specs.declared.stack.Stack.{Stack as Runs}
use Rattle.wasm_check.specs.declared.stack.Peek.{Peek}
use Rattle.wasm_check.specs.declared.open.OpenSeq.{OpenSeq}
use Rattle.wasm_check.specs.Operands.{operands}
use Rattle.type_suffixes.specs.Words.{EndsWith}
use Rattle.type_suffixes.specs.Lists.{listed}
use Rattle.wasm_check.specs.code.Runs.{run_of, runs_of, held, known, peeked, open_of, open_seqs, labels_in}
use Rattle.wasm_check.specs.code.Checker.{fits, Stack, bind, when, onto, pops, popped, with_pop, pop_of, is_empty}
use Rattle.wasm_check.proofs.Stacks.{same_type-self}
use Rattle.wasm_check.proofs.Labels.{labels-none, labels-some}

-- ---- operands of a list, one by one

operands-more : (ts : List ValType) (t : ValType) → operands (ts ++ t ∷ []) ≡ Of t ∷ operands ts
operands-more ts t = ap (λ l. reverse l) (map-append (λ t. Of t) ts (t ∷ [])) ∙ reverse-append (map (λ t. Of t) ts) (Of t ∷ [])

pub operands-last : (ts : List ValType) (i : ℕ) (d : ValType) → i < length ts → operands (take (suc i) ts) ≡ Of (get_or ts i d) ∷ operands (take i ts)
operands-last ts i d h = ap operands (take-suc ts i d h) ∙ operands-more (take i ts) (get_or ts i d)

pops-one : (u : Operand) (wanted : List Operand) (dead : Bool) (ops : List Operand) → popped (u ∷ wanted) (record { dead = dead; ops = ops }) ≡ bind (popped (u ∷ []) (record { dead = dead; ops = ops })) (popped wanted)
pops-one u wanted true [] = refl
pops-one u wanted false [] = refl
pops-one u wanted dead (t ∷ ops) = go (fits t u)
  where
    with_ops : List Operand → Option Stack
    with_ops l = Some (record { dead = dead; ops = l })

    go : (b : Bool) → bind (when b (pops wanted dead ops)) with_ops ≡ bind (bind (when b (Some ops)) with_ops) (popped wanted)
    go true = refl
    go false = refl

pub popped-one : (u : Operand) (wanted : List Operand) (s : Stack) → popped (u ∷ wanted) s ≡ bind (popped (u ∷ []) s) (popped wanted)
popped-one u wanted s = pops-one u wanted s.dead s.ops

taken-on : (ts : List ValType) (i : ℕ) (d : ValType) (s : Stack) (r : Option Stack) → i < length ts → popped (Of (get_or ts i d) ∷ []) s ≡ r → popped (operands (take (suc i) ts)) s ≡ bind r (popped (operands (take i ts)))
taken-on ts i d s r h e =
    ap (λ w. popped w s) (operands-last ts i d h) ∙ pops-one (Of (get_or ts i d)) (operands (take i ts)) s.dead s.ops ∙ ap (λ o. bind o (popped (operands (take i ts)))) e

pub taken-more : (types : List FuncType) (list : Listed) (ts : List ValType) (n i : ℕ) (d : ValType) (s : Stack) (r : Option Stack) → ts ≡ listed types list → n ≡ suc i → n ≤ length (listed types list) → popped (Of (get_or ts i d) ∷ []) s ≡ r →
    popped (run_of types (First list n)) s ≡ bind r (popped (run_of types (First list i)))
taken-more types list ts n i d s r e m h f =
    ap (λ k. popped (run_of types (First list k)) s) m ∙ taken-on (listed types list) i d s r (omega (arith, h, m)) (ap (λ l. popped (Of (get_or l i d) ∷ []) s) (sym e) ∙ f)

-- ---- the last run

pub none-in : (xs : List Operand) → is_empty xs ≡ true → xs ≡ []
none-in [] e = refl
none-in (x ∷ xs) e = cc

pub pop-run : (types : List FuncType) (dead : Bool) (last rest : Run) (t : Operand) (below : List Run) → run_of types last ≡ t ∷ run_of types rest → pop_of (held types dead last below) ≡ Some (t, held types dead rest below)
pop-run types dead last rest t below e =
    let go : Operand → List Operand → Option (Operand × Stack) = λ t ops. Some (t, record { dead = dead; ops = ops }) in
    ap (λ l. with_pop dead (l ++ runs_of types below) go) e

pop-at : (dead : Bool) (ops : List Operand) → ops ≡ [] → dead ≡ true → pop_of (record { dead = dead; ops = ops }) ≡ Some (Bottom, record { dead = dead; ops = ops })
pop-at true [] e d = refl
pop-at true (x ∷ xs) e d = cc
pop-at false ops e d = cc

pub pop-bottom : (s : Stack) → s.ops ≡ [] → s.dead ≡ true → pop_of s ≡ Some (Bottom, s)
pop-bottom s e d = pop-at s.dead s.ops e d

pop-not : (dead : Bool) (ops : List Operand) → ops ≡ [] → dead ≡ false → pop_of (record { dead = dead; ops = ops }) ≡ None
pop-not false [] e d = refl
pop-not false (x ∷ xs) e d = cc
pop-not true ops e d = cc

pub pop-none : (s : Stack) → s.ops ≡ [] → s.dead ≡ false → pop_of s ≡ None
pop-none s e d = pop-not s.dead s.ops e d

-- ---- many at one go

own-taken : (us : List ValType) (wanted : List Operand) (dead : Bool) (rest : List Operand) → pops (map (λ t. Of t) us ++ wanted) dead (map (λ t. Of t) us ++ rest) ≡ pops wanted dead rest
own-taken [] wanted dead rest = refl
own-taken (u ∷ us) wanted dead rest = ap (λ b. when b (pops (map (λ t. Of t) us ++ wanted) dead (map (λ t. Of t) us ++ rest))) (same_type-self u) ∙ own-taken us wanted dead rest

pub operands-reverse : (ts : List ValType) → operands ts ≡ map (λ t. Of t) (reverse ts)
operands-reverse [] = refl
operands-reverse (t ∷ ts) =
    reverse-append (Of t ∷ []) (map (λ t. Of t) ts) ∙ ap (λ l. l ++ Of t ∷ []) (operands-reverse ts)
    ∙ sym (map-append (λ t. Of t) (reverse ts) (t ∷ [])) ∙ ap (λ l. map (λ t. Of t) l) (sym (reverse-append (t ∷ []) ts))

operands-append : (ts us : List ValType) → operands (ts ++ us) ≡ operands us ++ operands ts
operands-append ts us = ap (λ l. reverse l) (map-append (λ t. Of t) ts us) ∙ reverse-append (map (λ t. Of t) ts) (map (λ t. Of t) us)

-- where the operands that are there are the last ones wanted
end-taken : (ts us : List ValType) (dead : Bool) (rest : List Operand) → popped (operands (ts ++ us)) (record { dead = dead; ops = operands us ++ rest }) ≡ popped (operands ts) (record { dead = dead; ops = rest })
end-taken ts us dead rest =
    let with_ops : List Operand → Option Stack = λ l. Some (record { dead = dead; ops = l }) in
    ap (λ w. bind (pops w dead (operands us ++ rest)) with_ops) (operands-append ts us)
    ∙ ap (λ l. bind (pops (l ++ operands ts) dead (l ++ rest)) with_ops) (operands-reverse us)
    ∙ ap (λ o. bind o with_ops) (own-taken (reverse us) (operands ts) dead rest)

-- where the operands that are wanted are the last ones there
start-left : (ts us : List ValType) (dead : Bool) (rest : List Operand) → popped (operands us) (record { dead = dead; ops = operands (ts ++ us) ++ rest }) ≡ popped (operands []) (record { dead = dead; ops = operands ts ++ rest })
start-left ts us dead rest =
    ap (λ l. popped (operands us) (record { dead = dead; ops = l })) (ap (λ l. l ++ rest) (operands-append ts us) ∙ append_assoc (operands us) (operands ts) rest)
    ∙ end-taken [] us dead (operands ts ++ rest)

-- the first types of a list, without an end of them
front-of : (l front us : List ValType) (n k : ℕ) → n ≤ length l → length us ≡ k → take n l ≡ front ++ us → take (n - k) l ≡ front
front-of l front us n k h s e =
    let long : n ≡ length front + length us = sym (length-take-le n l h) ∙ ap (λ m. length m) e ∙ length-append front us in
    let less : n - k ≤ n = omega arith in
    sym (take-take (n - k) n l less) ∙ ap (λ m. take (n - k) m) e ∙ take_at front us (n - k) (omega (arith, long, s))

pub run-is-cut : (types : List FuncType) (count : ℕ) (present list : Listed) (m left : ℕ) → m ≡ min count (length (listed types present)) → left ≤ length (listed types list) → EndsWith (take m (listed types present)) (take left (listed types list)) →
    (dead : Bool) (rest : List Operand) →
    popped (run_of types (First list left)) (record { dead = dead; ops = run_of types (First present count) ++ rest }) ≡ popped (run_of types (First list 0)) (record { dead = dead; ops = run_of types (First present (m - left)) ++ rest })
run-is-cut types count present list m left k h e dead rest =
    let us = take left (listed types list) in
    let within : m ≤ length (listed types present) = omega (arith, k) in
    let here : take count (listed types present) ≡ e.0 ++ us = sym (take_min count (listed types present)) ∙ ap (λ n. take n (listed types present)) (sym k) ∙ e.1 in
    let then : take (m - left) (listed types present) ≡ e.0 = front-of (listed types present) e.0 us m left within (length-take-le left (listed types list) h) e.1 in
    ap (λ l. popped (operands us) (record { dead = dead; ops = operands l ++ rest })) here ∙ start-left e.0 us dead rest
    ∙ ap (λ l. popped (operands []) (record { dead = dead; ops = operands l ++ rest })) (sym then)

pub run-is-taken : (types : List FuncType) (count : ℕ) (present list : Listed) (m left : ℕ) → m ≡ min count (length (listed types present)) → left ≤ length (listed types list) → EndsWith (take left (listed types list)) (take m (listed types present)) →
    (dead : Bool) (rest : List Operand) →
    popped (run_of types (First list left)) (record { dead = dead; ops = run_of types (First present count) ++ rest }) ≡ popped (run_of types (First list (left - m))) (record { dead = dead; ops = run_of types (First Nothing 0) ++ rest })
run-is-taken types count present list m left k h e dead rest =
    let us = take m (listed types present) in
    let within : m ≤ length (listed types present) = omega (arith, k) in
    let here : take count (listed types present) ≡ us = sym (take_min count (listed types present)) ∙ ap (λ n. take n (listed types present)) (sym k) in
    let then : take (left - m) (listed types list) ≡ e.0 = front-of (listed types list) e.0 us left m h (length-take-le m (listed types present) within) e.1 in
    ap (λ l. popped (operands (take left (listed types list))) (record { dead = dead; ops = operands l ++ rest })) here
    ∙ ap (λ l. popped (operands l) (record { dead = dead; ops = operands us ++ rest })) e.1 ∙ end-taken e.0 us dead rest
    ∙ ap (λ l. popped (operands l) (record { dead = dead; ops = rest })) (sym then)

any-taken : (wanted : List Operand) → pops wanted true [] ≡ Some []
any-taken [] = refl
any-taken (u ∷ wanted) = any-taken wanted

all-at : (wanted : List Operand) (dead : Bool) (ops : List Operand) → ops ≡ [] → dead ≡ true → popped wanted (record { dead = dead; ops = ops }) ≡ Some (record { dead = dead; ops = ops })
all-at wanted true [] e d = let with_ops : List Operand → Option Stack = λ l. Some (record { dead = true; ops = l }) in ap (λ o. bind o with_ops) (any-taken wanted)
all-at wanted true (x ∷ xs) e d = cc
all-at wanted false ops e d = cc

pub bottoms-taken : (wanted : List Operand) (s : Stack) → s.ops ≡ [] → s.dead ≡ true → popped wanted s ≡ Some s
bottoms-taken wanted s e d = all-at wanted s.dead s.ops e d

-- ---- runs put on top, and brought up

pub on-none : (types : List FuncType) (dead : Bool) (last run : Run) (below : List Run) → is_empty (run_of types last) ≡ true → held types dead run below ≡ onto (run_of types run) (held types dead last below)
on-none types dead last run below e =
    let with_last : List Operand → Stack = λ l. record { dead = dead; ops = run_of types run ++ (l ++ runs_of types below) } in ap with_last (sym (none-in (run_of types last) e))

pub on-some : (types : List FuncType) (dead : Bool) (last run : Run) (old new : List Run) → new ≡ old ++ last ∷ [] → held types dead run (reverse new) ≡ onto (run_of types run) (held types dead last (reverse old))
on-some types dead last run old new e =
    let with_below : List Run → Stack = λ l. record { dead = dead; ops = run_of types run ++ runs_of types l } in ap with_below (ap (λ l. reverse l) e ∙ reverse-append old (last ∷ []))

pub brought-up : (types : List FuncType) (dead : Bool) (last run : Run) (old new : List Run) → old ≡ new ++ run ∷ [] → is_empty (run_of types last) ≡ true → held types dead run (reverse new) ≡ held types dead last (reverse old)
brought-up types dead last run old new e none =
    let with_below : List Run → Stack = λ l. record { dead = dead; ops = runs_of types l } in
    let with_last : List Operand → Stack = λ l. record { dead = dead; ops = l ++ runs_of types (reverse old) } in
    ap with_below (sym (ap (λ l. reverse l) e ∙ reverse-append new (run ∷ []))) ∙ ap with_last (sym (none-in (run_of types last) none))

pub whole : (types : List FuncType) (list : Listed) (n : ℕ) → length (listed types list) ≤ n → run_of types (First list n) ≡ operands (listed types list)
whole types list n h = ap operands (take_all n (listed types list) h)

-- ---- open sequences

pub open-more : (types : List FuncType) (seqs new : List OpenSeq) (o : OpenSeq) → new ≡ seqs ++ o ∷ [] → open_seqs types new ≡ open_of types o ∷ open_seqs types seqs
unfolding open_seqs
open-more types seqs new o e = ap (λ l. reverse (map (open_of types) l)) e ∙ ap (λ l. reverse l) (map-append (open_of types) seqs (o ∷ [])) ∙ reverse-append (map (open_of types) seqs) (open_of types o ∷ [])

pub label-none : (types : List FuncType) (own : Listed) (outer : List OpenSeq) (k : ℕ) → (k ≡ 0 → ⊥) → length outer < k → slice_get (labels_in types own outer) k ≡ None
unfolding open_seqs
label-none types own outer k n h = labels-none (listed types own) (map (open_of types) outer) k n (omega (arith, h, length-map outer (open_of types)))

label-is : (types : List FuncType) (x : OpenSeq) → Some (open_of types x).label ≡ Some (listed types x.label)
unfolding open_of
label-is types x = refl

pub label-some : (types : List FuncType) (own : Listed) (outer : List OpenSeq) (k : ℕ) (x : OpenSeq) → (k ≡ 0 → ⊥) → k ≤ length outer → x ≡ get_or outer (length outer - k) x → slice_get (labels_in types own outer) k ≡ Some (listed types x.label)
unfolding open_seqs
label-some types own outer zero x n h e = absurd (n refl)
label-some types own outer (suc j) x n h e =
    let long = length-map outer (open_of types) in
    let place : length outer - suc j ≡ length (map (open_of types) outer) - suc j = omega (arith, long) in
    let there : open_of types x ≡ get_or (map (open_of types) outer) (length (map (open_of types) outer) - suc j) (open_of types x) =
    ap (open_of types) e ∙ sym (get_or-map (open_of types) outer (length outer - suc j) x (open_of types x) (omega (arith, h)))
    ∙ ap (λ i. get_or (map (open_of types) outer) i (open_of types x)) place in
    labels-some (listed types own) (map (open_of types) outer) (suc j) (open_of types x) n (omega (arith, h, long)) there ∙ label-is types x

-- ---- the lists of a function type

-- ---- the same on what the code keeps

pub known-pop : (types : List FuncType) (s : Runs) (rest : Run) (t : Operand) (old : Stack) → known types s ≡ old → run_of types s.last ≡ t ∷ run_of types rest → pop_of old ≡ Some (t, known types (record s { last = rest }))
unfolding known
known-pop types s rest t old e r = ap pop_of (sym e) ∙ pop-run types s.dead s.last rest t (reverse s.below.items) r

pub peeked-pop : (types : List FuncType) (p : Peek) (rest : Run) (t : Operand) (old : Stack) → peeked types p ≡ old → run_of types p.last ≡ t ∷ run_of types rest → pop_of old ≡ Some (t, peeked types (record p { last = rest }))
unfolding peeked
peeked-pop types p rest t old e r = ap pop_of (sym e) ∙ pop-run types p.dead p.last rest t (reverse p.below.now) r

pub pop-base : (s old : Stack) (r : Option Operand) → s ≡ old → s.ops ≡ [] → MatchOption r (s.dead ≡ false) (λ t. (s.dead ≡ true) × (t ≡ Bottom)) → MatchOption r (pop_of old ≡ None) (λ t. pop_of old ≡ Some (t, s))
pop-base s old None e n d = ap pop_of (sym e) ∙ pop-none s n d
pop-base s old (Some t) e n d = ap pop_of (sym e) ∙ pop-bottom s n d.0 ∙ ap (λ b. Some (b, s)) (sym d.1)

-- nothing is left to be taken
pub none-wanted : (types : List FuncType) (list : Listed) (s : Stack) → popped (run_of types (First list 0)) s ≡ Some s
none-wanted types list s = refl

-- where no operand is known of a stack in code that isn't reached
pub all-at-once : (wanted xs : List Operand) (s old : Stack) → is_empty xs ≡ true → s ≡ old → s.dead ≡ true → (xs ≡ [] → s.ops ≡ []) → popped wanted old ≡ popped [] s
all-at-once wanted xs s old is e d bare = ap (popped wanted) (sym e) ∙ bottoms-taken wanted s (bare (none-in xs is)) d

pub none-left : {A : Type 0} (xs : List A) (n : ℕ) → n ≡ length xs → n ≡ 0 → xs ≡ []
none-left [] n e z = refl
none-left (x ∷ xs) n e z = absurd (omega (arith, e, z))

pub known-none : (types : List FuncType) (s : Runs) → s.below.items ≡ [] → run_of types s.last ≡ [] → (known types s).ops ≡ []
unfolding known
known-none types s b l = ap (λ r. r ++ runs_of types (reverse s.below.items)) l ∙ ap (λ b. runs_of types (reverse b)) b

pub peeked-none : (types : List FuncType) (p : Peek) → p.below.now ≡ [] → run_of types p.last ≡ [] → (peeked types p).ops ≡ []
unfolding peeked
peeked-none types p b l = ap (λ r. r ++ runs_of types (reverse p.below.now)) l ∙ ap (λ b. runs_of types (reverse b)) b

none-of-both : (xs rest ops : List Operand) → xs ++ rest ≡ ops → (xs ≡ [] → ops ≡ []) → is_empty xs ≡ is_empty ops
none-of-both [] rest ops e h = sym (ap is_empty (h refl))
none-of-both (x ∷ xs) rest ops e h = ap is_empty e

pub peeked-is-none : (types : List FuncType) (p : Peek) (old : Stack) → peeked types p ≡ old → (run_of types p.last ≡ [] → (peeked types p).ops ≡ []) → is_empty (run_of types p.last) ≡ is_empty old.ops
unfolding peeked
peeked-is-none types p old e h = none-of-both (run_of types p.last) (runs_of types (reverse p.below.now)) (peeked types p).ops refl h ∙ ap (λ (s : Stack). is_empty s.ops) e
