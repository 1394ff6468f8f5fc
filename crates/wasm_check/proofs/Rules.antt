-- One instruction: what the checker does is what the rule says.
use Rattle.std.proofs.Common.{◌≡◌, ℕ, zero, suc, List, [], ◌∷◌, ◌++◌, length, map, refl, sym, ap, ◌∙◌, subst, arith}
use Rattle.std.specs.Prelude.{Bool, true, false, Some, slice_get}
use Rattle.std.proofs.lemmas.List.{append-nil, length-reverse, length-map}
use Rattle.wasm_ast.specs.declared.types.ValType.{ValType}
use Rattle.wasm_ast.specs.declared.types.ValType.TheVariants.{I32}
use Rattle.wasm_ast.specs.declared.instructions.Instr.{Instr}
use Rattle.wasm_ast.specs.declared.instructions.Instr.TheVariants.{Unreachable, Br, BrIf, BrTable, Return, RefIsNull, Discard, Select}
use Rattle.wasm_check.specs.Contexts.{Context}
use Rattle.wasm_ast.specs.declared.types.FuncType.{FuncType}
use Rattle.wasm_check.specs.declared.operands.Operand.{Operand}
use Rattle.wasm_check.specs.declared.operands.Operand.TheVariants.{Of, Bottom}
use Rattle.wasm_check.specs.Operands.{Matches, AllMatch, operands, Takes, IsNumeric}
use Rattle.wasm_check.specs.Instructions.{HasType, Labels, EachTakes, Rule}
use Rattle.wasm_check.proofs.Signatures.{signature-sound, signature-complete}
use Rattle.wasm_check.specs.code.Checker.{signature, Stack, bind, when, onto, dead_end, pops, popped, with_pop, joined, reference, applies, acts, same_count, each_fits}
use Rattle.wasm_check.proofs.Stacks.{bind-some, when-some, Covers, General, Covered, Fits, Matches-self, Matches-on, fits-matches, popped-sound, popped-complete, pops-complete, with_pop-sound, with_pop-complete, joined-sound, joined-complete, reference-sound, reference-complete, applies-sound, applies-complete, Covers-append, General-append}

pub Covers-self : (dead : Bool) (ops : List Operand) → Covers dead ops ops
Covers-self true [] = tt
Covers-self false [] = refl
Covers-self dead (o ∷ ops) = (ops, refl, Covers-self dead ops)

pub Takes-self : (ts : List Operand) → Takes ts ts []
Takes-self [] = refl
Takes-self (t ∷ ts) = (t, ts, refl, Matches-self t, Takes-self ts)

pub Takes-split : (xs ys ts rest : List Operand) → Takes ts (xs ++ ys) rest → (mid : List Operand) × Takes ts xs mid × Takes mid ys rest
Takes-split [] ys ts rest k = (ts, refl, k)
Takes-split (x ∷ xs) ys ts rest k =
    let r : (mid : List Operand) × Takes k.1 xs mid × Takes mid ys rest = Takes-split xs ys k.1 rest k.4 in
    (r.0, (k.0, k.1, k.2, k.3, r.1), r.2)

pub Takes-join : (xs ys ts mid rest : List Operand) → Takes ts xs mid → Takes mid ys rest → Takes ts (xs ++ ys) rest
Takes-join [] ys ts mid rest k l = subst (λ mid. Takes mid ys rest) (sym k) l
Takes-join (x ∷ xs) ys ts mid rest k l = (k.0, k.1, k.2, k.3, Takes-join xs ys k.1 mid rest k.4 l)

Takes-match : (front wanted ts rest : List Operand) → Takes ts front rest → AllMatch front wanted → Takes ts wanted rest
Takes-match [] [] ts rest k m = k
Takes-match [] (u ∷ us) ts rest k m = absurd m
Takes-match (t ∷ front) [] ts rest k m = absurd m
Takes-match (t ∷ front) (u ∷ us) ts rest k m = (k.0, k.1, k.2, Matches-on k.0 t u k.3 m.0, Takes-match front us k.1 rest k.4 m.1)

-- br_table
filled : ℕ → List Operand → List Operand
filled zero ops = []
filled (suc n) [] = Bottom ∷ filled n []
filled (suc n) (o ∷ ops) = o ∷ filled n ops

filled-match : (wanted : List Operand) (dead : Bool) (ops gone : List Operand) → pops wanted dead ops ≡ Some gone → AllMatch (filled (length wanted) ops) wanted
unfolding filled
filled-match [] dead ops gone e = tt
filled-match (u ∷ wanted) dead [] gone e = let w : (dead ≡ true) × (pops wanted dead [] ≡ Some gone) = when-some _ _ gone e in (tt, filled-match wanted dead [] gone w.1)
filled-match (u ∷ wanted) dead (t ∷ ops) gone e = let w : (_ ≡ true) × (pops wanted dead ops ≡ Some gone) = when-some _ _ gone e in (fits-matches t u w.0, filled-match wanted dead ops gone w.1)

filled-covers : (wanted : List Operand) (dead : Bool) (ops gone : List Operand) → pops wanted dead ops ≡ Some gone → (any : List Operand) × Covers dead ops (filled (length wanted) ops ++ any)
unfolding filled
filled-covers [] dead ops gone e = (ops, Covers-self dead ops)
filled-covers (u ∷ wanted) true [] gone e = ([], tt)
filled-covers (u ∷ wanted) false [] gone e = cc
filled-covers (u ∷ wanted) dead (t ∷ ops) gone e =
    let w : (_ ≡ true) × (pops wanted dead ops ≡ Some gone) = when-some _ _ gone e in
    let r : (any : List Operand) × Covers dead ops (filled (length wanted) ops ++ any) = filled-covers wanted dead ops gone w.1 in
    (r.0, (filled (length wanted) ops ++ r.0, refl, r.1))

pub operands-length : (ts : List ValType) → length (operands ts) ≡ length ts
operands-length ts = length-reverse (map (λ t. Of t) ts) ∙ length-map ts (λ t. Of t)

pub same_count-true : (ts us : List ValType) → same_count ts us ≡ true → length ts ≡ length us
same_count-true [] [] e = refl
same_count-true [] (u ∷ us) e = cc
same_count-true (t ∷ ts) [] e = cc
same_count-true (t ∷ ts) (u ∷ us) e = ap (λ n. suc n) (same_count-true ts us e)

pub count-same : (ts us : List ValType) → length ts ≡ length us → same_count ts us ≡ true
count-same [] [] e = refl
count-same [] (u ∷ us) e = absurd (omega (arith, e))
count-same (t ∷ ts) [] e = absurd (omega (arith, e))
count-same (t ∷ ts) (u ∷ us) e = count-same ts us (omega (arith, e))

each-sound : (ls : Labels) (own : List ValType) (ks : List ℕ) (dead : Bool) (ops gone : List Operand) → each_fits ls own ks dead ops ≡ Some gone → EachTakes ls ks (filled (length own) ops)
each-sound ls own [] dead ops gone e = tt
each-sound ls own (k ∷ ks) dead ops gone e =
    let b : (these : List ValType) × (slice_get ls k ≡ Some these) × (when (same_count these own) (bind (pops (operands these) dead ops) (λ gone. each_fits ls own ks dead ops)) ≡ Some gone) = bind-some _ _ gone e in
    let w : (same_count b.0 own ≡ true) × (bind (pops (operands b.0) dead ops) (λ gone. each_fits ls own ks dead ops) ≡ Some gone) = when-some _ _ gone b.2 in
    let p : (left : List Operand) × (pops (operands b.0) dead ops ≡ Some left) × (each_fits ls own ks dead ops ≡ Some gone) = bind-some _ _ gone w.1 in
    let long : length (operands b.0) ≡ length own = operands-length b.0 ∙ same_count-true b.0 own w.0 in
    ((b.0, b.1, subst (λ n. AllMatch (filled n ops) (operands b.0)) long (filled-match (operands b.0) dead ops p.0 p.1)), each-sound ls own ks dead ops gone p.2)

AllMatch-length : (ts us : List Operand) → AllMatch ts us → length ts ≡ length us
AllMatch-length [] [] m = refl
AllMatch-length [] (u ∷ us) m = absurd m
AllMatch-length (t ∷ ts) [] m = absurd m
AllMatch-length (t ∷ ts) (u ∷ us) m = ap (λ n. suc n) (AllMatch-length ts us m.1)

each-complete : (ls : Labels) (own : List ValType) (ks : List ℕ) (dead : Bool) (ops front ts rest : List Operand) → length own ≡ length front → EachTakes ls ks front → Takes ts front rest → General dead ops ts →
    (gone : List Operand) × (each_fits ls own ks dead ops ≡ Some gone)
each-complete ls own [] dead ops front ts rest n m k g = (ops, refl)
each-complete ls own (l ∷ ks) dead ops front ts rest n m k g =
    let these : List ValType = m.0.0 in
    let p : (left : List Operand) × (pops (operands these) dead ops ≡ Some left) × General dead left rest = pops-complete (operands these) dead ops ts rest (Takes-match front (operands these) ts rest k m.0.2) g in
    let long : length these ≡ length own = sym (operands-length these) ∙ sym (AllMatch-length front (operands these) m.0.2) ∙ sym n in
    let r : (gone : List Operand) × (each_fits ls own ks dead ops ≡ Some gone) = each-complete ls own ks dead ops front ts rest n m.1 k g in
    (r.0, rw (m.0.1, count-same these own long, p.1) r.1)

-- what the checker makes of an instruction, the rule allows: to operands that the new stack stands for from some that the old one stands for
abbrev pub Sound : Context → Labels → Instr → Stack → List Operand → Type 0
Sound C ls i s us = (a b rest ts : List Operand) × Rule C ls i a b × Takes ts a rest × (us ≡ b ++ rest) × Covered s ts

-- an instruction of one type
abbrev BySignature : Context → Instr → Stack → List Operand → Type 0
BySignature C i s us =
    (own : FuncType) × (rest ts : List Operand) × HasType C i own × (us ≡ operands own.results ++ rest) × Covered s ts × Takes ts (operands own.params) rest

by_signature-sound : (C : Context) (i : Instr) (s t : Stack) (us : List Operand) → bind (signature C i) (λ own. applies own.params own.results s) ≡ Some t → Covered t us → BySignature C i s us
by_signature-sound C i s t us e h =
    let b : (own : FuncType) × (signature C i ≡ Some own) × (applies own.params own.results s ≡ Some t) = bind-some _ _ t e in
    let r : (rest ts : List Operand) × (us ≡ operands b.0.results ++ rest) × Covered s ts × Takes ts (operands b.0.params) rest = applies-sound b.0.params b.0.results s t us b.2 h in
    (b.0, r.0, r.1, signature-sound C i b.0 b.1, r.2, r.3, r.4)

-- after an unconditional branch
by_branch-sound : (C : Context) (ls : Labels) (i : Instr) (own : List Operand) (s t : Stack) (us : List Operand) → ((any b : List Operand) → Rule C ls i (own ++ any) b) → popped own s ≡ Some t → Sound C ls i s us
by_branch-sound C ls i own s t us rule e =
    let r : (ts : List Operand) × Covered s ts × Takes ts own t.ops = popped-sound own s t t.ops e (Covers-self t.dead t.ops) in
    (own ++ t.ops, us, [], r.0, rule t.ops us, Takes-join own t.ops r.0 t.ops [] r.2 (Takes-self t.ops), sym (append-nil us), r.1)

pub acts-sound : (C : Context) (ls : Labels) (i : Instr) (s t : Stack) (us : List Operand) → acts C ls i s ≡ Some t → Covered t us → Sound C ls i s us
acts-sound C ls RefIsNull s t us e h =
    let p : (o : Operand) × (gone : List Operand) × (when (reference o) (Some (record s { ops = Of I32 ∷ gone })) ≡ Some t) × ((us : List Operand) → Covers s.dead gone us → Covers s.dead s.ops (o ∷ us)) = with_pop-sound s.dead s.ops _ t e in
    let w : (reference p.0 ≡ true) × (Some (record s { ops = Of I32 ∷ p.1 }) ≡ Some t) = when-some _ _ t p.2 in
    let same : t ≡ record s { ops = Of I32 ∷ p.1 } = cc in
    let c : Covers s.dead (Of I32 ∷ p.1) us = subst (λ t. Covered t us) same h in
    (p.0 ∷ [], Of I32 ∷ [], c.0, p.0 ∷ c.0, (p.0, reference-sound p.0 w.0, refl, refl), (p.0, c.0, refl, Matches-self p.0, refl), c.1, p.3 c.0 c.2)
acts-sound C ls Discard s t us e h =
    let p : (o : Operand) × (gone : List Operand) × (Some (record s { ops = gone }) ≡ Some t) × ((us : List Operand) → Covers s.dead gone us → Covers s.dead s.ops (o ∷ us)) = with_pop-sound s.dead s.ops _ t e in
    let same : t ≡ record s { ops = p.1 } = cc in
    let c : Covers s.dead p.1 us = subst (λ t. Covered t us) same h in
    (p.0 ∷ [], [], us, p.0 ∷ us, (p.0, refl, refl), (p.0, us, refl, Matches-self p.0, refl), refl, p.3 us c)
acts-sound C ls Select s t us e h =
    let b : (v : Stack) × (popped (Of I32 ∷ []) s ≡ Some v) × (with_pop v.dead v.ops (λ t ops. with_pop v.dead ops (λ u ops. bind (joined t u) (λ w. Some (record v { ops = w ∷ ops })))) ≡ Some t) = bind-some _ _ t e in
    let p : (o : Operand) × (gone : List Operand) × (with_pop b.0.dead gone (λ u ops. bind (joined o u) (λ w. Some (record b.0 { ops = w ∷ ops }))) ≡ Some t) × ((us : List Operand) → Covers b.0.dead gone us → Covered b.0 (o ∷ us)) = with_pop-sound b.0.dead b.0.ops _ t b.2 in
    let q : (o : Operand) × (gone : List Operand) × (bind (joined p.0 o) (λ w. Some (record b.0 { ops = w ∷ gone })) ≡ Some t) × ((us : List Operand) → Covers b.0.dead gone us → Covers b.0.dead p.1 (o ∷ us)) = with_pop-sound b.0.dead p.1 _ t p.2 in
    let j : (w : Operand) × (joined p.0 q.0 ≡ Some w) × (Some (record (b.0) { ops = w ∷ q.1 }) ≡ Some t) = bind-some _ _ t q.2 in
    let same : t ≡ record (b.0) { ops = j.0 ∷ q.1 } = cc in
    let c : Covers b.0.dead (j.0 ∷ q.1) us = subst (λ t. Covered t us) same h in
    let m : IsNumeric j.0 × Matches p.0 j.0 × Matches q.0 j.0 = joined-sound p.0 q.0 j.0 j.1 in
    let r : (ts : List Operand) × Covered s ts × Takes ts (Of I32 ∷ []) (p.0 ∷ q.0 ∷ c.0) = popped-sound (Of I32 ∷ []) s b.0 (p.0 ∷ q.0 ∷ c.0) b.1 (p.3 (q.0 ∷ c.0) (q.3 c.0 c.2)) in (
      Of I32 ∷ j.0 ∷ j.0 ∷ [],
      j.0 ∷ [],
      c.0,
      r.0,
      (j.0, m.0, refl, refl),
      Takes-join (Of I32 ∷ []) (j.0 ∷ j.0 ∷ []) r.0 (p.0 ∷ q.0 ∷ c.0) c.0 r.2 (p.0, q.0 ∷ c.0, refl, m.1, (q.0, c.0, refl, m.2, refl)),
      c.1,
      r.1,
    )
acts-sound C ls (Br k) s t us e h =
    let b : (own : List ValType) × (slice_get ls k ≡ Some own) × (bind (popped (operands own) s) (λ s. Some dead_end) ≡ Some t) = bind-some _ _ t e in
    let p : (v : Stack) × (popped (operands b.0) s ≡ Some v) × (Some dead_end ≡ Some t) = bind-some _ _ t b.2 in
    by_branch-sound C ls (Br k) (operands b.0) s p.0 us (λ any after. (b.0, any, b.1, refl)) p.1
acts-sound C ls (BrIf k) s t us e h =
    let b : (own : List ValType) × (slice_get ls k ≡ Some own) × (bind (popped (Of I32 ∷ operands own) s) (λ s. Some (onto (operands own) s)) ≡ Some t) = bind-some _ _ t e in
    let p : (v : Stack) × (popped (Of I32 ∷ operands b.0) s ≡ Some v) × (Some (onto (operands b.0) v) ≡ Some t) = bind-some _ _ t b.2 in
    let same : t ≡ onto (operands b.0) p.0 = cc in
    let c : (rest : List Operand) × (us ≡ operands b.0 ++ rest) × Covered p.0 rest = Covers-append (operands b.0) p.0.dead p.0.ops us (subst (λ t. Covered t us) same h) in
    let r : (ts : List Operand) × Covered s ts × Takes ts (Of I32 ∷ operands b.0) c.0 = popped-sound (Of I32 ∷ operands b.0) s p.0 c.0 p.1 c.2 in
    (Of I32 ∷ operands b.0, operands b.0, c.0, r.0, (b.0, b.1, refl, refl), r.2, c.1, r.1)
acts-sound C ls (BrTable ks last) s t us e h =
    let b : (v : Stack) × (popped (Of I32 ∷ []) s ≡ Some v) × (bind (slice_get ls last) (λ own. bind (each_fits ls own (last ∷ ks) v.dead v.ops) (λ gone. Some dead_end)) ≡ Some t) = bind-some _ _ t e in
    let o : (own : List ValType) × (slice_get ls last ≡ Some own) × (bind (each_fits ls own (last ∷ ks) b.0.dead b.0.ops) (λ gone. Some dead_end) ≡ Some t) = bind-some _ _ t b.2 in
    let p : (gone : List Operand) × (each_fits ls o.0 (last ∷ ks) b.0.dead b.0.ops ≡ Some gone) × (Some dead_end ≡ Some t) = bind-some _ _ t o.2 in
    let each : EachTakes ls (last ∷ ks) (filled (length o.0) b.0.ops) = each-sound ls o.0 (last ∷ ks) b.0.dead b.0.ops p.0 p.1 in
    let c : (any : List Operand) × Covered b.0 (filled (length o.0) b.0.ops ++ any) = last_covers o.0 b.0 p.0 o.1 p.1 in
    let all : List Operand = filled (length o.0) b.0.ops ++ c.0 in
    let r : (ts : List Operand) × Covered s ts × Takes ts (Of I32 ∷ []) all = popped-sound (Of I32 ∷ []) s b.0 all b.1 c.1 in
    (Of I32 ∷ all, us, [], r.0, (filled (length o.0) b.0.ops, c.0, each, refl), Takes-join (Of I32 ∷ []) all r.0 all [] r.2 (Takes-self all), sym (append-nil us), r.1)
  where
    last_covers : (own : List ValType) (v : Stack) (gone : List Operand) → slice_get ls last ≡ Some own → each_fits ls own (last ∷ ks) v.dead v.ops ≡ Some gone → (any : List Operand) × Covered v (filled (length own) v.ops ++ any)
    last_covers own v gone is e =
        let b : (these : List ValType) × (slice_get ls last ≡ Some these) × (when (same_count these own) (bind (pops (operands these) v.dead v.ops) (λ gone. each_fits ls own ks v.dead v.ops)) ≡ Some gone) = bind-some _ _ gone e in
        let w : (same_count b.0 own ≡ true) × (bind (pops (operands b.0) v.dead v.ops) (λ gone. each_fits ls own ks v.dead v.ops) ≡ Some gone) = when-some _ _ gone b.2 in
        let p : (left : List Operand) × (pops (operands b.0) v.dead v.ops ≡ Some left) × (each_fits ls own ks v.dead v.ops ≡ Some gone) = bind-some _ _ gone w.1 in
        let long : length (operands b.0) ≡ length own = operands-length b.0 ∙ same_count-true b.0 own w.0 in
        subst (λ n. (any : List Operand) × Covered v (filled n v.ops ++ any)) long (filled-covers (operands b.0) v.dead v.ops p.0 p.1)
acts-sound C ls Return s t us e h =
    let p : (v : Stack) × (popped (operands C.results) s ≡ Some v) × (Some dead_end ≡ Some t) = bind-some _ _ t e in
    by_branch-sound C ls Return (operands C.results) s p.0 us (λ any after. (any, refl)) p.1
acts-sound C ls Unreachable s t us e h = (s.ops, us, [], s.ops, tt, Takes-self s.ops, sym (append-nil us), Covers-self s.dead s.ops)
acts-sound C ls i s t us e h =
    let r : BySignature C i s us = by_signature-sound C i s t us e h in
    (operands r.0.params, operands r.0.results, r.1, r.2, (r.0, r.3, refl, refl), r.6, r.4, r.5)

-- what the rule allows, the checker makes
abbrev pub Complete : Context → Labels → Instr → Stack → List Operand → Type 0
Complete C ls i s us = (t : Stack) × (acts C ls i s ≡ Some t) × Fits t us

by_signature-complete : (C : Context) (i : Instr) (own : FuncType) (s : Stack) (a b ts rest : List Operand) → HasType C i own → (a ≡ operands own.params) → (b ≡ operands own.results) → Takes ts a rest → Fits s ts →
    (t : Stack) × (bind (signature C i) (λ own. applies own.params own.results s) ≡ Some t) × Fits t (b ++ rest)
by_signature-complete C i own s a b ts rest has e d k g =
    let r : (t : Stack) × (applies own.params own.results s ≡ Some t) × Fits t (operands own.results ++ rest) = applies-complete own.params own.results s ts rest (subst (λ a. Takes ts a rest) e k) g in
    (r.0, ap (λ o. bind o (λ own. applies own.params own.results s)) (signature-complete C i own has) ∙ r.1, subst (λ b. Fits r.0 (b ++ rest)) (sym d) r.2)

pub acts-complete : (C : Context) (ls : Labels) (i : Instr) (s : Stack) (a b ts rest : List Operand) → Rule C ls i a b → Takes ts a rest → Fits s ts → Complete C ls i s (b ++ rest)
acts-complete C ls RefIsNull s a b ts rest r k g =
    let l : Takes ts (r.0 ∷ []) rest = subst (λ a. Takes ts a rest) r.2 k in
    let p : (o : Operand) × (gone : List Operand) × (with_pop s.dead s.ops (λ t ops. when (reference t) (Some (record s { ops = Of I32 ∷ ops }))) ≡ when (reference o) (Some (record s { ops = Of I32 ∷ gone }))) × Matches o l.0 × General s.dead gone l.1 = with_pop-complete s.dead s.ops _ l.0 l.1 ts l.2 g in
    let passes : reference p.0 ≡ true = reference-complete p.0 r.0 (Matches-on p.0 l.0 r.0 p.3 l.3) r.1 in (
      record s { ops = Of I32 ∷ p.1 },
      p.2 ∙ ap (λ b. when b (Some (record s { ops = Of I32 ∷ p.1 }))) passes,
      subst (λ b. Fits (record s { ops = Of I32 ∷ p.1 }) (b ++ rest)) (sym r.3) (Of I32, rest, refl, refl, subst (λ x. General s.dead p.1 x) l.4 p.4),
    )
acts-complete C ls Discard s a b ts rest r k g =
    let l : Takes ts (r.0 ∷ []) rest = subst (λ a. Takes ts a rest) r.1 k in
    let p : (o : Operand) × (gone : List Operand) × (with_pop s.dead s.ops (λ t ops. Some (record s { ops = ops })) ≡ Some (record s { ops = gone })) × Matches o l.0 × General s.dead gone l.1 = with_pop-complete s.dead s.ops _ l.0 l.1 ts l.2 g in
    (record s { ops = p.1 }, p.2, subst (λ b. Fits (record s { ops = p.1 }) (b ++ rest)) (sym r.2) (subst (λ x. General s.dead p.1 x) l.4 p.4))
acts-complete C ls Select s a b ts rest r k g =
    let l : (mid : List Operand) × Takes ts (Of I32 ∷ []) mid × Takes mid (r.0 ∷ r.0 ∷ []) rest = Takes-split (Of I32 ∷ []) (r.0 ∷ r.0 ∷ []) ts rest (subst (λ a. Takes ts a rest) r.2 k) in
    let v : (v : Stack) × (popped (Of I32 ∷ []) s ≡ Some v) × Fits v l.0 = popped-complete (Of I32 ∷ []) s ts l.0 l.1 g in
    let p : (o : Operand) × (gone : List Operand) × (with_pop v.0.dead v.0.ops (λ t ops. with_pop v.0.dead ops (λ u ops. bind (joined t u) (λ w. Some (record (v.0) { ops = w ∷ ops })))) ≡ with_pop v.0.dead gone (λ u ops. bind (joined o u) (λ w. Some (record (v.0) { ops = w ∷ ops })))) × Matches o l.2.0 × General v.0.dead gone l.2.1 =
    with_pop-complete v.0.dead v.0.ops _ l.2.0 l.2.1 l.0 l.2.2 v.2 in
    let q : (o : Operand) × (gone : List Operand) × (with_pop v.0.dead p.1 (λ u ops. bind (joined p.0 u) (λ w. Some (record (v.0) { ops = w ∷ ops }))) ≡ bind (joined p.0 o) (λ w. Some (record (v.0) { ops = w ∷ gone }))) × Matches o l.2.4.0 × General v.0.dead gone l.2.4.1 =
    with_pop-complete v.0.dead p.1 _ l.2.4.0 l.2.4.1 l.2.1 l.2.4.2 p.4 in
    let j : (w : Operand) × (joined p.0 q.0 ≡ Some w) × Matches w r.0 = joined-complete p.0 q.0 r.0 r.1 (Matches-on p.0 l.2.0 r.0 p.3 l.2.3) (Matches-on q.0 l.2.4.0 r.0 q.3 l.2.4.3) in
    let out : Stack = record (v.0) { ops = j.0 ∷ q.1 } in (
      out,
      rw v.1 (p.2 ∙ q.2 ∙ ap (λ o. bind o (λ w. Some (record (v.0) { ops = w ∷ q.1 }))) j.1),
      subst (λ b. Fits out (b ++ rest)) (sym r.3) (r.0, rest, refl, j.2, subst (λ x. General v.0.dead q.1 x) l.2.4.4 q.4),
    )
acts-complete C ls (Br l) s a b ts rest r k g =
    let m : (mid : List Operand) × Takes ts (operands r.0) mid × Takes mid r.1 rest = Takes-split (operands r.0) r.1 ts rest (subst (λ a. Takes ts a rest) r.3 k) in
    let p : (v : Stack) × (popped (operands r.0) s ≡ Some v) × Fits v m.0 = popped-complete (operands r.0) s ts m.0 m.1 g in
    (dead_end, rw (r.2, p.1), tt)
acts-complete C ls (BrIf l) s a b ts rest r k g =
    let p : (v : Stack) × (popped (Of I32 ∷ operands r.0) s ≡ Some v) × Fits v rest = popped-complete (Of I32 ∷ operands r.0) s ts rest (subst (λ a. Takes ts a rest) r.2 k) g in
    (onto (operands r.0) p.0, rw (r.1, p.1), subst (λ b. Fits (onto (operands r.0) p.0) (b ++ rest)) (sym r.3) (General-append (operands r.0) p.0.dead p.0.ops rest p.2))
acts-complete C ls (BrTable ks last) s a b ts rest r k g =
    let l : (mid : List Operand) × Takes ts (Of I32 ∷ []) mid × Takes mid (r.0 ++ r.1) rest = Takes-split (Of I32 ∷ []) (r.0 ++ r.1) ts rest (subst (λ a. Takes ts a rest) r.3 k) in
    let m : (mid : List Operand) × Takes l.0 r.0 mid × Takes mid r.1 rest = Takes-split r.0 r.1 l.0 rest l.2 in
    let v : (v : Stack) × (popped (Of I32 ∷ []) s ≡ Some v) × Fits v l.0 = popped-complete (Of I32 ∷ []) s ts l.0 l.1 g in
    let own : List ValType = r.2.0.0 in
    let long : length own ≡ length r.0 = sym (operands-length own) ∙ sym (AllMatch-length r.0 (operands own) r.2.0.2) in
    let e : (gone : List Operand) × (each_fits ls own (last ∷ ks) v.0.dead v.0.ops ≡ Some gone) = each-complete ls own (last ∷ ks) v.0.dead v.0.ops r.0 l.0 m.0 long r.2 m.1 v.2 in (
      dead_end,
      ap (λ o. bind o (λ v. bind (slice_get ls last) (λ own. bind (each_fits ls own (last ∷ ks) v.dead v.ops) (λ gone. Some dead_end)))) v.1
          ∙ ap (λ o. bind o (λ own. bind (each_fits ls own (last ∷ ks) v.0.dead v.0.ops) (λ gone. Some dead_end))) r.2.0.1
          ∙ ap (λ o. bind o (λ (gone : List Operand). Some dead_end)) e.1,
      tt,
    )
acts-complete C ls Return s a b ts rest r k g =
    let m : (mid : List Operand) × Takes ts (operands C.results) mid × Takes mid r.0 rest = Takes-split (operands C.results) r.0 ts rest (subst (λ a. Takes ts a rest) r.1 k) in
    let p : (v : Stack) × (popped (operands C.results) s ≡ Some v) × Fits v m.0 = popped-complete (operands C.results) s ts m.0 m.1 g in
    (dead_end, rw p.1, tt)
acts-complete C ls Unreachable s a b ts rest r k g = (dead_end, refl, tt)
acts-complete C ls i s a b ts rest r k g = by_signature-complete C i r.0 s a b ts rest r.1 r.2 r.3 k g
