-- What a stack of the checker stands for, and the checker's parts on it.
use Rattle.std.proofs.Common.{◌≡◌, List, [], ◌∷◌, ◌++◌, refl, sym, ap, ◌∙◌, subst}
use Rattle.std.specs.Prelude.{Bool, true, false, Option, Some, None}
use Rattle.wasm_ast.specs.declared.types.ValType.{ValType}
use Rattle.wasm_ast.specs.declared.types.ValType.TheVariants.{I32, I64, FuncRef, ExternRef}
use Rattle.wasm_check.specs.declared.operands.Operand.{Operand}
use Rattle.wasm_check.specs.declared.operands.Operand.TheVariants.{Of, Bottom}
use Rattle.wasm_check.specs.Operands.{Matches, operands, Takes, IsNumeric, IsReference}
use Rattle.wasm_check.specs.code.Checker.{fits, Stack, bind, when, onto, pops, popped, with_pop, numeric, common, joined, reference, applies}
use Rattle.wasm_check.specs.Operands.{same_type}

pub bind-some : {A B : Type 0} (o : Option A) (go : A → Option B) (y : B) → bind o go ≡ Some y → (x : A) × (o ≡ Some x) × (go x ≡ Some y)
bind-some None go y e = cc
bind-some (Some x) go y e = (x, refl, e)

pub when-some : {B : Type 0} (b : Bool) (go : Option B) (y : B) → when b go ≡ Some y → (b ≡ true) × (go ≡ Some y)
when-some true go y e = (refl, e)
when-some false go y e = cc

-- the operands at the base of a sequence
abbrev pub Base : Bool → List Operand → Type 0
Base true ts = Unit {0}
Base false ts = ts ≡ []

-- a stack stands for these very operands, with any others below where it is dead
abbrev pub Covers : Bool → List Operand → List Operand → Type 0
Covers dead [] ts = Base dead ts
Covers dead (o ∷ ops) ts = (rest : List Operand) × (ts ≡ o ∷ rest) × Covers dead ops rest

-- the operands of a stack match these
abbrev pub General : Bool → List Operand → List Operand → Type 0
General dead [] ts = Base dead ts
General dead (o ∷ ops) ts = (t : Operand) × (rest : List Operand) × (ts ≡ t ∷ rest) × Matches o t × General dead ops rest

pub same_type-true : (t u : ValType) → same_type t u ≡ true → t ≡ u
same_type-true I32 I32 e = refl
same_type-true I64 I64 e = refl
same_type-true FuncRef FuncRef e = refl
same_type-true ExternRef ExternRef e = refl
same_type-true _ _ e = cc

pub same_type-self : (t : ValType) → same_type t t ≡ true
same_type-self I32 = refl
same_type-self I64 = refl
same_type-self FuncRef = refl
same_type-self ExternRef = refl

pub Matches-self : (t : Operand) → Matches t t
Matches-self (Of t) = refl
Matches-self Bottom = tt

pub Matches-on : (t u v : Operand) → Matches t u → Matches u v → Matches t v
Matches-on (Of t) u v p q = let P : Operand → Type 0 = λ w. Matches w v in subst P (sym p) q
Matches-on Bottom u v p q = tt

pub fits-matches : (t u : Operand) → fits t u ≡ true → Matches t u
fits-matches Bottom u e = tt
fits-matches (Of t) Bottom e = cc
fits-matches (Of t) (Of u) e = ap (λ v. Of v) (same_type-true t u e)

pub matches-fits : (t u : Operand) → Matches t u → fits t u ≡ true
matches-fits Bottom u m = refl
matches-fits (Of t) u m = let P : Operand → Type 0 = λ w. fits (Of t) w ≡ true in subst P m (same_type-self t)

pub pops-sound : (wanted : List Operand) (dead : Bool) (ops gone us : List Operand) → pops wanted dead ops ≡ Some gone → Covers dead gone us → (ts : List Operand) × Covers dead ops ts × Takes ts wanted us
pops-sound [] dead ops gone us e h = let same : gone ≡ ops = cc in (us, subst (λ ops. Covers dead ops us) same h, refl)
pops-sound (u ∷ wanted) true [] gone us e h =
    let r : (ts : List Operand) × Covers true [] ts × Takes ts wanted us = pops-sound wanted true [] gone us e h in
    (u ∷ r.0, tt, (u, r.0, refl, Matches-self u, r.2))
pops-sound (u ∷ wanted) false [] gone us e h = cc
pops-sound (u ∷ wanted) dead (t ∷ ops) gone us e h =
    let w : (fits t u ≡ true) × (pops wanted dead ops ≡ Some gone) = when-some (fits t u) _ gone e in
    let r : (ts : List Operand) × Covers dead ops ts × Takes ts wanted us = pops-sound wanted dead ops gone us w.1 h in
    (t ∷ r.0, (r.0, refl, r.1), (t, r.0, refl, fits-matches t u w.0, r.2))

pub pops-complete : (wanted : List Operand) (dead : Bool) (ops ts us : List Operand) → Takes ts wanted us → General dead ops ts → (gone : List Operand) × (pops wanted dead ops ≡ Some gone) × General dead gone us
pops-complete [] dead ops ts us k g = (ops, refl, subst (λ ts. General dead ops ts) k g)
pops-complete (u ∷ wanted) true [] ts us k g = pops-complete wanted true [] k.1 us k.4 tt
pops-complete (u ∷ wanted) false [] ts us k g = let no_more : [] ≡ k.0 ∷ k.1 = sym g ∙ k.2 in cc
pops-complete (u ∷ wanted) dead (o ∷ ops) ts us k g =
    let both : g.0 ∷ g.1 ≡ k.0 ∷ k.1 = sym g.2 ∙ k.2 in
    let first : g.0 ≡ k.0 = cc in
    let others : g.1 ≡ k.1 = cc in
    let passes : fits o u ≡ true = matches-fits o u (Matches-on o k.0 u (subst (λ t. Matches o t) first g.3) k.3) in
    let r : (gone : List Operand) × (pops wanted dead ops ≡ Some gone) × General dead gone us = pops-complete wanted dead ops k.1 us k.4 (subst (λ rest. General dead ops rest) others g.4) in
    (r.0, ap (λ b. when b (pops wanted dead ops)) passes ∙ r.1, r.2)

pub Covers-append : (ys : List Operand) (dead : Bool) (ops us : List Operand) → Covers dead (ys ++ ops) us → (rest : List Operand) × (us ≡ ys ++ rest) × Covers dead ops rest
Covers-append [] dead ops us h = (us, refl, h)
Covers-append (y ∷ ys) dead ops us h =
    let r : (rest : List Operand) × (h.0 ≡ ys ++ rest) × Covers dead ops rest = Covers-append ys dead ops h.0 h.2 in
    (r.0, h.1 ∙ ap (λ l. y ∷ l) r.1, r.2)

pub General-append : (ys : List Operand) (dead : Bool) (ops ts : List Operand) → General dead ops ts → General dead (ys ++ ops) (ys ++ ts)
General-append [] dead ops ts g = g
General-append (y ∷ ys) dead ops ts g = (y, ys ++ ts, refl, Matches-self y, General-append ys dead ops ts g)

abbrev pub Covered : Stack → List Operand → Type 0
Covered s ts = Covers s.dead s.ops ts

abbrev pub Fits : Stack → List Operand → Type 0
Fits s ts = General s.dead s.ops ts

pub popped-sound : (wanted : List Operand) (s t : Stack) (us : List Operand) → popped wanted s ≡ Some t → Covered t us → (ts : List Operand) × Covered s ts × Takes ts wanted us
popped-sound wanted s t us e h =
    let b : (ops : List Operand) × (pops wanted s.dead s.ops ≡ Some ops) × (Some (record s { ops = ops }) ≡ Some t) = bind-some _ _ t e in
    let same : t ≡ record s { ops = b.0 } = cc in
    pops-sound wanted s.dead s.ops b.0 us b.1 (subst (λ t. Covered t us) same h)

pub popped-complete : (wanted : List Operand) (s : Stack) (ts us : List Operand) → Takes ts wanted us → Fits s ts → (t : Stack) × (popped wanted s ≡ Some t) × Fits t us
popped-complete wanted s ts us k g =
    let r : (gone : List Operand) × (pops wanted s.dead s.ops ≡ Some gone) × General s.dead gone us = pops-complete wanted s.dead s.ops ts us k g in
    (record s { ops = r.0 }, ap (λ o. bind o (λ ops. Some (record s { ops = ops }))) r.1, r.2)

pub with_pop-sound : {B : Type 0} (dead : Bool) (ops : List Operand) (go : Operand → List Operand → Option B) (y : B) → with_pop dead ops go ≡ Some y →
    (t : Operand) × (gone : List Operand) × (go t gone ≡ Some y) × ((us : List Operand) → Covers dead gone us → Covers dead ops (t ∷ us))
with_pop-sound true [] go y e = (Bottom, [], e, λ us h. tt)
with_pop-sound false [] go y e = cc
with_pop-sound dead (t ∷ ops) go y e = (t, ops, e, λ us h. (us, refl, h))

pub with_pop-complete : {B : Type 0} (dead : Bool) (ops : List Operand) (go : Operand → List Operand → Option B) (t : Operand) (others ts : List Operand) → ts ≡ t ∷ others → General dead ops ts →
    (o : Operand) × (gone : List Operand) × (with_pop dead ops go ≡ go o gone) × Matches o t × General dead gone others
with_pop-complete true [] go t others ts e g = (Bottom, [], refl, tt, tt)
with_pop-complete false [] go t others ts e g = let no_more : [] ≡ t ∷ others = sym g ∙ e in cc
with_pop-complete dead (o ∷ ops) go t others ts e g =
    let both : g.0 ∷ g.1 ≡ t ∷ others = sym g.2 ∙ e in
    let first : g.0 ≡ t = cc in
    let same : g.1 ≡ others = cc in
    (o, ops, refl, subst (λ t. Matches o t) first g.3, subst (λ rest. General dead ops rest) same g.4)

common-sound : (t u v : Operand) → common t u ≡ Some v → Matches t v × Matches u v
common-sound Bottom u v e = let same : u ≡ v = cc in (tt, subst (λ w. Matches u w) same (Matches-self u))
common-sound (Of t) Bottom v e = let same : Of t ≡ v = cc in (same, tt)
common-sound (Of t) (Of u) v e =
    let w : (same_type t u ≡ true) × (Some (Of t) ≡ Some v) = when-some _ _ v e in
    let same : Of t ≡ v = cc in
    (same, ap (λ t. Of t) (sym (same_type-true t u w.0)) ∙ same)

common-complete : (t u v : Operand) → Matches t v → Matches u v → (w : Operand) × (common t u ≡ Some w) × Matches w v
common-complete Bottom u v p q = (u, refl, q)
common-complete (Of t) Bottom v p q = (Of t, refl, p)
common-complete (Of t) (Of u) v p q =
    let same : t ≡ u = cc in
    (Of t, ap (λ b. when b (Some (Of t))) (ap (same_type t) (sym same) ∙ same_type-self t), p)

numeric-true : (t : Operand) → numeric t ≡ true → IsNumeric t
numeric-true Bottom e = tt
numeric-true (Of I32) e = tt
numeric-true (Of I64) e = tt
numeric-true (Of FuncRef) e = cc
numeric-true (Of ExternRef) e = cc

numeric-matches : (t u : Operand) → Matches t u → IsNumeric u → numeric t ≡ true
numeric-matches Bottom u m r = refl
numeric-matches (Of I32) u m r = refl
numeric-matches (Of I64) u m r = refl
numeric-matches (Of FuncRef) u m r = absurd (subst IsNumeric (sym m) r)
numeric-matches (Of ExternRef) u m r = absurd (subst IsNumeric (sym m) r)

pub joined-sound : (t u v : Operand) → joined t u ≡ Some v → IsNumeric v × Matches t v × Matches u v
joined-sound t u v e =
    let b : (w : Operand) × (common t u ≡ Some w) × (when (numeric w) (Some w) ≡ Some v) = bind-some _ _ v e in
    let w : (numeric b.0 ≡ true) × (Some b.0 ≡ Some v) = when-some _ _ v b.2 in
    let same : b.0 ≡ v = cc in
    let m : Matches t b.0 × Matches u b.0 = common-sound t u b.0 b.1 in
    (subst IsNumeric same (numeric-true b.0 w.0), subst (λ w. Matches t w) same m.0, subst (λ w. Matches u w) same m.1)

pub joined-complete : (t u v : Operand) → IsNumeric v → Matches t v → Matches u v → (w : Operand) × (joined t u ≡ Some w) × Matches w v
joined-complete t u v n p q =
    let c : (w : Operand) × (common t u ≡ Some w) × Matches w v = common-complete t u v p q in
    (c.0, ap (λ o. bind o (λ w. when (numeric w) (Some w))) c.1 ∙ ap (λ b. when b (Some c.0)) (numeric-matches c.0 v c.2 n), c.2)

pub reference-sound : (t : Operand) → reference t ≡ true → IsReference t
reference-sound Bottom e = tt
reference-sound (Of I32) e = cc
reference-sound (Of I64) e = cc
reference-sound (Of FuncRef) e = tt
reference-sound (Of ExternRef) e = tt

pub reference-complete : (t u : Operand) → Matches t u → IsReference u → reference t ≡ true
reference-complete Bottom u m r = refl
reference-complete (Of I32) u m r = absurd (subst IsReference (sym m) r)
reference-complete (Of I64) u m r = absurd (subst IsReference (sym m) r)
reference-complete (Of FuncRef) u m r = refl
reference-complete (Of ExternRef) u m r = refl

pub applies-sound : (xs ys : List ValType) (s t : Stack) (us : List Operand) → applies xs ys s ≡ Some t → Covered t us →
    (rest ts : List Operand) × (us ≡ operands ys ++ rest) × Covered s ts × Takes ts (operands xs) rest
applies-sound xs ys s t us e h =
    let b : (v : Stack) × (popped (operands xs) s ≡ Some v) × (Some (onto (operands ys) v) ≡ Some t) = bind-some _ _ t e in
    let same : t ≡ onto (operands ys) b.0 = cc in
    let c : (rest : List Operand) × (us ≡ operands ys ++ rest) × Covered b.0 rest = Covers-append (operands ys) b.0.dead b.0.ops us (subst (λ t. Covered t us) same h) in
    let r : (ts : List Operand) × Covered s ts × Takes ts (operands xs) c.0 = popped-sound (operands xs) s b.0 c.0 b.1 c.2 in
    (c.0, r.0, c.1, r.1, r.2)

pub applies-complete : (xs ys : List ValType) (s : Stack) (ts rest : List Operand) → Takes ts (operands xs) rest → Fits s ts → (t : Stack) × (applies xs ys s ≡ Some t) × Fits t (operands ys ++ rest)
applies-complete xs ys s ts rest k g =
    let r : (v : Stack) × (popped (operands xs) s ≡ Some v) × Fits v rest = popped-complete (operands xs) s ts rest k g in
    (onto (operands ys) r.0, ap (λ o. bind o (λ s. Some (onto (operands ys) s))) r.1, General-append (operands ys) r.0.dead r.0.ops rest r.2)
