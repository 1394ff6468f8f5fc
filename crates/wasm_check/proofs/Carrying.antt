-- Lists that a `br_table` has seen can be carried.
use Rattle.std.proofs.Common.{◌≡◌, ℕ, suc, ◌+◌, ◌<◌, List, [], ◌∷◌, ◌⊎◌, inl, inr, length, drop, get_or, drop-cons, refl, sym, ap, subst, ◌∙◌, arith}
use Rattle.std.specs.Prelude.{Bool, true, false, cond, ◌==◌, nat_lt, Option, Some, None, slice_get}
use Rattle.std.specs.Ordering.{nat_cmp, is_eq}
use Rattle.std.specs.declared.cmp.Ordering.TheVariants.{Less, Equal, Greater}
use Rattle.std.specs.BTreeMap.{is_at}
use Rattle.std.specs.BTreeSet.{BTreeSet, contains, Updates}
use Rattle.std.proofs.lemmas.Bool.{eqb-true, ltb-true}
use Rattle.std.proofs.lemmas.Option.{same_Some}
use Rattle.wasm_ast.specs.declared.types.ValType.{ValType}
use Rattle.wasm_ast.specs.declared.types.FuncType.{FuncType}
use Rattle.wasm_ast.specs.declared.types.ValType.TheVariants.{I32}
use Rattle.wasm_ast.specs.declared.instructions.Instr.TheVariants.{BrTable}
use Rattle.wasm_check.specs.declared.operands.Operand.{Operand}
use Rattle.wasm_check.specs.declared.operands.Operand.TheVariants.{Of}
use Rattle.wasm_check.specs.Contexts.{Context}
use Rattle.type_suffixes.specs.declared.lists.Listed.{Listed}
use Rattle.type_suffixes.specs.declared.seen.Seen.{Seen}
use Rattle.wasm_check.specs.Operands.{operands}
use Rattle.wasm_check.specs.Instructions.{Labels}
use Rattle.type_suffixes.specs.Lists.{listed}
use Rattle.wasm_check.specs.code.Checker.{Stack, Answers, dead_end, acts, bind, when, pops, popped, same_count, each_fits}
use Rattle.wasm_check.specs.code.Carried.{Passes, CanCarry, CanTake, SeenPass}
use Rattle.type_suffixes.specs.Seen.{is_seen, IsPut}
use Rattle.wasm_check.proofs.Rules.{same_count-true}
use Rattle.wasm_check.proofs.Labels.{each-goes}

-- ---- what was seen

at-is : (k q : ℕ) → is_at (nat_cmp k) q ≡ (k == q)
at-is k q = go (nat_lt k q) (k == q) refl refl
  where
    go : (b e : Bool) → nat_lt k q ≡ b → (k == q) ≡ e → is_eq (cond b Less (cond e Equal Greater)) ≡ e
    go true true f g = let l : k < q = ltb-true k q f in let s : k ≡ q = eqb-true k q g in absurd (omega (arith, l, s))
    go true false f g = refl
    go false true f g = refl
    go false false f g = refl

added : (x q : ℕ) (old new : BTreeSet ℕ) → Updates nat_cmp old new x true → contains nat_cmp new q ≡ true → (x ≡ q) ⊎ (contains nat_cmp old q ≡ true)
added x q old new u e = go (x == q) refl
  where
    go : (b : Bool) → (x == q) ≡ b → (x ≡ q) ⊎ (contains nat_cmp old q ≡ true)
    go true is = inl (eqb-true x q is)
    go false is = inr (ap (λ b. cond b true (contains nat_cmp old q)) (sym (at-is x q ∙ is)) ∙ sym (u.0 q) ∙ e)

-- ---- one label

pub is-not-there : (ls : Labels) (own : List ValType) (s : Stack) (k : ℕ) → slice_get ls k ≡ None → CanCarry false ls own s k
is-not-there ls own s k e these f p = let both : None ≡ Some these = sym e ∙ f in cc

pub was-seen : (types : List FuncType) (ls : Labels) (own : List ValType) (s : Stack) (k : ℕ) (seen : Seen) (list : Listed) → SeenPass types own s seen → slice_get ls k ≡ Some (listed types list) →
    is_seen seen list ≡ true → CanCarry true ls own s k
was-seen types ls own s k seen list h e i = (listed types list, e, h list i)

pub has-other-count : (ls : Labels) (own : List ValType) (s : Stack) (k : ℕ) (these : List ValType) → slice_get ls k ≡ Some these → (length these ≡ length own → ⊥) → CanCarry false ls own s k
has-other-count ls own s k these e n those f p = n (subst (λ (l : List ValType). length l ≡ length own) (same_Some those these (sym f ∙ e)) p.0)

pub is-refused : (ls : Labels) (own : List ValType) (s : Stack) (k : ℕ) (these : List ValType) → slice_get ls k ≡ Some these → popped (operands these) s ≡ None → CanCarry false ls own s k
is-refused ls own s k these e r those f p =
    let q : popped (operands these) s ≡ Some p.1 = subst (λ (l : List ValType). popped (operands l) s ≡ Some p.1) (same_Some those these (sym f ∙ e)) p.2 in
    let both : None ≡ Some p.1 = sym r ∙ q in cc

pub seen-more : (types : List FuncType) (own : List ValType) (s : Stack) (old new : Seen) (list : Listed) → SeenPass types own s old → IsPut list old new → Passes own s (listed types list) → SeenPass types own s new
seen-more types own s old new list h put p q i =
    elim (put q i) [ inl is ↦ let P : Listed → Type 0 = λ l. Passes own s (listed types l) in subst P is p | inr was ↦ h q was ]

pub none-seen : (types : List FuncType) (own : List ValType) (s : Stack) (seen : Seen) → ((list : Listed) → is_seen seen list ≡ false) → SeenPass types own s seen
none-seen types own s seen n list i = let both : false ≡ true = sym (n list) ∙ i in cc

-- what is taken without a change of the stack
pub take-answers : (b : Bool) (these : List ValType) (s old new : Stack) → old ≡ s → Answers b (popped (operands these) old) new → CanTake b these s
take-answers true these s old new is e = (new, ap (popped (operands these)) (sym is) ∙ e)
take-answers false these s old new is e = ap (popped (operands these)) (sym is) ∙ e

-- ---- each label

refuses : (ls : Labels) (own : List ValType) (k : ℕ) (labels : List ℕ) (s : Stack) → CanCarry false ls own s k → each_fits ls own (k ∷ labels) s.dead s.ops ≡ None
refuses ls own k labels s n = go (slice_get ls k) refl
  where
    rest : List Operand → Option (List Operand)
    rest gone = each_fits ls own labels s.dead s.ops

    goes : List ValType → Option (List Operand)
    goes these = when (same_count these own) (bind (pops (operands these) s.dead s.ops) rest)

    matched : (these : List ValType) → slice_get ls k ≡ Some these → same_count these own ≡ true → (o : Option (List Operand)) → pops (operands these) s.dead s.ops ≡ o → bind o rest ≡ None
    matched these e c None f = refl
    matched these e c (Some gone) f = absurd (n these e (same_count-true these own c, record s { ops = gone }, ap (λ o. bind o (λ (ops : List Operand). Some (record s { ops = ops }))) f))

    counted : (these : List ValType) → slice_get ls k ≡ Some these → (b : Bool) → same_count these own ≡ b → when b (bind (pops (operands these) s.dead s.ops) rest) ≡ None
    counted these e true c = matched these e c (pops (operands these) s.dead s.ops) refl
    counted these e false c = refl

    go : (o : Option (List ValType)) → slice_get ls k ≡ o → bind o goes ≡ None
    go None e = refl
    go (Some these) e = counted these e (same_count these own) refl

pub each-stops : (ls : Labels) (own : List ValType) (labels : List ℕ) (i : ℕ) (s : Stack) → i < length labels → CanCarry false ls own s (get_or labels i 0) → each_fits ls own (drop i labels) s.dead s.ops ≡ None
each-stops ls own labels i s h n = ap (λ l. each_fits ls own l s.dead s.ops) (drop-cons labels i 0 h) ∙ refuses ls own (get_or labels i 0) (drop (suc i) labels) s n

pub each-on : (ls : Labels) (own : List ValType) (labels : List ℕ) (i : ℕ) (s : Stack) → i < length labels → CanCarry true ls own s (get_or labels i 0) → each_fits ls own (drop i labels) s.dead s.ops ≡ each_fits ls own (drop (i + 1) labels) s.dead s.ops
each-on ls own labels i s h c = each-goes ls own labels i c.0 s c.2.1 h c.1 c.2.0 c.2.2

-- ---- the whole table

-- the last label, whose list is the one that is wanted
last-goes : (ls : Labels) (labels : List ℕ) (last : ℕ) (s : Stack) (own : List ValType) → slice_get ls last ≡ Some own → CanTake true own s → each_fits ls own (last ∷ labels) s.dead s.ops ≡ each_fits ls own labels s.dead s.ops
last-goes ls labels last s own at taken = each-goes ls own (last ∷ labels) 0 own s taken.0 (omega arith) at refl taken.1

-- a table whose operand is taken, with its last label
table-is : (C : Context) (ls : Labels) (labels : List ℕ) (last : ℕ) (old s : Stack) (own : List ValType) (o : Option (List Operand)) → popped (Of I32 ∷ []) old ≡ Some s → slice_get ls last ≡ Some own → each_fits ls own (last ∷ labels) s.dead s.ops ≡ o →
    acts C ls (BrTable labels last) old ≡ bind o (λ gone. Some dead_end)
table-is C ls labels last old s own o popped at fits =
    ap (λ r. bind r (λ (s : Stack). bind (slice_get ls last) (λ (own : List ValType). bind (each_fits ls own (last ∷ labels) s.dead s.ops) (λ (gone : List Operand). Some dead_end)))) popped
    ∙ ap (λ r. bind r (λ (own : List ValType). bind (each_fits ls own (last ∷ labels) s.dead s.ops) (λ (gone : List Operand). Some dead_end))) at
    ∙ ap (λ r. bind r (λ (gone : List Operand). Some dead_end)) fits

pub table-refused : (C : Context) (ls : Labels) (labels : List ℕ) (last : ℕ) (old s : Stack) (own : List ValType) → popped (Of I32 ∷ []) old ≡ Some s → slice_get ls last ≡ Some own → CanTake false own s → acts C ls (BrTable labels last) old ≡ None
table-refused C ls labels last old s own p at refused = table-is C ls labels last old s own None p at (refuses ls own last labels s (is-refused ls own s last own at refused))

pub table-stops : (C : Context) (ls : Labels) (labels : List ℕ) (last : ℕ) (old s : Stack) (own : List ValType) → popped (Of I32 ∷ []) old ≡ Some s → slice_get ls last ≡ Some own → CanTake true own s → each_fits ls own labels s.dead s.ops ≡ None →
    acts C ls (BrTable labels last) old ≡ None
table-stops C ls labels last old s own p at taken stops = table-is C ls labels last old s own None p at (last-goes ls labels last s own at taken ∙ stops)

pub table-goes : (C : Context) (ls : Labels) (labels : List ℕ) (last : ℕ) (old s new : Stack) (own : List ValType) → popped (Of I32 ∷ []) old ≡ Some s → slice_get ls last ≡ Some own → CanTake true own s → each_fits ls own labels s.dead s.ops ≡ Some s.ops → new ≡ dead_end →
    acts C ls (BrTable labels last) old ≡ Some new
table-goes C ls labels last old s new own p at taken goes end =
    table-is C ls labels last old s own (Some s.ops) p at (last-goes ls labels last s own at taken ∙ goes) ∙ ap (λ (s : Stack). Some s) (sym end)
