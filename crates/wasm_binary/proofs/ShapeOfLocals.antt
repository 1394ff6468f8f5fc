-- The code of a function that is spelled has its shape: groups of locals are joined, and few.
use Rattle.std.proofs.Common.{◌≡◌, ◌≢◌, ℕ, zero, suc, ◌+◌, ◌<◌, ◌≤◌, inl, inr, Bool, true, false, cond, List, [], ◌∷◌, length, Result, Ok, Err, All, refl, sym, ap, subst, ◌∙◌, arith, get_or}
use Rattle.std.specs.Prelude.{nat_le, ◌==◌, sum_by}
use Rattle.std.proofs.lemmas.List.Recursion.{is_sum_by}
use Rattle.std.proofs.lemmas.List.Elements.{All-nil, All-cons, All-head, All-tail}
use Rattle.std.proofs.lemmas.Bool.{eqb-true, eqb-false}
use Rattle.std.proofs.lemmas.Bool.Decides.{nat_tests}
use Rattle.grammar_forms.specs.Forms.{within}
use Rattle.wasm_ast.specs.Shape.{LocalsHaveShape, ExprHasShape}
use Rattle.wasm_ast.specs.declared.types.ValType.{ValType}
use Rattle.wasm_ast.specs.declared.types.ValType.TheVariants.{I32, I64, FuncRef, ExternRef}
use Rattle.wasm_ast.specs.declared.modules.Group.{Group}
use Rattle.wasm_binary.specs.Faults.{Fault, size, locals}
use Rattle.wasm_binary.specs.Values.{Grammar, u32}
use Rattle.wasm_binary.specs.Types.{val_type}
use Rattle.wasm_binary.specs.Locals.{few, group, groups, same_kind, with_front, joined, Code, code_contents, code}
use Rattle.wasm_binary.proofs.ShapeOfLists.{SpellsOnly, gives_only, then_only, any_only, checked_only, Any}
use Rattle.wasm_binary.proofs.ShapeOfExpressions.{expression_only}
use Rattle.owi_base.proofs.Choices.{chosen}

-- how many locals there are
abbrev pub total : List Group → ℕ
total [] = 0
total (g ∷ others) = g.count + total others

total_is : (gs : List Group) → total gs ≡ sum_by (λ g. g.count) gs
total_is gs = is_sum_by total (λ g. g.count) refl (λ g others. refl) gs

-- ---- at most 50,000

few_ok : (sum n y : ℕ) → few sum n ≡ Ok y → sum + y ≤ 50000
few_ok sum n y e =
    elim (chosen (nat_le (sum + n) 50000) (let r : Result ℕ (ℕ → Fault) = Ok n in r) (Err (locals (sum + n))) (let r : Result ℕ (ℕ → Fault) = Ok y in r) e) [
      | inl is ↦ let test = is.0 in let le : sum + n ≤ 50000 = grind (arith, nat_tests) in let both = is.1 in let same : n ≡ y = cc in omega arith
      | inr other ↦ let both = other.1 in absurd cc
    ]

group_only : (sum : ℕ) → SpellsOnly (group sum) (λ g. sum + g.count ≤ 50000)
group_only sum =
    then_only (λ n. sum + n ≤ 50000) (λ g. sum + g.count ≤ 50000) (checked_only u32 (few sum) Any (λ n. sum + n ≤ 50000) (any_only u32) (λ n y any e. few_ok sum n y e)) (λ n le.
    then_only Any (λ g. sum + g.count ≤ 50000) (any_only val_type) (λ kind any. gives_only (λ g. sum + g.count ≤ 50000) _ le))

groups_only : (left sum : ℕ) → sum ≤ 50000 → SpellsOnly (groups left sum) (λ gs. sum + total gs ≤ 50000)
groups_only zero sum le = gives_only (λ gs. sum + total gs ≤ 50000) [] (omega arith)
groups_only (suc left) sum le =
    then_only (λ g. sum + g.count ≤ 50000) (λ gs. sum + total gs ≤ 50000) (group_only sum) (λ g less.
    then_only (λ gs. sum + g.count + total gs ≤ 50000) (λ gs. sum + total gs ≤ 50000) (groups_only left (sum + g.count) less) (λ others more.
    gives_only (λ gs. sum + total gs ≤ 50000) (g ∷ others) (omega arith)))

-- ---- joined

-- neighbours differ
abbrev Differ : List Group → Type 0
Differ [] = Unit {0}
Differ (g ∷ []) = Unit {0}
Differ (g ∷ h ∷ others) = (g.kind ≢ h.kind) × Differ (h ∷ others)

record AreJoined (gs : List Group) (sum : ℕ) : Type 0 where
  each : All (λ g. 1 ≤ g.count) gs
  differ : Differ gs
  same : total gs ≡ sum

same_kind_self : (a : ValType) → same_kind a a ≡ true
same_kind_self I32 = refl
same_kind_self I64 = refl
same_kind_self FuncRef = refl
same_kind_self ExternRef = refl

other_kind : (a b : ValType) → same_kind a b ≡ false → a ≢ b
other_kind a b e same =
    let self : same_kind a b ≡ true = ap (same_kind a) (sym same) ∙ same_kind_self a in
    absurd (let both : true ≡ false = sym self ∙ e in cc)

abbrev at_least : Group → Type 0
at_least g = 1 ≤ g.count

renamed : (g h : Group) (others : List Group) → g.kind ≡ h.kind → Differ (h ∷ others) → Differ (g ∷ others)
renamed g h [] same d = tt
renamed g h (i ∷ others) same d = (λ e. d.0 (sym same ∙ e), d.1)

by_kind : (b : Bool) (g h : Group) (others : List Group) (sum : ℕ) → (b ≡ false → g.kind ≢ h.kind) → 1 ≤ g.count → AreJoined (h ∷ others) sum
    → AreJoined (cond b (record { count = g.count + h.count; kind = h.kind } ∷ others) (g ∷ h ∷ others)) (g.count + sum)
by_kind true g h others sum ne some are = record {
  each = All-cons at_least _ others (omega arith) (All-tail at_least h others are.each);
  differ = renamed (record { count = g.count + h.count; kind = h.kind }) h others refl are.differ;
  same = let sums : g.count + h.count + total others ≡ g.count + sum = omega (arith, are.same) in sums;
}
by_kind false g h others sum ne some are = record {
  each = All-cons at_least g (h ∷ others) some are.each;
  differ = (ne refl, are.differ);
  same = ap (λ n. g.count + n) are.same;
}

front_joined : (g : Group) (gs : List Group) (sum : ℕ) → 1 ≤ g.count → AreJoined gs sum → AreJoined (with_front g gs) (g.count + sum)
front_joined g [] sum some are = record { each = All-cons at_least g [] some (All-nil at_least); differ = tt; same = omega (arith, are.same) }
front_joined g (h ∷ others) sum some are = by_kind (same_kind g.kind h.kind) g h others sum (other_kind g.kind h.kind) some are

by_count : (b : Bool) (n : ℕ) (gs hs : List Group) (sum : ℕ) → (b ≡ true → n ≡ 0) → AreJoined gs sum → (b ≡ false → AreJoined hs (n + sum)) → AreJoined (cond b gs hs) (n + sum)
by_count true n gs hs sum none are others = let P : ℕ → Type 0 = λ k. AreJoined gs k in let same : sum ≡ n + sum = omega (arith, none refl) in subst P same are
by_count false n gs hs sum none are others = others refl

are_joined : (gs : List Group) → AreJoined (joined gs) (total gs)
are_joined [] = record { each = All-nil at_least; differ = tt; same = refl }
are_joined (g ∷ others) =
    by_count (g.count == 0) g.count (joined others) (with_front g (joined others)) (total others) (λ e. eqb-true g.count 0 e) (are_joined others)
    (λ e. let ne : g.count ≢ 0 = eqb-false g.count 0 e in front_joined g (joined others) (total others) (omega arith) (are_joined others))

adjacent : (gs : List Group) → Differ gs → (k : ℕ) (d : Group) → k + 1 < length gs → (get_or gs k d).kind ≢ (get_or gs (k + 1) d).kind
adjacent [] differ k d lt = absurd (omega arith)
adjacent (g ∷ []) differ k d lt = absurd (omega arith)
adjacent (g ∷ h ∷ others) differ zero d lt = differ.0
adjacent (g ∷ h ∷ others) differ (suc k) d lt =
    let place : suc k + 1 ≡ suc (k + 1) = omega arith in
    rw place (adjacent (h ∷ others) differ.1 k d (omega arith))

no_more : (gs : List Group) → All at_least gs → length gs ≤ total gs
no_more [] each = omega arith
no_more (g ∷ others) each = omega (arith, All-head at_least g others each, no_more others (All-tail at_least g others each))

locals_shape : (gs : List Group) → total gs ≤ 50000 → LocalsHaveShape (joined gs)
locals_shape gs le =
    let are = are_joined gs in
    record {
      each = are.each;
      neighbours = adjacent (joined gs) are.differ;
      few = omega (arith, are.same, total_is (joined gs));
      short = omega (arith, are.same, no_more (joined gs) are.each);
    }

-- ---- the code

pub record CodeHasShape (c : Code) : Type 0 where
  pub locals : LocalsHaveShape c.locals
  pub body : ExprHasShape c.body

pub within_only : {A : Type 0} (P : A → Type 0) (len : ℕ) (f : Grammar A) → SpellsOnly f P → SpellsOnly (within size len f) P
within_only P len f p = record { each = λ x text few s. p.each x text few s.0 }

code_contents_only : (b : Bool) → SpellsOnly (code_contents b) CodeHasShape
code_contents_only b =
    then_only Any CodeHasShape (any_only u32) (λ n any.
    then_only (λ gs. 0 + total gs ≤ 50000) CodeHasShape (groups_only n 0 (omega arith)) (λ gs le.
    then_only ExprHasShape CodeHasShape (expression_only b) (λ body is.
    gives_only CodeHasShape _ (record { locals = locals_shape gs (omega arith); body = is }))))

pub code_only : (b : Bool) → SpellsOnly (code b) CodeHasShape
code_only b = then_only Any CodeHasShape (any_only u32) (λ len any. within_only CodeHasShape len (code_contents b) (code_contents_only b))
