-- The names of exports: a set that holds those of the first ones.
use Rattle.std.proofs.Common.{◌≡◌, ℕ, ◌+◌, ◌<◌, ◌≤◌, List, length, take, get_or, refl, sym, ap, ◌∙◌, subst, arith, Bor}
use Rattle.std.specs.Prelude.{Bool, true, false, ◌||◌, not, cond, Some, slice_get, Any}
use Rattle.std.specs.List.{list_any}
use Rattle.std.specs.Ordering.{nat_cmp}
use Rattle.std.specs.Cmp.Lexicographic.{slice_cmp}
use Rattle.std.specs.Str.{bytes_eq}
use Rattle.std.specs.BTreeMap.{is_at}
use Rattle.std.specs.BTreeSet.{BTreeSet, contains, UpdatesBy}
use Rattle.std.proofs.lemmas.Option.{same_Some, slice_get-get_or, slice_get_within, get_or_from_slice_get}
use Rattle.std.proofs.lemmas.List.{get_or-take, length-take-le}
use Rattle.std.proofs.lemmas.List.Folds.{Any-from_list_any, list_any_at, list_any_more}
use Rattle.std.proofs.lemmas.Slice.Eq.{bytes_eq-Decides}
use Rattle.std.proofs.lemmas.Map.Text.{is_eq-slice_cmp}
use Rattle.wasm_ast.specs.declared.modules.Export.{Export}
use Rattle.wasm_ast.specs.declared.modules.Module.{Module}
use Rattle.wasm_check.specs.declared.sections.Section.TheVariants.{Exports}
use Rattle.std.specs.declared.cmp.Ordering.{Ordering}
use Rattle.wasm_check.specs.Faults.{IsFirstOf}
use Rattle.wasm_check.specs.Modules.{IsNewName, ExportIsValid, EntryIsValid, space_size}

-- one of the first k exports has these bytes as its name
abbrev pub named : Module → ℕ → List ℕ → Bool
named m k name = list_any (λ e. bytes_eq e.name name) (take k m.exports)

-- the set holds the names of the first k exports
abbrev pub HoldsNames : Module → ℕ → BTreeSet (Bor (List ℕ)) → Type 0
HoldsNames m k names = (q : Bor (List ℕ)) → contains (λ x y. slice_cmp nat_cmp x.now y.now) names q ≡ named m k q.now

same-name : (x y : List ℕ) → bytes_eq x y ≡ true → x ≡ y
same-name x y e = (bytes_eq-Decides x y).0 e

name-same : (x y : List ℕ) → x ≡ y → bytes_eq x y ≡ true
name-same x y e = (bytes_eq-Decides x y).1 e

-- a name that one of the first k has is no new one
pub taken : (m : Module) (k : ℕ) (e : Export) → k ≤ length m.exports → named m k e.name ≡ true → IsNewName m k e → ⊥
taken m k e le is new =
    let a : Any (λ (x : Export). bytes_eq x.name e.name ≡ true) (take k m.exports) = Any-from_list_any (λ (x : Export). bytes_eq x.name e.name) (take k m.exports) is in
    let below : a.0 < k = omega (arith, a.2, length-take-le k m.exports le) in
    let within : a.0 < length m.exports = omega (arith, below, le) in
    let there : get_or m.exports a.0 a.1 ≡ a.1 = sym (get_or-take k m.exports a.0 a.1 below) ∙ a.3 in
    let at : slice_get m.exports a.0 ≡ Some a.1 = slice_get-get_or m.exports a.0 a.1 within ∙ ap (λ (x : Export). Some x) there in
    new a.0 a.1 below at (same-name a.1.name e.name a.4)

-- a name that none of the first k has is new
pub new-name : (m : Module) (k : ℕ) (e : Export) → k ≤ length m.exports → named m k e.name ≡ false → IsNewName m k e
new-name m k e le is j other lt at same =
    let within : j < length (take k m.exports) = omega (arith, lt, length-take-le k m.exports le) in
    let there : get_or (take k m.exports) j other ≡ other = get_or-take k m.exports j other lt ∙ get_or_from_slice_get m.exports j other other at in
    let passes : bytes_eq (get_or (take k m.exports) j other).name e.name ≡ true = name-same _ e.name (ap (λ (x : Export). x.name) there ∙ same) in
    let found : named m k e.name ≡ true = list_any_at (λ (x : Export). bytes_eq x.name e.name) (take k m.exports) j other within passes in
    let both : true ≡ false = sym found ∙ is in
    cc

-- one more name
pub holds-more : (m : Module) (k : ℕ) (e : Export) (key : Bor (List ℕ)) (old new : BTreeSet (Bor (List ℕ))) → slice_get m.exports k ≡ Some e → key.now ≡ e.name → HoldsNames m k old →
    UpdatesBy (λ x y. slice_cmp nat_cmp x.now y.now) (λ y. slice_cmp nat_cmp key.now y.now) old new true → HoldsNames m (k + 1) new
holds-more m k e key old new at name holds updates q =
    let lt : k < length m.exports = slice_get_within m.exports k e at in
    let here : get_or m.exports k e ≡ e = get_or_from_slice_get m.exports k e e at in
    let test : is_at (λ (y : Bor (List ℕ)). slice_cmp nat_cmp key.now y.now) q ≡ bytes_eq (get_or m.exports k e).name q.now =
    is_eq-slice_cmp key.now q.now ∙ ap (λ n. bytes_eq n q.now) (name ∙ ap (λ (x : Export). x.name) (sym here)) in
    updates.0 q ∙ either (is_at (λ (y : Bor (List ℕ)). slice_cmp nat_cmp key.now y.now) q) (contains (λ x y. slice_cmp nat_cmp x.now y.now) old q)
    ∙ ap (λ b. b || is_at (λ (y : Bor (List ℕ)). slice_cmp nat_cmp key.now y.now) q) (holds q) ∙ ap (λ b. named m k q.now || b) test
    ∙ sym (list_any_more (λ (x : Export). bytes_eq x.name q.now) m.exports k e lt)
  where
    either : (a b : Bool) → cond a true b ≡ (b || a)
    either true true = refl
    either true false = refl
    either false true = refl
    either false false = refl

-- an export of what is there, under a new name
pub export-valid : (m : Module) (k : ℕ) (e : Export) → slice_get m.exports k ≡ Some e → e.index < space_size m e.space → IsNewName m k e → EntryIsValid m Exports k
export-valid m k e at there new x other = subst (ExportIsValid m k) (same_Some e x (sym at ∙ other)) (record { there = there; new_name = new })

abbrev SameOrder : Bor (List ℕ) → Bor (List ℕ) → Ordering
SameOrder x y = slice_cmp nat_cmp x.now y.now

not-false : (b : Bool) → not b ≡ false → b ≡ true
not-false true e = refl
not-false false e = sym e

not-true : (b : Bool) → not b ≡ true → b ≡ false
not-true true e = sym e
not-true false e = refl

-- the set of the names before it already holds the name of the export k
pub first-taken : (m : Module) (k : ℕ) (e : Export) (key : Bor (List ℕ)) (names : BTreeSet (Bor (List ℕ))) (added : Bool) → slice_get m.exports k ≡ Some e → key.now ≡ e.name → HoldsNames m k names →
    added ≡ not (contains SameOrder names key) → added ≡ false → ((j : ℕ) → j < k → EntryIsValid m Exports j) → IsFirstOf m Exports k
first-taken m k e key names added at name holds is found before =
    let held : contains SameOrder names key ≡ true = not-false _ (sym is ∙ found) in
    let there : named m k e.name ≡ true = ap (named m k) (sym name) ∙ sym (holds key) ∙ held in
    record { invalid = λ valid. taken m k e (omega (arith, slice_get_within m.exports k e at)) there (valid e at).new_name; before = before }

-- the name of the export k is new
pub name-is-new : (m : Module) (k : ℕ) (e : Export) (key : Bor (List ℕ)) (names : BTreeSet (Bor (List ℕ))) (added : Bool) → slice_get m.exports k ≡ Some e → key.now ≡ e.name → HoldsNames m k names →
    added ≡ not (contains SameOrder names key) → added ≡ true → IsNewName m k e
name-is-new m k e key names added at name holds is added_it =
    let free : contains SameOrder names key ≡ false = not-true _ (sym is ∙ added_it) in
    new-name m k e (omega (arith, slice_get_within m.exports k e at)) (ap (named m k) (sym name) ∙ sym (holds key) ∙ free)
