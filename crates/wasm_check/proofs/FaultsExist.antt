-- A module of the shape that modules have is valid or has a first fault: each rule of an entry can be decided.
use Rattle.std.proofs.Common.{◌≡◌, ℕ, zero, suc, ◌+◌, ◌-◌, ◌^◌, ◌<◌, ◌≤◌, List, [], ◌∷◌, take, length, get_or, refl, sym, ap, ◌∙◌, subst, arith, ◌⊎◌, inl, inr}
use Rattle.std.specs.Prelude.{All, Bool, true, false, Option, Some, None, IfSome, IsNone, MatchOption, slice_get, ◌↔◌}
use Rattle.std.proofs.lemmas.Option.{slice_get-get_or}
use Rattle.wasm_ast.specs.Shape.{FuncHasShape, HasShape}
use Rattle.wasm_ast.specs.declared.types.ValType.{ValType}
use Rattle.wasm_ast.specs.declared.types.ValType.TheVariants.{I32}
use Rattle.wasm_ast.specs.declared.types.FuncType.{FuncType}
use Rattle.wasm_ast.specs.declared.types.Limits.{Limits}
use Rattle.wasm_ast.specs.declared.types.TableType.{TableType}
use Rattle.wasm_ast.specs.declared.types.GlobalType.{GlobalType}
use Rattle.wasm_ast.specs.declared.instructions.Instr.{Instr}
use Rattle.wasm_ast.specs.declared.instructions.Expr.{Expr}
use Rattle.wasm_ast.specs.declared.modules.ImportKind.{ImportKind}
use Rattle.wasm_ast.specs.declared.modules.ImportKind.TheVariants.{Func as FuncImport, Table as TableImport, Memory as MemoryImport, Global as GlobalImport}
use Rattle.wasm_ast.specs.declared.modules.Import.{Import}
use Rattle.wasm_ast.specs.declared.modules.Func.{Func}
use Rattle.wasm_ast.specs.declared.modules.Export.{Export}
use Rattle.wasm_ast.specs.declared.modules.Mode.{Mode}
use Rattle.wasm_ast.specs.declared.modules.Mode.TheVariants.{Passive, Declared, Active}
use Rattle.wasm_ast.specs.declared.modules.Elem.{Elem}
use Rattle.wasm_ast.specs.declared.modules.Module.{Module}
use Rattle.wasm_check.specs.declared.sections.Section.{Section}
use Rattle.wasm_check.specs.declared.sections.Section.TheVariants.{Imports, Functions, Tables, Memories, Globals, Exports, Start, Elements, Code, Data}
use Rattle.wasm_check.specs.declared.why.Why.{Why}
use Rattle.wasm_check.specs.declared.why.Why.TheVariants.{Field, Code as InCode}
use Rattle.wasm_check.specs.Constants.{IsConstant}
use Rattle.wasm_check.specs.Contexts.{Context, memory_import, imported_funcs, funcs_of, tables_of, memories_of, globals_of, context_of}
use Rattle.wasm_check.specs.Faults.{BodyFailsAt, section_id, IsFirstOf, ValidBelow, FirstFault}
use Rattle.wasm_check.specs.Modules.{AreWithin, IsTableType, ImportNoMemory, ImportIsValid, MemoryIsValid, globals_before, space_size, IsNewName, ExportIsValid, StartIsValid, IsOffset, ElemModeIsValid, ElemIsValid, DataModeIsValid, BodyIsValid, OfEntry, EntryIsValid, SectionIsValid, IsValid}
use Rattle.wasm_check.specs.Operands.{same_type}
use Rattle.wasm_check.specs.Operators.{arrow}
use Rattle.wasm_check.specs.Trees.{seq_of, body_tokens}
use Rattle.wasm_check.specs.code.Checker.{fault, start_of}
use Rattle.wasm_check.specs.code.Counts.{leaves_one}
use Rattle.wasm_check.specs.code.Sections.{section_size}
use Rattle.wasm_check.proofs.ConstantLemmas.{constant-one, head-of, tail-of, all-cons}
use Rattle.wasm_check.proofs.ContextLemmas.{found-of}
use Rattle.wasm_check.proofs.EntryLemmas.{all_valid, same-entry}
use Rattle.wasm_check.proofs.FaultLemmas.{all-at}
use Rattle.wasm_check.proofs.FirstFaults.{apart}
use Rattle.wasm_check.proofs.ModuleLemmas.{valid_below-more, all_below, fails-invalid}
use Rattle.wasm_check.proofs.Stacks.{same_type-true, same_type-self}
use Rattle.wasm_check.proofs.TreeLemmas.{HasTree, one-tree, tree-of}
use Rattle.wasm_check.proofs.Verdicts.{found}

-- ---- what can be decided

abbrev Decided : Type 0 → Type 0
Decided P = P ⊎ (P → ⊥)

by-test : {P : Type 0} (b : Bool) → (b ≡ true → P) → (b ≡ false → P → ⊥) → Decided P
by-test true f g = inl (f refl)
by-test false f g = inr (g refl)

same-as : {P Q : Type 0} → (P → Q) → (Q → P) → Decided P → Decided Q
same-as f g (inl p) = inl (f p)
same-as f g (inr np) = inr (λ q. np (g q))

both : {P Q : Type 0} → Decided P → Decided Q → Decided (P × Q)
both (inl p) (inl q) = inl (p, q)
both (inl p) (inr nq) = inr (λ h. nq h.1)
both (inr np) q = inr (λ h. np h.0)

not-so : {P : Type 0} → Decided P → Decided (P → ⊥)
not-so (inl p) = inr (λ np. np p)
not-so (inr np) = inl np

less : (x y : ℕ) → Decided (x < y)
less x y = elim (apart x y) [
  | inl lt ↦ inl lt
  | inr (inl lt) ↦ inr (λ h. omega (arith, h, lt))
  | inr (inr e) ↦ inr (λ h. omega (arith, h, e))
]

at-most : (x y : ℕ) → Decided (x ≤ y)
at-most x y = elim (apart x y) [
  | inl lt ↦ inl (omega (arith, lt))
  | inr (inl lt) ↦ inr (λ h. omega (arith, h, lt))
  | inr (inr e) ↦ inl (omega (arith, e))
]

equal : (x y : ℕ) → Decided (x ≡ y)
equal x y = elim (apart x y) [
  | inl lt ↦ inr (λ h. omega (arith, h, lt))
  | inr (inl lt) ↦ inr (λ h. omega (arith, h, lt))
  | inr (inr e) ↦ inl e
]

same-kind : (t u : ValType) → Decided (t ≡ u)
same-kind t u = by-test (same_type t u) (λ e. same_type-true t u e) (λ f e. let yes : same_type t u ≡ true = ap (same_type t) (sym e) ∙ same_type-self t in absurd cc)

same-list : (xs ys : List ℕ) → Decided (xs ≡ ys)
same-list [] [] = inl refl
same-list [] (y ∷ ys) = inr (λ e. absurd cc)
same-list (x ∷ xs) [] = inr (λ e. absurd cc)
same-list (x ∷ xs) (y ∷ ys) = same-as (λ h. ap (λ z. z ∷ xs) h.0 ∙ ap (λ l. y ∷ l) h.1) (λ e. (ap (λ l. get_or l 0 x) e, tails x y xs ys e)) (both (equal x y) (same-list xs ys))
  where
    tails : (x y : ℕ) (xs ys : List ℕ) → x ∷ xs ≡ y ∷ ys → xs ≡ ys
    tails x y xs ys e = cc

is-empty : {A : Type 0} (xs : List A) → Decided (xs ≡ [])
is-empty [] = inl refl
is-empty (x ∷ xs) = inr (λ e. absurd cc)

if-there : {A : Type 0} (P : A → Type 0) → ((x : A) → Decided (P x)) → (o : Option A) → Decided (IfSome o P)
if-there P d None = inl tt
if-there P d (Some x) = d x

is-none : {A : Type 0} (o : Option A) → Decided (IsNone o)
is-none None = inl refl
is-none (Some x) = inr (λ e. absurd cc)

all-of : {A : Type 0} (P : A → Type 0) → ((x : A) → Decided (P x)) → (xs : List A) → Decided (All P xs)
all-of P d [] = inl (λ j x lt. absurd (omega (arith, lt)))
all-of P d (x ∷ xs) = same-as (λ h. all-cons P x xs h.0 h.1) (λ h. (head-of P x xs h, tail-of P x xs h)) (both (d x) (all-of P d xs))

entry : {A : Type 0} (P : A → Type 0) → ((x : A) → Decided (P x)) → (entries : List A) (k : ℕ) → Decided (OfEntry entries k P)
entry {A} P d entries k = by (slice_get entries k) refl
  where
    by : (o : Option A) → slice_get entries k ≡ o → Decided (OfEntry entries k P)
    by None is = inl (λ y h. let e : None ≡ Some y = sym is ∙ h in absurd cc)
    by (Some x) is = same-as (λ p y h. subst P (same-entry x y (sym is ∙ h)) p) (λ all. all x is) (d x)

there : {A : Type 0} (P : A → Type 0) → ((x : A) → Decided (P x)) → (xs : List A) (k : ℕ) → Decided ((x : A) × (slice_get xs k ≡ Some x) × P x)
there {A} P d xs k = by (slice_get xs k) refl
  where
    by : (o : Option A) → slice_get xs k ≡ o → Decided ((x : A) × (slice_get xs k ≡ Some x) × P x)
    by None is = inr (λ h. let e : None ≡ Some h.0 = sym is ∙ h.1 in absurd cc)
    by (Some x) is = same-as (λ p. (x, is, p)) (λ h. subst P (same-entry h.0 x (sym h.1 ∙ is)) h.2) (d x)

below : (P : ℕ → Type 0) → ((j : ℕ) → Decided (P j)) → (n : ℕ) → Decided ((j : ℕ) → j < n → P j)
below P d zero = inl (λ j lt. absurd (omega (arith, lt)))
below P d (suc n) = same-as (more n) (λ h. ((λ j lt. h j (omega (arith, lt))), h n (omega arith))) (both (below P d n) (d n))
  where
    more : (n : ℕ) → ((j : ℕ) → j < n → P j) × P n → (j : ℕ) → j < suc n → P j
    more n h j lt = elim (apart j n) [
      | inl l ↦ h.0 j l
      | inr (inl g) ↦ absurd (omega (arith, lt, g))
      | inr (inr e) ↦ subst P (sym e) h.1
    ]

-- ---- the rules of entries

within : (bound : ℕ) (limits : Limits) → Decided (AreWithin bound limits)
within bound limits = same-as (λ h. record { min = h.0; max = h.1 }) (λ h. (h.min, h.max))
    (both (at-most limits.min bound) (if-there (λ max. (max ≤ bound) × (limits.min ≤ max)) (λ max. both (at-most max bound) (at-most limits.min max)) limits.max))

no-memory : (imports : List Import) → Decided (ImportNoMemory imports)
no-memory imports = all-of (λ i. IsNone (memory_import i.kind)) (λ i. is-none (memory_import i.kind)) imports

import-decided : (m : Module) (k : ℕ) (kind : ImportKind) → Decided (ImportIsValid m k kind)
import-decided m k (FuncImport ty) = less ty (length m.types)
import-decided m k (TableImport type) = within (2 ^ 32 - 1) type.limits
import-decided m k (MemoryImport limits) = both (within (2 ^ 16) limits) (no-memory (take k m.imports))
import-decided m k (GlobalImport type) = inl tt

memory-decided : (m : Module) (k : ℕ) (limits : Limits) → Decided (MemoryIsValid m k limits)
memory-decided m k limits = same-as (λ h. record { type = h.0; first = h.1.0; only = h.1.1 }) (λ h. (h.type, (h.first, h.only))) (both (within (2 ^ 16) limits) (both (equal k 0) (no-memory m.imports)))

constant-decided : (funcs : ℕ) (globals : List GlobalType) (e : Expr) (kind : ValType) → Decided (IsConstant funcs globals e kind)
constant-decided funcs globals e kind = by e.seqs refl
  where
    by : (seqs : List (List Instr)) → e.seqs ≡ seqs → Decided (IsConstant funcs globals e kind)
    by [] is = inr (λ c. let e : [] ≡ c.instrs ∷ [] = sym is ∙ c.alone in absurd cc)
    by (i ∷ []) is =
        let h : leaves_one funcs globals kind i 0 ≡ true ↔ IsConstant funcs globals e kind = constant-one funcs globals e kind i (leaves_one funcs globals kind i 0) is refl in
        by-test (leaves_one funcs globals kind i 0) (λ t. h.0 t) (λ f c. let t : leaves_one funcs globals kind i 0 ≡ true = h.1 c in absurd cc)
    by (i ∷ j ∷ rest) is = inr (λ c. let e : i ∷ j ∷ rest ≡ c.instrs ∷ [] = sym is ∙ c.alone in absurd cc)

new-name : (m : Module) (k : ℕ) (e : Export) → Decided (IsNewName m k e)
new-name m k e = same-as (λ h j other lt at. h j lt other at) (λ h j lt other at. h j other lt at)
    (below (λ j. OfEntry m.exports j (λ other. other.name ≡ e.name → ⊥)) (λ j. entry (λ other. other.name ≡ e.name → ⊥) (λ other. not-so (same-list other.name e.name)) m.exports j) k)

export-decided : (m : Module) (k : ℕ) (e : Export) → Decided (ExportIsValid m k e)
export-decided m k e = same-as (λ h. record { there = h.0; new_name = h.1 }) (λ h. (h.there, h.new_name)) (both (less e.index (space_size m e.space)) (new-name m k e))

takes-nothing : (t : FuncType) → Decided (t ≡ arrow [] [])
takes-nothing t = same-as (λ h. ap (λ p. arrow p t.results) h.0 ∙ ap (arrow []) h.1) (λ e. (ap (λ t. t.params) e, ap (λ t. t.results) e)) (both (is-empty t.params) (is-empty t.results))

start-decided : (m : Module) (x : ℕ) → Decided (StartIsValid m x)
start-decided m x = there (λ ty. slice_get m.types ty ≡ Some (arrow [] [])) (λ ty. by ty (slice_get m.types ty) refl) (funcs_of m) x
  where
    by : (ty : ℕ) (o : Option FuncType) → slice_get m.types ty ≡ o → Decided (slice_get m.types ty ≡ Some (arrow [] []))
    by ty None is = inr (λ h. let e : None ≡ Some (arrow [] []) = sym is ∙ h in absurd cc)
    by ty (Some t) is = same-as (λ e. is ∙ ap (λ t. Some t) e) (λ h. same-entry t (arrow [] []) (sym is ∙ h)) (takes-nothing t)

started : (m : Module) (k : ℕ) (o : Option ℕ) → m.start ≡ o → Decided (EntryIsValid m Start k)
started m k None is = inl (λ x z h. let e : None ≡ Some x = sym is ∙ h in absurd cc)
started m k (Some x) is = elim (equal k 0) [
  | inl z ↦ same-as (λ p y z h. subst (StartIsValid m) (same-entry x y (sym is ∙ h)) p) (λ all. all x z is) (start-decided m x)
  | inr nz ↦ inl (λ y z h. absurd (nz z))
]

offset-decided : (m : Module) (offset : Expr) → Decided (IsOffset m offset)
offset-decided m offset = constant-decided (length (funcs_of m)) (globals_of m) offset I32

elem-mode-decided : (m : Module) (kind : ValType) (mode : Mode) → Decided (ElemModeIsValid m kind mode)
elem-mode-decided m kind Passive = inl tt
elem-mode-decided m kind Declared = inl tt
elem-mode-decided m kind (Active x offset) = both (there (λ (type : TableType). type.kind ≡ kind) (λ type. same-kind type.kind kind) (tables_of m) x) (offset-decided m offset)

elem-decided : (m : Module) (e : Elem) → Decided (ElemIsValid m e)
elem-decided m e = same-as (λ h. record { items = h.0; mode = h.1 }) (λ h. (h.items, h.mode))
    (both (all-of (λ item. IsConstant (length (funcs_of m)) (globals_of m) item e.kind) (λ item. constant-decided (length (funcs_of m)) (globals_of m) item e.kind) e.items) (elem-mode-decided m e.kind e.mode))

data-decided : (m : Module) (mode : Mode) → Decided (DataModeIsValid m mode)
data-decided m Passive = inl tt
data-decided m Declared = inl tt
data-decided m (Active x offset) = both (less x (length (memories_of m))) (offset-decided m offset)

-- ---- bodies

split : {A : Type 0} (B : ℕ → Type 0) (o : Option ℕ) → MatchOption o A B → A ⊎ ((n : ℕ) × B n)
split B None h = inl h
split B (Some n) h = inr (n, h)

body-judged : (m : Module) → HasShape m → SectionIsValid m Functions → (k : ℕ) (f : Func) → slice_get m.funcs k ≡ Some f → BodyIsValid m f ⊎ ((place : ℕ) × BodyFailsAt m f place)
body-judged m shape typed k f at =
    let type : FuncType = get_or m.types f.ty (arrow [] []) in
    let has_type : slice_get m.types f.ty ≡ Some type = slice_get-get_or m.types f.ty (arrow [] []) (typed k f at) in
    let own : FuncHasShape f = all-at FuncHasShape m.funcs k f shape.funcs at in
    let tree : HasTree f.body = tree-of f.body own.body in
    let C : Context = context_of m f type in
    let o : Option ℕ = fault C (body_tokens tree.0) (start_of C) in
    split (BodyFailsAt m f) o (found-of m f type C o has_type refl (found C f.body o own.body
    (λ c makes short. ap (λ c. fault C (body_tokens c) (start_of C)) (one-tree f.body.seqs (seq_of f.body.seqs 0) c tree.0 makes tree.1))))

body-decided : (m : Module) → HasShape m → SectionIsValid m Functions → (k : ℕ) → Decided (EntryIsValid m Code k)
body-decided m shape typed k = by (slice_get m.funcs k) refl
  where
    by : (o : Option Func) → slice_get m.funcs k ≡ o → Decided (EntryIsValid m Code k)
    by None is = inl (λ f h. let e : None ≡ Some f = sym is ∙ h in absurd cc)
    by (Some f) is = elim (body-judged m shape typed k f is) [
      | inl valid ↦ inl (λ g h. subst (BodyIsValid m) (same-entry f g (sym is ∙ h)) valid)
      | inr fails ↦ inr (λ all. fails-invalid m f fails.0 fails.1 (all f is))
    ]

-- ---- sections, in the order of their ids

first-of : (P : ℕ → Type 0) → ((k : ℕ) → Decided (P k)) → (n : ℕ) → ((j : ℕ) → j < n → P j) ⊎ ((k : ℕ) × (P k → ⊥) × ((j : ℕ) → j < k → P j))
first-of P d zero = inl (λ j lt. absurd (omega (arith, lt)))
first-of P d (suc n) = elim (first-of P d n) [
  | inl all ↦ elim (d n) [
    | inl p ↦ inl (λ j lt. elim (apart j n) [
      | inl l ↦ all j l
      | inr (inl g) ↦ absurd (omega (arith, lt, g))
      | inr (inr e) ↦ subst P (sym e) p
    ])
    | inr np ↦ inr (n, np, all)
  ]
  | inr found ↦ inr found
]

abbrev Judged : Module → ℕ → Type 0
Judged m id = ValidBelow m id ⊎ ((f : Why) × FirstFault m f)

section-judged : (m : Module) (s : Section) → ((k : ℕ) → Decided (EntryIsValid m s k)) → SectionIsValid m s ⊎ ((k : ℕ) × IsFirstOf m s k)
section-judged m s d = elim (first-of (EntryIsValid m s) d (section_size m s)) [
  | inl all ↦ inl (all_valid m s all)
  | inr found ↦ inr (found.0, record { invalid = found.1; before = found.2 })
]

next : (m : Module) (s : Section) → (section_id s ≡ section_id Code → ⊥) → ((k : ℕ) → Decided (EntryIsValid m s k)) → Judged m (section_id s) → Judged m (section_id s + 1)
next m s other d (inr fault) = inr fault
next m s other d (inl below) = elim (section-judged m s d) [
  | inl valid ↦ inl (valid_below-more m s below valid)
  | inr found ↦ inr (Field (section_id s) found.0, (s, refl, other, record { first = found.1; sections_before = below }))
]

code-next : (m : Module) → HasShape m → Judged m 10 → Judged m 11
code-next m shape (inr fault) = inr fault
code-next m shape (inl below) =
    let typed : SectionIsValid m Functions = below Functions (omega arith) in
    elim (section-judged m Code (body-decided m shape typed)) [
      | inl valid ↦ inl (valid_below-more m Code below valid)
      | inr found ↦ at typed found.0 found.1 (slice_get m.funcs found.0) refl
    ]
  where
    at : SectionIsValid m Functions → (k : ℕ) → IsFirstOf m Code k → (o : Option Func) → slice_get m.funcs k ≡ o → Judged m 11
    at typed k first None is = absurd (first.invalid (λ f h. let e : None ≡ Some f = sym is ∙ h in absurd cc))
    at typed k first (Some f) is = elim (body-judged m shape typed k f is) [
      | inl valid ↦ absurd (first.invalid (λ g h. subst (BodyIsValid m) (same-entry f g (sym is ∙ h)) valid))
      | inr fails ↦ inr (InCode (length (imported_funcs m) + k) fails.0, (k, f, refl, is, record { first = first; sections_before = below }, fails.1))
    ]

nothing-below : (m : Module) → ValidBelow m 2
nothing-below m Imports lt = absurd (omega (arith, lt))
nothing-below m Functions lt = absurd (omega (arith, lt))
nothing-below m Tables lt = absurd (omega (arith, lt))
nothing-below m Memories lt = absurd (omega (arith, lt))
nothing-below m Globals lt = absurd (omega (arith, lt))
nothing-below m Exports lt = absurd (omega (arith, lt))
nothing-below m Start lt = absurd (omega (arith, lt))
nothing-below m Elements lt = absurd (omega (arith, lt))
nothing-below m Code lt = absurd (omega (arith, lt))
nothing-below m Data lt = absurd (omega (arith, lt))

pub valid-or-fault : (m : Module) → HasShape m → IsValid m ⊎ ((f : Why) × FirstFault m f)
valid-or-fault m shape =
    let imports : Judged m 3 = next m Imports (λ e. omega (arith, e)) (λ k. entry (λ i. ImportIsValid m k i.kind) (λ i. import-decided m k i.kind) m.imports k) (inl (nothing-below m)) in
    let functions : Judged m 4 = next m Functions (λ e. omega (arith, e)) (λ k. entry (λ f. f.ty < length m.types) (λ f. less f.ty (length m.types)) m.funcs k) imports in
    let tables : Judged m 5 = next m Tables (λ e. omega (arith, e)) (λ k. entry IsTableType (λ t. within (2 ^ 32 - 1) t.limits) m.tables k) functions in
    let memories : Judged m 6 = next m Memories (λ e. omega (arith, e)) (λ k. entry (MemoryIsValid m k) (memory-decided m k) m.memories k) tables in
    let globals : Judged m 7 = next m Globals (λ e. omega (arith, e)) (λ k. entry (λ g. IsConstant (length (funcs_of m)) (globals_before m k) g.init g.ty.kind) (λ g. constant-decided (length (funcs_of m)) (globals_before m k) g.init g.ty.kind) m.globals k) memories in
    let exports : Judged m 8 = next m Exports (λ e. omega (arith, e)) (λ k. entry (ExportIsValid m k) (export-decided m k) m.exports k) globals in
    let start : Judged m 9 = next m Start (λ e. omega (arith, e)) (λ k. started m k m.start refl) exports in
    let elements : Judged m 10 = next m Elements (λ e. omega (arith, e)) (λ k. entry (ElemIsValid m) (elem-decided m) m.elems k) start in
    let code : Judged m 11 = code-next m shape elements in
    elim (next m Data (λ e. omega (arith, e)) (λ k. entry (λ s. DataModeIsValid m s.mode) (λ s. data-decided m s.mode) m.segments k) code) [
      | inl all ↦ inl (all_below m all)
      | inr fault ↦ inr fault
    ]
