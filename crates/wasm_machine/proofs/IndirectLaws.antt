-- Calls of elements of tables.
use Rattle.std.proofs.Common.{◌≡◌, ℕ, ◌-◌, ◌^◌, ◌<◌, ◌≤◌, List, [], ◌∷◌, map, drop, length, refl, sym, ap, ◌∙◌, subst, arith}
use Rattle.std.specs.Prelude.{Bool, true, false, IsTrue, ◌&&◌, ◌↔◌, slice_get, Option, Some, None, option_map, option_and_then, unwrap_or}
use Rattle.std.proofs.lemmas.Option.{slice_get_past, slice_get-map}
use Rattle.std.proofs.lemmas.List.{length-map}
use Rattle.wasm_ast.specs.declared.types.ValType.{ValType}
use Rattle.wasm_ast.specs.declared.types.ValType.TheVariants.{I32 as I32Type, I64 as I64Type, FuncRef as FuncRefType, ExternRef as ExternRefType}
use Rattle.wasm_ast.specs.declared.types.FuncType.{FuncType}
use Rattle.wasm_ast.specs.declared.instructions.Instr.TheVariants.{CallIndirect}
use Rattle.wasm_ast.specs.declared.runs.Cause.TheVariants.{Undefined, Uninitialized, Mismatch}
use Rattle.wasm_ast.specs.declared.modules.Module.{Module}
use Rattle.wasm_rules.specs.Words.{Kind, Kept}
use Rattle.wasm_image.specs.Functions.{function_count, function_type}
use Rattle.wasm_reduction.specs.Configurations.{Reference, FuncRef, Config, Next}
use Rattle.wasm_reduction.specs.Combinators.{with_found, with_word}
use Rattle.wasm_reduction.specs.Ranges.{with_element, indexing}
use Rattle.wasm_reduction.specs.Functions.{Function, functions, type_of, same_types, same_function_type}
use Rattle.wasm_reduction.specs.Control.{calling, calling_of_type, calling_reference}
use Rattle.wasm_reduction.proofs.ImageFunctions.{function-types, has-type}
use Rattle.wasm_machine.specs.declared.values.Reference.{Reference as CodeReference}
use Rattle.wasm_machine.specs.declared.values.Reference.TheVariants.{Func, Extern}
use Rattle.wasm_machine.specs.declared.next.Question.{Question as CodeQuestion}
use Rattle.wasm_machine.specs.declared.values.Value.{Value as CodeValue}
use Rattle.wasm_machine.specs.declared.ranges.Reached.{Reached}
use Rattle.wasm_machine.specs.declared.ranges.Reached.TheVariants.{Ask as AskFor, OutOfBounds, At}
use Rattle.wasm_machine.specs.declared.next.End.TheVariants.{Stuck as CodeStuck, Traps as CodeTraps}
use Rattle.wasm_machine.specs.declared.next.Next.{Next as CodeNext}
use Rattle.wasm_machine.specs.declared.next.Next.TheVariants.{Asks as CodeAsks, Ends as CodeEnds}
use Rattle.wasm_machine.specs.States.{State, own, passed}
use Rattle.wasm_machine.specs.Values.{reference, word_at}
use Rattle.wasm_machine.specs.Configurations.{image, configuration}
use Rattle.wasm_machine.specs.Stores.{list_at, TablesSmall}
use Rattle.wasm_machine.specs.code.RangeProgress.{reached}
use Rattle.wasm_machine.specs.Acts.{Sane, Acts}
use Rattle.wasm_machine.specs.code.Simulation.{Simulates}
use Rattle.wasm_machine.proofs.Operands.{found-word, no-word}
use Rattle.wasm_machine.proofs.ActLaws.{acting, ask-acts, trap-acts, stuck-acts}
use Rattle.wasm_machine.proofs.Lists.{all-get}
use Rattle.wasm_machine.proofs.CallLaws.{function_says}
use Rattle.wasm_reduction.proofs.FunctionTypes.{same-function, same-function-refl}

-- ---- types of functions

pub same-is : (b : Bool) (s t : FuncType) → (IsTrue b ↔ (s ≡ t)) → b ≡ same_function_type s t
same-is true s t h = sym (ap (λ x. same_function_type x t) (h.0 refl) ∙ same-function-refl t)
same-is false s t h = by (same_function_type s t) refl
  where
    by : (c : Bool) → same_function_type s t ≡ c → false ≡ c
    by false e = refl
    by true e = h.1 (same-function s t e)

-- ---- a call of what has the type

-- what the reduction says of a reference to the function f, which was picked
abbrev pub picked : {A V M : Type 0} → (A → V → M) → Kind M → Module → A → State (CodeValue V) → FuncType → ℕ → List M → Next M
picked means K m a s type f b = calling_reference K m (configuration (means a) m b (passed s)) (drop 1 (own (image (means a) s))) (drop 2 s.answers) type (FuncRef (Some f))

functions-count : (m : Module) → length (functions m) ≡ function_count m
functions-count m = sym (length-map (functions m) (λ f. f.ty)) ∙ ap (λ l. length l) (function-types m)

pub picked-none : {A V M : Type 0} (H : A → V → Type 0) (means : A → V → M) (K : Kind M) (m : Module) (a : A) (s : State (CodeValue V)) (type : FuncType) (f : ℕ) → function_count m ≤ f → Simulates H means m a s s (CodeEnds CodeStuck) (picked means K m a s type f)
picked-none H means K m a s type f h = record {
  gives = λ b. ap (λ o. with_found o (λ g. with_found (type_of m g) (λ t. calling_of_type K m (configuration (means a) m b (passed s)) (drop 1 (own (image (means a) s))) (drop 2 s.answers) g (same_function_type t type))))
      (slice_get_past (functions m) f (omega (arith, h, functions-count m)));
  after = tt;
}

found-both : (m : Module) (o : Option Function) (t : FuncType) → option_and_then (type_of m) o ≡ Some t → (g : Function) × (o ≡ Some g) × (type_of m g ≡ Some t)
found-both m None t e = cc
found-both m (Some g) t e = (g, refl, e)

picked-is : {A V M : Type 0} (means : A → V → M) (K : Kind M) (m : Module) (a : A) (s : State (CodeValue V)) (type has : FuncType) (f : ℕ) (same : Bool) → function_type m f ≡ Some has → same ≡ same_function_type has type → (b : List M) →
    (g : Function) × (slice_get (functions m) f ≡ Some g) × (picked means K m a s type f b ≡ calling_of_type K m (configuration (means a) m b (passed s)) (drop 1 (own (image (means a) s))) (drop 2 s.answers) g same)
picked-is {M = M} means K m a s type has f same e q b =
    let found = found-both m (slice_get (functions m) f) has (has-type m f ∙ e) in
    let c : Config M = configuration (means a) m b (passed s) in (
      found.0,
      found.1,
      ap (λ o. with_found o (λ g. with_found (type_of m g) (λ t. calling_of_type K m c (drop 1 (own (image (means a) s))) (drop 2 s.answers) g (same_function_type t type)))) found.1 ∙
          ap (λ o. with_found o (λ t. calling_of_type K m c (drop 1 (own (image (means a) s))) (drop 2 s.answers) found.0 (same_function_type t type))) found.2 ∙
          ap (λ x. calling_of_type K m c (drop 1 (own (image (means a) s))) (drop 2 s.answers) found.0 x) (sym q),
    )

pub picked-mismatch : {A V M : Type 0} (H : A → V → Type 0) (means : A → V → M) (K : Kind M) (m : Module) (a : A) (s : State (CodeValue V)) (type has : FuncType) (f : ℕ) (same : Bool) → function_type m f ≡ Some has → same ≡ same_function_type has type → same ≡ false →
    Simulates H means m a s s (CodeEnds (CodeTraps Mismatch)) (picked means K m a s type f)
picked-mismatch {M = M} H means K m a s type has f same e q n = record {
  gives = λ b. let p = picked-is means K m a s type has f same e q b in let c : Config M = configuration (means a) m b (passed s) in
      p.2 ∙ ap (λ x. calling_of_type K m c (drop 1 (own (image (means a) s))) (drop 2 s.answers) p.0 x) n;
  after = tt;
}

pub picked-calls : {A V M : Type 0} (H : A → V → Type 0) (means : A → V → M) (K : Kind M) (m : Module) (a a' : A) (s t : State (CodeValue V)) (type has : FuncType) (f : ℕ) (same : Bool) (r : CodeNext V) → function_type m f ≡ Some has → same ≡ same_function_type has type → same ≡ true →
    Simulates H means m a' s t r (function_says means K m a s f 1 2) → Simulates H means m a' s t r (picked means K m a s type f)
picked-calls {M = M} H means K m a a' s t type has f same r e q n tells = record {
  gives = λ b. let p = picked-is means K m a s type has f same e q b in let c : Config M = configuration (means a) m b (passed s) in
      p.2 ∙ ap (λ x. calling_of_type K m c (drop 1 (own (image (means a) s))) (drop 2 s.answers) p.0 x) n ∙
      sym (ap (λ o. with_found o (λ g. calling K m c (drop 1 (own (image (means a) s))) (drop 2 s.answers) g g.body)) p.1) ∙ tells.gives b;
  after = tells.after;
}

-- ---- call_indirect

tables-are : {V : Type 0} (s : State (CodeValue V)) (x : ℕ) (o : Option (List CodeReference)) → o ≡ slice_get s.tables x → slice_get (map (λ t. map reference t) s.tables) x ≡ option_map (λ t. map reference t) o
tables-are s x o e = slice_get-map (λ t. map reference t) s.tables x ∙ ap (λ o. option_map (λ t. map reference t) o) (sym e)

sized : {X : Type 0} (o : Option (List X)) (size : ℕ) → Some size ≡ option_map length o → (xs : List X) × (o ≡ Some xs) × (length xs ≡ size)
sized None size e = cc
sized (Some xs) size e = let f : length xs ≡ size = cc in (xs, refl, f)

unsized : {X : Type 0} (o : Option (List X)) → None ≡ option_map length o → o ≡ None
unsized None e = refl
unsized (Some xs) e = cc

-- what the reduction goes on with
abbrev entry_of : {A V M : Type 0} → (A → V → M) → Kind M → Module → A → State (CodeValue V) → FuncType → List M → ℕ → Reference → List ℕ → Next M
entry_of means K m a s type b i r ns = calling_reference K m (configuration (means a) m b (passed s)) (drop 1 (own (image (means a) s))) ns type r

indirect-type : {A V M : Type 0} (means : A → V → M) (K : Kind M) (m : Module) (a : A) (s : State (CodeValue V)) (ty x : ℕ) (o : Option FuncType) → slice_get m.types ty ≡ o → (b : List M) →
    acting means K m (CallIndirect ty x) a s b ≡ with_found o (λ type. with_found (slice_get (map (λ t. map reference t) s.tables) x) (λ elements. with_word false (own (image (means a) s)) (λ index rest. indexing K Undefined index elements s.answers (λ i r ns.
    calling_reference K m (configuration (means a) m b (passed s)) rest ns type r))))
indirect-type means K m a s ty x o e b = ap (λ o. with_found o (λ type. with_found (slice_get (map (λ t. map reference t) s.tables) x) (λ elements. with_word false (own (image (means a) s)) (λ index rest. indexing K Undefined index elements s.answers (λ i r ns.
    calling_reference K m (configuration (means a) m b (passed s)) rest ns type r))))) e

indirect-table : {A V M : Type 0} (means : A → V → M) (K : Kind M) (m : Module) (a : A) (s : State (CodeValue V)) (x : ℕ) (type : FuncType) (o : Option (List CodeReference)) → slice_get s.tables x ≡ o → (b : List M) →
    with_found (slice_get (map (λ t. map reference t) s.tables) x) (λ elements. with_word false (own (image (means a) s)) (λ index rest. indexing K Undefined index elements s.answers (λ i r ns. calling_reference K m (configuration (means a) m b (passed s)) rest ns type r))) ≡
    with_found (option_map (λ t. map reference t) o) (λ elements. with_word false (own (image (means a) s)) (λ index rest. indexing K Undefined index elements s.answers (λ i r ns. calling_reference K m (configuration (means a) m b (passed s)) rest ns type r)))
indirect-table means K m a s x type o e b = ap (λ o. with_found o (λ elements. with_word false (own (image (means a) s)) (λ index rest. indexing K Undefined index elements s.answers (λ i r ns. calling_reference K m (configuration (means a) m b (passed s)) rest ns type r)))) (tables-are s x o (sym e))

pub indirect-no-type : {A V M : Type 0} (H : A → V → Type 0) (means : A → V → M) (K : Kind M) (m : Module) (a : A) (s : State (CodeValue V)) (ty x : ℕ) → slice_get m.types ty ≡ None → Acts H means K m (CallIndirect ty x) a s a s (CodeEnds CodeStuck)
indirect-no-type H means K m a s ty x e = stuck-acts H means K m (CallIndirect ty x) a a s s (λ b. indirect-type means K m a s ty x None e b)

pub indirect-no-table : {A V M : Type 0} (H : A → V → Type 0) (means : A → V → M) (K : Kind M) (m : Module) (a : A) (s : State (CodeValue V)) (ty x : ℕ) (type : FuncType) → slice_get m.types ty ≡ Some type → None ≡ option_map length (slice_get s.tables x) →
    Acts H means K m (CallIndirect ty x) a s a s (CodeEnds CodeStuck)
indirect-no-table H means K m a s ty x type e f = stuck-acts H means K m (CallIndirect ty x) a a s s (λ b. indirect-type means K m a s ty x (Some type) e b ∙ indirect-table means K m a s x type None (unsized (slice_get s.tables x) f) b)

pub indirect-no-index : {A V M : Type 0} (H : A → V → Type 0) (means : A → V → M) (K : Kind M) (m : Module) (a : A) (s : State (CodeValue V)) (ty x : ℕ) (type : FuncType) (size : ℕ) → slice_get m.types ty ≡ Some type → Some size ≡ option_map length (slice_get s.tables x) →
    None ≡ word_at false (own s) 0 → Acts H means K m (CallIndirect ty x) a s a s (CodeEnds CodeStuck)
indirect-no-index H means K m a s ty x type size e f g =
    let found = sized (slice_get s.tables x) size f in
    stuck-acts H means K m (CallIndirect ty x) a a s s (λ b. indirect-type means K m a s ty x (Some type) e b ∙ indirect-table means K m a s x type (Some found.0) found.1 b ∙ no-word (means a) s false 0 _ g)

-- the type, the table and the index
pub record Indirect {V : Type 0} (m : Module) (s : State (CodeValue V)) (ty x : ℕ) (type : FuncType) (size : ℕ) (index : V) (ns : List ℕ) : Type 0 where
  pub typed : slice_get m.types ty ≡ Some type
  pub table : Some size ≡ option_map length (slice_get s.tables x)
  pub index_is : Some index ≡ word_at false (own s) 0
  pub answers : ns ≡ s.answers

pub indirect-says : {A V M : Type 0} (means : A → V → M) (K : Kind M) (m : Module) (a : A) (s : State (CodeValue V)) (ty x : ℕ) (type : FuncType) (size : ℕ) (index : V) (ns : List ℕ) (h : V → M) (r : Reached V ℕ) → Indirect m s ty x type size index ns →
    ((elements : List Reference) (go : ℕ → Reference → List ℕ → Next M) → length elements ≡ size → indexing K Undefined (means a index) elements ns go ≡ reached h Undefined (λ i. with_element Undefined (slice_get elements i) (λ r. go i r (drop 2 ns))) r) →
    (b : List M) → acting means K m (CallIndirect ty x) a s b ≡
    reached h Undefined (λ i. with_element Undefined (option_map reference (slice_get (list_at s.tables x) i)) (λ r. calling_reference K m (configuration (means a) m b (passed s)) (drop 1 (own (image (means a) s))) (drop 2 s.answers) type r)) r
indirect-says {V = V} {M = M} means K m a s ty x type size index ns h r p says b =
    let found = sized (slice_get s.tables x) size p.table in
    let c : Config M = configuration (means a) m b (passed s) in
    let listed : found.0 ≡ list_at s.tables x = sym (ap (λ o. unwrap_or o []) found.1) in
    indirect-type means K m a s ty x (Some type) p.typed b ∙ indirect-table means K m a s x type (Some found.0) found.1 b ∙ found-word (means a) s false 0 index _ p.index_is ∙
    ap (λ l. indexing K Undefined (means a index) (map reference found.0) l (λ i r ns. calling_reference K m c (drop 1 (own (image (means a) s))) ns type r)) (sym p.answers) ∙
    says (map reference found.0) (λ i r ns. calling_reference K m c (drop 1 (own (image (means a) s))) ns type r) (length-map found.0 reference ∙ found.2) ∙
    ap (λ l. reached h Undefined (λ i. with_element Undefined (slice_get (map reference found.0) i) (λ r. calling_reference K m c (drop 1 (own (image (means a) s))) (drop 2 l) type r)) r) p.answers ∙
    ap (λ l. reached h Undefined (λ i. with_element Undefined (slice_get (map reference l) i) (λ r. calling_reference K m c (drop 1 (own (image (means a) s))) (drop 2 s.answers) type r)) r) listed ∙
    at r
  where
    at : (r : Reached V ℕ) → reached h Undefined (λ i. with_element Undefined (slice_get (map reference (list_at s.tables x)) i) (λ r. calling_reference K m (configuration (means a) m b (passed s)) (drop 1 (own (image (means a) s))) (drop 2 s.answers) type r)) r ≡
        reached h Undefined (λ i. with_element Undefined (option_map reference (slice_get (list_at s.tables x) i)) (λ r. calling_reference K m (configuration (means a) m b (passed s)) (drop 1 (own (image (means a) s))) (drop 2 s.answers) type r)) r
    at (AskFor q w) = refl
    at OutOfBounds = refl
    at (At i) = ap (λ o. with_element Undefined o (λ r. calling_reference K m (configuration (means a) m b (passed s)) (drop 1 (own (image (means a) s))) (drop 2 s.answers) type r)) (slice_get-map reference (list_at s.tables x) i)

-- at the element i
pub indirect-at : {A V M : Type 0} (means : A → V → M) (K : Kind M) (m : Module) (a : A) (s : State (CodeValue V)) (ty x : ℕ) (type : FuncType) (size : ℕ) (index : V) (ns : List ℕ) (h : V → M) (i : ℕ) (o : Option CodeReference) → Indirect m s ty x type size index ns →
    ((elements : List Reference) (go : ℕ → Reference → List ℕ → Next M) → length elements ≡ size → indexing K Undefined (means a index) elements ns go ≡ reached h Undefined (λ i. with_element Undefined (slice_get elements i) (λ r. go i r (drop 2 ns))) (At i)) →
    o ≡ slice_get (list_at s.tables x) i → (b : List M) → acting means K m (CallIndirect ty x) a s b ≡
    with_element Undefined (option_map reference o) (λ r. calling_reference K m (configuration (means a) m b (passed s)) (drop 1 (own (image (means a) s))) (drop 2 s.answers) type r)
indirect-at means K m a s ty x type size index ns h i o p says e b =
    indirect-says means K m a s ty x type size index ns h (At i) p says b ∙
    ap (λ o. with_element Undefined (option_map reference o) (λ r. calling_reference K m (configuration (means a) m b (passed s)) (drop 1 (own (image (means a) s))) (drop 2 s.answers) type r)) (sym e)

-- ---- the reference that was picked

-- what the reduction says of a reference that was picked
abbrev pub referring : {A V M : Type 0} → (A → V → M) → Kind M → Module → A → State (CodeValue V) → FuncType → CodeReference → List M → Next M
referring means K m a s type r b = calling_reference K m (configuration (means a) m b (passed s)) (drop 1 (own (image (means a) s))) (drop 2 s.answers) type (reference r)

pub reference-extern : {A V M : Type 0} (H : A → V → Type 0) (means : A → V → M) (K : Kind M) (m : Module) (a : A) (s : State (CodeValue V)) (type : FuncType) (r : CodeReference) → r ≡ Extern → Simulates H means m a s s (CodeEnds CodeStuck) (referring means K m a s type r)
reference-extern H means K m a s type r e = record { gives = λ b. ap (λ r. referring means K m a s type r b) e; after = tt }

pub reference-null : {A V M : Type 0} (H : A → V → Type 0) (means : A → V → M) (K : Kind M) (m : Module) (a : A) (s : State (CodeValue V)) (type : FuncType) (r : CodeReference) (o : Option ℕ) → r ≡ Func o → o ≡ None →
    Simulates H means m a s s (CodeEnds (CodeTraps Uninitialized)) (referring means K m a s type r)
reference-null H means K m a s type r o e f = record { gives = λ b. ap (λ r. referring means K m a s type r b) (e ∙ ap (λ o. Func o) f); after = tt }

pub reference-function : {A V M : Type 0} (H : A → V → Type 0) (means : A → V → M) (K : Kind M) (m : Module) (a a' : A) (s t : State (CodeValue V)) (type : FuncType) (r : CodeReference) (o : Option ℕ) (f : ℕ) (x : CodeNext V) → r ≡ Func o → o ≡ Some f →
    Simulates H means m a' s t x (picked means K m a s type f) → Simulates H means m a' s t x (referring means K m a s type r)
reference-function H means K m a a' s t type r o f x e g tells = record { gives = λ b. ap (λ r. referring means K m a s type r b) (e ∙ ap (λ o. Func o) g) ∙ tells.gives b; after = tells.after }

-- what the questions of the index say
abbrev pub IndexSays : {A V M : Type 0} → (A → V → M) → Kind M → A → A → V → ℕ → List ℕ → Reached V ℕ → Type 0
IndexSays {M = M} means K a a' index size ns r = (elements : List Reference) (go : ℕ → Reference → List ℕ → Next M) → length elements ≡ size →
    indexing K Undefined (means a index) elements ns go ≡ reached (means a') Undefined (λ i. with_element Undefined (slice_get elements i) (λ r. go i r (drop 2 ns))) r

pub indirect-asks : {A V M : Type 0} (H : A → V → Type 0) (means : A → V → M) (K : Kind M) (m : Module) (a a' : A) → Kept H means a a' → (s : State (CodeValue V)) (ty x : ℕ) (type : FuncType) (size : ℕ) (index : V) (ns : List ℕ) (q : CodeQuestion) (w : V) → Sane H a s →
    Indirect m s ty x type size index ns → H a' w → IndexSays means K a a' index size ns (AskFor q w) → Acts H means K m (CallIndirect ty x) a s a' s (CodeAsks q w)
indirect-asks H means K m a a' k s ty x type size index ns q w sane p held says =
    ask-acts H means K m (CallIndirect ty x) a a' k s q w sane held (λ b. indirect-says means K m a s ty x type size index ns (means a') (AskFor q w) p says b)

pub indirect-out : {A V M : Type 0} (H : A → V → Type 0) (means : A → V → M) (K : Kind M) (m : Module) (a a' : A) (s : State (CodeValue V)) (ty x : ℕ) (type : FuncType) (size : ℕ) (index : V) (ns : List ℕ) →
    Indirect m s ty x type size index ns → IndexSays means K a a' index size ns OutOfBounds → Acts H means K m (CallIndirect ty x) a s a' s (CodeEnds (CodeTraps Undefined))
indirect-out H means K m a a' s ty x type size index ns p says =
    trap-acts H means K m (CallIndirect ty x) a a' s s Undefined (λ b. indirect-says means K m a s ty x type size index ns (means a') OutOfBounds p says b)

pub indirect-lacks : {A V M : Type 0} (H : A → V → Type 0) (means : A → V → M) (K : Kind M) (m : Module) (a a' : A) (s : State (CodeValue V)) (ty x : ℕ) (type : FuncType) (size : ℕ) (index : V) (ns : List ℕ) (i : ℕ) →
    Indirect m s ty x type size index ns → IndexSays means K a a' index size ns (At i) → None ≡ slice_get (list_at s.tables x) i → Acts H means K m (CallIndirect ty x) a s a' s (CodeEnds (CodeTraps Undefined))
indirect-lacks H means K m a a' s ty x type size index ns i p says e =
    trap-acts H means K m (CallIndirect ty x) a a' s s Undefined (λ b. indirect-at means K m a s ty x type size index ns (means a') i None p says e b)

pub indirect-calls : {A V M : Type 0} (H : A → V → Type 0) (means : A → V → M) (K : Kind M) (m : Module) (a a' a'' : A) (s t : State (CodeValue V)) (ty x : ℕ) (type : FuncType) (size : ℕ) (index : V) (ns : List ℕ) (i : ℕ) (r : CodeReference) (y : CodeNext V) →
    Indirect m s ty x type size index ns → a' ≡ a → IndexSays means K a a' index size ns (At i) → Some r ≡ slice_get (list_at s.tables x) i → Simulates H means m a'' s t y (referring means K m a' s type r) → Acts H means K m (CallIndirect ty x) a s a'' t y
indirect-calls H means K m a a' a'' s t ty x type size index ns i r y p same says e tells = record {
  gives = λ b. indirect-at means K m a s ty x type size index ns (means a') i (Some r) p says e b ∙ ap (λ a. referring means K m a s type r b) (sym same) ∙ tells.gives b;
  after = tells.after;
}

-- what the calls require
pub table-small : {V : Type 0} (s : State (CodeValue V)) (x size : ℕ) → TablesSmall s → Some size ≡ option_map length (slice_get s.tables x) → size < 2 ^ 32
table-small s x size small e =
    let f = sized (slice_get s.tables x) size e in
    subst (λ n. n < 2 ^ 32) f.2 (all-get (λ t. length t < 2 ^ 32) s.tables x f.0 small f.1)
