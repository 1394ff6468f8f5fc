-- One step, put together from the instruction that is next.
use Rattle.std.proofs.Common.{◌≡◌, ℕ, zero, suc, ◌+◌, ◌-◌, ◌^◌, ◌<◌, ◌≤◌, List, [], ◌∷◌, ◌++◌, map, drop, length, refl, sym, ap, ◌∙◌, subst, arith}
use Rattle.std.specs.Prelude.{All, slice_get, get_or, Option, Some, None}
use Rattle.std.specs.List.{AllByRecursion}
use Rattle.std.proofs.lemmas.List.{length-map}
use Rattle.wasm_ast.specs.declared.instructions.Instr.{Instr}
use Rattle.wasm_ast.specs.declared.instructions.Instr.TheVariants.{Call}
use Rattle.wasm_ast.specs.declared.modules.Module.{Module}
use Rattle.wasm_rules.specs.Words.{Kind, Kept}
use Rattle.wasm_reduction.specs.Control.{finish}
use Rattle.wasm_reduction.specs.Instantiation.{start_call}
use Rattle.wasm_image.specs.Sizes.{most_elements}
use Rattle.wasm_reduction.specs.Maps.{InRange, ValuesHave}
use Rattle.wasm_reduction.specs.Steps.{act, step_code}
use Rattle.wasm_reduction.specs.Widths.{HasWidths}
use Rattle.wasm_machine.specs.declared.values.Reference.{Reference as CodeReference}
use Rattle.wasm_machine.specs.declared.values.Value.{Value as CodeValue}
use Rattle.wasm_machine.specs.declared.next.Next.{Next as CodeNext}
use Rattle.wasm_machine.specs.declared.next.Next.TheVariants.{Goes as CodeGoes, Draws as CodeDraws, Asks as CodeAsks, Ends as CodeEnds}
use Rattle.wasm_machine.specs.States.{State, own}
use Rattle.wasm_machine.specs.Values.{reference, value}
use Rattle.wasm_machine.specs.Configurations.{code_of, outer_call_of, config_of, image, configuration}
use Rattle.wasm_machine.specs.Stores.{TablesSmall, CellsReady}
use Rattle.wasm_machine.specs.Acts.{IsNext, told, Acts, BytesAfter, ActsOn}
use Rattle.wasm_machine.specs.code.Simulation.{SimulatesWithoutAsking}
use Rattle.wasm_machine.specs.Steps.{Steps, StepsAnyhow}
use Rattle.wasm_machine.proofs.Lists.{drop_at_some, drop_at_none}
use Rattle.wasm_machine.proofs.Steps.{config_of-passed}
use Rattle.wasm_machine.proofs.Images.{own-image}
use Rattle.wasm_machine.proofs.ControlLaws.{going-after}

-- ---- the memory, of instructions that leave it as it is

cells-kept : {A V M : Type 0} (H : A → V → Type 0) (means : A → V → M) (a a' : A) → Kept H means a a' → (b : List V) → AllByRecursion (H a) b → map (means a') b ≡ map (means a) b
cells-kept H means a a' k [] h = refl
cells-kept H means a a' k (w ∷ ws) h = rw ((k w h.0).1, cells-kept H means a a' k ws h.1)

cells-held : {A V M : Type 0} (H : A → V → Type 0) (means : A → V → M) (a a' : A) → Kept H means a a' → (b : List V) → AllByRecursion (H a) b → AllByRecursion (H a') b
cells-held H means a a' k [] h = tt
cells-held H means a a' k (w ∷ ws) h = ((k w h.0).0, cells-held H means a a' k ws h.1)

bytes-stay : {A V : Type 0} (H : A → V → Type 0) (a : A) (b : List V) (x : CodeNext V) → AllByRecursion (H a) b → BytesAfter H a b b x
bytes-stay H a b CodeGoes h = h
bytes-stay H a b (CodeDraws wide) h = h
bytes-stay H a b (CodeAsks q w) h = (h, refl)
bytes-stay H a b (CodeEnds e) h = tt

told-bytes : {V M : Type 0} (h : V → M) (m : Module) (b d : List M) (t : State (CodeValue V)) (x : CodeNext V) → b ≡ d → told h m b t x ≡ told h m d t x
told-bytes h m b d t x e = ap (λ b. told h m b t x) e

pub acts-on : {A V M : Type 0} (H : A → V → Type 0) (means : A → V → M) (K : Kind M) (m : Module) (i j : Instr) (a a' : A) → Kept H means a a' → (s t : State (CodeValue V)) (b : List V) (x : CodeNext V) → AllByRecursion (H a) b → i ≡ j → Acts H means K m j a s a' t x →
    ActsOn H means K m i a s b a' t b x
acts-on H means K m i j a a' k s t b x held e r =
    subst (λ i. ActsOn H means K m i a s b a' t b x) (sym e) (record {
      gives = r.gives (map (means a) b) ∙ told-bytes (means a') m (map (means a) b) (map (means a') b) t x (sym (cells-kept H means a a' k b held));
      after = r.after;
      bytes = bytes-stay H a' b x (cells-held H means a a' k b held);
    })

pub on-is : {A V M : Type 0} (H : A → V → Type 0) (means : A → V → M) (K : Kind M) (m : Module) (i j : Instr) (a a' : A) (s t : State (CodeValue V)) (b d : List V) (x : CodeNext V) → i ≡ j → ActsOn H means K m j a s b a' t d x → ActsOn H means K m i a s b a' t d x
on-is H means K m i j a a' s t b d x e r = subst (λ i. ActsOn H means K m i a s b a' t d x) (sym e) r

-- ---- what a state with widths is ready for

pub wide-state : {V M : Type 0} (Has : ℕ → M → Type 0) (h : V → M) (m : Module) (b : List M) (s : State (CodeValue V)) → HasWidths Has (configuration h m b s) → ValuesHave Has (map (value h) (own s))
wide-state Has h m b s w = subst (λ vs. ValuesHave Has vs) (own-image h s) w.frame.here.vals

small-tables : (ts : List (List CodeReference)) → AllByRecursion (λ t. length t ≤ most_elements) (map (λ t. map reference t) ts) → AllByRecursion (λ t. length t < 2 ^ 32) ts
small-tables [] h = tt
small-tables (t ∷ ts) h = (omega (arith, h.0, length-map t reference), small-tables ts h.1)

pub small-state : {V M : Type 0} (Has : ℕ → M → Type 0) (h : V → M) (m : Module) (b : List M) (s : State (CodeValue V)) → HasWidths Has (configuration h m b s) → TablesSmall s
small-state Has h m b s w = small-tables s.tables w.store.tables

pub all-of : {X : Type 0} (P : X → Type 0) (xs : List X) → AllByRecursion P xs → All P xs
all-of P [] h = λ i d l. absurd (omega arith)
all-of {X = X} P (x ∷ xs) h = λ i d l. by (all-of P xs h.1) i d l
  where
    by : All P xs → (i : ℕ) (d : X) → i < length (x ∷ xs) → P (get_or (x ∷ xs) i d)
    by rest zero d l = h.0
    by rest (suc i) d l = rest i d (omega arith)

all-map : {X Y : Type 0} (P : Y → Type 0) (f : X → Y) (xs : List X) → All P (map f xs) → All (λ x. P (f x)) xs
all-map P f [] h = λ i d l. absurd (omega arith)
all-map {X = X} P f (x ∷ xs) h = λ i d l. by (all-map P f xs (λ j e k. h (suc j) e (omega arith))) i d l
  where
    by : All (λ x. P (f x)) xs → (i : ℕ) (d : X) → i < length (x ∷ xs) → P (f (get_or (x ∷ xs) i d))
    by rest zero d l = h 0 (f d) (omega arith)
    by rest (suc i) d l = rest i d (omega arith)

pub ready-cells : {A V M : Type 0} (H : A → V → Type 0) (Has : ℕ → M → Type 0) (means : A → V → M) (m : Module) (a : A) (s : State (CodeValue V)) (cells : List V) → AllByRecursion (H a) cells → HasWidths Has (configuration (means a) m (map (means a) cells) s) →
    CellsReady H Has means a cells
ready-cells H Has means m a s cells h w = record { held = all-of (H a) cells h; width = all-map (Has 8) (means a) cells w.store.memory }

-- ---- the instruction that is next

pub next-is : {X : Type 0} (m : Module) (s : State X) (f : ℕ) (i : Instr) → s.frame.func ≡ Some f → slice_get (code_of m s.entry (Some f) s.frame.here.seq) s.frame.here.place ≡ Some i → IsNext m s i
next-is m s f i e g = record {
  f = f;
  there = e;
  rest = drop (s.frame.here.place + 1) (code_of m s.entry s.frame.func s.frame.here.seq);
  is = drop_at_some (code_of m s.entry s.frame.func s.frame.here.seq) s.frame.here.place i (ap (λ o. slice_get (code_of m s.entry o s.frame.here.seq) s.frame.here.place) e ∙ g);
}

pub next-in-range : {V M : Type 0} (Has : ℕ → M → Type 0) (h : V → M) (m : Module) (b : List M) (s : State (CodeValue V)) (i : Instr) → IsNext m s i → HasWidths Has (configuration h m b s) → InRange i
next-in-range Has h m b s i n w = by (drop s.frame.here.place (code_of m s.entry s.frame.func s.frame.here.seq)) n.is w.frame.here.code
  where
    by : (is : List Instr) → is ≡ i ∷ n.rest → AllByRecursion InRange is → InRange i
    by [] e h = cc
    by (j ∷ js) e h = let f : j ≡ i = cc in subst InRange f h.0

pub next-steps : {A V M : Type 0} (H : A → V → Type 0) (means : A → V → M) (K : Kind M) (m : Module) (i : Instr) (a a' : A) (s t : State (CodeValue V)) (b d : List V) (x : CodeNext V) → IsNext m s i → ActsOn H means K m i a s b a' t d x → Steps H means K m a s b a' t d x
next-steps H means K m i a a' s t b d x n r =
    let S = image (means a) s in
    let B = map (means a) b in
    record {
      gives = ap (λ is. step_code K m (config_of m B S) is) n.is ∙ ap (λ c. act K m c (own S) s.answers i) (sym (config_of-passed m B S i n.rest n.is)) ∙ r.gives;
      after = r.after;
      bytes = r.bytes;
    }

-- ---- the end of a label

pub end-steps : {A V M : Type 0} (H : A → V → Type 0) (means : A → V → M) (K : Kind M) (m : Module) (a : A) (s t : State (CodeValue V)) (b : List V) (x : CodeNext V) (f : ℕ) → s.frame.func ≡ Some f → slice_get (code_of m s.entry (Some f) s.frame.here.seq) s.frame.here.place ≡ None → AllByRecursion (H a) b →
    SimulatesWithoutAsking H means m a t x (λ b. finish (configuration (means a) m b s) (own (image (means a) s)) (configuration (means a) m b s).frame.outer) → Steps H means K m a s b a t b x
end-steps H means K m a s t b x f e g held r =
    let S = image (means a) s in
    let B = map (means a) b in
    let none : drop s.frame.here.place (code_of m s.entry s.frame.func s.frame.here.seq) ≡ [] = drop_at_none (code_of m s.entry s.frame.func s.frame.here.seq) s.frame.here.place (ap (λ o. slice_get (code_of m s.entry o s.frame.here.seq) s.frame.here.place) e ∙ g) in
    record { gives = ap (λ is. step_code K m (config_of m B S) is) none ∙ r.gives B; after = going-after H a s t x r.going; bytes = bytes-stay H a b x held }

-- ---- the outermost frame

outer-some : (start : Option ℕ) (entry place x : ℕ) → Some x ≡ outer_call_of start entry place → (rest : List Instr) × (drop place (start_call start ++ Call entry ∷ []) ≡ Call x ∷ rest)
outer-some None entry zero x e = let f : entry ≡ x = cc in ([], ap (λ x. Call x ∷ []) f)
outer-some None entry (suc place) x e = cc
outer-some (Some start) entry zero x e = let f : start ≡ x = cc in (Call entry ∷ [], ap (λ x. Call x ∷ Call entry ∷ []) f)
outer-some (Some start) entry (suc zero) x e = let f : entry ≡ x = cc in ([], ap (λ x. Call x ∷ []) f)
outer-some (Some start) entry (suc (suc place)) x e = cc

outer-none : (start : Option ℕ) (entry place : ℕ) → None ≡ outer_call_of start entry place → drop place (start_call start ++ Call entry ∷ []) ≡ []
outer-none None entry zero e = cc
outer-none None entry (suc zero) e = refl
outer-none None entry (suc (suc place)) e = refl
outer-none (Some start) entry zero e = cc
outer-none (Some start) entry (suc zero) e = cc
outer-none (Some start) entry (suc (suc zero)) e = refl
outer-none (Some start) entry (suc (suc (suc place))) e = refl

pub outer-place : (start : Option ℕ) (entry place x : ℕ) → Some x ≡ outer_call_of start entry place → place + 1 < 2 ^ 64
outer-place None entry zero x e = omega arith
outer-place None entry (suc place) x e = cc
outer-place (Some start) entry zero x e = omega arith
outer-place (Some start) entry (suc zero) x e = omega arith
outer-place (Some start) entry (suc (suc place)) x e = cc

pub call-steps : {A V M : Type 0} (H : A → V → Type 0) (means : A → V → M) (K : Kind M) (m : Module) (a a' : A) (s t : State (CodeValue V)) (f : ℕ) (x : CodeNext V) → s.frame.func ≡ None → Some f ≡ outer_call_of m.start s.entry s.frame.here.place → Acts H means K m (Call f) a s a' t x → StepsAnyhow H means K m a s a' t x
call-steps H means K m a a' s t f x e g r =
    let S = image (means a) s in
    let found = outer-some m.start s.entry s.frame.here.place f g in
    let is : drop s.frame.here.place (code_of m s.entry s.frame.func s.frame.here.seq) ≡ Call f ∷ found.0 = ap (λ o. drop s.frame.here.place (code_of m s.entry o s.frame.here.seq)) e ∙ found.1 in
    record {
      gives = λ b. ap (λ is. step_code K m (config_of m b S) is) is ∙ ap (λ c. act K m c (own S) s.answers (Call f)) (sym (config_of-passed m b S (Call f) found.0 is)) ∙ r.gives b;
      after = r.after;
    }

pub over-steps : {A V M : Type 0} (H : A → V → Type 0) (means : A → V → M) (K : Kind M) (m : Module) (a : A) (s t : State (CodeValue V)) (x : CodeNext V) → s.frame.func ≡ None → None ≡ outer_call_of m.start s.entry s.frame.here.place →
    SimulatesWithoutAsking H means m a t x (λ b. finish (configuration (means a) m b s) (own (image (means a) s)) (configuration (means a) m b s).frame.outer) → StepsAnyhow H means K m a s a t x
over-steps H means K m a s t x e g r =
    let none : drop s.frame.here.place (code_of m s.entry s.frame.func s.frame.here.seq) ≡ [] = ap (λ o. drop s.frame.here.place (code_of m s.entry o s.frame.here.seq)) e ∙ outer-none m.start s.entry s.frame.here.place g in
    record { gives = λ b. ap (λ is. step_code K m (configuration (means a) m b s) is) none ∙ r.gives b; after = going-after H a s t x r.going }

pub anyhow-steps : {A V M : Type 0} (H : A → V → Type 0) (means : A → V → M) (K : Kind M) (m : Module) (a a' : A) → Kept H means a a' → (s t : State (CodeValue V)) (b : List V) (x : CodeNext V) → AllByRecursion (H a) b → StepsAnyhow H means K m a s a' t x → Steps H means K m a s b a' t b x
anyhow-steps H means K m a a' k s t b x held r = record {
  gives = r.gives (map (means a) b) ∙ told-bytes (means a') m (map (means a) b) (map (means a') b) t x (sym (cells-kept H means a a' k b held));
  after = r.after;
  bytes = bytes-stay H a' b x (cells-held H means a a' k b held);
}

-- ---- the module that an image lends

pub acts-at : {A V M : Type 0} (H : A → V → Type 0) (means : A → V → M) (K : Kind M) (m m' : Module) (i : Instr) (a a' : A) (s t : State (CodeValue V)) (x : CodeNext V) → m' ≡ m → Acts H means K m' i a s a' t x → Acts H means K m i a s a' t x
acts-at H means K m m' i a a' s t x e r = subst (λ m. Acts H means K m i a s a' t x) e r

pub on-at : {A V M : Type 0} (H : A → V → Type 0) (means : A → V → M) (K : Kind M) (m m' : Module) (i : Instr) (a a' : A) (s t : State (CodeValue V)) (b d : List V) (x : CodeNext V) → m' ≡ m → ActsOn H means K m' i a s b a' t d x → ActsOn H means K m i a s b a' t d x
on-at H means K m m' i a a' s t b d x e r = subst (λ m. ActsOn H means K m i a s b a' t d x) e r

pub next-at : {X : Type 0} (m m' : Module) (s : State X) (i j : Instr) → m' ≡ m → i ≡ j → IsNext m s i → IsNext m' s j
next-at m m' s i j e f n = subst (λ m. IsNext m s j) (sym e) (subst (λ i. IsNext m s i) f n)
