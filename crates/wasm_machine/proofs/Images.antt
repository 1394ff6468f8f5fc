-- The meaning of a state under the machine's moves, and as the algebra grows.
use Rattle.std.proofs.Common.{◌≡◌, ℕ, zero, suc, ◌+◌, ◌-◌, ◌<◌, ◌≤◌, List, [], ◌∷◌, map, take, drop, length, refl, sym, ap, ◌∙◌, subst, arith}
use Rattle.std.specs.Prelude.{Bool, true, false, slice_set, Some, option_map}
use Rattle.std.specs.List.{AllByRecursion}
use Rattle.std.proofs.lemmas.List.{map-append, take-map, drop-map, length-map}
use Rattle.wasm_rules.specs.Words.{Kept}
use Rattle.wasm_reduction.specs.Configurations.{I32, I64}
use Rattle.wasm_reduction.specs.Combinators.{word_of, valued}
use Rattle.wasm_reduction.specs.Maps.{ValueHas, ValuesHave}
use Rattle.wasm_rules.specs.Words.{bits_where}
use Rattle.wasm_machine.specs.declared.values.Reference.{Reference as CodeReference}
use Rattle.wasm_machine.specs.declared.values.Value.{Value as CodeValue}
use Rattle.wasm_machine.specs.declared.values.Value.TheVariants.{I32 as CodeI32, I64 as CodeI64, Ref as CodeRef}
use Rattle.wasm_machine.specs.declared.machine.Label.{Label as CodeLabel}
use Rattle.wasm_machine.specs.declared.machine.Frame.{Frame as CodeFrame}
use Rattle.wasm_machine.specs.States.{State, own, passed}
use Rattle.wasm_machine.specs.code.Moves.{pushed, without, replaced, with_local, with_global}
use Rattle.wasm_machine.specs.Values.{value, word_of as code_word, valued as code_valued, word_at, reference_at, ValueHeld, ValuesHeld}
use Rattle.wasm_machine.specs.Configurations.{AreFramesWellFormed, IsWellFormed, image}
use Rattle.wasm_machine.specs.Acts.{Sane}
use Rattle.wasm_machine.proofs.Lists.{map-reverse, all-append, all-take, all-drop, all-reverse}
use Rattle.wasm_machine.proofs.Steps.{well_formed-passed, well_formed-pushed, well_formed-without, well_formed-local}

-- ---- states

pub own-image : {V W : Type 0} (h : V → W) (s : State (CodeValue V)) → own (image h s) ≡ map (value h) (own s)
own-image h s = rw (drop-map (value h) s.frame.here.height s.operands) (sym (map-reverse (value h) (drop s.frame.here.height s.operands)))

frames-image : {V W : Type 0} (h : V → W) (ps : List CodeFrame) (labels : List CodeLabel) (ops locals : List V) → AreFramesWellFormed ps labels ops locals → AreFramesWellFormed ps labels (map h ops) (map h locals)
frames-image h [] labels ops locals l = tt
frames-image h (p ∷ ps) labels ops locals l = (
  record { height = rw (length-map ops h) l.0.height; falls = l.0.falls; labels_within = l.0.labels_within; base_within = rw (length-map locals h) l.0.base_within },
  rw (take-map h p.floor ops, take-map h p.base locals) (frames-image h ps (take p.labels labels) (take p.floor ops) (take p.base locals) l.1),
)

pub well_formed-image : {V W : Type 0} (h : V → W) (s : State (CodeValue V)) → IsWellFormed s → IsWellFormed (image h s)
well_formed-image h s l = record {
  frame = record { height = rw (length-map s.operands (value h)) l.frame.height; falls = l.frame.falls; labels_within = l.frame.labels_within; base_within = rw (length-map s.locals (value h)) l.frame.base_within };
  callers = rw (take-map (value h) s.frame.floor s.operands, take-map (value h) s.frame.base s.locals) (frames-image (value h) _ _ _ _ l.callers);
  short = l.short;
}

pub image-pushed : {V W : Type 0} (h : V → W) (x : CodeValue V) (s : State (CodeValue V)) → image h (pushed x s) ≡ pushed (value h x) (image h s)
image-pushed h x s = ap (λ o. record (image h s) { operands = o }) (map-append (value h) s.operands (x ∷ []))

pub image-without : {V W : Type 0} (h : V → W) (n : ℕ) (s : State (CodeValue V)) → image h (without n s) ≡ without n (image h s)
image-without h n s = ap (λ o. record (image h s) { operands = o }) (sym (take-map (value h) (length s.operands - n) s.operands) ∙ ap (λ k. take (k - n) (map (value h) s.operands)) (sym (length-map s.operands (value h))))

pub image-replaced : {V W : Type 0} (h : V → W) (n : ℕ) (x : CodeValue V) (s : State (CodeValue V)) → image h (replaced n x s) ≡ replaced n (value h x) (image h s)
image-replaced h n x s = image-pushed h x (without n s) ∙ ap (λ s. pushed (value h x) s) (image-without h n s)

pub length-own-image : {V W : Type 0} (h : V → W) (s : State (CodeValue V)) → length (own (image h s)) ≡ length (own s)
length-own-image h s = ap (λ l. length l) (own-image h s) ∙ length-map (own s) (value h)

-- ---- words that are kept

pub value-kept : {A V M : Type 0} (H : A → V → Type 0) (means : A → V → M) (a b : A) → Kept H means a b → (v : CodeValue V) → ValueHeld (H a) v → value (means b) v ≡ value (means a) v
value-kept H means a b k (CodeI32 w) h = ap (λ x. I32 x) (k w h).1
value-kept H means a b k (CodeI64 w) h = ap (λ x. I64 x) (k w h).1
value-kept H means a b k (CodeRef r) h = refl

pub held-kept : {A V M : Type 0} (H : A → V → Type 0) (means : A → V → M) (a b : A) → Kept H means a b → (v : CodeValue V) → ValueHeld (H a) v → ValueHeld (H b) v
held-kept H means a b k (CodeI32 w) h = (k w h).0
held-kept H means a b k (CodeI64 w) h = (k w h).0
held-kept H means a b k (CodeRef r) h = tt

pub values-kept : {A V M : Type 0} (H : A → V → Type 0) (means : A → V → M) (a b : A) → Kept H means a b → (vs : List (CodeValue V)) → ValuesHeld (H a) vs → map (value (means b)) vs ≡ map (value (means a)) vs
values-kept H means a b k [] h = refl
values-kept H means a b k (v ∷ vs) h = rw (value-kept H means a b k v h.0, values-kept H means a b k vs h.1)

pub all-kept : {A V M : Type 0} (H : A → V → Type 0) (means : A → V → M) (a b : A) → Kept H means a b → (vs : List (CodeValue V)) → ValuesHeld (H a) vs → ValuesHeld (H b) vs
all-kept H means a b k [] h = tt
all-kept H means a b k (v ∷ vs) h = (held-kept H means a b k v h.0, all-kept H means a b k vs h.1)

-- a state whose words were made before means what it meant
pub image-kept : {A V M : Type 0} (H : A → V → Type 0) (means : A → V → M) (a b : A) → Kept H means a b → (s : State (CodeValue V)) → Sane H a s → image (means b) s ≡ image (means a) s
image-kept H means a b k s h = rw (values-kept H means a b k s.operands h.operands, values-kept H means a b k s.locals h.locals, values-kept H means a b k s.globals h.globals)

pub sane-kept : {A V M : Type 0} (H : A → V → Type 0) (means : A → V → M) (a b : A) → Kept H means a b → (s : State (CodeValue V)) → Sane H a s → Sane H b s
sane-kept H means a b k s h = record { well_formed = h.well_formed; operands = all-kept H means a b k s.operands h.operands; locals = all-kept H means a b k s.locals h.locals; globals = all-kept H means a b k s.globals h.globals }

pub kept-same : {A V M : Type 0} (H : A → V → Type 0) (means : A → V → M) (a : A) → Kept H means a a
kept-same H means a w h = (h, refl)

pub kept-then : {A V M : Type 0} (H : A → V → Type 0) (means : A → V → M) (a b c : A) → Kept H means a b → Kept H means b c → Kept H means a c
kept-then H means a b c k l w h = let one = k w h in let two = l w one.0 in (two.0, two.1 ∙ one.1)

-- ---- states in order

pub sane-passed : {A V : Type 0} (H : A → V → Type 0) (a : A) (s : State (CodeValue V)) → Sane H a s → Sane H a (passed s)
sane-passed H a s h = record { well_formed = well_formed-passed s h.well_formed; operands = h.operands; locals = h.locals; globals = h.globals }

pub sane-pushed : {A V : Type 0} (H : A → V → Type 0) (a : A) (s : State (CodeValue V)) (v : CodeValue V) → Sane H a s → ValueHeld (H a) v → Sane H a (pushed v s)
sane-pushed H a s v h k = record { well_formed = well_formed-pushed s v h.well_formed; operands = all-append (ValueHeld (H a)) s.operands (v ∷ []) h.operands (k, tt); locals = h.locals; globals = h.globals }

pub sane-without : {A V : Type 0} (H : A → V → Type 0) (a : A) (s : State (CodeValue V)) (n : ℕ) → Sane H a s → n ≤ length (own s) → Sane H a (without n s)
sane-without H a s n h k = record { well_formed = well_formed-without s n h.well_formed k; operands = all-take (ValueHeld (H a)) (length s.operands - n) s.operands h.operands; locals = h.locals; globals = h.globals }

-- ---- operands

pub own-held : {A V : Type 0} (H : A → V → Type 0) (a : A) (s : State (CodeValue V)) → Sane H a s → ValuesHeld (H a) (own s)
own-held H a s h = all-reverse (ValueHeld (H a)) (drop s.frame.here.height s.operands) (all-drop (ValueHeld (H a)) s.frame.here.height s.operands h.operands)

pub word-image : {V W : Type 0} (h : V → W) (wide : Bool) (v : CodeValue V) → word_of wide (value h v) ≡ option_map h (code_word wide v)
word-image h false (CodeI32 w) = refl
word-image h true (CodeI32 w) = refl
word-image h false (CodeI64 w) = refl
word-image h true (CodeI64 w) = refl
word-image h false (CodeRef r) = refl
word-image h true (CodeRef r) = refl

pub valued-image : {V W : Type 0} (h : V → W) (wide : Bool) (w : V) → value h (code_valued wide w) ≡ valued wide (h w)
valued-image h false w = refl
valued-image h true w = refl

pub valued-held : {V : Type 0} (H : V → Type 0) (wide : Bool) (w : V) → H w → ValueHeld H (code_valued wide w)
valued-held H false w h = h
valued-held H true w h = h

-- the word at a place of a list of values, with what is known of it
word-held : {V : Type 0} (H : V → Type 0) (wide : Bool) (v : CodeValue V) (w : V) → ValueHeld H v → code_word wide v ≡ Some w → H w
word-held H false (CodeI32 x) w h e = let f : x ≡ w = cc in subst H f h
word-held H true (CodeI32 x) w h e = cc
word-held H false (CodeI64 x) w h e = cc
word-held H true (CodeI64 x) w h e = let f : x ≡ w = cc in subst H f h
word-held H false (CodeRef r) w h e = cc
word-held H true (CodeRef r) w h e = cc

word-wide : {V M : Type 0} (Has : ℕ → M → Type 0) (h : V → M) (wide : Bool) (v : CodeValue V) (w : V) → ValueHas Has (value h v) → code_word wide v ≡ Some w → Has (bits_where wide) (h w)
word-wide Has h false (CodeI32 x) w k e = let f : x ≡ w = cc in subst (λ y. Has 32 (h y)) f k
word-wide Has h true (CodeI32 x) w k e = cc
word-wide Has h false (CodeI64 x) w k e = cc
word-wide Has h true (CodeI64 x) w k e = let f : x ≡ w = cc in subst (λ y. Has 64 (h y)) f k
word-wide Has h false (CodeRef r) w k e = cc
word-wide Has h true (CodeRef r) w k e = cc

pub word_at-held : {V : Type 0} (H : V → Type 0) (wide : Bool) (vs : List (CodeValue V)) (k : ℕ) (w : V) → ValuesHeld H vs → Some w ≡ word_at wide vs k → H w
word_at-held H wide [] k w h e = cc
word_at-held H wide (v ∷ vs) zero w h e = word-held H wide v w h.0 (sym e)
word_at-held H wide (v ∷ vs) (suc k) w h e = word_at-held H wide vs k w h.1 e

pub word_at-wide : {V M : Type 0} (Has : ℕ → M → Type 0) (h : V → M) (wide : Bool) (vs : List (CodeValue V)) (k : ℕ) (w : V) → ValuesHave Has (map (value h) vs) → Some w ≡ word_at wide vs k → Has (bits_where wide) (h w)
word_at-wide Has h wide [] k w p e = cc
word_at-wide Has h wide (v ∷ vs) zero w p e = word-wide Has h wide v w p.0 (sym e)
word_at-wide Has h wide (v ∷ vs) (suc k) w p e = word_at-wide Has h wide vs k w p.1 e

pub word_at-some : {V : Type 0} (wide : Bool) (vs : List (CodeValue V)) (k : ℕ) (w : V) → Some w ≡ word_at wide vs k → k < length vs
word_at-some wide [] k w e = cc
word_at-some wide (v ∷ vs) zero w e = omega arith
word_at-some wide (v ∷ vs) (suc k) w e = omega (arith, word_at-some wide vs k w e)

pub reference_at-some : {V : Type 0} (vs : List (CodeValue V)) (k : ℕ) (r : CodeReference) → Some r ≡ reference_at vs k → k < length vs
reference_at-some [] k w e = cc
reference_at-some (v ∷ vs) zero w e = omega arith
reference_at-some (v ∷ vs) (suc k) w e = omega (arith, reference_at-some vs k w e)

-- ---- variables

map-slice_set : {V W : Type 0} (h : V → W) (xs : List V) (n : ℕ) (x : V) → map h (slice_set xs n x) ≡ slice_set (map h xs) n (h x)
map-slice_set h [] n x = refl
map-slice_set h (y ∷ xs) zero x = refl
map-slice_set h (y ∷ xs) (suc n) x = ap (λ l. h y ∷ l) (map-slice_set h xs n x)

all-set : {X : Type 0} (P : X → Type 0) (n : ℕ) (xs : List X) (x : X) → AllByRecursion P xs → P x → AllByRecursion P (slice_set xs n x)
all-set P n [] x h k = tt
all-set P zero (y ∷ xs) x h k = (k, h.1)
all-set P (suc n) (y ∷ xs) x h k = (h.0, all-set P n xs x h.1 k)

length-set : {X : Type 0} (xs : List X) (n : ℕ) (x : X) → length (slice_set xs n x) ≡ length xs
length-set [] n x = refl
length-set (y ∷ xs) zero x = refl
length-set (y ∷ xs) (suc n) x = omega (arith, length-set xs n x)

pub image-local : {V W : Type 0} (h : V → W) (x : ℕ) (v : CodeValue V) (s : State (CodeValue V)) → image h (with_local x v s) ≡ with_local x (value h v) (image h s)
image-local h x v s = ap (λ o. record (image h s) { locals = o }) (map-slice_set (value h) s.locals (s.frame.base + x) v)

pub image-global : {V W : Type 0} (h : V → W) (x : ℕ) (v : CodeValue V) (s : State (CodeValue V)) → image h (with_global x v s) ≡ with_global x (value h v) (image h s)
image-global h x v s = ap (λ o. record (image h s) { globals = o }) (map-slice_set (value h) s.globals x v)

pub sane-local : {A V : Type 0} (H : A → V → Type 0) (a : A) (s : State (CodeValue V)) (x : ℕ) (v : CodeValue V) → Sane H a s → ValueHeld (H a) v → Sane H a (with_local x v s)
sane-local H a s x v h k = record { well_formed = well_formed-local s x v h.well_formed (length-set s.locals (s.frame.base + x) v); operands = h.operands; locals = all-set (ValueHeld (H a)) (s.frame.base + x) s.locals v h.locals k; globals = h.globals }

pub sane-global : {A V : Type 0} (H : A → V → Type 0) (a : A) (s : State (CodeValue V)) (x : ℕ) (v : CodeValue V) → Sane H a s → ValueHeld (H a) v → Sane H a (with_global x v s)
sane-global H a s x v h k = record { well_formed = record { frame = h.well_formed.frame; callers = h.well_formed.callers; short = h.well_formed.short }; operands = h.operands; locals = h.locals; globals = all-set (ValueHeld (H a)) x s.globals v h.globals k }
