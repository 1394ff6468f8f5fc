-- The words of the configuration that a run begins with have their widths.
use Rattle.std.proofs.Common.{◌≡◌, ℕ, suc, ◌+◌, ◌*◌, ◌^◌, ◌<◌, ◌≤◌, List, [], ◌∷◌, ◌++◌, map, length, refl, sym, ap, ◌∙◌, subst, arith, length-append}
use Rattle.std.specs.Prelude.{All, Bool, true, false, nat_lt, if◌then◌else◌, Option, Some, None, option_map, option_and_then, slice_get, replicate, flat_map, filter_map, Result, Ok, Err}
use Rattle.std.specs.List.{AllByRecursion, cons_option}
use Rattle.std.proofs.lemmas.Bool.Decides.{nat_tests}
use Rattle.std.proofs.lemmas.List.{length-map, length-replicate}
use Rattle.std.proofs.lemmas.List.Elements.{All-nil, All-append, All-replicate, All-map, All-weaker, All-head, All-tail}
use Rattle.wasm_ast.specs.Shape.{InstrHasShape, SeqHasShape, FuncHasShape, ElemHasShape, SegmentHasShape}
use Rattle.wasm_ast.specs.declared.types.Limits.{Limits}
use Rattle.wasm_ast.specs.declared.types.TableType.{TableType}
use Rattle.wasm_ast.specs.declared.instructions.Instr.{Instr}
use Rattle.wasm_ast.specs.declared.instructions.Instr.TheVariants.{BrTable, Load, Store as StoreInstr, Const32, Const64, RefNull, RefFunc, GlobalGet, Call}
use Rattle.wasm_ast.specs.declared.modules.Import.{Import}
use Rattle.wasm_ast.specs.declared.modules.Func.{Func}
use Rattle.wasm_ast.specs.declared.modules.GlobalDef.{GlobalDef}
use Rattle.wasm_ast.specs.declared.modules.Mode.{Mode}
use Rattle.wasm_ast.specs.declared.modules.Mode.TheVariants.{Passive, Declared, Active}
use Rattle.wasm_ast.specs.declared.modules.Elem.{Elem}
use Rattle.wasm_ast.specs.declared.modules.Segment.{Segment}
use Rattle.wasm_ast.specs.declared.modules.Module.{Module}
use Rattle.wasm_ast.specs.declared.runs.Cause.{Cause}
use Rattle.wasm_ast.specs.declared.runs.Value.{Value as Argument}
use Rattle.wasm_ast.specs.declared.runs.Value.TheVariants.{I32 as I32Argument, I64 as I64Argument, Func as FuncArgument, Extern as ExternArgument}
use Rattle.wasm_rules.specs.Words.{Kind, Gives, HasNumber}
use Rattle.wasm_check.specs.declared.sections.Section.TheVariants.{Memories}
use Rattle.wasm_check.specs.Contexts.{func_import, tables_of, memories_of, table_import, imported_memories}
use Rattle.wasm_check.specs.Modules.{IsValid}
use Rattle.wasm_image.specs.Sizes.{most_pages, most_elements}
use Rattle.wasm_image.specs.Ready.{IsReady}
use Rattle.wasm_reduction.specs.Configurations.{Reference, FuncRef, Value, I32, I64, Ref, Store, Config, End, Traps}
use Rattle.wasm_reduction.specs.Functions.{Code, Function, functions, imported_as, defined_as}
use Rattle.wasm_reduction.specs.Combinators.{written}
use Rattle.wasm_reduction.specs.Tables.{null_of}
use Rattle.wasm_reduction.specs.Memories.{page_bytes}
use Rattle.wasm_reduction.specs.Images.{value_image, values_image, store_image}
use Rattle.wasm_reduction.specs.Instantiation.{reference_in, offset_in, all_of, first_globals, first_elems, first_tables, allocated, allocated_with, Instantiated, with_part, in_range, after, start_elem, start_data, start_elems, start_datas, instantiated, argument, start_call, invoked, first_config}
use Rattle.wasm_reduction.specs.Maps.{ValueHas, ValuesHave, InRange}
use Rattle.wasm_ast.specs.Ranges.{InstrInRange, ExprInRange, FuncInRange, SegmentInRange}
use Rattle.wasm_reduction.specs.Widths.{HasNumbers, ArgumentFits, IsMemorySize, AreBytes, StoreHasWidths, HasWidths}
pub use Rattle.wasm_reduction.proofs.ConstantStarts.{some-of, map-of}
use Rattle.wasm_reduction.proofs.ConstantStarts.{globals-have}
use Rattle.wasm_reduction.proofs.WideParts.{each-get, each-of, each-set, each-append, written-length, written-all, have-reverse}
use Rattle.wasm_reduction.proofs.WideSteps.{CodeInRange}

-- ---- the code of functions

instr-in-range : (i : Instr) → InstrHasShape i → InstrInRange i → InRange i
instr-in-range (BrTable labels last) s f = s
instr-in-range (Load op align offset) s f = f
instr-in-range (StoreInstr op align offset) s f = f
instr-in-range (Const32 n) s f = f
instr-in-range (Const64 n) s f = f
instr-in-range _ s f = tt

instrs-in-range : (is : List Instr) → All InstrHasShape is → All InstrInRange is → AllByRecursion InRange is
instrs-in-range [] s f = tt
instrs-in-range (i ∷ is) s f = (instr-in-range i (All-head InstrHasShape i is s) (All-head InstrInRange i is f), instrs-in-range is (All-tail InstrHasShape i is s) (All-tail InstrInRange i is f))

abbrev SeqsInRange : List (List Instr) → Type 0
SeqsInRange seqs = AllByRecursion (λ is. AllByRecursion InRange is) seqs

seqs-in-range : (seqs : List (List Instr)) → All SeqHasShape seqs → All (λ is. All InstrInRange is) seqs → SeqsInRange seqs
seqs-in-range [] s f = tt
seqs-in-range (is ∷ rest) s f = (
  instrs-in-range is (let one : SeqHasShape is = All-head SeqHasShape is rest s in one.each) (All-head (λ is. All InstrInRange is) is rest f),
  seqs-in-range rest (All-tail SeqHasShape is rest s) (All-tail (λ is. All InstrInRange is) is rest f),
)

abbrev BodyInRange : Function → Type 0
BodyInRange f = (code : Func) → f.body ≡ Code code → SeqsInRange code.body.seqs

one-import : (i : Import) (o : Option ℕ) (fs : List Function) → AllByRecursion BodyInRange fs → AllByRecursion BodyInRange (cons_option (option_map (imported_as i) o) fs)
one-import i None fs h = h
one-import i (Some ty) fs h = ((λ code e. absurd cc), h)

imports-in-range : (is : List Import) → AllByRecursion BodyInRange (filter_map (λ i. option_map (imported_as i) (func_import i.kind)) is)
imports-in-range [] = tt
imports-in-range (i ∷ is) = one-import i (func_import i.kind) _ (imports-in-range is)

own-in-range : (fs : List Func) → All FuncHasShape fs → All FuncInRange fs → AllByRecursion BodyInRange (map defined_as fs)
own-in-range [] s h = tt
own-in-range (f ∷ fs) s h = (
  (λ code e. let same : f ≡ code = cc in subst (λ f. SeqsInRange f.body.seqs) same
      (let one : FuncHasShape f = All-head FuncHasShape f fs s in let range : FuncInRange f = All-head FuncInRange f fs h in seqs-in-range f.body.seqs one.body.each range.body)),
  own-in-range fs (All-tail FuncHasShape f fs s) (All-tail FuncInRange f fs h),
)

pub code-in-range : (m : Module) → HasNumbers m → CodeInRange m
code-in-range m h x f code found is =
    each-get BodyInRange (functions m) x f
    (each-append BodyInRange (filter_map (λ i. option_map (imported_as i) (func_import i.kind)) m.imports) (map defined_as m.funcs) (imports-in-range m.imports) (own-in-range m.funcs h.shape.funcs h.range.funcs))
    found code is

-- ---- all of several, where each is there

pub record Both {A : Type 0} (o : Option A) (os : Option (List A)) (ys : List A) : Type 0 where
  pub first : A
  pub others : List A
  pub is_first : o ≡ Some first
  pub are_others : os ≡ Some others
  pub both : ys ≡ first ∷ others

pub both-are : {A : Type 0} (o : Option A) (os : Option (List A)) (ys : List A) → option_and_then (λ y. option_map (λ ys. y ∷ ys) os) o ≡ Some ys → Both o os ys
both-are None os ys e = absurd cc
both-are (Some y) None ys e = absurd cc
both-are (Some y) (Some rest) ys e = record { first = y; others = rest; is_first = refl; are_others = refl; both = let same : y ∷ rest ≡ ys = cc in sym same }

all-length : {A B : Type 0} (f : A → Option B) (xs : List A) (ys : List B) → all_of (map f xs) ≡ Some ys → length ys ≡ length xs
all-length f [] ys e = let same : [] ≡ ys = cc in sym (ap length same)
all-length f (x ∷ xs) ys e = let b = both-are (f x) (all_of (map f xs)) ys e in ap length b.both ∙ ap suc (all-length f xs b.others b.are_others)

-- what is of each that is found
all-are : {A B : Type 0} (P : A → Type 0) (Q : B → Type 0) (f : A → Option B) → ((x : A) (y : B) → P x → f x ≡ Some y → Q y) → (xs : List A) (ys : List B) → AllByRecursion P xs → all_of (map f xs) ≡ Some ys → AllByRecursion Q ys
all-are P Q f g [] ys h e = let same : [] ≡ ys = cc in subst (AllByRecursion Q) same tt
all-are P Q f g (x ∷ xs) ys h e =
    let b = both-are (f x) (all_of (map f xs)) ys e in
    subst (AllByRecursion Q) (sym b.both) (g x b.first h.0 b.is_first, all-are P Q f g xs b.others h.1 b.are_others)

-- ---- sizes

second-part : {A : Type 0} (P : A → Type 0) (xs ys : List A) → AllByRecursion P (xs ++ ys) → AllByRecursion P ys
second-part P [] ys h = h
second-part P (x ∷ xs) ys h = second-part P xs ys h.1

unmapped : {A B : Type 0} (P : B → Type 0) (f : A → B) (xs : List A) → AllByRecursion P (map f xs) → AllByRecursion (λ x. P (f x)) xs
unmapped P f [] h = tt
unmapped P f (x ∷ xs) h = (h.0, unmapped P f xs h.1)

nulls-few : (t : TableType) (o : Option Reference) (elements : List Reference) → t.limits.min ≤ most_elements → option_map (replicate t.limits.min) o ≡ Some elements → length elements ≤ most_elements
nulls-few t None elements l e = absurd cc
nulls-few t (Some r) elements l e =
    let same : replicate t.limits.min r ≡ elements = cc in
    subst (λ es. length es ≤ most_elements) same (let n = length-replicate t.limits.min r in omega (arith, n, l))

tables-few : (m : Module) → IsReady m → AllByRecursion (λ t. t.limits.min ≤ most_elements) m.tables
tables-few m ready =
    second-part (λ t. t.limits.min ≤ most_elements) (filter_map (λ i. table_import i.kind) m.imports) m.tables
    (unmapped (λ l. l.min ≤ most_elements) (λ t. t.limits) (tables_of m) (each-of (λ l. l.min ≤ most_elements) _ ready.fits.tables))

abbrev zeros_of : List Limits → List ℕ
zeros_of memories = flat_map (λ limits. replicate (limits.min * page_bytes) 0) memories

memory-few : (memories : List Limits) → ((k : ℕ) (l : Limits) → slice_get memories k ≡ Some l → k ≡ 0) → AllByRecursion (λ l. l.min ≤ most_pages) memories →
    IsMemorySize (length (zeros_of memories))
memory-few [] one h = record { pages = 0; whole = refl; few = omega arith }
memory-few (l ∷ []) one h = record {
  pages = l.min;
  whole = length-append (replicate (l.min * page_bytes) 0) [] ∙ (let n = length-replicate {A = ℕ} (l.min * page_bytes) 0 in omega (arith, n));
  few = h.0;
}
memory-few (l ∷ k ∷ rest) one h = absurd (let e : 1 ≡ 0 = one 1 k refl in omega (arith, e))

zeros : (memories : List Limits) → All (HasNumber 8) (zeros_of memories)
zeros [] = All-nil (HasNumber 8)
zeros (l ∷ rest) = All-append (HasNumber 8) (replicate (l.min * page_bytes) 0) (zeros_of rest) (All-replicate (HasNumber 8) (l.min * page_bytes) 0 (omega arith)) (zeros rest)

segments-are : (ss : List Segment) → All SegmentHasShape ss → All SegmentInRange ss → AllByRecursion AreBytes (map (λ s. s.bytes) ss)
segments-are [] s h = tt
segments-are (x ∷ ss) s h = (
  record { each = (let range : SegmentInRange x = All-head SegmentInRange x ss h in range.bytes); short = let one : SegmentHasShape x = All-head SegmentHasShape x ss s in one.short },
  segments-are ss (All-tail SegmentHasShape x ss s) (All-tail SegmentInRange x ss h),
)

elems-few : (globals : List (Value ℕ)) (es : List Elem) (elems : List (List Reference)) → All ElemHasShape es → all_of (map (λ e. all_of (map (reference_in globals) e.items)) es) ≡ Some elems → AllByRecursion (λ t. length t < 2 ^ 32) elems
elems-few globals es elems s e =
    all-are ElemHasShape (λ t. length t < 2 ^ 32) (λ e. all_of (map (reference_in globals) e.items)) (λ x t h f. let long = all-length (reference_in globals) x.items t f in let short = h.short in omega (arith, long, short))
    es elems (each-of ElemHasShape es s) e

-- ---- the store

abbrev StartFits : Instantiated → Type 0
StartFits (Ok s) = StoreHasWidths HasNumber s
StartFits (Err e) = Unit {0}

part-starts : {A : Type 0} (o : Option A) (go : A → Instantiated) → ((x : A) → o ≡ Some x → StartFits (go x)) → StartFits (with_part o go)
part-starts None go f = tt
part-starts (Some x) go f = f x refl

range-starts : (end size : ℕ) (cause : Cause) (next : Instantiated) → (end ≤ size → StartFits next) → StartFits (in_range end size cause next)
range-starts end size cause next f = at (nat_lt size end) refl
  where
    at : (b : Bool) → nat_lt size end ≡ b → StartFits (if b then Err (Traps cause) else next)
    at true e = tt
    at false e = f (grind (arith, nat_tests, e))

after-starts : (x : Instantiated) (go : Store ℕ → Instantiated) → StartFits x → ((s : Store ℕ) → StoreHasWidths HasNumber s → StartFits (go s)) → StartFits (after x go)
after-starts (Ok s) go h f = f s h
after-starts (Err e) go h f = tt

elem-starts : (k : ℕ) (mode : Mode) (s : Store ℕ) → StoreHasWidths HasNumber s → StartFits (start_elem k mode s)
elem-starts k Passive s h = h
elem-starts k Declared s h = record { globals = h.globals; tables = h.tables; memory = h.memory; memory_size = h.memory_size; elems = each-set _ s.elems k [] h.elems (omega arith); datas = h.datas }
elem-starts k (Active x offset) s h = part-starts (offset_in s.globals offset) _ (λ place d. part-starts (slice_get s.tables x) _ (λ elements e. part-starts (slice_get s.elems k) _ (λ references f.
    range-starts (place + length references) (length elements) _ _ (λ l. record {
      globals = h.globals;
      tables = each-set (λ t. length t ≤ most_elements) s.tables x (written place references elements) h.tables
          (let few : length elements ≤ most_elements = each-get (λ t. length t ≤ most_elements) s.tables x elements h.tables e in let n = written-length place (length references) references elements refl l in omega (arith, few, n));
      memory = h.memory;
      memory_size = h.memory_size;
      elems = each-set _ s.elems k [] h.elems (omega arith);
      datas = h.datas;
    }))))

data-starts : (k : ℕ) (mode : Mode) (s : Store ℕ) → StoreHasWidths HasNumber s → StartFits (start_data k mode s)
data-starts k Passive s h = h
data-starts k Declared s h = h
data-starts k (Active x offset) s h = part-starts (offset_in s.globals offset) _ (λ place d. part-starts (slice_get s.datas k) _ (λ bytes f.
    range-starts (place + length bytes) (length s.memory) _ _ (λ l. record {
      globals = h.globals;
      tables = h.tables;
      memory = written-all (HasNumber 8) place bytes s.memory (let b : AreBytes bytes = each-get AreBytes s.datas k bytes h.datas f in b.each) h.memory;
      memory_size = subst IsMemorySize (sym (written-length place (length bytes) bytes s.memory refl l)) h.memory_size;
      elems = h.elems;
      datas = each-set AreBytes s.datas k [] h.datas (record { each = All-nil (λ b. b < 2 ^ 8); short = omega arith });
    })))

elems-start : (k : ℕ) (es : List Elem) (s : Store ℕ) → StoreHasWidths HasNumber s → StartFits (start_elems k es s)
elems-start k [] s h = h
elems-start k (e ∷ es) s h = after-starts (start_elem k e.mode s) (start_elems (k + 1) es) (elem-starts k e.mode s h) (λ s h. elems-start (k + 1) es s h)

datas-start : (k : ℕ) (ds : List Segment) (s : Store ℕ) → StoreHasWidths HasNumber s → StartFits (start_datas k ds s)
datas-start k [] s h = h
datas-start k (d ∷ ds) s h = after-starts (start_data k d.mode s) (start_datas (k + 1) ds) (data-starts k d.mode s h) (λ s h. datas-start (k + 1) ds s h)

allocated-has : (m : Module) (s : Store ℕ) → HasNumbers m → IsValid m → IsReady m → allocated m ≡ Some s → StoreHasWidths HasNumber s
allocated-has m s h valid ready e =
    let g = some-of (first_globals m) (allocated_with m) s e in
    let el = some-of (first_elems m g.0) _ s g.2 in
    let t = map-of (first_tables m) _ s el.2 in
    subst (StoreHasWidths HasNumber) t.2 (record {
      globals = globals-have [] m.globals g.0 tt (each-of (λ g. ExprInRange g.init) m.globals h.range.globals) g.1;
      tables = all-are (λ t. t.limits.min ≤ most_elements) (λ t. length t ≤ most_elements) (λ t. option_map (replicate t.limits.min) (null_of t.kind)) (λ t es l e. nulls-few t (null_of t.kind) es l e) m.tables t.0 (tables-few m ready) t.1;
      memory = zeros m.memories;
      memory_size = memory-few m.memories (λ k l e. (valid Memories k l e).first) (second-part (λ l. l.min ≤ most_pages) (imported_memories m) m.memories (each-of (λ l. l.min ≤ most_pages) (memories_of m) ready.fits.memories));
      elems = elems-few g.0 m.elems el.0 h.shape.elems el.1;
      datas = segments-are m.segments h.shape.segments h.range.segments;
    })

instantiated-fits : (m : Module) → HasNumbers m → IsValid m → IsReady m → StartFits (instantiated m)
instantiated-fits m h valid ready = part-starts (allocated m) _ (λ s e.
    after-starts (start_elems 0 m.elems s) (start_datas 0 m.segments) (elems-start 0 m.elems s (allocated-has m s h valid ready e)) (λ s h. datas-start 0 m.segments s h))

-- ---- the first configuration

module _ {W : Type 0} (Has : ℕ → W → Type 0) (K : Kind W) (g : Gives K Has) where
  value-image-has : (v : Value ℕ) → ValueHas HasNumber v → ValueHas Has (value_image K.number v)
  value-image-has (I32 n) h = g.number 32 n h
  value-image-has (I64 n) h = g.number 64 n h
  value-image-has (Ref r) h = tt

  values-image-have : (vs : List (Value ℕ)) → ValuesHave HasNumber vs → ValuesHave Has (values_image K.number vs)
  values-image-have [] h = tt
  values-image-have (v ∷ vs) h = (value-image-has v h.0, values-image-have vs h.1)

  store-image-has : (s : Store ℕ) → StoreHasWidths HasNumber s → StoreHasWidths Has (store_image K.number s)
  store-image-has s h = record {
    globals = values-image-have s.globals h.globals;
    tables = h.tables;
    memory = All-map (Has 8) K.number s.memory (All-weaker (HasNumber 8) (λ n. Has 8 (K.number n)) (λ n l. g.number 8 n l) s.memory h.memory);
    memory_size = subst IsMemorySize (sym (length-map s.memory K.number)) h.memory_size;
    elems = h.elems;
    datas = h.datas;
  }

  argument-has : (a : Argument) → ArgumentFits a → ValueHas HasNumber (argument a)
  argument-has (I32Argument n) h = h
  argument-has (I64Argument n) h = h
  argument-has (FuncArgument f) h = tt
  argument-has ExternArgument h = tt

  arguments-have : (args : List Argument) → All ArgumentFits args → ValuesHave Has (map (λ a. value_image K.number (argument a)) args)
  arguments-have [] h = tt
  arguments-have (a ∷ args) h = (value-image-has (argument a) (argument-has a (All-head ArgumentFits a args h)), arguments-have args (All-tail ArgumentFits a args h))

  start-in-range : (start : Option ℕ) (entry : ℕ) → AllByRecursion InRange (start_call start ++ Call entry ∷ [])
  start-in-range None entry = (tt, tt)
  start-in-range (Some x) entry = (tt, (tt, tt))

  abbrev AsConfig : Config W → Result (Config W) (End W)
  AsConfig c = Ok c

  same-config : (c d : Config W) → AsConfig c ≡ AsConfig d → c ≡ d
  same-config c d e = cc

  invoked-has : (m : Module) (entry : ℕ) (args : List Argument) (x : Instantiated) → StartFits x → All ArgumentFits args → (c : Config W) → invoked K m entry args x ≡ Ok c → HasWidths Has c
  invoked-has m entry args (Err e) h a c is = absurd cc
  invoked-has m entry args (Ok s) h a c is = subst (HasWidths Has) (same-config _ c is) (record {
    store = store-image-has s h;
    frame = record {
      locals = tt;
      seqs = tt;
      here = record { again = tt; vals = have-reverse Has _ (arguments-have args a); code = start-in-range m.start entry };
      outer = tt;
    };
    callers = tt;
  })

  pub first-wide : (m : Module) (entry : ℕ) (args : List Argument) (c : Config W) → HasNumbers m → IsValid m → IsReady m → All ArgumentFits args → first_config K m entry args ≡ Ok c → HasWidths Has c
  first-wide m entry args c h valid ready a is = invoked-has m entry args (instantiated m) (instantiated-fits m h valid ready) a c is
