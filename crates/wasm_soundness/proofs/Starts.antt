-- A run of a valid module that is ready begins with a configuration that fits.
use Rattle.std.proofs.Common.{◌≡◌, ℕ, suc, ◌+◌, List, [], ◌∷◌, ◌++◌, map, length, reverse, take, refl, sym, ap, ◌∙◌, subst, inl, inr, arith, append-nil}
use Rattle.std.specs.Prelude.{All, Bool, true, false, nat_lt, if◌then◌else◌, Option, Some, None, option_map, option_and_then, slice_get, slice_set, replicate, Ok, Err}
use Rattle.std.specs.List.{AllByRecursion}
use Rattle.std.proofs.lemmas.List.{length-map, length-set}
use Rattle.std.proofs.lemmas.List.Elements.{All-head, All-tail}
use Rattle.std.proofs.lemmas.Option.{slice_get_within}
use Rattle.wasm_ast.specs.Shape.{IsReference, ExprHasShape, ModeHasShape, ElemHasShape, SegmentHasShape, HasShape}
use Rattle.wasm_ast.specs.declared.types.ValType.{ValType}
use Rattle.wasm_ast.specs.declared.types.ValType.TheVariants.{I32 as I32Type, I64 as I64Type, FuncRef as FuncRefType, ExternRef as ExternRefType}
use Rattle.wasm_ast.specs.declared.types.FuncType.{FuncType}
use Rattle.wasm_ast.specs.declared.types.TableType.{TableType}
use Rattle.wasm_ast.specs.declared.types.GlobalType.{GlobalType}
use Rattle.wasm_ast.specs.declared.instructions.Instr.TheVariants.{Call}
use Rattle.wasm_ast.specs.declared.instructions.Expr.{Expr}
use Rattle.wasm_ast.specs.declared.modules.Mode.{Mode}
use Rattle.wasm_ast.specs.declared.modules.Mode.TheVariants.{Passive, Declared, Active}
use Rattle.wasm_ast.specs.declared.modules.Elem.{Elem}
use Rattle.wasm_ast.specs.declared.modules.Segment.{Segment}
use Rattle.wasm_ast.specs.declared.modules.Module.{Module}
use Rattle.wasm_ast.specs.declared.runs.Cause.{Cause}
use Rattle.wasm_ast.specs.declared.runs.Cause.TheVariants.{Memory, Table}
use Rattle.wasm_ast.specs.declared.runs.Value.{Value as Argument}
use Rattle.wasm_ast.specs.declared.runs.Value.TheVariants.{I32 as I32Argument, I64 as I64Argument, Func as FuncArgument, Extern as ExternArgument}
use Rattle.wasm_rules.specs.Words.{Kind}
use Rattle.wasm_check.specs.declared.operands.Operand.{Operand}
use Rattle.wasm_check.specs.declared.operands.Operand.TheVariants.{Of}
use Rattle.wasm_check.specs.declared.sections.Section.TheVariants.{Globals, Start, Elements, Data}
use Rattle.wasm_check.specs.Constants.{IsConstant}
use Rattle.wasm_check.specs.Contexts.{funcs_of, tables_of, globals_of}
use Rattle.wasm_check.specs.Modules.{StartIsValid, IsOffset, ElemModeIsValid, ElemIsValid, DataModeIsValid, IsValid}
use Rattle.wasm_check.specs.Operands.{operands}
use Rattle.wasm_check.specs.Operators.{arrow}
use Rattle.wasm_image.specs.Entries.{type_of}
use Rattle.wasm_image.specs.Functions.{function_type}
use Rattle.wasm_reduction.specs.Configurations.{Reference, Value, I32, I64, Ref, Store, End, Returns, Traps, Fails, Assumes, Stuck}
use Rattle.wasm_reduction.specs.Combinators.{written, word_of, reference_of}
use Rattle.wasm_reduction.specs.Tables.{null_of}
use Rattle.wasm_reduction.specs.Images.{value_image, values_image, end_image}
use Rattle.wasm_reduction.specs.Instantiation.{reference_in, offset_in, all_of, first_globals, first_elems, first_tables, first_memory, allocated, allocated_with, Instantiated, with_part, in_range, after, drop_elem, drop_data, start_elem, start_data, start_elems, start_datas, instantiated, argument, start_call, invoked, first_config}
use Rattle.wasm_reduction.proofs.ImageFunctions.{get-map}
use Rattle.wasm_reduction.proofs.WideParts.{each-of}
use Rattle.wasm_soundness.specs.Values.{ReferenceIs, ValueIs, OperandIs, Hold, ofs}
use Rattle.wasm_soundness.specs.Configurations.{AreReferences, StoreFits, AreTypedCalls, IsTrap, StartFits}
use Rattle.wasm_soundness.specs.Laws.{CanBeRun, NamesFunction, Fit}
use Rattle.wasm_soundness.proofs.Constants.{functions-count, value-there, globals-there}
use Rattle.wasm_soundness.proofs.Holding.{get-within, hold-reverse, references-get, references-set, each-replicate}
use Rattle.wasm_soundness.proofs.Modules.{ModuleFits, module-fits, entries}
use Rattle.wasm_soundness.proofs.Steps.{null-is, each-written}

-- ---- lists

all-cons : {A : Type 0} (o : Option A) (os : Option (List A)) (y : A) (ys : List A) → o ≡ Some y → os ≡ Some ys → option_and_then (λ y. option_map (λ ys. y ∷ ys) os) o ≡ Some (y ∷ ys)
all-cons o os y ys e f = ap (λ o. option_and_then (λ y. option_map (λ ys. y ∷ ys) os) o) e ∙ ap (λ os. option_map (λ ys. y ∷ ys) os) f

-- ---- values of constant expressions

reference-value : (m : Module) (v : Value ℕ) (kind : ValType) → IsReference kind → ValueIs m v kind → (r : Reference) × (reference_of v ≡ Some r) × ReferenceIs m kind r
reference-value m (Ref r) kind is h = (r, refl, h)
reference-value m (I32 n) kind is h = elim is [ inl e ↦ absurd (subst (ValueIs m (I32 n)) e h) | inr e ↦ absurd (subst (ValueIs m (I32 n)) e h) ]
reference-value m (I64 n) kind is h = elim is [ inl e ↦ absurd (subst (ValueIs m (I64 n)) e h) | inr e ↦ absurd (subst (ValueIs m (I64 n)) e h) ]

number-value : (m : Module) (v : Value ℕ) → ValueIs m v I32Type → (n : ℕ) × (word_of false v ≡ Some n)
number-value m (I32 n) h = (n, refl)
number-value m (I64 n) h = absurd h
number-value m (Ref r) h = absurd h

-- ---- allocation

module _ (m : Module) (types : List GlobalType) (globals : List (Value ℕ)) (have : Hold m globals (ofs (map (λ t. t.kind) types))) where
  items-there : (kind : ValType) → IsReference kind → (items : List Expr) → AllByRecursion (λ item. IsConstant (length (funcs_of m)) types item kind) items → AllByRecursion ExprHasShape items →
      (rs : List Reference) × (all_of (map (reference_in globals) items) ≡ Some rs) × AllByRecursion (ReferenceIs m kind) rs
  items-there kind is [] h s = ([], refl, tt)
  items-there kind is (item ∷ items) h s =
      let v = value-there m types globals have item kind s.0 h.0 in
      let r = reference-value m v.0 kind is v.2 in
      let rest = items-there kind is items h.1 s.1 in
      (r.0 ∷ rest.0, all-cons _ _ r.0 rest.0 (ap (option_and_then reference_of) v.1 ∙ r.1) rest.1, (r.2, rest.2))

  abbrev ItemsAre : Elem → Type 0
  ItemsAre e = All (λ item. IsConstant (length (funcs_of m)) types item e.kind) e.items

  elems-there : (es : List Elem) → AllByRecursion ItemsAre es → AllByRecursion ElemHasShape es →
      (rss : List (List Reference)) × (all_of (map (λ e. all_of (map (reference_in globals) e.items)) es) ≡ Some rss) × AreReferences m rss (map (λ e. e.kind) es)
  elems-there [] h s = ([], refl, tt)
  elems-there (e ∷ es) h s =
      let rs = items-there e.kind s.0.kind e.items (each-of (λ item. IsConstant (length (funcs_of m)) types item e.kind) e.items h.0) (each-of ExprHasShape e.items s.0.items) in
      let rest = elems-there es h.1 s.1 in
      (rs.0 ∷ rest.0, all-cons _ _ rs.0 rest.0 rs.1 rest.1, (rs.2, rest.2))

tables-there : (m : Module) (ts : List TableType) → AllByRecursion (λ t. IsReference t.kind) ts →
    (rss : List (List Reference)) × (all_of (map (λ t. option_map (replicate t.limits.min) (null_of t.kind)) ts) ≡ Some rss) × AreReferences m rss (map (λ t. t.kind) ts)
tables-there m [] h = ([], refl, tt)
tables-there m (t ∷ ts) h =
    let r = null-is m t.kind h.0 in
    let rest = tables-there m ts h.1 in
    (replicate t.limits.min r.0 ∷ rest.0, all-cons _ _ (replicate t.limits.min r.0) rest.0 (ap (option_map (replicate t.limits.min)) r.1) rest.1, (each-replicate (ReferenceIs m t.kind) t.limits.min r.0 r.2, rest.2))

-- ---- active segments

abbrev StoreStarts : Module → Instantiated → Type 0
StoreStarts m (Ok s) = StoreFits m s
StoreStarts m (Err e) = IsTrap e

part-fits : {A : Type 0} (m : Module) (o : Option A) (x : A) (go : A → Instantiated) → o ≡ Some x → StoreStarts m (go x) → StoreStarts m (with_part o go)
part-fits m None x go e h = absurd cc
part-fits m (Some y) x go e h = let same : x ≡ y = cc in subst (λ x. StoreStarts m (go x)) same h

range-fits : (m : Module) (end size : ℕ) (cause : Cause) (next : Instantiated) → StoreStarts m next → StoreStarts m (in_range end size cause next)
range-fits m end size cause next h = at (nat_lt size end)
  where
    at : (b : Bool) → StoreStarts m (if b then Err (Traps cause) else next)
    at true = tt
    at false = h

after-fits : (m : Module) (x : Instantiated) (go : Store ℕ → Instantiated) → StoreStarts m x → ((s : Store ℕ) → StoreFits m s → StoreStarts m (go s)) → StoreStarts m (after x go)
after-fits m (Ok s) go h f = f s h
after-fits m (Err e) go h f = h

abbrev store_of : Module → List (Value ℕ) → List (List Reference) → List (List Reference) → Store ℕ
store_of m globals tables elems = record { globals = globals; tables = tables; memory = first_memory m; elems = elems; datas = map (λ s. s.bytes) m.segments }

some-and : {A B : Type 0} (o : Option A) (go : A → Option B) (x : A) (y : B) → o ≡ Some x → go x ≡ Some y → option_and_then go o ≡ Some y
some-and o go x y e f = ap (option_and_then go) e ∙ f

module _ (m : Module) (fits : ModuleFits m) where
  offset-there : (s : Store ℕ) → StoreFits m s → (offset : Expr) → ExprHasShape offset → IsOffset m offset → (n : ℕ) × (offset_in s.globals offset ≡ Some n)
  offset-there s h offset shape is =
      let v = value-there m (globals_of m) s.globals h.globals offset I32Type shape is in
      let n = number-value m v.0 v.2 in
      (n.0, ap (option_and_then (word_of false)) v.1 ∙ n.1)

  drops : (k : ℕ) (e : Elem) → slice_get m.elems k ≡ Some e → (s : Store ℕ) → StoreFits m s → StoreFits m (record s { elems = slice_set s.elems k [] })
  drops k e is s h = record {
    globals = h.globals;
    tables = h.tables;
    elems = references-set m s.elems (map (λ e. e.kind) m.elems) k e.kind [] h.elems (get-map (λ e. e.kind) m.elems k ∙ ap (option_map (λ e. e.kind)) is) tt;
    datas = h.datas;
  }

  abbrev filled : ℕ → List Reference → Store ℕ → Store ℕ
  filled x elements s = record s { tables = slice_set s.tables x elements }

  elem-fits : (k : ℕ) (e : Elem) → slice_get m.elems k ≡ Some e → (mode : Mode) → e.mode ≡ mode → ElemModeIsValid m e.kind mode → ElemHasShape e → (s : Store ℕ) → StoreFits m s → StoreStarts m (start_elem k mode s)
  elem-fits k e is Passive f v shape s h = h
  elem-fits k e is Declared f v shape s h = drops k e is s h
  elem-fits k e is (Active x offset) f v shape s h =
      let place = offset-there s h offset (subst ModeHasShape f shape.mode) v.1 in
      let at = get-map (λ t. t.kind) (tables_of m) x ∙ ap (option_map (λ t. t.kind)) v.0.1 in
      let table = references-get m s.tables (map (λ t. t.kind) (tables_of m)) x v.0.0.kind h.tables at in
      let refs = references-get m s.elems (map (λ e. e.kind) m.elems) k e.kind h.elems (get-map (λ e. e.kind) m.elems k ∙ ap (option_map (λ e. e.kind)) is) in
      part-fits m (offset_in s.globals offset) place.0 _ place.1 (part-fits m (slice_get s.tables x) table.0 _ table.1 (part-fits m (slice_get s.elems k) refs.0 _ refs.1
      (range-fits m (place.0 + length refs.0) (length table.0) Table (Ok (drop_elem k (filled x (written place.0 refs.0 table.0) s))) (drops k e is (filled x (written place.0 refs.0 table.0) s) (record {
        globals = h.globals;
        tables = references-set m s.tables (map (λ t. t.kind) (tables_of m)) x v.0.0.kind (written place.0 refs.0 table.0) h.tables at
            (each-written (ReferenceIs m v.0.0.kind) place.0 refs.0 table.0 (subst (λ kind. AllByRecursion (ReferenceIs m kind) refs.0) (sym v.0.2) refs.2) table.2);
        elems = h.elems;
        datas = h.datas;
      })))))

  data-fits : (k : ℕ) (d : Segment) → slice_get m.segments k ≡ Some d → (mode : Mode) → d.mode ≡ mode → DataModeIsValid m mode → SegmentHasShape d → (s : Store ℕ) → StoreFits m s → StoreStarts m (start_data k mode s)
  data-fits k d is Passive f v shape s h = h
  data-fits k d is Declared f v shape s h = h
  data-fits k d is (Active x offset) f v shape s h =
      let place = offset-there s h offset (subst ModeHasShape f shape.mode) v.1 in
      let bytes = get-within s.datas k (let l = slice_get_within m.segments k d is in let e = h.datas in omega (arith, l, e)) in
      part-fits m (offset_in s.globals offset) place.0 _ place.1 (part-fits m (slice_get s.datas k) bytes.0 _ bytes.1
      (range-fits m (place.0 + length bytes.0) (length s.memory) Memory (Ok (drop_data k (record s { memory = written place.0 bytes.0 s.memory }))) (record { globals = h.globals; tables = h.tables; elems = h.elems; datas = length-set s.datas k [] ∙ h.datas })))

  elems-fit : (k : ℕ) (es : List Elem) → ((j : ℕ) (e : Elem) → slice_get es j ≡ Some e → slice_get m.elems (k + j) ≡ Some e) → AllByRecursion (ElemIsValid m) es → AllByRecursion ElemHasShape es → (s : Store ℕ) → StoreFits m s → StoreStarts m (start_elems k es s)
  elems-fit k [] at v shape s h = h
  elems-fit k (e ∷ es) at v shape s h =
      after-fits m (start_elem k e.mode s) (start_elems (k + 1) es) (elem-fits k e (let z : k + 0 ≡ k = omega arith in subst (λ n. slice_get m.elems n ≡ Some e) z (at 0 e refl)) e.mode refl v.0.mode shape.0 s h)
      (λ s h. elems-fit (k + 1) es (λ j x f. let n : k + suc j ≡ k + 1 + j = omega arith in subst (λ n. slice_get m.elems n ≡ Some x) n (at (suc j) x f)) v.1 shape.1 s h)

  datas-fit : (k : ℕ) (ds : List Segment) → ((j : ℕ) (d : Segment) → slice_get ds j ≡ Some d → slice_get m.segments (k + j) ≡ Some d) → AllByRecursion (λ d. DataModeIsValid m d.mode) ds → AllByRecursion SegmentHasShape ds → (s : Store ℕ) → StoreFits m s →
      StoreStarts m (start_datas k ds s)
  datas-fit k [] at v shape s h = h
  datas-fit k (d ∷ ds) at v shape s h =
      after-fits m (start_data k d.mode s) (start_datas (k + 1) ds) (data-fits k d (let z : k + 0 ≡ k = omega arith in subst (λ n. slice_get m.segments n ≡ Some d) z (at 0 d refl)) d.mode refl v.0 shape.0 s h)
      (λ s h. datas-fit (k + 1) ds (λ j x f. let n : k + suc j ≡ k + 1 + j = omega arith in subst (λ n. slice_get m.segments n ≡ Some x) n (at (suc j) x f)) v.1 shape.1 s h)

  store-there : HasShape m → IsValid m → (s : Store ℕ) × (allocated m ≡ Some s) × StoreFits m s
  store-there shape valid =
      let g = globals-there m [] [] m.globals tt
      (λ j x e. subst (λ imported. IsConstant (length (funcs_of m)) (take (length imported + j) (imported ++ map (λ g. g.ty) m.globals)) x.init x.ty.kind) fits.no_globals (valid Globals j x e))
      (each-of (λ g. ExprHasShape g.init) m.globals shape.globals) in
      let have : Hold m g.0 (ofs (map (λ t. t.kind) (globals_of m))) = subst (λ ts. Hold m g.0 (ofs (map (λ t. t.kind) ts))) (sym fits.globals) g.2 in
      let el = elems-there m (globals_of m) g.0 have m.elems (entries (ItemsAre m (globals_of m) g.0 have) m.elems (λ k e is. (valid Elements k e is).items)) (each-of ElemHasShape m.elems shape.elems) in
      let t = tables-there m m.tables fits.table_kinds in (
        store_of m g.0 t.0 el.0,
        some-and (first_globals m) (allocated_with m) g.0 _ g.1
            (some-and (first_elems m g.0) (λ elems. option_map (λ tables. store_of m g.0 tables elems) (first_tables m)) el.0 _ el.1 (ap (option_map (λ tables. store_of m g.0 tables el.0)) t.1)),
        record {
          globals = have;
          tables = subst (λ l. AreReferences m t.0 (map (λ t. t.kind) l)) (sym fits.tables) t.2;
          elems = el.2;
          datas = length-map m.segments (λ s. s.bytes);
        },
      )

  instantiated-fits : HasShape m → IsValid m → StoreStarts m (instantiated m)
  instantiated-fits shape valid =
      let s = store-there shape valid in
      part-fits m (allocated m) s.0 _ s.1
      (after-fits m (start_elems 0 m.elems s.0) (start_datas 0 m.segments)
      (elems-fit 0 m.elems (λ j e is. let z : j ≡ 0 + j = omega arith in subst (λ n. slice_get m.elems n ≡ Some e) z is) (entries (ElemIsValid m) m.elems (λ k e is. valid Elements k e is)) (each-of ElemHasShape m.elems shape.elems) s.0 s.2)
      (λ s h. datas-fit 0 m.segments (λ j d is. let z : j ≡ 0 + j = omega arith in subst (λ n. slice_get m.segments n ≡ Some d) z is) (entries (λ d. DataModeIsValid m d.mode) m.segments (λ k d is. valid Data k d is)) (each-of SegmentHasShape m.segments shape.segments) s h))

-- ---- the first configuration

module _ {W : Type 0} (K : Kind W) (m : Module) where
  image-is : (v : Value ℕ) (t : Operand) → OperandIs m v t → OperandIs m (value_image K.number v) t
  image-is (I32 n) (Of I32Type) h = tt
  image-is (I64 n) (Of I64Type) h = tt
  image-is (Ref r) t h = h
  image-is (I32 n) (Of I64Type) h = h
  image-is (I32 n) (Of FuncRefType) h = h
  image-is (I32 n) (Of ExternRefType) h = h
  image-is (I64 n) (Of I32Type) h = h
  image-is (I64 n) (Of FuncRefType) h = h
  image-is (I64 n) (Of ExternRefType) h = h
  image-is (I32 n) _ h = absurd h
  image-is (I64 n) _ h = absurd h

  images-hold : (vs : List (Value ℕ)) (ts : List Operand) → Hold m vs ts → Hold m (values_image K.number vs) ts
  images-hold [] [] h = tt
  images-hold (v ∷ vs) (t ∷ ts) h = (image-is v t h.0, images-hold vs ts h.1)
  images-hold [] (t ∷ ts) h = absurd h
  images-hold (v ∷ vs) [] h = absurd h

  argument-is : (a : Argument) → NamesFunction m a → ValueIs m (argument a) (type_of a)
  argument-is (I32Argument n) h = tt
  argument-is (I64Argument n) h = tt
  argument-is (FuncArgument None) h = tt
  argument-is (FuncArgument (Some f)) h = let e = functions-count m in omega (arith, h, e)
  argument-is ExternArgument h = tt

  arguments-hold : (args : List Argument) → All (NamesFunction m) args → Hold m (map (λ a. value_image K.number (argument a)) args) (ofs (map type_of args))
  arguments-hold [] h = tt
  arguments-hold (a ∷ args) h = (image-is (argument a) (Of (type_of a)) (argument-is a (All-head (NamesFunction m) a args h)), arguments-hold args (All-tail (NamesFunction m) a args h))

  start-calls : IsValid m → (entry : ℕ) (t : FuncType) → function_type m entry ≡ Some t → (start : Option ℕ) → m.start ≡ start → AreTypedCalls m (start_call start ++ Call entry ∷ []) (operands t.params) t.results
  start-calls valid entry t e None is = (t, [], e, sym (append-nil (operands t.params)), append-nil (operands t.results))
  start-calls valid entry t e (Some x) is =
      let start : StartIsValid m x = valid Start 0 x refl is in
      (arrow [] [], operands t.params, ap (option_and_then (λ ty. slice_get m.types ty)) start.1 ∙ start.2, refl, (t, [], e, sym (append-nil (operands t.params)), append-nil (operands t.results)))

  trap-image : (e : End ℕ) → IsTrap e → IsTrap (end_image K.number e)
  trap-image (Traps cause) h = tt
  trap-image (Returns vs) h = h
  trap-image Fails h = h
  trap-image Assumes h = h
  trap-image Stuck h = h

  invoked-fits : IsValid m → (entry : ℕ) (args : List Argument) (h : Fit m entry args) (x : Instantiated) → StoreStarts m x → StartFits m h.types.type.results (invoked K m entry args x)
  invoked-fits valid entry args h (Err e) f = trap-image e f
  invoked-fits valid entry args h (Ok s) f = record {
    store = record { globals = images-hold s.globals _ f.globals; tables = f.tables; elems = f.elems; datas = f.datas };
    frames = record {
      ts = operands h.types.type.params;
      alone = refl;
      vals = subst (λ ts. Hold m (reverse (map (λ a. value_image K.number (argument a)) args)) (operands ts)) h.types.fit (hold-reverse m (map (λ a. value_image K.number (argument a)) args) (ofs (map type_of args)) (arguments-hold args h.named));
      calls = start-calls valid entry h.types.type h.types.has_type m.start refl;
    };
  }

  pub first-fits : CanBeRun m → (entry : ℕ) (args : List Argument) (h : Fit m entry args) → StartFits m h.types.type.results (first_config K m entry args)
  first-fits can entry args h =
      let fits = module-fits m can.shape can.valid can.ready in
      invoked-fits can.valid entry args h (instantiated m) (instantiated-fits m fits can.shape can.valid)
