-- Each instruction of a function's body keeps to the types.
use Rattle.std.proofs.Common.{◌≡◌, ℕ, ◌+◌, ◌<◌, List, [], ◌∷◌, ◌++◌, map, take, drop, length, reverse, refl, sym, ap, ◌∙◌, subst, inl, inr, arith, append_assoc}
use Rattle.std.specs.Prelude.{IsTrue, Bool, true, false, ◌&&◌, nat_lt, Some, None, option_map, slice_get, slice_set, replicate}
use Rattle.std.specs.List.{AllByRecursion}
use Rattle.std.proofs.lemmas.Bool.Decides.{nat_tests}
use Rattle.std.proofs.lemmas.List.{length-map, length-set, map-append, reverse-append}
use Rattle.wasm_ast.specs.Shape.{IsReference}
use Rattle.wasm_ast.specs.declared.types.ValType.{ValType}
use Rattle.wasm_ast.specs.declared.types.ValType.TheVariants.{I32 as I32Type, I64 as I64Type, FuncRef as FuncRefType, ExternRef as ExternRefType}
use Rattle.wasm_ast.specs.declared.types.FuncType.{FuncType}
use Rattle.wasm_ast.specs.declared.types.TableType.{TableType}
use Rattle.wasm_ast.specs.declared.types.GlobalType.{GlobalType}
use Rattle.wasm_ast.specs.declared.instructions.Instr.{Instr}
use Rattle.wasm_ast.specs.declared.instructions.Instr.TheVariants.{Unreachable, Nop, Block, Loop, If, Br, BrIf, BrTable, Return, Call, CallIndirect, RefNull, RefIsNull, RefFunc, Discard, Select, SelectTyped, LocalGet, LocalSet, LocalTee, GlobalGet, GlobalSet, TableGet, TableSet, TableInit, ElemDrop, TableCopy, TableGrow, TableSize, TableFill, Load, Store as StoreInstr, MemorySize, MemoryGrow, MemoryInit, DataDrop, MemoryCopy, MemoryFill, Const32, Const64, Num}
use Rattle.wasm_ast.specs.declared.runs.Cause.TheVariants.{DivZero, Overflow, Memory, Table, Undefined}
use Rattle.wasm_ast.specs.declared.modules.Func.{Func}
use Rattle.wasm_ast.specs.declared.modules.Module.{Module}
use Rattle.int_ops.specs.declared.operators.Width.{Width}
use Rattle.int_ops.specs.declared.operators.Operation.{Operation}
use Rattle.int_ops.specs.declared.operators.Operation.TheVariants.{OfOne, OfTwo}
use Rattle.int_ops.specs.declared.operators.Operator.{Operator}
use Rattle.int_ops.specs.Integers.{truth}
use Rattle.int_ops.specs.Operators.{operator_of, divides, is_div_s}
use Rattle.wasm_rules.specs.Words.{Kind}
use Rattle.wasm_rules.specs.Accesses.{load_of, store_of}
use Rattle.wasm_check.specs.declared.operands.Operand.{Operand}
use Rattle.wasm_check.specs.declared.operands.Operand.TheVariants.{Of, Bottom}
use Rattle.wasm_check.specs.Contexts.{Context, context_of, funcs_of, tables_of, globals_of, is_declared}
use Rattle.wasm_check.specs.Instructions.{Labels, three_numbers}
use Rattle.wasm_check.specs.Operands.{operands, IsReference as IsReferenceOperand}
use Rattle.wasm_check.specs.Operators.{arrow}
use Rattle.wasm_check.specs.Trees.{Loops, IsPlain}
use Rattle.wasm_reduction.specs.Configurations.{Reference, FuncRef, ExternRef, Value, I32, I64, Ref, Store, Config, Next, Goes}
use Rattle.wasm_reduction.specs.Functions.{functions}
use Rattle.wasm_reduction.specs.Combinators.{holding, with_locals, valued, with_reference, written, part}
use Rattle.wasm_reduction.specs.Numeric.{is_wide, checking, checking_overflow, operating}
use Rattle.wasm_reduction.specs.Parametric.{selecting}
use Rattle.wasm_reduction.specs.Control.{give_back}
use Rattle.wasm_reduction.specs.Tables.{null_of, is_null}
use Rattle.wasm_reduction.specs.Steps.{act}
use Rattle.wasm_reduction.proofs.ImageFunctions.{get-map, function-types}
use Rattle.wasm_reduction.proofs.WideParts.{each-get, each-set, each-append, each-drop}
use Rattle.wasm_soundness.specs.Values.{ReferenceIs, ValueIs, OperandIs, Hold, ofs, IsTypedCode}
use Rattle.wasm_soundness.specs.Configurations.{StoreFits, ConfigFits, NextFits}
use Rattle.wasm_soundness.proofs.Holding.{get-within, hold-takes, hold-get, hold-set, references-get, references-set, each-replicate, each-take, takes-self}
use Rattle.wasm_soundness.proofs.Tables.{number_type, operator_arrow, operator-type, operator-is, load-is, store-is, load-type, store-type}
use Rattle.wasm_soundness.proofs.Modules.{ModuleFits, function-there}
use Rattle.wasm_soundness.proofs.Parts.{found-fits, value-fits, word-fits, reference-fits, copy-fits, last-fits, testing-fits, trapping-fits, indexing-fits, addressing-fits, filling-fits, copying-fits, growing-fits}
use Rattle.wasm_soundness.proofs.Inversions.{AtPlain, at-plain, at-block, at-loop, at-if}
use Rattle.wasm_soundness.proofs.Control.{Ready, Remains, give_back-fits, goes-store, goes, goes-locals, frame-waits, block-fits, loop-fits, br-fits, choosing-fits, called-fits, reference-called}
use Rattle.wasm_check.proofs.Examples.{some-same}

-- ---- values

pub null-is : (m : Module) (kind : ValType) → IsReference kind → (r : Reference) × (null_of kind ≡ Some r) × ReferenceIs m kind r
null-is m kind is = elim is [
  | inl e ↦ subst (λ kind. (r : Reference) × (null_of kind ≡ Some r) × ReferenceIs m kind r) (sym e) (FuncRef None, refl, tt)
  | inr e ↦ subst (λ kind. (r : Reference) × (null_of kind ≡ Some r) × ReferenceIs m kind r) (sym e) (ExternRef, refl, tt)
]

pub each-written : {A : Type 0} (P : A → Type 0) (place : ℕ) (xs list : List A) → AllByRecursion P xs → AllByRecursion P list → AllByRecursion P (written place xs list)
each-written P place xs list p q = each-append P (take place list ++ xs) (drop (place + length xs) list) (each-append P (take place list) xs (each-take P place list q) p) (each-drop P (place + length xs) list q)

each-part : {A : Type 0} (P : A → Type 0) (place n : ℕ) (xs : List A) → AllByRecursion P xs → AllByRecursion P (part place n xs)
each-part P place n xs p = each-take P n (drop place xs) (each-drop P place xs p)

operands-push : (ts : List ValType) (t : ValType) → operands (ts ++ t ∷ []) ≡ Of t ∷ operands ts
operands-push ts t = ap reverse (map-append (λ t. Of t) ts (t ∷ [])) ∙ reverse-append (ofs ts) (Of t ∷ [])

-- the type of two values of one type
apart-numbers : {W : Type 0} (m : Module) (a b : W) (t : Operand) → OperandIs m (I32 a) t → OperandIs m (I64 b) t → ⊥
apart-numbers m a b (Of I32Type) p q = q
apart-numbers m a b (Of I64Type) p q = p
apart-numbers m a b (Of FuncRefType) p q = p
apart-numbers m a b (Of ExternRefType) p q = p
apart-numbers m a b Bottom p q = p

apart-narrow : {W : Type 0} (m : Module) (a : W) (r : Reference) (t : Operand) → OperandIs m (I32 a) t → OperandIs {W = W} m (Ref r) t → ⊥
apart-narrow m a r (Of I32Type) p q = q
apart-narrow m a r (Of I64Type) p q = p
apart-narrow m a r (Of FuncRefType) p q = p
apart-narrow m a r (Of ExternRefType) p q = p
apart-narrow m a r Bottom p q = p

apart-wide : {W : Type 0} (m : Module) (a : W) (r : Reference) (t : Operand) → OperandIs m (I64 a) t → OperandIs {W = W} m (Ref r) t → ⊥
apart-wide m a r (Of I32Type) p q = p
apart-wide m a r (Of I64Type) p q = q
apart-wide m a r (Of FuncRefType) p q = p
apart-wide m a r (Of ExternRefType) p q = p
apart-wide m a r Bottom p q = p

pair-true : (a b : Bool) → (a && b) ≡ true → a ≡ true
pair-true true b e = refl
pair-true false b e = absurd cc

module _ {W : Type 0} (K : Kind W) (m : Module) (fits : ModuleFits m) (final : List ValType) (c : Config W) (f : Func) (type : FuncType) (own out : List ValType) (ls : Labels)
    (ready : Ready K m fits final c f type own out ls) where
  abbrev N : Next W → Type 0
  N x = NextFits m final x

  abbrev D : Context
  D = context_of m f type

  abbrev R : List Operand → Type 0
  R ts = Remains K m fits final c f type own out ls ready ts

  abbrev vs : List (Value W)
  vs = c.frame.here.vals

  abbrev s : Store W
  s = c.store

  abbrev kept : StoreFits m c.store
  kept = ready.base.store

  holds : (us : List (Value W)) (ts : List Operand) → Hold m us ts → R ts → ConfigFits m final (holding c us)
  holds us ts h t = goes K m fits final c f type own out ls ready us ts h t

  stores : (s : Store W) → StoreFits m s → (us : List (Value W)) (ts : List Operand) → Hold m us ts → R ts → ConfigFits m final (record (holding c us) { store = s })
  stores s k us ts h t = goes-store K m fits final c f type own out ls ready s k us ts h t

  locals-set : (x : ℕ) (kind : ValType) (v : Value W) → slice_get D.locals x ≡ Some kind → ValueIs m v kind → (us : List (Value W)) (ts : List Operand) → Hold m us ts → R ts →
      N (Goes (with_locals (holding c us) (slice_set c.frame.locals x v)))
  locals-set x kind v e p us ts h t = goes-locals K m fits final c f type own out ls ready (slice_set c.frame.locals x v) (hold-set m c.frame.locals D.locals x kind v ready.base.locals e p) us ts h t

  -- ---- the store

  table-is : (x : ℕ) (t : TableType) → slice_get (tables_of m) x ≡ Some t → slice_get (map (λ t. t.kind) (tables_of m)) x ≡ Some t.kind
  table-is x t e = get-map (λ t. t.kind) (tables_of m) x ∙ ap (option_map (λ t. t.kind)) e

  table-there : (x : ℕ) (t : TableType) → slice_get (tables_of m) x ≡ Some t → (rs : List Reference) × (slice_get c.store.tables x ≡ Some rs) × AllByRecursion (ReferenceIs m t.kind) rs
  table-there x t e = references-get m c.store.tables (map (λ t. t.kind) (tables_of m)) x t.kind kept.tables (table-is x t e)

  table-reference : (x : ℕ) (t : TableType) → slice_get (tables_of m) x ≡ Some t → IsReference t.kind
  table-reference x t e = each-get (λ t. IsReference t.kind) m.tables x t fits.table_kinds (subst (λ l. slice_get l x ≡ Some t) fits.tables e)

  tables-set : (x : ℕ) (t : TableType) (rs : List Reference) → slice_get (tables_of m) x ≡ Some t → AllByRecursion (ReferenceIs m t.kind) rs → StoreFits m (record s { tables = slice_set c.store.tables x rs })
  tables-set x t rs e p = record { globals = kept.globals; tables = references-set m c.store.tables (map (λ t. t.kind) (tables_of m)) x t.kind rs kept.tables (table-is x t e) p; elems = kept.elems; datas = kept.datas }

  memory-set : (memory : List W) → StoreFits m (record s { memory = memory })
  memory-set memory = record { globals = kept.globals; tables = kept.tables; elems = kept.elems; datas = kept.datas }

  global-is : (x : ℕ) (t : GlobalType) → slice_get (globals_of m) x ≡ Some t → slice_get (map (λ t. t.kind) (globals_of m)) x ≡ Some t.kind
  global-is x t e = get-map (λ t. t.kind) (globals_of m) x ∙ ap (option_map (λ t. t.kind)) e

  globals-set : (x : ℕ) (t : GlobalType) (v : Value W) → slice_get (globals_of m) x ≡ Some t → ValueIs m v t.kind → StoreFits m (record s { globals = slice_set c.store.globals x v })
  globals-set x t v e p = record {
    globals = hold-set m c.store.globals (map (λ t. t.kind) (globals_of m)) x t.kind v kept.globals (global-is x t e) p;
    tables = kept.tables;
    elems = kept.elems;
    datas = kept.datas;
  }

  elem-there : (x : ℕ) (kind : ValType) → slice_get D.elems x ≡ Some kind → (rs : List Reference) × (slice_get c.store.elems x ≡ Some rs) × AllByRecursion (ReferenceIs m kind) rs
  elem-there x kind e = references-get m c.store.elems (map (λ e. e.kind) m.elems) x kind kept.elems e

  data-there : (x : ℕ) → x < length m.segments → (bytes : List ℕ) × (slice_get c.store.datas x ≡ Some bytes)
  data-there x l = get-within c.store.datas x (let e = kept.datas in omega (arith, l, e))

  -- ---- what an instruction of one type takes and leaves

  pub record Taken (ps rs : List ValType) : Type 0 where
    pub rest : List Operand
    pub hold : Hold m vs (operands ps ++ rest)
    pub next : R (operands rs ++ rest)

  abbrev At : Instr → List Operand → Type 0
  At i ts = AtPlain D (own ∷ ls) c.frame.seqs i c.frame.here.code ts (operands out)

  taken : (ts : List Operand) → Hold m vs ts → (i : Instr) (p : At i ts) (t : FuncType) → p.a ≡ operands t.params → p.b ≡ operands t.results → (ps rs : List ValType) → t ≡ arrow ps rs → Taken ps rs
  taken ts h i p t a b ps rs e = record {
    rest = p.rest;
    hold = subst (λ a. Hold m vs (a ++ p.rest)) (a ∙ ap (λ t. operands t.params) e) (hold-takes m vs ts p.a p.rest h p.takes);
    next = subst (λ b. R (b ++ p.rest)) (b ∙ ap (λ t. operands t.results) e) p.next;
  }

  -- ---- numeric

  valued-is : (wide : Bool) (w : W) → ValueIs m (valued wide w) (number_type wide)
  valued-is false w = tt
  valued-is true w = tt

  overflow-fits : (signed : Bool) (width : Width) (a b : W) (ns : List ℕ) (x : Next W) → N x → N (checking_overflow K signed width a b ns x)
  overflow-fits false width a b ns x h = h
  overflow-fits true width a b ns x h = trapping-fits m final _ Overflow ns _ (λ ns. h)

  checking-fits : (divides signed : Bool) (width : Width) (a b : W) (ns : List ℕ) (x : Next W) → N x → N (checking K divides signed width a b ns x)
  checking-fits false signed width a b ns x h = h
  checking-fits true signed width a b ns x h = trapping-fits m final _ DivZero ns _ (λ ns. overflow-fits signed width a b ns x h)

  operating-fits : (ns : List ℕ) (op : ℕ) (o : Operator) (operation : Operation) (r : List Operand) → Hold m vs (operands (operator_arrow o operation).params ++ r) → R (operands (operator_arrow o operation).results ++ r) →
      N (operating K c vs ns op o operation)
  operating-fits ns op o (OfOne operation) r h t = word-fits m final (is_wide o.operand) vs r _ h (λ a rest h.
      holds _ (Of (number_type (is_wide o.result)) ∷ r) (valued-is (is_wide o.result) (K.unary op a), h) t)
  operating-fits ns op o (OfTwo operation) r h t = word-fits m final (is_wide o.operand) vs _ _ h (λ b rest h. word-fits m final (is_wide o.operand) rest r _ h (λ a rest h.
      checking-fits (divides operation) (is_div_s operation) o.operand a b ns _
      (holds _ (Of (number_type (is_wide o.result)) ∷ r) (valued-is (is_wide o.result) (K.binary op a b), h) t)))

  selecting-fits : (rest : List (Value W)) (r : List Operand) (ns : List ℕ) (w : W) (first second : Value W) (t : Operand) → Hold m rest r → R (t ∷ r) → OperandIs m first t → OperandIs m second t →
      N (selecting K c rest ns w first second)
  selecting-fits rest r ns w (I32 a) (I32 b) t h k p q = holds _ (t ∷ r) (narrow t p, h) k
    where
      narrow : (t : Operand) → OperandIs m (I32 a) t → OperandIs m (I32 (K.choose false w a b)) t
      narrow (Of I32Type) p = tt
      narrow (Of I64Type) p = p
      narrow (Of FuncRefType) p = p
      narrow (Of ExternRefType) p = p
      narrow Bottom p = p
  selecting-fits rest r ns w (I64 a) (I64 b) t h k p q = holds _ (t ∷ r) (wide t p, h) k
    where
      wide : (t : Operand) → OperandIs m (I64 a) t → OperandIs m (I64 (K.choose true w a b)) t
      wide (Of I32Type) p = p
      wide (Of I64Type) p = tt
      wide (Of FuncRefType) p = p
      wide (Of ExternRefType) p = p
      wide Bottom p = p
  selecting-fits rest r ns w (Ref x) (Ref y) t h k p q = testing-fits m final w ns _ _ (λ ns. holds (Ref y ∷ rest) (t ∷ r) (q, h) k) (λ ns. holds (Ref x ∷ rest) (t ∷ r) (p, h) k)
  selecting-fits rest r ns w (I32 a) (I64 b) t h k p q = absurd (apart-numbers m a b t p q)
  selecting-fits rest r ns w (I64 b) (I32 a) t h k p q = absurd (apart-numbers m a b t q p)
  selecting-fits rest r ns w (I32 a) (Ref y) t h k p q = absurd (apart-narrow m a y t p q)
  selecting-fits rest r ns w (Ref y) (I32 a) t h k p q = absurd (apart-narrow m a y t q p)
  selecting-fits rest r ns w (I64 a) (Ref y) t h k p q = absurd (apart-wide m a y t p q)
  selecting-fits rest r ns w (Ref y) (I64 a) t h k p q = absurd (apart-wide m a y t q p)

  select-fits : (ns : List ℕ) (t : Operand) (r : List Operand) → Hold m vs (Of I32Type ∷ t ∷ t ∷ r) → R (t ∷ r) → N (act K m c vs ns Select)
  select-fits ns t r h k = word-fits m final false vs _ _ h (λ w rest h. value-fits m final rest t _ _ h (λ second rest q h. value-fits m final rest t r _ h (λ first rest p h.
      selecting-fits rest r ns w first second t h k p q)))

  null-fits : (t : Operand) (r : List Operand) → IsReferenceOperand t → Hold m vs (t ∷ r) → R (Of I32Type ∷ r) → (go : Reference → W) → N (with_reference vs (λ x rest. Goes (holding c (I32 (go x) ∷ rest))))
  null-fits (Of I32Type) r is h k go = absurd is
  null-fits (Of I64Type) r is h k go = absurd is
  null-fits (Of FuncRefType) r is h k go = reference-fits m final FuncRefType (inl refl) vs r _ h (λ x rest p h. holds (I32 (go x) ∷ rest) (Of I32Type ∷ r) (tt, h) k)
  null-fits (Of ExternRefType) r is h k go = reference-fits m final ExternRefType (inr refl) vs r _ h (λ x rest p h. holds (I32 (go x) ∷ rest) (Of I32Type ∷ r) (tt, h) k)
  null-fits Bottom r is h k go = absurd (bottom vs h)
    where
      bottom : (us : List (Value W)) → Hold m us (Bottom ∷ r) → ⊥
      bottom [] h = h
      bottom (u ∷ us) h = h.0

  declared-is : (x : ℕ) → IsTrue (D.declared x) → x < length (functions m)
  declared-is x h =
      let l : nat_lt x (length (funcs_of m)) ≡ true = pair-true (nat_lt x (length (funcs_of m))) (is_declared m x) h in
      let e : length (funcs_of m) ≡ length (functions m) = ap length (sym (function-types m)) ∙ length-map (functions m) (λ f. f.ty) in
      let k : x < length (funcs_of m) = grind (arith, nat_tests, l) in
      omega (arith, k, e)

  -- ---- each instruction

  abbrev Typed : Instr → List Operand → Type 0
  Typed i ts = IsTypedCode D (own ∷ ls) c.frame.seqs (i ∷ c.frame.here.code) ts (operands out)

  at : (i : Instr) (ts : List Operand) → IsPlain i → Typed i ts → At i ts
  at i ts p t = at-plain D (own ∷ ls) c.frame.seqs i c.frame.here.code ts (operands out) p t

  pub act-fits : (ts : List Operand) → Hold m vs ts → (ns : List ℕ) (i : Instr) → Typed i ts → N (act K m c vs ns i)
  act-fits ts h ns Unreachable t = tt
  act-fits ts h ns Nop t =
      let p = at Nop ts tt t in let r = p.rule in let k = taken ts h Nop p r.0 r.2 r.3 [] [] r.1 in
      holds vs k.rest k.hold k.next
  act-fits ts h ns (Block ty body) t =
      let b = at-block D (own ∷ ls) c.frame.seqs ty body c.frame.here.code ts (operands out) ready.base.shapes t in
      block-fits K m fits final c f type own out ls ready ty body b.t b.rest vs b.type (hold-takes m vs ts (operands b.t.params) b.rest h b.takes) b.body b.next
  act-fits ts h ns (Loop ty body) t =
      let b = at-loop D (own ∷ ls) c.frame.seqs ty body c.frame.here.code ts (operands out) ready.base.shapes t in
      loop-fits K m fits final c f type own out ls ready ty body b.t b.rest vs b.type (hold-takes m vs ts (operands b.t.params) b.rest h b.takes) b.body b.next
      (record {
        tree = Loops ty b.body.tree b.next.tree;
        makes = (body, c.frame.here.code, refl, b.body.makes, b.next.makes);
        typed = (b.t, b.rest, b.type, b.body.typed, takes-self (operands b.t.params) b.rest, b.next.typed);
        shape = (tt, b.next.shape);
      })
  act-fits ts h ns (If ty first other) t =
      let b = at-if D (own ∷ ls) c.frame.seqs ty first other c.frame.here.code ts (operands out) ready.base.shapes t in
      word-fits m final false vs (operands b.t.params ++ b.rest) _ (hold-takes m vs ts (Of I32Type ∷ operands b.t.params) b.rest h b.takes) (λ w rest h. testing-fits m final w ns _ _
      (λ ns. block-fits K m fits final c f type own out ls ready ty other b.t b.rest rest b.type h b.other b.next)
      (λ ns. block-fits K m fits final c f type own out ls ready ty first b.t b.rest rest b.type h b.first b.next))
  act-fits ts h ns (Br l) t =
      let p = at (Br l) ts tt t in let r = p.rule in
      let k : Hold m vs ((operands r.0 ++ r.1) ++ p.rest) = subst (λ a. Hold m vs (a ++ p.rest)) r.3 (hold-takes m vs ts p.a p.rest h p.takes) in
      br-fits K m fits final c f type own out ls ready vs l r.0 (r.1 ++ p.rest) (subst (Hold m vs) (append_assoc (operands r.0) r.1 p.rest) k) r.2
  act-fits ts h ns (BrIf l) t =
      let p = at (BrIf l) ts tt t in let r = p.rule in
      let k : Hold m vs (Of I32Type ∷ operands r.0 ++ p.rest) = subst (λ a. Hold m vs (a ++ p.rest)) r.2 (hold-takes m vs ts p.a p.rest h p.takes) in
      let n : R (operands r.0 ++ p.rest) = subst (λ b. R (b ++ p.rest)) r.3 p.next in
      word-fits m final false vs (operands r.0 ++ p.rest) _ k (λ w rest h. testing-fits m final w ns _ _ (λ ns. holds rest (operands r.0 ++ p.rest) h n)
      (λ ns. br-fits K m fits final c f type own out ls ready rest l r.0 p.rest h r.1))
  act-fits ts h ns (BrTable labels last) t =
      let p = at (BrTable labels last) ts tt t in let r = p.rule in
      let k : Hold m vs (Of I32Type ∷ (r.0 ++ r.1) ++ p.rest) = subst (λ a. Hold m vs (a ++ p.rest)) r.3 (hold-takes m vs ts p.a p.rest h p.takes) in
      word-fits m final false vs ((r.0 ++ r.1) ++ p.rest) _ k (λ index rest h.
      choosing-fits K m fits final c f type own out ls ready rest r.0 (r.1 ++ p.rest) (subst (Hold m rest) (append_assoc r.0 r.1 p.rest) h) index 0 labels last ns r.2)
  act-fits ts h ns Return t =
      let p = at Return ts tt t in let r = p.rule in
      let k : Hold m vs ((operands D.results ++ r.0) ++ p.rest) = subst (λ a. Hold m vs (a ++ p.rest)) r.1 (hold-takes m vs ts p.a p.rest h p.takes) in
      last-fits m final c.frame.arity type.results ready.base.arity vs (r.0 ++ p.rest) (λ results rest. give_back c results c.callers) (subst (Hold m vs) (append_assoc (operands D.results) r.0 p.rest) k)
      (λ results rest q k. give_back-fits K m fits final c kept results type.results c.callers q ready.base.waits)
  act-fits ts h ns (Call x) t =
      let p = at (Call x) ts tt t in let r = p.rule in let k = taken ts h (Call x) p r.0 r.2 r.3 r.0.params r.0.results refl in
      let there = function-there m x r.0 r.1 in
      found-fits m final (slice_get (functions m) x) there.0 _ there.1
      (called-fits K m fits final c kept r.0 k.rest (λ rest h. frame-waits K m fits final c f type own out ls ready r.0.results rest k.rest h k.next) (λ us h. holds us (operands r.0.results ++ k.rest) h k.next)
      vs ns x there.0 there.1 there.2 k.hold)
  act-fits ts h ns (CallIndirect ty x) t =
      let p = at (CallIndirect ty x) ts tt t in let r = p.rule in let q = r.1 in
      let k = taken ts h (CallIndirect ty x) p r.0 r.2 r.3 (q.1.params ++ I32Type ∷ []) q.1.results q.5 in
      let there = table-there x q.0 q.2 in
      let last : operands (q.1.params ++ I32Type ∷ []) ≡ Of I32Type ∷ operands q.1.params = operands-push q.1.params I32Type in
      found-fits m final (slice_get m.types ty) q.1 _ q.4 (found-fits m final (slice_get c.store.tables x) there.0 _ there.1
      (word-fits m final false vs (operands q.1.params ++ k.rest) _ (subst (λ a. Hold m vs (a ++ k.rest)) last k.hold) (λ index rest h.
      indexing-fits m final K (ReferenceIs m FuncRefType) Undefined index there.0 ns _ (subst (λ kind. AllByRecursion (ReferenceIs m kind) there.0) q.3 there.2) (λ i reference ns is.
      reference-called K m fits final c kept q.1 k.rest (λ rest h. frame-waits K m fits final c f type own out ls ready q.1.results rest k.rest h k.next) (λ us h. holds us (operands q.1.results ++ k.rest) h k.next)
      rest ns reference is h))))
  act-fits ts h ns (RefNull kind) t =
      let p = at (RefNull kind) ts tt t in let r = p.rule in let k = taken ts h (RefNull kind) p r.0 r.2 r.3 [] (kind ∷ []) r.1 in
      let null = null-is m kind t.shape.0 in
      found-fits m final (null_of kind) null.0 _ null.1 (holds (Ref null.0 ∷ vs) (Of kind ∷ k.rest) (null.2, k.hold) k.next)
  act-fits ts h ns RefIsNull t =
      let p = at RefIsNull ts tt t in let r = p.rule in
      null-fits r.0 p.rest r.1 (subst (λ a. Hold m vs (a ++ p.rest)) r.2 (hold-takes m vs ts p.a p.rest h p.takes)) (subst (λ b. R (b ++ p.rest)) r.3 p.next) (λ x. K.number (truth (is_null x)))
  act-fits ts h ns (RefFunc x) t =
      let p = at (RefFunc x) ts tt t in let r = p.rule in let k = taken ts h (RefFunc x) p r.0 r.2 r.3 [] (FuncRefType ∷ []) r.1.1 in
      holds (Ref (FuncRef (Some x)) ∷ vs) (Of FuncRefType ∷ k.rest) (declared-is x r.1.0, k.hold) k.next
  act-fits ts h ns Discard t =
      let p = at Discard ts tt t in let r = p.rule in
      value-fits m final vs r.0 p.rest _ (subst (λ a. Hold m vs (a ++ p.rest)) r.1 (hold-takes m vs ts p.a p.rest h p.takes)) (λ v rest q h. holds rest p.rest h (subst (λ b. R (b ++ p.rest)) r.2 p.next))
  act-fits ts h ns Select t =
      let p = at Select ts tt t in let r = p.rule in
      select-fits ns r.0 p.rest (subst (λ a. Hold m vs (a ++ p.rest)) r.2 (hold-takes m vs ts p.a p.rest h p.takes)) (subst (λ b. R (b ++ p.rest)) r.3 p.next)
  act-fits ts h ns (SelectTyped kinds) t =
      let p = at (SelectTyped kinds) ts tt t in let r = p.rule in
      let k = taken ts h (SelectTyped kinds) p r.0 r.2 r.3 (r.1.0 ∷ r.1.0 ∷ I32Type ∷ []) (r.1.0 ∷ []) r.1.2 in
      select-fits ns (Of r.1.0) k.rest k.hold k.next
  act-fits ts h ns (LocalGet x) t =
      let p = at (LocalGet x) ts tt t in let r = p.rule in let k = taken ts h (LocalGet x) p r.0 r.2 r.3 [] (r.1.0 ∷ []) r.1.2 in
      let v = hold-get m c.frame.locals D.locals x r.1.0 ready.base.locals r.1.1 in
      found-fits m final (slice_get c.frame.locals x) v.0 _ v.1 (holds (v.0 ∷ vs) (Of r.1.0 ∷ k.rest) (v.2, k.hold) k.next)
  act-fits ts h ns (LocalSet x) t =
      let p = at (LocalSet x) ts tt t in let r = p.rule in let k = taken ts h (LocalSet x) p r.0 r.2 r.3 (r.1.0 ∷ []) [] r.1.2 in
      let v = hold-get m c.frame.locals D.locals x r.1.0 ready.base.locals r.1.1 in
      found-fits m final (slice_get c.frame.locals x) v.0 _ v.1 (value-fits m final vs (Of r.1.0) k.rest _ k.hold (λ new rest q h. locals-set x r.1.0 new r.1.1 q rest k.rest h k.next))
  act-fits ts h ns (LocalTee x) t =
      let p = at (LocalTee x) ts tt t in let r = p.rule in let k = taken ts h (LocalTee x) p r.0 r.2 r.3 (r.1.0 ∷ []) (r.1.0 ∷ []) r.1.2 in
      let v = hold-get m c.frame.locals D.locals x r.1.0 ready.base.locals r.1.1 in
      found-fits m final (slice_get c.frame.locals x) v.0 _ v.1 (value-fits m final vs (Of r.1.0) k.rest _ k.hold (λ new rest q h. locals-set x r.1.0 new r.1.1 q (new ∷ rest) (Of r.1.0 ∷ k.rest) (q, h) k.next))
  act-fits ts h ns (GlobalGet x) t =
      let p = at (GlobalGet x) ts tt t in let r = p.rule in let k = taken ts h (GlobalGet x) p r.0 r.2 r.3 [] (r.1.0.kind ∷ []) r.1.2 in
      let v = hold-get m c.store.globals (map (λ t. t.kind) (globals_of m)) x r.1.0.kind kept.globals (global-is x r.1.0 r.1.1) in
      found-fits m final (slice_get c.store.globals x) v.0 _ v.1 (holds (v.0 ∷ vs) (Of r.1.0.kind ∷ k.rest) (v.2, k.hold) k.next)
  act-fits ts h ns (GlobalSet x) t =
      let p = at (GlobalSet x) ts tt t in let r = p.rule in let k = taken ts h (GlobalSet x) p r.0 r.2 r.3 (r.1.0.kind ∷ []) [] r.1.3 in
      let v = hold-get m c.store.globals (map (λ t. t.kind) (globals_of m)) x r.1.0.kind kept.globals (global-is x r.1.0 r.1.1) in
      found-fits m final (slice_get c.store.globals x) v.0 _ v.1 (value-fits m final vs (Of r.1.0.kind) k.rest _ k.hold (λ new rest q h.
      stores _ (globals-set x r.1.0 new r.1.1 q) rest k.rest h k.next))
  act-fits ts h ns (TableGet x) t =
      let p = at (TableGet x) ts tt t in let r = p.rule in let k = taken ts h (TableGet x) p r.0 r.2 r.3 (I32Type ∷ []) (r.1.0.kind ∷ []) r.1.2 in
      let there = table-there x r.1.0 r.1.1 in
      found-fits m final (slice_get c.store.tables x) there.0 _ there.1 (word-fits m final false vs k.rest _ k.hold (λ index rest h.
      indexing-fits m final K (ReferenceIs m r.1.0.kind) Table index there.0 ns _ there.2 (λ i reference ns is. holds (Ref reference ∷ rest) (Of r.1.0.kind ∷ k.rest) (is, h) k.next)))
  act-fits ts h ns (TableSet x) t =
      let p = at (TableSet x) ts tt t in let r = p.rule in let k = taken ts h (TableSet x) p r.0 r.2 r.3 (I32Type ∷ r.1.0.kind ∷ []) [] r.1.2 in
      let there = table-there x r.1.0 r.1.1 in
      found-fits m final (slice_get c.store.tables x) there.0 _ there.1 (reference-fits m final r.1.0.kind (table-reference x r.1.0 r.1.1) vs _ _ k.hold (λ reference rest is h. word-fits m final false rest k.rest _ h (λ index rest h.
      indexing-fits m final K (ReferenceIs m r.1.0.kind) Table index there.0 ns _ there.2 (λ i old ns o.
      stores _ (tables-set x r.1.0 (slice_set there.0 i reference) r.1.1 (each-set (ReferenceIs m r.1.0.kind) there.0 i reference there.2 is)) rest k.rest h k.next))))
  act-fits ts h ns (TableInit y x) t =
      let p = at (TableInit y x) ts tt t in let r = p.rule in let k = taken ts h (TableInit y x) p r.0 r.2 r.3 three_numbers [] r.1.3 in
      let there = table-there x r.1.0 r.1.1 in let from = elem-there y r.1.0.kind r.1.2 in
      found-fits m final (slice_get c.store.tables x) there.0 _ there.1 (found-fits m final (slice_get c.store.elems y) from.0 _ from.1 (copy-fits m final vs k.rest _ k.hold (λ to source count rest h.
      copying-fits m final K Table to source count (length there.0) (length from.0) ns _ (λ t f n.
      stores _ (tables-set x r.1.0 (written t (part f n from.0) there.0) r.1.1 (each-written (ReferenceIs m r.1.0.kind) t (part f n from.0) there.0 (each-part (ReferenceIs m r.1.0.kind) f n from.0 from.2) there.2)) rest k.rest h k.next))))
  act-fits ts h ns (ElemDrop y) t =
      let p = at (ElemDrop y) ts tt t in let r = p.rule in let k = taken ts h (ElemDrop y) p r.0 r.2 r.3 [] [] r.1.2 in
      let there = elem-there y r.1.0 r.1.1 in
      found-fits m final (slice_get c.store.elems y) there.0 _ there.1 (stores _ (record {
        globals = kept.globals;
        tables = kept.tables;
        elems = references-set m c.store.elems (map (λ e. e.kind) m.elems) y r.1.0 [] kept.elems r.1.1 tt;
        datas = kept.datas;
      }) vs k.rest k.hold k.next)
  act-fits ts h ns (TableCopy x y) t =
      let p = at (TableCopy x y) ts tt t in let r = p.rule in let k = taken ts h (TableCopy x y) p r.0 r.2 r.3 three_numbers [] r.1.5 in
      let there = table-there x r.1.0 r.1.2 in let from = table-there y r.1.1 r.1.3 in
      let same : AllByRecursion (ReferenceIs m r.1.0.kind) from.0 = subst (λ kind. AllByRecursion (ReferenceIs m kind) from.0) (sym r.1.4) from.2 in
      found-fits m final (slice_get c.store.tables x) there.0 _ there.1 (found-fits m final (slice_get c.store.tables y) from.0 _ from.1 (copy-fits m final vs k.rest _ k.hold (λ to source count rest h.
      copying-fits m final K Table to source count (length there.0) (length from.0) ns _ (λ t f n.
      stores _ (tables-set x r.1.0 (written t (part f n from.0) there.0) r.1.2 (each-written (ReferenceIs m r.1.0.kind) t (part f n from.0) there.0 (each-part (ReferenceIs m r.1.0.kind) f n from.0 same) there.2)) rest k.rest h k.next))))
  act-fits ts h ns (TableGrow x) t =
      let p = at (TableGrow x) ts tt t in let r = p.rule in let k = taken ts h (TableGrow x) p r.0 r.2 r.3 (r.1.0.kind ∷ I32Type ∷ []) (I32Type ∷ []) r.1.2 in
      let there = table-there x r.1.0 r.1.1 in
      found-fits m final (slice_get c.store.tables x) there.0 _ there.1 (found-fits m final (slice_get m.tables x) r.1.0 _ (subst (λ l. slice_get l x ≡ Some r.1.0) fits.tables r.1.1)
      (word-fits m final false vs _ _ k.hold (λ count rest h. reference-fits m final r.1.0.kind (table-reference x r.1.0 r.1.1) rest k.rest _ h (λ reference rest is h.
      growing-fits m final K c rest count (length there.0) _ ns _ (λ w. holds (I32 w ∷ rest) (Of I32Type ∷ k.rest) (tt, h) k.next)
      (λ n w. stores _ (tables-set x r.1.0 (there.0 ++ replicate n reference) r.1.1 (each-append (ReferenceIs m r.1.0.kind) there.0 (replicate n reference) there.2 (each-replicate (ReferenceIs m r.1.0.kind) n reference is))) (I32 w ∷ rest) (Of I32Type ∷ k.rest) (tt, h) k.next)))))
  act-fits ts h ns (TableSize x) t =
      let p = at (TableSize x) ts tt t in let r = p.rule in let k = taken ts h (TableSize x) p r.0 r.2 r.3 [] (I32Type ∷ []) r.1.2 in
      let there = table-there x r.1.0 r.1.1 in
      found-fits m final (slice_get c.store.tables x) there.0 _ there.1 (holds _ (Of I32Type ∷ k.rest) (tt, k.hold) k.next)
  act-fits ts h ns (TableFill x) t =
      let p = at (TableFill x) ts tt t in let r = p.rule in let k = taken ts h (TableFill x) p r.0 r.2 r.3 (I32Type ∷ r.1.0.kind ∷ I32Type ∷ []) [] r.1.2 in
      let there = table-there x r.1.0 r.1.1 in
      found-fits m final (slice_get c.store.tables x) there.0 _ there.1 (word-fits m final false vs _ _ k.hold (λ count rest h. reference-fits m final r.1.0.kind (table-reference x r.1.0 r.1.1) rest _ _ h (λ reference rest is h. word-fits m final false rest k.rest _ h (λ to rest h.
      filling-fits m final K Table to count (length there.0) ns _ (λ t n.
      stores _ (tables-set x r.1.0 (written t (replicate n reference) there.0) r.1.1 (each-written (ReferenceIs m r.1.0.kind) t (replicate n reference) there.0 (each-replicate (ReferenceIs m r.1.0.kind) n reference is) there.2)) rest k.rest h k.next)))))
  act-fits ts h ns (Load op align offset) t =
      let p = at (Load op align offset) ts tt t in let r = p.rule in
      let access = load-is op t.shape.0.0 in
      let k = taken ts h (Load op align offset) p r.0 r.2 r.3 (I32Type ∷ []) (number_type access.0.wide ∷ []) (r.1.2 ∙ ap (λ kind. arrow (I32Type ∷ []) (kind ∷ [])) (load-type op access.0 access.1)) in
      found-fits m final (load_of op) access.0 _ access.1 (word-fits m final false vs k.rest _ k.hold (λ address rest h.
      addressing-fits m final K Memory address (offset + access.0.bytes) (length c.store.memory) ns _ (λ at. holds _ (Of (number_type access.0.wide) ∷ k.rest) (valued-is access.0.wide _, h) k.next)))
  act-fits ts h ns (StoreInstr op align offset) t =
      let p = at (StoreInstr op align offset) ts tt t in let r = p.rule in
      let access = store-is op t.shape.0.0 in
      let k = taken ts h (StoreInstr op align offset) p r.0 r.2 r.3 (I32Type ∷ number_type access.0.wide ∷ []) [] (r.1.2 ∙ ap (λ kind. arrow (I32Type ∷ kind ∷ []) []) (store-type op access.0 access.1)) in
      found-fits m final (store_of op) access.0 _ access.1 (word-fits m final access.0.wide vs _ _ k.hold (λ w rest h. word-fits m final false rest k.rest _ h (λ address rest h.
      addressing-fits m final K Memory address (offset + access.0.bytes) (length c.store.memory) ns _ (λ at. stores _ (memory-set _) rest k.rest h k.next))))
  act-fits ts h ns MemorySize t =
      let p = at MemorySize ts tt t in let r = p.rule in let k = taken ts h MemorySize p r.0 r.2 r.3 [] (I32Type ∷ []) r.1.1 in
      holds _ (Of I32Type ∷ k.rest) (tt, k.hold) k.next
  act-fits ts h ns MemoryGrow t =
      let p = at MemoryGrow ts tt t in let r = p.rule in let k = taken ts h MemoryGrow p r.0 r.2 r.3 (I32Type ∷ []) (I32Type ∷ []) r.1.1 in
      let limits = get-within m.memories 0 (subst (λ l. 0 < length l) fits.memories r.1.0) in
      found-fits m final (slice_get m.memories 0) limits.0 _ limits.1 (word-fits m final false vs k.rest _ k.hold (λ count rest h.
      growing-fits m final K c rest count _ _ ns _ (λ w. holds (I32 w ∷ rest) (Of I32Type ∷ k.rest) (tt, h) k.next) (λ n w. stores _ (memory-set _) (I32 w ∷ rest) (Of I32Type ∷ k.rest) (tt, h) k.next)))
  act-fits ts h ns (MemoryInit x) t =
      let p = at (MemoryInit x) ts tt t in let r = p.rule in let k = taken ts h (MemoryInit x) p r.0 r.2 r.3 three_numbers [] r.1.2 in
      let there = data-there x r.1.1 in
      found-fits m final (slice_get c.store.datas x) there.0 _ there.1 (copy-fits m final vs k.rest _ k.hold (λ to from count rest h.
      copying-fits m final K Memory to from count (length c.store.memory) (length there.0) ns _ (λ t f n. stores _ (memory-set _) rest k.rest h k.next)))
  act-fits ts h ns (DataDrop x) t =
      let p = at (DataDrop x) ts tt t in let r = p.rule in let k = taken ts h (DataDrop x) p r.0 r.2 r.3 [] [] r.1.1 in
      let there = data-there x r.1.0 in
      found-fits m final (slice_get c.store.datas x) there.0 _ there.1 (stores _ (record {
        globals = kept.globals;
        tables = kept.tables;
        elems = kept.elems;
        datas = length-set c.store.datas x [] ∙ kept.datas;
      }) vs k.rest k.hold k.next)
  act-fits ts h ns MemoryCopy t =
      let p = at MemoryCopy ts tt t in let r = p.rule in let k = taken ts h MemoryCopy p r.0 r.2 r.3 three_numbers [] r.1.1 in
      copy-fits m final vs k.rest _ k.hold (λ to from count rest h.
      copying-fits m final K Memory to from count (length c.store.memory) (length c.store.memory) ns _ (λ t f n. stores _ (memory-set _) rest k.rest h k.next))
  act-fits ts h ns MemoryFill t =
      let p = at MemoryFill ts tt t in let r = p.rule in let k = taken ts h MemoryFill p r.0 r.2 r.3 three_numbers [] r.1.1 in
      word-fits m final false vs _ _ k.hold (λ count rest h. word-fits m final false rest _ _ h (λ w rest h. word-fits m final false rest k.rest _ h (λ to rest h.
      filling-fits m final K Memory to count (length c.store.memory) ns _ (λ t n. stores _ (memory-set _) rest k.rest h k.next))))
  act-fits ts h ns (Const32 n) t =
      let p = at (Const32 n) ts tt t in let r = p.rule in let k = taken ts h (Const32 n) p r.0 r.2 r.3 [] (I32Type ∷ []) r.1 in
      holds _ (Of I32Type ∷ k.rest) (tt, k.hold) k.next
  act-fits ts h ns (Const64 n) t =
      let p = at (Const64 n) ts tt t in let r = p.rule in let k = taken ts h (Const64 n) p r.0 r.2 r.3 [] (I64Type ∷ []) r.1 in
      holds _ (Of I64Type ∷ k.rest) (tt, k.hold) k.next
  act-fits ts h ns (Num op) t =
      let p = at (Num op) ts tt t in let r = p.rule in
      let o = operator-is op t.shape.0 in
      let same : r.0 ≡ operator_arrow o.0 o.0.operation = some-same r.0 (operator_arrow o.0 o.0.operation) (sym r.1 ∙ operator-type op o.0 o.1) in
      let k = taken ts h (Num op) p r.0 r.2 r.3 (operator_arrow o.0 o.0.operation).params (operator_arrow o.0 o.0.operation).results same in
      found-fits m final (operator_of op) o.0 _ o.1 (operating-fits ns op o.0 o.0.operation k.rest k.hold k.next)
