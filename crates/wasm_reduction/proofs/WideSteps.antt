-- A step keeps the widths of all words.
use Rattle.std.proofs.Common.{◌≡◌, ℕ, zero, suc, ◌+◌, ◌*◌, ◌/◌, ◌^◌, ◌<◌, ◌≤◌, List, [], ◌∷◌, ◌++◌, map, drop, length, reverse, refl, sym, ap, ◌∙◌, subst, arith, length-append}
use Rattle.std.specs.Prelude.{All, Bool, true, false, Option, Some, None, slice_get, slice_set, replicate}
use Rattle.std.specs.List.{AllByRecursion}
use Rattle.std.specs.Option.{option_map_or}
use Rattle.std.proofs.lemmas.List.{length-map, length-replicate, length-set}
use Rattle.std.proofs.lemmas.List.Elements.{All-nil, All-append, All-replicate}
use Rattle.wasm_ast.specs.declared.types.FuncType.{FuncType}
use Rattle.wasm_ast.specs.declared.types.BlockType.{BlockType}
use Rattle.wasm_ast.specs.declared.instructions.Instr.{Instr}
use Rattle.wasm_ast.specs.declared.instructions.Instr.TheVariants.{Unreachable, Nop, Block, Loop, If, Br, BrIf, BrTable, Return, Call, CallIndirect, RefNull, RefIsNull, RefFunc, Discard, Select, SelectTyped, LocalGet, LocalSet, LocalTee, GlobalGet, GlobalSet, TableGet, TableSet, TableInit, ElemDrop, TableCopy, TableGrow, TableSize, TableFill, Load, Store as StoreInstr, MemorySize, MemoryGrow, MemoryInit, DataDrop, MemoryCopy, MemoryFill, Const32, Const64, Num}
use Rattle.wasm_ast.specs.declared.runs.Cause.TheVariants.{DivZero, Overflow, Memory, Table, Undefined}
use Rattle.wasm_ast.specs.declared.modules.Func.{Func}
use Rattle.wasm_ast.specs.declared.modules.Module.{Module}
use Rattle.int_ops.specs.declared.operators.Width.{Width}
use Rattle.int_ops.specs.declared.operators.Width.TheVariants.{W32, W64}
use Rattle.int_ops.specs.declared.operators.Operation.{Operation}
use Rattle.int_ops.specs.declared.operators.Operation.TheVariants.{OfOne, OfTwo}
use Rattle.int_ops.specs.declared.operators.Operator.{Operator}
use Rattle.int_ops.specs.Integers.{least, minus_one, truth}
use Rattle.int_ops.specs.Operators.{operator_of, is_of_one, is_of_two, bits_of, divides, is_div_s}
use Rattle.wasm_rules.specs.declared.accesses.Access.{Access}
use Rattle.wasm_rules.specs.Words.{Kind, Gives, CanJoin, bits_where}
use Rattle.wasm_rules.specs.Accesses.{load_of, store_of, extended, accessed, lowest_bytes}
use Rattle.wasm_rules.proofs.AccessLemmas.{KeepsWidth, IsRow, load_row, store_row}
use Rattle.wasm_rules.proofs.StoredLemmas.{count_small}
use Rattle.wasm_check.specs.Trees.{seq_of}
use Rattle.wasm_image.specs.declared.hosts.Host.{Host}
use Rattle.wasm_image.specs.declared.hosts.Host.TheVariants.{SymbolI32, SymbolI64, Assume, Assert}
use Rattle.wasm_image.specs.Sizes.{most_pages, most_elements}
use Rattle.wasm_reduction.specs.Configurations.{Reference, FuncRef, ExternRef, Value, I32, I64, Ref, Store, Label, Frame, Config, Next, Goes}
use Rattle.wasm_reduction.specs.Functions.{Body, Code, Imported, Function, functions, type_of, same_function_type, block_type, first_locals}
use Rattle.wasm_reduction.specs.Combinators.{past, holding, with_locals, with_globals, with_memory, valued, written, part}
use Rattle.wasm_reduction.specs.Ranges.{growth_limit}
use Rattle.wasm_reduction.specs.Numeric.{is_wide, is_zero, is_overflow, checking, checking_overflow, operating}
use Rattle.wasm_reduction.specs.Parametric.{selecting}
use Rattle.wasm_reduction.specs.Control.{entering, given, give_back, finish, block, loop, branch, br, choosing, frame_of, calling_host, calling, calling_of_type, calling_reference}
use Rattle.wasm_reduction.specs.Tables.{null_of, is_null, with_table}
use Rattle.wasm_reduction.specs.Memories.{page_bytes}
use Rattle.wasm_reduction.specs.Steps.{act, step, step_code, answered, with_symbol}
use Rattle.wasm_reduction.specs.Maps.{ValueHas, ValuesHave, InRange, NextInRange, IsWide}
use Rattle.wasm_reduction.specs.Widths.{IsMemorySize, AreBytes, StoreHasWidths, LabelHasWidths, FrameHasWidths, HasWidths, NextHasWidths}
use Rattle.wasm_reduction.proofs.WordWidths.{IsBinary, IsUnary, ne, and, eq32, eq64, eqz32, eqz64, binary-has, unary-has}
use Rattle.wasm_reduction.proofs.WideParts.{bits-of-wide, each-get, each-set, each-append, each-drop, part-length, written-length, written-all, part-all, have-append, have-reverse, have-get, have-set, valued-has, has-some, found-wide, value-wide, word-wide, reference-wide, copy-wide, last-wide, testing-wide, trapping-wide, assuming-wide, indexing-wide, addressing-wide, filling-wide, copying-wide, growing-wide, lowest-wide, lowest-length, numbers-wide, locals-have, limit-most, memory-small}

abbrev InRangeAll : List Instr → Type 0
InRangeAll is = AllByRecursion InRange is

-- the code of all functions says numbers in range
abbrev pub CodeInRange : Module → Type 0
CodeInRange m = (x : ℕ) (f : Function) (code : Func) → slice_get (functions m) x ≡ Some f → f.body ≡ Code code → AllByRecursion (λ is. InRangeAll is) code.body.seqs

seq-in-range : (seqs : List (List Instr)) (s : ℕ) → AllByRecursion (λ is. InRangeAll is) seqs → InRangeAll (seq_of seqs s)
seq-in-range [] s h = tt
seq-in-range (is ∷ rest) zero h = h.0
seq-in-range (is ∷ rest) (suc s) h = seq-in-range rest s h.1

-- a memory that grows by whole pages
more-pages : {A : Type 0} (n most : ℕ) (xs : List A) (x : A) → IsMemorySize (length xs) → most ≤ most_pages → length xs / page_bytes + n ≤ most → IsMemorySize (length (xs ++ replicate (n * page_bytes) x))
more-pages n most xs x h l k = record {
  pages = h.pages + n;
  whole = length-append xs (replicate (n * page_bytes) x) ∙ (let r = length-replicate (n * page_bytes) x in omega (arith, r, h.whole));
  few = omega (arith, h.whole, h.few, l, k);
}

module _ {W : Type 0} (Has : ℕ → W → Type 0) (K : Kind W) (g : Gives K Has) (m : Module) (cm : CodeInRange m) (c : Config W) (w : HasWidths Has c) where
  abbrev N : Next W → Type 0
  N x = NextHasWidths Has x

  holds : (d : Config W) → HasWidths Has d → (vs : List (Value W)) → ValuesHave Has vs → HasWidths Has (holding d vs)
  holds d w vs p = record {
    store = w.store;
    frame = record { locals = w.frame.locals; seqs = w.frame.seqs; here = record { again = w.frame.here.again; vals = p; code = w.frame.here.code }; outer = w.frame.outer };
    callers = w.callers;
  }

  keeps-store : (vs : List (Value W)) → ValuesHave Has vs → (s : Store W) → StoreHasWidths Has s → HasWidths Has (record (holding c vs) { store = s })
  keeps-store vs p s h = record {
    store = h;
    frame = record { locals = w.frame.locals; seqs = w.frame.seqs; here = record { again = w.frame.here.again; vals = p; code = w.frame.here.code }; outer = w.frame.outer };
    callers = w.callers;
  }

  keeps-locals : (vs : List (Value W)) → ValuesHave Has vs → (x : ℕ) (v : Value W) → ValueHas Has v → N (Goes (with_locals (holding c vs) (slice_set c.frame.locals x v)))
  keeps-locals vs p x v q = record {
    store = w.store;
    frame = record { locals = have-set Has c.frame.locals x v w.frame.locals q; seqs = w.frame.seqs; here = record { again = w.frame.here.again; vals = p; code = w.frame.here.code }; outer = w.frame.outer };
    callers = w.callers;
  }

  keeps-globals : (vs : List (Value W)) → ValuesHave Has vs → (x : ℕ) (v : Value W) → ValueHas Has v → N (Goes (with_globals (holding c vs) (slice_set c.store.globals x v)))
  keeps-globals vs p x v q = keeps-store vs p _ (record {
    globals = have-set Has c.store.globals x v w.store.globals q;
    tables = w.store.tables;
    memory = w.store.memory;
    memory_size = w.store.memory_size;
    elems = w.store.elems;
    datas = w.store.datas;
  })

  keeps-table : (vs : List (Value W)) → ValuesHave Has vs → (x : ℕ) (elements : List Reference) → length elements ≤ most_elements → HasWidths Has (with_table (holding c vs) x elements)
  keeps-table vs p x elements l = keeps-store vs p _ (record {
    globals = w.store.globals;
    tables = each-set _ c.store.tables x elements w.store.tables l;
    memory = w.store.memory;
    memory_size = w.store.memory_size;
    elems = w.store.elems;
    datas = w.store.datas;
  })

  keeps-memory : (vs : List (Value W)) → ValuesHave Has vs → (memory : List W) → All (Has 8) memory → IsMemorySize (length memory) → HasWidths Has (with_memory (holding c vs) memory)
  keeps-memory vs p memory h l = keeps-store vs p _ (record {
    globals = w.store.globals;
    tables = w.store.tables;
    memory = h;
    memory_size = l;
    elems = w.store.elems;
    datas = w.store.datas;
  })

  -- what is written within the memory
  writes : (vs : List (Value W)) → ValuesHave Has vs → (place n : ℕ) (xs : List W) → All (Has 8) xs → length xs ≡ n → place + n ≤ length c.store.memory → N (Goes (with_memory (holding c vs) (written place xs c.store.memory)))
  writes vs p place n xs q e l =
      keeps-memory vs p (written place xs c.store.memory) (written-all (Has 8) place xs c.store.memory q w.store.memory)
      (subst IsMemorySize (sym (written-length place n xs c.store.memory e l)) w.store.memory_size)

  -- and within a table
  writes-table : (vs : List (Value W)) → ValuesHave Has vs → (x place n : ℕ) (xs elements : List Reference) → length elements ≤ most_elements → length xs ≡ n → place + n ≤ length elements →
      N (Goes (with_table (holding c vs) x (written place xs elements)))
  writes-table vs p x place n xs elements s e l = keeps-table vs p x (written place xs elements) (let h = written-length place n xs elements e l in omega (arith, h, s))

  number-wide : (vs : List (Value W)) (n : ℕ) → ValuesHave Has vs → n < 2 ^ 32 → N (Goes (holding c (I32 (K.number n) ∷ vs)))
  number-wide vs n p l = holds c w (I32 (K.number n) ∷ vs) (g.number 32 n l, p)

  table-small : (x : ℕ) (elements : List Reference) → slice_get c.store.tables x ≡ Some elements → length elements ≤ most_elements
  table-small x elements e = each-get (λ t. length t ≤ most_elements) c.store.tables x elements w.store.tables e

  elem-small : (x : ℕ) (source : List Reference) → slice_get c.store.elems x ≡ Some source → length source < 2 ^ 32
  elem-small x source e = each-get (λ t. length t < 2 ^ 32) c.store.elems x source w.store.elems e

  small : length c.store.memory < 2 ^ 32
  small = memory-small (length c.store.memory) w.store.memory_size

  -- ---- numeric

  zero-has : (width : Width) (b : W) → Has (bits_where (is_wide width)) b → Has 32 (is_zero K width b)
  zero-has W32 b p = unary-has Has K g 0x45 32 32 eqz32 b p
  zero-has W64 b p = unary-has Has K g 0x50 64 32 eqz64 b p

  both-has : (op bits n o : ℕ) → IsBinary op bits 32 → (a b : W) → Has bits a → Has bits b → n < 2 ^ bits → o < 2 ^ bits → Has 32 (K.binary 0x71 (K.binary op a (K.number n)) (K.binary op b (K.number o)))
  both-has op bits n o is a b p q s t =
      binary-has Has K g 0x71 32 32 and _ _ (binary-has Has K g op bits 32 is a (K.number n) p (g.number bits n s)) (binary-has Has K g op bits 32 is b (K.number o) q (g.number bits o t))

  overflow-has : (width : Width) (a b : W) → Has (bits_where (is_wide width)) a → Has (bits_where (is_wide width)) b → Has 32 (is_overflow K width a b)
  overflow-has W32 a b p q = both-has 0x46 32 (least 32) (minus_one 32) eq32 a b p q (omega arith) (omega arith)
  overflow-has W64 a b p q = both-has 0x51 64 (least 64) (minus_one 64) eq64 a b p q (omega arith) (omega arith)

  overflow-wide : (signed : Bool) (width : Width) (a b : W) (ns : List ℕ) (x : Next W) → Has (bits_where (is_wide width)) a → Has (bits_where (is_wide width)) b → N x → N (checking_overflow K signed width a b ns x)
  overflow-wide false width a b ns x p q h = h
  overflow-wide true width a b ns x p q h = trapping-wide Has _ Overflow ns _ (overflow-has width a b p q) (λ ns. h)

  checking-wide : (divides signed : Bool) (width : Width) (a b : W) (ns : List ℕ) (x : Next W) → Has (bits_where (is_wide width)) a → Has (bits_where (is_wide width)) b → N x → N (checking K divides signed width a b ns x)
  checking-wide false signed width a b ns x p q h = h
  checking-wide true signed width a b ns x p q h = trapping-wide Has _ DivZero ns _ (zero-has width b q) (λ ns. overflow-wide signed width a b ns x p q h)

  operating-wide : (vs : List (Value W)) (ns : List ℕ) (op : ℕ) (o : Operator) (operation : Operation) → ValuesHave Has vs → operator_of op ≡ Some o → o.operation ≡ operation → N (operating K c vs ns op o operation)
  operating-wide vs ns op o (OfOne operation) p e s =
      let is : IsUnary op (bits_where (is_wide o.operand)) (bits_where (is_wide o.result)) = record {
        unary = ap (λ x. option_map_or (λ o. is_of_one o.operation) x false) e ∙ ap is_of_one s;
        operand_is = ap (λ x. option_map_or (λ o. bits_of o.operand) x 0) e ∙ bits-of-wide o.operand;
        result_is = ap (λ x. option_map_or (λ o. bits_of o.result) x 0) e ∙ bits-of-wide o.result;
      } in
      word-wide Has (is_wide o.operand) vs _ p (λ a rest q p. holds c w (valued (is_wide o.result) (K.unary op a) ∷ rest) (valued-has Has (is_wide o.result) (K.unary op a) (unary-has Has K g op _ _ is a q), p))
  operating-wide vs ns op o (OfTwo operation) p e s =
      let is : IsBinary op (bits_where (is_wide o.operand)) (bits_where (is_wide o.result)) = record {
        binary = ap (λ x. option_map_or (λ o. is_of_two o.operation) x false) e ∙ ap is_of_two s;
        operand_is = ap (λ x. option_map_or (λ o. bits_of o.operand) x 0) e ∙ bits-of-wide o.operand;
        result_is = ap (λ x. option_map_or (λ o. bits_of o.result) x 0) e ∙ bits-of-wide o.result;
      } in
      word-wide Has (is_wide o.operand) vs _ p (λ b rest q p. word-wide Has (is_wide o.operand) rest _ p (λ a rest r p.
      checking-wide (divides operation) (is_div_s operation) o.operand a b ns _ r q
      (holds c w (valued (is_wide o.result) (K.binary op a b) ∷ rest) (valued-has Has (is_wide o.result) (K.binary op a b) (binary-has Has K g op _ _ is a b r q), p))))

  selecting-wide : (rest : List (Value W)) (ns : List ℕ) (x : W) (first second : Value W) → ValuesHave Has rest → Has 32 x → ValueHas Has first → ValueHas Has second → N (selecting K c rest ns x first second)
  selecting-wide rest ns x (I32 a) (I32 b) p q r s = holds c w (I32 (K.choose false x a b) ∷ rest) (g.choose false x a b (has-some Has false x q) r s, p)
  selecting-wide rest ns x (I64 a) (I64 b) p q r s = holds c w (I64 (K.choose true x a b) ∷ rest) (g.choose true x a b (has-some Has false x q) r s, p)
  selecting-wide rest ns x (Ref a) (Ref b) p q r s = testing-wide Has x ns _ _ q (λ ns. holds c w (Ref b ∷ rest) (tt, p)) (λ ns. holds c w (Ref a ∷ rest) (tt, p))
  selecting-wide rest ns x (I32 a) (I64 b) p q r s = tt
  selecting-wide rest ns x (I32 a) (Ref b) p q r s = tt
  selecting-wide rest ns x (I64 a) (I32 b) p q r s = tt
  selecting-wide rest ns x (I64 a) (Ref b) p q r s = tt
  selecting-wide rest ns x (Ref a) (I32 b) p q r s = tt
  selecting-wide rest ns x (Ref a) (I64 b) p q r s = tt

  -- ---- control

  given-wide : (vs : List (Value W)) (l : Label W) → ValuesHave Has vs → LabelHasWidths Has l → LabelHasWidths Has (given vs l)
  given-wide vs l p h = record { again = h.again; vals = have-append Has vs l.vals p h.vals; code = h.code }

  give_back-wide : (vs : List (Value W)) (fs : List (Frame W)) → ValuesHave Has vs → AllByRecursion (λ f. FrameHasWidths Has f) fs → N (give_back c vs fs)
  give_back-wide vs [] p h = have-reverse Has vs p
  give_back-wide vs (f ∷ fs) p h = record { store = w.store; frame = record { locals = h.0.locals; seqs = h.0.seqs; here = given-wide vs f.here p h.0.here; outer = h.0.outer }; callers = h.1 }

  finish-wide : (vs : List (Value W)) (ls : List (Label W)) → ValuesHave Has vs → AllByRecursion (λ l. LabelHasWidths Has l) ls → N (finish c vs ls)
  finish-wide vs [] p h = give_back-wide vs c.callers p w.callers
  finish-wide vs (l ∷ ls) p h = record { store = w.store; frame = record { locals = w.frame.locals; seqs = w.frame.seqs; here = given-wide vs l p h.0; outer = h.1 }; callers = w.callers }

  branch-wide : (vs : List (Value W)) (ls : List (Label W)) → ValuesHave Has vs → AllByRecursion (λ l. LabelHasWidths Has l) ls → N (branch c vs ls)
  branch-wide vs [] p h = tt
  branch-wide vs (t ∷ []) p h = last-wide Has t.arity vs (λ carried rest. give_back c carried c.callers) p (λ carried rest q r. give_back-wide carried c.callers q w.callers)
  branch-wide vs (t ∷ l ∷ ls) p h = last-wide Has t.arity vs (λ carried rest. Goes (record c { frame = record (c.frame) { here = given carried (record l { code = t.again ++ l.code }); outer = ls } })) p (λ carried rest q r. record {
    store = w.store;
    frame = record {
      locals = w.frame.locals;
      seqs = w.frame.seqs;
      here = record { again = h.1.0.again; vals = have-append Has carried l.vals q h.1.0.vals; code = each-append InRange t.again l.code h.0.again h.1.0.code };
      outer = h.1.1;
    };
    callers = w.callers;
  })

  br-wide : (vs : List (Value W)) (n : ℕ) → ValuesHave Has vs → N (br c vs n)
  br-wide vs n p = branch-wide vs (drop n (c.frame.here ∷ c.frame.outer)) p (each-drop (λ l. LabelHasWidths Has l) n (c.frame.here ∷ c.frame.outer) (w.frame.here, w.frame.outer))

  entering-wide : (params rest : List (Value W)) (arity : ℕ) (again : List Instr) (s : ℕ) → ValuesHave Has params → ValuesHave Has rest → InRangeAll again → N (entering c params rest arity again (seq_of c.frame.seqs s))
  entering-wide params rest arity again s p q r = record {
    store = w.store;
    frame = record {
      locals = w.frame.locals;
      seqs = w.frame.seqs;
      here = record { again = r; vals = p; code = seq-in-range c.frame.seqs s w.frame.seqs };
      outer = (record { again = w.frame.here.again; vals = q; code = w.frame.here.code }, w.frame.outer);
    };
    callers = w.callers;
  }

  block-wide : (vs : List (Value W)) (ty : BlockType) (body : ℕ) → ValuesHave Has vs → N (block m c vs ty body)
  block-wide vs ty body p = found-wide Has (block_type m ty) _ (λ t e. last-wide Has (length t.params) vs (λ params rest. entering c params rest (length t.results) [] (seq_of c.frame.seqs body)) p (λ params rest q r. entering-wide params rest (length t.results) [] body q r tt))

  loop-wide : (vs : List (Value W)) (ty : BlockType) (body : ℕ) → ValuesHave Has vs → N (loop m c vs ty body)
  loop-wide vs ty body p = found-wide Has (block_type m ty) _ (λ t e. last-wide Has (length t.params) vs (λ params rest. entering c params rest (length t.params) (Loop ty body ∷ []) (seq_of c.frame.seqs body)) p (λ params rest q r. entering-wide params rest (length t.params) (Loop ty body ∷ []) body q r (tt, tt)))

  choosing-wide : (index : W) (n : ℕ) (ls : List ℕ) (last : ℕ) (ns : List ℕ) (go : ℕ → Next W) → Has 32 index → n + length ls < 2 ^ 32 → ((l : ℕ) → N (go l)) → N (choosing K index n ls last ns go)
  choosing-wide index n [] last ns go q s f = f last
  choosing-wide index n (l ∷ ls) last ns go q s f =
      testing-wide Has _ ns _ _ (binary-has Has K g 0x47 32 32 ne index (K.number n) q (g.number 32 n (omega (arith, s)))) (λ ns. f l) (λ ns. choosing-wide index (n + 1) ls last ns go q (omega (arith, s)) f)

  host-wide : (vs : List (Value W)) (ns : List ℕ) (host : Option Host) → ValuesHave Has vs → N (calling_host c vs ns host)
  host-wide vs ns None p = tt
  host-wide vs ns (Some SymbolI32) p = holds c w vs p
  host-wide vs ns (Some SymbolI64) p = holds c w vs p
  host-wide vs ns (Some Assume) p = word-wide Has false vs _ p (λ x rest q p. assuming-wide Has x ns _ _ q tt (holds c w rest p))
  host-wide vs ns (Some Assert) p = word-wide Has false vs _ p (λ x rest q p. testing-wide Has x ns _ _ q (λ ns. tt) (λ ns. holds c w rest p))

  calling-wide : (vs : List (Value W)) (ns : List ℕ) (x : ℕ) (f : Function) (body : Body) → ValuesHave Has vs → slice_get (functions m) x ≡ Some f → f.body ≡ body → N (calling K m c vs ns f body)
  calling-wide vs ns x f (Imported host) p e s = host-wide vs ns host p
  calling-wide vs ns x f (Code code) p e s = found-wide Has (type_of m f) _ (λ t d. last-wide Has (length t.params) vs (λ args rest. Goes (record c { frame = frame_of K t code (reverse args); callers = (holding c rest).frame ∷ c.callers })) p (λ args rest q r. record {
    store = w.store;
    frame = record {
      locals = have-append Has (reverse args) (first_locals K code.locals) (have-reverse Has args q) (locals-have Has K g code.locals);
      seqs = cm x f code e s;
      here = record { again = tt; vals = tt; code = seq-in-range code.body.seqs 0 (cm x f code e s) };
      outer = tt;
    };
    callers = (record { locals = w.frame.locals; seqs = w.frame.seqs; here = record { again = w.frame.here.again; vals = r; code = w.frame.here.code }; outer = w.frame.outer }, w.callers);
  }))

  of_type-wide : (vs : List (Value W)) (ns : List ℕ) (x : ℕ) (f : Function) (b : Bool) → ValuesHave Has vs → slice_get (functions m) x ≡ Some f → N (calling_of_type K m c vs ns f b)
  of_type-wide vs ns x f true p e = calling-wide vs ns x f f.body p e refl
  of_type-wide vs ns x f false p e = tt

  called-wide : (vs : List (Value W)) (ns : List ℕ) (type : FuncType) (r : Reference) → ValuesHave Has vs → N (calling_reference K m c vs ns type r)
  called-wide vs ns type ExternRef p = tt
  called-wide vs ns type (FuncRef None) p = tt
  called-wide vs ns type (FuncRef (Some x)) p = found-wide Has (slice_get (functions m) x) _ (λ f e. found-wide Has (type_of m f) _ (λ t d. of_type-wide vs ns x f (same_function_type t type) p e))

  -- ---- memory

  accessed-has : (access : Access) (bytes : List W) → IsRow access → length bytes ≡ access.bytes → All (Has 8) bytes → Has (bits_where access.wide) (accessed K access bytes)
  accessed-has access bytes row n p = at access.extend row.extends
    where
      joined : Has (bits_where access.wide) (K.join access.wide bytes)
      joined = g.join access.wide bytes (subst (λ n. CanJoin access.wide n) (sym n) row.count) p

      at : (e : Option ℕ) → KeepsWidth (bits_where access.wide) e → Has (bits_where access.wide) (extended K e (K.join access.wide bytes))
      at None h = joined
      at (Some op) h = unary-has Has K g op _ _ (record { unary = h.0; operand_is = h.1; result_is = h.2 }) (K.join access.wide bytes) joined

  -- ---- each instruction

  pub act-wide : (vs : List (Value W)) (ns : List ℕ) (i : Instr) → ValuesHave Has vs → InRange i → N (act K m c vs ns i)
  act-wide vs ns Unreachable p r = tt
  act-wide vs ns Nop p r = w
  act-wide vs ns (Block ty body) p r = block-wide vs ty body p
  act-wide vs ns (Loop ty body) p r = loop-wide vs ty body p
  act-wide vs ns (If ty first other) p r = word-wide Has false vs _ p (λ x rest q p. testing-wide Has x ns _ _ q (λ ns. block-wide rest ty other p) (λ ns. block-wide rest ty first p))
  act-wide vs ns (Br l) p r = br-wide vs l p
  act-wide vs ns (BrIf l) p r = word-wide Has false vs _ p (λ x rest q p. testing-wide Has x ns _ _ q (λ ns. holds c w rest p) (λ ns. br-wide rest l p))
  act-wide vs ns (BrTable labels last) p r = word-wide Has false vs _ p (λ index rest q p. choosing-wide index 0 labels last ns _ q (omega (arith, r)) (λ l. br-wide rest l p))
  act-wide vs ns Return p r = last-wide Has c.frame.arity vs (λ results rest. give_back c results c.callers) p (λ results rest q r. give_back-wide results c.callers q w.callers)
  act-wide vs ns (Call x) p r = found-wide Has (slice_get (functions m) x) _ (λ f e. calling-wide vs ns x f f.body p e refl)
  act-wide vs ns (CallIndirect ty x) p r = found-wide Has (slice_get m.types ty) _ (λ type e. found-wide Has (slice_get c.store.tables x) _ (λ elements e.
      word-wide Has false vs _ p (λ index rest q p. indexing-wide Has K g Undefined index elements ns _ q (let s = table-small x elements e in omega (arith, s)) (λ i reference ns. called-wide rest ns type reference p))))
  act-wide vs ns (RefNull kind) p r = found-wide Has (null_of kind) _ (λ x e. holds c w (Ref x ∷ vs) (tt, p))
  act-wide vs ns RefIsNull p r = reference-wide Has vs _ p (λ x rest p. number-wide rest (truth (is_null x)) p (truth-small (is_null x)))
    where
      truth-small : (b : Bool) → truth b < 2 ^ 32
      truth-small true = omega arith
      truth-small false = omega arith
  act-wide vs ns (RefFunc x) p r = holds c w (Ref (FuncRef (Some x)) ∷ vs) (tt, p)
  act-wide vs ns Discard p r = value-wide Has vs _ p (λ v rest q p. holds c w rest p)
  act-wide vs ns Select p r = word-wide Has false vs _ p (λ x rest q p. value-wide Has rest _ p (λ second rest b p. value-wide Has rest _ p (λ first rest a p. selecting-wide rest ns x first second p q a b)))
  act-wide vs ns (SelectTyped kinds) p r = word-wide Has false vs _ p (λ x rest q p. value-wide Has rest _ p (λ second rest b p. value-wide Has rest _ p (λ first rest a p. selecting-wide rest ns x first second p q a b)))
  act-wide vs ns (LocalGet x) p r = found-wide Has (slice_get c.frame.locals x) _ (λ v e. holds c w (v ∷ vs) (have-get Has c.frame.locals x v w.frame.locals e, p))
  act-wide vs ns (LocalSet x) p r = found-wide Has (slice_get c.frame.locals x) _ (λ old e. value-wide Has vs _ p (λ v rest q p. keeps-locals rest p x v q))
  act-wide vs ns (LocalTee x) p r = found-wide Has (slice_get c.frame.locals x) _ (λ old e. value-wide Has vs _ p (λ v rest q p. keeps-locals (v ∷ rest) (q, p) x v q))
  act-wide vs ns (GlobalGet x) p r = found-wide Has (slice_get c.store.globals x) _ (λ v e. holds c w (v ∷ vs) (have-get Has c.store.globals x v w.store.globals e, p))
  act-wide vs ns (GlobalSet x) p r = found-wide Has (slice_get c.store.globals x) _ (λ old e. value-wide Has vs _ p (λ v rest q p. keeps-globals rest p x v q))
  act-wide vs ns (TableGet x) p r = found-wide Has (slice_get c.store.tables x) _ (λ elements e. word-wide Has false vs _ p (λ index rest q p.
      indexing-wide Has K g Table index elements ns _ q (let s = table-small x elements e in omega (arith, s)) (λ i reference ns. holds c w (Ref reference ∷ rest) (tt, p))))
  act-wide vs ns (TableSet x) p r = found-wide Has (slice_get c.store.tables x) _ (λ elements e. reference-wide Has vs _ p (λ reference rest p. word-wide Has false rest _ p (λ index rest q p.
      indexing-wide Has K g Table index elements ns _ q (let s = table-small x elements e in omega (arith, s)) (λ i old ns.
      keeps-table rest p x (slice_set elements i reference) (let s = table-small x elements e in let t = length-set elements i reference in omega (arith, s, t))))))
  act-wide vs ns (TableInit y x) p r = found-wide Has (slice_get c.store.tables x) _ (λ target e. found-wide Has (slice_get c.store.elems y) _ (λ source d. copy-wide Has vs _ p (λ to from count rest a b h p.
      copying-wide Has K g Table to from count (length target) (length source) ns _ a b h (let s = table-small x target e in omega (arith, s)) (let s = elem-small y source d in omega (arith, s)) (λ t f n k l.
      writes-table rest p x t n (part f n source) target (table-small x target e) (part-length f n source k) l))))
  act-wide vs ns (ElemDrop y) p r = found-wide Has (slice_get c.store.elems y) _ (λ old e. record {
    store = record { globals = w.store.globals; tables = w.store.tables; memory = w.store.memory; memory_size = w.store.memory_size; elems = each-set _ c.store.elems y [] w.store.elems (omega arith); datas = w.store.datas };
    frame = w.frame;
    callers = w.callers;
  })
  act-wide vs ns (TableCopy x y) p r = found-wide Has (slice_get c.store.tables x) _ (λ target e. found-wide Has (slice_get c.store.tables y) _ (λ source d. copy-wide Has vs _ p (λ to from count rest a b h p.
      copying-wide Has K g Table to from count (length target) (length source) ns _ a b h (let s = table-small x target e in omega (arith, s)) (let s = table-small y source d in omega (arith, s)) (λ t f n k l.
      writes-table rest p x t n (part f n source) target (table-small x target e) (part-length f n source k) l))))
  act-wide vs ns (TableGrow x) p r = found-wide Has (slice_get c.store.tables x) _ (λ elements e. found-wide Has (slice_get m.tables x) _ (λ type d.
      word-wide Has false vs _ p (λ count rest q p. reference-wide Has rest _ p (λ reference rest p.
      growing-wide Has K g c rest count (length elements) (growth_limit type.limits.max most_elements) ns _ q (λ v s. holds c w (v ∷ rest) (s, p))
      (λ n v l s. keeps-table (v ∷ rest) (s, p) x (elements ++ replicate n reference)
      (let most = limit-most type.limits.max most_elements in let a = length-append elements (replicate n reference) in let b = length-replicate n reference in omega (arith, most, a, b, l)))
      (let s = table-small x elements e in omega (arith, s))))))
  act-wide vs ns (TableSize x) p r = found-wide Has (slice_get c.store.tables x) _ (λ elements e. number-wide vs (length elements) p (let s = table-small x elements e in omega (arith, s)))
  act-wide vs ns (TableFill x) p r = found-wide Has (slice_get c.store.tables x) _ (λ elements e. word-wide Has false vs _ p (λ count rest d p. reference-wide Has rest _ p (λ reference rest p. word-wide Has false rest _ p (λ to rest a p.
      filling-wide Has K g Table to count (length elements) ns _ a d (let s = table-small x elements e in omega (arith, s)) (λ t n l.
      writes-table rest p x t n (replicate n reference) elements (table-small x elements e) (length-replicate n reference) l)))))
  act-wide vs ns (Load op align offset) p r = found-wide Has (load_of op) _ (λ access e. word-wide Has false vs _ p (λ address rest q p.
      let row : IsRow access = load_row op access (sym e) in
      let few : access.bytes ≤ 8 = count_small access.wide access.bytes row.count in
      addressing-wide Has K g Memory address (offset + access.bytes) (length c.store.memory) ns _ q (omega (arith, few, r)) (omega (arith, small)) (λ at l.
      holds c w _ (valued-has Has access.wide _ (accessed-has access (part (at + offset) access.bytes c.store.memory) row (part-length (at + offset) access.bytes c.store.memory (omega (arith, l))) (part-all (Has 8) (at + offset) access.bytes c.store.memory w.store.memory)), p))))
  act-wide vs ns (StoreInstr op align offset) p r = found-wide Has (store_of op) _ (λ access e. word-wide Has access.wide vs _ p (λ x rest b p. word-wide Has false rest _ p (λ address rest q p.
      let row : IsRow access = store_row op access (sym e) in
      let few : access.bytes ≤ 8 = count_small access.wide access.bytes row.count in
      addressing-wide Has K g Memory address (offset + access.bytes) (length c.store.memory) ns _ q (omega (arith, few, r)) (omega (arith, small)) (λ at l.
      writes rest p (at + offset) access.bytes (lowest_bytes K access.bytes x) (lowest-wide Has K g access.bytes x few (has-some Has access.wide x b)) (lowest-length Has K g access.bytes x) (omega (arith, l))))))
  act-wide vs ns MemorySize p r = number-wide vs (length c.store.memory / page_bytes) p (omega (arith, small))
  act-wide vs ns MemoryGrow p r = found-wide Has (slice_get m.memories 0) _ (λ limits e. word-wide Has false vs _ p (λ count rest q p.
      growing-wide Has K g c rest count (length c.store.memory / page_bytes) (growth_limit limits.max most_pages) ns _ q (λ v s. holds c w (v ∷ rest) (s, p))
      (λ n v l s. keeps-memory (v ∷ rest) (s, p) _ (All-append (Has 8) c.store.memory (replicate (n * page_bytes) (K.number 0)) w.store.memory (All-replicate (Has 8) (n * page_bytes) (K.number 0) (g.number 8 0 (omega arith))))
      (more-pages n (growth_limit limits.max most_pages) c.store.memory (K.number 0) w.store.memory_size (limit-most limits.max most_pages) l))
      (omega (arith, small))))
  act-wide vs ns (MemoryInit x) p r = found-wide Has (slice_get c.store.datas x) _ (λ source e. copy-wide Has vs _ p (λ to from count rest a b d p.
      let bytes : AreBytes source = each-get AreBytes c.store.datas x source w.store.datas e in
      copying-wide Has K g Memory to from count (length c.store.memory) (length source) ns _ a b d (omega (arith, small)) (omega (arith, bytes.short)) (λ t f n k l.
      writes rest p t n (map K.number (part f n source)) (numbers-wide Has K g (part f n source) (part-all (λ b. b < 2 ^ 8) f n source bytes.each)) (length-map (part f n source) K.number ∙ part-length f n source k) l)))
  act-wide vs ns (DataDrop x) p r = found-wide Has (slice_get c.store.datas x) _ (λ old e. record {
    store = record { globals = w.store.globals; tables = w.store.tables; memory = w.store.memory; memory_size = w.store.memory_size; elems = w.store.elems; datas = each-set _ c.store.datas x [] w.store.datas (record { each = All-nil (λ b. b < 2 ^ 8); short = omega arith }) };
    frame = w.frame;
    callers = w.callers;
  })
  act-wide vs ns MemoryCopy p r = copy-wide Has vs _ p (λ to from count rest a b d p.
      copying-wide Has K g Memory to from count (length c.store.memory) (length c.store.memory) ns _ a b d (omega (arith, small)) (omega (arith, small)) (λ t f n k l.
      writes rest p t n (part f n c.store.memory) (part-all (Has 8) f n c.store.memory w.store.memory) (part-length f n c.store.memory k) l))
  act-wide vs ns MemoryFill p r = word-wide Has false vs _ p (λ count rest d p. word-wide Has false rest _ p (λ x rest b p. word-wide Has false rest _ p (λ to rest a p.
      filling-wide Has K g Memory to count (length c.store.memory) ns _ a d (omega (arith, small)) (λ t n l.
      writes rest p t n (replicate n (K.byte x 0)) (All-replicate (Has 8) n (K.byte x 0) (g.byte x 0 (omega arith) (has-some Has false x b))) (length-replicate n (K.byte x 0)) l))))
  act-wide vs ns (Const32 n) p r = number-wide vs n p r
  act-wide vs ns (Const64 n) p r = holds c w (I64 (K.number n) ∷ vs) (g.number 64 n r, p)
  act-wide vs ns (Num op) p r = found-wide Has (operator_of op) _ (λ o e. operating-wide vs ns op o o.operation p e refl)

-- ---- a step

past-wide : {W : Type 0} (Has : ℕ → W → Type 0) (c : Config W) (is : List Instr) → HasWidths Has c → InRangeAll is → HasWidths Has (past c is)
past-wide Has c is w r = record {
  store = w.store;
  frame = record { locals = w.frame.locals; seqs = w.frame.seqs; here = record { again = w.frame.here.again; vals = w.frame.here.vals; code = r }; outer = w.frame.outer };
  callers = w.callers;
}

pub step-wide : {W : Type 0} (Has : ℕ → W → Type 0) (K : Kind W) → Gives K Has → (m : Module) → CodeInRange m → (c : Config W) → HasWidths Has c → NextHasWidths Has (step K m c)
step-wide Has K g m cm c w = at c.frame.here.code w.frame.here.code
  where
    at : (code : List Instr) → InRangeAll code → NextHasWidths Has (step_code K m c code)
    at [] r = finish-wide Has K g m cm c w c.frame.here.vals c.frame.outer w.frame.here.vals w.frame.outer
    at (i ∷ is) r = act-wide Has K g m cm (past c is) (past-wide Has c is w r.1) c.frame.here.vals c.answers i w.frame.here.vals r.0

pub answered-wide : {W : Type 0} (Has : ℕ → W → Type 0) (c : Config W) (n : ℕ) → HasWidths Has c → HasWidths Has (answered c n)
answered-wide Has c n w = record { store = w.store; frame = w.frame; callers = w.callers }

pub symbol-wide : {W : Type 0} (Has : ℕ → W → Type 0) (c : Config W) (wide : Bool) (x : W) → HasWidths Has c → Has (bits_where wide) x → HasWidths Has (with_symbol c wide x)
symbol-wide Has c wide x w p = record {
  store = w.store;
  frame = record { locals = w.frame.locals; seqs = w.frame.seqs; here = record { again = w.frame.here.again; vals = (valued-has Has wide x p, w.frame.here.vals); code = w.frame.here.code }; outer = w.frame.outer };
  callers = w.callers;
}

-- ---- what a step computes with

weaker : {A : Type 0} (P Q : A → Type 0) → ((x : A) → P x → Q x) → (xs : List A) → AllByRecursion P xs → AllByRecursion Q xs
weaker P Q f [] h = tt
weaker P Q f (x ∷ xs) h = (f x h.0, weaker P Q f xs h.1)

pub wide-is : {W : Type 0} (Has : ℕ → W → Type 0) (c : Config W) → HasWidths Has c → IsWide Has c
wide-is Has c w = record {
  vals = w.frame.here.vals;
  memory = w.store.memory;
  memory_small = let s = memory-small (length c.store.memory) w.store.memory_size in omega (arith, s);
  tables_small = weaker _ _ (λ t h. omega (arith, h)) c.store.tables w.store.tables;
  elems_small = weaker _ _ (λ t h. omega (arith, h)) c.store.elems w.store.elems;
  datas_small = weaker _ _ (λ t h. let s = h.short in omega (arith, s)) c.store.datas w.store.datas;
  code = next c.frame.here.code w.frame.here.code;
}
  where
    next : (code : List Instr) → InRangeAll code → NextInRange code
    next [] h = tt
    next (i ∷ is) h = h.0
