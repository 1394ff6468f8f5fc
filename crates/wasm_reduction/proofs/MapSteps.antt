-- A step commutes with a map of words that keeps the operations.
use Rattle.std.proofs.Common.{◌≡◌, ℕ, zero, suc, ◌+◌, ◌*◌, ◌/◌, ◌^◌, ◌<◌, ◌≤◌, List, [], ◌∷◌, ◌++◌, map, drop, length, reverse, refl, sym, ap, ◌∙◌, subst, arith}
use Rattle.std.specs.Prelude.{All, Bool, true, false, Option, Some, None, slice_get, replicate}
use Rattle.std.specs.List.{AllByRecursion}
use Rattle.std.specs.Option.{option_map_or}
use Rattle.std.proofs.lemmas.List.{map-append, drop-map, length-map, map-set}
use Rattle.wasm_ast.specs.declared.types.FuncType.{FuncType}
use Rattle.wasm_ast.specs.declared.types.BlockType.{BlockType}
use Rattle.wasm_ast.specs.declared.instructions.Instr.{Instr}
use Rattle.wasm_ast.specs.declared.instructions.Instr.TheVariants.{Unreachable, Nop, Block, Loop, If, Br, BrIf, BrTable, Return, Call, CallIndirect, RefNull, RefIsNull, RefFunc, Discard, Select, SelectTyped, LocalGet, LocalSet, LocalTee, GlobalGet, GlobalSet, TableGet, TableSet, TableInit, ElemDrop, TableCopy, TableGrow, TableSize, TableFill, Load, Store as StoreInstr, MemorySize, MemoryGrow, MemoryInit, DataDrop, MemoryCopy, MemoryFill, Const32, Const64, Num}
use Rattle.wasm_ast.specs.declared.runs.Cause.TheVariants.{DivZero, Overflow, Memory, Table, Undefined}
use Rattle.wasm_ast.specs.declared.modules.Module.{Module}
use Rattle.int_ops.specs.declared.operators.Width.{Width}
use Rattle.int_ops.specs.declared.operators.Width.TheVariants.{W32, W64}
use Rattle.int_ops.specs.declared.operators.Operation.{Operation}
use Rattle.int_ops.specs.declared.operators.Operation.TheVariants.{OfOne, OfTwo}
use Rattle.int_ops.specs.declared.operators.Operator.{Operator}
use Rattle.int_ops.specs.Integers.{least, minus_one, truth}
use Rattle.int_ops.specs.Operators.{operator_of, is_of_one, is_of_two, bits_of, divides, is_div_s}
use Rattle.wasm_rules.specs.declared.accesses.Access.{Access}
use Rattle.wasm_rules.specs.Words.{Kind, Gives, CanJoin, bits_where}
use Rattle.wasm_rules.specs.Accesses.{load_of, store_of, extended, accessed, lowest_bytes}
use Rattle.wasm_rules.proofs.AccessLemmas.{KeepsWidth, IsRow, load_row, store_row}
use Rattle.wasm_rules.proofs.StoredLemmas.{count_small}
use Rattle.wasm_reduction.specs.Configurations.{Reference, FuncRef, ExternRef, Value, I32, I64, Ref, Label, Frame, Config, Next, Goes, Ends, Returns}
use Rattle.wasm_check.specs.Trees.{seq_of}
use Rattle.wasm_image.specs.declared.hosts.Host.{Host}
use Rattle.wasm_image.specs.declared.hosts.Host.TheVariants.{SymbolI32, SymbolI64, Assume, Assert}
use Rattle.wasm_reduction.specs.Functions.{Body, Code, Imported, Function, functions, type_of, same_function_type, block_type, first_locals}
use Rattle.wasm_reduction.specs.Combinators.{cost_under, past, holding, with_locals, with_globals, with_memory, valued, with_found, written, part}
use Rattle.wasm_reduction.specs.Numeric.{is_wide, is_zero, is_overflow, checking, checking_overflow, operating}
use Rattle.wasm_reduction.specs.Parametric.{selecting}
use Rattle.wasm_reduction.specs.Control.{entering, given, give_back, finish, block, loop, branch, br, choosing, frame_of, calling_host, calling, calling_of_type, calling_reference}
use Rattle.wasm_reduction.specs.Tables.{null_of, is_null}
use Rattle.wasm_reduction.specs.Memories.{page_bytes}
use Rattle.wasm_reduction.specs.Steps.{act, step, step_code}
use Rattle.wasm_reduction.specs.Images.{value_image, values_image, label_image, frame_image, config_image, next_image}
use Rattle.wasm_reduction.specs.Maps.{ValueHas, ValuesHave, InRange, NextInRange, IsWide, KeepsOperations}
use Rattle.wasm_reduction.proofs.WordWidths.{IsBinary, IsUnary, ne, and, eq32, eq64, eqz32, eqz64, binary-has}
use Rattle.wasm_reduction.proofs.WideParts.{bits-of-wide, each-get, has-some, part-length, part-all}
use Rattle.wasm_reduction.proofs.MapLemmas.{map-replicate, map-reverse, map-written, map-part, found-image, last-image, testing-image, trapping-image, assuming-image, value-image, word-image, reference-image, copy-image, binary-image, unary-image, indexing-image, addressing-image, filling-image, copying-image, growing-image, numbers-image, lowest-image, locals-image}

pub valued-image : {V W : Type 0} (h : V → W) (wide : Bool) (w : V) → valued wide (h w) ≡ value_image h (valued wide w)
valued-image h false w = refl
valued-image h true w = refl

module _ {V W : Type 0} (Has : ℕ → V → Type 0) (h : V → W) (K : Kind V) (L : Kind W) (g : Gives K Has) (k : KeepsOperations Has K L h) (m : Module) (c : Config V) where
  abbrev C : Config W
  C = config_image h c

  number-value : (vs : List (Value V)) (n : ℕ) → Goes (holding C (I32 (L.number n) ∷ values_image h vs)) ≡ next_image h (Goes (holding c (I32 (K.number n) ∷ vs)))
  number-value vs n = ap (λ x. Goes (holding C (I32 x ∷ values_image h vs))) (sym (k.number n))

  number-wide : (vs : List (Value V)) (n : ℕ) → Goes (holding C (I64 (L.number n) ∷ values_image h vs)) ≡ next_image h (Goes (holding c (I64 (K.number n) ∷ vs)))
  number-wide vs n = ap (λ x. Goes (holding C (I64 x ∷ values_image h vs))) (sym (k.number n))

  word-value : (wide : Bool) (vs : List (Value V)) (w : V) (w' : W) → h w ≡ w' → Goes (holding C (valued wide w' ∷ values_image h vs)) ≡ next_image h (Goes (holding c (valued wide w ∷ vs)))
  word-value wide vs w w' e = ap (λ x. Goes (holding C (valued wide x ∷ values_image h vs))) (sym e) ∙ ap (λ v. Goes (holding C (v ∷ values_image h vs))) (valued-image h wide w)

  get-image : (xs : List (Value V)) (x : ℕ) (go : Value V → Next V) (on : Value W → Next W) → ((v : Value V) → on (value_image h v) ≡ next_image h (go v)) →
      with_found (slice_get (values_image h xs) x) on ≡ next_image h (with_found (slice_get xs x) go)
  get-image [] x go on f = refl
  get-image (v ∷ xs) zero go on f = f v
  get-image (v ∷ xs) (suc x) go on f = get-image xs x go on f

  -- ---- numeric

  zero-image : (width : Width) (b : V) → Has (bits_where (is_wide width)) b → h (is_zero K width b) ≡ is_zero L width (h b)
  zero-image W32 b p = unary-image Has h K L g k 0x45 32 32 eqz32 b p
  zero-image W64 b p = unary-image Has h K L g k 0x50 64 32 eqz64 b p

  both-image : (op bits n o : ℕ) → IsBinary op bits 32 → (a b : V) → Has bits a → Has bits b → n < 2 ^ bits → o < 2 ^ bits →
      h (K.binary 0x71 (K.binary op a (K.number n)) (K.binary op b (K.number o))) ≡ L.binary 0x71 (L.binary op (h a) (L.number n)) (L.binary op (h b) (L.number o))
  both-image op bits n o is a b p q s t =
      binary-image Has h K L g k 0x71 32 32 and _ _ (binary-has Has K g op bits 32 is a (K.number n) p (g.number bits n s)) (binary-has Has K g op bits 32 is b (K.number o) q (g.number bits o t))
      ∙ ap (λ x. L.binary 0x71 x (h (K.binary op b (K.number o)))) (binary-image Has h K L g k op bits 32 is a (K.number n) p (g.number bits n s) ∙ ap (λ x. L.binary op (h a) x) (k.number n))
      ∙ ap (λ x. L.binary 0x71 (L.binary op (h a) (L.number n)) x) (binary-image Has h K L g k op bits 32 is b (K.number o) q (g.number bits o t) ∙ ap (λ x. L.binary op (h b) x) (k.number o))

  overflow-word : (width : Width) (a b : V) → Has (bits_where (is_wide width)) a → Has (bits_where (is_wide width)) b → h (is_overflow K width a b) ≡ is_overflow L width (h a) (h b)
  overflow-word W32 a b p q = both-image 0x46 32 (least 32) (minus_one 32) eq32 a b p q (omega arith) (omega arith)
  overflow-word W64 a b p q = both-image 0x51 64 (least 64) (minus_one 64) eq64 a b p q (omega arith) (omega arith)

  overflow-image : (signed : Bool) (width : Width) (a b : V) (ns : List ℕ) (x : Next V) (x' : Next W) → Has (bits_where (is_wide width)) a → Has (bits_where (is_wide width)) b → x' ≡ next_image h x →
      checking_overflow L signed width (h a) (h b) ns x' ≡ next_image h (checking_overflow K signed width a b ns x)
  overflow-image false width a b ns x x' p q e = e
  overflow-image true width a b ns x x' p q e = trapping-image h _ _ (overflow-word width a b p q) Overflow ns _ _ (λ ns. e)

  checking-image : (divides signed : Bool) (width : Width) (a b : V) (ns : List ℕ) (x : Next V) (x' : Next W) → Has (bits_where (is_wide width)) a → Has (bits_where (is_wide width)) b → x' ≡ next_image h x →
      checking L divides signed width (h a) (h b) ns x' ≡ next_image h (checking K divides signed width a b ns x)
  checking-image false signed width a b ns x x' p q e = e
  checking-image true signed width a b ns x x' p q e = trapping-image h _ _ (zero-image width b q) DivZero ns _ _ (λ ns. overflow-image signed width a b ns x x' p q e)

  operating-image : (vs : List (Value V)) (ns : List ℕ) (op : ℕ) (o : Operator) (operation : Operation) → ValuesHave Has vs → operator_of op ≡ Some o → o.operation ≡ operation →
      operating L C (values_image h vs) ns op o operation ≡ next_image h (operating K c vs ns op o operation)
  operating-image vs ns op o (OfOne operation) p e s =
      let is : IsUnary op (bits_where (is_wide o.operand)) (bits_where (is_wide o.result)) = record {
        unary = ap (λ x. option_map_or (λ o. is_of_one o.operation) x false) e ∙ ap is_of_one s;
        operand_is = ap (λ x. option_map_or (λ o. bits_of o.operand) x 0) e ∙ bits-of-wide o.operand;
        result_is = ap (λ x. option_map_or (λ o. bits_of o.result) x 0) e ∙ bits-of-wide o.result;
      } in
      word-image Has h (is_wide o.operand) vs _ _ p (λ a rest q p. word-value (is_wide o.result) rest (K.unary op a) (L.unary op (h a)) (unary-image Has h K L g k op _ _ is a q))
  operating-image vs ns op o (OfTwo operation) p e s =
      let is : IsBinary op (bits_where (is_wide o.operand)) (bits_where (is_wide o.result)) = record {
        binary = ap (λ x. option_map_or (λ o. is_of_two o.operation) x false) e ∙ ap is_of_two s;
        operand_is = ap (λ x. option_map_or (λ o. bits_of o.operand) x 0) e ∙ bits-of-wide o.operand;
        result_is = ap (λ x. option_map_or (λ o. bits_of o.result) x 0) e ∙ bits-of-wide o.result;
      } in
      word-image Has h (is_wide o.operand) vs _ _ p (λ b rest q p. word-image Has h (is_wide o.operand) rest _ _ p (λ a rest r p.
      checking-image (divides operation) (is_div_s operation) o.operand a b ns _ _ r q
      (word-value (is_wide o.result) rest (K.binary op a b) (L.binary op (h a) (h b)) (binary-image Has h K L g k op _ _ is a b r q))))

  selecting-image : (rest : List (Value V)) (ns : List ℕ) (w : V) (first second : Value V) → Has 32 w → ValueHas Has first → ValueHas Has second →
      selecting L C (values_image h rest) ns (h w) (value_image h first) (value_image h second) ≡ next_image h (selecting K c rest ns w first second)
  selecting-image rest ns w (I32 a) (I32 b) q p r = ap (λ x. Goes (holding C (I32 x ∷ values_image h rest))) (sym (k.choose false w a b (has-some Has false w q) p r))
  selecting-image rest ns w (I64 a) (I64 b) q p r = ap (λ x. Goes (holding C (I64 x ∷ values_image h rest))) (sym (k.choose true w a b (has-some Has false w q) p r))
  selecting-image rest ns w (Ref a) (Ref b) q p r = testing-image h w (h w) refl ns _ _ _ _ (λ ns. refl) (λ ns. refl)
  selecting-image rest ns w (I32 a) (I64 b) q p r = refl
  selecting-image rest ns w (I32 a) (Ref b) q p r = refl
  selecting-image rest ns w (I64 a) (I32 b) q p r = refl
  selecting-image rest ns w (I64 a) (Ref b) q p r = refl
  selecting-image rest ns w (Ref a) (I32 b) q p r = refl
  selecting-image rest ns w (Ref a) (I64 b) q p r = refl

  -- ---- control

  give_back-image : (vs : List (Value V)) (fs : List (Frame V)) → give_back C (values_image h vs) (map (frame_image h) fs) ≡ next_image h (give_back c vs fs)
  give_back-image vs [] = ap (λ l. Ends (Returns l)) (sym (map-reverse (value_image h) vs))
  give_back-image vs (f ∷ fs) = simp map-append

  finish-image : (vs : List (Value V)) (ls : List (Label V)) → finish C (values_image h vs) (map (label_image h) ls) ≡ next_image h (finish c vs ls)
  finish-image vs [] = give_back-image vs c.callers
  finish-image vs (l ∷ ls) = simp map-append

  branch-image : (vs : List (Value V)) (ls : List (Label V)) → branch C (values_image h vs) (map (label_image h) ls) ≡ next_image h (branch c vs ls)
  branch-image vs [] = refl
  branch-image vs (t ∷ []) = last-image h t.arity vs (λ carried rest. give_back c carried c.callers) (λ carried rest. give_back C carried C.callers) (λ carried rest. give_back-image carried c.callers)
  branch-image vs (t ∷ l ∷ ls) = last-image h t.arity vs (λ carried rest. Goes (record c { frame = record (c.frame) { here = given carried (record l { code = t.again ++ l.code }); outer = ls } }))
      (λ carried rest. Goes (record C { frame = record (C.frame) { here = given carried (record (label_image h l) { code = t.again ++ l.code }); outer = map (label_image h) ls } })) (λ carried rest. simp map-append)

  br-image : (vs : List (Value V)) (n : ℕ) → br C (values_image h vs) n ≡ next_image h (br c vs n)
  br-image vs n = ap (λ ls. branch C (values_image h vs) ls) (drop-map (label_image h) n (c.frame.here ∷ c.frame.outer)) ∙ branch-image vs (drop n (c.frame.here ∷ c.frame.outer))

  choosing-image : (index : V) (n : ℕ) (ls : List ℕ) (last : ℕ) (ns : List ℕ) (go : ℕ → Next V) (on : ℕ → Next W) → Has 32 index → n + length ls < 2 ^ 32 → ((l : ℕ) → on l ≡ next_image h (go l)) →
      choosing L (h index) n ls last ns on ≡ next_image h (choosing K index n ls last ns go)
  choosing-image index n [] last ns go on q s f = f last
  choosing-image index n (l ∷ ls) last ns go on q s f =
      testing-image h _ _ (binary-image Has h K L g k 0x47 32 32 ne index (K.number n) q (g.number 32 n (omega (arith, s))) ∙ ap (λ x. L.binary 0x47 (h index) x) (k.number n)) ns _ _ _ _
      (λ ns. f l) (λ ns. choosing-image index (n + 1) ls last ns go on q (omega (arith, s)) f)

  block-image : (vs : List (Value V)) (ty : BlockType) (body : ℕ) → block m C (values_image h vs) ty body ≡ next_image h (block m c vs ty body)
  block-image vs ty body = found-image h (block_type m ty) _ _ (λ t e. last-image h (length t.params) vs
      (λ params rest. entering c params rest (length t.results) [] (seq_of c.frame.seqs body)) (λ params rest. entering C params rest (length t.results) [] (seq_of c.frame.seqs body)) (λ params rest. refl))

  loop-image : (vs : List (Value V)) (ty : BlockType) (body : ℕ) → loop m C (values_image h vs) ty body ≡ next_image h (loop m c vs ty body)
  loop-image vs ty body = found-image h (block_type m ty) _ _ (λ t e. last-image h (length t.params) vs
      (λ params rest. entering c params rest (length t.params) (Loop ty body ∷ []) (seq_of c.frame.seqs body)) (λ params rest. entering C params rest (length t.params) (Loop ty body ∷ []) (seq_of c.frame.seqs body)) (λ params rest. refl))

  host-image : (vs : List (Value V)) (ns : List ℕ) (host : Option Host) → ValuesHave Has vs → calling_host C (values_image h vs) ns host ≡ next_image h (calling_host c vs ns host)
  host-image vs ns None p = refl
  host-image vs ns (Some SymbolI32) p = refl
  host-image vs ns (Some SymbolI64) p = refl
  host-image vs ns (Some Assume) p = word-image Has h false vs _ _ p (λ w rest q p. assuming-image h w ns _ _ _ _ refl refl)
  host-image vs ns (Some Assert) p = word-image Has h false vs _ _ p (λ w rest q p. testing-image h w (h w) refl ns _ _ _ _ (λ ns. refl) (λ ns. refl))

  calling-image : (vs : List (Value V)) (ns : List ℕ) (f : Function) (body : Body) → ValuesHave Has vs → calling L m C (values_image h vs) ns f body ≡ next_image h (calling K m c vs ns f body)
  calling-image vs ns f (Imported host) p = host-image vs ns host p
  calling-image vs ns f (Code code) p = found-image h (type_of m f) _ _ (λ t e. last-image h (length t.params) vs
      (λ args rest. Goes (record c { frame = frame_of K t code (reverse args); callers = (holding c rest).frame ∷ c.callers }))
      (λ args rest. Goes (record C { frame = frame_of L t code (reverse args); callers = (holding C rest).frame ∷ C.callers })) (λ args rest.
      ap (λ locals. Goes (record C { frame = record (frame_of L t code []) { locals = locals }; callers = (holding C (values_image h rest)).frame ∷ C.callers }))
      (ap (λ l. l ++ first_locals L code.locals) (sym (map-reverse (value_image h) args))
      ∙ ap (λ l. map (value_image h) (reverse args) ++ l) (locals-image Has h K L g k code.locals)
      ∙ sym (map-append (value_image h) (reverse args) (first_locals K code.locals)))))

  of_type-image : (vs : List (Value V)) (ns : List ℕ) (f : Function) (b : Bool) → ValuesHave Has vs → calling_of_type L m C (values_image h vs) ns f b ≡ next_image h (calling_of_type K m c vs ns f b)
  of_type-image vs ns f true p = calling-image vs ns f f.body p
  of_type-image vs ns f false p = refl

  called-image : (vs : List (Value V)) (ns : List ℕ) (type : FuncType) (r : Reference) → ValuesHave Has vs → calling_reference L m C (values_image h vs) ns type r ≡ next_image h (calling_reference K m c vs ns type r)
  called-image vs ns type ExternRef p = refl
  called-image vs ns type (FuncRef None) p = refl
  called-image vs ns type (FuncRef (Some x)) p = found-image h (slice_get (functions m) x) _ _ (λ f e. found-image h (type_of m f) _ _ (λ t e. of_type-image vs ns f (same_function_type t type) p))

  -- ---- memory

  accessed-image : (access : Access) (bytes : List V) → IsRow access → length bytes ≡ access.bytes → All (Has 8) bytes → h (accessed K access bytes) ≡ accessed L access (map h bytes)
  accessed-image access bytes row n p = at access.extend row.extends
    where
      can : CanJoin access.wide (length bytes)
      can = subst (λ n. CanJoin access.wide n) (sym n) row.count

      at : (e : Option ℕ) → KeepsWidth (bits_where access.wide) e → h (extended K e (K.join access.wide bytes)) ≡ extended L e (L.join access.wide (map h bytes))
      at None w = k.join access.wide bytes can p
      at (Some op) w =
          k.unary op (K.join access.wide bytes) w.0 (subst (λ n. Has n (K.join access.wide bytes)) (sym w.1) (g.join access.wide bytes can p))
          ∙ ap (λ x. L.unary op x) (k.join access.wide bytes can p)

  writing-image : (rest : List (Value V)) (place : ℕ) (xs : List V) (xs' : List W) → xs' ≡ map h xs →
      Goes (with_memory (holding C (values_image h rest)) (written place xs' (map h c.store.memory))) ≡ next_image h (Goes (with_memory (holding c rest) (written place xs c.store.memory)))
  writing-image rest place xs xs' e =
      ap (λ memory. Goes (with_memory (holding C (values_image h rest)) memory)) (ap (λ xs. written place xs (map h c.store.memory)) e ∙ map-written h place xs c.store.memory)

  -- ---- each instruction

  pub act-image : (vs : List (Value V)) (ns : List ℕ) (i : Instr) → ValuesHave Has vs → All (Has 8) c.store.memory → length c.store.memory < 2 ^ 64 →
      AllByRecursion (λ t. length t < 2 ^ 32) c.store.tables → AllByRecursion (λ t. length t < 2 ^ 64) c.store.elems → AllByRecursion (λ t. length t < 2 ^ 64) c.store.datas → InRange i →
      act L m C (values_image h vs) ns i ≡ next_image h (act K m c vs ns i)
  act-image vs ns Unreachable p me ms ts es ds r = refl
  act-image vs ns Nop p me ms ts es ds r = refl
  act-image vs ns (Block ty body) p me ms ts es ds r = block-image vs ty body
  act-image vs ns (Loop ty body) p me ms ts es ds r = loop-image vs ty body
  act-image vs ns (If ty first other) p me ms ts es ds r = word-image Has h false vs _ _ p (λ w rest q p.
      testing-image h w (h w) refl ns _ _ _ _ (λ ns. block-image rest ty other) (λ ns. block-image rest ty first))
  act-image vs ns (Br l) p me ms ts es ds r = br-image vs l
  act-image vs ns (BrIf l) p me ms ts es ds r = word-image Has h false vs _ _ p (λ w rest q p.
      testing-image h w (h w) refl ns _ _ _ _ (λ ns. refl) (λ ns. br-image rest l))
  act-image vs ns (BrTable labels last) p me ms ts es ds r = word-image Has h false vs _ _ p (λ index rest q p.
      choosing-image index 0 labels last ns _ _ q (omega (arith, r)) (λ l. br-image rest l))
  act-image vs ns Return p me ms ts es ds r = last-image h c.frame.arity vs (λ results rest. give_back c results c.callers) (λ results rest. give_back C results C.callers) (λ results rest. give_back-image results c.callers)
  act-image vs ns (Call x) p me ms ts es ds r = found-image h (slice_get (functions m) x) _ _ (λ f e. calling-image vs ns f f.body p)
  act-image vs ns (CallIndirect ty x) p me ms ts es ds r = found-image h (slice_get m.types ty) _ _ (λ type e. found-image h (slice_get c.store.tables x) _ _ (λ elements e.
      word-image Has h false vs _ _ p (λ index rest q p. indexing-image Has h K L g k Undefined index elements ns _ _ q (each-get _ c.store.tables x elements ts e) (λ i reference ns. called-image rest ns type reference p))))
  act-image vs ns (RefNull kind) p me ms ts es ds r = found-image h (null_of kind) _ _ (λ x e. refl)
  act-image vs ns RefIsNull p me ms ts es ds r = reference-image Has h vs _ _ p (λ x rest p. number-value rest (truth (is_null x)))
  act-image vs ns (RefFunc x) p me ms ts es ds r = refl
  act-image vs ns Discard p me ms ts es ds r = value-image Has h vs _ _ p (λ v rest q p. refl)
  act-image vs ns Select p me ms ts es ds r = word-image Has h false vs _ _ p (λ w rest q p. value-image Has h rest _ _ p (λ second rest b p. value-image Has h rest _ _ p (λ first rest a p.
      selecting-image rest ns w first second q a b)))
  act-image vs ns (SelectTyped kinds) p me ms ts es ds r = word-image Has h false vs _ _ p (λ w rest q p. value-image Has h rest _ _ p (λ second rest b p. value-image Has h rest _ _ p (λ first rest a p.
      selecting-image rest ns w first second q a b)))
  act-image vs ns (LocalGet x) p me ms ts es ds r = get-image c.frame.locals x _ _ (λ v. refl)
  act-image vs ns (LocalSet x) p me ms ts es ds r = get-image c.frame.locals x _ _ (λ old. value-image Has h vs _ _ p (λ v rest q p.
      ap (λ l. Goes (with_locals (holding C (values_image h rest)) l)) (sym (map-set (value_image h) c.frame.locals x v))))
  act-image vs ns (LocalTee x) p me ms ts es ds r = get-image c.frame.locals x _ _ (λ old. value-image Has h vs _ _ p (λ v rest q p.
      ap (λ l. Goes (with_locals (holding C (value_image h v ∷ values_image h rest)) l)) (sym (map-set (value_image h) c.frame.locals x v))))
  act-image vs ns (GlobalGet x) p me ms ts es ds r = get-image c.store.globals x _ _ (λ v. refl)
  act-image vs ns (GlobalSet x) p me ms ts es ds r = get-image c.store.globals x _ _ (λ old. value-image Has h vs _ _ p (λ v rest q p.
      ap (λ l. Goes (with_globals (holding C (values_image h rest)) l)) (sym (map-set (value_image h) c.store.globals x v))))
  act-image vs ns (TableGet x) p me ms ts es ds r = found-image h (slice_get c.store.tables x) _ _ (λ elements e. word-image Has h false vs _ _ p (λ index rest q p.
      indexing-image Has h K L g k Table index elements ns _ _ q (each-get _ c.store.tables x elements ts e) (λ i reference ns. refl)))
  act-image vs ns (TableSet x) p me ms ts es ds r = found-image h (slice_get c.store.tables x) _ _ (λ elements e. reference-image Has h vs _ _ p (λ reference rest p. word-image Has h false rest _ _ p (λ index rest q p.
      indexing-image Has h K L g k Table index elements ns _ _ q (each-get _ c.store.tables x elements ts e) (λ i old ns. refl))))
  act-image vs ns (TableInit y x) p me ms ts es ds r = found-image h (slice_get c.store.tables x) _ _ (λ target e. found-image h (slice_get c.store.elems y) _ _ (λ source f. copy-image Has h vs _ _ p (λ to from count rest a b d.
      copying-image Has h K L g k Table to from count (length target) (length source) ns _ _ a b d
      (let small : length target < 2 ^ 32 = each-get _ c.store.tables x target ts e in omega (arith, small)) (each-get _ c.store.elems y source es f) (λ t f n. refl))))
  act-image vs ns (ElemDrop y) p me ms ts es ds r = found-image h (slice_get c.store.elems y) _ _ (λ old e. refl)
  act-image vs ns (TableCopy x y) p me ms ts es ds r = found-image h (slice_get c.store.tables x) _ _ (λ target e. found-image h (slice_get c.store.tables y) _ _ (λ source f. copy-image Has h vs _ _ p (λ to from count rest a b d.
      copying-image Has h K L g k Table to from count (length target) (length source) ns _ _ a b d
      (let small : length target < 2 ^ 32 = each-get _ c.store.tables x target ts e in omega (arith, small))
      (let small : length source < 2 ^ 32 = each-get _ c.store.tables y source ts f in omega (arith, small)) (λ t f n. refl))))
  act-image vs ns (TableGrow x) p me ms ts es ds r = found-image h (slice_get c.store.tables x) _ _ (λ elements e. found-image h (slice_get m.tables x) _ _ (λ type f.
      word-image Has h false vs _ _ p (λ count rest q p. reference-image Has h rest _ _ p (λ reference rest p. growing-image Has h K L g k c rest count (length elements) _ ns _ _ (λ n. refl)))))
  act-image vs ns (TableSize x) p me ms ts es ds r = found-image h (slice_get c.store.tables x) _ _ (λ elements e. number-value vs (length elements))
  act-image vs ns (TableFill x) p me ms ts es ds r = found-image h (slice_get c.store.tables x) _ _ (λ elements e. word-image Has h false vs _ _ p (λ count rest d p. reference-image Has h rest _ _ p (λ reference rest p. word-image Has h false rest _ _ p (λ to rest a p.
      filling-image Has h K L g k Table to count (length elements) ns _ _ a d (let small : length elements < 2 ^ 32 = each-get _ c.store.tables x elements ts e in omega (arith, small)) (λ t n. refl)))))
  act-image vs ns (Load op align offset) p me ms ts es ds r = rw (length-map c.store.memory h) (found-image h (load_of op) _ _ (λ access e. word-image Has h false vs _ _ p (λ address rest q p.
      let row : IsRow access = load_row op access (sym e) in
      let few : access.bytes ≤ 8 = count_small access.wide access.bytes row.count in
      addressing-image Has h K L g k Memory address (offset + access.bytes) (length c.store.memory) ns _ _ q (omega (arith, few, r)) ms (λ at l.
      ap (λ bytes. Goes (holding C (valued access.wide (accessed L access bytes) ∷ values_image h rest))) (map-part h (at + offset) access.bytes c.store.memory)
      ∙ word-value access.wide rest (accessed K access (part (at + offset) access.bytes c.store.memory)) (accessed L access (map h (part (at + offset) access.bytes c.store.memory)))
      (accessed-image access (part (at + offset) access.bytes c.store.memory) row (part-length (at + offset) access.bytes c.store.memory (omega (arith, l))) (part-all (Has 8) (at + offset) access.bytes c.store.memory me))))))
  act-image vs ns (StoreInstr op align offset) p me ms ts es ds r = rw (length-map c.store.memory h) (found-image h (store_of op) _ _ (λ access e. word-image Has h access.wide vs _ _ p (λ w rest b p. word-image Has h false rest _ _ p (λ address rest q p.
      let row : IsRow access = store_row op access (sym e) in
      let few : access.bytes ≤ 8 = count_small access.wide access.bytes row.count in
      addressing-image Has h K L g k Memory address (offset + access.bytes) (length c.store.memory) ns _ _ q (omega (arith, few, r)) ms (λ at l.
      writing-image rest (at + offset) (lowest_bytes K access.bytes w) (lowest_bytes L access.bytes (h w)) (lowest-image Has h K L g k access.bytes w few (has-some Has access.wide w b)))))))
  act-image vs ns MemorySize p me ms ts es ds r = rw (length-map c.store.memory h) (number-value vs (length c.store.memory / page_bytes))
  act-image vs ns MemoryGrow p me ms ts es ds r = rw (length-map c.store.memory h) (found-image h (slice_get m.memories 0) _ _ (λ limits e. word-image Has h false vs _ _ p (λ count rest q p.
      growing-image Has h K L g k c rest count (length c.store.memory / page_bytes) _ ns _ _ (λ n.
      ap (λ memory. with_memory C memory)
      (ap (λ x. map h c.store.memory ++ replicate (n * page_bytes) x) (sym (k.number 0))
      ∙ ap (λ l. map h c.store.memory ++ l) (sym (map-replicate h (n * page_bytes) (K.number 0)))
      ∙ sym (map-append h c.store.memory (replicate (n * page_bytes) (K.number 0))))))))
  act-image vs ns (MemoryInit x) p me ms ts es ds r = rw (length-map c.store.memory h) (found-image h (slice_get c.store.datas x) _ _ (λ source e. copy-image Has h vs _ _ p (λ to from count rest a b d.
      copying-image Has h K L g k Memory to from count (length c.store.memory) (length source) ns _ _ a b d ms (each-get _ c.store.datas x source ds e) (λ t f n.
      writing-image rest t (map K.number (part f n source)) (map L.number (part f n source)) (numbers-image Has h K L g k (part f n source))))))
  act-image vs ns (DataDrop x) p me ms ts es ds r = found-image h (slice_get c.store.datas x) _ _ (λ old e. refl)
  act-image vs ns MemoryCopy p me ms ts es ds r = rw (length-map c.store.memory h) (copy-image Has h vs _ _ p (λ to from count rest a b d.
      copying-image Has h K L g k Memory to from count (length c.store.memory) (length c.store.memory) ns _ _ a b d ms ms (λ t f n.
      writing-image rest t (part f n c.store.memory) (part f n (map h c.store.memory)) (map-part h f n c.store.memory))))
  act-image vs ns MemoryFill p me ms ts es ds r = rw (length-map c.store.memory h) (word-image Has h false vs _ _ p (λ count rest d p. word-image Has h false rest _ _ p (λ w rest b p. word-image Has h false rest _ _ p (λ to rest a p.
      filling-image Has h K L g k Memory to count (length c.store.memory) ns _ _ a d ms (λ t n.
      writing-image rest t (replicate n (K.byte w 0)) (replicate n (L.byte (h w) 0))
      (ap (λ x. replicate n x) (sym (k.byte w 0 (omega arith) (has-some Has false w b))) ∙ sym (map-replicate h n (K.byte w 0))))))))
  act-image vs ns (Const32 n) p me ms ts es ds r = number-value vs n
  act-image vs ns (Const64 n) p me ms ts es ds r = number-wide vs n
  act-image vs ns (Num op) p me ms ts es ds r = found-image h (operator_of op) _ _ (λ o e. operating-image vs ns op o o.operation p e refl)

cost-image : {V W : Type 0} (h : V → W) (fs : List (Frame V)) → cost_under (map (frame_image h) fs) ≡ cost_under fs
cost-image h [] = refl
cost-image h (f ∷ fs) = refl

past-image : {V W : Type 0} (h : V → W) (c : Config V) (is : List Instr) → past (config_image h c) is ≡ config_image h (past c is)
past-image h c is = ap (λ n. record (config_image h (past c is)) { units = c.units + n }) (cost-image h c.callers)

-- a step of the image is the image of the step
pub step-image : {V W : Type 0} (Has : ℕ → V → Type 0) (h : V → W) (K : Kind V) (L : Kind W) → Gives K Has → KeepsOperations Has K L h → (m : Module) (c : Config V) → IsWide Has c →
    step L m (config_image h c) ≡ next_image h (step K m c)
step-image Has h K L g k m c wide = at c.frame.here.code wide.code
  where
    at : (code : List Instr) → NextInRange code → step_code L m (config_image h c) code ≡ next_image h (step_code K m c code)
    at [] r = finish-image Has h K L g k m c c.frame.here.vals c.frame.outer
    at (i ∷ is) r = ap (λ d. act L m d (values_image h c.frame.here.vals) c.answers i) (past-image h c is) ∙ act-image Has h K L g k m (past c is) c.frame.here.vals c.answers i wide.vals wide.memory wide.memory_small wide.tables_small wide.elems_small wide.datas_small r
