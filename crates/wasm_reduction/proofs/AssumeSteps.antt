-- Where an assumption is asked, and where a run ends by one.
use Rattle.std.proofs.Common.{◌≡◌, ℕ, zero, suc, ◌+◌, List, [], ◌∷◌, ◌++◌, take, drop, length, reverse, refl, sym, ap, ◌∙◌, subst}
use Rattle.std.specs.Prelude.{Bool, true, false, nat_lt, nat_le, if◌then◌else◌, Option, Some, None, slice_get}
use Rattle.wasm_ast.specs.declared.types.FuncType.{FuncType}
use Rattle.wasm_ast.specs.declared.types.BlockType.{BlockType}
use Rattle.wasm_ast.specs.declared.instructions.Instr.{Instr}
use Rattle.wasm_ast.specs.declared.instructions.Instr.TheVariants.{Unreachable, Nop, Block, Loop, If, Br, BrIf, BrTable, Return, Call, CallIndirect, RefNull, RefIsNull, RefFunc, Discard, Select, SelectTyped, LocalGet, LocalSet, LocalTee, GlobalGet, GlobalSet, TableGet, TableSet, TableInit, ElemDrop, TableCopy, TableGrow, TableSize, TableFill, Load, Store as StoreInstr, MemorySize, MemoryGrow, MemoryInit, DataDrop, MemoryCopy, MemoryFill, Const32, Const64, Num}
use Rattle.wasm_ast.specs.declared.runs.Cause.{Cause}
use Rattle.wasm_ast.specs.declared.runs.Cause.TheVariants.{DivZero, Overflow, Memory, Table, Undefined}
use Rattle.wasm_ast.specs.declared.modules.Func.{Func}
use Rattle.wasm_ast.specs.declared.modules.Module.{Module}
use Rattle.int_ops.specs.declared.operators.Width.{Width}
use Rattle.int_ops.specs.declared.operators.Operation.{Operation}
use Rattle.int_ops.specs.declared.operators.Operation.TheVariants.{OfOne, OfTwo}
use Rattle.int_ops.specs.declared.operators.Operator.{Operator}
use Rattle.int_ops.specs.Operators.{operator_of, divides, is_div_s}
use Rattle.wasm_rules.specs.Words.{Kind}
use Rattle.wasm_rules.specs.Accesses.{load_of, store_of}
use Rattle.wasm_reduction.specs.Configurations.{Reference, FuncRef, ExternRef, Value, I32, I64, Ref, Label, Frame, Config, Question, Test, Pick, Assume as AssumeAsked, End, Returns, Traps, Fails, Assumes, Stuck, Next, Goes, Draws, Asks, Ends}
use Rattle.wasm_check.specs.Trees.{seq_of}
use Rattle.wasm_image.specs.declared.hosts.Host.{Host}
use Rattle.wasm_image.specs.declared.hosts.Host.TheVariants.{SymbolI32, SymbolI64, Assume, Assert}
use Rattle.wasm_reduction.specs.Functions.{Body, Code, Imported, Function, functions, type_of, same_function_type, block_type}
use Rattle.wasm_reduction.specs.Combinators.{word_of, reference_of, past, holding, with_found, with_value, with_word, with_reference, with_last, testing, trapping_if, picking, assuming, within}
use Rattle.wasm_reduction.specs.Ranges.{with_element, indexing, addressing, filling, copying, with_copy, grown, growing}
use Rattle.wasm_reduction.specs.Numeric.{checking, checking_overflow, operating}
use Rattle.wasm_reduction.specs.Parametric.{selecting}
use Rattle.wasm_reduction.specs.Control.{given, give_back, finish, entering, frame_of, block, loop, branch, br, choosing, calling_host, calling, calling_of_type, calling_reference}
use Rattle.wasm_reduction.specs.Tables.{null_of}
use Rattle.wasm_reduction.specs.Steps.{act, step, step_code, answered}

-- no assumption is asked, and the thread doesn't end by one
abbrev pub Quiet : {W : Type 0} → Next W → Type 0
Quiet (Goes c) = Unit {0}
Quiet (Draws wide c) = Unit {0}
Quiet (Asks Test w) = Unit {0}
Quiet (Asks Pick w) = Unit {0}
Quiet (Asks AssumeAsked w) = ⊥
Quiet (Ends (Returns vs)) = Unit {0}
Quiet (Ends (Traps cause)) = Unit {0}
Quiet (Ends Fails) = Unit {0}
Quiet (Ends Assumes) = ⊥
Quiet (Ends Stuck) = Unit {0}

module _ {W : Type 0} where
  found-quiet : {A : Type 0} (o : Option A) (go : A → Next W) → ((x : A) → Quiet (go x)) → Quiet (with_found o go)
  found-quiet None go h = tt
  found-quiet (Some x) go h = h x

  value-quiet : (vs : List (Value W)) (go : Value W → List (Value W) → Next W) → ((v : Value W) (rest : List (Value W)) → Quiet (go v rest)) → Quiet (with_value vs go)
  value-quiet [] go h = tt
  value-quiet (v ∷ vs) go h = h v vs

  word-quiet : (wide : Bool) (vs : List (Value W)) (go : W → List (Value W) → Next W) → ((w : W) (rest : List (Value W)) → Quiet (go w rest)) → Quiet (with_word wide vs go)
  word-quiet wide vs go h = value-quiet vs _ (λ v rest. found-quiet (word_of wide v) _ (λ w. h w rest))

  reference-quiet : (vs : List (Value W)) (go : Reference → List (Value W) → Next W) → ((r : Reference) (rest : List (Value W)) → Quiet (go r rest)) → Quiet (with_reference vs go)
  reference-quiet vs go h = value-quiet vs _ (λ v rest. found-quiet (reference_of v) _ (λ r. h r rest))

  choice-quiet : (b : Bool) (x y : Next W) → Quiet x → Quiet y → Quiet (if b then x else y)
  choice-quiet true x y h k = h
  choice-quiet false x y h k = k

  last-quiet : (n : ℕ) (vs : List (Value W)) (go : List (Value W) → List (Value W) → Next W) → ((given rest : List (Value W)) → Quiet (go given rest)) → Quiet (with_last n vs go)
  last-quiet n vs go h = choice-quiet (nat_lt (length vs) n) _ _ tt (h (take n vs) (drop n vs))

  testing-quiet : (w : W) (ns : List ℕ) (z o : List ℕ → Next W) → ((ns : List ℕ) → Quiet (z ns)) → ((ns : List ℕ) → Quiet (o ns)) → Quiet (testing w ns z o)
  testing-quiet w [] z o h k = tt
  testing-quiet w (zero ∷ ns) z o h k = h ns
  testing-quiet w (suc n ∷ ns) z o h k = k ns

  trapping-quiet : (w : W) (cause : Cause) (ns : List ℕ) (go : List ℕ → Next W) → ((ns : List ℕ) → Quiet (go ns)) → Quiet (trapping_if w cause ns go)
  trapping-quiet w cause ns go h = testing-quiet w ns go _ h (λ ns. tt)

  picking-quiet : (w : W) (ns : List ℕ) (go : ℕ → List ℕ → Next W) → ((n : ℕ) (ns : List ℕ) → Quiet (go n ns)) → Quiet (picking w ns go)
  picking-quiet w [] go h = tt
  picking-quiet w (n ∷ ns) go h = h n ns

  within-quiet : (end size : ℕ) (cause : Cause) (x : Next W) → Quiet x → Quiet (within end size cause x)
  within-quiet end size cause x h = choice-quiet (nat_lt size end) _ _ tt h

  element-quiet : {A : Type 0} (cause : Cause) (o : Option A) (go : A → Next W) → ((x : A) → Quiet (go x)) → Quiet (with_element cause o go)
  element-quiet cause None go h = tt
  element-quiet cause (Some x) go h = h x

  copy-quiet : (vs : List (Value W)) (go : W → W → W → List (Value W) → Next W) → ((to from count : W) (rest : List (Value W)) → Quiet (go to from count rest)) → Quiet (with_copy vs go)
  copy-quiet vs go h = word-quiet false vs _ (λ count rest. word-quiet false rest _ (λ from rest. word-quiet false rest _ (λ to rest. h to from count rest)))

  module _ (K : Kind W) (m : Module) (c : Config W) where
    indexing-quiet : {A : Type 0} (cause : Cause) (index : W) (elements : List A) (ns : List ℕ) (go : ℕ → A → List ℕ → Next W) →
        ((i : ℕ) (x : A) (ns : List ℕ) → Quiet (go i x ns)) → Quiet (indexing K cause index elements ns go)
    indexing-quiet cause index elements ns go h =
        trapping-quiet _ cause ns _ (λ ns. picking-quiet index ns _ (λ i ns. element-quiet cause (slice_get elements i) _ (λ x. h i x ns)))

    addressing-quiet : (cause : Cause) (address : W) (extent size : ℕ) (ns : List ℕ) (go : ℕ → Next W) → ((at : ℕ) → Quiet (go at)) → Quiet (addressing K cause address extent size ns go)
    addressing-quiet cause address extent size ns go h =
        trapping-quiet _ cause ns _ (λ ns. picking-quiet address ns _ (λ at ns. within-quiet (at + extent) size cause _ (h at)))

    filling-quiet : (cause : Cause) (to count : W) (size : ℕ) (ns : List ℕ) (go : ℕ → ℕ → Next W) → ((t n : ℕ) → Quiet (go t n)) → Quiet (filling K cause to count size ns go)
    filling-quiet cause to count size ns go h =
        trapping-quiet _ cause ns _ (λ ns. picking-quiet to ns _ (λ t ns. picking-quiet count ns _ (λ n ns. within-quiet (t + n) size cause _ (h t n))))

    copying-quiet : (cause : Cause) (to from count : W) (target source : ℕ) (ns : List ℕ) (go : ℕ → ℕ → ℕ → Next W) → ((t f n : ℕ) → Quiet (go t f n)) →
        Quiet (copying K cause to from count target source ns go)
    copying-quiet cause to from count target source ns go h =
        trapping-quiet _ cause ns _ (λ ns. picking-quiet to ns _ (λ t ns. picking-quiet from ns _ (λ f ns. picking-quiet count ns _ (λ n ns.
        within-quiet (f + n) source cause _ (within-quiet (t + n) target cause _ (h t f n))))))

    grown-quiet : (rest : List (Value W)) (size n : ℕ) (fits : Bool) (go : ℕ → Config W) → Quiet (grown K c rest size n fits go)
    grown-quiet rest size n true go = tt
    grown-quiet rest size n false go = tt

    growing-quiet : (rest : List (Value W)) (count : W) (size most : ℕ) (ns : List ℕ) (go : ℕ → Config W) → Quiet (growing K c rest count size most ns go)
    growing-quiet rest count size most ns go = picking-quiet count ns _ (λ n ns. grown-quiet rest size n (nat_le (size + n) most) go)

    overflow-quiet : (signed : Bool) (width : Width) (x y : W) (ns : List ℕ) (next : Next W) → Quiet next → Quiet (checking_overflow K signed width x y ns next)
    overflow-quiet false width x y ns next h = h
    overflow-quiet true width x y ns next h = trapping-quiet _ Overflow ns _ (λ ns. h)

    checking-quiet : (divides signed : Bool) (width : Width) (x y : W) (ns : List ℕ) (next : Next W) → Quiet next → Quiet (checking K divides signed width x y ns next)
    checking-quiet false signed width x y ns next h = h
    checking-quiet true signed width x y ns next h = trapping-quiet _ DivZero ns _ (λ ns. overflow-quiet signed width x y ns next h)

    operating-quiet : (vs : List (Value W)) (ns : List ℕ) (op : ℕ) (o : Operator) (operation : Operation) → Quiet (operating K c vs ns op o operation)
    operating-quiet vs ns op o (OfOne operation) = word-quiet _ vs _ (λ x rest. tt)
    operating-quiet vs ns op o (OfTwo operation) =
        word-quiet _ vs _ (λ y rest. word-quiet _ rest _ (λ x rest. checking-quiet (divides operation) (is_div_s operation) o.operand x y ns _ tt))

    selecting-quiet : (rest : List (Value W)) (ns : List ℕ) (w : W) (first second : Value W) → Quiet (selecting K c rest ns w first second)
    selecting-quiet rest ns w (I32 x) (I32 y) = tt
    selecting-quiet rest ns w (I64 x) (I64 y) = tt
    selecting-quiet rest ns w (Ref r) (Ref s) = testing-quiet w ns _ _ (λ ns. tt) (λ ns. tt)
    selecting-quiet rest ns w _ _ = tt

    give_back-quiet : (vs : List (Value W)) (fs : List (Frame W)) → Quiet (give_back c vs fs)
    give_back-quiet vs [] = tt
    give_back-quiet vs (f ∷ fs) = tt

    finish-quiet : (vs : List (Value W)) (ls : List (Label W)) → Quiet (finish c vs ls)
    finish-quiet vs [] = give_back-quiet vs c.callers
    finish-quiet vs (l ∷ ls) = tt

    branch-quiet : (vs : List (Value W)) (ls : List (Label W)) → Quiet (branch c vs ls)
    branch-quiet vs [] = tt
    branch-quiet vs (t ∷ []) = last-quiet t.arity vs _ (λ carried rest. give_back-quiet carried c.callers)
    branch-quiet vs (t ∷ l ∷ ls) = last-quiet t.arity vs (λ carried rest. Goes (record c { frame = record (c.frame) { here = given carried (record l { code = t.again ++ l.code }); outer = ls } })) (λ carried rest. tt)

    br-quiet : (vs : List (Value W)) (k : ℕ) → Quiet (br c vs k)
    br-quiet vs k = branch-quiet vs (drop k (c.frame.here ∷ c.frame.outer))

    choosing-quiet : (index : W) (k : ℕ) (ls : List ℕ) (last : ℕ) (ns : List ℕ) (go : ℕ → Next W) → ((l : ℕ) → Quiet (go l)) → Quiet (choosing K index k ls last ns go)
    choosing-quiet index k [] last ns go h = h last
    choosing-quiet index k (x ∷ ls) last ns go h = testing-quiet _ ns _ _ (λ ns. h x) (λ ns. choosing-quiet index (k + 1) ls last ns go h)

    block-quiet : (vs : List (Value W)) (ty : BlockType) (body : ℕ) → Quiet (block m c vs ty body)
    block-quiet vs ty body = found-quiet (block_type m ty) _ (λ t. last-quiet (length t.params) vs (λ params rest. entering c params rest (length t.results) [] (seq_of c.frame.seqs body)) (λ params rest. tt))

    loop-quiet : (vs : List (Value W)) (ty : BlockType) (body : ℕ) → Quiet (loop m c vs ty body)
    loop-quiet vs ty body = found-quiet (block_type m ty) _ (λ t. last-quiet (length t.params) vs (λ params rest. entering c params rest (length t.params) (Loop ty body ∷ []) (seq_of c.frame.seqs body)) (λ params rest. tt))

-- ---- what comes of answers

-- Of an instruction as a function of its answers: it doesn't end by an assumption that wasn't asked; where it ends by one after
-- its last answer, that was 0 and was asked to be assumed; and where that is so, it ends by it.
pub record Assumed {W : Type 0} (f : List ℕ → Next W) : Type 0 where
  pub first : f [] ≡ Ends Assumes → ⊥
  pub last : (ns : List ℕ) (a : ℕ) (q : Question) (w : W) → f ns ≡ Asks q w → f (ns ++ a ∷ []) ≡ Ends Assumes → (q ≡ AssumeAsked) × (a ≡ 0)
  pub ends : (ns : List ℕ) (w : W) → f ns ≡ Asks AssumeAsked w → f (ns ++ 0 ∷ []) ≡ Ends Assumes

module _ {W : Type 0} where
  no-end : (x : Next W) → Quiet x → x ≡ Ends Assumes → ⊥
  no-end x h e = subst Quiet e h

  no-question : (x : Next W) (w : W) → Quiet x → x ≡ Asks AssumeAsked w → ⊥
  no-question x w h e = subst Quiet e h

  quiet : (f : List ℕ → Next W) → ((ns : List ℕ) → Quiet (f ns)) → Assumed f
  quiet f h = record {
    first = no-end (f []) (h []);
    last = λ ns a q w e g. absurd (no-end (f (ns ++ a ∷ [])) (h (ns ++ a ∷ [])) g);
    ends = λ ns w e. absurd (no-question (f ns) w (h ns) e);
  }

  found-assumed : {A : Type 0} (o : Option A) (go : A → List ℕ → Next W) → ((x : A) → Assumed (go x)) → Assumed (λ ns. with_found o (λ x. go x ns))
  found-assumed None go h = quiet (λ ns. Ends Stuck) (λ ns. tt)
  found-assumed (Some x) go h = h x

  value-assumed : (vs : List (Value W)) (go : Value W → List (Value W) → List ℕ → Next W) → ((v : Value W) (rest : List (Value W)) → Assumed (go v rest)) →
      Assumed (λ ns. with_value vs (λ v rest. go v rest ns))
  value-assumed [] go h = quiet (λ ns. Ends Stuck) (λ ns. tt)
  value-assumed (v ∷ vs) go h = h v vs

  word-assumed : (wide : Bool) (vs : List (Value W)) (go : W → List (Value W) → List ℕ → Next W) → ((w : W) (rest : List (Value W)) → Assumed (go w rest)) →
      Assumed (λ ns. with_word wide vs (λ w rest. go w rest ns))
  word-assumed wide vs go h =
      value-assumed vs (λ v rest ns. with_found (word_of wide v) (λ w. go w rest ns)) (λ v rest. found-assumed (word_of wide v) (λ w ns. go w rest ns) (λ w. h w rest))

  testing-assumed : (w : W) (z o : List ℕ → Next W) → Assumed z → Assumed o → Assumed (λ ns. testing w ns z o)
  testing-assumed w z o p q = record { first = λ e. cc; last = last; ends = ends }
    where
      last : (ns : List ℕ) (a : ℕ) (k : Question) (v : W) → testing w ns z o ≡ Asks k v → testing w (ns ++ a ∷ []) z o ≡ Ends Assumes → (k ≡ AssumeAsked) × (a ≡ 0)
      last [] zero k v e f = absurd (p.first f)
      last [] (suc a) k v e f = absurd (q.first f)
      last (zero ∷ ns) a k v e f = p.last ns a k v e f
      last (suc n ∷ ns) a k v e f = q.last ns a k v e f

      ends : (ns : List ℕ) (v : W) → testing w ns z o ≡ Asks AssumeAsked v → testing w (ns ++ 0 ∷ []) z o ≡ Ends Assumes
      ends [] v e = absurd cc
      ends (zero ∷ ns) v e = p.ends ns v e
      ends (suc n ∷ ns) v e = q.ends ns v e

  picking-assumed : (w : W) (go : ℕ → List ℕ → Next W) → ((n : ℕ) → Assumed (go n)) → Assumed (λ ns. picking w ns go)
  picking-assumed w go p = record { first = λ e. cc; last = last; ends = ends }
    where
      last : (ns : List ℕ) (a : ℕ) (k : Question) (v : W) → picking w ns go ≡ Asks k v → picking w (ns ++ a ∷ []) go ≡ Ends Assumes → (k ≡ AssumeAsked) × (a ≡ 0)
      last [] a k v e f = absurd ((p a).first f)
      last (n ∷ ns) a k v e f = (p n).last ns a k v e f

      ends : (ns : List ℕ) (v : W) → picking w ns go ≡ Asks AssumeAsked v → picking w (ns ++ 0 ∷ []) go ≡ Ends Assumes
      ends [] v e = absurd cc
      ends (n ∷ ns) v e = (p n).ends ns v e

  assuming-assumed : (w : W) (d : Config W) → Assumed (λ ns. assuming w ns (Ends Assumes) (Goes d))
  assuming-assumed w d = record { first = λ e. cc; last = last; ends = ends }
    where
      last : (ns : List ℕ) (a : ℕ) (k : Question) (v : W) → assuming w ns (Ends Assumes) (Goes d) ≡ Asks k v → assuming w (ns ++ a ∷ []) (Ends Assumes) (Goes d) ≡ Ends Assumes → (k ≡ AssumeAsked) × (a ≡ 0)
      last [] zero k v e f = (cc, refl)
      last [] (suc a) k v e f = absurd cc
      last (zero ∷ ns) a k v e f = absurd cc
      last (suc n ∷ ns) a k v e f = absurd cc

      ends : (ns : List ℕ) (v : W) → assuming w ns (Ends Assumes) (Goes d) ≡ Asks AssumeAsked v → assuming w (ns ++ 0 ∷ []) (Ends Assumes) (Goes d) ≡ Ends Assumes
      ends [] v e = refl
      ends (zero ∷ ns) v e = absurd cc
      ends (suc n ∷ ns) v e = absurd cc

  host-assumed : (c : Config W) (vs : List (Value W)) (host : Option Host) → Assumed (λ ns. calling_host c vs ns host)
  host-assumed c vs None = quiet (λ ns. calling_host c vs ns None) (λ ns. tt)
  host-assumed c vs (Some SymbolI32) = quiet (λ ns. calling_host c vs ns (Some SymbolI32)) (λ ns. tt)
  host-assumed c vs (Some SymbolI64) = quiet (λ ns. calling_host c vs ns (Some SymbolI64)) (λ ns. tt)
  host-assumed c vs (Some Assume) = word-assumed false vs (λ w rest ns. assuming w ns (Ends Assumes) (Goes (holding c rest))) (λ w rest. assuming-assumed w (holding c rest))
  host-assumed c vs (Some Assert) = quiet (λ ns. calling_host c vs ns (Some Assert)) (λ ns. word-quiet false vs _ (λ w rest. testing-quiet w ns _ _ (λ ns. tt) (λ ns. tt)))

  module _ (K : Kind W) (m : Module) (c : Config W) where
    calling-assumed : (vs : List (Value W)) (f : Function) (body : Body) → Assumed (λ ns. calling K m c vs ns f body)
    calling-assumed vs f (Imported host) = host-assumed c vs host
    calling-assumed vs f (Code code) =
        quiet (λ ns. calling K m c vs ns f (Code code)) (λ ns. found-quiet (type_of m f) _ (λ t. last-quiet (length t.params) vs
        (λ args rest. Goes (record c { frame = frame_of K t code (reverse args); callers = (holding c rest).frame ∷ c.callers })) (λ args rest. tt)))

    of_type-assumed : (vs : List (Value W)) (f : Function) (b : Bool) → Assumed (λ ns. calling_of_type K m c vs ns f b)
    of_type-assumed vs f true = calling-assumed vs f f.body
    of_type-assumed vs f false = quiet (λ ns. calling_of_type K m c vs ns f false) (λ ns. tt)

    reference-assumed : (vs : List (Value W)) (type : FuncType) (r : Reference) → Assumed (λ ns. calling_reference K m c vs ns type r)
    reference-assumed vs type ExternRef = quiet (λ ns. calling_reference K m c vs ns type ExternRef) (λ ns. tt)
    reference-assumed vs type (FuncRef None) = quiet (λ ns. calling_reference K m c vs ns type (FuncRef None)) (λ ns. tt)
    reference-assumed vs type (FuncRef (Some x)) =
        found-assumed (slice_get (functions m) x) (λ f ns. with_found (type_of m f) (λ t. calling_of_type K m c vs ns f (same_function_type t type))) (λ f.
        found-assumed (type_of m f) (λ t ns. calling_of_type K m c vs ns f (same_function_type t type)) (λ t. of_type-assumed vs f (same_function_type t type)))

    element-assumed : {A : Type 0} (cause : Cause) (o : Option A) (go : A → List ℕ → Next W) → ((x : A) → Assumed (go x)) → Assumed (λ ns. with_element cause o (λ x. go x ns))
    element-assumed cause None go h = quiet (λ ns. Ends (Traps cause)) (λ ns. tt)
    element-assumed cause (Some x) go h = h x

    indexing-assumed : {A : Type 0} (cause : Cause) (index : W) (elements : List A) (go : ℕ → A → List ℕ → Next W) → ((i : ℕ) (x : A) → Assumed (go i x)) →
        Assumed (λ ns. indexing K cause index elements ns go)
    indexing-assumed cause index elements go h =
        testing-assumed (K.binary 0x4F index (K.number (length elements))) (λ ns. picking index ns (λ i ns. with_element cause (slice_get elements i) (λ x. go i x ns))) (λ ns. Ends (Traps cause))
        (picking-assumed index (λ i ns. with_element cause (slice_get elements i) (λ x. go i x ns)) (λ i. element-assumed cause (slice_get elements i) (go i) (h i)))
        (quiet (λ ns. Ends (Traps cause)) (λ ns. tt))

    act-assumed : (vs : List (Value W)) (i : Instr) → Assumed (λ ns. act K m c vs ns i)
    act-assumed vs (Call x) = found-assumed (slice_get (functions m) x) (λ f ns. calling K m c vs ns f f.body) (λ f. calling-assumed vs f f.body)
    act-assumed vs (CallIndirect ty x) =
        found-assumed (slice_get m.types ty) (λ type ns. with_found (slice_get c.store.tables x) (λ elements. with_word false vs (λ index rest.
        indexing K Undefined index elements ns (λ i reference ns. calling_reference K m c rest ns type reference)))) (λ type.
        found-assumed (slice_get c.store.tables x) (λ elements ns. with_word false vs (λ index rest.
        indexing K Undefined index elements ns (λ i reference ns. calling_reference K m c rest ns type reference))) (λ elements.
        word-assumed false vs (λ index rest ns. indexing K Undefined index elements ns (λ i reference ns. calling_reference K m c rest ns type reference)) (λ index rest.
        indexing-assumed Undefined index elements (λ i reference ns. calling_reference K m c rest ns type reference) (λ i reference. reference-assumed rest type reference))))
    act-assumed vs Unreachable = quiet _ (λ ns. tt)
    act-assumed vs Nop = quiet _ (λ ns. tt)
    act-assumed vs (Block ty body) = quiet _ (λ ns. block-quiet K m c vs ty body)
    act-assumed vs (Loop ty body) = quiet _ (λ ns. loop-quiet K m c vs ty body)
    act-assumed vs (If ty first other) = quiet _ (λ ns. word-quiet false vs _ (λ w rest. testing-quiet w ns _ _ (λ ns. block-quiet K m c rest ty other) (λ ns. block-quiet K m c rest ty first)))
    act-assumed vs (Br l) = quiet _ (λ ns. br-quiet K m c vs l)
    act-assumed vs (BrIf l) = quiet _ (λ ns. word-quiet false vs _ (λ w rest. testing-quiet w ns _ _ (λ ns. tt) (λ ns. br-quiet K m c rest l)))
    act-assumed vs (BrTable labels last) = quiet _ (λ ns. word-quiet false vs _ (λ index rest. choosing-quiet K m c index 0 labels last ns _ (λ l. br-quiet K m c rest l)))
    act-assumed vs Return = quiet _ (λ ns. last-quiet c.frame.arity vs _ (λ results rest. give_back-quiet K m c results c.callers))
    act-assumed vs (RefNull kind) = quiet _ (λ ns. found-quiet (null_of kind) _ (λ r. tt))
    act-assumed vs RefIsNull = quiet _ (λ ns. reference-quiet vs _ (λ r rest. tt))
    act-assumed vs (RefFunc x) = quiet _ (λ ns. tt)
    act-assumed vs Discard = quiet _ (λ ns. value-quiet vs _ (λ v rest. tt))
    act-assumed vs Select = quiet _ (λ ns. word-quiet false vs _ (λ w rest. value-quiet rest _ (λ second rest. value-quiet rest _ (λ first rest. selecting-quiet K m c rest ns w first second))))
    act-assumed vs (SelectTyped kinds) = quiet _ (λ ns. word-quiet false vs _ (λ w rest. value-quiet rest _ (λ second rest. value-quiet rest _ (λ first rest. selecting-quiet K m c rest ns w first second))))
    act-assumed vs (LocalGet x) = quiet _ (λ ns. found-quiet (slice_get c.frame.locals x) _ (λ v. tt))
    act-assumed vs (LocalSet x) = quiet _ (λ ns. found-quiet (slice_get c.frame.locals x) _ (λ old. value-quiet vs _ (λ v rest. tt)))
    act-assumed vs (LocalTee x) = quiet _ (λ ns. found-quiet (slice_get c.frame.locals x) _ (λ old. value-quiet vs _ (λ v rest. tt)))
    act-assumed vs (GlobalGet x) = quiet _ (λ ns. found-quiet (slice_get c.store.globals x) _ (λ v. tt))
    act-assumed vs (GlobalSet x) = quiet _ (λ ns. found-quiet (slice_get c.store.globals x) _ (λ old. value-quiet vs _ (λ v rest. tt)))
    act-assumed vs (TableGet x) = quiet _ (λ ns. found-quiet (slice_get c.store.tables x) _ (λ elements. word-quiet false vs _ (λ index rest. indexing-quiet K m c Table index elements ns _ (λ i r ns. tt))))
    act-assumed vs (TableSet x) = quiet _ (λ ns. found-quiet (slice_get c.store.tables x) _ (λ elements. reference-quiet vs _ (λ r rest. word-quiet false rest _ (λ index rest.
        indexing-quiet K m c Table index elements ns _ (λ i old ns. tt)))))
    act-assumed vs (TableInit y x) = quiet _ (λ ns. found-quiet (slice_get c.store.tables x) _ (λ target. found-quiet (slice_get c.store.elems y) _ (λ source. copy-quiet vs _ (λ to from count rest.
        copying-quiet K m c Table to from count (length target) (length source) ns _ (λ t f n. tt)))))
    act-assumed vs (ElemDrop y) = quiet _ (λ ns. found-quiet (slice_get c.store.elems y) _ (λ old. tt))
    act-assumed vs (TableCopy x y) = quiet _ (λ ns. found-quiet (slice_get c.store.tables x) _ (λ target. found-quiet (slice_get c.store.tables y) _ (λ source. copy-quiet vs _ (λ to from count rest.
        copying-quiet K m c Table to from count (length target) (length source) ns _ (λ t f n. tt)))))
    act-assumed vs (TableGrow x) = quiet _ (λ ns. found-quiet (slice_get c.store.tables x) _ (λ elements. found-quiet (slice_get m.tables x) _ (λ type. word-quiet false vs _ (λ count rest. reference-quiet rest _ (λ r rest.
        growing-quiet K m c rest count (length elements) _ ns _)))))
    act-assumed vs (TableSize x) = quiet _ (λ ns. found-quiet (slice_get c.store.tables x) _ (λ elements. tt))
    act-assumed vs (TableFill x) = quiet _ (λ ns. found-quiet (slice_get c.store.tables x) _ (λ elements. word-quiet false vs _ (λ count rest. reference-quiet rest _ (λ r rest. word-quiet false rest _ (λ to rest.
        filling-quiet K m c Table to count (length elements) ns _ (λ t n. tt))))))
    act-assumed vs (Load op align offset) = quiet _ (λ ns. found-quiet (load_of op) _ (λ access. word-quiet false vs _ (λ address rest.
        addressing-quiet K m c Memory address _ (length c.store.memory) ns _ (λ at. tt))))
    act-assumed vs (StoreInstr op align offset) = quiet _ (λ ns. found-quiet (store_of op) _ (λ access. word-quiet access.wide vs _ (λ w rest. word-quiet false rest _ (λ address rest.
        addressing-quiet K m c Memory address _ (length c.store.memory) ns _ (λ at. tt)))))
    act-assumed vs MemorySize = quiet _ (λ ns. tt)
    act-assumed vs MemoryGrow = quiet _ (λ ns. found-quiet (slice_get m.memories 0) _ (λ limits. word-quiet false vs _ (λ count rest. growing-quiet K m c rest count _ _ ns _)))
    act-assumed vs (MemoryInit x) = quiet _ (λ ns. found-quiet (slice_get c.store.datas x) _ (λ source. copy-quiet vs _ (λ to from count rest.
        copying-quiet K m c Memory to from count (length c.store.memory) (length source) ns _ (λ t f n. tt))))
    act-assumed vs (DataDrop x) = quiet _ (λ ns. found-quiet (slice_get c.store.datas x) _ (λ old. tt))
    act-assumed vs MemoryCopy = quiet _ (λ ns. copy-quiet vs _ (λ to from count rest.
        copying-quiet K m c Memory to from count (length c.store.memory) (length c.store.memory) ns _ (λ t f n. tt)))
    act-assumed vs MemoryFill = quiet _ (λ ns. word-quiet false vs _ (λ count rest. word-quiet false rest _ (λ w rest. word-quiet false rest _ (λ to rest.
        filling-quiet K m c Memory to count (length c.store.memory) ns _ (λ t n. tt)))))
    act-assumed vs (Const32 n) = quiet _ (λ ns. tt)
    act-assumed vs (Const64 n) = quiet _ (λ ns. tt)
    act-assumed vs (Num op) = quiet _ (λ ns. found-quiet (operator_of op) _ (λ o. operating-quiet K m c vs ns op o o.operation))

-- ---- a step

-- a step as a function of the answers that the next instruction has had
pub step-assumed : {W : Type 0} (K : Kind W) (m : Module) (c : Config W) → Assumed (λ ns. step K m (record c { answers = ns }))
step-assumed K m c = at c.frame.here.code
  where
    at : (code : List Instr) → Assumed (λ ns. step_code K m (record c { answers = ns }) code)
    at [] = quiet _ (λ ns. finish-quiet K m (record c { answers = ns }) c.frame.here.vals c.frame.outer)
    at (i ∷ is) = act-assumed K m (past c is) c.frame.here.vals i
