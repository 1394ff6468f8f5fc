-- How the labels, the frames, the answers and the units of a configuration change at an instruction.
use Rattle.std.proofs.Common.{◌≡◌, ℕ, zero, suc, ◌+◌, ◌<◌, ◌≤◌, ◌⊎◌, List, [], ◌∷◌, ◌++◌, take, drop, length, reverse, refl, inl, inr, arith}
use Rattle.std.specs.Prelude.{Bool, true, false, nat_lt, nat_le, if◌then◌else◌, Option, Some, None, slice_get}
use Rattle.wasm_ast.specs.declared.types.FuncType.{FuncType}
use Rattle.wasm_ast.specs.declared.types.BlockType.{BlockType}
use Rattle.wasm_ast.specs.declared.instructions.Instr.{Instr}
use Rattle.wasm_ast.specs.declared.instructions.Instr.TheVariants.{Unreachable, Nop, Block, Loop, If, Br, BrIf, BrTable, Return, Call, CallIndirect, RefNull, RefIsNull, RefFunc, Discard, Select, SelectTyped, LocalGet, LocalSet, LocalTee, GlobalGet, GlobalSet, TableGet, TableSet, TableInit, ElemDrop, TableCopy, TableGrow, TableSize, TableFill, Load, Store as StoreInstr, MemorySize, MemoryGrow, MemoryInit, DataDrop, MemoryCopy, MemoryFill, Const32, Const64, Num}
use Rattle.wasm_ast.specs.declared.runs.Cause.{Cause}
use Rattle.wasm_ast.specs.declared.runs.Cause.TheVariants.{DivZero, Overflow, Memory, Table, Undefined}
use Rattle.wasm_ast.specs.declared.modules.Func.{Func}
use Rattle.wasm_ast.specs.declared.modules.Module.{Module}
use Rattle.int_ops.specs.declared.operators.Width.{Width}
use Rattle.int_ops.specs.declared.operators.Operation.{Operation}
use Rattle.int_ops.specs.declared.operators.Operation.TheVariants.{OfOne, OfTwo}
use Rattle.int_ops.specs.declared.operators.Operator.{Operator}
use Rattle.int_ops.specs.Operators.{operator_of, divides, is_div_s}
use Rattle.wasm_rules.specs.Words.{Kind}
use Rattle.wasm_rules.specs.Accesses.{load_of, store_of}
use Rattle.wasm_reduction.specs.Configurations.{Reference, FuncRef, ExternRef, Value, I32, I64, Ref, Store, Label, Frame, Config, Next, Goes, Draws, Asks, Ends}
use Rattle.wasm_check.specs.Trees.{seq_of}
use Rattle.wasm_image.specs.declared.hosts.Host.{Host}
use Rattle.wasm_image.specs.declared.hosts.Host.TheVariants.{SymbolI32, SymbolI64, Assume, Assert}
use Rattle.wasm_reduction.specs.Functions.{Body, Code, Imported, Function, functions, type_of, same_function_type, block_type}
use Rattle.wasm_reduction.specs.Combinators.{word_of, reference_of, holding, with_found, with_value, with_word, with_reference, with_last, testing, trapping_if, picking, assuming, within}
use Rattle.wasm_reduction.specs.Ranges.{with_element, indexing, addressing, filling, copying, with_copy, grown, growing}
use Rattle.wasm_reduction.specs.Numeric.{checking, checking_overflow, operating}
use Rattle.wasm_reduction.specs.Parametric.{selecting}
use Rattle.wasm_reduction.specs.Control.{given, give_back, entering, block, loop, branch, br, choosing, frame_of, calling_host, calling, calling_of_type, calling_reference}
use Rattle.wasm_reduction.specs.Tables.{null_of}
use Rattle.wasm_reduction.specs.Steps.{act}

-- only operands, locals and the store change
pub record Same {W : Type 0} (c d : Config W) : Type 0 where
  pub seqs : d.frame.seqs ≡ c.frame.seqs
  pub again : d.frame.here.again ≡ c.frame.here.again
  pub code : d.frame.here.code ≡ c.frame.here.code
  pub outer : d.frame.outer ≡ c.frame.outer
  pub callers : d.callers ≡ c.callers
  pub answers : d.answers ≡ c.answers
  pub units : d.units ≡ c.units

-- what a branch may put before what follows: nothing, or a loop
abbrev pub IsAgain : List Instr → Type 0
IsAgain again = (again ≡ []) ⊎ ((ty : BlockType) × (body : ℕ) × (again ≡ Loop ty body ∷ []))

-- a label is opened
pub record Entered {W : Type 0} (c d : Config W) : Type 0 where
  pub seq : ℕ
  pub rest : List (Value W)
  pub seqs : d.frame.seqs ≡ c.frame.seqs
  pub again : IsAgain d.frame.here.again
  pub code : d.frame.here.code ≡ seq_of c.frame.seqs seq
  pub outer : d.frame.outer ≡ record (c.frame.here) { vals = rest } ∷ c.frame.outer
  pub callers : d.callers ≡ c.callers
  pub answers : d.answers ≡ c.answers
  pub units : d.units ≡ c.units

-- labels are left, up to t
pub record Left {W : Type 0} (c d : Config W) : Type 0 where
  pub passed : ℕ
  pub target : Label W
  pub outside : Label W
  pub labels : drop passed (c.frame.here ∷ c.frame.outer) ≡ target ∷ outside ∷ d.frame.outer
  pub seqs : d.frame.seqs ≡ c.frame.seqs
  pub again : d.frame.here.again ≡ outside.again
  pub code : d.frame.here.code ≡ target.again ++ outside.code
  pub callers : d.callers ≡ c.callers
  pub answers : d.answers ≡ c.answers
  pub units : d.units ≡ c.units

-- a frame is left
pub record Returned {W : Type 0} (c d : Config W) : Type 0 where
  pub caller : Frame W
  pub callers : c.callers ≡ caller ∷ d.callers
  pub seqs : d.frame.seqs ≡ caller.seqs
  pub again : d.frame.here.again ≡ caller.here.again
  pub code : d.frame.here.code ≡ caller.here.code
  pub outer : d.frame.outer ≡ caller.outer
  pub answers : d.answers ≡ c.answers
  pub units : d.units ≡ c.units

-- a function with code is called
pub record Called {W : Type 0} (m : Module) (c d : Config W) : Type 0 where
  pub x : ℕ
  pub f : Function
  pub code : Func
  pub rest : List (Value W)
  pub found : slice_get (functions m) x ≡ Some f
  pub body : f.body ≡ Code code
  pub seqs : d.frame.seqs ≡ code.body.seqs
  pub again : d.frame.here.again ≡ []
  pub here : d.frame.here.code ≡ seq_of code.body.seqs 0
  pub outer : d.frame.outer ≡ []
  pub callers : d.callers ≡ (holding c rest).frame ∷ c.callers
  pub answers : d.answers ≡ c.answers
  pub units : d.units ≡ c.units

pub data Moves (W : Type 0) (m : Module) (c d : Config W) : Type 0 where
  Stays : Same c d → Moves W m c d
  Enters : Entered c d → Moves W m c d
  Leaves : Left c d → Moves W m c d
  GivesBack : Returned c d → Moves W m c d
  Calls : Called m c d → Moves W m c d

-- the most questions that an instruction asks
abbrev pub most_questions : Instr → ℕ
most_questions (BrTable labels last) = length labels
most_questions _ = 4

-- What an instruction comes to that has had a answers, and asks at most q questions.
abbrev pub Legal : {W : Type 0} → Module → Config W → ℕ → ℕ → Next W → Type 0
Legal {W} m c a q (Goes d) = Moves W m c d
Legal m c a q (Draws wide d) = Same c d
Legal m c a q (Asks question w) = a < q
Legal m c a q (Ends e) = Unit {0}

module _ {W : Type 0} (m : Module) (c : Config W) (a q : ℕ) where
  abbrev L : Next W → Type 0
  L x = Legal m c a q x

  same : {s : Store W} {locals vs : List (Value W)} → Same c (record c { store = s; frame = record (c.frame) { locals = locals; here = record (c.frame.here) { vals = vs } } })
  same = record { seqs = refl; again = refl; code = refl; outer = refl; callers = refl; answers = refl; units = refl }

  stays : {s : Store W} {locals vs : List (Value W)} → L (Goes (record c { store = s; frame = record (c.frame) { locals = locals; here = record (c.frame.here) { vals = vs } } }))
  stays = Stays same

  found-legal : {A : Type 0} (o : Option A) (go : A → Next W) → ((x : A) → L (go x)) → L (with_found o go)
  found-legal None go h = tt
  found-legal (Some x) go h = h x

  value-legal : (vs : List (Value W)) (go : Value W → List (Value W) → Next W) → ((v : Value W) (rest : List (Value W)) → L (go v rest)) → L (with_value vs go)
  value-legal [] go h = tt
  value-legal (v ∷ vs) go h = h v vs

  word-legal : (wide : Bool) (vs : List (Value W)) (go : W → List (Value W) → Next W) → ((w : W) (rest : List (Value W)) → L (go w rest)) → L (with_word wide vs go)
  word-legal wide vs go h = value-legal vs _ (λ v rest. found-legal (word_of wide v) _ (λ w. h w rest))

  reference-legal : (vs : List (Value W)) (go : Reference → List (Value W) → Next W) → ((r : Reference) (rest : List (Value W)) → L (go r rest)) → L (with_reference vs go)
  reference-legal vs go h = value-legal vs _ (λ v rest. found-legal (reference_of v) _ (λ r. h r rest))

  choice-legal : (b : Bool) (x y : Next W) → L x → L y → L (if b then x else y)
  choice-legal true x y h k = h
  choice-legal false x y h k = k

  last-legal : (n : ℕ) (vs : List (Value W)) (go : List (Value W) → List (Value W) → Next W) → ((given rest : List (Value W)) → L (go given rest)) → L (with_last n vs go)
  last-legal n vs go h = choice-legal (nat_lt (length vs) n) _ _ tt (h (take n vs) (drop n vs))

  testing-legal : (w : W) (ns : List ℕ) (j : ℕ) (z o : List ℕ → Next W) → a ≡ j + length ns → j < q →
      ((ns : List ℕ) → a ≡ suc j + length ns → L (z ns)) → ((ns : List ℕ) → a ≡ suc j + length ns → L (o ns)) → L (testing w ns z o)
  testing-legal w [] j z o e l h k = omega arith
  testing-legal w (zero ∷ ns) j z o e l h k = h ns (omega arith)
  testing-legal w (suc n ∷ ns) j z o e l h k = k ns (omega arith)

  trapping-legal : (w : W) (cause : Cause) (ns : List ℕ) (j : ℕ) (go : List ℕ → Next W) → a ≡ j + length ns → j < q →
      ((ns : List ℕ) → a ≡ suc j + length ns → L (go ns)) → L (trapping_if w cause ns go)
  trapping-legal w cause ns j go e l h = testing-legal w ns j go _ e l h (λ ns e. tt)

  picking-legal : (w : W) (ns : List ℕ) (j : ℕ) (go : ℕ → List ℕ → Next W) → a ≡ j + length ns → j < q →
      ((n : ℕ) (ns : List ℕ) → a ≡ suc j + length ns → L (go n ns)) → L (picking w ns go)
  picking-legal w [] j go e l h = omega arith
  picking-legal w (n ∷ ns) j go e l h = h n ns (omega arith)

  assuming-legal : (w : W) (ns : List ℕ) (j : ℕ) (x y : Next W) → a ≡ j + length ns → j < q → L x → L y → L (assuming w ns x y)
  assuming-legal w [] j x y e l h k = omega arith
  assuming-legal w (zero ∷ ns) j x y e l h k = h
  assuming-legal w (suc n ∷ ns) j x y e l h k = k

  within-legal : (end size : ℕ) (cause : Cause) (x : Next W) → L x → L (within end size cause x)
  within-legal end size cause x h = choice-legal (nat_lt size end) _ _ tt h

  element-legal : {A : Type 0} (cause : Cause) (o : Option A) (go : A → Next W) → ((x : A) → L (go x)) → L (with_element cause o go)
  element-legal cause None go h = tt
  element-legal cause (Some x) go h = h x

  module _ (K : Kind W) where
    indexing-legal : {A : Type 0} (cause : Cause) (index : W) (elements : List A) (ns : List ℕ) (go : ℕ → A → List ℕ → Next W) → a ≡ length ns → 1 < q →
        ((i : ℕ) (x : A) (ns : List ℕ) → a ≡ 2 + length ns → L (go i x ns)) → L (indexing K cause index elements ns go)
    indexing-legal cause index elements ns go e l h =
        trapping-legal _ cause ns 0 _ (omega arith) (omega arith) (λ ns e. picking-legal index ns 1 _ e l (λ i ns e.
        element-legal cause (slice_get elements i) _ (λ x. h i x ns e)))

    addressing-legal : (cause : Cause) (address : W) (extent size : ℕ) (ns : List ℕ) (go : ℕ → Next W) → a ≡ length ns → 1 < q →
        ((at : ℕ) → L (go at)) → L (addressing K cause address extent size ns go)
    addressing-legal cause address extent size ns go e l h =
        trapping-legal _ cause ns 0 _ (omega arith) (omega arith) (λ ns e. picking-legal address ns 1 _ e l (λ at ns e.
        within-legal (at + extent) size cause _ (h at)))

    filling-legal : (cause : Cause) (to count : W) (size : ℕ) (ns : List ℕ) (go : ℕ → ℕ → Next W) → a ≡ length ns → 2 < q →
        ((t n : ℕ) → L (go t n)) → L (filling K cause to count size ns go)
    filling-legal cause to count size ns go e l h =
        trapping-legal _ cause ns 0 _ (omega arith) (omega arith) (λ ns e. picking-legal to ns 1 _ e (omega arith) (λ t ns e.
        picking-legal count ns 2 _ e l (λ n ns e. within-legal (t + n) size cause _ (h t n))))

    copying-legal : (cause : Cause) (to from count : W) (target source : ℕ) (ns : List ℕ) (go : ℕ → ℕ → ℕ → Next W) → a ≡ length ns → 3 < q →
        ((t f n : ℕ) → L (go t f n)) → L (copying K cause to from count target source ns go)
    copying-legal cause to from count target source ns go e l h =
        trapping-legal _ cause ns 0 _ (omega arith) (omega arith) (λ ns e. picking-legal to ns 1 _ e (omega arith) (λ t ns e.
        picking-legal from ns 2 _ e (omega arith) (λ f ns e. picking-legal count ns 3 _ e l (λ n ns e.
        within-legal (f + n) source cause _ (within-legal (t + n) target cause _ (h t f n))))))

    copy-legal : (vs : List (Value W)) (go : W → W → W → List (Value W) → Next W) → ((to from count : W) (rest : List (Value W)) → L (go to from count rest)) → L (with_copy vs go)
    copy-legal vs go h = word-legal false vs _ (λ count rest. word-legal false rest _ (λ from rest. word-legal false rest _ (λ to rest. h to from count rest)))

    grown-legal : (rest : List (Value W)) (size n : ℕ) (fits : Bool) (go : ℕ → Config W) → L (Goes (holding (go n) (I32 (K.number size) ∷ rest))) → L (grown K c rest size n fits go)
    grown-legal rest size n true go h = h
    grown-legal rest size n false go h = stays

    growing-legal : (rest : List (Value W)) (count : W) (size most : ℕ) (ns : List ℕ) (go : ℕ → Config W) → a ≡ length ns → 0 < q →
        ((n : ℕ) → L (Goes (holding (go n) (I32 (K.number size) ∷ rest)))) → L (growing K c rest count size most ns go)
    growing-legal rest count size most ns go e l h = picking-legal count ns 0 _ (omega arith) l (λ n ns e. grown-legal rest size n (nat_le (size + n) most) go (h n))

    -- ---- the groups of instructions

    overflow-legal : (signed : Bool) (width : Width) (x y : W) (ns : List ℕ) (next : Next W) → a ≡ 1 + length ns → 1 < q → L next →
        L (checking_overflow K signed width x y ns next)
    overflow-legal false width x y ns next e l h = h
    overflow-legal true width x y ns next e l h = trapping-legal _ Overflow ns 1 _ e l (λ ns e. h)

    checking-legal : (divides signed : Bool) (width : Width) (x y : W) (ns : List ℕ) (next : Next W) → a ≡ length ns → 1 < q → L next →
        L (checking K divides signed width x y ns next)
    checking-legal false signed width x y ns next e l h = h
    checking-legal true signed width x y ns next e l h =
        trapping-legal _ DivZero ns 0 _ (omega arith) (omega arith) (λ ns e. overflow-legal signed width x y ns next e l h)

    operating-legal : (vs : List (Value W)) (ns : List ℕ) (op : ℕ) (o : Operator) (operation : Operation) → a ≡ length ns → 1 < q →
        L (operating K c vs ns op o operation)
    operating-legal vs ns op o (OfOne operation) e l = word-legal _ vs _ (λ x rest. stays)
    operating-legal vs ns op o (OfTwo operation) e l =
        word-legal _ vs _ (λ y rest. word-legal _ rest _ (λ x rest.
        checking-legal (divides operation) (is_div_s operation) o.operand x y ns _ e l stays))

    selecting-legal : (rest : List (Value W)) (ns : List ℕ) (w : W) (first second : Value W) → a ≡ length ns → 0 < q →
        L (selecting K c rest ns w first second)
    selecting-legal rest ns w (I32 x) (I32 y) e l = stays
    selecting-legal rest ns w (I64 x) (I64 y) e l = stays
    selecting-legal rest ns w (Ref r) (Ref s) e l = testing-legal w ns 0 _ _ (omega arith) l (λ ns e. stays) (λ ns e. stays)
    selecting-legal rest ns w _ _ e l = tt

    give_back-legal : (vs : List (Value W)) (fs : List (Frame W)) → c.callers ≡ fs → L (give_back c vs fs)
    give_back-legal vs [] e = tt
    give_back-legal vs (f ∷ fs) e =
        GivesBack (record { caller = f; callers = e; seqs = refl; again = refl; code = refl; outer = refl; answers = refl; units = refl })

    branch-legal : (vs : List (Value W)) (k : ℕ) (ls : List (Label W)) → drop k (c.frame.here ∷ c.frame.outer) ≡ ls → L (branch c vs ls)
    branch-legal vs k [] e = tt
    branch-legal vs k (t ∷ []) e = last-legal t.arity vs _ (λ carried rest. give_back-legal carried c.callers refl)
    branch-legal vs k (t ∷ l ∷ ls) e = last-legal t.arity vs (λ carried rest. Goes (record c { frame = record (c.frame) { here = given carried (record l { code = t.again ++ l.code }); outer = ls } })) (λ carried rest.
        Leaves (record { passed = k; target = t; outside = l; labels = e; seqs = refl; again = refl; code = refl; callers = refl; answers = refl; units = refl }))

    br-legal : (vs : List (Value W)) (k : ℕ) → L (br c vs k)
    br-legal vs k = branch-legal vs k (drop k (c.frame.here ∷ c.frame.outer)) refl

    choosing-legal : (index : W) (k : ℕ) (ls : List ℕ) (last : ℕ) (ns : List ℕ) (j : ℕ) (go : ℕ → Next W) → a ≡ j + length ns → j + length ls ≤ q →
        ((l : ℕ) → L (go l)) → L (choosing K index k ls last ns go)
    choosing-legal index k [] last ns j go e l h = h last
    choosing-legal index k (x ∷ ls) last ns j go e l h =
        testing-legal _ ns j _ _ e (omega arith) (λ ns e. h x) (λ ns e. choosing-legal index (k + 1) ls last ns (suc j) go e (omega arith) h)

    block-legal : (vs : List (Value W)) (ty : BlockType) (body : ℕ) → L (block m c vs ty body)
    block-legal vs ty body = found-legal (block_type m ty) _ (λ t. last-legal _ vs (λ params rest. entering c params rest (length t.results) [] (seq_of c.frame.seqs body)) (λ params rest.
        Enters (record { seq = body; rest = rest; seqs = refl; again = inl refl; code = refl; outer = refl; callers = refl; answers = refl; units = refl })))

    loop-legal : (vs : List (Value W)) (ty : BlockType) (body : ℕ) → L (loop m c vs ty body)
    loop-legal vs ty body = found-legal (block_type m ty) _ (λ t. last-legal _ vs (λ params rest. entering c params rest (length t.params) (Loop ty body ∷ []) (seq_of c.frame.seqs body)) (λ params rest.
        Enters (record { seq = body; rest = rest; seqs = refl; again = inr (ty, body, refl); code = refl; outer = refl; callers = refl; answers = refl; units = refl })))

    host-legal : (vs : List (Value W)) (ns : List ℕ) (j : ℕ) (host : Option Host) → a ≡ j + length ns → j < q → L (calling_host c vs ns host)
    host-legal vs ns j None e l = tt
    host-legal vs ns j (Some SymbolI32) e l = same
    host-legal vs ns j (Some SymbolI64) e l = same
    host-legal vs ns j (Some Assume) e l = word-legal false vs _ (λ w rest. assuming-legal w ns j _ _ e l tt stays)
    host-legal vs ns j (Some Assert) e l = word-legal false vs _ (λ w rest. testing-legal w ns j _ _ e l (λ ns e. tt) (λ ns e. stays))

    found-is-legal : {A : Type 0} (o : Option A) (go : A → Next W) → ((x : A) → o ≡ Some x → L (go x)) → L (with_found o go)
    found-is-legal None go h = tt
    found-is-legal (Some x) go h = h x refl

    calling-legal : (vs : List (Value W)) (ns : List ℕ) (j x : ℕ) (f : Function) (body : Body) → a ≡ j + length ns → j < q →
        slice_get (functions m) x ≡ Some f → f.body ≡ body → L (calling K m c vs ns f body)
    calling-legal vs ns j x f (Imported host) e l found is = host-legal vs ns j host e l
    calling-legal vs ns j x f (Code code) e l found is = found-legal (type_of m f) _ (λ t. last-legal _ vs
        (λ args rest. Goes (record c { frame = frame_of K t code (reverse args); callers = (holding c rest).frame ∷ c.callers })) (λ args rest.
        Calls (record { x = x; f = f; code = code; rest = rest; found = found; body = is; seqs = refl; again = refl; here = refl; outer = refl; callers = refl; answers = refl; units = refl })))

    of_type-legal : (vs : List (Value W)) (ns : List ℕ) (j x : ℕ) (f : Function) (b : Bool) → a ≡ j + length ns → j < q →
        slice_get (functions m) x ≡ Some f → L (calling_of_type K m c vs ns f b)
    of_type-legal vs ns j x f true e l found = calling-legal vs ns j x f f.body e l found refl
    of_type-legal vs ns j x f false e l found = tt

    called-legal : (vs : List (Value W)) (ns : List ℕ) (j : ℕ) (type : FuncType) (r : Reference) → a ≡ j + length ns → j < q →
        L (calling_reference K m c vs ns type r)
    called-legal vs ns j type ExternRef e l = tt
    called-legal vs ns j type (FuncRef None) e l = tt
    called-legal vs ns j type (FuncRef (Some x)) e l = found-is-legal (slice_get (functions m) x) _ (λ f found. found-legal (type_of m f) _ (λ t.
        of_type-legal vs ns j x f (same_function_type t type) e l found))

-- each instruction moves as said, and asks at most its most questions
pub act-legal : {W : Type 0} (K : Kind W) (m : Module) (c : Config W) (vs : List (Value W)) (ns : List ℕ) (i : Instr) →
    Legal m c (length ns) (most_questions i) (act K m c vs ns i)
act-legal K m c vs ns Unreachable = tt
act-legal K m c vs ns Nop = stays m c (length ns) 4
act-legal K m c vs ns (Block ty body) = block-legal m c (length ns) 4 K vs ty body
act-legal K m c vs ns (Loop ty body) = loop-legal m c (length ns) 4 K vs ty body
act-legal K m c vs ns (If ty first other) = word-legal m c (length ns) 4 false vs _ (λ w rest.
    testing-legal m c (length ns) 4 w ns 0 _ _ (omega arith) (omega arith) (λ rs e. block-legal m c (length ns) 4 K rest ty other) (λ rs e. block-legal m c (length ns) 4 K rest ty first))
act-legal K m c vs ns (Br l) = br-legal m c (length ns) 4 K vs l
act-legal K m c vs ns (BrIf l) = word-legal m c (length ns) 4 false vs _ (λ w rest.
    testing-legal m c (length ns) 4 w ns 0 _ _ (omega arith) (omega arith) (λ rs e. stays m c (length ns) 4) (λ rs e. br-legal m c (length ns) 4 K rest l))
act-legal K m c vs ns (BrTable labels last) = word-legal m c (length ns) (length labels) false vs _ (λ index rest.
    choosing-legal m c (length ns) (length labels) K index 0 labels last ns 0 _ (omega arith) (omega arith) (λ l. br-legal m c (length ns) (length labels) K rest l))
act-legal K m c vs ns Return = last-legal m c (length ns) 4 _ vs _ (λ results rest. give_back-legal m c (length ns) 4 K results c.callers refl)
act-legal K m c vs ns (Call x) = found-is-legal m c (length ns) 4 K (slice_get (functions m) x) _ (λ f found.
    calling-legal m c (length ns) 4 K vs ns 0 x f f.body (omega arith) (omega arith) found refl)
act-legal K m c vs ns (CallIndirect ty x) = found-legal m c (length ns) 4 (slice_get m.types ty) _ (λ type. found-legal m c (length ns) 4 (slice_get c.store.tables x) _ (λ elements.
    word-legal m c (length ns) 4 false vs _ (λ index rest. indexing-legal m c (length ns) 4 K Undefined index elements ns _ refl (omega arith) (λ i r rs e.
    called-legal m c (length ns) 4 K rest rs 2 type r e (omega arith)))))
act-legal K m c vs ns (RefNull kind) = found-legal m c (length ns) 4 (null_of kind) _ (λ r. stays m c (length ns) 4)
act-legal K m c vs ns RefIsNull = reference-legal m c (length ns) 4 vs _ (λ r rest. stays m c (length ns) 4)
act-legal K m c vs ns (RefFunc x) = stays m c (length ns) 4
act-legal K m c vs ns Discard = value-legal m c (length ns) 4 vs _ (λ v rest. stays m c (length ns) 4)
act-legal K m c vs ns Select = word-legal m c (length ns) 4 false vs _ (λ w rest. value-legal m c (length ns) 4 rest _ (λ second rest. value-legal m c (length ns) 4 rest _ (λ first rest.
    selecting-legal m c (length ns) 4 K rest ns w first second refl (omega arith))))
act-legal K m c vs ns (SelectTyped kinds) = word-legal m c (length ns) 4 false vs _ (λ w rest. value-legal m c (length ns) 4 rest _ (λ second rest. value-legal m c (length ns) 4 rest _ (λ first rest.
    selecting-legal m c (length ns) 4 K rest ns w first second refl (omega arith))))
act-legal K m c vs ns (LocalGet x) = found-legal m c (length ns) 4 (slice_get c.frame.locals x) _ (λ v. stays m c (length ns) 4)
act-legal K m c vs ns (LocalSet x) = found-legal m c (length ns) 4 (slice_get c.frame.locals x) _ (λ old. value-legal m c (length ns) 4 vs _ (λ v rest. stays m c (length ns) 4))
act-legal K m c vs ns (LocalTee x) = found-legal m c (length ns) 4 (slice_get c.frame.locals x) _ (λ old. value-legal m c (length ns) 4 vs _ (λ v rest. stays m c (length ns) 4))
act-legal K m c vs ns (GlobalGet x) = found-legal m c (length ns) 4 (slice_get c.store.globals x) _ (λ v. stays m c (length ns) 4)
act-legal K m c vs ns (GlobalSet x) = found-legal m c (length ns) 4 (slice_get c.store.globals x) _ (λ old. value-legal m c (length ns) 4 vs _ (λ v rest. stays m c (length ns) 4))
act-legal K m c vs ns (TableGet x) = found-legal m c (length ns) 4 (slice_get c.store.tables x) _ (λ elements. word-legal m c (length ns) 4 false vs _ (λ index rest.
    indexing-legal m c (length ns) 4 K Table index elements ns _ refl (omega arith) (λ i r rs e. stays m c (length ns) 4)))
act-legal K m c vs ns (TableSet x) = found-legal m c (length ns) 4 (slice_get c.store.tables x) _ (λ elements. reference-legal m c (length ns) 4 vs _ (λ r rest. word-legal m c (length ns) 4 false rest _ (λ index rest.
    indexing-legal m c (length ns) 4 K Table index elements ns _ refl (omega arith) (λ i old rs e. stays m c (length ns) 4))))
act-legal K m c vs ns (TableInit y x) = found-legal m c (length ns) 4 (slice_get c.store.tables x) _ (λ target. found-legal m c (length ns) 4 (slice_get c.store.elems y) _ (λ source. copy-legal m c (length ns) 4 K vs _ (λ to from count rest.
    copying-legal m c (length ns) 4 K Table to from count (length target) (length source) ns _ refl (omega arith) (λ t f n. stays m c (length ns) 4))))
act-legal K m c vs ns (ElemDrop y) = found-legal m c (length ns) 4 (slice_get c.store.elems y) _ (λ old. stays m c (length ns) 4)
act-legal K m c vs ns (TableCopy x y) = found-legal m c (length ns) 4 (slice_get c.store.tables x) _ (λ target. found-legal m c (length ns) 4 (slice_get c.store.tables y) _ (λ source. copy-legal m c (length ns) 4 K vs _ (λ to from count rest.
    copying-legal m c (length ns) 4 K Table to from count (length target) (length source) ns _ refl (omega arith) (λ t f n. stays m c (length ns) 4))))
act-legal K m c vs ns (TableGrow x) = found-legal m c (length ns) 4 (slice_get c.store.tables x) _ (λ elements. found-legal m c (length ns) 4 (slice_get m.tables x) _ (λ type. word-legal m c (length ns) 4 false vs _ (λ count rest. reference-legal m c (length ns) 4 rest _ (λ r rest.
    growing-legal m c (length ns) 4 K rest count (length elements) _ ns _ refl (omega arith) (λ n. stays m c (length ns) 4)))))
act-legal K m c vs ns (TableSize x) = found-legal m c (length ns) 4 (slice_get c.store.tables x) _ (λ elements. stays m c (length ns) 4)
act-legal K m c vs ns (TableFill x) = found-legal m c (length ns) 4 (slice_get c.store.tables x) _ (λ elements. word-legal m c (length ns) 4 false vs _ (λ count rest. reference-legal m c (length ns) 4 rest _ (λ r rest. word-legal m c (length ns) 4 false rest _ (λ to rest.
    filling-legal m c (length ns) 4 K Table to count (length elements) ns _ refl (omega arith) (λ t n. stays m c (length ns) 4)))))
act-legal K m c vs ns (Load op align offset) = found-legal m c (length ns) 4 (load_of op) _ (λ access. word-legal m c (length ns) 4 false vs _ (λ address rest.
    addressing-legal m c (length ns) 4 K Memory address _ (length c.store.memory) ns _ refl (omega arith) (λ at. stays m c (length ns) 4)))
act-legal K m c vs ns (StoreInstr op align offset) = found-legal m c (length ns) 4 (store_of op) _ (λ access. word-legal m c (length ns) 4 access.wide vs _ (λ w rest. word-legal m c (length ns) 4 false rest _ (λ address rest.
    addressing-legal m c (length ns) 4 K Memory address _ (length c.store.memory) ns _ refl (omega arith) (λ at. stays m c (length ns) 4))))
act-legal K m c vs ns MemorySize = stays m c (length ns) 4
act-legal K m c vs ns MemoryGrow = found-legal m c (length ns) 4 (slice_get m.memories 0) _ (λ limits. word-legal m c (length ns) 4 false vs _ (λ count rest.
    growing-legal m c (length ns) 4 K rest count _ _ ns _ refl (omega arith) (λ n. stays m c (length ns) 4)))
act-legal K m c vs ns (MemoryInit x) = found-legal m c (length ns) 4 (slice_get c.store.datas x) _ (λ source. copy-legal m c (length ns) 4 K vs _ (λ to from count rest.
    copying-legal m c (length ns) 4 K Memory to from count (length c.store.memory) (length source) ns _ refl (omega arith) (λ t f n. stays m c (length ns) 4)))
act-legal K m c vs ns (DataDrop x) = found-legal m c (length ns) 4 (slice_get c.store.datas x) _ (λ old. stays m c (length ns) 4)
act-legal K m c vs ns MemoryCopy = copy-legal m c (length ns) 4 K vs _ (λ to from count rest.
    copying-legal m c (length ns) 4 K Memory to from count (length c.store.memory) (length c.store.memory) ns _ refl (omega arith) (λ t f n. stays m c (length ns) 4))
act-legal K m c vs ns MemoryFill = word-legal m c (length ns) 4 false vs _ (λ count rest. word-legal m c (length ns) 4 false rest _ (λ w rest. word-legal m c (length ns) 4 false rest _ (λ to rest.
    filling-legal m c (length ns) 4 K Memory to count (length c.store.memory) ns _ refl (omega arith) (λ t n. stays m c (length ns) 4))))
act-legal K m c vs ns (Const32 n) = stays m c (length ns) 4
act-legal K m c vs ns (Const64 n) = stays m c (length ns) 4
act-legal K m c vs ns (Num op) = found-legal m c (length ns) 4 (operator_of op) _ (λ o. operating-legal m c (length ns) 4 K vs ns op o o.operation refl (omega arith))
