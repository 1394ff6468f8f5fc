-- Labels, branches and calls keep to the types.
use Rattle.std.proofs.Common.{◌≡◌, ℕ, zero, suc, ◌+◌, List, [], ◌∷◌, ◌++◌, drop, length, reverse, refl, sym, ap, ◌∙◌, subst}
use Rattle.std.specs.Prelude.{Bool, true, false, ◌&&◌, Some, None, slice_get, replicate}
use Rattle.std.specs.List.{AllByRecursion}
use Rattle.std.proofs.lemmas.List.{map-append}
use Rattle.wasm_ast.specs.Shape.{InstrHasShape, SeqHasShape, FuncHasShape}
use Rattle.wasm_ast.specs.declared.types.ValType.{ValType}
use Rattle.wasm_ast.specs.declared.types.ValType.TheVariants.{I32 as I32Type, I64 as I64Type, FuncRef as FuncRefType, ExternRef as ExternRefType}
use Rattle.wasm_ast.specs.declared.types.FuncType.{FuncType}
use Rattle.wasm_ast.specs.declared.types.BlockType.{BlockType}
use Rattle.wasm_ast.specs.declared.instructions.Instr.{Instr}
use Rattle.wasm_ast.specs.declared.instructions.Instr.TheVariants.{Loop}
use Rattle.wasm_ast.specs.declared.modules.Group.{Group}
use Rattle.wasm_ast.specs.declared.modules.Func.{Func}
use Rattle.wasm_ast.specs.declared.modules.Module.{Module}
use Rattle.wasm_rules.specs.Words.{Kind}
use Rattle.wasm_check.specs.declared.operands.Operand.{Operand}
use Rattle.wasm_check.specs.declared.operands.Operand.TheVariants.{Of}
use Rattle.wasm_check.specs.Operands.{same_type}
use Rattle.wasm_check.specs.Contexts.{Context, context_of, locals_of, block_type as context_block_type}
use Rattle.wasm_check.specs.Instructions.{Labels, EachTakes, IsTyped}
use Rattle.wasm_check.specs.Modules.{BodyIsValid}
use Rattle.wasm_check.specs.Operands.{AllMatch, operands}
use Rattle.wasm_check.specs.Operators.{arrow}
use Rattle.wasm_check.specs.Trees.{seq_of}
use Rattle.wasm_image.specs.declared.hosts.Host.{Host}
use Rattle.wasm_image.specs.declared.hosts.Host.TheVariants.{SymbolI32, SymbolI64, Assume, Assert}
use Rattle.wasm_image.specs.Hosts.{host_type}
use Rattle.wasm_reduction.specs.Configurations.{Reference, FuncRef, ExternRef, Value, I32, I64, Store, Label, Frame, Config, Next, Goes}
use Rattle.wasm_reduction.specs.Functions.{Body, Code, Imported, Function, functions, type_of, same_types, same_function_type, block_type, default, first_locals}
use Rattle.wasm_reduction.specs.Combinators.{holding}
use Rattle.wasm_reduction.specs.Control.{entering, given, give_back, finish, block, loop, branch, br, choosing, frame_of, calling_host, calling, calling_of_type, calling_reference}
use Rattle.wasm_reduction.proofs.ImageFunctions.{block-types}
use Rattle.wasm_reduction.proofs.WideParts.{each-of}
use Rattle.wasm_soundness.specs.Values.{ReferenceIs, ValueIs, Hold, ofs, HaveShape, IsTypedCode}
use Rattle.wasm_soundness.specs.Configurations.{StoreFits, AreAround, FrameFits, FramesFit, ConfigFits, NextFits}
use Rattle.wasm_soundness.proofs.Holding.{get-within, hold-match, hold-append, hold-reversed}
use Rattle.wasm_soundness.proofs.Modules.{BodyFits, ModuleFits, function-fits}
use Rattle.wasm_soundness.proofs.Parts.{found-fits, word-fits, last-fits, testing-fits, assuming-fits}
use Rattle.wasm_soundness.proofs.Inversions.{seq-shape}
use Rattle.wasm_reduction.proofs.FunctionTypes.{same-function}

-- ---- types

-- the type of what a function runs
body-type : (m : Module) (ty : ℕ) (body : Body) → BodyFits m ty body → (t : FuncType) × (slice_get m.types ty ≡ Some t)
body-type m ty (Code code) h = (h.2.type, ap (slice_get m.types) (sym h.0) ∙ h.2.has_type)
body-type m ty (Imported o) h = (host_type h.0, h.2)

module _ {W : Type 0} (K : Kind W) (m : Module) (fits : ModuleFits m) (final : List ValType) where
  abbrev N : Next W → Type 0
  N x = NextFits m final x

  -- ---- the frames that wait

  abbrev pub Waits : List ValType → List (Frame W) → Type 0
  Waits results [] = ⊥
  Waits results (next ∷ callers) = FramesFit m final results next callers

  frames-fit : (coming : List ValType) (fr : Frame W) (callers : List (Frame W)) (h : FrameFits m coming fr) → Waits h.type.results callers → FramesFit m final coming fr callers
  frames-fit coming fr [] h w = absurd w
  frames-fit coming fr (next ∷ callers) h w = (h, w)

  -- values come to a frame that waits for them
  come : (vs : List (Value W)) (results : List ValType) (fr : Frame W) (callers : List (Frame W)) → Hold m vs (operands results) → FramesFit m final results fr callers →
      FramesFit m final [] (record fr { here = given vs fr.here }) callers
  come vs results fr [] h w = record { ts = operands results ++ w.ts; alone = w.alone; vals = hold-append m vs fr.here.vals (operands results) w.ts h w.vals; calls = w.calls }
  come vs results fr (next ∷ callers) h w = (
    record {
      func = w.0.func;
      type = w.0.type;
      own = w.0.own;
      out = w.0.out;
      ls = w.0.ls;
      ts = operands results ++ w.0.ts;
      shapes = w.0.shapes;
      locals = w.0.locals;
      arity = w.0.arity;
      own_arity = w.0.own_arity;
      vals = hold-append m vs fr.here.vals (operands results) w.0.ts h w.0.vals;
      code = w.0.code;
      around = w.0.around;
    },
    w.1,
  )

  pub give_back-fits : (c : Config W) → StoreFits m c.store → (vs : List (Value W)) (results : List ValType) (callers : List (Frame W)) → Hold m vs (operands results) → Waits results callers → N (give_back c vs callers)
  give_back-fits c s vs results [] h w = absurd w
  give_back-fits c s vs results (next ∷ callers) h w = record { store = s; frames = come vs results next callers h w }

  -- ---- the frame that runs

  pub record Base (c : Config W) (f : Func) (type : FuncType) : Type 0 where
    pub store : StoreFits m c.store
    pub shapes : AllByRecursion (λ code. HaveShape code) c.frame.seqs
    pub locals : Hold m c.frame.locals (ofs (context_of m f type).locals)
    pub arity : c.frame.arity ≡ length type.results
    pub waits : Waits type.results c.callers

  pub record Ready (c : Config W) (f : Func) (type : FuncType) (own out : List ValType) (ls : Labels) : Type 0 where
    pub base : Base c f type
    pub own_arity : c.frame.here.arity ≡ length own
    pub around : AreAround m (context_of m f type) c.frame.seqs own c.frame.here.again out ls c.frame.outer

  module _ (c : Config W) (f : Func) (type : FuncType) (base : Base c f type) where
    abbrev C : Context
    C = context_of m f type

    pub finish-fits : (vs : List (Value W)) (own out : List ValType) (again : List Instr) (ls : Labels) (outer : List (Label W)) → Hold m vs (operands out) → AreAround m C c.frame.seqs own again out ls outer → N (finish c vs outer)
    finish-fits vs own out again ls [] h a = give_back-fits c base.store vs C.results c.callers (subst (λ ts. Hold m vs (operands ts)) a.2 h) base.waits
    finish-fits vs own out again ls (l ∷ outer) h a = record {
      store = base.store;
      frames = frames-fit [] _ c.callers (record {
        func = f;
        type = type;
        own = a.0;
        out = a.1;
        ls = a.2;
        ts = operands out ++ a.3;
        shapes = base.shapes;
        locals = base.locals;
        arity = base.arity;
        own_arity = a.5;
        vals = hold-append m vs l.vals (operands out) a.3 h a.6;
        code = subst (λ ls. IsTypedCode C ls c.frame.seqs l.code (operands out ++ a.3) (operands a.1)) a.4 a.7;
        around = a.9;
      }) base.waits;
    }

    -- a branch to the label k of these, of which the last is the body's
    branch-fits : (vs : List (Value W)) (to : List ValType) (r : List Operand) → Hold m vs (operands to ++ r) →
        (k : ℕ) (l : Label W) (own out : List ValType) (ls : Labels) (outer : List (Label W)) → l.arity ≡ length own → AreAround m C c.frame.seqs own l.again out ls outer →
        slice_get (own ∷ ls) k ≡ Some to → N (branch c vs (drop k (l ∷ outer)))
    branch-fits vs to r h zero l own out ls [] n a e =
        let same : own ≡ to = cc in
        last-fits m final l.arity to (n ∙ ap length same) vs r (λ carried rest. give_back c carried c.callers) h (λ carried rest p q.
        give_back-fits c base.store carried C.results c.callers (subst (λ ts. Hold m carried (operands ts)) (sym same ∙ a.1) p) base.waits)
    branch-fits vs to r h zero l own out ls (p ∷ outer) n a e =
        let same : own ≡ to = cc in
        last-fits m final l.arity to (n ∙ ap length same) vs r
        (λ carried rest. Goes (record c { frame = record (c.frame) { here = given carried (record p { code = l.again ++ p.code }); outer = outer } })) h (λ carried rest q s. record {
          store = base.store;
          frames = frames-fit [] _ c.callers (record {
            func = f;
            type = type;
            own = a.0;
            out = a.1;
            ls = a.2;
            ts = operands own ++ a.3;
            shapes = base.shapes;
            locals = base.locals;
            arity = base.arity;
            own_arity = a.5;
            vals = hold-append m carried p.vals (operands own) a.3 (subst (λ ts. Hold m carried (operands ts)) (sym same) q) a.6;
            code = subst (λ ls. IsTypedCode C ls c.frame.seqs (l.again ++ p.code) (operands own ++ a.3) (operands a.1)) a.4 a.8;
            around = a.9;
          }) base.waits;
        })
    branch-fits vs to r h (suc k) l own out ls [] n a e = absurd (let none : slice_get ls k ≡ None = ap (λ ls. slice_get ls k) a.0 in let both : None ≡ Some to = sym none ∙ e in cc)
    branch-fits vs to r h (suc k) l own out ls (p ∷ outer) n a e =
        branch-fits vs to r h k p a.0 a.1 a.2 outer a.5 a.9 (subst (λ ls. slice_get ls k ≡ Some to) a.4 e)

  module _ (c : Config W) (f : Func) (type : FuncType) (own out : List ValType) (ls : Labels) (ready : Ready c f type own out ls) where
    abbrev D : Context
    D = context_of m f type

    -- what remains leads from these operands on
    abbrev pub Remains : List Operand → Type 0
    Remains ts = IsTypedCode D (own ∷ ls) c.frame.seqs c.frame.here.code ts (operands out)

    frame-with : (vs : List (Value W)) (ts : List Operand) (coming : List ValType) → Hold m vs ts → Remains (operands coming ++ ts) → FrameFits m coming (holding c vs).frame
    frame-with vs ts coming h t = record {
      func = f;
      type = type;
      own = own;
      out = out;
      ls = ls;
      ts = ts;
      shapes = ready.base.shapes;
      locals = ready.base.locals;
      arity = ready.base.arity;
      own_arity = ready.own_arity;
      vals = h;
      code = t;
      around = ready.around;
    }

    -- it goes on with these operands, and with this store, these locals
    pub goes-store : (s : Store W) → StoreFits m s → (vs : List (Value W)) (ts : List Operand) → Hold m vs ts → Remains ts → ConfigFits m final (record (holding c vs) { store = s })
    unfolding frame-with
    goes-store s k vs ts h t = record { store = k; frames = frames-fit [] _ c.callers (frame-with vs ts [] h t) ready.base.waits }

    pub goes : (vs : List (Value W)) (ts : List Operand) → Hold m vs ts → Remains ts → ConfigFits m final (holding c vs)
    goes vs ts h t = goes-store c.store ready.base.store vs ts h t

    pub goes-locals : (locals : List (Value W)) → Hold m locals (ofs D.locals) → (vs : List (Value W)) (ts : List Operand) → Hold m vs ts → Remains ts →
        ConfigFits m final (record (holding c vs) { frame = record ((holding c vs).frame) { locals = locals } })
    goes-locals locals k vs ts h t = record {
      store = ready.base.store;
      frames = frames-fit [] _ c.callers (record {
        func = f;
        type = type;
        own = own;
        out = out;
        ls = ls;
        ts = ts;
        shapes = ready.base.shapes;
        locals = k;
        arity = ready.base.arity;
        own_arity = ready.own_arity;
        vals = h;
        code = t;
        around = ready.around;
      }) ready.base.waits;
    }

    -- the frame waits for results, with these operands
    pub frame-waits : (results : List ValType) (vs : List (Value W)) (ts : List Operand) → Hold m vs ts → Remains (operands results ++ ts) → FramesFit m final results (holding c vs).frame c.callers
    unfolding frame-with
    frame-waits results vs ts h t = frames-fit results _ c.callers (frame-with vs ts results h t) ready.base.waits

    -- ---- blocks

    entering-fits : (t : FuncType) (label : List ValType) (arity : ℕ) (again code : List Instr) (params rest : List (Value W)) (ts : List Operand) → arity ≡ length label →
        Hold m params (operands t.params) → Hold m rest ts → IsTypedCode D (label ∷ own ∷ ls) c.frame.seqs code (operands t.params) (operands t.results) →
        Remains (operands t.results ++ ts) → IsTypedCode D (own ∷ ls) c.frame.seqs (again ++ c.frame.here.code) (operands label ++ ts) (operands out) →
        N (entering c params rest arity again code)
    entering-fits t label arity again code params rest ts n p q body next again_next = record {
      store = ready.base.store;
      frames = frames-fit [] _ c.callers (record {
        func = f;
        type = type;
        own = label;
        out = t.results;
        ls = own ∷ ls;
        ts = operands t.params;
        shapes = ready.base.shapes;
        locals = ready.base.locals;
        arity = ready.base.arity;
        own_arity = n;
        vals = p;
        code = body;
        around = (own, out, ls, ts, refl, ready.own_arity, q, next, again_next, ready.around);
      }) ready.base.waits;
    }

    pub block-fits : (ty : BlockType) (s : ℕ) (t : FuncType) (ts : List Operand) (vs : List (Value W)) → context_block_type D ty ≡ Some t → Hold m vs (operands t.params ++ ts) →
        IsTypedCode D (t.results ∷ own ∷ ls) c.frame.seqs (seq_of c.frame.seqs s) (operands t.params) (operands t.results) → Remains (operands t.results ++ ts) → N (block m c vs ty s)
    block-fits ty s t ts vs e h body next = found-fits m final (block_type m ty) t _ (sym (block-types m f type ty) ∙ e)
        (last-fits m final (length t.params) t.params refl vs ts (λ params rest. entering c params rest (length t.results) [] (seq_of c.frame.seqs s)) h (λ params rest p q.
        entering-fits t t.results (length t.results) [] (seq_of c.frame.seqs s) params rest ts refl p q body next next))

    pub loop-fits : (ty : BlockType) (s : ℕ) (t : FuncType) (ts : List Operand) (vs : List (Value W)) → context_block_type D ty ≡ Some t → Hold m vs (operands t.params ++ ts) →
        IsTypedCode D (t.params ∷ own ∷ ls) c.frame.seqs (seq_of c.frame.seqs s) (operands t.params) (operands t.results) → Remains (operands t.results ++ ts) →
        IsTypedCode D (own ∷ ls) c.frame.seqs (Loop ty s ∷ c.frame.here.code) (operands t.params ++ ts) (operands out) → N (loop m c vs ty s)
    loop-fits ty s t ts vs e h body next again = found-fits m final (block_type m ty) t _ (sym (block-types m f type ty) ∙ e)
        (last-fits m final (length t.params) t.params refl vs ts (λ params rest. entering c params rest (length t.params) (Loop ty s ∷ []) (seq_of c.frame.seqs s)) h (λ params rest p q.
        entering-fits t t.params (length t.params) (Loop ty s ∷ []) (seq_of c.frame.seqs s) params rest ts refl p q body next again))

    -- ---- branches

    pub br-fits : (vs : List (Value W)) (k : ℕ) (to : List ValType) (r : List Operand) → Hold m vs (operands to ++ r) → slice_get (own ∷ ls) k ≡ Some to → N (br c vs k)
    br-fits vs k to r h e = branch-fits c f type ready.base vs to r h k c.frame.here own out ls c.frame.outer ready.own_arity ready.around e

    append-match : (vs : List (Value W)) (ts us r : List Operand) → Hold m vs (ts ++ r) → AllMatch ts us → Hold m vs (us ++ r)
    append-match vs [] [] r h a = h
    append-match (v ∷ vs) (t ∷ ts) (u ∷ us) r h a = let i = hold-match m (v ∷ []) (t ∷ []) (u ∷ []) (h.0, tt) (a.0, tt) in (i.0, append-match vs ts us r h.1 a.1)
    append-match [] (t ∷ ts) us r h a = absurd h
    append-match vs [] (u ∷ us) r h a = absurd a
    append-match (v ∷ vs) (t ∷ ts) [] r h a = absurd a

    pub choosing-fits : (vs : List (Value W)) (ts r : List Operand) → Hold m vs (ts ++ r) → (index : W) (n : ℕ) (ks : List ℕ) (last : ℕ) (ns : List ℕ) → EachTakes (own ∷ ls) (last ∷ ks) ts →
        N (choosing K index n ks last ns (λ l. br c vs l))
    choosing-fits vs ts r h index n [] last ns e = br-fits vs last e.0.0 r (append-match vs ts (operands e.0.0) r h e.0.2) e.0.1
    choosing-fits vs ts r h index n (k ∷ ks) last ns e =
        testing-fits m final _ ns _ _ (λ ns. br-fits vs k e.1.0.0 r (append-match vs ts (operands e.1.0.0) r h e.1.0.2) e.1.0.1) (λ ns. choosing-fits vs ts r h index (n + 1) ks last ns (e.0, e.1.1))

  -- ---- calls

  default-is : (t : ValType) → ValueIs m (default K t) t
  default-is I32Type = tt
  default-is I64Type = tt
  default-is FuncRefType = tt
  default-is ExternRefType = tt

  defaults-are : (n : ℕ) (t : ValType) → Hold m (replicate n (default K t)) (ofs (replicate n t))
  defaults-are zero t = tt
  defaults-are (suc n) t = (default-is t, defaults-are n t)

  locals-are : (groups : List Group) → Hold m (first_locals K groups) (ofs (locals_of groups))
  locals-are [] = tt
  locals-are (g ∷ groups) =
      subst (Hold m (first_locals K (g ∷ groups))) (sym (map-append (λ t. Of t) (replicate g.count g.kind) (locals_of groups)))
      (hold-append m (replicate g.count (default K g.kind)) (first_locals K groups) (ofs (replicate g.count g.kind)) (ofs (locals_of groups)) (defaults-are g.count g.kind) (locals-are groups))

  seqs-shape : (seqs : List (List Instr)) → AllByRecursion SeqHasShape seqs → AllByRecursion (λ code. HaveShape code) seqs
  seqs-shape [] h = tt
  seqs-shape (is ∷ rest) h = (each-of InstrHasShape is h.0.each, seqs-shape rest h.1)

  -- the frame of a call
  frame-fits : (t : FuncType) (code : Func) (args : List (Value W)) → FuncHasShape code → BodyIsValid m code → slice_get m.types code.ty ≡ Some t → Hold m args (operands t.params) →
      (h : FrameFits m [] (frame_of K t code (reverse args))) × (h.type ≡ t)
  frame-fits t code args shape valid e h =
      let same : valid.type ≡ t = let both : Some valid.type ≡ Some t = sym valid.has_type ∙ e in cc in
      let shapes : AllByRecursion (λ code. HaveShape code) code.body.seqs = seqs-shape code.body.seqs (each-of SeqHasShape code.body.seqs shape.body.each) in (
        record {
          func = code;
          type = t;
          own = t.results;
          out = t.results;
          ls = [];
          ts = [];
          shapes = shapes;
          locals = subst (Hold m (reverse args ++ first_locals K code.locals)) (sym (map-append (λ t. Of t) t.params (locals_of code.locals)))
              (hold-append m (reverse args) (first_locals K code.locals) (ofs t.params) (ofs (locals_of code.locals)) (hold-reversed m args t.params h) (locals-are code.locals));
          arity = refl;
          own_arity = refl;
          vals = tt;
          code = record {
            tree = valid.tree;
            makes = valid.is_tree;
            typed = subst (λ t. IsTyped (context_of m code t) (t.results ∷ []) valid.tree [] (operands t.results)) same valid.typed;
            shape = seq-shape code.body.seqs 0 shapes;
          };
          around = (refl, refl, refl);
        },
        refl,
      )

  module _ (c : Config W) (s : StoreFits m c.store) (t : FuncType) (r : List Operand)
      (waits : (rest : List (Value W)) → Hold m rest r → FramesFit m final t.results (holding c rest).frame c.callers)
      (holds : (vs : List (Value W)) → Hold m vs (operands t.results ++ r) → ConfigFits m final (holding c vs)) where
    host-fits : (vs : List (Value W)) (ns : List ℕ) (h : Host) → host_type h ≡ t → Hold m vs (operands t.params ++ r) → N (calling_host c vs ns (Some h))
    host-fits vs ns SymbolI32 e p = λ w. holds (I32 w ∷ vs) (subst (λ t. Hold m vs (operands t.params ++ r) → Hold m (I32 w ∷ vs) (operands t.results ++ r)) e (λ p. (tt, p)) p)
    host-fits vs ns SymbolI64 e p = λ w. holds (I64 w ∷ vs) (subst (λ t. Hold m vs (operands t.params ++ r) → Hold m (I64 w ∷ vs) (operands t.results ++ r)) e (λ p. (tt, p)) p)
    host-fits vs ns Assume e p =
        word-fits m final false vs r _ (subst (λ t. Hold m vs (operands t.params ++ r)) (sym e) p) (λ w rest q.
        assuming-fits m final w ns _ _ tt (holds rest (subst (λ t. Hold m rest (operands t.results ++ r)) e q)))
    host-fits vs ns Assert e p =
        word-fits m final false vs r _ (subst (λ t. Hold m vs (operands t.params ++ r)) (sym e) p) (λ w rest q.
        testing-fits m final w ns _ _ (λ ns. tt) (λ ns. holds rest (subst (λ t. Hold m rest (operands t.results ++ r)) e q)))

    calling-fits : (vs : List (Value W)) (ns : List ℕ) (f : Function) (body : Body) → BodyFits m f.ty body → type_of m f ≡ Some t → Hold m vs (operands t.params ++ r) → N (calling K m c vs ns f body)
    calling-fits vs ns f (Imported o) b e p =
        let same : host_type b.0 ≡ t = let both : Some (host_type b.0) ≡ Some t = sym b.2 ∙ e in cc in
        subst (λ o. N (calling_host c vs ns o)) (sym b.1) (host-fits vs ns b.0 same p)
    calling-fits vs ns f (Code code) b e p = found-fits m final (type_of m f) t _ e
        (last-fits m final (length t.params) t.params refl vs r (λ args rest. Goes (record c { frame = frame_of K t code (reverse args); callers = (holding c rest).frame ∷ c.callers })) p (λ args rest q k.
        let fr = frame-fits t code args b.1 b.2 (ap (slice_get m.types) b.0 ∙ e) q in
        record { store = s; frames = (fr.0, subst (λ t. FramesFit m final t.results (holding c rest).frame c.callers) (sym fr.1) (waits rest k)) }))

    pub called-fits : (vs : List (Value W)) (ns : List ℕ) (x : ℕ) (f : Function) → slice_get (functions m) x ≡ Some f → type_of m f ≡ Some t → Hold m vs (operands t.params ++ r) → N (calling K m c vs ns f f.body)
    called-fits vs ns x f e d p = calling-fits vs ns f f.body (function-fits m fits x f e) d p

    of_type-fits : (vs : List (Value W)) (ns : List ℕ) (x : ℕ) (f : Function) (u : FuncType) → slice_get (functions m) x ≡ Some f → type_of m f ≡ Some u → Hold m vs (operands t.params ++ r) →
        (b : Bool) → same_function_type u t ≡ b → N (calling_of_type K m c vs ns f b)
    of_type-fits vs ns x f u e d p true is = called-fits vs ns x f e (d ∙ ap (λ t. Some t) (same-function u t is)) p
    of_type-fits vs ns x f u e d p false is = tt

    pub reference-called : (vs : List (Value W)) (ns : List ℕ) (reference : Reference) → ReferenceIs m FuncRefType reference → Hold m vs (operands t.params ++ r) → N (calling_reference K m c vs ns t reference)
    reference-called vs ns ExternRef is p = absurd is
    reference-called vs ns (FuncRef None) is p = tt
    reference-called vs ns (FuncRef (Some x)) is p =
        let found : (f : Function) × (slice_get (functions m) x ≡ Some f) = get-within (functions m) x is in
        let has : (u : FuncType) × (slice_get m.types found.0.ty ≡ Some u) = body-type m found.0.ty found.0.body (function-fits m fits x found.0 found.1) in
        found-fits m final (slice_get (functions m) x) found.0 _ found.1
        (found-fits m final (type_of m found.0) has.0 _ has.1 (of_type-fits vs ns x found.0 has.0 found.1 has.1 p (same_function_type has.0 t) refl))
