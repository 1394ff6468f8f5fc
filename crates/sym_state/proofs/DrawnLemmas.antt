-- The words of a run over terms: their widths, and their symbols.
use Rattle.std.proofs.Common.{◌≡◌, ℕ, zero, suc, List, [], ◌∷◌, ◌++◌, All, length, refl, subst, inl, inr, ⊎_elim}
use Rattle.std.specs.Prelude.{Bool, true, false, if◌then◌else◌, Option, Some, None, slice_get, nat_lt, nat_le, ◌&&◌, Result, Ok, Err}
use Rattle.std.specs.List.{AllByRecursion}
use Rattle.std.proofs.lemmas.List.Elements.{All-weaker, All-head, All-tail}
use Rattle.wasm_ast.specs.declared.modules.Module.{Module}
use Rattle.wasm_rules.specs.Words.{Gives, HasSome, bits_where}
use Rattle.wasm_reduction.specs.Configurations.{Value, I32, I64, Ref, Label, Frame, Config, Question, End, Next, Goes, Draws, Asks, Ends}
use Rattle.wasm_reduction.specs.Steps.{step}
use Rattle.wasm_reduction.specs.Instantiation.{first_config}
use Rattle.wasm_reduction.specs.Maps.{ValuesHave}
use Rattle.wasm_reduction.specs.Widths.{LabelHasWidths, FrameHasWidths, HasWidths, NextHasWidths}
use Rattle.wasm_reduction.specs.Runs.{Trace, Going, Stands, Ended, Bound, Deep, Turned, On, Over, Reply, replied, follow_by, is_due, most_frames, follow, then_follow, follows, started_by, started, by_list}
use Rattle.wasm_reduction.proofs.WideSteps.{step-wide, answered-wide, symbol-wide}
use Rattle.wasm_reduction.proofs.WideStarts.{code-in-range, first-wide}
use Rattle.bv_terms.specs.Terms.{Term, Number, Symbol, Unary, Binary, Choose, Byte, Join, Bytes, NoBytes, Then, bytes_from, HasBits, HasSymbols, HaveSymbols}
use Rattle.bv_terms.specs.Making.{terms}
use Rattle.bv_terms.proofs.KindLemmas.{has, terms-give}
use Rattle.bv_terms.proofs.SymbolLemmas.{made-symbols}
use Rattle.sym_state.specs.Nodes.{CanExplore, Node}
use Rattle.sym_state.specs.States.{HasOver, over_terms}

-- ---- operations

some-bits : (draws : List Bool) (t : Term) → HasSome (HasOver draws) t → HasSome HasBits t
some-bits draws t h = ⊎_elim (λ a. inl a.0) (λ more. inr (⊎_elim (λ a. inl a.0) (λ a. inr a.0) more)) h

some-symbols : (draws : List Bool) (t : Term) → HasSome (HasOver draws) t → HasSymbols draws t
some-symbols draws t h = ⊎_elim (λ a. a.1) (λ more. ⊎_elim (λ a. a.1) (λ a. a.1) more) h

have-symbols : (draws : List Bool) (ts : List Term) → All (HasOver draws 8) ts → HaveSymbols draws (bytes_from ts)
have-symbols draws [] each = tt
have-symbols draws (t ∷ ts) each = ((All-head (HasOver draws 8) t ts each).1, have-symbols draws ts (All-tail (HasOver draws 8) t ts each))

over-gives : (draws : List Bool) → Gives terms (HasOver draws)
over-gives draws = record {
  number = λ bits n h. (terms-give.number bits n h, tt);
  unary = λ op a class h. (terms-give.unary op a class h.0, made-symbols draws (Unary op a) h.1);
  binary = λ op a b class h k. (terms-give.binary op a b class h.0 k.0, made-symbols draws (Binary op a b) (h.1, k.1));
  choose = λ wide c a b s h k. (terms-give.choose wide c a b (some-bits draws c s) h.0 k.0, made-symbols draws (Choose wide c a b) (some-symbols draws c s, h.1, k.1));
  byte = λ a i place s. (terms-give.byte a i place (some-bits draws a s), made-symbols draws (Byte a i) (some-symbols draws a s));
  join = λ wide ts count each. (
    terms-give.join wide ts count (All-weaker (HasOver draws 8) (HasBits 8) (λ t h. h.0) ts each),
    made-symbols draws (Join wide (bytes_from ts)) (have-symbols draws ts each),
  );
}

-- ---- more draws

get-more : (draws more : List Bool) (k : ℕ) (wide : Bool) → slice_get draws k ≡ Some wide → slice_get (draws ++ more) k ≡ Some wide
get-more [] more k wide e = absurd cc
get-more (d ∷ draws) more zero wide e = e
get-more (d ∷ draws) more (suc k) wide e = get-more draws more k wide e

get-next : (draws : List Bool) (wide : Bool) → slice_get (draws ++ wide ∷ []) (length draws) ≡ Some wide
get-next [] wide = refl
get-next (d ∷ draws) wide = get-next draws wide

mutual
  pub symbols-more : (draws more : List Bool) (t : Term) → HasSymbols draws t → HasSymbols (draws ++ more) t
  symbols-more draws more (Number n) h = tt
  symbols-more draws more (Symbol k wide) h = get-more draws more k wide h
  symbols-more draws more (Unary op a) h = symbols-more draws more a h
  symbols-more draws more (Binary op a b) h = (symbols-more draws more a h.0, symbols-more draws more b h.1)
  symbols-more draws more (Choose wide c a b) h = (symbols-more draws more c h.0, symbols-more draws more a h.1, symbols-more draws more b h.2)
  symbols-more draws more (Byte a i) h = symbols-more draws more a h
  symbols-more draws more (Join wide bytes) h = bytes-more draws more bytes h

  bytes-more : (draws more : List Bool) (bytes : Bytes) → HaveSymbols draws bytes → HaveSymbols (draws ++ more) bytes
  bytes-more draws more NoBytes h = tt
  bytes-more draws more (Then t rest) h = (symbols-more draws more t h.0, bytes-more draws more rest h.1)

module _ (P Q : ℕ → Term → Type 0) (f : (bits : ℕ) (t : Term) → P bits t → Q bits t) where
  values-wider : (vs : List (Value Term)) → ValuesHave P vs → ValuesHave Q vs
  values-wider [] h = tt
  values-wider (I32 w ∷ vs) h = (f 32 w h.0, values-wider vs h.1)
  values-wider (I64 w ∷ vs) h = (f 64 w h.0, values-wider vs h.1)
  values-wider (Ref r ∷ vs) h = (tt, values-wider vs h.1)

  label-wider : (l : Label Term) → LabelHasWidths P l → LabelHasWidths Q l
  label-wider l h = record { again = h.again; vals = values-wider l.vals h.vals; code = h.code }

  labels-wider : (ls : List (Label Term)) → AllByRecursion (λ l. LabelHasWidths P l) ls → AllByRecursion (λ l. LabelHasWidths Q l) ls
  labels-wider [] h = tt
  labels-wider (l ∷ ls) h = (label-wider l h.0, labels-wider ls h.1)

  frame-wider : (x : Frame Term) → FrameHasWidths P x → FrameHasWidths Q x
  frame-wider x h = record { locals = values-wider x.locals h.locals; seqs = h.seqs; here = label-wider x.here h.here; outer = labels-wider x.outer h.outer }

  frames-wider : (xs : List (Frame Term)) → AllByRecursion (λ x. FrameHasWidths P x) xs → AllByRecursion (λ x. FrameHasWidths Q x) xs
  frames-wider [] h = tt
  frames-wider (x ∷ xs) h = (frame-wider x h.0, frames-wider xs h.1)

  pub config-wider : (c : Config Term) → HasWidths P c → HasWidths Q c
  config-wider c h = record {
    store = record {
      globals = values-wider c.store.globals h.store.globals;
      tables = h.store.tables;
      memory = All-weaker (P 8) (Q 8) (f 8) c.store.memory h.store.memory;
      memory_size = h.store.memory_size;
      elems = h.store.elems;
      datas = h.store.datas;
    };
    frame = frame-wider c.frame h.frame;
    callers = frames-wider c.callers h.callers;
  }

-- ---- runs

-- what is held of a run: its configuration's words, or the term that it asks about
abbrev pub Held : Turned Term → Type 0
Held (On g) = HasWidths (HasOver g.trace.symbols) g.config
Held (Over (Stands q t) trace) = HasOver trace.symbols 32 t
Held (Over (Ended e) trace) = Unit {0}
Held (Over Bound trace) = Unit {0}
Held (Over Deep trace) = Unit {0}

either-held : (b : Bool) (x y : Turned Term) → Held x → Held y → Held (if b then x else y)
either-held true x y h k = h
either-held false x y h k = k

module _ (reply : Reply Term) where
  replied-held : (g : Going Term) (q : Question) (t : Term) (o : Option ℕ) → Held (On g) → HasOver g.trace.symbols 32 t → Held (replied g q t o)
  replied-held g q t None h k = k
  replied-held g q t (Some n) h k = answered-wide (HasOver g.trace.symbols) g.config n h

  by-held : (g : Going Term) (x : Next Term) → Held (On g) → NextHasWidths (HasOver g.trace.symbols) x → Held (follow_by terms.symbol reply g x)
  by-held g (Goes c) h k = k
  by-held g (Draws wide c) h k =
      let draws = g.trace.symbols in
      let more = draws ++ wide ∷ [] in
      symbol-wide (HasOver more) c wide (Symbol (length draws) wide)
      (config-wider (HasOver draws) (HasOver more) (λ bits t o. (o.0, symbols-more draws (wide ∷ []) t o.1)) c k)
      (has (Symbol (length draws) wide) (bits_where wide) refl, get-next draws wide)
  by-held g (Asks q t) h k = replied-held g q t (reply q t g.trace.answers) h k
  by-held g (Ends e) h k = tt

module _ (n : Node) (can : CanExplore n.invocation) where
  abbrev m : Module
  m = n.invocation.«module»

  abbrev turn : Going Term → Turned Term
  turn = follow terms terms.symbol (by_list n.answers) n.invocation.«module» n.invocation.steps

  turn-held : (g : Going Term) → Held (On g) → Held (turn g)
  turn-held g h =
      let draws = g.trace.symbols in
      either-held (nat_lt most_frames (length g.config.callers)) (Over Deep g.trace) _ tt
      (either-held (is_due g.config.frame.here.code g.config.callers && nat_le n.invocation.steps g.config.units) (Over Bound g.trace) _ tt
      (by-held (by_list n.answers) g (step terms m g.config) h (step-wide (HasOver draws) terms (over-gives draws) m (code-in-range m can.has_numbers) g.config h)))

  then-held : (x : Turned Term) (go : Going Term → Turned Term) → ((g : Going Term) → Held (On g) → Held (go g)) → Held x → Held (then_follow x go)
  then-held (On g) go f h = f g h
  then-held (Over halt trace) go f h = h

  follows-held : (k : ℕ) (g : Going Term) → Held (On g) → Held (follows terms terms.symbol (by_list n.answers) n.invocation.«module» n.invocation.steps k g)
  follows-held zero g h = h
  follows-held (suc k) g h = then-held (turn g) (follows terms terms.symbol (by_list n.answers) m n.invocation.steps k) (λ g h. follows-held k g h) (turn-held g h)

  started-held : (r : Result (Config Term) (End Term)) → first_config terms n.invocation.«module» n.invocation.entry n.invocation.args ≡ r → Held (started_by r)
  started-held (Ok c) e = first-wide (HasOver []) terms (over-gives []) m n.invocation.entry n.invocation.args c can.has_numbers can.can.valid can.can.ready can.fitting e
  started-held (Err x) e = tt

  pub runs-held : (turns : ℕ) → Held (over_terms n turns)
  runs-held turns =
      then-held (started terms m n.invocation.entry n.invocation.args) (follows terms terms.symbol (by_list n.answers) m n.invocation.steps turns) (λ g h. follows-held turns g h)
      (started-held (first_config terms m n.invocation.entry n.invocation.args) refl)

  pub words-held : (turns : ℕ) (g : Going Term) → over_terms n turns ≡ On g → HasWidths (HasOver g.trace.symbols) g.config
  words-held turns g e = subst (λ x. Held x) e (runs-held turns)

  pub asked-held : (q : Question) (t : Term) (turns : ℕ) (trace : Trace) → over_terms n turns ≡ Over (Stands q t) trace → HasOver trace.symbols 32 t
  asked-held q t turns trace e = subst (λ x. Held x) e (runs-held turns)
