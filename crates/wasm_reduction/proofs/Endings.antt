-- Each run ends, and in one way: a number falls with each turn.
use Rattle.std.proofs.Common.{◌≡◌, ℕ, zero, suc, ◌+◌, ◌-◌, ◌*◌, ◌<◌, ◌≤◌, ◌⊎◌, List, [], ◌∷◌, ◌++◌, take, drop, length, reverse, refl, sym, ap, ◌∙◌, subst, inl, inr, arith}
use Rattle.std.specs.Prelude.{IsTrue, Bool, true, false, ◌&&◌, nat_lt, nat_le, if◌then◌else◌, Option, Some, None, slice_get}
use Rattle.std.proofs.lemmas.List.{length-drop, length-append}
use Rattle.std.proofs.lemmas.Bool.Decides.{nat_tests}
use Rattle.wasm_ast.specs.declared.instructions.Instr.{Instr}
use Rattle.wasm_ast.specs.declared.instructions.Instr.TheVariants.{Call}
use Rattle.wasm_ast.specs.declared.types.FuncType.{FuncType}
use Rattle.wasm_ast.specs.declared.modules.Func.{Func}
use Rattle.wasm_ast.specs.declared.modules.Module.{Module}
use Rattle.wasm_rules.specs.Words.{Kind}
use Rattle.wasm_reduction.specs.Configurations.{Value, I32, I64, Ref, Label, Frame, Config, Question, Fails, Assumes, Stuck, Next, Goes, Draws, Asks, Ends}
use Rattle.wasm_image.specs.declared.hosts.Host.{Host}
use Rattle.wasm_image.specs.declared.hosts.Host.TheVariants.{SymbolI32, SymbolI64, Assume, Assert}
use Rattle.wasm_reduction.specs.Functions.{Body, Code, Imported, Function, functions, type_of}
use Rattle.wasm_reduction.specs.Combinators.{cost_under, past, holding, with_found, with_last, testing, assuming}
use Rattle.wasm_reduction.specs.Control.{given, give_back, finish, frame_of, calling_host, calling, call}
use Rattle.wasm_reduction.specs.Steps.{act, step, step_code, answered, with_symbol}
use Rattle.wasm_reduction.specs.Runs.{Trace, Going, Halt, Deep, Bound, Turned, On, Over, Reply, replied, follow_by, is_due, follow, then_follow, follows, most_frames}
use Rattle.wasm_reduction.specs.Outermost.{bottom, AreCalls, IsOutermost, Ready}
use Rattle.wasm_reduction.proofs.Moves.{Same, Called, Moves, Stays, Enters, Leaves, GivesBack, Calls, most_questions, Legal, act-legal}

abbrev pub frames_size : {W : Type 0} → List (Frame W) → ℕ
frames_size [] = 0
frames_size (f ∷ fs) = 1 + length f.outer + frames_size fs

-- how many labels and calls are open
abbrev pub size : {W : Type 0} → Config W → ℕ
size c = length c.frame.outer + frames_size c.callers

-- what falls, but where a question is asked: room for units, calls of the outermost frame, open labels and calls
abbrev pub weight : {W : Type 0} → ℕ → Config W → ℕ
weight steps c = 2 * (steps - c.units) + 2 * length (bottom c.frame c.callers).here.code + size c

abbrev pub most_next : List Instr → ℕ
most_next [] = 0
most_next (i ∷ is) = most_questions i

-- how many questions of the next instruction are left
abbrev pub left : {W : Type 0} → Config W → ℕ
left c = most_next c.frame.here.code - length c.answers

pub record Progress {W : Type 0} (steps : ℕ) (c d : Config W) : Type 0 where
  pub ready : Ready d
  pub less : (weight steps d < weight steps c) ⊎ ((weight steps d ≡ weight steps c) × (left d < left c))

-- ---- moves

pub record SameEnd {W : Type 0} (f g : Frame W) : Type 0 where
  pub code : f.here.code ≡ g.here.code
  pub outer : f.outer ≡ g.outer

end-refl : {W : Type 0} (f : Frame W) → SameEnd f f
end-refl f = record { code = refl; outer = refl }

pub bottom-same : {W : Type 0} (f g : Frame W) (fs : List (Frame W)) → SameEnd f g → SameEnd (bottom f fs) (bottom g fs)
bottom-same f g [] s = s
bottom-same f g (h ∷ hs) s = end-refl (bottom h hs)

module _ {W : Type 0} (m : Module) (c d : Config W) where
  moves-size : Moves W m c d → size d ≤ size c + 1
  moves-size (Stays s) = omega (arith, ap (λ l. length l) s.outer, ap (λ l. frames_size l) s.callers)
  moves-size (Enters s) = omega (arith, ap (λ l. length l) s.outer, ap (λ l. frames_size l) s.callers)
  moves-size (Leaves s) =
      let e : length (drop s.passed (c.frame.here ∷ c.frame.outer)) ≡ suc (suc (length d.frame.outer)) = ap (λ l. length l) s.labels in
      omega (arith, e, length-drop s.passed (c.frame.here ∷ c.frame.outer), ap (λ l. frames_size l) s.callers)
  moves-size (GivesBack s) = omega (arith, ap (λ l. length l) s.outer, ap (λ l. frames_size l) s.callers)
  moves-size (Calls s) = omega (arith, ap (λ l. length l) s.outer, ap (λ l. frames_size l) s.callers)

  pub moves-units : Moves W m c d → d.units ≡ c.units
  moves-units (Stays s) = s.units
  moves-units (Enters s) = s.units
  moves-units (Leaves s) = s.units
  moves-units (GivesBack s) = s.units
  moves-units (Calls s) = s.units

  pub moves-answers : Moves W m c d → d.answers ≡ c.answers
  moves-answers (Stays s) = s.answers
  moves-answers (Enters s) = s.answers
  moves-answers (Leaves s) = s.answers
  moves-answers (GivesBack s) = s.answers
  moves-answers (Calls s) = s.answers

  -- where frames wait, the outermost one stays
  pub moves-bottom : (f : Frame W) (fs : List (Frame W)) → c.callers ≡ f ∷ fs → Moves W m c d → SameEnd (bottom d.frame d.callers) (bottom f fs)
  moves-bottom f fs e (Stays s) = rw (s.callers, e) (end-refl (bottom f fs))
  moves-bottom f fs e (Enters s) = rw (s.callers, e) (end-refl (bottom f fs))
  moves-bottom f fs e (Leaves s) = rw (s.callers, e) (end-refl (bottom f fs))
  moves-bottom f fs e (GivesBack s) =
      let both : f ∷ fs ≡ s.caller ∷ d.callers = sym e ∙ s.callers in
      let first : f ≡ s.caller = cc in
      let others : fs ≡ d.callers = cc in
      subst (λ fs. SameEnd (bottom d.frame d.callers) (bottom f fs)) (sym others)
      (bottom-same d.frame f d.callers (record { code = s.code ∙ ap (λ f. f.here.code) (sym first); outer = s.outer ∙ ap (λ f. f.outer) (sym first) }))
  moves-bottom f fs e (Calls s) = rw (s.callers, e) (end-refl (bottom f fs))

-- ---- calls, which are all that the outermost frame does

-- how many questions a call asks: one of a host function, none of one with code
abbrev pub body_questions : Body → ℕ
body_questions (Code code) = 0
body_questions (Imported host) = 1

abbrev pub function_questions : Option Function → ℕ
function_questions None = 0
function_questions (Some f) = body_questions f.body

abbrev pub CallMoves : {W : Type 0} → Module → Config W → ℕ → ℕ → Next W → Type 0
CallMoves m c a q (Goes d) = Same c d ⊎ (Called m c d × (q ≡ 0))
CallMoves m c a q (Draws wide d) = Same c d
CallMoves m c a q (Asks question w) = a < q
CallMoves m c a q (Ends e) = Unit {0}

module _ {W : Type 0} (K : Kind W) (m : Module) (c : Config W) where
  holds-same : (vs : List (Value W)) → Same c (holding c vs)
  holds-same vs = record { seqs = refl; again = refl; code = refl; outer = refl; callers = refl; answers = refl; units = refl }

  assume-moves : (w : W) (ns : List ℕ) (rest : List (Value W)) → CallMoves m c (length ns) 1 (assuming w ns (Ends Assumes) (Goes (holding c rest)))
  assume-moves w [] rest = omega arith
  assume-moves w (zero ∷ ns) rest = tt
  assume-moves w (suc n ∷ ns) rest = inl (holds-same rest)

  assert-moves : (w : W) (ns : List ℕ) (rest : List (Value W)) → CallMoves m c (length ns) 1 (testing w ns (λ ns. Ends Fails) (λ ns. Goes (holding c rest)))
  assert-moves w [] rest = omega arith
  assert-moves w (zero ∷ ns) rest = tt
  assert-moves w (suc n ∷ ns) rest = inl (holds-same rest)

  host-moves : (vs : List (Value W)) (ns : List ℕ) (host : Option Host) → CallMoves m c (length ns) 1 (calling_host c vs ns host)
  host-moves vs ns None = tt
  host-moves vs ns (Some SymbolI32) = holds-same vs
  host-moves vs ns (Some SymbolI64) = holds-same vs
  host-moves [] ns (Some Assume) = tt
  host-moves (I32 w ∷ vs) ns (Some Assume) = assume-moves w ns vs
  host-moves (I64 w ∷ vs) ns (Some Assume) = tt
  host-moves (Ref r ∷ vs) ns (Some Assume) = tt
  host-moves [] ns (Some Assert) = tt
  host-moves (I32 w ∷ vs) ns (Some Assert) = assert-moves w ns vs
  host-moves (I64 w ∷ vs) ns (Some Assert) = tt
  host-moves (Ref r ∷ vs) ns (Some Assert) = tt

  frame-moves : (a x : ℕ) (f : Function) (code : Func) (vs : List (Value W)) → slice_get (functions m) x ≡ Some f → f.body ≡ Code code →
      (t : FuncType) (lacks : Bool) → CallMoves m c a 0 (if lacks then Ends Stuck else Goes (record c { frame = frame_of K t code (reverse (take (length t.params) vs)); callers = (holding c (drop (length t.params) vs)).frame ∷ c.callers }))
  frame-moves a x f code vs found is t true = tt
  frame-moves a x f code vs found is t false =
      inr (record { x = x; f = f; code = code; rest = drop (length t.params) vs; found = found; body = is; seqs = refl; again = refl; here = refl; outer = refl; callers = refl; answers = refl; units = refl }, refl)

  body-moves : (x : ℕ) (f : Function) (vs : List (Value W)) (ns : List ℕ) (body : Body) → slice_get (functions m) x ≡ Some f → f.body ≡ body →
      CallMoves m c (length ns) (body_questions body) (calling K m c vs ns f body)
  body-moves x f vs ns (Imported host) found is = host-moves vs ns host
  body-moves x f vs ns (Code code) found is = typed (type_of m f)
    where
      typed : (t : Option FuncType) → CallMoves m c (length ns) 0 (with_found t (λ t. with_last (length t.params) vs (λ args rest.
          Goes (record c { frame = frame_of K t code (reverse args); callers = (holding c rest).frame ∷ c.callers }))))
      typed None = tt
      typed (Some t) = frame-moves (length ns) x f code vs found is t (nat_lt (length vs) (length t.params))

  pub call-moves : (vs : List (Value W)) (ns : List ℕ) (x : ℕ) → CallMoves m c (length ns) (function_questions (slice_get (functions m) x)) (call K m c vs ns x)
  call-moves vs ns x = at (slice_get (functions m) x) refl
    where
      at : (o : Option Function) → slice_get (functions m) x ≡ o → CallMoves m c (length ns) (function_questions o) (with_found o (λ f. calling K m c vs ns f f.body))
      at None e = tt
      at (Some f) e = body-moves x f vs ns f.body e refl

-- ---- one turn

module _ {W : Type 0} (K : Kind W) (m : Module) (steps : ℕ) where
  -- a call of the outermost frame
  outer-progress : (c d : Config W) (q x : ℕ) (is : List Instr) → c.callers ≡ [] → c.frame.outer ≡ [] → c.frame.here.code ≡ Call x ∷ is → AreCalls is →
      Same (past c is) d ⊎ (Called m (past c is) d × (q ≡ 0)) → Ready d × (weight steps d < weight steps c)
  outer-progress c d q x is cs o code calls (inl s) =
      let callers : d.callers ≡ [] = s.callers ∙ cs in
      let units : d.units ≡ c.units = s.units ∙ ap (λ l. c.units + cost_under l) cs ∙ omega arith in
      rw (callers, cs) (
        record { outer = s.outer ∙ o; calls = subst AreCalls (sym s.code) calls },
        omega (arith, units, ap (λ l. length l) s.code, ap (λ l. length l) code, ap (λ l. length l) s.outer),
      )
  outer-progress c d q x is cs o code calls (inr called) =
      let s : Called m (past c is) d = called.0 in
      let callers : d.callers ≡ (holding (past c is) s.rest).frame ∷ [] = s.callers ∙ ap (λ l. (holding (past c is) s.rest).frame ∷ l) cs in
      let units : d.units ≡ c.units = s.units ∙ ap (λ l. c.units + cost_under l) cs ∙ omega arith in
      rw (callers, cs) (
        record { outer = o; calls = calls },
        omega (arith, units, ap (λ l. length l) code, ap (λ l. length l) s.outer, ap (λ l. length l) o),
      )

  -- an instruction of a frame inside it
  inner-progress : (c d : Config W) (is : List Instr) (f : Frame W) (fs : List (Frame W)) → c.callers ≡ f ∷ fs → c.units < steps → Ready c →
      Moves W m (past c is) d → Ready d × (weight steps d < weight steps c)
  inner-progress c d is f fs cs u ready s =
      let units : d.units ≡ c.units + 1 = moves-units m (past c is) d s ∙ ap (λ l. c.units + cost_under l) cs in
      let end : SameEnd (bottom d.frame d.callers) (bottom f fs) = moves-bottom m (past c is) d f fs cs s in
      let was : bottom c.frame c.callers ≡ bottom f fs = ap (λ l. bottom c.frame l) cs in
      let ready : IsOutermost (bottom f fs) = subst IsOutermost was ready in (
        record { outer = end.outer ∙ ready.outer; calls = subst AreCalls (sym end.code) ready.calls },
        omega (arith, u, units, moves-size m (past c is) d s, ap (λ l. length l) end.code, ap (λ f. length f.here.code) was),
      )

  -- what a step comes to: it is nearer the end, or asks a question that is left
  abbrev pub Falls : Config W → Next W → Type 0
  Falls c (Goes d) = Ready d × (weight steps d < weight steps c)
  Falls c (Draws wide d) = Ready d × (weight steps d < weight steps c)
  Falls c (Asks q w) = length c.answers < most_next c.frame.here.code
  Falls c (Ends e) = Unit {0}

  give_back-falls : (c : Config W) (vs : List (Value W)) (fs : List (Frame W)) → c.callers ≡ fs → Ready c → Falls c (give_back c vs fs)
  give_back-falls c vs [] cs ready = tt
  give_back-falls c vs (f ∷ fs) cs ready =
      let was : bottom c.frame c.callers ≡ bottom f fs = ap (λ l. bottom c.frame l) cs in
      let end : SameEnd (bottom (record f { here = given vs f.here }) fs) (bottom f fs) = bottom-same (record f { here = given vs f.here }) f fs (record { code = refl; outer = refl }) in
      let ready : IsOutermost (bottom f fs) = subst IsOutermost was ready in (
        record { outer = end.outer ∙ ready.outer; calls = subst AreCalls (sym end.code) ready.calls },
        omega (arith, ap (λ l. frames_size l) cs, ap (λ l. length l) end.code, ap (λ f. length f.here.code) was),
      )

  finish-falls : (c : Config W) (vs : List (Value W)) (ls : List (Label W)) → c.frame.outer ≡ ls → Ready c → Falls c (finish c vs ls)
  finish-falls c vs [] e ready = give_back-falls c vs c.callers refl ready
  finish-falls c vs (l ∷ ls) e ready = at c.callers refl
    where
      at : (fs : List (Frame W)) → c.callers ≡ fs → Falls c (Goes (record c { frame = record (c.frame) { here = given vs l; outer = ls } }))
      at [] cs = let none : c.frame.outer ≡ [] = (subst IsOutermost (ap (λ l. bottom c.frame l) cs) ready).outer in
          absurd (let both : l ∷ ls ≡ [] = sym e ∙ none in cc)
      at (f ∷ fs) cs = rw cs (subst IsOutermost (ap (λ l. bottom c.frame l) cs) ready, omega (arith, ap (λ l. length l) e))

  legal-falls : (c : Config W) (i : Instr) (is : List Instr) (f : Frame W) (fs : List (Frame W)) (x : Next W) → c.frame.here.code ≡ i ∷ is → c.callers ≡ f ∷ fs →
      c.units < steps → Ready c → Legal m (past c is) (length c.answers) (most_questions i) x → Falls c x
  legal-falls c i is f fs (Goes d) code cs u ready h = inner-progress c d is f fs cs u ready h
  legal-falls c i is f fs (Draws wide d) code cs u ready h = inner-progress c d is f fs cs u ready (Stays h)
  legal-falls c i is f fs (Asks q w) code cs u ready h = rw code h
  legal-falls c i is f fs (Ends e) code cs u ready h = tt

  call-falls : (c : Config W) (q x : ℕ) (is : List Instr) (y : Next W) → c.callers ≡ [] → c.frame.outer ≡ [] → c.frame.here.code ≡ Call x ∷ is → AreCalls is →
      CallMoves m (past c is) (length c.answers) q y → Legal m (past c is) (length c.answers) 4 y → Falls c y
  call-falls c q x is (Goes d) cs o code calls h l = outer-progress c d q x is cs o code calls h
  call-falls c q x is (Draws wide d) cs o code calls h l = outer-progress c d q x is cs o code calls (inl h)
  call-falls c q x is (Asks question w) cs o code calls h l = rw code l
  call-falls c q x is (Ends e) cs o code calls h l = tt

  pub step-falls : (c : Config W) → Ready c → (IsTrue (is_due c.frame.here.code c.callers) → c.units < steps) → Falls c (step K m c)
  step-falls c ready u = at c.frame.here.code refl
    where
      at : (code : List Instr) → c.frame.here.code ≡ code → Falls c (step_code K m c code)
      at [] e = finish-falls c c.frame.here.vals c.frame.outer refl ready
      at (i ∷ is) e = under c.callers refl
        where
          under : (fs : List (Frame W)) → c.callers ≡ fs → Falls c (act K m (past c is) c.frame.here.vals c.answers i)
          under [] cs =
              let alone : IsOutermost c.frame = subst IsOutermost (ap (λ l. bottom c.frame l) cs) ready in
              let calls : AreCalls (i ∷ is) = subst AreCalls e alone.calls in
              subst (λ i. Falls c (act K m (past c is) c.frame.here.vals c.answers i)) (sym calls.0.1)
              (call-falls c _ calls.0.0 is _ cs alone.outer (e ∙ ap (λ i. i ∷ is) calls.0.1) calls.1
              (call-moves K m (past c is) c.frame.here.vals c.answers calls.0.0)
              (act-legal K m (past c is) c.frame.here.vals c.answers (Call calls.0.0)))
          under (f ∷ fs) cs =
              legal-falls c i is f fs _ e cs (u (rw (e, cs) refl)) ready (act-legal K m (past c is) c.frame.here.vals c.answers i)

  -- ---- one turn

  pub symbol-same : (d : Config W) (wide : Bool) (w : W) → SameEnd (bottom (with_symbol d wide w).frame d.callers) (bottom d.frame d.callers)
  symbol-same d wide w = bottom-same (with_symbol d wide w).frame d.frame d.callers (record { code = refl; outer = refl })

  module _ (draw : ℕ → Bool → W) (reply : Reply W) where
    replied-progress : (g t : Going W) (q : Question) (w : W) (n : Option ℕ) → Ready g.config → length g.config.answers < most_next g.config.frame.here.code →
        replied g q w n ≡ On t → Progress steps g.config t.config
    replied-progress g t q w None ready h e = absurd cc
    replied-progress g t q w (Some n) ready h e =
        let is : On (record { config = answered g.config n; trace = record (g.trace) { answers = g.trace.answers ++ n ∷ [] } }) ≡ On t = e in
        let same : answered g.config n ≡ t.config = let f : record { config = answered g.config n; trace = record (g.trace) { answers = g.trace.answers ++ n ∷ [] } } ≡ t = cc in ap (λ t. t.config) f in
        subst (λ d. Progress steps g.config d) same
        (record { ready = ready; less = inr (refl, omega (arith, h, length-append g.config.answers (n ∷ []))) })

    followed-progress : (g t : Going W) (x : Next W) → Ready g.config → Falls g.config x → follow_by draw reply g x ≡ On t → Progress steps g.config t.config
    followed-progress g t (Goes d) ready h e =
        let same : d ≡ t.config = let f : record g { config = d } ≡ t = cc in ap (λ t. t.config) f in
        subst (λ d. Progress steps g.config d) same (record { ready = h.0; less = inl h.1 })
    followed-progress g t (Draws wide d) ready h e =
        let same : with_symbol d wide (draw (length g.trace.symbols) wide) ≡ t.config =
        let f : record { config = with_symbol d wide (draw (length g.trace.symbols) wide); trace = record (g.trace) { symbols = g.trace.symbols ++ wide ∷ [] } } ≡ t = cc in ap (λ t. t.config) f in
        let s : SameEnd (bottom (with_symbol d wide (draw (length g.trace.symbols) wide)).frame d.callers) (bottom d.frame d.callers) = symbol-same d wide (draw (length g.trace.symbols) wide) in
        subst (λ d. Progress steps g.config d) same
        (record { ready = record { outer = s.outer ∙ h.0.outer; calls = subst AreCalls (sym s.code) h.0.calls }; less = inl (omega (arith, h.1, ap (λ l. length l) s.code)) })
    followed-progress g t (Asks q w) ready h e = replied-progress g t q w (reply q w g.trace.answers) ready h e
    followed-progress g t (Ends x) ready h e = absurd cc

    pub turn-progress : (g t : Going W) → Ready g.config → follow K draw reply m steps g ≡ On t → Progress steps g.config t.config
    turn-progress g t ready e = deep (nat_lt most_frames (length g.config.callers)) e
      where
        due : (b : Bool) → is_due g.config.frame.here.code g.config.callers && nat_le steps g.config.units ≡ b →
            (if b then Over Bound g.trace else follow_by draw reply g (step K m g.config)) ≡ On t → Progress steps g.config t.config
        due true f e = absurd cc
        due false f e = followed-progress g t (step K m g.config) ready (step-falls g.config ready (λ h. grind (arith, nat_tests, f, h))) e

        deep : (b : Bool) → (if b then Over Deep g.trace else if is_due g.config.frame.here.code g.config.callers && nat_le steps g.config.units then Over Bound g.trace else follow_by draw reply g (step K m g.config)) ≡ On t → Progress steps g.config t.config
        deep true e = absurd cc
        deep false e = due (is_due g.config.frame.here.code g.config.callers && nat_le steps g.config.units) refl e

    -- ---- runs

    abbrev pub Comes : Going W → Type 0
    Comes g = (halt : Halt W) × (trace : Trace) × (n : ℕ) × (follows K draw reply m steps n g ≡ Over halt trace)

    -- from a configuration on, where all that weigh less come to an end
    ends-within : (k : ℕ) → ((t : Going W) → Ready t.config → weight steps t.config < k → Comes t) →
        (j : ℕ) (g : Going W) → Ready g.config → weight steps g.config ≤ k → left g.config < j → Comes g
    ends-within k lighter zero g ready w l = absurd (omega arith)
    ends-within k lighter (suc j) g ready w l = go (λ t r w l. ends-within k lighter j t r w l) (follow K draw reply m steps g) refl
      where
        next : (t : Going W) → follow K draw reply m steps g ≡ On t → Comes t → Comes g
        next t e c = (c.0, c.1, suc c.2, rw e c.3)

        go : ((t : Going W) → Ready t.config → weight steps t.config ≤ k → left t.config < j → Comes t) → (x : Turned W) → follow K draw reply m steps g ≡ x → Comes g
        go again (Over halt trace) e = (halt, trace, 1, rw e refl)
        go again (On t) e = at (turn-progress g t ready e)
          where
            at : Progress steps g.config t.config → Comes g
            at p = elim p.less [
              | inl h ↦ next t e (lighter t p.ready (omega arith))
              | inr h ↦ next t e (again t p.ready (omega (arith, h.0)) (omega (arith, h.1)))
            ]

    ends-below : (k : ℕ) (g : Going W) → Ready g.config → weight steps g.config < k → Comes g
    ends-below zero g ready w = absurd (omega arith)
    ends-below (suc k) g ready w = ends-within k (λ t r l. ends-below k t r l) (suc (left g.config)) g ready (omega arith) (omega arith)

    -- each run ends
    pub runs-end : (g : Going W) → Ready g.config → Comes g
    runs-end g ready = ends-below (suc (weight steps g.config)) g ready (omega arith)

    -- and in one way
    pub runs-agree : (n k : ℕ) (g : Going W) (h i : Halt W) (s t : Trace) → follows K draw reply m steps n g ≡ Over h s → follows K draw reply m steps k g ≡ Over i t →
        (h ≡ i) × (s ≡ t)
    runs-agree zero k g h i s t e f = absurd cc
    runs-agree (suc n) zero g h i s t e f = absurd cc
    runs-agree (suc n) (suc k) g h i s t e f = go (λ x e f. runs-agree n k x h i s t e f) (follow K draw reply m steps g) e f
      where
        go : ((x : Going W) → follows K draw reply m steps n x ≡ Over h s → follows K draw reply m steps k x ≡ Over i t → (h ≡ i) × (s ≡ t)) →
            (x : Turned W) → then_follow x (follows K draw reply m steps n) ≡ Over h s → then_follow x (follows K draw reply m steps k) ≡ Over i t → (h ≡ i) × (s ≡ t)
        go on (On x) e f = on x e f
        go on (Over x y) e f = (let a : Over x y ≡ Over h s = e in let b : Over x y ≡ Over i t = f in cc, let a : Over x y ≡ Over h s = e in let b : Over x y ≡ Over i t = f in cc)
