-- A run ends by an assumption exactly where one was answered 0.
use Rattle.std.proofs.Common.{◌≡◌, ℕ, zero, suc, ◌+◌, List, [], ◌∷◌, ◌++◌, length, refl, sym, ap, ◌∙◌, subst}
use Rattle.std.specs.Prelude.{◌≢◌, Bool, true, false, ◌&&◌, nat_lt, nat_le, if◌then◌else◌, Option, Some, None, slice_get, Result, Ok, Err}
use Rattle.wasm_ast.specs.declared.instructions.Instr.{Instr}
use Rattle.wasm_ast.specs.declared.modules.Elem.{Elem}
use Rattle.wasm_ast.specs.declared.modules.Segment.{Segment}
use Rattle.wasm_ast.specs.declared.modules.Mode.{Mode}
use Rattle.wasm_ast.specs.declared.modules.Mode.TheVariants.{Passive, Active, Declared}
use Rattle.wasm_ast.specs.declared.modules.Module.{Module}
use Rattle.wasm_ast.specs.declared.runs.Cause.{Cause}
use Rattle.wasm_ast.specs.declared.runs.Cause.TheVariants.{Memory, Table}
use Rattle.wasm_ast.specs.declared.runs.Value.{Value as PlainValue}
use Rattle.wasm_ast.specs.declared.runs.Outcome.{Outcome}
use Rattle.wasm_ast.specs.declared.runs.Outcome.TheVariants.{Assumes as AssumeFailed}
use Rattle.wasm_ast.specs.declared.runs.Draw.{Draw}
use Rattle.wasm_rules.specs.Words.{Kind, numbers, taken}
use Rattle.wasm_reduction.specs.Configurations.{Store, Frame, Label, Value, Config, Question, Test, Pick, Assume, End, Returns, Traps, Fails, Assumes, Stuck, Next, Goes, Draws, Asks, Ends}
use Rattle.wasm_reduction.specs.Combinators.{past}
use Rattle.wasm_reduction.specs.Control.{give_back, finish}
use Rattle.wasm_reduction.specs.Steps.{act, step, step_code, answered, with_symbol}
use Rattle.wasm_reduction.specs.Instantiation.{offset_in, Instantiated, with_part, in_range, after, start_elem, start_data, start_elems, start_datas, allocated, instantiated, invoked, first_config}
use Rattle.wasm_reduction.specs.Runs.{Trace, Going, Halt, Stands, Ended, Bound, Deep, Turned, On, Over, Reply, replied, follow_by, is_due, most_frames, follow, then_follow, follows, no_trace, started_by, answer_of, by_value, by_list, outcome_of, draws_from}
use Rattle.wasm_reduction.specs.RunImages.{trace_of, IsAnswered}
use Rattle.wasm_reduction.specs.Scripts.{Script, Finished, Asked, IsFirst, ComesTo, IsScriptAfter, IsScript, Through, Passes, Past}
use Rattle.wasm_reduction.proofs.Moves.{Same, Moves, most_questions, Legal, act-legal}
use Rattle.wasm_reduction.proofs.Endings.{moves-answers}
use Rattle.wasm_reduction.proofs.AssumeSteps.{step-assumed}
use Rattle.wasm_reduction.proofs.ListedRuns.{get-past, IsAsking, begins-unasked}
use Rattle.wasm_reduction.proofs.ScriptRuns.{on, turn-out, Listed, Start, first-of, comes-of, Reached, from-reached, pass, past-listed, begins-reached, at-once, next-turn, listed-agree}
use Rattle.wasm_reduction.proofs.ScriptLaws.{left-after}
use Rattle.wasm_reduction.proofs.ScriptPlaces.{place}

-- ---- instantiation ends by no assumption

abbrev NoAssume : Instantiated → Type 0
NoAssume (Ok s) = Unit {0}
NoAssume (Err (Returns vs)) = Unit {0}
NoAssume (Err (Traps cause)) = Unit {0}
NoAssume (Err Fails) = Unit {0}
NoAssume (Err Assumes) = ⊥
NoAssume (Err Stuck) = Unit {0}

part-none : {A : Type 0} (o : Option A) (go : A → Instantiated) → ((x : A) → NoAssume (go x)) → NoAssume (with_part o go)
part-none None go h = tt
part-none (Some x) go h = h x

range-none : (end size : ℕ) (cause : Cause) (s : Store ℕ) → NoAssume (in_range end size cause (Ok s))
range-none end size cause s = at (nat_lt size end)
  where
    at : (b : Bool) → NoAssume (if b then Err (Traps cause) else Ok s)
    at true = tt
    at false = tt

after-none : (x : Instantiated) (go : Store ℕ → Instantiated) → NoAssume x → ((s : Store ℕ) → NoAssume (go s)) → NoAssume (after x go)
after-none (Ok s) go h k = k s
after-none (Err x) go h k = h

elem-none : (k : ℕ) (mode : Mode) (s : Store ℕ) → NoAssume (start_elem k mode s)
elem-none k Passive s = tt
elem-none k Declared s = tt
elem-none k (Active x offset) s =
    part-none (offset_in s.globals offset) _ (λ place. part-none (slice_get s.tables x) _ (λ elements. part-none (slice_get s.elems k) _ (λ references.
    range-none (place + length references) (length elements) Table _)))

data-none : (k : ℕ) (mode : Mode) (s : Store ℕ) → NoAssume (start_data k mode s)
data-none k Passive s = tt
data-none k Declared s = tt
data-none k (Active x offset) s =
    part-none (offset_in s.globals offset) _ (λ place. part-none (slice_get s.datas k) _ (λ bytes. range-none (place + length bytes) (length s.memory) Memory _))

elems-none : (k : ℕ) (es : List Elem) (s : Store ℕ) → NoAssume (start_elems k es s)
elems-none k [] s = tt
elems-none k (x ∷ es) s = after-none (start_elem k x.mode s) (start_elems (k + 1) es) (elem-none k x.mode s) (λ s. elems-none (k + 1) es s)

datas-none : (k : ℕ) (ds : List Segment) (s : Store ℕ) → NoAssume (start_datas k ds s)
datas-none k [] s = tt
datas-none k (x ∷ ds) s = after-none (start_data k x.mode s) (start_datas (k + 1) ds) (data-none k x.mode s) (λ s. datas-none (k + 1) ds s)

instantiated-none : (m : Module) → NoAssume (instantiated m)
instantiated-none m =
    part-none (allocated m) (λ s. after (start_elems 0 m.elems s) (start_datas 0 m.segments)) (λ s. after-none (start_elems 0 m.elems s) (start_datas 0 m.segments) (elems-none 0 m.elems s) (λ s. datas-none 0 m.segments s))

abbrev config_answers : {W : Type 0} → Turned W → List ℕ
config_answers (On g) = g.config.answers
config_answers (Over halt trace) = []

module _ {W : Type 0} (K : Kind W) (m : Module) (entry : ℕ) (args : List PlainValue) where
  first-none : (halt : Halt W) (trace : Trace) → started_by (first_config K m entry args) ≡ Over halt trace → halt ≡ Ended Assumes → ⊥
  first-none halt trace e f = at (instantiated m) refl e
    where
      at : (x : Instantiated) → instantiated m ≡ x → started_by (invoked K m entry args x) ≡ Over halt trace → ⊥
      at (Ok s) is e = cc
      at (Err (Returns vs)) is e = cc
      at (Err (Traps cause)) is e = cc
      at (Err Fails) is e = cc
      at (Err Stuck) is e = cc
      at (Err Assumes) is e = subst NoAssume is (instantiated-none m)

  first-fresh : (g : Going W) → started_by (first_config K m entry args) ≡ On g → g.config.answers ≡ []
  first-fresh g e = at (instantiated m) e
    where
      at : (x : Instantiated) → started_by (invoked K m entry args x) ≡ On g → g.config.answers ≡ []
      at (Err x) e = absurd cc
      at (Ok s) e = sym (ap config_answers e)

-- ---- steps

-- where it goes on, the next instruction has had no answer
abbrev Fresh : {W : Type 0} → Next W → Type 0
Fresh (Goes d) = d.answers ≡ []
Fresh (Draws wide d) = d.answers ≡ []
Fresh (Asks q w) = Unit {0}
Fresh (Ends e) = Unit {0}

module _ {W : Type 0} (K : Kind W) (m : Module) where
  legal-fresh : (c : Config W) (is : List Instr) (a q : ℕ) (x : Next W) → Legal m (past c is) a q x → Fresh x
  legal-fresh c is a q (Goes d) h = moves-answers m (past c is) d h
  legal-fresh c is a q (Draws wide d) h = h.answers
  legal-fresh c is a q (Asks k w) h = tt
  legal-fresh c is a q (Ends e) h = tt

  finish-fresh : (c : Config W) (vs : List (Value W)) (ls : List (Label W)) → c.answers ≡ [] → Fresh (finish c vs ls)
  finish-fresh c vs (l ∷ ls) h = h
  finish-fresh c vs [] h = at c.callers
    where
      at : (fs : List (Frame W)) → Fresh (give_back c vs fs)
      at [] = tt
      at (f ∷ fs) = h

  step-fresh : (c : Config W) → (c.frame.here.code ≡ [] → c.answers ≡ []) → Fresh (step K m c)
  step-fresh c h = at c.frame.here.code refl
    where
      at : (code : List Instr) → c.frame.here.code ≡ code → Fresh (step_code K m c code)
      at [] e = finish-fresh c c.frame.here.vals c.frame.outer (h e)
      at (i ∷ is) e = legal-fresh c is (length c.answers) (most_questions i) (act K m (past c is) c.frame.here.vals c.answers i) (act-legal K m (past c is) c.frame.here.vals c.answers i)

  finish-asks : (c : Config W) (vs : List (Value W)) (ls : List (Label W)) (q : Question) (w : W) → finish c vs ls ≡ Asks q w → ⊥
  finish-asks c vs (l ∷ ls) q w e = cc
  finish-asks c vs [] q w e = at c.callers e
    where
      at : (fs : List (Frame W)) → give_back c vs fs ≡ Asks q w → ⊥
      at [] e = cc
      at (f ∷ fs) e = cc

  -- what asks is an instruction
  asks-code : (c : Config W) (q : Question) (w : W) → step K m c ≡ Asks q w → c.frame.here.code ≡ [] → ⊥
  asks-code c q w e h = finish-asks c c.frame.here.vals c.frame.outer q w (sym (ap (step_code K m c) h) ∙ e)

-- ---- turns

module _ (draw : ℕ → Bool → ℕ) (m : Module) (steps : ℕ) where
  abbrev Turn : Reply ℕ → Going ℕ → Turned ℕ
  Turn reply g = follow numbers draw reply m steps g

  bounds-open : (b c : Bool) (trace : Trace) (y : Turned ℕ) (g : Going ℕ) → (if b then Over Deep trace else if c then Over Bound trace else y) ≡ On g → (b ≡ false) × (c ≡ false)
  bounds-open true c trace y g e = absurd cc
  bounds-open false true trace y g e = absurd cc
  bounds-open false false trace y g e = (refl, refl)

  open-bounds : (b c : Bool) (trace : Trace) (y : Turned ℕ) → b ≡ false → c ≡ false → (if b then Over Deep trace else if c then Over Bound trace else y) ≡ y
  open-bounds true c trace y e f = absurd cc
  open-bounds false true trace y e f = absurd cc
  open-bounds false false trace y e f = refl

  -- within the bounds once a question is asked, and after its answer
  answered-turn : (g : Going ℕ) (q : Question) (v : ℕ) → IsAsking numbers draw m steps g q v → (reply : Reply ℕ) → Turn reply (on g q v) ≡ follow_by draw reply (on g q v) (step numbers m (answered g.config (answer_of q v)))
  answered-turn g q v asks reply =
      let goes : Turn by_value g ≡ On (on g q v) = asks.1 by_value ∙ ap (follow_by draw by_value g) asks.0 in
      let open_now = bounds-open (nat_lt most_frames (length g.config.callers)) (is_due g.config.frame.here.code g.config.callers && nat_le steps g.config.units) g.trace (follow_by draw by_value g (step numbers m g.config)) (on g q v) goes in
      open-bounds (nat_lt most_frames (length g.config.callers)) (is_due g.config.frame.here.code g.config.callers && nat_le steps g.config.units) (on g q v).trace (follow_by draw reply (on g q v) (step numbers m (answered g.config (answer_of q v)))) open_now.0 open_now.1

  by-ends : (reply : Reply ℕ) (g : Going ℕ) (x : Next ℕ) (e : End ℕ) (trace : Trace) → follow_by draw reply g x ≡ Over (Ended e) trace → x ≡ Ends e
  by-ends reply g (Goes c) e trace f = absurd cc
  by-ends reply g (Draws wide c) e trace f = absurd cc
  by-ends reply g (Asks q v) e trace f = at (reply q v g.trace.answers) f
    where
      at : (o : Option ℕ) → replied g q v o ≡ Over (Ended e) trace → Asks q v ≡ Ends e
      at None f = absurd cc
      at (Some n) f = absurd cc
  by-ends reply g (Ends x) e trace f = let same : x ≡ e = cc in ap (λ x. Ends x) same

  -- a turn that ends is a step that ends
  turn-ends : (reply : Reply ℕ) (g : Going ℕ) (e : End ℕ) (trace : Trace) → Turn reply g ≡ Over (Ended e) trace → step numbers m g.config ≡ Ends e
  turn-ends reply g e trace f = at (nat_lt most_frames (length g.config.callers)) (is_due g.config.frame.here.code g.config.callers && nat_le steps g.config.units) f
    where
      at : (b c : Bool) → (if b then Over Deep g.trace else if c then Over Bound g.trace else follow_by draw reply g (step numbers m g.config)) ≡ Over (Ended e) trace → step numbers m g.config ≡ Ends e
      at true c f = absurd cc
      at false true f = absurd cc
      at false false f = by-ends reply g (step numbers m g.config) e trace f

  module _ (A : List ℕ) where
    by-fresh : (g v : Going ℕ) (x : Next ℕ) → Fresh x → g.trace.answers ≡ A → follow_by draw (by_list A) g x ≡ On v → IsAnswered (follow_by draw (by_list A) g x) → v.trace.answers ≡ A → v.config.answers ≡ []
    by-fresh g v (Goes c) h all e i j = let same : c ≡ v.config = let going : record g { config = c } ≡ v = cc in ap (λ g. g.config) going in sym (ap (λ c. c.answers) same) ∙ h
    by-fresh g v (Draws wide c) h all e i j =
        let w : ℕ = draw (length g.trace.symbols) wide in
        let same : with_symbol c wide w ≡ v.config =
        let going : record { config = with_symbol c wide w; trace = record (g.trace) { symbols = g.trace.symbols ++ wide ∷ [] } } ≡ v = cc in ap (λ g. g.config) going in
        sym (ap (λ c. c.answers) same) ∙ h
    by-fresh g v (Asks q w) h all e i j = absurd (no-answer (slice_get A (length g.trace.answers)) refl e)
      where
        no-answer : (o : Option ℕ) → slice_get A (length g.trace.answers) ≡ o → replied g q w o ≡ On v → ⊥
        no-answer None f e = cc
        no-answer (Some n) f e =
            let none : slice_get A (length g.trace.answers) ≡ None = ap (λ l. slice_get A (length l)) all ∙ get-past A in
            let both : Some n ≡ None = sym f ∙ none in cc
    by-fresh g v (Ends x) h all e i j = absurd cc

    turn-fresh : (g v : Going ℕ) → (g.config.frame.here.code ≡ [] → g.config.answers ≡ []) → g.trace.answers ≡ A → Turn (by_list A) g ≡ On v → (v.config.answers ≡ []) × (v.trace.answers ≡ A)
    turn-fresh g v h all e =
        let out = turn-out draw m steps A g all (subst IsAnswered (sym e) tt) in
        let given : v.trace.answers ≡ A = ap (λ x. (trace_of x).answers) (sym e) ∙ out.1 in
        let bounds = bounds-open (nat_lt most_frames (length g.config.callers)) (is_due g.config.frame.here.code g.config.callers && nat_le steps g.config.units) g.trace (follow_by draw (by_list A) g (step numbers m g.config)) v e in
        let by : follow_by draw (by_list A) g (step numbers m g.config) ≡ On v =
        sym (open-bounds (nat_lt most_frames (length g.config.callers)) (is_due g.config.frame.here.code g.config.callers && nat_le steps g.config.units) g.trace (follow_by draw (by_list A) g (step numbers m g.config)) bounds.0 bounds.1) ∙ e in
        (by-fresh g v (step numbers m g.config) (step-fresh numbers m g.config h) all by (subst IsAnswered (sym by) tt) given, given)

    -- the run from here, which has no further answer, doesn't end by an assumption
    abbrev pub Settled : Going ℕ → Type 0
    Settled g = (n : ℕ) (trace : Trace) → follows numbers draw (by_list A) m steps n g ≡ Over (Ended Assumes) trace → ⊥

    fresh-settled : (n : ℕ) (trace : Trace) (g : Going ℕ) → g.config.answers ≡ [] → g.trace.answers ≡ A → follows numbers draw (by_list A) m steps n g ≡ Over (Ended Assumes) trace → ⊥
    fresh-settled zero trace g h all e = cc
    fresh-settled (suc n) trace g h all e = at (λ v h all e. fresh-settled n trace v h all e) (Turn (by_list A) g) refl e
      where
        at : ((v : Going ℕ) → v.config.answers ≡ [] → v.trace.answers ≡ A → follows numbers draw (by_list A) m steps n v ≡ Over (Ended Assumes) trace → ⊥) → (x : Turned ℕ) → Turn (by_list A) g ≡ x →
            then_follow x (follows numbers draw (by_list A) m steps n) ≡ Over (Ended Assumes) trace → ⊥
        at rec (On v) is e = let f = turn-fresh g v (λ code. h) all is in rec v f.0 f.1 e
        at rec (Over halt t) is e =
            let over : Turn (by_list A) g ≡ Over (Ended Assumes) trace = is ∙ e in
            let ends : step numbers m g.config ≡ Ends Assumes = turn-ends (by_list A) g Assumes trace over in
            (step-assumed numbers m g.config).first (ap (λ ns. step numbers m (record (g.config) { answers = ns })) (sym h) ∙ ends)

    pub start-settled : (g : Going ℕ) → g.config.answers ≡ [] → g.trace.answers ≡ A → Settled g
    start-settled g h all n trace e = fresh-settled n trace g h all e

  passed-assume : (q : Question) (v : ℕ) → Passes q v → q ≡ Assume → answer_of q v ≡ 0 → ⊥
  passed-assume Test v h e f = cc
  passed-assume Pick v h e f = cc
  passed-assume Assume zero h e f = h refl
  passed-assume Assume (suc n) h e f = cc

  pub answered-settled : (A : List ℕ) (g : Going ℕ) (q : Question) (v : ℕ) → IsAsking numbers draw m steps g q v → Passes q v → (on g q v).trace.answers ≡ A → Settled A (on g q v)
  answered-settled A g q v asks passes all zero trace e = cc
  answered-settled A g q v asks passes all (suc n) trace e = at (Turn (by_list A) (on g q v)) refl e
    where
      at : (x : Turned ℕ) → Turn (by_list A) (on g q v) ≡ x → then_follow x (follows numbers draw (by_list A) m steps n) ≡ Over (Ended Assumes) trace → ⊥
      at (On u) is e =
          let f = turn-fresh A (on g q v) u (λ code. absurd (asks-code numbers m g.config q v asks.0 code)) all is in
          fresh-settled A n trace u f.0 f.1 e
      at (Over halt t) is e =
          let ends : step numbers m (answered g.config (answer_of q v)) ≡ Ends Assumes = turn-ends (by_list A) (on g q v) Assumes trace (is ∙ e) in
          let last = (step-assumed numbers m g.config).last g.config.answers (answer_of q v) q v asks.0 ends in
          passed-assume q v passes last.0 last.1

-- ---- scripts

outcome-assumes : (halt : Halt ℕ) → outcome_of halt ≡ Some AssumeFailed → halt ≡ Ended Assumes
outcome-assumes (Stands q v) e = absurd cc
outcome-assumes (Ended (Returns vs)) e = absurd cc
outcome-assumes (Ended (Traps cause)) e = absurd cc
outcome-assumes (Ended Fails) e = absurd cc
outcome-assumes (Ended Assumes) e = refl
outcome-assumes (Ended Stuck) e = absurd cc
outcome-assumes Bound e = absurd cc
outcome-assumes Deep e = absurd cc

module _ (m : Module) (entry : ℕ) (args : List PlainValue) (input : List ℕ) (steps : ℕ) where
  assumed-end : (trace : Trace) (d : List Draw) (rest : Script) → IsFirst input (Ended Assumes) trace rest → draws_from input 0 trace.symbols ≡ d → rest ≡ Finished AssumeFailed d
  assumed-end trace d (Finished o x) f e =
      let outcome : AssumeFailed ≡ o = let both : Some AssumeFailed ≡ Some o = f.0 in cc in
      ap (λ o. Finished o x) (sym outcome) ∙ ap (λ d. Finished AssumeFailed d) (sym f.1 ∙ e)
  assumed-end trace d (Asked q v x rest) f e = absurd (let both : Ended Assumes ≡ Stands q v = f.0 in cc)

  -- an assumption of 0 is the end
  pub failed : (Says : Question → ℕ → Type 0) (A : List ℕ) (s rest : Script) (v : ℕ) (d : List Draw) → IsScript m entry args input steps s → Through Says A s (Asked Assume v d rest) → v ≡ 0 → rest ≡ Finished AssumeFailed d
  failed Says A s rest v d h e z =
      let left = left-after m entry args input steps Says A [] s (Asked Assume v d rest) h e in
      let over : Listed m entry args input steps A left.0.turns ≡ Over (Stands Assume v) left.0.trace = left.0.over ∙ ap (λ halt. Over halt left.0.trace) left.0.first.0 in
      let p = place m entry args input steps A Assume v left.0.turns left.0.trace over in
      let next : Listed m entry args input steps (A ++ answer_of Assume v ∷ []) (suc p.1.turns) ≡ On (on p.0 Assume v) = past-listed m entry args input steps A p.0 p.1.turns p.1.comes p.4 Assume v p.3 in
      let answer : answer_of Assume v ≡ 0 = ap (answer_of Assume) z in
      let ends : step numbers m (answered p.0.config (answer_of Assume v)) ≡ Ends Assumes =
      ap (λ n. step numbers m (answered p.0.config n)) answer ∙ (step-assumed numbers m p.0.config).ends p.0.config.answers v p.3.0 in
      let last : Listed m entry args input steps (A ++ answer_of Assume v ∷ []) (suc (suc p.1.turns)) ≡ Over (Ended Assumes) (on p.0 Assume v).trace =
      next-turn m entry args input steps (by_list (A ++ answer_of Assume v ∷ [])) (Start m entry args input steps) (suc p.1.turns)
      ∙ ap (λ x. then_follow x (follow numbers (taken input) (by_list (A ++ answer_of Assume v ∷ [])) m steps)) next
      ∙ answered-turn (taken input) m steps p.0 Assume v p.3 (by_list (A ++ answer_of Assume v ∷ []))
      ∙ ap (follow_by (taken input) (by_list (A ++ answer_of Assume v ∷ [])) (on p.0 Assume v)) ends in
      let first = first-of m entry args input steps (A ++ answer_of Assume v ∷ []) rest (comes-of m entry args input steps (A ++ answer_of Assume v ∷ []) rest left.1) (suc (suc p.1.turns)) (Ended Assumes) (on p.0 Assume v).trace last in
      assumed-end (on p.0 Assume v).trace d rest first (ap (λ t. draws_from input 0 t.symbols) p.2 ∙ left.0.first.1)

  -- nothing else ends by one
  kept-after : (A B : List ℕ) (s : Script) (g : Going ℕ) (o : Outcome) (d : List Draw) → Reached m entry args input steps B g → Settled (taken input) m steps B g → IsScriptAfter m entry args input steps B s →
      Past A s (Finished o d) → o ≡ AssumeFailed → ⊥
  kept-after [] B s g o d r settled h e is =
      let last : ComesTo m entry args input steps B (Finished o d) = subst (IsScriptAfter m entry args input steps B) e h in
      let halt : last.halt ≡ Ended Assumes = outcome-assumes last.halt (last.first.0 ∙ ap (λ o. Some o) is) in
      let j = from-reached m entry args input steps B g r last.turns last.halt last.trace last.over in
      settled j.0 last.trace (j.1 ∙ ap (λ halt. Over halt last.trace) halt)
  kept-after (a ∷ A) B (Finished p x) g o d r settled h e is = e
  kept-after (a ∷ A) B (Asked q v x s) g o d r settled h e is =
      let over : Listed m entry args input steps B h.0.turns ≡ Over (Stands q v) h.0.trace = h.0.over ∙ ap (λ halt. Over halt h.0.trace) h.0.first.0 in
      let j = from-reached m entry args input steps B g r h.0.turns (Stands q v) h.0.trace over in
      let p = pass m entry args input steps B g r j.0 q v h.0.trace j.1 in
      kept-after A (B ++ answer_of q v ∷ []) s (on p.at q v) o d p.reached (answered-settled (taken input) m steps (B ++ answer_of q v ∷ []) p.at q v p.asks e.1 p.reached.all) h.1 e.2 is

  kept-at-once : (halt : Halt ℕ) (trace : Trace) → Start m entry args input steps ≡ Over halt trace → (A : List ℕ) (s : Script) (o : Outcome) (d : List Draw) → IsScript m entry args input steps s → Past A s (Finished o d) → o ≡ AssumeFailed → ⊥
  kept-at-once halt trace start [] s o d h e is =
      let last : ComesTo m entry args input steps [] (Finished o d) = subst (IsScriptAfter m entry args input steps []) e h in
      let same = listed-agree m entry args input steps [] last.turns 0 last.halt halt last.trace trace last.over (at-once m entry args input steps halt trace start [] 0) in
      first-none numbers m entry args halt trace start (sym same.0 ∙ outcome-assumes last.halt (last.first.0 ∙ ap (λ o. Some o) is))
  kept-at-once halt trace start (a ∷ A) (Finished p x) o d h e is = e
  kept-at-once halt trace start (a ∷ A) (Asked q v x s) o d h e is =
      let same = listed-agree m entry args input steps [] h.0.turns 0 h.0.halt halt h.0.trace trace h.0.over (at-once m entry args input steps halt trace start [] 0) in
      begins-unasked (first_config numbers m entry args) q v trace (start ∙ ap (λ i. Over i trace) (sym same.0 ∙ h.0.first.0))

  pub kept : (A : List ℕ) (s : Script) (o : Outcome) (d : List Draw) → IsScript m entry args input steps s → Past A s (Finished o d) → o ≢ AssumeFailed
  kept A s o d h e is = at (Start m entry args input steps) refl
    where
      at : (x : Turned ℕ) → Start m entry args input steps ≡ x → ⊥
      at (On g) start =
          let r = begins-reached m entry args input steps g start in
          kept-after A [] s g o d r (start-settled (taken input) m steps [] g (first-fresh numbers m entry args g start) r.all) h e is
      at (Over halt trace) start = kept-at-once halt trace start A s o d h e is
