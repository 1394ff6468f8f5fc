-- Each bounded run has one script, which says where the run stands after the first of its answers.
use Rattle.std.proofs.Common.{◌≡◌, ℕ, zero, suc, List, [], ◌∷◌, ◌++◌, length, refl, sym, ap, ◌∙◌, subst, append_assoc, append-nil}
use Rattle.std.specs.Prelude.{Bool, true, false, ◌&&◌, nat_lt, nat_le, if◌then◌else◌, Option, Some, None, option_map, slice_get, Result, Ok, Err}
use Rattle.wasm_ast.specs.declared.modules.Module.{Module}
use Rattle.wasm_ast.specs.declared.runs.Value.{Value as Argument}
use Rattle.wasm_ast.specs.declared.runs.Outcome.{Outcome}
use Rattle.wasm_ast.specs.declared.runs.Draw.{Draw}
use Rattle.wasm_rules.specs.Words.{numbers, taken}
use Rattle.wasm_reduction.specs.Configurations.{Config, Question, End, Next, Goes, Draws, Asks, Ends}
use Rattle.wasm_reduction.specs.Steps.{step, answered}
use Rattle.wasm_reduction.specs.Instantiation.{first_config}
use Rattle.wasm_reduction.specs.Runs.{Trace, Going, Halt, Stands, Ended, Bound, Deep, Turned, On, Over, Reply, replied, follow_by, is_due, most_frames, follow, then_follow, follows, no_trace, started_by, started, runs, answer_of, by_value, by_list, outcome_of, draws_from, Run, run_of, runs_at, IsRun}
use Rattle.wasm_reduction.specs.RunImages.{trace_of, IsAnswered, BeginsWith}
use Rattle.wasm_reduction.specs.Scripts.{Script, Finished, Asked, drawn, answers_in, told_after, told, IsFirst, ComesTo, IsScriptAfter, IsScript, Through, SameFirst, StandsAt}
use Rattle.wasm_reduction.proofs.Endings.{runs-agree}
use Rattle.wasm_reduction.proofs.WideStarts.{map-of}
use Rattle.wasm_reduction.proofs.ListedRuns.{begins-self, get-past, next-get, begins-empty, begins-unasked, IsAsking, follows-ask, follows-next, follows-longer}

-- the run goes on with the answer of the number that it was asked about
abbrev pub on : Going ℕ → Question → ℕ → Going ℕ
on g q v = record { config = answered g.config (answer_of q v); trace = record (g.trace) { answers = g.trace.answers ++ answer_of q v ∷ [] } }

-- ---- from a configuration: turns after turns, and where all answers are used up

module _ (draw : ℕ → Bool → ℕ) (m : Module) (steps : ℕ) where
  abbrev Many : Reply ℕ → ℕ → Going ℕ → Turned ℕ
  Many reply n g = follows numbers draw reply m steps n g

  pub follows-join : (reply : Reply ℕ) (k j : ℕ) (v g : Going ℕ) (y : Turned ℕ) → Many reply k v ≡ On g → Many reply j g ≡ y → (n : ℕ) × (Many reply n v ≡ y)
  follows-join reply zero j v g y e f = let same : v ≡ g = cc in (j, ap (Many reply j) same ∙ f)
  follows-join reply (suc k) j v g y e f = at (λ u e. follows-join reply k j u g y e f) (follow numbers draw reply m steps v) refl e
    where
      at : ((u : Going ℕ) → Many reply k u ≡ On g → (n : ℕ) × (Many reply n u ≡ y)) → (x : Turned ℕ) → follow numbers draw reply m steps v ≡ x → then_follow x (Many reply k) ≡ On g → (n : ℕ) × (Many reply n v ≡ y)
      at rec (On u) is e = let r = rec u e in (suc r.0, ap (λ x. then_follow x (Many reply r.0)) is ∙ r.1)
      at rec (Over halt trace) is e = absurd cc

  pub follows-split : (reply : Reply ℕ) (k n : ℕ) (v g : Going ℕ) (halt : Halt ℕ) (trace : Trace) → Many reply k v ≡ On g → Many reply n v ≡ Over halt trace → (j : ℕ) × (Many reply j g ≡ Over halt trace)
  follows-split reply zero n v g halt trace e f = let same : v ≡ g = cc in (n, ap (Many reply n) (sym same) ∙ f)
  follows-split reply (suc k) zero v g halt trace e f = absurd cc
  follows-split reply (suc k) (suc n) v g halt trace e f = at (λ u e f. follows-split reply k n u g halt trace e f) (follow numbers draw reply m steps v) e f
    where
      at : ((u : Going ℕ) → Many reply k u ≡ On g → Many reply n u ≡ Over halt trace → (j : ℕ) × (Many reply j g ≡ Over halt trace)) → (x : Turned ℕ) →
          then_follow x (Many reply k) ≡ On g → then_follow x (Many reply n) ≡ Over halt trace → (j : ℕ) × (Many reply j g ≡ Over halt trace)
      at rec (On u) e f = rec u e f
      at rec (Over i s) e f = absurd cc

  module _ (A : List ℕ) where
    -- a turn by a list that is used up, and the turn in which each number answers
    abbrev Out : Turned ℕ → Turned ℕ → Type 0
    Out x y = IsAnswered x → (y ≡ x) × ((trace_of x).answers ≡ A)

    choice-out : (b : Bool) (over x y : Turned ℕ) → (trace_of over).answers ≡ A → Out x y → Out (if b then over else x) (if b then over else y)
    choice-out true over x y all p h = (refl, all)
    choice-out false over x y all p h = p h

    by-out : (g : Going ℕ) (x : Next ℕ) → g.trace.answers ≡ A → Out (follow_by draw (by_list A) g x) (follow_by draw by_value g x)
    by-out g (Goes c) all h = (refl, all)
    by-out g (Draws wide c) all h = (refl, all)
    by-out g (Ends e) all h = (refl, all)
    by-out g (Asks q w) all h =
        let none : slice_get A (length g.trace.answers) ≡ None = ap (λ l. slice_get A (length l)) all ∙ get-past A in
        absurd (subst (λ o. IsAnswered (replied g q w o)) none h)

    pub turn-out : (g : Going ℕ) → g.trace.answers ≡ A → Out (follow numbers draw (by_list A) m steps g) (follow numbers draw by_value m steps g)
    turn-out g all =
        choice-out (nat_lt most_frames (length g.config.callers)) (Over Deep g.trace) _ _ all
        (choice-out (is_due g.config.frame.here.code g.config.callers && nat_le steps g.config.units) (Over Bound g.trace) _ _ all (by-out g (step numbers m g.config) all))

    pub follows-out : (n : ℕ) (g : Going ℕ) → g.trace.answers ≡ A → Out (Many (by_list A) n g) (Many by_value n g)
    follows-out zero g all h = (refl, all)
    follows-out (suc n) g all h = at (λ v. follows-out n v) (follow numbers draw (by_list A) m steps g) refl h
      where
        at : ((v : Going ℕ) → v.trace.answers ≡ A → Out (Many (by_list A) n v) (Many by_value n v)) → (x : Turned ℕ) → follow numbers draw (by_list A) m steps g ≡ x →
            IsAnswered (then_follow x (Many (by_list A) n)) → (Many by_value (suc n) g ≡ then_follow x (Many (by_list A) n)) × ((trace_of (then_follow x (Many (by_list A) n))).answers ≡ A)
        at rec (On v) is h =
            let first = turn-out g all (subst IsAnswered (sym is) tt) in
            let rest = rec v (ap (λ x. (trace_of x).answers) (sym is) ∙ first.1) h in
            (ap (λ x. then_follow x (Many by_value n)) (first.0 ∙ is) ∙ rest.0, rest.1)
        at rec (Over halt trace) is h =
            let first = turn-out g all (subst IsAnswered (sym is) h) in
            (ap (λ x. then_follow x (Many by_value n)) (first.0 ∙ is), ap (λ x. (trace_of x).answers) (sym is) ∙ first.1)

-- ---- from the start

-- a run that is over at once has no answers
pub start-empty : (x : Result (Config ℕ) (End ℕ)) (halt : Halt ℕ) (trace : Trace) → started_by x ≡ Over halt trace → trace.answers ≡ []
start-empty (Ok c) halt trace e = absurd cc
start-empty (Err x) halt trace e = let same : no_trace ≡ trace = cc in sym (ap (λ t. t.answers) same)

module _ (m : Module) (entry : ℕ) (args : List Argument) (input : List ℕ) (steps : ℕ) where
  -- the run by a list, and the bounded run
  abbrev pub Listed : List ℕ → ℕ → Turned ℕ
  Listed A n = runs numbers (taken input) (by_list A) m entry args steps n

  abbrev pub Valued : ℕ → Turned ℕ
  Valued n = runs_at m entry args input steps n

  abbrev pub Start : Turned ℕ
  Start = started numbers m entry args

  -- a run is over in one way
  over-agree : (reply : Reply ℕ) (x : Turned ℕ) (n k : ℕ) (h i : Halt ℕ) (s t : Trace) → then_follow x (follows numbers (taken input) reply m steps n) ≡ Over h s → then_follow x (follows numbers (taken input) reply m steps k) ≡ Over i t →
      (h ≡ i) × (s ≡ t)
  over-agree reply (On g) n k h i s t e f = runs-agree numbers m steps (taken input) reply n k g h i s t e f
  over-agree reply (Over j u) n k h i s t e f = (let a : Over j u ≡ Over h s = e in let b : Over j u ≡ Over i t = f in cc, let a : Over j u ≡ Over h s = e in let b : Over j u ≡ Over i t = f in cc)

  pub listed-agree : (A : List ℕ) (n k : ℕ) (h i : Halt ℕ) (s t : Trace) → Listed A n ≡ Over h s → Listed A k ≡ Over i t → (h ≡ i) × (s ≡ t)
  listed-agree A n k h i s t e f = over-agree (by_list A) Start n k h i s t e f

  pub first-of : (A : List ℕ) (s : Script) → ComesTo m entry args input steps A s → (n : ℕ) (halt : Halt ℕ) (trace : Trace) → Listed A n ≡ Over halt trace → IsFirst input halt trace s
  first-of A s c n halt trace e =
      let same = listed-agree A c.turns n c.halt halt c.trace trace c.over e in
      subst (λ t. IsFirst input halt t s) same.1 (subst (λ h. IsFirst input h c.trace s) same.0 c.first)

  pub comes-of : (A : List ℕ) (s : Script) → IsScriptAfter m entry args input steps A s → ComesTo m entry args input steps A s
  comes-of A (Finished outcome draws) h = h
  comes-of A (Asked q v draws rest) h = h.0

  -- ---- where the run by a list comes to that is used up, and the bounded run too

  pub record Reached (A : List ℕ) (g : Going ℕ) : Type 0 where
    pub listed : (n : ℕ) × (Listed A n ≡ On g)
    pub valued : (n : ℕ) × (Valued n ≡ On g)
    pub all : g.trace.answers ≡ A

  pub from-start : (reply : Reply ℕ) (x : Turned ℕ) (k j : ℕ) (g : Going ℕ) (y : Turned ℕ) → then_follow x (follows numbers (taken input) reply m steps k) ≡ On g → follows numbers (taken input) reply m steps j g ≡ y →
      (n : ℕ) × (then_follow x (follows numbers (taken input) reply m steps n) ≡ y)
  from-start reply (On v) k j g y e f = follows-join (taken input) m steps reply k j v g y e f
  from-start reply (Over halt trace) k j g y e f = absurd cc

  pub ahead : (reply : Reply ℕ) (x : Turned ℕ) (k n : ℕ) (g : Going ℕ) (halt : Halt ℕ) (trace : Trace) → then_follow x (follows numbers (taken input) reply m steps k) ≡ On g → then_follow x (follows numbers (taken input) reply m steps n) ≡ Over halt trace →
      (j : ℕ) × (follows numbers (taken input) reply m steps j g ≡ Over halt trace)
  ahead reply (On v) k n g halt trace e f = follows-split (taken input) m steps reply k n v g halt trace e f
  ahead reply (Over i s) k n g halt trace e f = absurd cc

  pub from-reached : (A : List ℕ) (g : Going ℕ) → Reached A g → (n : ℕ) (halt : Halt ℕ) (trace : Trace) → Listed A n ≡ Over halt trace → (j : ℕ) × (follows numbers (taken input) (by_list A) m steps j g ≡ Over halt trace)
  from-reached A g r n halt trace e = ahead (by_list A) Start r.listed.0 n g halt trace r.listed.1 e

  longer : (A zs : List ℕ) (x : Turned ℕ) (n : ℕ) (y : Turned ℕ) → IsAnswered y → then_follow x (follows numbers (taken input) (by_list A) m steps n) ≡ y → then_follow x (follows numbers (taken input) (by_list (A ++ zs)) m steps n) ≡ y
  longer A zs (On g) n y h e = follows-longer numbers (taken input) m steps A zs n g y h e
  longer A zs (Over halt trace) n y h e = e

  pub next-turn : (reply : Reply ℕ) (x : Turned ℕ) (n : ℕ) → then_follow x (follows numbers (taken input) reply m steps (suc n)) ≡ then_follow (then_follow x (follows numbers (taken input) reply m steps n)) (follow numbers (taken input) reply m steps)
  next-turn reply (On g) n = follows-next numbers (taken input) m steps reply n g
  next-turn reply (Over halt trace) n = refl

  -- the place of a question, and the run past it
  pub record Passed (A : List ℕ) (q : Question) (v : ℕ) (trace : Trace) : Type 0 where
    pub at : Going ℕ
    pub given : at.trace ≡ trace
    pub asks : IsAsking numbers (taken input) m steps at q v
    pub here : Reached A at
    pub reached : Reached (A ++ answer_of q v ∷ []) (on at q v)

  -- past a question
  pub past-listed : (A : List ℕ) (at : Going ℕ) (n : ℕ) → Listed A n ≡ On at → at.trace.answers ≡ A → (q : Question) (v : ℕ) → IsAsking numbers (taken input) m steps at q v → Listed (A ++ answer_of q v ∷ []) (suc n) ≡ On (on at q v)
  past-listed A at n e all q v asks =
      let more : Listed (A ++ answer_of q v ∷ []) n ≡ On at = longer A (answer_of q v ∷ []) Start n (On at) tt e in
      let next : slice_get (A ++ answer_of q v ∷ []) (length at.trace.answers) ≡ Some (answer_of q v) = ap (λ l. slice_get (A ++ answer_of q v ∷ []) (length l)) all ∙ next-get A [] (answer_of q v) in
      next-turn (by_list (A ++ answer_of q v ∷ [])) Start n ∙ ap (λ x. then_follow x (follow numbers (taken input) (by_list (A ++ answer_of q v ∷ [])) m steps)) more
      ∙ asks.1 (by_list (A ++ answer_of q v ∷ [])) ∙ ap (follow_by (taken input) (by_list (A ++ answer_of q v ∷ [])) at) asks.0 ∙ ap (λ o. replied at q v o) next

  pub past-question : (A : List ℕ) (at : Going ℕ) → Reached A at → (q : Question) (v : ℕ) → IsAsking numbers (taken input) m steps at q v → Reached (A ++ answer_of q v ∷ []) (on at q v)
  past-question A at r q v asks =
      let by_own : follow numbers (taken input) by_value m steps at ≡ On (on at q v) = asks.1 by_value ∙ ap (follow_by (taken input) by_value at) asks.0 in
      record {
        listed = (suc r.listed.0, past-listed A at r.listed.0 r.listed.1 r.all q v asks);
        valued = (suc r.valued.0, next-turn by_value Start r.valued.0 ∙ ap (λ x. then_follow x (follow numbers (taken input) by_value m steps)) r.valued.1 ∙ by_own);
        all = ap (λ l. l ++ answer_of q v ∷ []) r.all;
      }

  pub pass : (A : List ℕ) (g : Going ℕ) → Reached A g → (j : ℕ) (q : Question) (v : ℕ) (trace : Trace) → follows numbers (taken input) (by_list A) m steps j g ≡ Over (Stands q v) trace → Passed A q v trace
  pass A g r j q v trace e =
      let a = follows-ask numbers (taken input) m steps A j g q v trace e in
      let out = follows-out (taken input) m steps A a.turns g r.all (subst IsAnswered (sym a.comes) tt) in
      let here : Reached A a.at = record {
        listed = from-start (by_list A) Start r.listed.0 a.turns g (On a.at) r.listed.1 a.comes;
        valued = from-start by_value Start r.valued.0 a.turns g (On a.at) r.valued.1 (out.0 ∙ a.comes);
        all = ap (λ x. (trace_of x).answers) (sym a.comes) ∙ out.1;
      } in
      record { at = a.at; given = a.given; asks = a.asks; here = here; reached = past-question A a.at here q v a.asks }

  -- the place stands as the definition says
  pub stands-at : (A : List ℕ) (q : Question) (v : ℕ) (trace : Trace) (p : Passed A q v trace) → StandsAt m entry args input steps A q v p.at
  stands-at A q v trace p =
      let none : slice_get A (length p.at.trace.answers) ≡ None = ap (λ l. slice_get A (length l)) p.here.all ∙ get-past A in
      record {
        turns = p.here.listed.0;
        comes = p.here.listed.1;
        stands = p.asks.1 (by_list A) ∙ ap (follow_by (taken input) (by_list A) p.at) p.asks.0 ∙ ap (λ o. replied p.at q v o) none;
      }

  -- the start
  pub begins-reached : (g : Going ℕ) → Start ≡ On g → Reached [] g
  begins-reached g e = record {
    listed = (0, ap (λ x. then_follow x (follows numbers (taken input) (by_list []) m steps 0)) e);
    valued = (0, ap (λ x. then_follow x (follows numbers (taken input) by_value m steps 0)) e);
    all = begins-empty (first_config numbers m entry args) g e;
  }

  -- ---- the run that a script tells

  told-over : (A : List ℕ) (outcome : Outcome) (draws : List Draw) (halt : Halt ℕ) (trace : Trace) → IsFirst input halt trace (Finished outcome draws) → trace.answers ≡ A → (n : ℕ) → Valued n ≡ Over halt trace →
      IsRun m entry args input steps (told_after A (Finished outcome draws))
  told-over A outcome draws halt trace first all n e =
      (n, ap (run_of input) e ∙ ended (outcome_of halt) first.0 ∙ ap (λ d. Some (record { outcome = outcome; draws = d; answers = trace.answers })) first.1 ∙ ap (λ l. Some (record { outcome = outcome; draws = draws; answers = l })) all)
    where
      ended : (o : Option Outcome) → o ≡ Some outcome → option_map {U = Run} (λ outcome. record { outcome = outcome; draws = draws_from input 0 trace.symbols; answers = trace.answers }) o ≡ Some (record { outcome = outcome; draws = draws_from input 0 trace.symbols; answers = trace.answers })
      ended o e = ap (λ o. option_map {U = Run} (λ outcome. record { outcome = outcome; draws = draws_from input 0 trace.symbols; answers = trace.answers }) o) e

  -- an end is no question
  pub end-answered : (halt : Halt ℕ) (trace : Trace) (outcome : Outcome) (draws : List Draw) → IsFirst input halt trace (Finished outcome draws) → IsAnswered (Over halt trace)
  end-answered (Stands q v) trace outcome draws first = let none : None ≡ Some outcome = first.0 in absurd cc
  end-answered (Ended e) trace outcome draws first = tt
  end-answered Bound trace outcome draws first = tt
  end-answered Deep trace outcome draws first = tt

  told-reached : (A : List ℕ) (g : Going ℕ) → Reached A g → (s : Script) → IsScriptAfter m entry args input steps A s → IsRun m entry args input steps (told_after A s)
  told-reached A g r (Finished outcome draws) h =
      let e = from-reached A g r h.turns h.halt h.trace h.over in
      let out = follows-out (taken input) m steps A e.0 g r.all (subst IsAnswered (sym e.1) (end-answered h.halt h.trace outcome draws h.first)) in
      let valued = from-start by_value Start r.valued.0 e.0 g (Over h.halt h.trace) r.valued.1 (out.0 ∙ e.1) in
      told-over A outcome draws h.halt h.trace h.first (ap (λ x. (trace_of x).answers) (sym e.1) ∙ out.1) valued.0 valued.1
  told-reached A g r (Asked q v draws rest) h =
      let over : Listed A h.0.turns ≡ Over (Stands q v) h.0.trace = h.0.over ∙ ap (λ halt. Over halt h.0.trace) h.0.first.0 in
      let e = from-reached A g r h.0.turns (Stands q v) h.0.trace over in
      let p = pass A g r e.0 q v h.0.trace e.1 in
      told-reached (A ++ answer_of q v ∷ []) (on p.at q v) p.reached rest h.1

  -- a run that is over at once
  pub at-once : (halt : Halt ℕ) (trace : Trace) → Start ≡ Over halt trace → (A : List ℕ) (n : ℕ) → Listed A n ≡ Over halt trace
  at-once halt trace e A n = ap (λ x. then_follow x (follows numbers (taken input) (by_list A) m steps n)) e

  pub script-told : (s : Script) → IsScript m entry args input steps s → IsRun m entry args input steps (told s)
  script-told s h = at Start refl s h
    where
      at : (x : Turned ℕ) → Start ≡ x → (s : Script) → IsScript m entry args input steps s → IsRun m entry args input steps (told s)
      at (On g) e s h = told-reached [] g (begins-reached g e) s h
      at (Over halt trace) e (Finished outcome draws) h =
          let same = listed-agree [] h.turns 0 h.halt halt h.trace trace h.over (at-once halt trace e [] 0) in
          told-over [] outcome draws h.halt h.trace h.first (ap (λ t. t.answers) same.1 ∙ start-empty (first_config numbers m entry args) halt trace e) 0
          (ap (λ x. then_follow x (follows numbers (taken input) by_value m steps 0)) e ∙ ap (λ i. Over i trace) (sym same.0) ∙ ap (λ t. Over h.halt t) (sym same.1))
      at (Over halt trace) e (Asked q v draws rest) h =
          let same = listed-agree [] h.0.turns 0 h.0.halt halt h.0.trace trace h.0.over (at-once halt trace e [] 0) in
          absurd (begins-unasked (first_config numbers m entry args) q v trace (e ∙ ap (λ i. Over i trace) (sym same.0 ∙ h.0.first.0)))
