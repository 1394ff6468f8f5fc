-- Going on from a state to where it stops.
use Rattle.std.proofs.Common.{◌≡◌, ◌⊎◌, inl, inr, ℕ, suc, ◌+◌, List, [], ◌∷◌, ◌++◌, All, append-nil, append_assoc, refl, sym, ap, ◌∙◌, subst, arith}
use Rattle.std.specs.Prelude.{Bool, Option, Some, None, slice_index}
use Rattle.std.proofs.lemmas.List.Elements.{All-head, All-tail, All-weaker}
use Rattle.wasm_ast.specs.declared.modules.Module.{Module}
use Rattle.wasm_rules.specs.Words.{Kept}
use Rattle.bv_terms.specs.Terms.{Term, Number}
use Rattle.bv_terms.specs.Making.{terms}
use Rattle.bv_terms.specs.Graphs.{TermGraph, Holds, term_of}
use Rattle.bv_terms.specs.declared.words.Cond.{Cond}
use Rattle.bv_terms.specs.declared.words.Word.TheVariants.{Term as Numbered}
use Rattle.wasm_reduction.specs.Configurations.{Config, Assume, End, Returns, Traps, Fails, Stuck}
use Rattle.wasm_reduction.specs.Runs.{Stands, Turned, Over, On, Bound, Deep, Ended as RunEnded, by_list}
use Rattle.wasm_reduction.specs.RunImages.{trace_of}
use Rattle.wasm_reduction.specs.Scripts.{Script}
use Rattle.wasm_reduction.proofs.ListedRuns.{runs-longer}
use Rattle.sym_state.specs.declared.config.Config.{Config as PathConfig}
use Rattle.sym_state.specs.declared.config.Execution.{Execution}
use Rattle.sym_state.specs.declared.config.Standing.{Standing}
use Rattle.sym_state.specs.declared.config.Standing.TheVariants.{Goes as GoesThere, Asks as AsksThere, Answered as AnsweredThere, Ends as EndsThere}
use Rattle.sym_state.specs.declared.config.End.{End as PathEnd}
use Rattle.sym_state.specs.declared.config.End.TheVariants.{Returns as EndReturns, Traps as EndTraps, Fails as EndFails, Bound as EndBound, Deep as EndDeep, Void as EndVoid}
use Rattle.wasm_image.specs.Hosts.{AreLinked}
use Rattle.wasm_machine.specs.declared.next.Question.{Question as CodeQuestion}
use Rattle.wasm_machine.specs.Values.{question}
use Rattle.wasm_machine.specs.States.{State}
use Rattle.wasm_machine.specs.declared.values.Value.{Value as CodeValue}
use Rattle.bv_terms.specs.declared.words.Word.{Word}
use Rattle.wasm_soundness.proofs.Runs.{run-unstuck}
use Rattle.sym_step.specs.declared.stops.Stop.{Stop}
use Rattle.sym_step.specs.declared.stops.Stop.TheVariants.{End as StopEnd}
use Rattle.sym_state.specs.Nodes.{CanExplore, Node, AreMet, IsMemberAt, IsMember, IsAtMost, IsLeastOf, draws_before}
use Rattle.sym_state.specs.States.{Running, Ended, Path, IsAt, IsAtQuestion, over_terms, Follows, Least, SameInput, numbers_taken}
use Rattle.sym_state.specs.Fields.{ExecutionHeld, Fields, IsStandingAt, StandingHeld, StandsBefore, StandsFor, condition_of, conditions_of, path_of, results_of, stage_in, term_at}
use Rattle.sym_state.proofs.GivenLemmas.{drawn-there, taken-again}
use Rattle.sym_state.proofs.LeastLemmas.{least-kept}
use Rattle.sym_state.proofs.PlaceLemmas.{over}
use Rattle.sym_state.proofs.QuestionTurns.{turn-before}
use Rattle.sym_step.specs.Steps.{AreNumbersAnswered, EndsSo, GoesOn, IsNumberAnswered, IsOver, StandsSomewhere, StopsSo, gone_through, stop_at, stop_of}
use Rattle.sym_state.specs.NextNodes.{gone_on}
use Rattle.sym_step.proofs.TurnLaws.{through-invocation, units-here, is-over, are-asked}
use Rattle.sym_step.proofs.StandLaws.{said}
use Rattle.sym_step.specs.code.Turning.{config_at, IsHeld, IsOf, RunsSomewhere, running, begun_at, left_of, noted_on, CanRunOn, IsRunOn, IsCarriedOn, IsHeldUnlessEnded, Says, StandsThere}

through-answers : (n : Node) (A : List ℕ) → (gone_through n A).answers ≡ n.answers ++ A
through-answers n [] = sym (append-nil n.answers)
through-answers n (a ∷ A) = through-answers (gone_on n a) A ∙ append_assoc n.answers (a ∷ []) A

-- ---- the least input

-- where numbers only have been passed, the least input is the least still
module _ (n m : Node) (can : CanExplore n.invocation) (same : m.invocation ≡ n.invocation) (more : List ℕ) (answers : m.answers ≡ n.answers ++ more) (fewer : (I : List ℕ) → IsMember m I → IsMember n I) (L : List ℕ) (mine : IsMember m L) where
  least-on : (a : ℕ) → IsNumberAnswered n a → (w : List ℕ) × IsLeastOf n w × SameInput L w → (v : List ℕ) × IsLeastOf m v × SameInput L v
  least-on a h least =
      let asked = h.asked in
      let before = turn-before n asked.turns h.question (Number h.number) asked.trace asked.over in
      let draws = asked.trace.symbols in
      let w = least.0 in
      let l = least.1 in
      let drawn : (I : List ℕ) (left : Script) → IsMemberAt n I left → draws_before left ≡ numbers_taken I draws = λ I left at. drawn-there n can asked.turns (Stands h.question (Number h.number)) asked.trace asked.over I left at in
      let w_is : w ≡ numbers_taken l.input draws = sym l.draws_are ∙ drawn l.input l.left l.member in
      let again : numbers_taken L draws ≡ numbers_taken l.input draws =
      taken-again l.input L 0 draws (λ j. ap (λ i. slice_index L i) (let none : 0 + j ≡ j = omega arith in none) ∙ least.2 j ∙ ap (λ x. slice_index x j) w_is) in
      let longer : over n.invocation (n.answers ++ more) before.turns ≡ over_terms n before.turns =
      runs-longer terms terms.symbol n.invocation.«module» n.invocation.entry n.invocation.args n.invocation.steps before.turns n.answers more (over_terms n before.turns) before.answered refl in
      let alike : over_terms m before.turns ≡ over_terms n before.turns = ap (λ i. over i m.answers before.turns) same ∙ ap (λ A. over n.invocation A before.turns) answers ∙ longer in
      least-kept m (subst (λ i. CanExplore i) (sym same) can) before.turns draws (ap (λ x. (trace_of x).symbols) alike ∙ before.drawn) L mine
      (λ k. least.2 k ∙ ap (λ x. slice_index x k) (w_is ∙ sym again))
      (λ O member.
      let q = fewer O member in
      let less = l.least O q.0 q.1 in
      subst (λ x. IsAtMost x (numbers_taken O draws)) (w_is ∙ sym again) (subst (λ x. IsAtMost w x) (drawn O q.0 q.1) less))

pub least-through : (n : Node) (p t : Path) (A : List ℕ) → CanExplore n.invocation → Follows n p → Follows (gone_through n A) t → t.conditions ≡ p.conditions → t.least ≡ p.least → AreNumbersAnswered n A → Least n p → Least (gone_through n A) t
least-through n p t [] can F G conditions least h (w, is, same) = (w, is, subst (λ L. SameInput L w) (sym least) same)
least-through n p t (a ∷ A) can F G conditions least h (w, is, same) =
    least-on n (gone_through n (a ∷ A)) can (through-invocation n (a ∷ A)) (a ∷ A) (through-answers n (a ∷ A))
    (λ I member. (F.members I).0 (subst (λ C. AreMet I C) conditions ((G.members I).1 member)))
    t.least G.least a h.0 (w, is, subst (λ L. SameInput L w) (sym least) same)

-- ---- a state that stands at a question or at its end

over-ended : (n : Node) (can : CanExplore n.invocation) (e : End Term) (x : Turned Term) (turns : ℕ) → over_terms n turns ≡ x → IsAt (Ended e) x → IsOver n (RunEnded e)
over-ended n can e (On g) turns is at = absurd at
over-ended n can e (Over (RunEnded f) trace) turns is at = is-over n can turns (RunEnded e) trace tt (is ∙ ap (λ f. Over (RunEnded f) trace) (sym at))
over-ended n can e (Over (Stands q t) trace) turns is at = absurd at
over-ended n can e (Over Bound trace) turns is at = absurd at
over-ended n can e (Over Deep trace) turns is at = absurd at

module _ (n : Node) (s : Fields) (stands : StandsFor n s) where
  asked-so : (q : CodeQuestion) (t : ℕ) → IsAtQuestion n stands.follows.place.turns (question q) (term_at s.graph t) → StopsSo n s.graph (stop_at q t)
  asked-so q t at = said n s.graph q t (are-asked n stands.can (suc stands.follows.place.turns) (question q) (term_at s.graph t) (trace_of (over_terms n stands.follows.place.turns)) at)

  ended-so : (e : PathEnd) → s.config.standing ≡ EndsThere e → EndsSo n s.graph e
  ended-so e is = go e (subst (λ w. IsStandingAt n stands.follows.place.turns s.graph w) is stands.standing) (subst (λ w. IsAt (stage_in s.«module» s.graph s.config.execution w) (over_terms n stands.follows.place.turns)) is stands.follows.place.stage)
    where
      turns : ℕ
      turns = stands.follows.place.turns

      go : (e : PathEnd) → IsStandingAt n stands.follows.place.turns s.graph (EndsThere e) → IsAt (stage_in s.«module» s.graph s.config.execution (EndsThere e)) (over_terms n stands.follows.place.turns) → EndsSo n s.graph e
      go (EndReturns results) at stage = over-ended n stands.can (Returns (results_of s.graph results)) (over_terms n stands.follows.place.turns) stands.follows.place.turns refl stage
      go (EndTraps cause) at stage = over-ended n stands.can (Traps cause) (over_terms n stands.follows.place.turns) stands.follows.place.turns refl stage
      go EndFails at stage = over-ended n stands.can Fails (over_terms n stands.follows.place.turns) stands.follows.place.turns refl stage
      go EndBound at stage = is-over n stands.can (suc stands.follows.place.turns) Bound _ tt at
      go EndDeep at stage = is-over n stands.can (suc stands.follows.place.turns) Deep _ tt at
      go EndVoid at stage = are-asked n stands.can (suc stands.follows.place.turns) Assume (Number 0) (trace_of (over_terms n stands.follows.place.turns)) at

  pub stands-says : (w : Standing) → s.config.standing ≡ w → (stop : Stop) → stop_of w ≡ Some stop → StopsSo n s.graph stop
  stands-says (AsksThere q t) is stop e =
      let same : stop_at q t ≡ stop = cc in
      subst (λ stop. StopsSo n s.graph stop) same (asked-so q t (subst (λ w. IsStandingAt n stands.follows.place.turns s.graph w) is stands.standing))
  stands-says (EndsThere e) is stop h =
      let same : StopEnd e ≡ stop = cc in
      subst (λ stop. StopsSo n s.graph stop) same (ended-so e is)
  stands-says GoesThere is stop e = absurd cc
  stands-says (AnsweredThere q t answer) is stop e = absurd cc

  -- it is answered again
  pub goes-again : (stop : Stop) → stop_of s.config.standing ≡ Some stop → GoesOn n s s stop
  goes-again stop e = record {
    answers = [];
    numbers = tt;
    stands = stands;
    stops = stands-says s.config.standing refl stop e;
    standing = e;
    same = (refl, refl, refl);
    least = λ least. least;
  }

  -- a run that goes on has something to execute
  pub executes : s.config.execution ≡ None → stop_of s.config.standing ≡ None → ⊥
  executes none goes = go s.config.standing goes (subst (λ x. IsAt (stage_in s.«module» s.graph x s.config.standing) (over_terms n stands.follows.place.turns)) none stands.follows.place.stage)
    where
      stuck : (x : Turned Term) → over_terms n stands.follows.place.turns ≡ x → IsAt (Ended Stuck) x → ⊥
      stuck (On g) is at = at
      stuck (Over (RunEnded f) trace) is at =
          run-unstuck terms terms.symbol (by_list n.answers) n.invocation.«module» n.invocation.entry n.invocation.args n.invocation.steps stands.follows.place.turns stands.can.can stands.can.fit trace
          (is ∙ ap (λ f. Over (RunEnded f) trace) (sym at))
      stuck (Over (Stands q t) trace) is at = at
      stuck (Over Bound trace) is at = at
      stuck (Over Deep trace) is at = at

      go : (w : Standing) → stop_of w ≡ None → IsAt (stage_in s.«module» s.graph None w) (over_terms n stands.follows.place.turns) → ⊥
      go GoesThere e at = stuck (over_terms n stands.follows.place.turns) refl at
      go (AnsweredThere q t answer) e at = stuck (over_terms n stands.follows.place.turns) refl at
      go (AsksThere q t) e at = cc
      go (EndsThere x) e at = cc

  -- ---- where it runs

  module _ (x : Execution) (executed : s.config.execution ≡ Some x) (goes : stop_of s.config.standing ≡ None) where
    abbrev c : Config Term
    c = begun_at s.«module» s.graph x s.config.standing

    stage-is : (path_of s).stage ≡ Running (begun_at s.«module» s.graph x s.config.standing)
    stage-is = ap (λ e. stage_in s.«module» s.graph e s.config.standing) executed ∙ go s.config.standing goes
      where
        go : (w : Standing) → stop_of w ≡ None → stage_in s.«module» s.graph (Some x) w ≡ Running (begun_at s.«module» s.graph x w)
        go GoesThere e = refl
        go (AnsweredThere q t answer) e = refl
        go (AsksThere q t) e = absurd cc
        go (EndsThere y) e = absurd cc

    units-are : (path_of s).units ≡ (begun_at s.«module» s.graph x s.config.standing).units
    units-are = units-here n stands.can (path_of s) stands.follows (begun_at s.«module» s.graph x s.config.standing) stage-is

    path-is : path_of s ≡ running (path_of s) (begun_at s.«module» s.graph x s.config.standing) s.draws s.asks
    path-is = ap (λ st. record (path_of s) { stage = st }) stage-is ∙ ap (λ u. record (path_of s) { stage = Running (begun_at s.«module» s.graph x s.config.standing); units = u }) units-are

    pub runs-of : (steps : ℕ) → n.invocation.steps ≡ steps → IsOf s.«module» steps n (running (path_of s) (begun_at s.«module» s.graph x s.config.standing) s.draws s.asks)
    runs-of steps bound = record { can = stands.can; of_module = stands.of_module; bound = bound; follows = subst (λ p. Follows n p) path-is stands.follows }

    pub can-run-on : (steps : ℕ) → n.invocation.steps ≡ steps → CanRunOn steps s x
    can-run-on steps bound = record {
      linked = subst (λ m. AreLinked m) (sym stands.of_module) stands.can.can.ready.linked;
      held = held-in s.config.execution executed stands.order.execution;
      somewhere = record { node = n; path = path_of s; is = runs-of steps bound };
    }
      where
        held-in : (o : Option Execution) → o ≡ Some x → ExecutionHeld s.graph o → IsHeld s.graph x.machine x.memory
        held-in None e h = absurd cc
        held-in (Some y) e h = let same : y ≡ x = cc in subst (λ x. IsHeld s.graph x.machine x.memory) same (record { sane = h.sane; words = h.cells })

-- ---- the state in which it stops

conds-held : (g g' : TermGraph) → Kept Holds term_of g g' → (conds : List Cond) → All (λ cond. Holds g (Numbered cond.term)) conds → All (λ cond. Holds g' (Numbered cond.term)) conds
conds-held g g' kept conds h = All-weaker (λ cond. Holds g (Numbered cond.term)) (λ cond. Holds g' (Numbered cond.term)) (λ cond held. (kept (Numbered cond.term) held).0) conds h

conditions-kept : (g g' : TermGraph) → Kept Holds term_of g g' → (conds : List Cond) → All (λ cond. Holds g (Numbered cond.term)) conds → conditions_of g' conds ≡ conditions_of g conds
conditions-kept g g' kept [] h = refl
conditions-kept g g' kept (cond ∷ conds) h =
    ap (λ t. (t, cond.answer) ∷ conditions_of g' conds) (kept (Numbered cond.term) (All-head (λ cond. Holds g (Numbered cond.term)) cond conds h)).1
    ∙ ap (λ l. condition_of g cond ∷ l) (conditions-kept g g' kept conds (All-tail (λ cond. Holds g (Numbered cond.term)) cond conds h))

stage-left : (m : Module) (g : TermGraph) (x : Execution) (w : Standing) → stage_in m g (left_of w x) w ≡ stage_in m g (Some x) w
stage-left m g x GoesThere = refl
stage-left m g x (AsksThere q t) = refl
stage-left m g x (AnsweredThere q t answer) = refl
stage-left m g x (EndsThere (EndReturns results)) = refl
stage-left m g x (EndsThere (EndTraps cause)) = refl
stage-left m g x (EndsThere EndFails) = refl
stage-left m g x (EndsThere EndBound) = refl
stage-left m g x (EndsThere EndDeep) = refl
stage-left m g x (EndsThere EndVoid) = refl

held-left : (g : TermGraph) (x : Execution) (w : Standing) → IsHeldUnlessEnded g x.machine x.memory w → ExecutionHeld g (left_of w x)
held-left g x GoesThere h = record { sane = h.sane; cells = h.words }
held-left g x (AsksThere q t) h = record { sane = h.sane; cells = h.words }
held-left g x (AnsweredThere q t answer) h = record { sane = h.sane; cells = h.words }
held-left g x (EndsThere (EndReturns results)) h = tt
held-left g x (EndsThere (EndTraps cause)) h = tt
held-left g x (EndsThere EndFails) h = tt
held-left g x (EndsThere EndBound) h = record { sane = h.sane; cells = h.words }
held-left g x (EndsThere EndDeep) h = record { sane = h.sane; cells = h.words }
held-left g x (EndsThere EndVoid) h = record { sane = h.sane; cells = h.words }

-- where something is said, it is of a stop
says-some : (n : Node) (g : TermGraph) (o : Option Stop) → Says n g o → o ≡ None → ⊥
says-some n g None h e = h
says-some n g (Some stop) h e = cc

says-stop : (n : Node) (g : TermGraph) (o : Option Stop) (stop : Stop) → Says n g o → o ≡ Some stop → StopsSo n g stop
says-stop n g None stop h e = absurd h
says-stop n g (Some other) stop h e = let same : other ≡ stop = cc in subst (λ s. StopsSo n g s) same h

pub stops-somewhere : (steps : ℕ) (s : Fields) (x : Execution) (t : Fields) (y : Execution) (w : Standing) → CanRunOn steps s x → IsRunOn steps s x t y w → stop_of w ≡ None → ⊥
stops-somewhere steps s x t y w can on none =
    let at = on.there can.somewhere.node can.somewhere.path can.somewhere.is in
    says-some (gone_through can.somewhere.node at.answers) t.graph (stop_of w) at.says none

-- the state with nothing to execute, from which it is taken out
abbrev pub taken_out : Fields → Fields
taken_out s = record s { config = record { execution = None; standing = s.config.standing } }

module _ (n : Node) (s : Fields) (stands : StandsFor n s) (x : Execution) (executed : s.config.execution ≡ Some x) (goes : stop_of s.config.standing ≡ None) (steps : ℕ) (bound : n.invocation.steps ≡ steps)
    (t : Fields) (stop : Stop) (carried : IsCarriedOn steps (taken_out s) x t stop) where
  abbrev end : Fields
  end = record s { config = record { execution = left_of carried.standing carried.after; standing = carried.standing }; graph = t.graph; draws = t.draws; asks = t.asks; units = t.units }

  end-is : t ≡ record s { config = record { execution = left_of carried.standing carried.after; standing = carried.standing }; graph = t.graph; draws = t.draws; asks = t.asks; units = t.units }
  end-is =
      let with_config : Fields → Fields = λ u. record u { config = t.config } in
      let configured : PathConfig → Fields = λ k. record s { config = k; graph = t.graph; draws = t.draws; asks = t.asks; units = t.units } in
      ap with_config carried.on.same ∙ ap configured carried.config

  there : StandsThere s.«module» n (path_of s) t.graph carried.after t.draws t.asks t.units carried.standing
  there = carried.on.there n (path_of s) (runs-of n s stands x executed goes steps bound)

  m : Node
  m = gone_through n there.answers

  path-end : path_of (record s { config = record { execution = left_of carried.standing carried.after; standing = carried.standing }; graph = t.graph; draws = t.draws; asks = t.asks; units = t.units })
      ≡ record (path_of s) { stage = stage_in s.«module» t.graph (Some carried.after) carried.standing; draws = t.draws; asks = t.asks; units = t.units }
  path-end =
      ap (λ st. record (path_of s) { stage = st; conditions = conditions_of t.graph s.conds; draws = t.draws; asks = t.asks; units = t.units }) (stage-left s.«module» t.graph carried.after carried.standing)
      ∙ ap (λ C. record (path_of s) { stage = stage_in s.«module» t.graph (Some carried.after) carried.standing; conditions = C; draws = t.draws; asks = t.asks; units = t.units }) (conditions-kept s.graph t.graph carried.on.kept s.conds stands.order.conds)

  both : (F : Follows (gone_through n there.answers) (path_of (record s { config = record { execution = left_of carried.standing carried.after; standing = carried.standing }; graph = t.graph; draws = t.draws; asks = t.asks; units = t.units })))
      × IsStandingAt (gone_through n there.answers) F.place.turns t.graph carried.standing
  both = subst (λ p. (F : Follows (gone_through n there.answers) p) × IsStandingAt (gone_through n there.answers) F.place.turns t.graph carried.standing) (sym path-end) (there.follows, there.at)

  stands-end : StandsFor (gone_through n there.answers) (record s { config = record { execution = left_of carried.standing carried.after; standing = carried.standing }; graph = t.graph; draws = t.draws; asks = t.asks; units = t.units })
  stands-end = record {
    of_module = stands.of_module ∙ ap (λ i. i.«module») (sym (through-invocation n there.answers));
    can = subst (λ i. CanExplore i) (sym (through-invocation n there.answers)) stands.can;
    order = record {
      execution = held-left t.graph carried.after carried.standing carried.on.held;
      standing = carried.on.order;
      conds = conds-held s.graph t.graph carried.on.kept s.conds stands.order.conds;
      whole = stands.order.whole;
    };
    follows = both.0;
    standing = both.1;
  }

  conditions-end : conditions_of t.graph s.conds ≡ conditions_of s.graph s.conds
  conditions-end = conditions-kept s.graph t.graph carried.on.kept s.conds stands.order.conds

  pub goes-on-to : GoesOn n s t stop
  goes-on-to = subst (λ t. GoesOn n s t stop) (sym end-is) (record {
    answers = there.answers;
    numbers = there.numbers;
    stands = stands-end;
    stops = says-stop (gone_through n there.answers) t.graph (stop_of carried.standing) stop there.says carried.stops;
    standing = carried.stops;
    same = (refl, refl, refl);
    least = least-through n (path_of s) (path_of (record s { config = record { execution = left_of carried.standing carried.after; standing = carried.standing }; graph = t.graph; draws = t.draws; asks = t.asks; units = t.units })) there.answers
        stands.can stands.follows stands-end.follows conditions-end refl there.numbers;
  })

  pub whole-still : t.broken ≡ s.broken
  whole-still = ap (λ u. u.broken) end-is

-- ---- the calls

noted-held : (g : TermGraph) (w : Standing) (s : State (CodeValue Word)) (cells : List ℕ) → IsHeld g s cells → IsHeld g (noted_on w s) cells
noted-held g GoesThere s cells h = h
noted-held g (AsksThere q t) s cells h = h
noted-held g (AnsweredThere q t answer) s cells h = record {
  sane = record {
    well_formed = record { frame = h.sane.well_formed.frame; callers = h.sane.well_formed.callers; short = h.sane.well_formed.short };
    operands = h.sane.operands;
    locals = h.sane.locals;
    globals = h.sane.globals;
  };
  words = h.words;
}
noted-held g (EndsThere e) s cells h = h

pub run-needs : (steps : ℕ) (v s : Fields) → v ≡ s → (x : Execution) (m : Module) → m ≡ v.«module» → (k : State (CodeValue Word)) → k ≡ noted_on v.config.standing x.machine → CanRunOn steps s x
    → AreLinked m × IsHeld v.graph k x.memory × RunsSomewhere m steps (config_at m v.graph k x.memory) v.draws v.asks
run-needs steps v s vs x m mv k kv can =
    let h : CanRunOn steps v x = subst (λ s. CanRunOn steps s x) (sym vs) can in
    subst (λ m. AreLinked m × IsHeld v.graph k x.memory × RunsSomewhere m steps (config_at m v.graph k x.memory) v.draws v.asks) (sym mv)
    (subst (λ k. AreLinked v.«module» × IsHeld v.graph k x.memory × RunsSomewhere v.«module» steps (config_at v.«module» v.graph k x.memory) v.draws v.asks) (sym kv)
    (h.linked, noted-held v.graph v.config.standing x.machine x.memory h.held, h.somewhere))

pub run-on : (steps : ℕ) (v s : Fields) → v ≡ s → (x : Execution) (m : Module) → m ≡ v.«module» → (k : State (CodeValue Word)) → k ≡ noted_on v.config.standing x.machine
    → (g : TermGraph) (draws : List Bool) (asks units : ℕ) (y : Execution) (w : Standing)
    → ((n : Node) (p : Path) → IsOf m steps n (running p (config_at m v.graph k x.memory) v.draws v.asks) → StandsThere m n p g y draws asks units w)
    → StandingHeld g w → IsHeldUnlessEnded g y.machine y.memory w → Kept Holds term_of v.graph g → IsRunOn steps s x (record v { graph = g; draws = draws; asks = asks; units = units }) y w
run-on steps v s vs x m mv k kv g draws asks units y w there order held kept =
    subst (λ s. IsRunOn steps s x (record v { graph = g; draws = draws; asks = asks; units = units }) y w) vs (record {
      same = refl;
      there =
          subst (λ k. (n : Node) (p : Path) → IsOf v.«module» steps n (running p (config_at v.«module» v.graph k x.memory) v.draws v.asks) → StandsThere v.«module» n p g y draws asks units w) kv
          (subst (λ m. (n : Node) (p : Path) → IsOf m steps n (running p (config_at m v.graph k x.memory) v.draws v.asks) → StandsThere m n p g y draws asks units w) mv there);
      order = order;
      held = held;
      kept = kept;
    })

-- where a state isn't at a stop, it stands for a node
stands-on : (s : Fields) (steps : ℕ) → StandsSomewhere s steps → stop_of s.config.standing ≡ None → (n : Node) × (n.invocation.steps ≡ steps) × StandsFor n s
stands-on s steps h goes = go h.stands
  where
    go : StandsFor h.node s ⊎ ((next : Node) × (q : CodeQuestion) × (t : ℕ) × StandsBefore h.node next q t s) → (n : Node) × (n.invocation.steps ≡ steps) × StandsFor n s
    go (inl stands) = (h.node, h.bound, stands)
    go (inr before) = let some : None ≡ Some (stop_at before.1 before.2) = sym goes ∙ ap stop_of before.3.standing in absurd cc

pub has-execution : (s : Fields) (steps : ℕ) → StandsSomewhere s steps → stop_of s.config.standing ≡ None → s.config.execution ≡ None → ⊥
has-execution s steps h goes none = let n = stands-on s steps h goes in executes n.0 s n.2 none goes

pub taken-view : (v s : Fields) → v ≡ s → (e : Option Execution) → e ≡ None → record v { config = record { execution = e; standing = v.config.standing } } ≡ taken_out s
taken-view v s vs e none =
    let executing : Option Execution → Fields = λ e. record v { config = record { execution = e; standing = v.config.standing } } in
    ap executing none ∙ ap (λ s. taken_out s) vs

pub can-be-run : (s : Fields) (steps : ℕ) → StandsSomewhere s steps → stop_of s.config.standing ≡ None → (x : Execution) → s.config.execution ≡ Some x → (u : Fields) → u ≡ taken_out s → CanRunOn steps u x
can-be-run s steps h goes x executed u is =
    let n = stands-on s steps h goes in
    let can = can-run-on n.0 s n.2 x executed goes steps n.1 in
    subst (λ u. CanRunOn steps u x) (sym is) (record { linked = can.linked; held = can.held; somewhere = can.somewhere })
