-- What a turn of a run over terms makes of a path that stands for a node.
use Rattle.std.proofs.Common.{◌≡◌, ◌≢◌, ◌↔◌, ℕ, zero, suc, ◌*◌, ◌^◌, ◌≤◌, List, [], ◌∷◌, ◌++◌, length, length-append, refl, sym, ap, ◌∙◌, subst, arith}
use Rattle.std.specs.Prelude.{Bool, true, false, ◌&&◌, nat_lt, nat_le, if◌then◌else◌, Some, None, slice_get}
use Rattle.bv_terms.specs.Terms.{Term, Number, Symbol, HasBits, value_of}
use Rattle.bv_terms.specs.Making.{terms}
use Rattle.wasm_reduction.specs.Configurations.{Config, Question, Test, Pick, Assume, End, Assumes, Stuck, Next, Goes, Draws, Asks, Ends}
use Rattle.wasm_reduction.specs.Steps.{step, answered, with_symbol}
use Rattle.wasm_reduction.specs.Runs.{Trace, Going, Halt, Stands, Ended as RunEnded, Bound, Deep, Turned, On, Over, follow, follow_by, then_follow, is_due, most_frames, by_list, replied, answer_of}
use Rattle.wasm_reduction.specs.RunImages.{IsAnswered, trace_of, turned_image}
use Rattle.wasm_reduction.specs.Outermost.{Ready}
use Rattle.wasm_reduction.specs.Widths.{HasWidths}
use Rattle.wasm_reduction.specs.Scripts.{Script, Finished, Asked, IsFirst, Past, Passes, told, answers_in}
use Rattle.wasm_reduction.proofs.ShortModules.{few-answers-law}
use Rattle.wasm_reduction.proofs.ScriptEnds.{kept}
use Rattle.wasm_reduction.proofs.ScriptLaws.{left-comes, through-answers, told-answers}
use Rattle.wasm_reduction.proofs.ScriptRuns.{first-of, script-told}
use Rattle.wasm_ast.specs.declared.runs.Outcome.TheVariants.{Assumes as AssumeFailed}
use Rattle.wasm_soundness.proofs.Runs.{run-unstuck}
use Rattle.sym_state.specs.Nodes.{CanExplore, Invocation, Node, AreMet, IsMember}
use Rattle.sym_state.specs.NextNodes.{gone_on}
use Rattle.sym_state.specs.States.{Running, Ended, Path, over_terms, IsAt, units_in, units_at, IsPlace, Follows, IsAtQuestion, resumed}
use Rattle.sym_state.proofs.PlaceLemmas.{at-answered, turn-next, units-on}
use Rattle.sym_state.proofs.SideLemmas.{goes-follows}
use Rattle.sym_state.proofs.ValueLemmas.{place-values, members-ask, listed}
use Rattle.sym_step.specs.Steps.{IsNumberAnswered, AreNumbersAnswered, gone_through, IsOver, AreAsked}
use Rattle.sym_step.specs.code.Turning.{IsFree}
use Rattle.sym_step.proofs.ReachedTerms.{turn, reached-ready, reached-units, reached-widths}

-- where the run over terms is that a path runs
pub record IsGoing (m : Node) (turns : ℕ) (c : Config Term) : Type 0 where
  pub at : Going Term
  pub on : over_terms m turns ≡ On at
  pub is : c ≡ at.config

pub going : (m : Node) (p : Path) (c : Config Term) (h : IsPlace m p) → p.stage ≡ Running c → IsGoing m h.turns c
going m p c h is = at (over_terms m h.turns) refl (subst (λ s. IsAt s (over_terms m h.turns)) is h.stage)
  where
    at : (x : Turned Term) → over_terms m h.turns ≡ x → IsAt (Running c) x → IsGoing m h.turns c
    at (On g) e same = record { at = g; on = e; is = same }
    at (Over halt trace) e same = absurd same

module _ (m : Node) (turns : ℕ) (c : Config Term) (g : IsGoing m turns c) where
  next-turn : over_terms m (suc turns) ≡ turn m g.at
  next-turn = turn-next m.invocation m.answers turns ∙ ap (λ x. then_follow x (follow terms terms.symbol (by_list m.answers) m.invocation.«module» m.invocation.steps)) g.on

  trace-is : g.at.trace ≡ trace_of (over_terms m turns)
  trace-is = ap (λ x. trace_of x) (sym g.on)

  abbrev steps : ℕ
  steps = m.invocation.steps

  abbrev by : Next Term → Turned Term
  by x = follow_by terms.symbol (by_list m.answers) g.at x

  pub deep-turn : nat_lt most_frames (length c.callers) ≡ true → over_terms m (suc turns) ≡ Over Deep (trace_of (over_terms m turns))
  deep-turn e =
      next-turn
      ∙ ap (λ b. if b then Over Deep g.at.trace else if is_due g.at.config.frame.here.code g.at.config.callers && nat_le m.invocation.steps g.at.config.units then Over Bound g.at.trace else follow_by terms.symbol (by_list m.answers) g.at (step terms m.invocation.«module» g.at.config))
      (ap (λ c. nat_lt most_frames (length c.callers)) (sym g.is) ∙ e)
      ∙ ap (λ t. Over Deep t) trace-is

  pub bound-turn : nat_lt most_frames (length c.callers) ≡ false → is_due c.frame.here.code c.callers && nat_le m.invocation.steps c.units ≡ true → over_terms m (suc turns) ≡ Over Bound (trace_of (over_terms m turns))
  bound-turn e f =
      next-turn
      ∙ ap (λ b. if b then Over Deep g.at.trace else if is_due g.at.config.frame.here.code g.at.config.callers && nat_le m.invocation.steps g.at.config.units then Over Bound g.at.trace else follow_by terms.symbol (by_list m.answers) g.at (step terms m.invocation.«module» g.at.config))
      (ap (λ c. nat_lt most_frames (length c.callers)) (sym g.is) ∙ e)
      ∙ ap (λ b. if b then Over Bound g.at.trace else follow_by terms.symbol (by_list m.answers) g.at (step terms m.invocation.«module» g.at.config))
      (ap (λ c. is_due c.frame.here.code c.callers && nat_le m.invocation.steps c.units) (sym g.is) ∙ f)
      ∙ ap (λ t. Over Bound t) trace-is

  pub free-turn : IsFree m.invocation.steps c → (x : Next Term) → step terms m.invocation.«module» c ≡ x → over_terms m (suc turns) ≡ follow_by terms.symbol (by_list m.answers) g.at x
  free-turn free x gives =
      next-turn
      ∙ ap (λ b. if b then Over Deep g.at.trace else if is_due g.at.config.frame.here.code g.at.config.callers && nat_le m.invocation.steps g.at.config.units then Over Bound g.at.trace else follow_by terms.symbol (by_list m.answers) g.at (step terms m.invocation.«module» g.at.config))
      (ap (λ c. nat_lt most_frames (length c.callers)) (sym g.is) ∙ free.frames)
      ∙ ap (λ b. if b then Over Bound g.at.trace else follow_by terms.symbol (by_list m.answers) g.at (step terms m.invocation.«module» g.at.config))
      (ap (λ c. is_due c.frame.here.code c.callers && nat_le m.invocation.steps c.units) (sym g.is) ∙ free.units)
      ∙ ap (λ y. follow_by terms.symbol (by_list m.answers) g.at y) (ap (λ c. step terms m.invocation.«module» c) (sym g.is) ∙ gives)

passing : (q : Question) (v : ℕ) → (q ≡ Assume → v ≢ 0) → q ≡ Assume → answer_of q v ≢ 0
passing Test v passes e = absurd cc
passing Pick v passes e = absurd cc
passing Assume zero passes e = absurd (passes refl refl)
passing Assume (suc v) passes e = λ f. omega (arith, f)

none-left : (A : List ℕ) → slice_get A (length A) ≡ None
none-left [] = refl
none-left (a ∷ A) = none-left A

module _ (m : Node) (can : CanExplore m.invocation) where
  -- a run that is over, and doesn't stand at a question
  pub is-over : (turns : ℕ) (halt : Halt Term) (trace : Trace) → IsAnswered (Over halt trace) → over_terms m turns ≡ Over halt trace → IsOver m halt
  is-over turns halt trace answered e = record {
    turns = turns;
    trace = trace;
    over = e;
    members = λ I member. place-values m can I turns member (subst (λ x. IsAnswered x) (sym e) answered) ∙ ap (λ x. turned_image (value_of I) x) e;
  }

  pub are-asked : (turns : ℕ) (q : Question) (t : Term) (trace : Trace) → over_terms m turns ≡ Over (Stands q t) trace → AreAsked m q t
  are-asked turns q t trace e = record { asked = record { turns = turns; trace = trace; over = e }; members = members-ask m can q t turns trace e }

  module _ (p : Path) (h : Follows m p) (c : Config Term) (is : p.stage ≡ Running c) where
    abbrev k : ℕ
    k = h.place.turns

    here : IsGoing m h.place.turns c
    here = going m p c h.place is

    all-answers : here.at.trace.answers ≡ m.answers
    all-answers = ap (λ x. (trace_of x).answers) (sym here.on) ∙ h.place.answered

    all-draws : p.draws ≡ here.at.trace.symbols
    all-draws = h.place.draws ∙ ap (λ x. (trace_of x).symbols) here.on

    pub units-here : p.units ≡ c.units
    units-here = h.place.units ∙ units-on m h.place.turns here.at here.on ∙ ap (λ c. c.units) (sym here.is)

    -- the path at the next turn
    abbrev pub moved : (q : Path) (x : Turned Term) → over_terms m (suc h.place.turns) ≡ x → IsAt q.stage x → (trace_of x).answers ≡ m.answers → q.draws ≡ (trace_of x).symbols
        → q.asks ≡ p.asks → q.units ≡ units_in x (units_at m h.place.turns) → q.conditions ≡ p.conditions → q.choices ≡ p.choices → q.least ≡ p.least → Follows m q
    moved q x e stage answers draws asks units conditions choices least =
        let at : IsAt q.stage (over_terms m (suc h.place.turns)) = subst (λ x. IsAt q.stage x) (sym e) stage in
        record {
          place = record {
            turns = suc h.place.turns;
            stage = at;
            answered = ap (λ x. (trace_of x).answers) e ∙ answers;
            values = λ I member. place-values m can I (suc h.place.turns) member (at-answered q.stage (over_terms m (suc h.place.turns)) at);
            draws = draws ∙ ap (λ x. (trace_of x).symbols) (sym e);
            asks = asks ∙ h.place.asks;
            units = units ∙ ap (λ x. units_in x (units_at m h.place.turns)) (sym e);
          };
          members = subst (λ C. (I : List ℕ) → AreMet I C ↔ IsMember m I) (sym conditions) h.members;
          conditions = conditions ∙ h.conditions;
          choices = choices ∙ h.choices;
          least = subst (λ I. IsMember m I) (sym least) h.least;
        }

    pub goes-on : IsFree m.invocation.steps c → (d : Config Term) → step terms m.invocation.«module» c ≡ Goes d → Follows m (record p { stage = Running d; units = d.units })
    goes-on free d gives =
        moved (record p { stage = Running d; units = d.units }) (On (record (here.at) { config = d })) (free-turn m h.place.turns c here free (Goes d) gives) refl all-answers all-draws refl refl refl refl refl

    pub draws-on : IsFree m.invocation.steps c → (wide : Bool) (d : Config Term) → step terms m.invocation.«module» c ≡ Draws wide d
        → Follows m (record p { stage = Running (with_symbol d wide (Symbol (length p.draws) wide)); draws = p.draws ++ wide ∷ []; units = d.units })
    draws-on free wide d gives =
        let w : Term = Symbol (length here.at.trace.symbols) wide in
        let x : Turned Term = On (record { config = with_symbol d wide (Symbol (length here.at.trace.symbols) wide); trace = record (here.at.trace) { symbols = here.at.trace.symbols ++ wide ∷ [] } }) in
        moved (record p { stage = Running (with_symbol d wide (Symbol (length p.draws) wide)); draws = p.draws ++ wide ∷ []; units = d.units }) x
        (free-turn m h.place.turns c here free (Draws wide d) gives)
        (ap (λ l. with_symbol d wide (Symbol (length l) wide)) all-draws) all-answers (ap (λ l. l ++ wide ∷ []) all-draws) refl refl refl refl refl

    pub ends-so : IsFree m.invocation.steps c → (e : End Term) → step terms m.invocation.«module» c ≡ Ends e → Follows m (record p { stage = Ended e })
    ends-so free e gives =
        moved (record p { stage = Ended e }) (Over (RunEnded e) here.at.trace) (free-turn m h.place.turns c here free (Ends e) gives) refl all-answers all-draws refl h.place.units refl refl refl

    pub ends-over : IsFree m.invocation.steps c → (e : End Term) → step terms m.invocation.«module» c ≡ Ends e → IsOver m (RunEnded e)
    ends-over free e gives = is-over (suc h.place.turns) (RunEnded e) here.at.trace tt (free-turn m h.place.turns c here free (Ends e) gives)

    pub never-stuck : IsFree m.invocation.steps c → step terms m.invocation.«module» c ≢ Ends Stuck
    never-stuck free gives =
        run-unstuck terms terms.symbol (by_list m.answers) m.invocation.«module» m.invocation.entry m.invocation.args m.invocation.steps (suc h.place.turns) can.can can.fit here.at.trace
        (free-turn m h.place.turns c here free (Ends Stuck) gives)

    -- the run of a member fails no assume
    pub never-assumes : IsFree m.invocation.steps c → step terms m.invocation.«module» c ≢ Ends Assumes
    never-assumes free gives = go h.least.0 first h.least.1.past
      where
        i : Invocation
        i = m.invocation

        I : List ℕ
        I = p.least

        over : over_terms m (suc h.place.turns) ≡ Over (RunEnded Assumes) here.at.trace
        over = free-turn m h.place.turns c here free (Ends Assumes) gives

        first : IsFirst p.least (RunEnded Assumes) here.at.trace h.least.0
        first =
            first-of m.invocation.«module» m.invocation.entry m.invocation.args p.least m.invocation.steps m.answers h.least.0
            (left-comes m.invocation.«module» m.invocation.entry m.invocation.args p.least m.invocation.steps Passes m.answers h.least.1.script h.least.0 h.least.1.is_script h.least.1.past)
            (suc h.place.turns) (RunEnded Assumes) here.at.trace
            (listed m can p.least (suc h.place.turns) ∙ ap (λ x. turned_image (value_of p.least) x) over)

        go : (left : Script) → IsFirst p.least (RunEnded Assumes) here.at.trace left → Past m.answers h.least.1.script left → ⊥
        go (Finished o d) f past =
            let same : Some AssumeFailed ≡ Some o = f.0 in
            kept m.invocation.«module» m.invocation.entry m.invocation.args p.least m.invocation.steps m.answers h.least.1.script o d h.least.1.is_script past (cc)
        go (Asked q v d rest) f past = let none : RunEnded Assumes ≡ Stands q v = f.0 in cc

    -- a path has had few answers
    pub few-asks : p.asks ≤ 2 ^ 32 * m.invocation.steps
    few-asks =
        let at = h.least.1 in
        let told_so : (told at.script).answers ≡ m.answers ++ answers_in h.least.0 = told-answers [] at.script ∙ through-answers Passes m.answers at.script h.least.0 at.past in
        let few : length (told at.script).answers ≤ 2 ^ 32 * m.invocation.steps =
        few-answers-law m.invocation.«module» m.invocation.entry m.invocation.args p.least m.invocation.steps (told at.script) can.can.shape can.some
        (script-told m.invocation.«module» m.invocation.entry m.invocation.args p.least m.invocation.steps at.script at.is_script) in
        omega (arith, few, ap (λ l. length l) told_so, length-append m.answers (answers_in h.least.0), h.place.asks)

    -- ---- what falls

    pub ready : Ready c
    ready = subst (λ c. Ready c) (sym here.is) (reached-ready m h.place.turns here.at here.on)

    pub units-below : c.units ≤ m.invocation.steps
    units-below = subst (λ c. c.units ≤ m.invocation.steps) (sym here.is) (reached-units m h.place.turns here.at here.on)

    pub wide : HasWidths HasBits c
    wide = subst (λ c. HasWidths HasBits c) (sym here.is) (reached-widths m can h.place.turns here.at here.on)

    pub at-question : IsFree m.invocation.steps c → (q : Question) (t : Term) → step terms m.invocation.«module» c ≡ Asks q t → IsAtQuestion m h.place.turns q t
    at-question free q t gives =
        free-turn m h.place.turns c here free (Asks q t) gives
        ∙ ap (λ o. replied here.at q t o) (ap (λ l. slice_get m.answers (length l)) all-answers ∙ none-left m.answers)
        ∙ ap (λ s. Over (Stands q t) s) (ap (λ x. trace_of x) (sym here.on))

    pub question-asked : (q : Question) (t : Term) → IsAtQuestion m h.place.turns q t → AreAsked m q t
    question-asked q t at = are-asked (suc h.place.turns) q t (trace_of (over_terms m h.place.turns)) at

    -- a number answers its question
    pub number-answers : (q : Question) (v : ℕ) → IsAtQuestion m h.place.turns q (Number v) → (q ≡ Assume → v ≢ 0) → Follows (gone_on m (answer_of q v)) (resumed p (answer_of q v))
    number-answers q v at passes = goes-follows m p can h q (Number v) (answer_of q v) at (λ I member. refl) (passing q v passes)

    pub number-answered : (q : Question) (v : ℕ) → IsAtQuestion m h.place.turns q (Number v) → (q ≡ Assume → v ≢ 0) → IsNumberAnswered m (answer_of q v)
    number-answered q v at passes = record {
      question = q;
      number = v;
      asked = record { turns = suc h.place.turns; trace = trace_of (over_terms m h.place.turns); over = at };
      answers = refl;
      passes = passing q v passes;
    }

-- ---- answers in a row

pub through-more : (n : Node) (answers : List ℕ) (a : ℕ) → gone_through n (answers ++ a ∷ []) ≡ gone_on (gone_through n answers) a
through-more n [] a = refl
through-more n (b ∷ answers) a = through-more (gone_on n b) answers a

pub numbers-more : (n : Node) (answers : List ℕ) (a : ℕ) → AreNumbersAnswered n answers → IsNumberAnswered (gone_through n answers) a → AreNumbersAnswered n (answers ++ a ∷ [])
numbers-more n [] a h k = (k, tt)
numbers-more n (b ∷ answers) a h k = (h.0, numbers-more (gone_on n b) answers a h.1 k)

pub through-invocation : (n : Node) (answers : List ℕ) → (gone_through n answers).invocation ≡ n.invocation
through-invocation n [] = refl
through-invocation n (a ∷ answers) = through-invocation (gone_on n a) answers
