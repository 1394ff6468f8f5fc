-- Questions about numbers are answered, and the next step is taken.
use Rattle.std.proofs.Common.{◌≡◌, ◌≢◌, ℕ, ◌+◌, ◌*◌, ◌^◌, ◌<◌, ◌≤◌, List, [], ◌∷◌, ◌++◌, map, length-append, refl, sym, ap, ◌∙◌, subst, arith}
use Rattle.std.specs.Prelude.{IsTrue, Bool}
use Rattle.std.proofs.lemmas.Bool.Decides.{nat_tests}
use Rattle.std.specs.List.{AllByRecursion}
use Rattle.wasm_ast.specs.declared.modules.Module.{Module}
use Rattle.wasm_rules.specs.Words.{Kept}
use Rattle.bv_terms.specs.Terms.{Term, Number, HasBits}
use Rattle.bv_terms.specs.Making.{terms}
use Rattle.bv_terms.specs.Graphs.{TermGraph, Holds, term_of}
use Rattle.bv_terms.specs.declared.words.Word.{Word}
use Rattle.bv_terms.specs.declared.words.Word.TheVariants.{Num, Term as Numbered}
use Rattle.wasm_reduction.specs.Configurations.{Config, Question, Assume, Next, Asks}
use Rattle.wasm_reduction.specs.Steps.{step, answered}
use Rattle.wasm_reduction.specs.Runs.{answer_of, is_due}
use Rattle.wasm_reduction.specs.Outermost.{Ready}
use Rattle.wasm_reduction.specs.Widths.{HasWidths}
use Rattle.wasm_reduction.proofs.Endings.{left, Falls, step-falls}
use Rattle.wasm_machine.specs.declared.next.Question.{Question as CodeQuestion}
use Rattle.wasm_machine.specs.declared.next.Question.TheVariants.{Test as CodeTest, Pick as CodePick, Assume as CodeAssume}
use Rattle.wasm_machine.specs.declared.next.Next.{Next as CodeNext}
use Rattle.wasm_machine.specs.declared.next.Next.TheVariants.{Goes as CodeGoes, Draws as CodeDraws, Asks as CodeAsks, Ends as CodeEnds}
use Rattle.wasm_machine.specs.declared.values.Value.{Value as CodeValue}
use Rattle.wasm_machine.specs.Acts.{Sane, After, BytesAfter}
use Rattle.wasm_machine.specs.Configurations.{config_of, configuration}
use Rattle.wasm_machine.specs.States.{State}
use Rattle.wasm_machine.specs.Values.{question}
use Rattle.wasm_machine.specs.code.Moves.{noted}
use Rattle.wasm_machine.proofs.Images.{image-kept, sane-kept}
use Rattle.sym_state.specs.Nodes.{CanExplore, Node, most_steps}
use Rattle.sym_state.specs.NextNodes.{gone_on}
use Rattle.sym_state.specs.States.{Path, Follows, IsAtQuestion}
use Rattle.sym_state.specs.Fields.{words_of_cells}
use Rattle.sym_step.specs.Steps.{AreNumbersAnswered, IsNumberAnswered, gone_through}
use Rattle.sym_step.specs.code.Turning.{config_at, IsHeld, IsFree, running, IsOf, RunsSomewhere, Reaches, AllReach, told_at, IsSettled, IsHeldAfter, Settles}
use Rattle.sym_step.proofs.TurnLaws.{at-question, number-answers, number-answered, through-more, numbers-more, through-invocation, few-asks, ready, units-below, wide}

-- ---- words that were made before

pub words-kept : (g g' : TermGraph) → Kept Holds term_of g g' → (ws : List Word) → AllByRecursion (Holds g) ws → map (term_of g') ws ≡ map (term_of g) ws
words-kept g g' k [] h = refl
words-kept g g' k (w ∷ ws) h = ap (λ t. t ∷ map (term_of g') ws) (k w h.0).1 ∙ ap (λ l. term_of g w ∷ l) (words-kept g g' k ws h.1)

pub all-kept : (g g' : TermGraph) → Kept Holds term_of g g' → (ws : List Word) → AllByRecursion (Holds g) ws → AllByRecursion (Holds g') ws
all-kept g g' k [] h = tt
all-kept g g' k (w ∷ ws) h = ((k w h.0).0, all-kept g g' k ws h.1)

pub config-kept : (m : Module) (g g' : TermGraph) → Kept Holds term_of g g' → (s : State (CodeValue Word)) (cells : List ℕ) → IsHeld g s cells → config_at m g' s cells ≡ config_at m g s cells
config-kept m g g' k s cells h =
    ap (λ b. configuration (term_of g') m b s) (words-kept g g' k (words_of_cells cells) h.words)
    ∙ ap (λ x. config_of m (map (term_of g) (words_of_cells cells)) x) (image-kept Holds term_of g g' k s h.sane)

pub held-kept : (g g' : TermGraph) → Kept Holds term_of g g' → (s : State (CodeValue Word)) (cells : List ℕ) → IsHeld g s cells → IsHeld g' s cells
held-kept g g' k s cells h = record { sane = sane-kept Holds term_of g g' k s h.sane; words = all-kept g g' k (words_of_cells cells) h.words }

pub kept-more : (g g' g'' : TermGraph) → Kept Holds term_of g g' → Kept Holds term_of g' g'' → Kept Holds term_of g g''
kept-more g g' g'' h k = λ w held. let a = h w held in let b = k w a.0 in (b.0, b.1 ∙ a.1)

pub kept-self : (g : TermGraph) → Kept Holds term_of g g
kept-self g = λ w held. (held, refl)

-- ---- later paths

pub later : (m : Module) (steps : ℕ) (n : Node) (p q : Path) → IsOf m steps n p → (r : Reaches n q) → IsOf m steps (gone_through n r.answers) q
later m steps n p q is r =
    let same = through-invocation n r.answers in
    record {
      can = subst (λ i. CanExplore i) (sym same) is.can;
      of_module = is.of_module ∙ ap (λ i. i.«module») (sym same);
      bound = ap (λ i. i.steps) same ∙ is.bound;
      follows = r.follows;
    }

pub reaches-self : (n : Node) (p : Path) → Follows n p → Reaches n p
reaches-self n p h = record { answers = []; numbers = tt; follows = h }

-- what is known wherever a path runs
pub record Known (m : Module) (steps : ℕ) (c : Config Term) (asks : ℕ) : Type 0 where
  pub wide : HasWidths HasBits c
  pub ready : Ready c
  pub units : c.units ≤ steps
  pub asks_few : asks ≤ 2 ^ 32 * steps
  pub few : steps ≤ most_steps

pub known : (m : Module) (steps : ℕ) (c : Config Term) (draws : List Bool) (asks : ℕ) (n : Node) (p : Path) → IsOf m steps n (running p c draws asks) → Known m steps c asks
known m steps c draws asks n p is =
    let q = running p c draws asks in
    record {
      wide = wide n is.can q is.follows c refl;
      ready = ready n is.can q is.follows c refl;
      units = subst (λ s. c.units ≤ s) is.bound (units-below n is.can q is.follows c refl);
      asks_few = subst (λ s. asks ≤ 2 ^ 32 * s) is.bound (few-asks n is.can q is.follows c refl);
      few = subst (λ s. s ≤ most_steps) is.bound is.can.few;
    }

-- ---- a question about a number

module _ (m : Module) (steps : ℕ) (c : Config Term) (draws : List Bool) (asks : ℕ) (n : Node) (p : Path) (is : IsOf m steps n (running p c draws asks)) (free : IsFree steps c) where
  free-here : IsFree n.invocation.steps c
  free-here = subst (λ s. IsFree s c) (sym is.bound) free

  gives-here : (x : Next Term) → step terms m c ≡ x → step terms n.invocation.«module» c ≡ x
  gives-here x e = subst (λ m. step terms m c ≡ x) is.of_module e

  pub stands-at : (q : Question) (t : Term) → step terms m c ≡ Asks q t → IsAtQuestion n is.follows.place.turns q t
  stands-at q t e = at-question n is.can (running p c draws asks) is.follows c refl free-here q t (gives-here (Asks q t) e)

  pub number-on : (q : Question) (v : ℕ) → step terms m c ≡ Asks q (Number v) → (q ≡ Assume → v ≢ 0) → IsNumberAnswered n (answer_of q v) × Follows (gone_on n (answer_of q v)) (running p (answered c (answer_of q v)) draws (asks + 1))
  number-on q v e passes =
      let at = stands-at q (Number v) e in
      (number-answered n is.can (running p c draws asks) is.follows c refl q v at passes, number-answers n is.can (running p c draws asks) is.follows c refl q v at passes)

pub reach-number : (m : Module) (steps : ℕ) (c d : Config Term) (draws : List Bool) (asks later_asks : ℕ) → AllReach m steps c draws asks d draws later_asks → IsFree steps d → (q : Question) (v : ℕ) → step terms m d ≡ Asks q (Number v)
    → (q ≡ Assume → v ≢ 0) → AllReach m steps c draws asks (answered d (answer_of q v)) draws (later_asks + 1)
reach-number m steps c d draws asks later_asks reach free q v e passes n p is =
    let r = reach n p is in
    let there = later m steps n (running p c draws asks) (running p d draws later_asks) is r in
    let on = number-on m steps d draws later_asks (gone_through n r.answers) p there free q v e passes in
    record {
      answers = r.answers ++ answer_of q v ∷ [];
      numbers = numbers-more n r.answers (answer_of q v) r.numbers on.0;
      follows = subst (λ k. Follows k (running p (answered d (answer_of q v)) draws (later_asks + 1))) (sym (through-more n r.answers (answer_of q v))) on.1;
    }

-- ---- the loop

-- where it stands: only answers of numbers have been added to the configuration in which it began
pub record Asking (m : Module) (g0 : TermGraph) (s0 : State (CodeValue Word)) (cells0 : List ℕ) (asks0 : ℕ) (g : TermGraph) (s : State (CodeValue Word)) (cells : List ℕ) (asks : ℕ) : Type 0 where
  pub held : IsHeld g s cells
  pub kept : Kept Holds term_of g0 g
  pub same : config_at m g s cells ≡ record (config_at m g0 s0 cells0) { answers = (config_at m g s cells).answers }
  pub reach : (steps : ℕ) (draws : List Bool) → IsFree steps (config_at m g0 s0 cells0) → AllReach m steps (config_at m g0 s0 cells0) draws asks0 (config_at m g s cells) draws asks

pub begins-asking : (m : Module) (g : TermGraph) (s : State (CodeValue Word)) (cells : List ℕ) (asks : ℕ) → IsHeld g s cells → Asking m g s cells asks g s cells asks
begins-asking m g s cells asks h = record {
  held = h;
  kept = kept-self g;
  same = refl;
  reach = λ steps draws free n p is. reaches-self n _ is.follows;
}

still-free : (steps : ℕ) (c : Config Term) (answers : List ℕ) → IsFree steps c → IsFree steps (record c { answers = answers })
still-free steps c answers free = record { frames = free.frames; units = free.units }

-- an assume is one in the code too
assume-is : (q : CodeQuestion) → question q ≡ Assume → q ≡ CodeAssume
assume-is CodeTest e = absurd cc
assume-is CodePick e = absurd cc
assume-is CodeAssume e = refl

module _ (m : Module) (g0 : TermGraph) (s0 : State (CodeValue Word)) (cells0 : List ℕ) (asks0 : ℕ) (g : TermGraph) (s : State (CodeValue Word)) (cells : List ℕ) (asks : ℕ) (h : Asking m g0 s0 cells0 asks0 g s cells asks) where
  abbrev c : Config Term
  c = config_at m g s cells

  free-now : (steps : ℕ) → IsFree steps (config_at m g0 s0 cells0) → IsFree steps (config_at m g s cells)
  free-now steps free = subst (λ c. IsFree steps c) (sym h.same) (still-free steps (config_at m g0 s0 cells0) (config_at m g s cells).answers free)

  pub known-now : (steps : ℕ) (draws : List Bool) → IsFree steps (config_at m g0 s0 cells0) → RunsSomewhere m steps (config_at m g0 s0 cells0) draws asks0 → Known m steps (config_at m g s cells) asks
  known-now steps draws free somewhere =
      let r = h.reach steps draws free somewhere.node somewhere.path somewhere.is in
      known m steps (config_at m g s cells) draws asks (gone_through somewhere.node r.answers) somewhere.path
      (later m steps somewhere.node _ (running somewhere.path (config_at m g s cells) draws asks) somewhere.is r)

  module _ (g' : TermGraph) (s' : State (CodeValue Word)) (cells' : List ℕ) (kept : Kept Holds term_of g g') where
    -- a number has answered its question
    pub asking-more : (q : Question) (v a : ℕ) (s'' : State (CodeValue Word)) → step terms m (config_at m g s cells) ≡ Asks q (Number v) → (q ≡ Assume → v ≢ 0)
        → s' ≡ s → words_of_cells cells' ≡ words_of_cells cells → a ≡ answer_of q v → s'' ≡ noted a s' → Asking m g0 s0 cells0 asks0 g' s'' cells' (asks + 1)
    asking-more q v a s'' gives passes s_is words_is a_is noted_is =
        subst (λ x. Asking m g0 s0 cells0 asks0 g' x cells' (asks + 1)) (sym (noted_is ∙ ap (λ a. noted a s') a_is ∙ ap (noted (answer_of q v)) s_is)) (record {
          held = record {
            sane = record {
              well_formed = record { frame = sane.well_formed.frame; callers = sane.well_formed.callers; short = sane.well_formed.short };
              operands = sane.operands;
              locals = sane.locals;
              globals = sane.globals;
            };
            words = subst (λ ws. AllByRecursion (Holds g') ws) (sym words_is) (all-kept g g' kept (words_of_cells cells) h.held.words);
          };
          kept = kept-more g0 g g' h.kept kept;
          same = config_is ∙ ap (λ c. answered c (answer_of q v)) h.same;
          reach = λ steps draws free. subst (λ d. AllReach m steps (config_at m g0 s0 cells0) draws asks0 d draws (asks + 1)) (sym config_is)
              (reach-number m steps (config_at m g0 s0 cells0) (config_at m g s cells) draws asks0 asks (h.reach steps draws free) (free-now steps free) q v gives passes);
        })
      where
        sane : Sane Holds g' s
        sane = sane-kept Holds term_of g g' kept s h.held.sane

        config_is : config_at m g' (noted (answer_of q v) s) cells' ≡ answered (config_at m g s cells) (answer_of q v)
        config_is = ap (λ ws. configuration (term_of g') m (map (term_of g') ws) (noted (answer_of q v) s)) words_is ∙ ap (λ c. answered c (answer_of q v)) (config-kept m g g' kept s cells h.held)

    pub asking-less : (q : Question) (v a : ℕ) (s'' : State (CodeValue Word)) (steps : ℕ) → IsFree steps (config_at m g0 s0 cells0) → Ready (config_at m g s cells) → step terms m (config_at m g s cells) ≡ Asks q (Number v)
        → s' ≡ s → words_of_cells cells' ≡ words_of_cells cells → s'' ≡ noted a s' → left (config_at m g' s'' cells') < left (config_at m g s cells)
    asking-less q v a s'' steps free ready gives s_is words_is noted_is =
        let room : IsTrue (is_due (config_at m g s cells).frame.here.code (config_at m g s cells).callers) → (config_at m g s cells).units < steps =
        λ due. let units = (free-now steps free).units in grind (arith, nat_tests, units, due) in
        let falls : Falls terms m steps (config_at m g s cells) (Asks q (Number v)) = subst (λ x. Falls terms m steps (config_at m g s cells) x) gives (step-falls terms m steps (config_at m g s cells) ready room) in
        let config_is : config_at m g' s'' cells' ≡ answered (config_at m g s cells) a =
        ap (λ x. config_at m g' x cells') (noted_is ∙ ap (noted a) s_is)
        ∙ ap (λ ws. configuration (term_of g') m (map (term_of g') ws) (noted a s)) words_is
        ∙ ap (λ c. answered c a) (config-kept m g g' kept s cells h.held) in
        subst (λ d. left d < left (config_at m g s cells)) (sym config_is) (omega (arith, falls, length-append (config_at m g s cells).answers (a ∷ [])))

    -- it is settled
    pub settles : (x : CodeNext Word) → step terms m (config_at m g s cells) ≡ told_at m g' s' cells' x → After Holds g' s s' x → BytesAfter Holds g' (words_of_cells cells) (words_of_cells cells') x → IsSettled x
        → (steps : ℕ) (draws : List Bool) → IsFree steps (config_at m g0 s0 cells0) → Settles m steps (config_at m g0 s0 cells0) draws asks0 g' s' cells' asks x
    settles x gives after bytes settled steps draws free = record {
      answers = (config_at m g s cells).answers;
      reach = subst (λ d. AllReach m steps (config_at m g0 s0 cells0) draws asks0 d draws asks) h.same (h.reach steps draws free);
      gives = ap (λ c. step terms m c) (sym h.same) ∙ gives;
      settled = settled;
      held = subst (λ d. IsHeldAfter m d g' s' cells' x) h.same (held-after x after bytes);
    }
      where
        held-after : (x : CodeNext Word) → After Holds g' s s' x → BytesAfter Holds g' (words_of_cells cells) (words_of_cells cells') x → IsHeldAfter m (config_at m g s cells) g' s' cells' x
        held-after CodeGoes after bytes = record { sane = after; words = bytes }
        held-after (CodeDraws long) after bytes = record { sane = after; words = bytes }
        held-after (CodeAsks q w) after bytes = (
          record { sane = after.0; words = bytes.0 },
          after.2,
          ap (λ ws. configuration (term_of g') m (map (term_of g') ws) s') bytes.1 ∙ ap (λ s. config_at m g' s cells) after.1 ∙ config-kept m g g' kept s cells h.held,
        )
        held-after (CodeEnds e) after bytes = after

pub asked-settled : (q : CodeQuestion) (w : Word) → ((v : ℕ) → w ≡ Num v → (question q ≡ Assume) × (v ≡ 0)) → IsSettled (CodeAsks q w)
asked-settled q (Num v) h = let f = h v refl in (assume-is q f.0, f.1)
asked-settled q (Numbered t) h = tt

pub failed-same : {q : Question} (n v : ℕ) → Num n ≡ Num v → (q ≡ Assume) × (n ≡ 0) → (q ≡ Assume) × (v ≡ 0)
failed-same n v e h = (h.0, let same : n ≡ v = cc in sym same ∙ h.1)

-- ---- answers after answers

pub through-append : (n : Node) (A B : List ℕ) → gone_through n (A ++ B) ≡ gone_through (gone_through n A) B
through-append n [] B = refl
through-append n (a ∷ A) B = through-append (gone_on n a) A B

pub numbers-append : (n : Node) (A B : List ℕ) → AreNumbersAnswered n A → AreNumbersAnswered (gone_through n A) B → AreNumbersAnswered n (A ++ B)
numbers-append n [] B h k = k
numbers-append n (a ∷ A) B h k = (h.0, numbers-append (gone_on n a) A B h.1 k)
