-- Places of runs, and what answers make of them.
use Rattle.std.proofs.Common.{◌≡◌, ℕ, zero, suc, ◌+◌, List, [], ◌∷◌, ◌++◌, length, refl, sym, ap, ◌∙◌, subst, length-append}
use Rattle.std.specs.Prelude.{Some, slice_get}
use Rattle.wasm_reduction.specs.Configurations.{Question}
use Rattle.wasm_reduction.specs.Steps.{answered}
use Rattle.wasm_reduction.specs.Runs.{Going, Stands, Ended as RunEnded, Bound, Deep, Turned, On, Over, by_list, runs, started, follow, follow_by, follows, replied, then_follow}
use Rattle.wasm_reduction.specs.RunImages.{IsAnswered, trace_of}
use Rattle.wasm_reduction.proofs.ListedRuns.{follows-next, runs-longer, turn-asks}
use Rattle.bv_terms.specs.Terms.{Term}
use Rattle.bv_terms.specs.Making.{terms}
use Rattle.sym_state.specs.Nodes.{Invocation, CanExplore, Node}
use Rattle.sym_state.specs.States.{Stage, Running, Ended, Path, over_terms, IsAt, units_in, units_at, IsPlace, IsAtQuestion, answered_stage}
use Rattle.sym_state.proofs.ValueLemmas.{place-values}

-- the run over terms of an invocation that has these answers
abbrev pub over : Invocation → List ℕ → ℕ → Turned Term
over i A turns = runs terms terms.symbol (by_list A) i.«module» i.entry i.args i.steps turns

pub at-answered : (s : Stage) (x : Turned Term) → IsAt s x → IsAnswered x
at-answered (Running c) (On g) h = tt
at-answered (Running c) (Over halt trace) h = absurd h
at-answered (Ended e) (On g) h = absurd h
at-answered (Ended e) (Over (Stands q w) trace) h = absurd h
at-answered (Ended e) (Over (RunEnded f) trace) h = tt
at-answered (Ended e) (Over Bound trace) h = absurd h
at-answered (Ended e) (Over Deep trace) h = absurd h

-- runs that come to the same have spent the same
pub units-alike : (n m : Node) → ((k : ℕ) → over_terms m k ≡ over_terms n k) → (turns : ℕ) → units_at m turns ≡ units_at n turns
units-alike n m e zero = ap (λ x. units_in x 0) (e zero)
units-alike n m e (suc k) = ap (λ x. units_in x (units_at m k)) (e (suc k)) ∙ ap (units_in (over_terms n (suc k))) (units-alike n m e k)

pub units-on : (n : Node) (turns : ℕ) (g : Going Term) → over_terms n turns ≡ On g → units_at n turns ≡ g.config.units
units-on n zero g e = ap (λ x. units_in x 0) e
units-on n (suc k) g e = ap (λ x. units_in x (units_at n k)) e

-- the path of a place of one node is at a place of another that has the same answers
pub same-place : (n m : Node) (p r : Path) → CanExplore m.invocation → m.invocation ≡ n.invocation → m.answers ≡ n.answers
    → r.stage ≡ p.stage → r.draws ≡ p.draws → r.asks ≡ p.asks → r.units ≡ p.units → IsPlace n p → IsPlace m r
same-place n m p r can same answers stage draws asks units h =
    let alike : over_terms m h.turns ≡ over_terms n h.turns = ap (λ i. over i m.answers h.turns) same ∙ ap (λ A. over n.invocation A h.turns) answers in
    let here : IsAt r.stage (over_terms m h.turns) = subst (λ x. IsAt r.stage x) (sym alike) (subst (λ s. IsAt s (over_terms n h.turns)) (sym stage) h.stage) in
    record {
      turns = h.turns;
      stage = here;
      answered = ap (λ x. (trace_of x).answers) alike ∙ h.answered ∙ sym answers;
      values = λ I member. place-values m can I h.turns member (at-answered r.stage (over_terms m h.turns) here);
      draws = draws ∙ h.draws ∙ ap (λ x. (trace_of x).symbols) (sym alike);
      asks = asks ∙ h.asks ∙ ap (λ l. length l) (sym answers);
      units = units ∙ h.units ∙ sym (units-alike n m (λ k. ap (λ i. over i m.answers k) same ∙ ap (λ A. over n.invocation A k) answers) h.turns);
    }

get-last : (A : List ℕ) (a : ℕ) → slice_get (A ++ a ∷ []) (length A) ≡ Some a
get-last [] a = refl
get-last (x ∷ A) a = get-last A a

module _ (i : Invocation) where
  pub turn-next : (A : List ℕ) (turns : ℕ) → over i A (suc turns) ≡ then_follow (over i A turns) (follow terms terms.symbol (by_list A) i.«module» i.steps)
  turn-next A turns = go (started terms i.«module» i.entry i.args)
    where
      go : (x : Turned Term) → then_follow x (follows terms terms.symbol (by_list A) i.«module» i.steps (suc turns)) ≡ then_follow (then_follow x (follows terms terms.symbol (by_list A) i.«module» i.steps turns)) (follow terms terms.symbol (by_list A) i.«module» i.steps)
      go (On g) = follows-next terms terms.symbol i.«module» i.steps (by_list A) turns g
      go (Over halt trace) = refl

  -- where the run goes on that has an answer more
  abbrev with_answer : Going Term → ℕ → Going Term
  with_answer g a = record { config = answered g.config a; trace = record (g.trace) { answers = g.trace.answers ++ a ∷ [] } }

  pub past-answer : (A : List ℕ) (a turns : ℕ) (q : Question) (t : Term) (g : Going Term) → over i A turns ≡ On g → g.trace.answers ≡ A → over i A (suc turns) ≡ Over (Stands q t) g.trace
      → over i (A ++ a ∷ []) (suc turns) ≡ On (with_answer g a)
  past-answer A a turns q t g on all stands =
      let here : follow terms terms.symbol (by_list A) i.«module» i.steps g ≡ Over (Stands q t) g.trace =
      sym (ap (λ x. then_follow x (follow terms terms.symbol (by_list A) i.«module» i.steps)) on) ∙ sym (turn-next A turns) ∙ stands in
      let asks = turn-asks terms terms.symbol i.«module» i.steps A g q t g.trace here in
      let longer : over i (A ++ a ∷ []) turns ≡ On g = runs-longer terms terms.symbol i.«module» i.entry i.args i.steps turns A (a ∷ []) (On g) tt on in
      turn-next (A ++ a ∷ []) turns
      ∙ ap (λ x. then_follow x (follow terms terms.symbol (by_list (A ++ a ∷ [])) i.«module» i.steps)) longer
      ∙ asks.0.1 (by_list (A ++ a ∷ []))
      ∙ ap (λ x. follow_by terms.symbol (by_list (A ++ a ∷ [])) g x) asks.0.0
      ∙ ap (λ o. replied g q t o) (ap (λ l. slice_get (A ++ a ∷ []) (length l)) all ∙ get-last A a)

-- a path at a question, to which an answer is noted, is at a place of a node that has this answer more
pub answered-place : (n m : Node) (p r : Path) (q : Question) (t : Term) (a : ℕ) → CanExplore m.invocation → m.invocation ≡ n.invocation → m.answers ≡ n.answers ++ a ∷ []
    → r.stage ≡ answered_stage p.stage a → r.draws ≡ p.draws → r.asks ≡ p.asks + 1 → r.units ≡ p.units → (h : IsPlace n p) → IsAtQuestion n h.turns q t → IsPlace m r
answered-place n m p r q t a can same answers stage draws asks units h question = go p.stage (over_terms n h.turns) refl refl h.stage
  where
    go : (s : Stage) (x : Turned Term) → p.stage ≡ s → over_terms n h.turns ≡ x → IsAt s x → IsPlace m r
    go (Running c) (On g) s e at =
        let all : g.trace.answers ≡ n.answers = ap (λ x. (trace_of x).answers) (sym e) ∙ h.answered in
        let stands : over_terms n (suc h.turns) ≡ Over (Stands q t) g.trace = question ∙ ap (λ x. Over (Stands q t) (trace_of x)) e in
        let alike : over_terms m (suc h.turns) ≡ On (with_answer n.invocation g a) =
        ap (λ i. over i m.answers (suc h.turns)) same ∙ ap (λ A. over n.invocation A (suc h.turns)) answers ∙ past-answer n.invocation n.answers a h.turns q t g e all stands in
        let stage_is : r.stage ≡ Running (answered c a) = stage ∙ ap (λ s. answered_stage s a) s in
        let here : IsAt r.stage (over_terms m (suc h.turns)) = subst (λ x. IsAt r.stage x) (sym alike) (subst (λ s. IsAt s (On (with_answer n.invocation g a))) (sym stage_is) (ap (λ c. answered c a) at)) in
        record {
          turns = suc h.turns;
          stage = here;
          answered = ap (λ x. (trace_of x).answers) alike ∙ ap (λ A. A ++ a ∷ []) all ∙ sym answers;
          values = λ I member. place-values m can I (suc h.turns) member (at-answered r.stage (over_terms m (suc h.turns)) here);
          draws = draws ∙ h.draws ∙ ap (λ x. (trace_of x).symbols) e ∙ ap (λ x. (trace_of x).symbols) (sym alike);
          asks = asks ∙ ap (λ k. k + 1) h.asks ∙ sym (length-append n.answers (a ∷ [])) ∙ ap (λ l. length l) (sym answers);
          units = units ∙ h.units ∙ units-on n h.turns g e ∙ sym (units-on m (suc h.turns) (with_answer n.invocation g a) alike);
        }
    go (Running c) (Over halt trace) s e at = absurd at
    go (Ended e) (On g) s is at = absurd at
    go (Ended e) (Over (Stands p w) trace) s is at = absurd at
    go (Ended e) (Over (RunEnded f) trace) s is at =
        let over_is : over_terms n (suc h.turns) ≡ Over (RunEnded f) trace =
        turn-next n.invocation n.answers h.turns ∙ ap (λ x. then_follow x (follow terms terms.symbol (by_list n.answers) n.invocation.«module» n.invocation.steps)) is in
        let both : Over (Stands q t) (trace_of (over_terms n h.turns)) ≡ Over (RunEnded f) trace = sym question ∙ over_is in
        absurd cc
    go (Ended e) (Over Bound trace) s is at = absurd at
    go (Ended e) (Over Deep trace) s is at = absurd at
