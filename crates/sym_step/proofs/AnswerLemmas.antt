-- What a noted answer makes of a state.
use Rattle.std.proofs.Common.{◌≡◌, ◌≢◌, ◌⊎◌, inl, inr, ℕ, ◌+◌, ◌*◌, ◌^◌, ◌≤◌, List, [], ◌∷◌, ◌++◌, refl, sym, ap, ◌∙◌, subst, arith}
use Rattle.std.specs.Prelude.{Option, Some, None}
use Rattle.wasm_reduction.specs.Configurations.{Question, Assume}
use Rattle.wasm_reduction.specs.Runs.{Stands, answer_of}
use Rattle.wasm_machine.specs.Values.{question}
use Rattle.wasm_machine.specs.declared.next.Question.{Question as CodeQuestion}
use Rattle.wasm_machine.specs.declared.next.Question.TheVariants.{Test as CodeTest, Pick as CodePick, Assume as CodeAssume}
use Rattle.sym_state.specs.declared.config.Execution.{Execution}
use Rattle.sym_state.specs.declared.config.Standing.TheVariants.{Asks, Answered}
use Rattle.sym_state.specs.Nodes.{AreMet, CanExplore, Node}
use Rattle.sym_state.specs.NextNodes.{gone_on}
use Rattle.bv_terms.specs.Terms.{Term, value_of}
use Rattle.sym_state.specs.States.{Path, IsPlace, Follows, Least, IsAtQuestion, resumed}
use Rattle.sym_state.specs.Fields.{Fields, IsInOrder, IsStandingAt, StandingHeld, StandsBefore, StandsFor, conditions_of, path_of, term_at}
use Rattle.sym_state.proofs.SideLemmas.{before-follows, goes-follows}
use Rattle.sym_state.proofs.LeastLemmas.{least-follows}
use Rattle.sym_state.proofs.GivenLemmas.{given-of-least}
use Rattle.sym_step.specs.Steps.{CanAnswer, IsAnswer, StandsSomewhere, with_answer}
use Rattle.sym_step.proofs.FewAnswers.{few-at-question}

-- the state with its answer
abbrev pub noted : Fields → CodeQuestion → ℕ → ℕ → Fields
noted s q t answer = record s { config = record (s.config) { standing = Answered q t answer }; asks = s.asks + 1 }

-- where the run went on, it goes on with the answer
noted-stage : (s : Fields) (q : CodeQuestion) (t answer : ℕ) → s.config.standing ≡ Asks q t → resumed (path_of s) answer ≡ path_of (noted s q t answer)
noted-stage s q t answer asks = at s.config.execution refl
  where
    at : (x : Option Execution) → s.config.execution ≡ x → resumed (path_of s) answer ≡ path_of (noted s q t answer)
    at None e = rw (asks, e) refl
    at (Some x) e = rw (asks, e) refl

order-noted : (s : Fields) (q : CodeQuestion) (t answer : ℕ) → s.config.standing ≡ Asks q t → IsInOrder s → IsInOrder (noted s q t answer)
order-noted s q t answer asks h = record {
  execution = h.execution;
  standing = subst (λ x. StandingHeld s.graph x) asks h.standing;
  conds = h.conds;
  whole = h.whole;
}

fits-some : (q : CodeQuestion) (answer : ℕ) → CanAnswer q answer → question q ≡ Assume → answer ≢ 0
fits-some CodeTest answer fits e = absurd cc
fits-some CodePick answer fits e = absurd cc
fits-some CodeAssume answer fits e = λ none. omega (arith, fits, none)

module _ (s : Fields) (q : CodeQuestion) (t answer : ℕ) (asks : s.config.standing ≡ Asks q t) where
  pub before-noted : (n m : Node) (p : CodeQuestion) (u : ℕ) → StandsBefore n m p u s → m.answers ≡ n.answers ++ answer ∷ [] → StandsFor m (noted s q t answer)
  before-noted n m p u h answers = record {
    of_module = h.of_module ∙ ap (λ i. i.«module») (sym h.same);
    can = subst (λ i. CanExplore i) (sym h.same) h.can;
    order = order-noted s q t answer asks h.order;
    follows = subst (λ p. Follows m p) (noted-stage s q t answer asks) (before-follows n m (question p) (term_at s.graph u) (path_of s) answer h.can h.same answers h.follows);
    standing = tt;
  }

  module _ (n : Node) (h : StandsFor n s) where
    at : IsAtQuestion n h.follows.place.turns (question q) (term_at s.graph t)
    at = subst (λ x. IsStandingAt n h.follows.place.turns s.graph x) asks h.standing

    module _ (fits : CanAnswer q answer) (given : (input : List ℕ) → AreMet input (conditions_of s.graph s.conds) → answer_of (question q) (value_of input (term_at s.graph t)) ≡ answer) where
      goes : Follows (gone_on n answer) (path_of (noted s q t answer))
      goes = subst (λ p. Follows (gone_on n answer) p) (noted-stage s q t answer asks)
          (goes-follows n (path_of s) h.can h.follows (question q) (term_at s.graph t) answer at (λ I member. given I ((h.follows.members I).1 member)) (fits-some q answer fits))

      pub goes-noted : StandsFor (gone_on n answer) (noted s q t answer)
      goes-noted = record {
        of_module = h.of_module;
        can = h.can;
        order = order-noted s q t answer asks h.order;
        follows = goes;
        standing = tt;
      }

      pub least-noted : Least n (path_of s) → Least (gone_on n answer) (path_of (noted s q t answer))
      least-noted least =
          least-follows (gone_on n answer) (path_of (noted s q t answer)) h.can goes
          (given-of-least n (path_of s) h.can h.follows (Stands (question q) (term_at s.graph t)) at least)

few-place : (n : Node) (p : Path) → CanExplore n.invocation → (h : IsPlace n p) → (q : Question) (t : Term) → IsAtQuestion n h.turns q t → p.asks ≤ 2 ^ 32 * 10000000
few-place n p can h q t at =
    let few = few-at-question n can h.turns q t at h.answered in
    omega (arith, few, can.few, h.asks)

-- a state at a question has had few
pub few-somewhere : (s : Fields) (steps : ℕ) (q : CodeQuestion) (t : ℕ) → s.config.standing ≡ Asks q t → StandsSomewhere s steps → s.asks ≤ 2 ^ 32 * 10000000
few-somewhere s steps q t asks h = go h.stands
  where
    go : StandsFor h.node s ⊎ ((next : Node) × (q : CodeQuestion) × (t : ℕ) × StandsBefore h.node next q t s) → s.asks ≤ 2 ^ 32 * 10000000
    go (inl k) = few-place h.node (path_of s) k.can k.follows.place (question q) (term_at s.graph t) (subst (λ x. IsStandingAt h.node k.follows.place.turns s.graph x) asks k.standing)
    go (inr k) = few-place h.node (path_of s) k.3.can k.3.follows.place (question k.1) (term_at s.graph k.2) k.3.follows.asks

-- ---- as the call sees it

module _ (s v : Fields) (is : v ≡ s) (q : CodeQuestion) (t answer : ℕ) (asks : v.config.standing ≡ Asks q t) where
  pub before-resumed : (n m : Node) (p : CodeQuestion) (u : ℕ) → StandsBefore n m p u s → m.answers ≡ n.answers ++ answer ∷ [] → StandsFor m (noted v q t answer)
  before-resumed n m p u h answers = before-noted v q t answer asks n m p u (subst (λ x. StandsBefore n m p u x) (sym is) h) answers

  module _ (k : IsAnswer s answer) where
    pub goes-resumed : (n : Node) → StandsFor n s → StandsFor (gone_on n answer) (noted v q t answer)
    goes-resumed n h =
        let a : IsAnswer v answer = subst (λ x. IsAnswer x answer) (sym is) k in
        subst (λ x. StandsFor (gone_on n answer) x) (ap (λ x. record v { config = record (v.config) { standing = with_answer x answer }; asks = v.asks + 1 }) (sym a.asks ∙ asks))
        (goes-noted v a.q a.t answer a.asks n (subst (λ x. StandsFor n x) (sym is) h) a.fits a.given)

    pub least-resumed : (n : Node) → StandsFor n s → Least n (path_of s) → Least (gone_on n answer) (path_of (noted v q t answer))
    least-resumed n h least =
        let a : IsAnswer v answer = subst (λ x. IsAnswer x answer) (sym is) k in
        subst (λ x. Least (gone_on n answer) (path_of x)) (ap (λ x. record v { config = record (v.config) { standing = with_answer x answer }; asks = v.asks + 1 }) (sym a.asks ∙ asks))
        (least-noted v a.q a.t answer a.asks n (subst (λ x. StandsFor n x) (sym is) h) a.fits a.given (subst (λ x. Least n (path_of x)) (sym is) least))
