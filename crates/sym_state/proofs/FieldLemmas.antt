-- What is made of a state, read as a path.
use Rattle.std.proofs.Common.{◌≡◌, ℕ, List, [], ◌∷◌, ◌++◌, refl, sym, ap, ◌∙◌, subst}
use Rattle.std.specs.Prelude.{◌↔◌, Bool, true, false}
use Rattle.std.proofs.lemmas.List.{map-append}
use Rattle.std.proofs.lemmas.List.Elements.{All-push}
use Rattle.wasm_reduction.specs.Configurations.{Assume}
use Rattle.wasm_reduction.specs.Runs.{Stands}
use Rattle.bv_terms.specs.declared.words.Word.TheVariants.{Term as Numbered}
use Rattle.bv_terms.specs.Graphs.{Holds}
use Rattle.wasm_machine.specs.Values.{question}
use Rattle.wasm_machine.specs.declared.next.Question.{Question as CodeQuestion}
use Rattle.wasm_machine.specs.declared.next.Question.TheVariants.{Test as CodeTest, Pick as CodePick, Assume as CodeAssume}
use Rattle.sym_state.specs.declared.config.Standing.TheVariants.{Asks}
use Rattle.sym_state.specs.Nodes.{AreMet, IsMember, IsMet, Node}
use Rattle.sym_state.specs.NextNodes.{IsOther, assumed, bit, pick_side, test_side}
use Rattle.sym_state.specs.States.{over_terms, FollowsBefore, IsAtQuestion, IsLeastGiven, Least, sided, supposed}
use Rattle.sym_state.specs.Fields.{Fields, IsInOrder, IsStandingAt, LeastIfGiven, StandsBefore, StandsFor, condition_of, conditions_of, path_of, term_at, with_assumed, with_side}
use Rattle.sym_state.proofs.ValueLemmas.{place-values}
use Rattle.sym_state.proofs.PlaceLemmas.{at-answered, units-alike}
use Rattle.sym_state.proofs.SideLemmas.{test-follows, pick-follows, other-follows, assume-follows}
use Rattle.sym_state.proofs.LeastLemmas.{least-before, least-follows}
use Rattle.sym_state.proofs.GivenLemmas.{given-more, given-of-least}

-- ---- readings

path-sided : (s : Fields) (t : ℕ) (side : Bool) (I : List ℕ) → sided (path_of s) (term_at s.graph t) side I ≡ path_of (with_side s t side I)
path-sided s t side I =
    ap (λ C. record (path_of s) { conditions = C; choices = s.choices ++ bit side ∷ []; least = I }) (sym (map-append (condition_of s.graph) s.conds (record { term = t; answer = side } ∷ [])))

path-supposed : (s : Fields) (t : ℕ) (I : List ℕ) → supposed (path_of s) (term_at s.graph t) I ≡ path_of (with_assumed s t I)
path-supposed s t I =
    ap (λ C. record (path_of s) { conditions = C; least = I }) (sym (map-append (condition_of s.graph) s.conds (record { term = t; answer = true } ∷ [])))

order-sided : (s : Fields) (t : ℕ) (side : Bool) (I : List ℕ) → Holds s.graph (Numbered t) → IsInOrder s → IsInOrder (with_side s t side I)
order-sided s t side I held h = record {
  execution = h.execution;
  standing = h.standing;
  conds = All-push (λ cond. Holds s.graph (Numbered cond.term)) s.conds (record { term = t; answer = side }) h.conds held;
  whole = h.whole;
}

order-assumed : (s : Fields) (t : ℕ) (I : List ℕ) → Holds s.graph (Numbered t) → IsInOrder s → IsInOrder (with_assumed s t I)
order-assumed s t I held h = record {
  execution = h.execution;
  standing = h.standing;
  conds = All-push (λ cond. Holds s.graph (Numbered cond.term)) s.conds (record { term = t; answer = true }) h.conds held;
  whole = h.whole;
}

-- ---- nodes

module _ (n : Node) (s : Fields) (h : StandsFor n s) where
  question-at : (q : CodeQuestion) (t : ℕ) → s.config.standing ≡ Asks q t → IsAtQuestion n h.follows.place.turns (question q) (term_at s.graph t)
  question-at q t asks = subst (IsStandingAt n h.follows.place.turns s.graph) asks h.standing

  before : (m : Node) (q : CodeQuestion) (t u : ℕ) (side : Bool) (I : List ℕ) → m.invocation ≡ n.invocation → s.config.standing ≡ Asks q t → Holds s.graph (Numbered u)
      → FollowsBefore n m (question q) (term_at s.graph t) (sided (path_of s) (term_at s.graph u) side I) → StandsBefore n m q t (with_side s u side I)
  before m q t u side I same asks held f = record {
    of_module = h.of_module;
    can = h.can;
    same = same;
    order = order-sided s u side I held h.order;
    follows = subst (FollowsBefore n m (question q) (term_at s.graph t)) (path-sided s u side I) f;
    standing = asks;
  }

  pub test-side : (t : ℕ) (side : Bool) (I : List ℕ) → Holds s.graph (Numbered t) → s.config.standing ≡ Asks CodeTest t → AreMet I (conditions_of s.graph s.conds) → IsMet I (term_at s.graph t, side)
      → StandsBefore n (test_side n (term_at s.graph t) side) CodeTest t (with_side s t side I)
  test-side t side I held asks met k =
      before (test_side n (term_at s.graph t) side) CodeTest t t side I refl asks held
      (test-follows n (path_of s) h.can h.follows (term_at s.graph t) side I (question-at CodeTest t asks) met k)

  pub pick-side : (t u a : ℕ) (I : List ℕ) → Holds s.graph (Numbered u) → s.config.standing ≡ Asks CodePick t → IsOther (term_at s.graph u) (term_at s.graph t) a → AreMet I (conditions_of s.graph s.conds)
      → IsMet I (term_at s.graph u, false) → StandsBefore n (pick_side n (term_at s.graph u) a false) CodePick t (with_side s u false I)
  pick-side t u a I held asks other met k =
      before (pick_side n (term_at s.graph u) a false) CodePick t u false I refl asks held
      (pick-follows n (path_of s) h.can h.follows (term_at s.graph t) (term_at s.graph u) a I (question-at CodePick t asks) other met k)

  pub other-side : (t u a : ℕ) (I : List ℕ) → Holds s.graph (Numbered u) → s.config.standing ≡ Asks CodePick t → IsOther (term_at s.graph u) (term_at s.graph t) a → AreMet I (conditions_of s.graph s.conds)
      → IsMet I (term_at s.graph u, true) → StandsFor (pick_side n (term_at s.graph u) a true) (with_side s u true I)
  other-side t u a I held asks other met k =
      let m : Node = pick_side n (term_at s.graph u) a true in
      let T : ℕ = h.follows.place.turns in
      let f = other-follows n (path_of s) h.can h.follows (term_at s.graph t) (term_at s.graph u) a I (question-at CodePick t asks) other met k in
      record {
        of_module = h.of_module;
        can = h.can;
        order = order-sided s u true I held h.order;
        follows = record {
          place = record {
            turns = T;
            stage = h.follows.place.stage;
            answered = h.follows.place.answered;
            values = λ J member. place-values m h.can J T member (at-answered (path_of s).stage (over_terms n T) h.follows.place.stage);
            draws = h.follows.place.draws;
            asks = h.follows.place.asks;
            units = h.follows.place.units ∙ sym (units-alike n m (λ k. refl) T);
          };
          members = subst (λ p. (input : List ℕ) → AreMet input p.conditions ↔ IsMember (pick_side n (term_at s.graph u) a true) input) (path-sided s u true I) f.members;
          conditions = subst (λ p. p.conditions ≡ n.conditions ++ (term_at s.graph u, true) ∷ []) (path-sided s u true I) f.conditions;
          choices = f.choices;
          least = f.least;
        };
        standing = h.standing;
      }

  pub assume-side : (t : ℕ) (I : List ℕ) → Holds s.graph (Numbered t) → s.config.standing ≡ Asks CodeAssume t → AreMet I (conditions_of s.graph s.conds) → IsMet I (term_at s.graph t, true)
      → StandsBefore n (assumed n (term_at s.graph t)) CodeAssume t (with_assumed s t I)
  assume-side t I held asks met k =
      let f = assume-follows n (path_of s) h.can h.follows (term_at s.graph t) I (question-at CodeAssume t asks) met k in
      record {
        of_module = h.of_module;
        can = h.can;
        same = refl;
        order = order-assumed s t I held h.order;
        follows = subst (FollowsBefore n (assumed n (term_at s.graph t)) Assume (term_at s.graph t)) (path-supposed s t I) f;
        standing = asks;
      }

  -- ---- least inputs

  pub carried-meets : AreMet s.least (conditions_of s.graph s.conds)
  carried-meets = (h.follows.members s.least).1 h.follows.least

  pub kept-least : (q : CodeQuestion) (t u : ℕ) (side : Bool) → s.config.standing ≡ Asks q t → IsMet s.least (term_at s.graph u, side) → Least n (path_of s)
      → IsLeastGiven (conditions_of (with_side s u side s.least).graph (with_side s u side s.least).conds) s.draws s.least
  kept-least q t u side asks met least =
      subst (λ p. IsLeastGiven p.conditions s.draws s.least) (path-sided s u side s.least)
      (given-more (conditions_of s.graph s.conds) s.draws s.least (term_at s.graph u, side)
      (given-of-least n (path_of s) h.can h.follows (Stands (question q) (term_at s.graph t)) (question-at q t asks) least) met)

pub before-least : (n m : Node) (q : CodeQuestion) (t a : ℕ) (s : Fields) → m.answers ≡ n.answers ++ a ∷ [] → StandsBefore n m q t s → LeastIfGiven m s
before-least n m q t a s answers h = λ given. least-before n m (question q) (term_at s.graph t) (path_of s) h.can h.same (a ∷ [], answers) h.follows given

pub stands-least : (n : Node) (s : Fields) → StandsFor n s → LeastIfGiven n s
stands-least n s h = λ given. least-follows n (path_of s) h.can h.follows given
