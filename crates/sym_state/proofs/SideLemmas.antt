-- What the calls make of a path stands for the next node.
use Rattle.std.proofs.Common.{◌≡◌, ◌≢◌, ℕ, suc, List, [], ◌∷◌, ◌++◌, refl, sym, ap, subst}
use Rattle.std.specs.Prelude.{◌↔◌, Bool, true, false}
use Rattle.wasm_reduction.specs.Configurations.{Question, Test, Pick, Assume}
use Rattle.wasm_reduction.specs.RunImages.{trace_of}
use Rattle.bv_terms.specs.Terms.{Term}
use Rattle.sym_state.specs.Nodes.{CanExplore, Condition, AreMet, IsMet, Node, IsMember}
use Rattle.sym_state.specs.NextNodes.{bit, MembersAsk, MembersAnswer, IsOther, IsExact, gone_on, assumed, test_side, pick_side}
use Rattle.sym_state.specs.States.{Path, over_terms, IsPlace, Follows, FollowsBefore, IsAtQuestion, sided, supposed, resumed}
use Rattle.sym_state.proofs.MemberLemmas.{met-more}
use Rattle.sym_state.proofs.ExactLemmas.{test-exact, assume-exact, pick-exact, other-exact, goes-exact}
use Rattle.sym_state.proofs.ValueLemmas.{members-ask}
use Rattle.sym_state.proofs.PlaceLemmas.{same-place, answered-place}

module _ (n : Node) (p : Path) (can : CanExplore n.invocation) (h : Follows n p) where
  exact : IsExact n
  exact = subst (λ C. (I : List ℕ) → AreMet I C ↔ IsMember n I) h.conditions h.members

  asked : (q : Question) (t : Term) → IsAtQuestion n h.place.turns q t → MembersAsk n q t
  asked q t question = members-ask n can q t (suc h.place.turns) (trace_of (over_terms n h.place.turns)) question

  -- a path with other conditions, choices and another input is at the same place
  abbrev beside : (C : List Condition) (choices I : List ℕ) → IsPlace n (record p { conditions = C; choices = choices; least = I })
  beside C choices I = record {
    turns = h.place.turns;
    stage = h.place.stage;
    answered = h.place.answered;
    values = h.place.values;
    draws = h.place.draws;
    asks = h.place.asks;
    units = h.place.units;
  }

  -- the conditions of the path with one more
  more : (c : Condition) (I : List ℕ) → AreMet I p.conditions → IsMet I c → AreMet I (n.conditions ++ c ∷ [])
  more c I met k = met-more I n.conditions c (subst (λ C. AreMet I C) h.conditions met) k

  widened : (c : Condition) (m : Node) → m.conditions ≡ n.conditions ++ c ∷ [] → IsExact m → (I : List ℕ) → AreMet I (p.conditions ++ c ∷ []) ↔ IsMember m I
  widened c m is e = subst (λ C. (I : List ℕ) → AreMet I (C ++ c ∷ []) ↔ IsMember m I) (sym h.conditions) (subst (λ C. (I : List ℕ) → AreMet I C ↔ IsMember m I) is e)

  pub test-follows : (t : Term) (side : Bool) (I : List ℕ) → IsAtQuestion n h.place.turns Test t → AreMet I p.conditions → IsMet I (t, side) → FollowsBefore n (test_side n t side) Test t (sided p t side I)
  test-follows t side I question met k =
      let e : IsExact (test_side n t side) = test-exact n exact p.least t side h.least (asked Test t question) in
      record {
        place = beside (p.conditions ++ (t, side) ∷ []) (p.choices ++ bit side ∷ []) I;
        asks = question;
        members = widened (t, side) (test_side n t side) refl e;
        conditions = ap (λ C. C ++ (t, side) ∷ []) h.conditions;
        choices = ap (λ l. l ++ bit side ∷ []) h.choices;
        least = (e I).0 (more (t, side) I met k);
      }

  pub pick-follows : (t other : Term) (a : ℕ) (I : List ℕ) → IsAtQuestion n h.place.turns Pick t → IsOther other t a → AreMet I p.conditions → IsMet I (other, false)
      → FollowsBefore n (pick_side n other a false) Pick t (sided p other false I)
  pick-follows t other a I question differ met k =
      let member : IsMember n I = (h.members I).0 met in
      let e : IsExact (pick_side n other a false) = pick-exact n exact can I t other a member (asked Pick t question) differ ((differ I).0 k) in
      record {
        place = beside (p.conditions ++ (other, false) ∷ []) (p.choices ++ 0 ∷ []) I;
        asks = question;
        members = widened (other, false) (pick_side n other a false) refl e;
        conditions = ap (λ C. C ++ (other, false) ∷ []) h.conditions;
        choices = ap (λ l. l ++ 0 ∷ []) h.choices;
        least = (e I).0 (more (other, false) I met k);
      }

  pub other-follows : (t other : Term) (a : ℕ) (I : List ℕ) → IsAtQuestion n h.place.turns Pick t → IsOther other t a → AreMet I p.conditions → IsMet I (other, true)
      → Follows (pick_side n other a true) (sided p other true I)
  other-follows t other a I question differ met k =
      let e : IsExact (pick_side n other a true) = other-exact n exact t other a (asked Pick t question) differ in
      record {
        place = same-place n (pick_side n other a true) p (sided p other true I) can refl refl refl refl refl refl h.place;
        members = widened (other, true) (pick_side n other a true) refl e;
        conditions = ap (λ C. C ++ (other, true) ∷ []) h.conditions;
        choices = ap (λ l. l ++ 1 ∷ []) h.choices;
        least = (e I).0 (more (other, true) I met k);
      }

  pub assume-follows : (t : Term) (I : List ℕ) → IsAtQuestion n h.place.turns Assume t → AreMet I p.conditions → IsMet I (t, true) → FollowsBefore n (assumed n t) Assume t (supposed p t I)
  assume-follows t I question met k =
      let e : IsExact (assumed n t) = assume-exact n exact p.least t h.least (asked Assume t question) in
      record {
        place = beside (p.conditions ++ (t, true) ∷ []) p.choices I;
        asks = question;
        members = widened (t, true) (assumed n t) refl e;
        conditions = ap (λ C. C ++ (t, true) ∷ []) h.conditions;
        choices = h.choices;
        least = (e I).0 (more (t, true) I met k);
      }

  pub goes-follows : (q : Question) (t : Term) (answer : ℕ) → IsAtQuestion n h.place.turns q t → MembersAnswer n q t answer → (q ≡ Assume → answer ≢ 0) → Follows (gone_on n answer) (resumed p answer)
  goes-follows q t answer question answers some =
      let e : IsExact (gone_on n answer) = goes-exact n exact can p.least q t answer h.least (asked q t question) answers some in
      record {
        place = answered-place n (gone_on n answer) p (resumed p answer) q t answer can refl refl refl refl refl refl h.place question;
        members = subst (λ C. (I : List ℕ) → AreMet I C ↔ IsMember (gone_on n answer) I) (sym h.conditions) e;
        conditions = h.conditions;
        choices = h.choices;
        least = (e p.least).0 (subst (λ C. AreMet p.least C) h.conditions ((h.members p.least).1 h.least));
      }

pub before-follows : (n m : Node) (q : Question) (t : Term) (p : Path) (answer : ℕ) → CanExplore n.invocation → m.invocation ≡ n.invocation → m.answers ≡ n.answers ++ answer ∷ []
    → FollowsBefore n m q t p → Follows m (resumed p answer)
before-follows n m q t p answer can same answers h = record {
  place = answered-place n m p (resumed p answer) q t answer (subst (λ i. CanExplore i) (sym same) can) same answers refl refl refl refl h.place h.asks;
  members = h.members;
  conditions = h.conditions;
  choices = h.choices;
  least = h.least;
}
