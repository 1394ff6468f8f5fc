-- An input meets the conditions of a node exactly where it is a member.
use Rattle.std.proofs.Common.{◌≡◌, ◌≢◌, ℕ, List, [], ◌∷◌, ◌++◌, refl, sym, ap, ◌∙◌, subst}
use Rattle.std.specs.Prelude.{Bool, true, false}
use Rattle.wasm_reduction.specs.Configurations.{Question, Test, Pick, Assume}
use Rattle.wasm_reduction.specs.Runs.{answer_of}
use Rattle.wasm_reduction.specs.Scripts.{Script, Finished, Asked, Passes}
use Rattle.wasm_reduction.proofs.ScriptLaws.{script-of}
use Rattle.wasm_soundness.proofs.Runs.{has-one-run}
use Rattle.bv_terms.specs.Terms.{Term, value_of}
use Rattle.sym_state.specs.Nodes.{Invocation, CanExplore, Node, root, IsAllowed, IsMemberAt, IsMember}
use Rattle.sym_state.specs.NextNodes.{bit, Begins, MembersAsk, MembersAnswer, IsOther, IsExact, gone_on, assumed, test_side, pick_side}
use Rattle.sym_state.proofs.MemberLemmas.{met-more, met-less, not-zero, met-answers, answers-met, allowed-more, allowed-less, enter, leave, none-excluded, allowed-alike}

pub root-exact : (i : Invocation) → CanExplore i → IsExact (root i)
root-exact i can = λ I. (
  λ met. let run = has-one-run i.«module» i.entry i.args I i.steps can.can can.fit in
      let s = script-of i.«module» i.entry i.args I i.steps run.run run.is_run in
      (s.0, record { script = s.0; is_script = s.1; past = refl; allowed = tt }),
  λ member. tt,
)

module _ (n : Node) (exact : IsExact n) where
  pub test-exact : (J : List ℕ) (t : Term) (side : Bool) → IsMember n J → MembersAsk n Test t → IsExact (test_side n t side)
  test-exact J t side here asks = λ I. (
    λ met. let r = met-less I n.conditions (t, side) met in
        let m = (exact I).0 r.0 in
        let a = enter n Test (value_of I t) (bit side) I m.0 m.1 (asks I m.0 m.1) (met-answers I t side r.1) tt in
        (a.rest, record { script = a.script; is_script = a.is_script; past = a.past; allowed = tt }),
    λ member. let at = member.1 in
        let l = leave n Test t (bit side) I at.script member.0 asks at.is_script at.past (λ p v d past answer. none-excluded n J here.0 Test (value_of J t) (λ e. absurd cc) here.1 (asks J here.0 here.1) _) in
        met-more I n.conditions (t, side) ((exact I).1 l.0) (answers-met I t side l.1),
  )

  pub assume-exact : (J : List ℕ) (t : Term) → IsMember n J → MembersAsk n Assume t → IsExact (assumed n t)
  assume-exact J t here asks = λ I. (
    λ met. let r = met-less I n.conditions (t, true) met in
        let m = (exact I).0 r.0 in
        let a = enter n Assume (value_of I t) 1 I m.0 m.1 (asks I m.0 m.1) (not-zero (value_of I t) r.1) r.1 in
        (a.rest, record { script = a.script; is_script = a.is_script; past = a.past; allowed = tt }),
    λ member. let at = member.1 in
        let l = leave n Assume t 1 I at.script member.0 asks at.is_script at.past (λ p v d past answer. none-excluded n J here.0 Assume (value_of J t) (λ e. absurd cc) here.1 (asks J here.0 here.1) _) in
        met-more I n.conditions (t, true) ((exact I).1 l.0) l.2,
  )

  pub pick-exact : CanExplore n.invocation → (J : List ℕ) (t other : Term) (a : ℕ) → IsMember n J → MembersAsk n Pick t → IsOther other t a → value_of J t ≡ a → IsExact (pick_side n other a false)
  pick-exact can J t other a here asks differ picked = λ I. (
    λ met. let r = met-less I n.conditions (other, false) met in
        let m = (exact I).0 r.0 in
        let x = enter n Pick (value_of I t) a I m.0 m.1 (asks I m.0 m.1) ((differ I).0 r.1) tt in
        (x.rest, record { script = x.script; is_script = x.is_script; past = x.past; allowed = tt }),
    λ member. let at = member.1 in
        let l = leave n Pick t a I at.script member.0 asks at.is_script at.past
        (λ p v d past answer. allowed-alike n can J here.0 Pick (value_of J t) a here.1 (asks J here.0 here.1) picked I at.script member.0 p v d at.is_script past answer) in
        met-more I n.conditions (other, false) ((exact I).1 l.0) ((differ I).1 l.1),
  )

  pub other-exact : (t other : Term) (a : ℕ) → MembersAsk n Pick t → IsOther other t a → IsExact (pick_side n other a true)
  other-exact t other a asks differ = λ I. (
    λ met. let r = met-less I n.conditions (other, true) met in
        let m = (exact I).0 r.0 in
        (m.0, record { script = m.1.script; is_script = m.1.is_script; past = m.1.past; allowed = more I m.0 m.1.allowed (asks I m.0 m.1) r.1 }),
    λ member. let at = member.1 in
        let l = allowed-less n.excluded a member.0 at.allowed in
        let m : IsMemberAt n I member.0 = record { script = at.script; is_script = at.is_script; past = at.past; allowed = l.0 } in
        met-more I n.conditions (other, true) ((exact I).1 (member.0, m)) (λ none. l.1 (value_of I t) (asks I member.0 m) ((differ I).0 none)),
  )
    where
      more : (I : List ℕ) (left : Script) → IsAllowed n.excluded left → Begins Pick (value_of I t) left → value_of I other ≢ 0 → IsAllowed (n.excluded ++ a ∷ []) left
      more I (Finished o d) h b k = absurd b
      more I (Asked p u d rest) h b k =
          let pick : IsAllowed n.excluded (Asked Pick u d rest) = subst (λ p. IsAllowed n.excluded (Asked p u d rest)) b.0 h in
          subst (λ p. IsAllowed (n.excluded ++ a ∷ []) (Asked p u d rest)) (sym b.0) (allowed-more n.excluded a u d rest pick (λ e. k ((differ I).1 (sym b.1 ∙ e))))

  pub goes-exact : CanExplore n.invocation → (J : List ℕ) (q : Question) (t : Term) (answer : ℕ) → IsMember n J → MembersAsk n q t → MembersAnswer n q t answer → (q ≡ Assume → answer ≢ 0) → IsExact (gone_on n answer)
  goes-exact can J q t answer here asks answers some = λ I. (
    λ met. let m = (exact I).0 met in
        let x = enter n q (value_of I t) answer I m.0 m.1 (asks I m.0 m.1) (answers I m) (passes q (value_of I t) (answers I m) some) in
        (x.rest, record { script = x.script; is_script = x.is_script; past = x.past; allowed = tt }),
    λ member. let at = member.1 in
        let l = leave n q t answer I at.script member.0 asks at.is_script at.past
        (λ p v d past is. allowed-alike n can J here.0 q (value_of J t) answer here.1 (asks J here.0 here.1) (answers J here) I at.script member.0 p v d at.is_script past is) in
        (exact I).1 l.0,
  )
    where
      passes : (q : Question) (v : ℕ) → answer_of q v ≡ answer → (q ≡ Assume → answer ≢ 0) → Passes q v
      passes Test v e h = tt
      passes Pick v e h = tt
      passes Assume v e h = λ none. h refl (sym e ∙ ap (answer_of Assume) none)
