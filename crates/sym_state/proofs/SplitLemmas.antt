-- What the calls make of a state stands for the next node.
use Rattle.std.proofs.Common.{◌≡◌, ℕ, List, refl, sym, subst}
use Rattle.std.specs.Prelude.{Bool, true, false, Result, Ok, Err, IfOk, OnOk}
use Rattle.bv_terms.specs.declared.words.Word.TheVariants.{Term as Numbered}
use Rattle.bv_terms.specs.Graphs.{Holds}
use Rattle.wasm_machine.specs.declared.next.Question.{Question}
use Rattle.wasm_machine.specs.declared.next.Question.TheVariants.{Test, Pick, Assume}
use Rattle.sym_state.specs.declared.config.Standing.TheVariants.{Asks}
use Rattle.sym_state.specs.Nodes.{AreMet, IsMet, Node}
use Rattle.sym_state.specs.NextNodes.{IsOther, assumed, bit, pick_side, test_side}
use Rattle.sym_state.specs.States.{IsLeastGiven, Least}
use Rattle.sym_state.specs.Fields.{Fields, LeastIfGiven, StandsBefore, StandsFor, conditions_of, path_of, term_at, with_assumed, with_side}
use Rattle.sym_state.proofs.FieldLemmas.{test-side, pick-side, other-side, assume-side, carried-meets, kept-least, before-least, stands-least}

-- the path of a state whose input is one of a side
pub record IsSideOf (s : Fields) (t : ℕ) (side : Bool) (input : List ℕ) (r : Fields) : Type 0 where
  pub held : Holds s.graph (Numbered t)
  pub meets : AreMet input (conditions_of s.graph s.conds)
  pub answers : IsMet input (term_at s.graph t, side)
  pub is : r ≡ with_side s t side input

module _ (s r : Fields) (u : ℕ) (side : Bool) (input : List ℕ) (h : IsSideOf s u side input r) (n : Node) where
  pub tested : StandsFor n s → s.config.standing ≡ Asks Test u → StandsBefore n (test_side n (term_at s.graph u) side) Test u r
  tested stands asks = subst (StandsBefore n (test_side n (term_at s.graph u) side) Test u) (sym h.is) (test-side n s stands u side input h.held asks h.meets h.answers)

  pub least-tested : StandsFor n s → s.config.standing ≡ Asks Test u → LeastIfGiven (test_side n (term_at s.graph u) side) r
  least-tested stands asks = before-least n (test_side n (term_at s.graph u) side) Test u (bit side) r refl (tested stands asks)

pub picked : (s r : Fields) (u : ℕ) (input : List ℕ) → IsSideOf s u false input r → (n : Node) (t a : ℕ) → StandsFor n s → s.config.standing ≡ Asks Pick t → IsOther (term_at s.graph u) (term_at s.graph t) a
    → StandsBefore n (pick_side n (term_at s.graph u) a false) Pick t r
picked s r u input h n t a stands asks other =
    subst (StandsBefore n (pick_side n (term_at s.graph u) a false) Pick t) (sym h.is) (pick-side n s stands t u a input h.held asks other h.meets h.answers)

pub least-picked : (s r : Fields) (u : ℕ) (input : List ℕ) → IsSideOf s u false input r → (n : Node) (t a : ℕ) → StandsFor n s → s.config.standing ≡ Asks Pick t → IsOther (term_at s.graph u) (term_at s.graph t) a
    → LeastIfGiven (pick_side n (term_at s.graph u) a false) r
least-picked s r u input h n t a stands asks other = before-least n (pick_side n (term_at s.graph u) a false) Pick t a r refl (picked s r u input h n t a stands asks other)

pub not-picked : (s r : Fields) (u : ℕ) (input : List ℕ) → IsSideOf s u true input r → (n : Node) (t a : ℕ) → StandsFor n s → s.config.standing ≡ Asks Pick t → IsOther (term_at s.graph u) (term_at s.graph t) a
    → StandsFor (pick_side n (term_at s.graph u) a true) r
not-picked s r u input h n t a stands asks other =
    subst (StandsFor (pick_side n (term_at s.graph u) a true)) (sym h.is) (other-side n s stands t u a input h.held asks other h.meets h.answers)

pub least-not-picked : (s r : Fields) (u : ℕ) (input : List ℕ) → IsSideOf s u true input r → (n : Node) (t a : ℕ) → StandsFor n s → s.config.standing ≡ Asks Pick t → IsOther (term_at s.graph u) (term_at s.graph t) a
    → LeastIfGiven (pick_side n (term_at s.graph u) a true) r
least-not-picked s r u input h n t a stands asks other = stands-least (pick_side n (term_at s.graph u) a true) r (not-picked s r u input h n t a stands asks other)

-- ---- one side, on which the carried input is

module _ (s r : Fields) (u : ℕ) (side : Bool) (held : Holds s.graph (Numbered u)) (answers : IsMet s.least (term_at s.graph u, side)) (is : r ≡ with_side s u side s.least) (n : Node) (stands : StandsFor n s) where
  pub carried-side : IsSideOf s u side s.least r
  carried-side = record { held = held; meets = carried-meets n s stands; answers = answers; is = is }

  carried-given : (q : Question) (t : ℕ) → s.config.standing ≡ Asks q t → Least n (path_of s) → IsLeastGiven (conditions_of r.graph r.conds) r.draws r.least
  carried-given q t asks least = subst (λ x. IsLeastGiven (conditions_of x.graph x.conds) x.draws x.least) (sym is) (kept-least n s stands q t u side asks answers least)

  pub kept-tested : s.config.standing ≡ Asks Test u → StandsBefore n (test_side n (term_at s.graph u) side) Test u r
  kept-tested asks = tested s r u side s.least carried-side n stands asks

  pub kept-least-tested : s.config.standing ≡ Asks Test u → Least n (path_of s) → Least (test_side n (term_at s.graph u) side) (path_of r)
  kept-least-tested asks least = least-tested s r u side s.least carried-side n stands asks (carried-given Test u asks least)

pub kept-picked : (s r : Fields) (u : ℕ) (side : Bool) → Holds s.graph (Numbered u) → IsMet s.least (term_at s.graph u, side) → r ≡ with_side s u side s.least → (n : Node) (t a : ℕ) → StandsFor n s → s.config.standing ≡ Asks Pick t
    → IsOther (term_at s.graph u) (term_at s.graph t) a → side ≡ false → StandsBefore n (pick_side n (term_at s.graph u) a false) Pick t r
kept-picked s r u true held answers is n t a stands asks other which = absurd cc
kept-picked s r u false held answers is n t a stands asks other which = picked s r u s.least (carried-side s r u false held answers is n stands) n t a stands asks other

pub kept-not-picked : (s r : Fields) (u : ℕ) (side : Bool) → Holds s.graph (Numbered u) → IsMet s.least (term_at s.graph u, side) → r ≡ with_side s u side s.least → (n : Node) (t a : ℕ) → StandsFor n s → s.config.standing ≡ Asks Pick t
    → IsOther (term_at s.graph u) (term_at s.graph t) a → side ≡ true → StandsFor (pick_side n (term_at s.graph u) a true) r
kept-not-picked s r u false held answers is n t a stands asks other which = absurd cc
kept-not-picked s r u true held answers is n t a stands asks other which = not-picked s r u s.least (carried-side s r u true held answers is n stands) n t a stands asks other

pub kept-least-picked : (s r : Fields) (u : ℕ) (side : Bool) → Holds s.graph (Numbered u) → IsMet s.least (term_at s.graph u, side) → r ≡ with_side s u side s.least → (n : Node) (t a : ℕ) → StandsFor n s → s.config.standing ≡ Asks Pick t
    → IsOther (term_at s.graph u) (term_at s.graph t) a → Least n (path_of s) → Least (pick_side n (term_at s.graph u) a side) (path_of r)
kept-least-picked s r u true held answers is n t a stands asks other least =
    least-not-picked s r u s.least (carried-side s r u true held answers is n stands) n t a stands asks other (carried-given s r u true held answers is n stands Pick t asks least)
kept-least-picked s r u false held answers is n t a stands asks other least =
    least-picked s r u s.least (carried-side s r u false held answers is n stands) n t a stands asks other (carried-given s r u false held answers is n stands Pick t asks least)

-- ---- an assume

module _ (s r : Fields) (t : ℕ) (input : List ℕ) (held : Holds s.graph (Numbered t)) (meets : AreMet input (conditions_of s.graph s.conds)) (answers : IsMet input (term_at s.graph t, true)) (is : r ≡ with_assumed s t input) (n : Node) where
  pub supposes : StandsFor n s → s.config.standing ≡ Asks Assume t → StandsBefore n (assumed n (term_at s.graph t)) Assume t r
  supposes stands asks = subst (StandsBefore n (assumed n (term_at s.graph t)) Assume t) (sym is) (assume-side n s stands t input held asks meets answers)

  pub least-supposes : StandsFor n s → s.config.standing ≡ Asks Assume t → LeastIfGiven (assumed n (term_at s.graph t)) r
  least-supposes stands asks = before-least n (assumed n (term_at s.graph t)) Assume t 1 r refl (supposes stands asks)

-- ---- results

pub both-are : {A E : Type 0} (x y : A) (Q : A × A → Type 0) (r : Result (A × A) E) → IfOk r (λ both. both.0 ≡ x) → IfOk r (λ both. both.1 ≡ y) → ((v w : A) → v ≡ x → w ≡ y → Q (v, w)) → IfOk r Q
both-are x y Q (Ok (v, w)) first second so = so v w first second
both-are x y Q (Err e) first second so = tt

pub if-done : {A E : Type 0} (P Q : Type 0) (r : Result A E) → OnOk r P → (P → Q) → OnOk r Q
if-done P Q (Ok v) h so = so h
if-done P Q (Err e) h so = tt
