-- The least member of a node, and the sides of its next question.
--
-- Nodes and their members are those of sym_state: what a run has been answered so far, and the inputs that are answered so.
use Rattle.std.specs.Prelude.{◌≡◌, ℕ, zero, suc, ◌≤◌, Bool, true, false, not, ◌==◌, List}
use Rattle.wasm_reduction.specs.Scripts.{Script, Finished, Asked}
use Rattle.sym_state.specs.Nodes.{Node, IsMemberAt, IsAtMost, draws_before}

-- The run of the least member does this next: what it has drawn by then, read as an input, is a member of which this is left, and
-- no member has drawn less.
pub record IsLeastAt (n : Node) (left : Script) : Type 0 where
  pub member : IsMemberAt n (draws_before left) left
  pub least : (input : List ℕ) (rest : Script) → IsMemberAt n input rest → IsAtMost (draws_before left) (draws_before rest)

-- what has two sides: a test or an assume, whether its number isn't 0; and a pick, whether its number is another than this one
pub data Query : Type 0 where
  OfTest : Query
  OfPick : ℕ → Query

-- whether a number isn't 0
abbrev pub is_true : ℕ → Bool
is_true zero = false
is_true (suc n) = true

-- the side of a number
abbrev pub side_of : Query → ℕ → Bool
side_of OfTest v = is_true v
side_of (OfPick a) v = not (v == a)

-- the number that is asked about next has this property
abbrev pub AsksOf : (ℕ → Type 0) → Script → Type 0
AsksOf P (Finished outcome draws) = ⊥
AsksOf P (Asked q v draws rest) = P v

-- no member is on this side
abbrev pub NoneAnswers : Node → Query → Bool → Type 0
NoneAnswers n q c = (input : List ℕ) (left : Script) → IsMemberAt n input left → AsksOf (λ v. side_of q v ≡ c) left → ⊥

-- the least number that a member picks
pub record IsLeastPick (n : Node) (a : ℕ) : Type 0 where
  pub picked : (input : List ℕ) × (left : Script) × IsMemberAt n input left × AsksOf (λ v. v ≡ a) left
  pub least : (input : List ℕ) (left : Script) → IsMemberAt n input left → AsksOf (λ v. a ≤ v) left
