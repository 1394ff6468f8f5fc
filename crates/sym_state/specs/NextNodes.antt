-- The nodes that follow a node, by the question that its members' runs ask next.
use Rattle.std.specs.Prelude.{◌≡◌, ◌↔◌, ℕ, Bool, true, false, List, [], ◌∷◌, ◌++◌}
use Rattle.wasm_reduction.specs.Configurations.{Question}
use Rattle.wasm_reduction.specs.Runs.{answer_of}
use Rattle.wasm_reduction.specs.Scripts.{Script, Finished, Asked}
use Rattle.bv_terms.specs.Terms.{Term, value_of}
use Rattle.sym_state.specs.Nodes.{AreMet, Node, IsMemberAt, IsMember}

-- 1 where true, else 0
abbrev pub bit : Bool → ℕ
bit true = 1
bit false = 0

-- ---- going on

-- All members answer so: the node goes on, with the same choices and conditions, and no number excluded.
abbrev pub gone_on : Node → ℕ → Node
gone_on n answer = record n { answers = n.answers ++ answer ∷ []; excluded = [] }

-- the node goes on with those that meet an assume of a term
abbrev pub assumed : Node → Term → Node
assumed n t = record n { answers = n.answers ++ 1 ∷ []; excluded = []; conditions = n.conditions ++ (t, true) ∷ [] }

-- ---- the two sides of a question

-- a test of a term that is answered so
abbrev pub test_side : Node → Term → Bool → Node
test_side n t side =
    record n { choices = n.choices ++ bit side ∷ []; answers = n.answers ++ bit side ∷ []; excluded = []; conditions = n.conditions ++ (t, side) ∷ [] }

-- A pick, where the term `other` is whether the number is another than a: that it is, on side 1, excludes a; on side 0 the
-- number is a.
abbrev pub pick_side : Node → Term → ℕ → Bool → Node
pick_side n other a true =
    record n { choices = n.choices ++ 1 ∷ []; excluded = n.excluded ++ a ∷ []; conditions = n.conditions ++ (other, true) ∷ [] }
pick_side n other a false =
    record n { choices = n.choices ++ 0 ∷ []; answers = n.answers ++ a ∷ []; excluded = []; conditions = n.conditions ++ (other, false) ∷ [] }

-- ---- questions of members

-- what is left of a run begins with this question of this number
abbrev pub Begins : Question → ℕ → Script → Type 0
Begins q v (Finished outcome draws) = ⊥
Begins q v (Asked p u draws rest) = (p ≡ q) × (u ≡ v)

-- each member's run next asks this question, of the number that the term is at the member
abbrev pub MembersAsk : Node → Question → Term → Type 0
MembersAsk n q t = (input : List ℕ) (left : Script) → IsMemberAt n input left → Begins q (value_of input t) left

-- each member's run answers it so
abbrev pub MembersAnswer : Node → Question → Term → ℕ → Type 0
MembersAnswer n q t answer = (input : List ℕ) → IsMember n input → answer_of q (value_of input t) ≡ answer

-- The term `other` is 0 at an input exactly where t is the number a there.
abbrev pub IsOther : Term → Term → ℕ → Type 0
IsOther other t a = (input : List ℕ) → (value_of input other ≡ 0) ↔ (value_of input t ≡ a)

-- ---- what conditions say

-- an input meets the conditions of the node exactly where it is a member
abbrev pub IsExact : Node → Type 0
IsExact n = (input : List ℕ) → AreMet input n.conditions ↔ IsMember n input
