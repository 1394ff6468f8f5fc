-- What a turn does with the members of its node.
use Rattle.std.specs.Prelude.{◌⊎◌, ◌≡◌, ◌≢◌, ℕ, List, Bool, true}
use Rattle.wasm_ast.specs.declared.runs.Outcome.TheVariants.{Assumes as AssumeFailed}
use Rattle.wasm_reduction.specs.Configurations.{Question, Test, Pick, Assume}
use Rattle.wasm_reduction.specs.Scripts.{Script, told}
use Rattle.sym_state.specs.Nodes.{Invocation, IsScriptAt, Node, IsMemberAt, IsMember}
use Rattle.fork_tree.specs.Nodes.{Query, OfTest, OfPick, IsLeastPick, AsksOf, side_of}
use Rattle.fork_tree.specs.Tree.{Branch, Under, Dead, Turn, Goes, EndsBy, Forks}
use Rattle.fork_tree.specs.Covers.{IsIn, Covers}

-- the input's run fails no assume
abbrev pub Meets : Invocation → List ℕ → Type 0
Meets i input = (s : Script) → IsScriptAt i input s → (told s).outcome ≢ AssumeFailed

-- the input is a member on this side
abbrev pub OnSide : Node → Query → Bool → List ℕ → Type 0
OnSide n q c input = (t : Script) × IsMemberAt n input t × AsksOf (λ v. side_of q v ≡ c) t

-- the question that is asked has this side
abbrev pub Fits : Node → Question → Query → Bool → Type 0
Fits n Test OfTest c = Unit {0}
Fits n Test (OfPick a) c = ⊥
Fits n Assume OfTest c = c ≡ true
Fits n Assume (OfPick a) c = ⊥
Fits n Pick OfTest c = ⊥
Fits n Pick (OfPick a) c = IsLeastPick n a

abbrev pub InBranch : Branch → List ℕ → Type 0
InBranch (Under m) input = IsMember m input
InBranch (Dead l) input = Covers input l

pub record ForkParts (n : Node) (a b : Branch) : Type 0 where
  pub first : (input : List ℕ) → InBranch a input → IsMember n input
  pub second : (input : List ℕ) → InBranch b input → IsMember n input
  pub apart : (input : List ℕ) → InBranch a input → InBranch b input → ⊥
  pub all : (input : List ℕ) → IsMember n input → InBranch a input ⊎ InBranch b input

-- the members of the node that meet their assumptions are shared out, each once
abbrev pub Parts : Node → Turn → Type 0
Parts n (EndsBy l) = (l.node ≡ n) × ((input : List ℕ) (t : Script) → IsMemberAt n input t → Meets n.invocation input → IsIn l.share t)
Parts n (Goes m) = ((input : List ℕ) → IsMember m input → IsMember n input) × ((input : List ℕ) → IsMember n input → Meets n.invocation input → IsMember m input)
Parts n (Forks a b) = ForkParts n a b
