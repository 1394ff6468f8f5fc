-- Nodes of the tree of a run on all inputs at once: what a run has been answered so far, and which inputs are answered so. They are
-- defined by the bounded runs of single inputs alone.
use Rattle.std.specs.Prelude.{◌≡◌, ◌≢◌, ◌⊎◌, ℕ, ◌<◌, ◌≤◌, Bool, true, false, List, [], ◌∷◌, All}
use Rattle.wasm_ast.specs.declared.modules.Module.{Module}
use Rattle.wasm_ast.specs.declared.runs.Value.{Value}
use Rattle.wasm_soundness.specs.Laws.{CanBeRun, Fit}
use Rattle.wasm_reduction.specs.Widths.{HasNumbers, ArgumentFits}
use Rattle.wasm_reduction.specs.Configurations.{Test, Pick, Assume}
use Rattle.wasm_reduction.specs.Scripts.{Script, Finished, Asked, IsScript, Past, drawn, as_input}
use Rattle.bv_terms.specs.Terms.{Term, value_of}

-- What is run: the function entry of a module, with these arguments, and a bound on steps. (Execution, Modules: Invocation)
pub record Invocation : Type 0 where
  pub «module» : Module
  pub entry : ℕ
  pub args : List Value
  pub steps : ℕ

-- the most units that a run may be given
abbrev pub most_steps : ℕ
most_steps = 10000000

-- The module is well-formed, valid and ready, the arguments fit the function, all their numbers are those of their types, and the
-- bound on steps is one that a run may have.
pub record CanExplore (i : Invocation) : Type 0 where
  pub can : CanBeRun i.«module»
  pub fit : Fit i.«module» i.entry i.args
  pub has_numbers : HasNumbers i.«module»
  pub fitting : All ArgumentFits i.args
  pub some : 1 ≤ i.steps
  pub few : i.steps ≤ most_steps

-- ---- conditions

-- a condition on an input: that the term isn't 0 there, where true, or that it is, where false
abbrev pub Condition : Type 0
Condition = Term × Bool

-- the input meets the condition
abbrev pub IsMet : List ℕ → Condition → Type 0
IsMet input (t, true) = value_of input t ≢ 0
IsMet input (t, false) = value_of input t ≡ 0

-- it meets all of them
abbrev pub AreMet : List ℕ → List Condition → Type 0
AreMet input [] = Unit {0}
AreMet input (condition ∷ others) = IsMet input condition × AreMet input others

-- ---- nodes

-- The choices that led here, 0 or 1 each; the answers to the questions of a run, in order; the numbers that the next pick is none
-- of; and the conditions on inputs.
pub record Node : Type 0 where
  pub invocation : Invocation
  pub choices : List ℕ
  pub answers : List ℕ
  pub excluded : List ℕ
  pub conditions : List Condition

-- where all begins
abbrev pub root : Invocation → Node
root invocation = record { invocation = invocation; choices = []; answers = []; excluded = []; conditions = [] }

-- the script of the bounded run at an input
abbrev pub IsScriptAt : Invocation → List ℕ → Script → Type 0
IsScriptAt i input s = IsScript i.«module» i.entry i.args input i.steps s

-- ---- members

-- the number is none of these
abbrev pub IsNoneOf : List ℕ → ℕ → Type 0
IsNoneOf [] n = Unit {0}
IsNoneOf (e ∷ others) n = (n ≢ e) × IsNoneOf others n

-- what is left of a run begins with a pick of none of these numbers
abbrev pub PicksNoneOf : List ℕ → Script → Type 0
PicksNoneOf numbers (Finished outcome draws) = ⊥
PicksNoneOf numbers (Asked Test v draws rest) = ⊥
PicksNoneOf numbers (Asked Assume v draws rest) = ⊥
PicksNoneOf numbers (Asked Pick v draws rest) = IsNoneOf numbers v

-- where numbers are excluded
abbrev pub IsAllowed : List ℕ → Script → Type 0
IsAllowed [] left = Unit {0}
IsAllowed (e ∷ others) left = PicksNoneOf (e ∷ others) left

-- The answers of the node are the first of the input's run, no assume among them is answered 0, and this is left of the run then;
-- where numbers are excluded, it next picks none of them.
pub record IsMemberAt (n : Node) (input : List ℕ) (left : Script) : Type 0 where
  pub script : Script
  pub is_script : IsScriptAt n.invocation input script
  pub past : Past n.answers script left
  pub allowed : IsAllowed n.excluded left

-- The input is a member of the node. Numbers from 2^64 on, which no list of the code has, are read as any others.
abbrev pub IsMember : Node → List ℕ → Type 0
IsMember n input = (left : Script) × IsMemberAt n input left

-- ---- the least member

-- the first list is the second, or is less: it has a smaller number at the first place where they differ, or ends there
abbrev pub IsAtMost : List ℕ → List ℕ → Type 0
IsAtMost [] ys = Unit {0}
IsAtMost (x ∷ xs) [] = ⊥
IsAtMost (x ∷ xs) (y ∷ ys) = (x < y) ⊎ ((x ≡ y) × IsAtMost xs ys)

-- the numbers that the run draws until its next question or its end
abbrev pub draws_before : Script → List ℕ
draws_before left = as_input (drawn left)

-- the least of what members draw until their next question or their end
pub record IsLeastOf (n : Node) (draws : List ℕ) : Type 0 where
  pub input : List ℕ
  pub left : Script
  pub member : IsMemberAt n input left
  pub draws_are : draws_before left ≡ draws
  pub least : (other : List ℕ) (rest : Script) → IsMemberAt n other rest → IsAtMost draws (draws_before rest)
