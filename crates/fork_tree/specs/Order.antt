-- The order of rows, and what a row prints.
use Rattle.std.specs.Prelude.{◌⊎◌, ◌≡◌, ◌≢◌, ℕ, List, [], ◌∷◌}
use Rattle.wasm_ast.specs.declared.runs.Outcome.{Outcome}
use Rattle.wasm_ast.specs.declared.runs.Outcome.TheVariants.{Assumes as AssumeFailed}
use Rattle.wasm_reduction.specs.Scripts.{Script, Finished, drawn, told, as_input, without_numbers}
use Rattle.sym_state.specs.Nodes.{IsScriptAt}
use Rattle.fork_tree.specs.declared.rows.Kind.{Kind}
use Rattle.fork_tree.specs.declared.rows.Kind.TheVariants.{Cut, Undecided, Void}
use Rattle.fork_tree.specs.declared.rows.Row.{Row}
use Rattle.fork_tree.specs.Nodes.{IsLeastAt}
use Rattle.fork_tree.specs.Tree.{Leaf, Whole, kind_of}
use Rattle.fork_tree.specs.Covers.{Covers}

-- where they first differ, the first has 0 and the second 1; and they do differ, so that neither begins with the other
abbrev pub Before : List ℕ → List ℕ → Type 0
Before [] ys = ⊥
Before (x ∷ xs) [] = ⊥
Before (x ∷ xs) (y ∷ ys) = ((x ≡ 0) × (y ≡ 1)) ⊎ ((x ≡ y) × Before xs ys)

abbrev pub EachRow : (Row → Type 0) → List Row → Type 0
EachRow P [] = Unit {0}
EachRow P (r ∷ rs) = P r × EachRow P rs

-- each row's choices stand before those of each later row
abbrev pub Rising : List Row → Type 0
Rising [] = Unit {0}
Rising (r ∷ rs) = EachRow (λ s. Before r.choices s.choices) rs × Rising rs

abbrev pub EachLeaf : (Leaf → Type 0) → List Leaf → Type 0
EachLeaf P [] = Unit {0}
EachLeaf P (l ∷ ls) = P l × EachLeaf P ls

-- The row covers its whole node, and its draws are what the node's least member has drawn before this.
pub record PrintsLeast (l : Leaf) (s : Script) : Type 0 where
  pub least : IsLeastAt l.node s
  pub draws : drawn s ≡ l.row.draws
  pub whole : l.share ≡ Whole

-- Undecided and void rows print no input. A cut row prints the least of its node, and a row of an outcome the least of its
-- node, whose run has this outcome.
abbrev pub Prints : Leaf → Kind → Type 0
Prints l Undecided = l.row.draws ≡ []
Prints l Void = l.row.draws ≡ []
Prints l Cut = (s : Script) × PrintsLeast l s
Prints l kind = (outcome : Outcome) × (kind ≡ kind_of outcome) × PrintsLeast l (Finished outcome l.row.draws)

abbrev pub PrintsItsLeast : Leaf → Type 0
PrintsItsLeast l = Prints l l.row.kind

-- ---- what a row says of the inputs that it covers

-- A row of an outcome: the run of each input that it covers has this outcome, but for its numbers, and the run of the input that
-- it prints has the outcome and the draws of the row.
pub record TellsRuns (l : Leaf) (outcome : Outcome) : Type 0 where
  pub each : (input : List ℕ) (s : Script) → Covers input l → IsScriptAt l.node.invocation input s → without_numbers (told s).outcome ≡ without_numbers outcome
  pub printed : (s : Script) → IsScriptAt l.node.invocation (as_input l.row.draws) s → (told s).outcome ≡ outcome
  pub drawn_so : (s : Script) → IsScriptAt l.node.invocation (as_input l.row.draws) s → (told s).draws ≡ l.row.draws

abbrev pub TellsOutcome : Leaf → Type 0
TellsOutcome l = (outcome : Outcome) → l.row.kind ≡ kind_of outcome → outcome ≢ AssumeFailed → TellsRuns l outcome
