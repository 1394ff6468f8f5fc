-- The tree of paths: how a node goes on, forks or is a row, and which rows there are below it.
use Rattle.std.specs.Prelude.{◌≡◌, ◌⊎◌, ℕ, Bool, true, false, not, ◌==◌, nat_lt, if◌then◌else◌, List, [], ◌∷◌, ◌++◌, length}
use Rattle.wasm_ast.specs.declared.runs.Draw.{Draw}
use Rattle.wasm_ast.specs.declared.runs.Outcome.{Outcome}
use Rattle.wasm_ast.specs.declared.runs.Outcome.TheVariants.{Returns as Returned, Traps as Trapped, Fails as Failed, Assumes as AssumeFailed, Bound as BoundReached, Deep as TooDeep}
use Rattle.bv_terms.specs.Terms.{is_number}
use Rattle.wasm_reduction.specs.Configurations.{Test, Pick, Assume}
use Rattle.wasm_reduction.specs.Scripts.{Script, Finished, Asked}
use Rattle.fork_tree.specs.declared.rows.Kind.{Kind}
use Rattle.fork_tree.specs.declared.rows.Kind.TheVariants.{Returns, Traps, Fails, Bound, Deep, Cut, Undecided, Void}
use Rattle.fork_tree.specs.declared.rows.Row.{Row}
use Rattle.fork_tree.specs.declared.rows.Terms.{Terms}
use Rattle.sym_state.specs.Nodes.{Node}
use Rattle.sym_state.specs.NextNodes.{bit, gone_on, assumed, test_side, pick_side}
use Rattle.fork_tree.specs.Nodes.{IsLeastAt, Query, OfTest, OfPick, is_true, NoneAnswers, IsLeastPick}
use Rattle.fork_tree.specs.Marks.{Words, differs_from, Marks}
use Rattle.fork_tree.specs.ShownTerms.{shown_terms, no_terms}

-- ---- the nodes after a question

-- the node goes on with all its members; where they pick, they pick this number
abbrev pub passed : Node → Query → Bool → Node
passed n OfTest b = gone_on n (bit b)
passed n (OfPick a) b = gone_on n a

-- The node of the members on one side, by one choice more. The members that pick another number than this one pick again.
abbrev pub child : Words → Node → Query → Bool → Node
child words n OfTest c = test_side n (words.asked n.answers) c
child words n (OfPick a) c = pick_side n (differs_from (words.asked n.answers) a) a c

-- the node of the members that meet an assume; an assume of a number adds no condition
abbrev pub met : Words → Node → Node
met words n = if is_number (words.asked n.answers) then gone_on n 1 else assumed n (words.asked n.answers)

-- ---- rows, and what a node makes of its members

-- Which members of its node a row covers: all; those on a side; those that meet the assume; none.
pub data Share : Type 0 where
  Whole : Share
  Side : Query → Bool → Share
  Meeting : Share
  Nobody : Share

-- a row with its node, and with the share that it covers
pub record Leaf : Type 0 where
  pub row : Row
  pub node : Node
  pub share : Share

abbrev pub row_of : List ℕ → Kind → List Draw → Terms → Row
row_of choices kind draws shown = record { choices = choices; kind = kind; draws = draws; terms = shown }

abbrev pub leaf : Node → Kind → List Draw → Terms → Share → Leaf
leaf n kind draws shown share = record { row = row_of n.choices kind draws shown; node = n; share = share }

-- one side of a fork: a node, or the row of a side that is undecided
pub data Branch : Type 0 where
  Under : Node → Branch
  Dead : Leaf → Branch

-- one turn: the node goes on as another one, it is a row, or it forks
pub data Turn : Type 0 where
  Goes : Node → Turn
  EndsBy : Leaf → Turn
  Forks : Branch → Branch → Turn

-- the row of an undecided side
abbrev pub dead : Node → Query → Bool → Branch
dead n q c = Dead (record { row = row_of (n.choices ++ bit c ∷ []) Undecided [] no_terms; node = n; share = Side q c })

-- the side b as a node, beside the other one as an undecided row
abbrev pub beside : Words → Node → Query → Bool → Turn
beside words n q false = Forks (Under (child words n q false)) (dead n q true)
beside words n q true = Forks (dead n q false) (Under (child words n q true))

-- ---- turns

-- the first where P holds, else the second
abbrev pub Either : Type 0 → Type 0 → Type 0 → Type 0
Either P X Y = (P × X) ⊎ ((P → ⊥) × Y)

-- the first where true, else the second
abbrev pub IfTrue : Bool → Type 0 → Type 0 → Type 0
IfTrue true X Y = X
IfTrue false X Y = Y

-- How a path ends, by the outcome of its runs. No member of a node fails an assume.
abbrev pub kind_of : Outcome → Kind
kind_of (Returned values) = Returns values
kind_of (Trapped cause) = Traps cause
kind_of Failed = Fails
kind_of AssumeFailed = Void
kind_of BoundReached = Bound
kind_of TooDeep = Deep

-- what is shown of an outcome: the results over terms of one that returns
abbrev pub shown_of : Words → Node → Outcome → Terms
shown_of words n (Returned values) = shown_terms (words.returned n.answers)
shown_of words n outcome = no_terms

-- A question of two sides, where the least member w is on the side b, has drawn these draws, and a node may have F choices.
-- 1. Where no member is on the other side, and it isn't marked, the node goes on. 2. Else, where it has F choices, it is a cut
-- row. 3. Else, where the other side is marked, that side is an undecided row beside the node of the side b. 4. Else both sides
-- are nodes.
abbrev pub Queries : Words → Marks → ℕ → Node → List Draw → Query → Bool → Turn → Type 0
Queries words marks F n draws q b x =
    Either (NoneAnswers n q (not b) × (marks.other n q b ≡ false))
    (x ≡ Goes (passed n q b))
    (IfTrue (nat_lt (length n.choices) F)
    (IfTrue (marks.other n q b) (x ≡ beside words n q b) (x ≡ Forks (Under (child words n q false)) (Under (child words n q true))))
    (x ≡ EndsBy (leaf n Cut draws no_terms Whole)))

-- An assume. Where the least member meets it, the node goes on with those that do. Else, where this is marked, it is an
-- undecided row; else, where no member meets it, a void row; else the node goes on with those that do.
abbrev pub Assuming : Words → Marks → Node → Bool → Turn → Type 0
Assuming words marks n true x = x ≡ Goes (met words n)
Assuming words marks n false x =
    IfTrue (marks.meeting n) (x ≡ EndsBy (leaf n Undecided [] no_terms Meeting))
    (Either (NoneAnswers n OfTest true) (x ≡ EndsBy (leaf n Void [] no_terms Nobody)) (x ≡ Goes (met words n)))

-- A pick. Where its least number is marked, the node is an undecided row; else the question is whether the number is another
-- than the least one.
abbrev pub Picks : Words → Marks → ℕ → Node → List Draw → ℕ → Turn → Type 0
Picks words marks F n draws v x =
    IfTrue (marks.least n) (x ≡ EndsBy (leaf n Undecided [] no_terms Whole))
    ((a : ℕ) × IsLeastPick n a × Queries words marks F n draws (OfPick a) (not (v == a)) x)

-- what a node does by what the run of its least member does next
abbrev pub Does : Words → Marks → ℕ → Node → Script → Turn → Type 0
Does words marks F n (Finished outcome draws) x = x ≡ EndsBy (leaf n (kind_of outcome) draws (shown_of words n outcome) Whole)
Does words marks F n (Asked Test v draws rest) x = Queries words marks F n draws OfTest (is_true v) x
Does words marks F n (Asked Assume v draws rest) x = Assuming words marks n (is_true v) x
Does words marks F n (Asked Pick v draws rest) x = Picks words marks F n draws v x

-- one turn of a node
abbrev pub Turns : Words → Marks → ℕ → Node → Turn → Type 0
Turns words marks F n x = (left : Script) × IsLeastAt n left × Does words marks F n left x

-- ---- trees

-- the turns of a node and of all nodes below it
pub data Tree : Type 0 where
  End : Leaf → Tree
  Pass : Node → Tree → Tree
  Split : Branch → Branch → Tree → Tree → Tree

abbrev pub Below : (Node → Type 0) → Tree → Branch → Type 0
Below P t (Under m) = P m
Below P t (Dead l) = t ≡ End l

-- the tree below a node
abbrev pub IsTree : Words → Marks → ℕ → Tree → Node → Type 0
IsTree words marks F (End l) n = Turns words marks F n (EndsBy l)
IsTree words marks F (Pass m t) n = Turns words marks F n (Goes m) × IsTree words marks F t m
IsTree words marks F (Split a b t u) n =
    Turns words marks F n (Forks a b) × Below (IsTree words marks F t) t a × Below (IsTree words marks F u) u b

-- its leaves, side 0 first
abbrev pub leaves : Tree → List Leaf
leaves (End l) = l ∷ []
leaves (Pass m t) = leaves t
leaves (Split a b t u) = leaves t ++ leaves u

abbrev pub rows_of : List Leaf → List Row
rows_of [] = []
rows_of (l ∷ ls) = l.row ∷ rows_of ls

-- the rows below a node, in the order of choices
abbrev pub Rows : Words → Marks → ℕ → Node → List Row → Type 0
Rows words marks F n rows = (t : Tree) × IsTree words marks F t n × (rows ≡ rows_of (leaves t))

-- ---- expansions

abbrev pub Stops : Turn → Type 0
Stops (Goes m) = ⊥
Stops (EndsBy l) = Unit {0}
Stops (Forks a b) = Unit {0}

-- the node goes on through these nodes, and then is a row or forks
abbrev pub ExpandsBy : Words → Marks → ℕ → List Node → Node → Turn → Type 0
ExpandsBy words marks F [] n x = Turns words marks F n x × Stops x
ExpandsBy words marks F (m ∷ ms) n x = Turns words marks F n (Goes m) × ExpandsBy words marks F ms m x

-- the expansion of a node: what stops it, after all nodes as which it goes on
abbrev pub Expands : Words → Marks → ℕ → Node → Turn → Type 0
Expands words marks F n x = (ms : List Node) × ExpandsBy words marks F ms n x
