-- Which sides of questions the tree leaves out, and what refutes them.
use Rattle.std.specs.Prelude.{◌≡◌, ◌⊎◌, ℕ, Bool, true, false, not, List, [], ◌∷◌, ◌++◌, length, None}
use Rattle.bv_terms.specs.Terms.{is_number}
use Rattle.refute_check.specs.Logs.{IsAccepted}
use Rattle.refute_check.specs.declared.refutation.Refutation.{Refutation}
use Rattle.bit_blast.specs.Formulas.{formula}
use Rattle.path_ask.specs.Verdicts.{IsVerdict}
use Rattle.path_ask.specs.declared.verdicts.Verdict.TheVariants.{Dropped as RefutedVerdict}
use Rattle.wasm_reduction.specs.Configurations.{Test, Pick, Assume}
use Rattle.wasm_reduction.specs.Scripts.{Script, Finished, Asked, drawn, widths}
use Rattle.fork_tree.specs.declared.drops.Dropped.{Dropped}
use Rattle.sym_state.specs.Nodes.{Condition, Node}
use Rattle.fork_tree.specs.Nodes.{IsLeastAt, Query, OfTest, OfPick, is_true, NoneAnswers, IsLeastPick}
use Rattle.fork_tree.specs.Marks.{Words, Marks, condition_at}
use Rattle.fork_tree.specs.Tree.{Branch, Under, Dead, Turn, Goes, EndsBy, Forks, Turns}

-- ---- nodes of a tree

abbrev pub IsUnder : Branch → Node → Type 0
IsUnder (Under m) n = n ≡ m
IsUnder (Dead l) n = ⊥

-- the node comes right after this turn
abbrev pub ComesOf : Turn → Node → Type 0
ComesOf (Goes m) n = n ≡ m
ComesOf (EndsBy l) n = ⊥
ComesOf (Forks a b) n = IsUnder a n ⊎ IsUnder b n

-- the second node comes of the first, through these nodes, of which it is the last
abbrev pub IsBelow : Words → Marks → ℕ → List Node → Node → Node → Type 0
IsBelow words marks F [] n m = m ≡ n
IsBelow words marks F (next ∷ nodes) n m = ((turn : Turn) × Turns words marks F n turn × ComesOf turn next) × IsBelow words marks F nodes next m

-- ---- sides about which the solver is asked

-- Where the next question is about a term, the solver is asked whether a member is on this side: the one of a test on which the least
-- member isn't; of a pick whose least number the least member picks, that it is another number; of an assume that the least
-- member fails, that it is met.
abbrev pub IsAskedAbout : Marks → Node → Script → Query → Bool → Type 0
IsAskedAbout marks n (Finished outcome draws) q c = ⊥
IsAskedAbout marks n (Asked Test v draws rest) q c = (q ≡ OfTest) × (c ≡ not (is_true v))
IsAskedAbout marks n (Asked Pick v draws rest) q c = (marks.least n ≡ false) × IsLeastPick n v × (q ≡ OfPick v) × (c ≡ true)
IsAskedAbout marks n (Asked Assume v draws rest) q c = (is_true v ≡ false) × (q ≡ OfTest) × (c ≡ true)

-- the side is marked
abbrev pub mark_of : Marks → Node → Script → Query → Bool → Bool
mark_of marks n (Asked Assume v draws rest) q c = marks.meeting n
mark_of marks n _ q c = marks.other n q (not c)

-- the conditions of the node and that of the side
abbrev pub side_conditions : Words → Node → Query → Bool → List Condition
side_conditions words n q c = n.conditions ++ condition_at words n q c ∷ []

-- The tree leaves the side out: no member is on it, and it isn't marked.
pub record IsLeftOut (words : Words) (marks : Marks) (n : Node) (left : Script) (q : Query) (c : Bool) : Type 0 where
  pub on_term : is_number (words.asked n.answers) ≡ false
  pub asked : IsAskedAbout marks n left q c
  pub unmarked : mark_of marks n left q c ≡ false
  pub none : NoneAnswers n q c

-- the clause machine refutes the formula of these conditions, and its log is accepted
pub record IsRefutedBy (conditions : List Condition) (draws : List Bool) (bound : ℕ) (refutation : Refutation) : Type 0 where
  pub verdict : IsVerdict conditions draws bound (RefutedVerdict refutation)
  pub accepted : IsAccepted (formula conditions draws None).clauses refutation.log

-- ---- what an expansion drops

-- The machine refutes the side about which the solver is asked at the node.
pub record IsDropped (words : Words) (marks : Marks) (bound : ℕ) (n : Node) (left : Script) (refutation : Refutation) : Type 0 where
  pub on_term : is_number (words.asked n.answers) ≡ false
  pub query : Query
  pub side : Bool
  pub asked : IsAskedAbout marks n left query side
  pub verdict : IsVerdict (side_conditions words n query side) (widths (drawn left)) bound (RefutedVerdict refutation)

abbrev pub entry_of : Node → Refutation → Dropped
entry_of n refutation = record { choices = n.choices; ask = length n.answers; refutation = refutation }

-- what is dropped at one node: the refutation of its side, or nothing
abbrev pub DropsAt : Words → Marks → ℕ → Node → List Dropped → Type 0
DropsAt words marks bound n drops =
    (left : Script) × IsLeastAt n left
    × (((refutation : Refutation) × IsDropped words marks bound n left refutation × (drops ≡ entry_of n refutation ∷ []))
    ⊎ (((refutation : Refutation) → IsDropped words marks bound n left refutation → ⊥) × (drops ≡ [])))

-- what is dropped where a node goes on through these nodes, in order of questions
abbrev pub Drops : Words → Marks → ℕ → List Node → Node → List Dropped → Type 0
Drops words marks bound [] n drops = DropsAt words marks bound n drops
Drops words marks bound (m ∷ nodes) n drops =
    (first : List Dropped) × (later : List Dropped) × DropsAt words marks bound n first × Drops words marks bound nodes m later × (drops ≡ first ++ later)
