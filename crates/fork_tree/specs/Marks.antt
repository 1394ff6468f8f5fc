-- Words of questions and of results, and marks: where the solver has given up.
--
-- The words come of the run over terms that is answered by the node's answers.
use Rattle.std.specs.Prelude.{◌≡◌, ℕ, Bool, true, false, not, List, ◌∷◌, [], ◌++◌}
use Rattle.bv_terms.specs.Terms.{Term, Number, Symbol, is_number}
use Rattle.bv_terms.specs.Making.{terms}
use Rattle.path_ask.specs.Verdicts.{IsVerdict, IsPick}
use Rattle.path_ask.specs.declared.verdicts.Verdict.TheVariants.{Undecided}
use Rattle.path_ask.specs.declared.verdicts.Pick.TheVariants.{Undecided as UndecidedPick}
use Rattle.wasm_reduction.specs.Configurations.{Question, Value, Returns}
use Rattle.wasm_reduction.specs.Runs.{Trace, Halt, Stands, Ended, Over, by_list, runs}
use Rattle.wasm_reduction.specs.Scripts.{Script, drawn, widths}
use Rattle.sym_state.specs.Nodes.{Invocation, Condition, Node}
use Rattle.fork_tree.specs.Nodes.{IsLeastAt, Query, OfTest, OfPick}

-- ---- words

-- what the run over terms that has these answers, and no more, asks about next, and what it returns where it does
pub record Words : Type 0 where
  pub asked : List ℕ → Term
  pub returned : List ℕ → List (Value Term)

-- the run over terms that has these answers, where it is over
abbrev pub IsOverTerms : Invocation → List ℕ → Halt Term → Type 0
IsOverTerms i answers halt =
    (turns : ℕ) × (trace : Trace) × (runs terms Symbol (by_list answers) i.«module» i.entry i.args i.steps turns ≡ Over halt trace)

pub record AreWords (i : Invocation) (words : Words) : Type 0 where
  pub asked : (answers : List ℕ) (q : Question) (t : Term) → IsOverTerms i answers (Stands q t) → words.asked answers ≡ t
  pub returned : (answers : List ℕ) (vs : List (Value Term)) → IsOverTerms i answers (Ended (Returns vs)) → words.returned answers ≡ vs

-- i32.ne of a word and a number
abbrev pub differs_from : Term → ℕ → Term
differs_from t a = terms.binary 0x47 t (Number a)

-- the condition that an input is on a side of a question about this word
abbrev pub condition_of : Term → Query → Bool → Condition
condition_of t OfTest c = (t, c)
condition_of t (OfPick a) c = (differs_from t a, c)

-- the condition of a side of the node's next question
abbrev pub condition_at : Words → Node → Query → Bool → Condition
condition_at words n q c = condition_of (words.asked n.answers) q c

-- ---- marks

-- Where the solver gave up: at the side that the least member isn't on, where the least member answers so; at the inputs that
-- meet an assume; and at the least number that is picked.
pub record Marks : Type 0 where
  pub other : Node → Query → Bool → Bool
  pub meeting : Node → Bool
  pub least : Node → Bool

-- on a term, and no number
abbrev pub OnTerm : Bool → Type 0 → Type 0
OnTerm true P = ⊥
OnTerm false P = P

-- the clause machine spends its conflicts on these conditions
abbrev pub IsSpent : List Condition → List Bool → ℕ → Type 0
IsSpent conditions widths bound = IsVerdict conditions widths bound Undecided

-- At a pick whose least number is answered 1, the other side has an input, and isn't marked.
abbrev pub IsOtherSpent : Words → Node → List Bool → ℕ → Query → Bool → Type 0
IsOtherSpent words n widths bound OfTest b = IsSpent (n.conditions ++ condition_at words n OfTest (not b) ∷ []) widths bound
IsOtherSpent words n widths bound (OfPick a) false = IsSpent (n.conditions ++ condition_at words n (OfPick a) true ∷ []) widths bound
IsOtherSpent words n widths bound (OfPick a) true = ⊥

-- true exactly where this holds
abbrev pub Exactly : Bool → Type 0 → Type 0
Exactly true P = P
Exactly false P = P → ⊥

-- The marks by the clause machine with this bound on conflicts, at nodes that have members. A question about a number is never
-- marked. The widths are those of the symbols that were drawn before the question.
pub record AreMarks (words : Words) (bound : ℕ) (marks : Marks) : Type 0 where
  pub other : (n : Node) (left : Script) → IsLeastAt n left → (q : Query) (b : Bool)
      → Exactly (marks.other n q b) (OnTerm (is_number (words.asked n.answers)) (IsOtherSpent words n (widths (drawn left)) bound q b))
  pub meeting : (n : Node) (left : Script) → IsLeastAt n left
      → Exactly (marks.meeting n) (OnTerm (is_number (words.asked n.answers)) (IsSpent (n.conditions ++ condition_at words n OfTest true ∷ []) (widths (drawn left)) bound))
  pub least : (n : Node) (left : Script) → IsLeastAt n left
      → Exactly (marks.least n) (OnTerm (is_number (words.asked n.answers)) (IsPick n.conditions (widths (drawn left)) (words.asked n.answers) bound UndecidedPick))
