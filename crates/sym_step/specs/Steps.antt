-- What the steps of a path promise: which node it goes on to, and where it stops.
use Rattle.std.specs.Prelude.{◌≡◌, ◌≢◌, ◌⊎◌, ℕ, ◌+◌, ◌≤◌, List, [], ◌∷◌, Option, Some, None}
use Rattle.wasm_reduction.specs.Configurations.{Question, Test, Pick, Assume, Returns, Traps, Fails}
use Rattle.wasm_reduction.specs.Runs.{Trace, Halt, Stands, Ended, Bound, Deep, Over, answer_of}
use Rattle.wasm_reduction.specs.RunImages.{halt_image}
use Rattle.bv_terms.specs.Terms.{Term, Number, value_of}
use Rattle.bv_terms.specs.Graphs.{TermGraph}
use Rattle.wasm_machine.specs.Values.{question}
use Rattle.wasm_machine.specs.declared.next.Question.{Question as CodeQuestion}
use Rattle.wasm_machine.specs.declared.next.Question.TheVariants.{Test as CodeTest, Pick as CodePick, Assume as CodeAssume}
use Rattle.sym_state.specs.declared.config.Standing.{Standing}
use Rattle.sym_state.specs.declared.config.Standing.TheVariants.{Goes, Asks, Answered, Ends}
use Rattle.sym_state.specs.declared.config.End.{End}
use Rattle.sym_state.specs.declared.config.End.TheVariants.{Returns as EndReturns, Traps as EndTraps, Fails as EndFails, Bound as EndBound, Deep as EndDeep, Void as EndVoid}
use Rattle.sym_state.specs.Nodes.{AreMet, IsMember, Node}
use Rattle.sym_state.specs.NextNodes.{MembersAsk, gone_on}
use Rattle.sym_state.specs.States.{Least, over_terms, run_at}
use Rattle.sym_state.specs.Fields.{Fields, StandsBefore, StandsFor, conditions_of, path_of, results_of, term_at}
use Rattle.sym_step.specs.declared.stops.Stop.{Stop}
use Rattle.sym_step.specs.declared.stops.Stop.TheVariants.{Test as StopTest, Pick as StopPick, Assume as StopAssume, End as StopEnd}

-- ---- questions on numbers

-- the run over terms that has the node's answers, and no more, stands at this question
pub record IsAsked (n : Node) (q : Question) (t : Term) : Type 0 where
  pub turns : ℕ
  pub trace : Trace
  pub over : over_terms n turns ≡ Over (Stands q t) trace

-- the node to which these answers lead
abbrev pub gone_through : Node → List ℕ → Node
gone_through n [] = n
gone_through n (a ∷ answers) = gone_through (gone_on n a) answers

-- at the node a number is asked about, which answers so, and which no assume fails
pub record IsNumberAnswered (n : Node) (answer : ℕ) : Type 0 where
  pub question : Question
  pub number : ℕ
  pub asked : IsAsked n question (Number number)
  pub answers : answer_of question number ≡ answer
  pub passes : question ≡ Assume → answer ≢ 0

-- From the node on, these are the answers of numbers that are asked about.
abbrev pub AreNumbersAnswered : Node → List ℕ → Type 0
AreNumbersAnswered n [] = Unit {0}
AreNumbersAnswered n (a ∷ answers) = IsNumberAnswered n a × AreNumbersAnswered (gone_on n a) answers

-- ---- stops

-- The run over terms that has the node's answers comes to this, and each member's run to its value there.
pub record IsOver (n : Node) (halt : Halt Term) : Type 0 where
  pub turns : ℕ
  pub trace : Trace
  pub over : over_terms n turns ≡ Over halt trace
  pub members : (input : List ℕ) → IsMember n input → run_at n input turns ≡ Over (halt_image (value_of input) halt) trace

-- The run over terms that has the node's answers asks this about a term, and each member's run next asks it about the number that the
-- term is there.
pub record AreAsked (n : Node) (q : Question) (t : Term) : Type 0 where
  pub asked : IsAsked n q t
  pub members : MembersAsk n q t

abbrev pub EndsSo : Node → TermGraph → End → Type 0
EndsSo n g (EndReturns results) = IsOver n (Ended (Returns (results_of g results)))
EndsSo n g (EndTraps cause) = IsOver n (Ended (Traps cause))
EndsSo n g EndFails = IsOver n (Ended Fails)
EndsSo n g EndBound = IsOver n Bound
EndsSo n g EndDeep = IsOver n Deep
EndsSo n g EndVoid = AreAsked n Assume (Number 0)

-- what a stop says is what the runs of the node's members do next
abbrev pub StopsSo : Node → TermGraph → Stop → Type 0
StopsSo n g (StopTest t) = AreAsked n Test (term_at g t)
StopsSo n g (StopPick t) = AreAsked n Pick (term_at g t)
StopsSo n g (StopAssume t) = AreAsked n Assume (term_at g t)
StopsSo n g (StopEnd e) = EndsSo n g e

abbrev pub stop_at : CodeQuestion → ℕ → Stop
stop_at CodeTest t = StopTest t
stop_at CodePick t = StopPick t
stop_at CodeAssume t = StopAssume t

-- what is said of a state that stands there, where it stops
abbrev pub stop_of : Standing → Option Stop
stop_of (Asks q t) = Some (stop_at q t)
stop_of (Ends e) = Some (StopEnd e)
stop_of Goes = None
stop_of (Answered q t answer) = None

-- ---- going on

-- the state stands for a node with this bound on steps, or for one before its answer
pub record StandsSomewhere (s : Fields) (steps : ℕ) : Type 0 where
  pub node : Node
  pub bound : node.invocation.steps ≡ steps
  pub stands : StandsFor node s ⊎ ((next : Node) × (q : CodeQuestion) × (t : ℕ) × StandsBefore node next q t s)

-- What going on makes of a state s that stood for the node n, and stops so: it passes questions on numbers.
pub record GoesOn (n : Node) (s t : Fields) (stop : Stop) : Type 0 where
  pub answers : List ℕ
  pub numbers : AreNumbersAnswered n answers
  pub stands : StandsFor (gone_through n answers) t
  pub stops : StopsSo (gone_through n answers) t.graph stop
  pub standing : stop_of t.config.standing ≡ Some stop
  pub same : (t.conds ≡ s.conds) × (t.choices ≡ s.choices) × (t.least ≡ s.least)
  pub least : Least n (path_of s) → Least (gone_through n answers) (path_of t)

-- ---- answers

-- an answer that the question may have
abbrev pub CanAnswer : CodeQuestion → ℕ → Type 0
CanAnswer CodeTest answer = answer ≤ 1
CanAnswer CodePick answer = Unit {0}
CanAnswer CodeAssume answer = answer ≡ 1

-- The state stands at a question of a term, and every input that meets its conditions gives this answer.
pub record IsAnswer (s : Fields) (answer : ℕ) : Type 0 where
  pub q : CodeQuestion
  pub t : ℕ
  pub asks : s.config.standing ≡ Asks q t
  pub fits : CanAnswer q answer
  pub given : (input : List ℕ) → AreMet input (conditions_of s.graph s.conds) → answer_of (question q) (value_of input (term_at s.graph t)) ≡ answer

-- the answer is noted beside the question, which is one more that was asked and answered
abbrev pub with_answer : Standing → ℕ → Standing
with_answer (Asks q t) answer = Answered q t answer
with_answer standing answer = standing

abbrev pub with_noted : Fields → ℕ → Fields
with_noted s answer = record s { config = record (s.config) { standing = with_answer s.config.standing answer }; asks = s.asks + 1 }
