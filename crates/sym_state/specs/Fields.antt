-- The state of a path as contracts see it, and which node it stands for.
use Rattle.std.specs.Prelude.{◌≡◌, ℕ, suc, nat_lt, if◌then◌else◌, Bool, true, false, List, [], ◌∷◌, ◌++◌, All, map, Option, Some, None}
use Rattle.std.specs.List.{AllByRecursion}
use Rattle.wasm_ast.specs.declared.modules.Module.{Module}
use Rattle.wasm_reduction.specs.Configurations.{FuncRef, ExternRef, Value, I32, I64, Ref, Config as OneConfig, Assume, Returns, Traps, Fails, Stuck}
use Rattle.wasm_reduction.specs.Steps.{answered}
use Rattle.wasm_reduction.specs.Runs.{Halt, Over, Bound, Deep}
use Rattle.wasm_reduction.specs.RunImages.{trace_of}
use Rattle.bv_terms.specs.declared.words.Word.{Word}
use Rattle.bv_terms.specs.declared.words.Word.TheVariants.{Num, Term as Numbered}
use Rattle.bv_terms.specs.declared.words.Cond.{Cond}
use Rattle.bv_terms.specs.Terms.{Term, Number}
use Rattle.bv_terms.specs.Graphs.{TermGraph, Holds, term_of}
use Rattle.wasm_machine.specs.Acts.{Sane}
use Rattle.wasm_machine.specs.Configurations.{configuration}
use Rattle.wasm_machine.specs.Values.{question}
use Rattle.wasm_machine.specs.declared.next.Question.{Question}
use Rattle.sym_state.specs.declared.config.Config.{Config}
use Rattle.sym_state.specs.declared.config.Execution.{Execution}
use Rattle.sym_state.specs.declared.config.Standing.{Standing}
use Rattle.sym_state.specs.declared.config.Standing.TheVariants.{Goes, Asks, Answered, Ends}
use Rattle.sym_state.specs.declared.config.End.{End}
use Rattle.sym_state.specs.declared.config.End.TheVariants.{Returns as EndReturns, Traps as EndTraps, Fails as EndFails, Bound as EndBound, Deep as EndDeep, Void as EndVoid}
use Rattle.sym_state.specs.declared.config.Given.{Given}
use Rattle.sym_state.specs.declared.config.Given.TheVariants.{I32 as GivenI32, I64 as GivenI64, Func as GivenFunc, Extern as GivenExtern}
use Rattle.sym_state.specs.Nodes.{Condition, CanExplore, Node}
use Rattle.sym_state.specs.NextNodes.{bit}
use Rattle.sym_state.specs.States.{Stage, Running, Ended, Path, over_terms, Follows, FollowsBefore, Least, IsLeastGiven, IsAtQuestion}

-- the fields of a state, as contracts see them
pub record Fields : Type 0 where
  pub «module» : Module
  pub config : Config
  pub graph : TermGraph
  pub conds : List Cond
  pub draws : List Bool
  pub least : List ℕ
  pub choices : List ℕ
  pub asks : ℕ
  pub units : ℕ
  pub broken : Bool

-- ---- words

-- the word of a cell of the memory: below 256 a byte, else the term of that number
abbrev pub cell_word : ℕ → Word
cell_word cell = if nat_lt cell 256 then Num cell else Numbered cell

abbrev pub words_of_cells : List ℕ → List Word
words_of_cells cells = map cell_word cells

-- the term of a number in a graph
abbrev pub term_at : TermGraph → ℕ → Term
term_at g t = term_of g (Numbered t)

abbrev pub condition_of : TermGraph → Cond → Condition
condition_of g cond = (term_at g cond.term, cond.answer)

abbrev pub conditions_of : TermGraph → List Cond → List Condition
conditions_of g conds = map (condition_of g) conds

-- ---- what a state reads as

abbrev pub given_value : {V W : Type 0} → (V → W) → (Word → V) → Given → Value W
given_value value term (GivenI32 w) = I32 (value (term w))
given_value value term (GivenI64 w) = I64 (value (term w))
given_value value term (GivenFunc f) = Ref (FuncRef f)
given_value value term GivenExtern = Ref ExternRef

-- results as values of terms
abbrev pub results_of : TermGraph → List Given → List (Value Term)
results_of g results = map (given_value (λ t. t) (term_of g)) results

-- the configuration that the machine and the memory are
abbrev pub config_of : Module → TermGraph → Execution → OneConfig Term
config_of m g x = configuration (term_of g) m (map (term_of g) (words_of_cells x.memory)) x.machine

-- where the run is: where it has ended, no machine is needed; a noted answer is taken for given
abbrev pub stage_in : Module → TermGraph → Option Execution → Standing → Stage
stage_in m g execution (Ends (EndReturns results)) = Ended (Returns (results_of g results))
stage_in m g execution (Ends (EndTraps cause)) = Ended (Traps cause)
stage_in m g execution (Ends EndFails) = Ended Fails
stage_in m g None _ = Ended Stuck
stage_in m g (Some x) (Answered q t answer) = Running (answered (config_of m g x) answer)
stage_in m g (Some x) _ = Running (config_of m g x)

abbrev pub path_of : Fields → Path
path_of s = record {
  stage = stage_in s.«module» s.graph s.config.execution s.config.standing;
  conditions = conditions_of s.graph s.conds;
  draws = s.draws;
  least = s.least;
  choices = s.choices;
  asks = s.asks;
  units = s.units;
}

-- ---- states in order

abbrev pub GivenHeld : TermGraph → Given → Type 0
GivenHeld g (GivenI32 w) = Holds g w
GivenHeld g (GivenI64 w) = Holds g w
GivenHeld g (GivenFunc f) = Unit {0}
GivenHeld g GivenExtern = Unit {0}

abbrev pub EndHeld : TermGraph → End → Type 0
EndHeld g (EndReturns results) = AllByRecursion (GivenHeld g) results
EndHeld g _ = Unit {0}

abbrev pub StandingHeld : TermGraph → Standing → Type 0
StandingHeld g Goes = Unit {0}
StandingHeld g (Asks q t) = Holds g (Numbered t)
StandingHeld g (Answered q t answer) = Holds g (Numbered t)
StandingHeld g (Ends e) = EndHeld g e

-- the machine is in order, and its words and those of the memory are of the graph
pub record IsExecutionHeld (g : TermGraph) (x : Execution) : Type 0 where
  pub sane : Sane Holds g x.machine
  pub cells : AllByRecursion (Holds g) (words_of_cells x.memory)

abbrev pub ExecutionHeld : TermGraph → Option Execution → Type 0
ExecutionHeld g None = Unit {0}
ExecutionHeld g (Some x) = IsExecutionHeld g x

-- The state is in order: its words are of its graph, its machine is in order, and no call was refused.
pub record IsInOrder (s : Fields) : Type 0 where
  pub execution : ExecutionHeld s.graph s.config.execution
  pub standing : StandingHeld s.graph s.config.standing
  pub conds : All (λ cond. Holds s.graph (Numbered cond.term)) s.conds
  pub whole : s.broken ≡ false

-- ---- which node it stands for

-- after so many turns the run over terms comes to this next
abbrev pub IsAtHalt : Node → ℕ → Halt Term → Type 0
IsAtHalt n turns halt = over_terms n (suc turns) ≡ Over halt (trace_of (over_terms n turns))

-- what is known of where the run stands, is so
abbrev pub IsStandingAt : Node → ℕ → TermGraph → Standing → Type 0
IsStandingAt n turns g Goes = Unit {0}
IsStandingAt n turns g (Asks q t) = IsAtQuestion n turns (question q) (term_at g t)
IsStandingAt n turns g (Answered q t answer) = Unit {0}
IsStandingAt n turns g (Ends EndBound) = IsAtHalt n turns Bound
IsStandingAt n turns g (Ends EndDeep) = IsAtHalt n turns Deep
IsStandingAt n turns g (Ends EndVoid) = IsAtQuestion n turns Assume (Number 0)
IsStandingAt n turns g (Ends _) = Unit {0}

-- The state stands for the node.
pub record StandsFor (n : Node) (s : Fields) : Type 0 where
  pub of_module : s.«module» ≡ n.invocation.«module»
  pub can : CanExplore n.invocation
  pub order : IsInOrder s
  pub follows : Follows n (path_of s)
  pub standing : IsStandingAt n follows.place.turns s.graph s.config.standing

-- The state is still where one of the node n stands at a question of a term, and is already one of the node m, to which an answer
-- leads.
pub record StandsBefore (n m : Node) (q : Question) (t : ℕ) (s : Fields) : Type 0 where
  pub of_module : s.«module» ≡ n.invocation.«module»
  pub can : CanExplore n.invocation
  pub same : m.invocation ≡ n.invocation
  pub order : IsInOrder s
  pub follows : FollowsBefore n m (question q) (term_at s.graph t) (path_of s)
  pub standing : s.config.standing ≡ Asks q t

-- where the carried input is the least that meets the conditions, it is the least of the node
abbrev pub LeastIfGiven : Node → Fields → Type 0
LeastIfGiven n s = IsLeastGiven (conditions_of s.graph s.conds) s.draws s.least → Least n (path_of s)

-- ---- what the calls make of a state

-- a condition and a choice more, with an input that takes the path
abbrev pub with_side : Fields → ℕ → Bool → List ℕ → Fields
with_side s t side input =
    record s { conds = s.conds ++ record { term = t; answer = side } ∷ []; choices = s.choices ++ bit side ∷ []; least = input }

-- a condition more, that an assume's term isn't 0
abbrev pub with_assumed : Fields → ℕ → List ℕ → Fields
with_assumed s t input = record s { conds = s.conds ++ record { term = t; answer = true } ∷ []; least = input }
