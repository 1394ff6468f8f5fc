-- What the state of a path stands for: a node, at a place of the runs of all its members at once.
use Rattle.std.specs.Prelude.{◌≡◌, ◌↔◌, ℕ, zero, suc, ◌+◌, Bool, true, List, [], ◌∷◌, ◌++◌, length, slice_index}
use Rattle.wasm_reduction.specs.Configurations.{Config, End, Question}
use Rattle.wasm_reduction.specs.Steps.{answered}
use Rattle.wasm_reduction.specs.Runs.{Turned, On, Over, Ended as RunEnded, Bound, Deep, Stands, by_list, draws_from, runs, runs_at}
use Rattle.wasm_reduction.specs.RunImages.{turned_image, trace_of}
use Rattle.wasm_reduction.specs.Scripts.{as_input}
use Rattle.bv_terms.specs.Terms.{Term, HasBits, HasSymbols, value_of}
use Rattle.bv_terms.specs.Making.{terms}
use Rattle.sym_state.specs.Nodes.{Condition, AreMet, Node, IsMember, IsAtMost, IsLeastOf}
use Rattle.sym_state.specs.NextNodes.{bit}

-- ---- states of paths

-- Where a run on terms is: it goes on from a configuration, or it has ended.
pub data Stage : Type 0 where
  Running : Config Term → Stage
  Ended : End Term → Stage

-- the state of a path, its words read as terms
pub record Path : Type 0 where
  pub stage : Stage
  pub conditions : List Condition
  -- the symbols that were drawn, an i64 where true
  pub draws : List Bool
  -- an input that takes the path
  pub least : List ℕ
  pub choices : List ℕ
  -- how many questions were asked and answered
  pub asks : ℕ
  pub units : ℕ

-- ---- runs over terms

-- the run over terms that has these answers, and no more, after so many turns
abbrev pub over_terms : Node → ℕ → Turned Term
over_terms n turns = runs terms terms.symbol (by_list n.answers) n.invocation.«module» n.invocation.entry n.invocation.args n.invocation.steps turns

-- a term of a width, whose symbols are among these draws
abbrev pub HasOver : List Bool → ℕ → Term → Type 0
HasOver draws bits t = HasBits bits t × HasSymbols draws t

-- the bounded run at an input after so many turns
abbrev pub run_at : Node → List ℕ → ℕ → Turned ℕ
run_at n input turns = runs_at n.invocation.«module» n.invocation.entry n.invocation.args input n.invocation.steps turns

-- the stage is where the run is
abbrev pub IsAt : Stage → Turned Term → Type 0
IsAt (Running c) (On g) = c ≡ g.config
IsAt (Running c) (Over halt trace) = ⊥
IsAt (Ended e) (On g) = ⊥
IsAt (Ended e) (Over (RunEnded f) trace) = e ≡ f
IsAt (Ended e) (Over (Stands q w) trace) = ⊥
IsAt (Ended e) (Over Bound trace) = ⊥
IsAt (Ended e) (Over Deep trace) = ⊥

-- the units of a configuration; where the run is over, those that were spent before
abbrev pub units_in : Turned Term → ℕ → ℕ
units_in (On g) before = g.config.units
units_in (Over halt trace) before = before

-- the units that were spent after so many turns; none before there is a configuration
abbrev pub units_at : Node → ℕ → ℕ
units_at n zero = units_in (over_terms n zero) 0
units_at n (suc turns) = units_in (over_terms n (suc turns)) (units_at n turns)

-- The path is at a place of the runs of a node's members, after its answers and up to the next question or the end.
pub record IsPlace (n : Node) (p : Path) : Type 0 where
  pub turns : ℕ
  -- what the run over terms that is answered by the node's answers comes to; it has had all of them
  pub stage : IsAt p.stage (over_terms n turns)
  pub answered : (trace_of (over_terms n turns)).answers ≡ n.answers
  -- at each member its value is what the bounded run comes to
  pub values : (input : List ℕ) → IsMember n input → run_at n input turns ≡ turned_image (value_of input) (over_terms n turns)
  -- and so are its counts
  pub draws : p.draws ≡ (trace_of (over_terms n turns)).symbols
  pub asks : p.asks ≡ length n.answers
  pub units : p.units ≡ units_at n turns

-- ---- the two parts

-- The path is one of the node, at a place of its members' runs. Its least input may be any member.
pub record Follows (n : Node) (p : Path) : Type 0 where
  pub place : IsPlace n p
  pub members : (input : List ℕ) → AreMet input p.conditions ↔ IsMember n input
  pub conditions : p.conditions ≡ n.conditions
  pub choices : p.choices ≡ n.choices
  pub least : IsMember n p.least

-- two lists are the same input: the same number at each place, with 0 past the end
abbrev pub SameInput : List ℕ → List ℕ → Type 0
SameInput xs ys = (k : ℕ) → slice_index xs k ≡ slice_index ys k

-- The carried input is the least of the node.
abbrev pub Least : Node → Path → Type 0
Least n p = (draws : List ℕ) × IsLeastOf n draws × SameInput p.least draws

-- the numbers that these symbols take from an input
abbrev pub numbers_taken : List ℕ → List Bool → List ℕ
numbers_taken input draws = as_input (draws_from input 0 draws)

-- An input over these draws that meets the conditions: it has their numbers and no others, and they are at most those of each
-- other input that does.
pub record IsLeastGiven (conditions : List Condition) (draws : List Bool) (input : List ℕ) : Type 0 where
  pub meets : AreMet input conditions
  pub over : SameInput input (numbers_taken input draws)
  pub least : (other : List ℕ) → AreMet other conditions → IsAtMost (numbers_taken input draws) (numbers_taken other draws)

-- ---- before an answer

-- after so many turns the run over terms stands at a question of a term, which its answers do not answer
abbrev pub IsAtQuestion : Node → ℕ → Question → Term → Type 0
IsAtQuestion n turns q t = over_terms n (suc turns) ≡ Over (Stands q t) (trace_of (over_terms n turns))

-- The path is still where one of the node n stands at a question, and is already one of the node m, to which an answer leads: its
-- conditions, choices and input are those of m.
pub record FollowsBefore (n m : Node) (q : Question) (t : Term) (p : Path) : Type 0 where
  pub place : IsPlace n p
  pub asks : IsAtQuestion n place.turns q t
  pub members : (input : List ℕ) → AreMet input p.conditions ↔ IsMember m input
  pub conditions : p.conditions ≡ m.conditions
  pub choices : p.choices ≡ m.choices
  pub least : IsMember m p.least

-- ---- what the calls make of a path

-- a condition and a choice more, with an input that takes the path
abbrev pub sided : Path → Term → Bool → List ℕ → Path
sided p t side input = record p { conditions = p.conditions ++ (t, side) ∷ []; choices = p.choices ++ bit side ∷ []; least = input }

-- a condition more, that an assume's term isn't 0
abbrev pub supposed : Path → Term → List ℕ → Path
supposed p t input = record p { conditions = p.conditions ++ (t, true) ∷ []; least = input }

-- the answer is noted, and the question is one more that was asked and answered
abbrev pub answered_stage : Stage → ℕ → Stage
answered_stage (Running c) answer = Running (answered c answer)
answered_stage (Ended e) answer = Ended e

abbrev pub resumed : Path → ℕ → Path
resumed p answer = record p { stage = answered_stage p.stage answer; asks = p.asks + 1 }
