-- Where the loop over the turns of a path stands. No public contract speaks of these.
use Rattle.std.specs.Prelude.{◌≡◌, ℕ, Bool, false, ◌&&◌, nat_lt, nat_le, List, length, map, Option, Some, None}
use Rattle.std.specs.List.{AllByRecursion}
use Rattle.wasm_ast.specs.declared.modules.Module.{Module}
use Rattle.bv_terms.specs.Terms.{Term}
use Rattle.bv_terms.specs.Making.{terms}
use Rattle.bv_terms.specs.Graphs.{TermGraph, Holds, term_of}
use Rattle.bv_terms.specs.declared.words.Word.{Word}
use Rattle.bv_terms.specs.declared.words.Word.TheVariants.{Num}
use Rattle.wasm_reduction.specs.Configurations.{Config, Next}
use Rattle.wasm_reduction.specs.Steps.{step}
use Rattle.wasm_reduction.specs.Runs.{is_due, most_frames}
use Rattle.wasm_machine.specs.declared.next.Question.TheVariants.{Assume as CodeAssume}
use Rattle.wasm_machine.specs.declared.next.Next.{Next as CodeNext}
use Rattle.wasm_machine.specs.declared.next.Next.TheVariants.{Goes as CodeGoes, Draws as CodeDraws, Asks as CodeAsks, Ends as CodeEnds}
use Rattle.wasm_machine.specs.declared.values.Value.{Value as CodeValue}
use Rattle.wasm_machine.specs.Acts.{Sane, told}
use Rattle.wasm_machine.specs.Configurations.{configuration}
use Rattle.wasm_machine.specs.code.Moves.{noted}
use Rattle.wasm_machine.specs.States.{State}
use Rattle.wasm_machine.specs.Values.{EndHeld}
use Rattle.sym_state.specs.declared.config.Execution.{Execution}
use Rattle.sym_state.specs.declared.config.Standing.{Standing}
use Rattle.sym_state.specs.declared.config.Standing.TheVariants.{Answered, Ends}
use Rattle.sym_state.specs.declared.config.End.TheVariants.{Returns as EndReturns, Traps as EndTraps, Fails as EndFails}
use Rattle.sym_state.specs.Nodes.{CanExplore, Node}
use Rattle.sym_state.specs.States.{Running, Path, Follows}
use Rattle.wasm_rules.specs.Words.{Kept}
use Rattle.wasm_image.specs.Hosts.{AreLinked}
use Rattle.sym_state.specs.Fields.{Fields, IsStandingAt, StandingHeld, stage_in, words_of_cells}
use Rattle.sym_step.specs.declared.stops.Stop.{Stop}
use Rattle.sym_step.specs.Steps.{AreNumbersAnswered, StopsSo, gone_through, stop_of}

-- ---- configurations

-- the configuration that the machine's state and the cells of the memory are, as terms of a graph
abbrev pub config_at : Module → TermGraph → State (CodeValue Word) → List ℕ → Config Term
config_at m g s cells = configuration (term_of g) m (map (term_of g) (words_of_cells cells)) s

-- the state is in order, and its words and those of the cells are of the graph
pub record IsHeld (g : TermGraph) (s : State (CodeValue Word)) (cells : List ℕ) : Type 0 where
  pub sane : Sane Holds g s
  pub words : AllByRecursion (Holds g) (words_of_cells cells)

-- the bounds let a step be taken
pub record IsFree (steps : ℕ) (c : Config Term) : Type 0 where
  pub frames : nat_lt most_frames (length c.callers) ≡ false
  pub units : is_due c.frame.here.code c.callers && nat_le steps c.units ≡ false

-- ---- paths

-- the path, where it runs from this configuration, with these draws and so many questions
abbrev pub running : Path → Config Term → List Bool → ℕ → Path
running p c draws asks = record p { stage = Running c; draws = draws; asks = asks; units = c.units }

-- a path of the node n, whose module and bound on steps these are
pub record IsOf (m : Module) (steps : ℕ) (n : Node) (p : Path) : Type 0 where
  pub can : CanExplore n.invocation
  pub of_module : m ≡ n.invocation.«module»
  pub bound : n.invocation.steps ≡ steps
  pub follows : Follows n p

-- some path of a node runs from here
pub record RunsSomewhere (m : Module) (steps : ℕ) (c : Config Term) (draws : List Bool) (asks : ℕ) : Type 0 where
  pub node : Node
  pub path : Path
  pub is : IsOf m steps node (running path c draws asks)

-- from the node on, only numbers were asked about, and the path is one of the node to which their answers lead
pub record Reaches (n : Node) (p : Path) : Type 0 where
  pub answers : List ℕ
  pub numbers : AreNumbersAnswered n answers
  pub follows : Follows (gone_through n answers) p

-- each path that runs from the first configuration gets to the second
abbrev pub AllReach : Module → ℕ → Config Term → List Bool → ℕ → Config Term → List Bool → ℕ → Type 0
AllReach m steps c draws asks d later_draws later_asks =
    (n : Node) (p : Path) → IsOf m steps n (running p c draws asks) → Reaches n (running p d later_draws later_asks)

-- ---- settled

-- what the machine says, as the reduction says it
abbrev pub told_at : Module → TermGraph → State (CodeValue Word) → List ℕ → CodeNext Word → Next Term
told_at m g s cells x = told (term_of g) m (map (term_of g) (words_of_cells cells)) s x

-- it isn't a question of a number that answers it
abbrev pub IsSettled : CodeNext Word → Type 0
IsSettled (CodeAsks q (Num v)) = (q ≡ CodeAssume) × (v ≡ 0)
IsSettled _ = Unit {0}

-- the state afterwards is in order, and at a question it is the configuration c
abbrev pub IsHeldAfter : Module → Config Term → TermGraph → State (CodeValue Word) → List ℕ → CodeNext Word → Type 0
IsHeldAfter m c g s cells CodeGoes = IsHeld g s cells
IsHeldAfter m c g s cells (CodeDraws wide) = IsHeld g s cells
IsHeldAfter m c g s cells (CodeAsks q w) = IsHeld g s cells × Holds g w × (config_at m g s cells ≡ c)
IsHeldAfter m c g s cells (CodeEnds e) = EndHeld (Holds g) e

-- The questions about numbers that come next in c have been answered, and the next step gives this, in the state s with these cells.
pub record Settles (m : Module) (steps : ℕ) (c : Config Term) (draws : List Bool) (asks : ℕ) (g : TermGraph) (s : State (CodeValue Word)) (cells : List ℕ) (later_asks : ℕ) (x : CodeNext Word) : Type 0 where
  pub answers : List ℕ
  pub reach : AllReach m steps c draws asks (record c { answers = answers }) draws later_asks
  pub gives : step terms m (record c { answers = answers }) ≡ told_at m g s cells x
  pub settled : IsSettled x
  pub held : IsHeldAfter m (record c { answers = answers }) g s cells x

-- ---- stopped

-- where it stops, what is said of it is so
abbrev pub Says : Node → TermGraph → Option Stop → Type 0
Says n g None = ⊥
Says n g (Some stop) = StopsSo n g stop

-- what is said of where the run stands
abbrev pub SaysSo : Node → TermGraph → Standing → Type 0
SaysSo n g standing = Says n g (stop_of standing)

-- A path of the node has passed numbers only, and stands there.
pub record StandsThere (m : Module) (n : Node) (p : Path) (g : TermGraph) (x : Execution) (draws : List Bool) (asks units : ℕ) (standing : Standing) : Type 0 where
  pub answers : List ℕ
  pub numbers : AreNumbersAnswered n answers
  pub follows : Follows (gone_through n answers) (record p { stage = stage_in m g (Some x) standing; draws = draws; asks = asks; units = units })
  pub at : IsStandingAt (gone_through n answers) follows.place.turns g standing
  pub says : SaysSo (gone_through n answers) g standing

-- where the run goes on or may go on, what is executed is in order
abbrev pub IsHeldUnlessEnded : TermGraph → State (CodeValue Word) → List ℕ → Standing → Type 0
IsHeldUnlessEnded g s cells (Ends (EndReturns results)) = Unit {0}
IsHeldUnlessEnded g s cells (Ends (EndTraps cause)) = Unit {0}
IsHeldUnlessEnded g s cells (Ends EndFails) = Unit {0}
IsHeldUnlessEnded g s cells _ = IsHeld g s cells

-- ---- carried on

-- the machine's state with the noted answer
abbrev pub noted_on : Standing → State (CodeValue Word) → State (CodeValue Word)
noted_on (Answered q t answer) s = noted answer s
noted_on _ s = s

-- the configuration in which a run goes on, once the noted answer is carried out
abbrev pub begun_at : Module → TermGraph → Execution → Standing → Config Term
begun_at m g x w = config_at m g (noted_on w x.machine) x.memory

-- what is executed, unless the run has ended
abbrev pub left_of : Standing → Execution → Option Execution
left_of (Ends (EndReturns results)) x = None
left_of (Ends (EndTraps cause)) x = None
left_of (Ends EndFails) x = None
left_of _ x = Some x

-- the state can be run on from there
pub record CanRunOn (steps : ℕ) (s : Fields) (x : Execution) : Type 0 where
  pub linked : AreLinked s.«module»
  pub held : IsHeld s.graph x.machine x.memory
  pub somewhere : RunsSomewhere s.«module» steps (begun_at s.«module» s.graph x s.config.standing) s.draws s.asks

-- The state s, in which x was to be executed, has become t, where y is to be executed, and stands there.
pub record IsRunOn (steps : ℕ) (s : Fields) (x : Execution) (t : Fields) (y : Execution) (standing : Standing) : Type 0 where
  pub same : t ≡ record s { graph = t.graph; draws = t.draws; asks = t.asks; units = t.units }
  pub there : (n : Node) (p : Path) → IsOf s.«module» steps n (running p (begun_at s.«module» s.graph x s.config.standing) s.draws s.asks)
      → StandsThere s.«module» n p t.graph y t.draws t.asks t.units standing
  pub order : StandingHeld t.graph standing
  pub held : IsHeldUnlessEnded t.graph y.machine y.memory standing
  pub kept : Kept Holds term_of s.graph t.graph

-- The same, with what is left and where it stands in the state.
pub record IsCarriedOn (steps : ℕ) (s : Fields) (x : Execution) (t : Fields) (stop : Stop) : Type 0 where
  pub after : Execution
  pub standing : Standing
  pub on : IsRunOn steps s x (record t { config = s.config }) after standing
  pub config : t.config ≡ record { execution = left_of standing after; standing = standing }
  pub stops : stop_of standing ≡ Some stop
