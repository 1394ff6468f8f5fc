-- Whether the bounded run at a row's input comes to what the row says.
use Rattle.std.specs.Prelude.{◌≡◌, ℕ, List, map}
use Rattle.wasm_ast.specs.declared.modules.Module.{Module}
use Rattle.wasm_ast.specs.declared.runs.Value.{Value}
use Rattle.wasm_ast.specs.declared.runs.Outcome.{Outcome}
use Rattle.wasm_ast.specs.declared.runs.Outcome.TheVariants.{Returns as ReturnsThese, Traps as TrapsSo, Fails as FailsThere, Bound as BoundMet, Deep as TooDeep}
use Rattle.wasm_ast.specs.declared.runs.Ran.{Ran}
use Rattle.wasm_run.specs.Bounded.{RunGives}
use Rattle.fork_tree.specs.declared.rows.Kind.{Kind}
use Rattle.fork_tree.specs.declared.rows.Kind.TheVariants.{Returns, Traps, Fails, Bound, Deep, Cut, Undecided, Void}
use Rattle.fork_tree.specs.declared.rows.Row.{Row}
use Rattle.path_report.specs.declared.replaying.Replayed.{Replayed}
use Rattle.path_report.specs.declared.replaying.Replayed.TheVariants.{Agrees, Differs}

-- the numbers that a row's symbols took
abbrev pub input_of : Row → List ℕ
input_of row = map (λ draw. draw.value) row.draws

-- a kind of row is an outcome of a run; a row that is cut, undecided or void is none, and no row is of a failed assumption
abbrev pub IsOutcomeKind : Kind → Outcome → Type 0
IsOutcomeKind (Returns values) outcome = outcome ≡ ReturnsThese values
IsOutcomeKind (Traps cause) outcome = outcome ≡ TrapsSo cause
IsOutcomeKind Fails outcome = outcome ≡ FailsThere
IsOutcomeKind Bound outcome = outcome ≡ BoundMet
IsOutcomeKind Deep outcome = outcome ≡ TooDeep
IsOutcomeKind Cut outcome = ⊥
IsOutcomeKind Undecided outcome = ⊥
IsOutcomeKind Void outcome = ⊥

-- a run has the outcome and the draws of a row
abbrev pub ComesTo : Row → Ran → Type 0
ComesTo row ran = IsOutcomeKind row.kind ran.outcome × (ran.draws ≡ row.draws)

-- what is said of a row by the bounded run at its input
abbrev pub Replays : Module → ℕ → List Value → Row → ℕ → Replayed → Type 0
Replays m entry args row steps Agrees = (ran : Ran) × RunGives m entry args (input_of row) steps ran × ComesTo row ran
Replays m entry args row steps (Differs ran) = RunGives m entry args (input_of row) steps ran × (ComesTo row ran → ⊥)
