-- What the call of a run asks for, and what it gives.
use Rattle.std.specs.Prelude.{◌≡◌, ℕ, ◌≤◌, List, All}
use Rattle.wasm_ast.specs.declared.modules.Module.{Module}
use Rattle.wasm_ast.specs.declared.runs.Ran.{Ran}
use Rattle.wasm_ast.specs.declared.runs.Value.{Value}
use Rattle.wasm_image.specs.Entries.{AreArguments}
use Rattle.wasm_image.specs.Ready.{IsReady}
use Rattle.wasm_reduction.specs.Runs.{Run, IsRun, ran_of}
use Rattle.wasm_soundness.specs.Laws.{NamesFunction}

-- the most units that a run may be given
abbrev pub most_steps : ℕ
most_steps = 10000000

-- The module can be run, these arguments fit the function entry (Execution, Modules: Invocation), and the bound on steps is
-- one that a run may have.
pub record CanRun (m : Module) (entry : ℕ) (args : List Value) (steps : ℕ) : Type 0 where
  pub ready : IsReady m
  pub fit : AreArguments m entry args
  pub refer : All (NamesFunction m) args
  pub least : 1 ≤ steps
  pub most : steps ≤ most_steps

-- The bounded run of the function entry, with these arguments and at this input, has this outcome and these draws.
pub record RunGives (m : Module) (entry : ℕ) (args : List Value) (input : List ℕ) (steps : ℕ) (ran : Ran) : Type 0 where
  pub run : Run
  pub is : IsRun m entry args input steps run
  pub same : ran ≡ ran_of run
