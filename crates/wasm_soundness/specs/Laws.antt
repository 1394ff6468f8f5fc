-- What the laws say of modules, arguments and runs.
use Rattle.std.specs.Prelude.{◌≡◌, ℕ, ◌<◌, List, All, Some}
use Rattle.wasm_ast.specs.Shape.{HasShape}
use Rattle.wasm_ast.specs.declared.modules.Module.{Module}
use Rattle.wasm_ast.specs.declared.runs.Value.{Value}
use Rattle.wasm_ast.specs.declared.runs.Value.TheVariants.{Func}
use Rattle.wasm_check.specs.Modules.{IsValid}
use Rattle.wasm_image.specs.Entries.{AreArguments}
use Rattle.wasm_image.specs.Functions.{function_count}
use Rattle.wasm_image.specs.Ready.{IsReady}
use Rattle.wasm_reduction.specs.Runs.{Run, IsRun}
use Rattle.wasm_reduction.specs.Scripts.{Script, IsScript}

-- a well-formed, valid module that is ready to be run
pub record CanBeRun (m : Module) : Type 0 where
  pub shape : HasShape m
  pub valid : IsValid m
  pub ready : IsReady m

-- a reference to a function is to one of the module, imports counted
abbrev pub NamesFunction : Module → Value → Type 0
NamesFunction m (Func (Some f)) = f < function_count m
NamesFunction m _ = Unit {0}

-- the arguments fit the function: their types are its parameters, and the references among them are to functions that there are
pub record Fit (m : Module) (f : ℕ) (args : List Value) : Type 0 where
  pub types : AreArguments m f args
  pub named : All (NamesFunction m) args

-- there is exactly one bounded run
pub record HasOneRun (m : Module) (entry : ℕ) (args : List Value) (input : List ℕ) (steps : ℕ) : Type 0 where
  pub run : Run
  pub is_run : IsRun m entry args input steps run
  pub only : (other : Run) → IsRun m entry args input steps other → other ≡ run

-- there is one script of the bounded run
pub record HasOneScript (m : Module) (entry : ℕ) (args : List Value) (input : List ℕ) (steps : ℕ) : Type 0 where
  pub script : Script
  pub is_script : IsScript m entry args input steps script
  pub only : (other : Script) → IsScript m entry args input steps other → other ≡ script
