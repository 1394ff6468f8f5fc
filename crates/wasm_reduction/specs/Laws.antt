-- What is said of functions and of bounded runs by the laws.
use Rattle.std.specs.Prelude.{◌≡◌, ℕ, List, ◌⊎◌, Some, slice_get}
use Rattle.wasm_ast.specs.declared.modules.Func.{Func}
use Rattle.wasm_ast.specs.declared.modules.Module.{Module}
use Rattle.wasm_ast.specs.declared.runs.Value.{Value}
use Rattle.wasm_image.specs.declared.hosts.Host.{Host}
use Rattle.wasm_reduction.specs.Configurations.{Stuck}
use Rattle.wasm_reduction.specs.Functions.{Imported, defined_as, functions}
use Rattle.wasm_reduction.specs.Runs.{Trace, Ended, Over, Run, runs_at, IsRun}

-- the function f runs this host function
abbrev pub RunsHost : Module → ℕ → Host → Type 0
RunsHost m f h = (ty : ℕ) × (slice_get (functions m) f ≡ Some (record { ty = ty; body = Imported (Some h) }))

-- the function f runs this code
abbrev pub RunsCode : Module → ℕ → Func → Type 0
RunsCode m f code = slice_get (functions m) f ≡ Some (defined_as code)

-- the run comes to what the standard has no rule for
abbrev pub IsStuck : Module → ℕ → List Value → List ℕ → ℕ → Type 0
IsStuck m entry args input steps = (n : ℕ) × (trace : Trace) × (runs_at m entry args input steps n ≡ Over (Ended Stuck) trace)

-- the run gives something, or is stuck
abbrev pub ComesToAnEnd : Module → ℕ → List Value → List ℕ → ℕ → Type 0
ComesToAnEnd m entry args input steps = ((run : Run) × IsRun m entry args input steps run) ⊎ IsStuck m entry args input steps
