-- How a run begins: what the state in which the machine starts stands for.
use Rattle.std.specs.Prelude.{◌≡◌, List, Result, Ok, Err}
use Rattle.wasm_ast.specs.declared.modules.Module.{Module}
use Rattle.wasm_reduction.specs.Configurations.{Config, End, Traps, Stuck}
use Rattle.wasm_start.specs.declared.start.Begun.{Begun}
use Rattle.wasm_start.specs.declared.start.Begun.TheVariants.{Goes as BegunGoes, Ends as BegunEnds}
use Rattle.wasm_start.specs.declared.allocation.Stop.{Stop}
use Rattle.wasm_start.specs.declared.allocation.Stop.TheVariants.{Traps as StopTraps, Stuck as StopStuck}
use Rattle.wasm_machine.specs.Acts.{Sane}
use Rattle.wasm_machine.specs.Configurations.{configuration}

abbrev pub stop_of : {W : Type 0} → Stop → End W
stop_of (StopTraps cause) = Traps cause
stop_of StopStuck = Stuck

-- A run begins as the reduction's does, with these bytes of memory.
abbrev pub BeginsAs : {V W : Type 0} → (V → W) → Module → List W → Result (Config W) (End W) → Begun V → Type 0
BeginsAs h m bytes first (BegunGoes s) = first ≡ Ok (configuration h m bytes s)
BeginsAs h m bytes first (BegunEnds stop) = first ≡ Err (stop_of stop)

-- the state in which it begins is in order, and its words are held
abbrev pub IsInOrder : {A V : Type 0} → (A → V → Type 0) → A → Begun V → Type 0
IsInOrder H a (BegunGoes s) = Sane H a s
IsInOrder H a (BegunEnds stop) = Unit {0}
