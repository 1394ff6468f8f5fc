-- What one step of the machine promises: it is the reduction's.
use Rattle.std.specs.Prelude.{◌≡◌, List, map}
use Rattle.wasm_ast.specs.declared.modules.Module.{Module}
use Rattle.wasm_rules.specs.Words.{Kind}
use Rattle.wasm_reduction.specs.Steps.{step}
use Rattle.wasm_machine.specs.declared.values.Value.{Value as CodeValue}
use Rattle.wasm_machine.specs.declared.next.Next.{Next as CodeNext}
use Rattle.wasm_machine.specs.States.{State}
use Rattle.wasm_machine.specs.Configurations.{configuration}
use Rattle.wasm_machine.specs.Acts.{told, After, BytesAfter}

-- What the machine says of a step from the state s and the cells b, which leads to the state t and the cells d, is what the
-- reduction says of a step of the configuration that s and b stand for.
pub record Steps {A V M : Type 0} (H : A → V → Type 0) (means : A → V → M) (K : Kind M) (m : Module) (a : A) (s : State (CodeValue V)) (b : List V) (a' : A) (t : State (CodeValue V)) (d : List V) (x : CodeNext V) : Type 0 where
  pub gives : step K m (configuration (means a) m (map (means a) b) s) ≡ told (means a') m (map (means a') d) t x
  pub after : After H a' s t x
  pub bytes : BytesAfter H a' b d x

-- The same, whatever the bytes of the memory are.
pub record StepsAnyhow {A V M : Type 0} (H : A → V → Type 0) (means : A → V → M) (K : Kind M) (m : Module) (a : A) (s : State (CodeValue V)) (a' : A) (t : State (CodeValue V)) (x : CodeNext V) : Type 0 where
  pub gives : (b : List M) → step K m (configuration (means a) m b s) ≡ told (means a') m b t x
  pub after : After H a' s t x
