-- What the laws of scripts say of an invocation, as the tree of paths needs it.
use Rattle.std.specs.Prelude.{◌≡◌, ◌≢◌, ℕ, List, false}
use Rattle.wasm_ast.specs.declared.runs.Draw.{Draw}
use Rattle.wasm_ast.specs.declared.runs.Outcome.{Outcome}
use Rattle.wasm_ast.specs.declared.runs.Outcome.TheVariants.{Assumes as AssumeFailed}
use Rattle.wasm_reduction.specs.Configurations.{Assume}
use Rattle.wasm_reduction.specs.Scripts.{Script, Finished, Asked, told, Past, Alike}
use Rattle.sym_state.specs.Nodes.{Invocation, IsScriptAt}
use Rattle.fork_tree.specs.Nodes.{is_true}

-- Each input has one script; runs that have answered alike do alike; a failed assume is the run's outcome; else no run has it.
pub record Known (i : Invocation) : Type 0 where
  pub exists : (input : List ℕ) → (s : Script) × IsScriptAt i input s
  pub one : (input : List ℕ) (s t : Script) → IsScriptAt i input s → IsScriptAt i input t → s ≡ t
  pub alike : (answers here there : List ℕ) (r q s t : Script) → IsScriptAt i here r → IsScriptAt i there q → Past answers r s → Past answers q t → Alike s t
  pub failed : (answers input : List ℕ) (v : ℕ) (draws : List Draw) (s left : Script) → IsScriptAt i input s → Past answers s (Asked Assume v draws left) → is_true v ≡ false → (told s).outcome ≡ AssumeFailed
  pub kept : (answers input : List ℕ) (outcome : Outcome) (draws : List Draw) (s : Script) → IsScriptAt i input s → Past answers s (Finished outcome draws) → outcome ≢ AssumeFailed
