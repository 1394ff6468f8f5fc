-- The outermost frame, which stands for whoever runs the module.
use Rattle.std.specs.Prelude.{◌≡◌, ℕ, List, [], ◌∷◌}
use Rattle.wasm_ast.specs.declared.instructions.Instr.{Instr}
use Rattle.wasm_ast.specs.declared.instructions.Instr.TheVariants.{Call}
use Rattle.wasm_reduction.specs.Configurations.{Frame, Config}

-- the last of the frames, of which f is the innermost and fs are those that wait
abbrev pub bottom : {W : Type 0} → Frame W → List (Frame W) → Frame W
bottom f [] = f
bottom f (g ∷ gs) = bottom g gs

abbrev pub AreCalls : List Instr → Type 0
AreCalls [] = Unit {0}
AreCalls (i ∷ is) = ((x : ℕ) × (i ≡ Call x)) × AreCalls is

-- the outermost frame has no label but its own, and calls alone
pub record IsOutermost {W : Type 0} (f : Frame W) : Type 0 where
  pub outer : f.outer ≡ []
  pub calls : AreCalls f.here.code

-- it is so in this configuration
abbrev pub Ready : {W : Type 0} → Config W → Type 0
Ready c = IsOutermost (bottom c.frame c.callers)
