-- A module of which the laws speak: one function, which gives 2 + 40.
use Rattle.std.specs.Prelude.{[], ◌∷◌}
use Rattle.wasm_ast.specs.Straight.{straight_module}
use Rattle.wasm_ast.specs.declared.instructions.Instr.TheVariants.{Const32, Num}
use Rattle.wasm_ast.specs.declared.modules.Module.{Module}

abbrev pub sum_module : Module
sum_module = straight_module (102 ∷ []) (Const32 2 ∷ Const32 40 ∷ Num 0x6A ∷ [])
