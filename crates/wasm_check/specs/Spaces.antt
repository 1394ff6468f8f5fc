-- What a module has in each of its index spaces (Structure, Modules: Indices).
use Rattle.std.specs.Prelude.{◌≡◌}
use Rattle.wasm_ast.specs.declared.modules.Module.{Module}
use Rattle.wasm_check.specs.declared.spaces.Spaces.{Spaces}
use Rattle.wasm_check.specs.Contexts.{funcs_of, tables_of, memories_of, globals_of}

pub record AreSpacesOf (m : Module) (spaces : Spaces) : Type 0 where
  pub funcs : spaces.funcs.items ≡ funcs_of m
  pub tables : spaces.tables.items ≡ tables_of m
  pub memories : spaces.memories.items ≡ memories_of m
  pub globals : spaces.globals.items ≡ globals_of m
