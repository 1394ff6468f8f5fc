-- Modules of one function without params, with one i32 result, and one export, of that function.
use Rattle.std.specs.Prelude.{ℕ, List, [], ◌∷◌, None}
use Rattle.wasm_ast.specs.declared.types.ValType.TheVariants.{I32}
use Rattle.wasm_ast.specs.declared.modules.Space.TheVariants.{Func}
use Rattle.wasm_ast.specs.declared.instructions.Instr.{Instr}
use Rattle.wasm_ast.specs.declared.modules.Module.{Module}

-- the module of one function with this body, exported by this name
abbrev pub straight_module : List ℕ → List Instr → Module
straight_module name body = record {
  types = record { params = []; results = I32 ∷ [] } ∷ [];
  imports = [];
  funcs = record { ty = 0; locals = []; body = record { seqs = body ∷ [] } } ∷ [];
  tables = [];
  memories = [];
  globals = [];
  exports = record { name = name; space = Func; index = 0 } ∷ [];
  start = None;
  elems = [];
  segments = [];
  customs = [];
}
