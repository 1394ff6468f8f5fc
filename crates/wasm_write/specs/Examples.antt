-- Small modules, whose shortest spellings are known.
use Rattle.std.specs.Prelude.{ℕ, None, List, [], ◌∷◌, ◌++◌}
use Rattle.wasm_ast.specs.declared.instructions.Instr.TheVariants.{Const32, Num}
use Rattle.wasm_ast.specs.declared.modules.Module.{Module}
use Rattle.wasm_ast.specs.Straight.{straight_module}
use Rattle.wasm_binary.specs.Sum.{before_code, sum_module, sum_bytes}

-- nothing but the magic number and the version
abbrev pub empty_module : Module
empty_module = record {
  types = [];
  imports = [];
  funcs = [];
  tables = [];
  memories = [];
  globals = [];
  exports = [];
  start = None;
  elems = [];
  segments = [];
  customs = [];
}

abbrev pub empty_bytes : List ℕ
empty_bytes = 0x00 ∷ 0x61 ∷ 0x73 ∷ 0x6D ∷ 0x01 ∷ 0x00 ∷ 0x00 ∷ 0x00 ∷ []

-- 0 and 3 are added; the 0 takes one byte, in whatever way it was spelled
abbrev pub zero_module : Module
zero_module = straight_module (0x66 ∷ []) (Const32 0 ∷ Const32 3 ∷ Num 0x6A ∷ [])

abbrev pub zero_bytes : List ℕ
zero_bytes = before_code ++ 0x0A ∷ 0x09 ∷ 0x01 ∷ 0x07 ∷ 0x00 ∷ 0x41 ∷ 0x00 ∷ 0x41 ∷ 0x03 ∷ 0x6A ∷ 0x0B ∷ []

-- the module that adds 2 and 3, with a custom section `producers` after its code
abbrev pub produced_module : Module
produced_module = record sum_module {
  customs = record { after = 11; name = 0x70 ∷ 0x72 ∷ 0x6F ∷ 0x64 ∷ 0x75 ∷ 0x63 ∷ 0x65 ∷ 0x72 ∷ 0x73 ∷ []; bytes = 0x00 ∷ [] } ∷ [];
}

abbrev pub produced_bytes : List ℕ
produced_bytes =
    sum_bytes ++ 0x00 ∷ 0x0B ∷ 0x09 ∷ 0x70 ∷ 0x72 ∷ 0x6F ∷ 0x64 ∷ 0x75 ∷ 0x63 ∷ 0x65 ∷ 0x72 ∷ 0x73 ∷ 0x00 ∷ []
