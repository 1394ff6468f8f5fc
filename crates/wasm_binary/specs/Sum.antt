-- A small module and its bytes: a function of type 0, without params and with an i32 result, that adds 2 and 3 and is
-- exported as `f`.
use Rattle.std.specs.Prelude.{ℕ, List, [], ◌∷◌, ◌++◌}
use Rattle.wasm_ast.specs.declared.instructions.Instr.TheVariants.{Const32, Num}
use Rattle.wasm_ast.specs.declared.modules.Module.{Module}
use Rattle.wasm_ast.specs.Straight.{straight_module}

-- the magic number and the version, and the sections of types, functions and exports
abbrev pub before_code : List ℕ
before_code =
    0x00 ∷ 0x61 ∷ 0x73 ∷ 0x6D ∷ 0x01 ∷ 0x00 ∷ 0x00 ∷ 0x00 ∷ 0x01 ∷ 0x05 ∷ 0x01 ∷ 0x60 ∷ 0x00 ∷ 0x01 ∷ 0x7F ∷ 0x03 ∷ 0x02
    ∷ 0x01 ∷ 0x00 ∷ 0x07 ∷ 0x05 ∷ 0x01 ∷ 0x01 ∷ 0x66 ∷ 0x00 ∷ 0x00 ∷ []

abbrev pub sum_bytes : List ℕ
sum_bytes = before_code ++ 0x0A ∷ 0x09 ∷ 0x01 ∷ 0x07 ∷ 0x00 ∷ 0x41 ∷ 0x02 ∷ 0x41 ∷ 0x03 ∷ 0x6A ∷ 0x0B ∷ []

abbrev pub sum_module : Module
sum_module = straight_module (0x66 ∷ []) (Const32 2 ∷ Const32 3 ∷ Num 0x6A ∷ [])

-- the last byte is missing
abbrev pub cut_bytes : List ℕ
cut_bytes = before_code ++ 0x0A ∷ 0x09 ∷ 0x01 ∷ 0x07 ∷ 0x00 ∷ 0x41 ∷ 0x02 ∷ 0x41 ∷ 0x03 ∷ 0x6A ∷ []

-- the unused bits of the first constant's last byte don't repeat its sign
abbrev pub unused_bits_bytes : List ℕ
unused_bits_bytes =
    before_code ++ 0x0A ∷ 0x0D ∷ 0x01 ∷ 0x0B ∷ 0x00 ∷ 0x41 ∷ 0xFF ∷ 0xFF ∷ 0xFF ∷ 0xFF ∷ 0x0F ∷ 0x41 ∷ 0x03 ∷ 0x6A ∷ 0x0B ∷ []

-- the body begins with f32.const
abbrev pub outside_bytes : List ℕ
outside_bytes =
    before_code ++ 0x0A ∷ 0x0C ∷ 0x01 ∷ 0x0A ∷ 0x00 ∷ 0x43 ∷ 0x00 ∷ 0x00 ∷ 0x00 ∷ 0x00 ∷ 0x1A ∷ 0x41 ∷ 0x05 ∷ 0x0B ∷ []
