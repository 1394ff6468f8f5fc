-- Which bytes loads and stores take, and how a loaded word is made of them (Execution, Instructions: Memory Instructions).
use Rattle.std.specs.Prelude.{ℕ, zero, suc, Bool, true, false, ◌==◌, if◌then◌else◌, List, [], ◌∷◌, ◌++◌, Option, Some, None}
use Rattle.std.specs.Option.{option_map_or}
use Rattle.wasm_rules.specs.Words.{Kind, bits_where}
use Rattle.wasm_rules.specs.declared.accesses.Access.{Access}

abbrev pub full : ℕ → ℕ → Bool → ℕ × Access
full op bytes wide = (op, record { bytes = bytes; wide = wide; extend = None })

-- a signed load, with the opcode that extends the sign of its bytes
abbrev pub signed : ℕ → ℕ → Bool → ℕ → ℕ × Access
signed op bytes wide extend = (op, record { bytes = bytes; wide = wide; extend = Some extend })

-- The loads: the opcode, how many bytes it takes, and whether it loads to an i64. The bytes that are missing are 0, but for
-- the signed ones.
abbrev pub loads : List (ℕ × Access)
loads =
    full 0x28 4 false ∷
    full 0x29 8 true ∷
    signed 0x2C 1 false 0xC0 ∷
    full 0x2D 1 false ∷
    signed 0x2E 2 false 0xC1 ∷
    full 0x2F 2 false ∷
    signed 0x30 1 true 0xC2 ∷
    full 0x31 1 true ∷
    signed 0x32 2 true 0xC3 ∷
    full 0x33 2 true ∷
    signed 0x34 4 true 0xC4 ∷
    full 0x35 4 true ∷ []

-- The stores: the opcode, how many bytes it writes, the lowest of its operand, and whether that is an i64.
abbrev pub stores : List (ℕ × Access)
stores =
    full 0x36 4 false ∷
    full 0x37 8 true ∷
    full 0x3A 1 false ∷
    full 0x3B 2 false ∷
    full 0x3C 1 true ∷
    full 0x3D 2 true ∷
    full 0x3E 4 true ∷ []

abbrev pub find_access : ℕ → List (ℕ × Access) → Option Access
find_access op [] = None
find_access op (row ∷ rest) = if op == row.0 then Some row.1 else find_access op rest

unfoldable pub load_of : ℕ → Option Access
load_of op = find_access op loads

unfoldable pub store_of : ℕ → Option Access
store_of op = find_access op stores

-- how many bytes the opcode of a load or a store takes; 0 where it is of none
abbrev pub load_bytes : ℕ → ℕ
load_bytes op = option_map_or (λ access. access.bytes) (load_of op) 0

abbrev pub store_bytes : ℕ → ℕ
store_bytes op = option_map_or (λ access. access.bytes) (store_of op) 0

-- how many bits the loaded word has, and the word to store
abbrev pub load_bits : ℕ → ℕ
load_bits op = option_map_or (λ access. bits_where access.wide) (load_of op) 0

abbrev pub store_bits : ℕ → ℕ
store_bits op = option_map_or (λ access. bits_where access.wide) (store_of op) 0

-- ---- words and their bytes, over any kind

abbrev pub extended : {W : Type 0} → Kind W → Option ℕ → W → W
extended K None w = w
extended K (Some op) w = K.unary op w

abbrev pub accessed : {W : Type 0} → Kind W → Access → List W → W
accessed K access bytes = extended K access.extend (K.join access.wide bytes)

-- the word that is loaded from these bytes: joined to the load's width and, where it is signed, extended
abbrev pub loaded : {W : Type 0} → Kind W → ℕ → List W → W
loaded K op bytes = option_map_or (λ access. accessed K access bytes) (load_of op) (K.number 0)

-- the n lowest bytes of a word, lowest first
abbrev pub lowest_bytes : {W : Type 0} → Kind W → ℕ → W → List W
lowest_bytes K zero w = []
lowest_bytes K (suc n) w = lowest_bytes K n w ++ K.byte w n ∷ []

-- the bytes that are stored of this word
abbrev pub stored : {W : Type 0} → Kind W → ℕ → W → List W
stored K op w = lowest_bytes K (store_bytes op) w
