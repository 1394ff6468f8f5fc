-- Numbers, vectors and names, spelled shortest (Binary Format: Values, Conventions). Numbers in LEB128 are `unsigned_bytes` and
-- `signed_bytes` of owi_base.
use Rattle.std.specs.Prelude.{ℕ, List, ◌++◌, length}
use Rattle.std.specs.List.{flat_map}
use Rattle.owi_base.specs.Leb.{unsigned_bytes}

-- a vector: a count and the entries
abbrev pub vec_bytes : {A : Type 0} → (A → List ℕ) → List A → List ℕ
vec_bytes entry_bytes xs = unsigned_bytes (length xs) ++ flat_map entry_bytes xs

-- bytes after their number: a name, the contents of a section, the code of a function
abbrev pub sized : List ℕ → List ℕ
sized bytes = unsigned_bytes (length bytes) ++ bytes
