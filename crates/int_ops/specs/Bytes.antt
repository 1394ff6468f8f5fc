-- Integers as bytes, lowest first (Execution, Runtime Structure: Storage, of integers in little-endian order).
use Rattle.std.specs.Prelude.{ℕ, zero, suc, ◌+◌, ◌*◌, ◌/◌, ◌%◌, ◌^◌, List, [], ◌∷◌, ◌++◌}

-- byte i of x
abbrev pub byte_of : ℕ → ℕ → ℕ
byte_of x i = x / 256 ^ i % 256

-- the number whose bytes these are
abbrev pub joined : List ℕ → ℕ
joined [] = 0
joined (byte ∷ rest) = byte + 256 * joined rest

-- the n lowest bytes of x, lowest first
abbrev pub bytes_of : ℕ → ℕ → List ℕ
bytes_of zero x = []
bytes_of (suc n) x = bytes_of n x ++ byte_of x n ∷ []
