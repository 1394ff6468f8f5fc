-- What is said of the outside: counts of faults, and bytes that a source has given.
use Rattle.std.specs.Prelude.{◌≡◌, ℕ, ◌+◌, ◌-◌, ◌<◌, ◌≤◌, ◌^◌, ◌⊎◌, min, List, Option, length}
use Rattle.std.specs.Io.KnownBytes.{Consumes}

-- a count rose, or stands at the last value of a u64
abbrev pub Rose : ℕ → ℕ → Type 0
Rose old new = (old < new) ⊎ (new ≡ 2 ^ 64 - 1)

-- a count after one more, which stays at the last value of a u64
abbrev pub one_more : ℕ → ℕ
one_more n = min (n + 1) (2 ^ 64 - 1)

-- n bytes were given, and no others: of the bytes left, where they are told, the first n are gone
abbrev pub Gave : ℕ → Option (List ℕ) → Option (List ℕ) → Type 0
Gave n old new = (bytes : List ℕ) × (length bytes ≡ n) × Consumes old new bytes

-- at most n bytes were given, and no others
abbrev pub GaveAtMost : ℕ → Option (List ℕ) → Option (List ℕ) → Type 0
GaveAtMost n old new = (bytes : List ℕ) × (length bytes ≤ n) × Consumes old new bytes
