-- Of numbers past all characters only that is kept.
use Rattle.std.specs.Prelude.{◌≡◌, ◌<◌, ◌⊎◌, ℕ}

abbrev pub Alike : ℕ → ℕ → Type 0
Alike n m = (n ≡ m) ⊎ ((0x10FFFF < n) × (0x10FFFF < m))
