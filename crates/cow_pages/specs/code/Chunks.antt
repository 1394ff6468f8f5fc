-- The chunks of a list of cells. No public contract speaks of these.
use Rattle.std.specs.Prelude.{◌≡◌, ℕ, ◌+◌, ◌*◌, ◌-◌, ◌<◌, ◌≤◌, ◌^◌, ◌++◌, List, [], ◌∷◌, length, drop, replicate, ⊤}
use Rattle.std.specs.List.{AllByRecursion, flat_map}
use Rattle.cow_pages.specs.Cells.{written, part}
use Rattle.cow_pages.specs.declared.ranges.Source.{Source}
use Rattle.cow_pages.specs.declared.ranges.Source.TheVariants.{Cell, Cells, Place}

-- how many cells a chunk has
abbrev pub chunk_cells : ℕ
chunk_cells = 1024

-- the cells of chunks side by side
abbrev pub cells_of : List (List ℕ) → List ℕ
cells_of chunks = flat_map (λ c. c) chunks

-- all chunks are whole
abbrev pub AreWhole : List (List ℕ) → Type 0
AreWhole chunks = AllByRecursion (λ c. length c ≡ chunk_cells) chunks

-- The chunks new are the chunks old, in which these cells are written from a place on.
pub record Writes (old : List (List ℕ)) (at : ℕ) (xs : List ℕ) (new : List (List ℕ)) : Type 0 where
  pub cells : cells_of new ≡ written at xs (cells_of old)
  pub whole : AreWhole new

-- n cells lie in the chunks, and past them there are zeros
pub record IsPadded (chunks : List (List ℕ)) (n : ℕ) : Type 0 where
  pub whole : AreWhole chunks
  pub within : n ≤ chunk_cells * length chunks
  pub padded : drop n (cells_of chunks) ≡ replicate (chunk_cells * length chunks - n) 0

-- the chunks new are the chunks old, and chunks of zeros after them
pub record ZerosAdded (old new : List (List ℕ)) : Type 0 where
  pub more : ℕ
  pub added : new ≡ old ++ replicate more (replicate chunk_cells 0)

-- the cells of a source of so many
abbrev pub source_cells : List (List ℕ) → ℕ → Source → List ℕ
source_cells chunks count (Cell cell) = replicate count cell
source_cells chunks count (Cells cells) = cells.now
source_cells chunks count (Place from) = part from count (cells_of chunks)

-- the source has so many cells
abbrev pub FitsSource : List (List ℕ) → ℕ → Source → Type 0
FitsSource chunks count (Cell cell) = ⊤
FitsSource chunks count (Cells cells) = length cells.now ≡ count
FitsSource chunks count (Place from) = (from + count ≤ chunk_cells * length chunks) × (from + count < 2 ^ 64)
