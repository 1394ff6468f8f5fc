-- The pages of a memory.
use Rattle.std.specs.Prelude.{◌≡◌, ℕ, ◌+◌, ◌*◌, ◌<◌, Bool, true, false, List, [], ◌∷◌, length, map, replicate, slice_get, Some}
use Rattle.std.specs.List.{AllByRecursion, flat_map}
use Rattle.wasm_reduction.specs.Combinators.{written}
use Rattle.wasm_reduction.specs.Memories.{page_bytes}

-- a page: its bytes, and whether it has a block, which it gets when it is first written
pub record Page : Type 0 where
  pub bytes : List ℕ
  pub held : Bool

-- the bytes of a page that was never written
unfoldable pub zeros : List ℕ
zeros = replicate page_bytes 0

-- a page that was never written
abbrev pub fresh : Page
fresh = record { bytes = zeros; held = false }

-- the page of this block, which has no bytes before the page is first written
abbrev pub page_of : List ℕ → Page
page_of [] = fresh
page_of (x ∷ xs) = record { bytes = x ∷ xs; held = true }

-- the bytes of a memory that has these pages
abbrev pub cells_of : List Page → List ℕ
cells_of pages = flat_map (λ p. p.bytes) pages

-- all pages are whole
abbrev pub AreWhole : List Page → Type 0
AreWhole pages = AllByRecursion (λ p. length p.bytes ≡ page_bytes) pages

-- which pages have a block
abbrev pub held_of : List Page → List Bool
held_of pages = map (λ p. p.held) pages

-- each page that has one of so many places, from a place on, has a block
pub record AreHeld (held : List Bool) (at count : ℕ) : Type 0 where
  pub each : (k : ℕ) → 0 < count → at < page_bytes * (k + 1) → page_bytes * k < at + count → slice_get held k ≡ Some true

-- the most pages that a memory has
abbrev pub page_limit : ℕ
page_limit = 65536

-- The pages new are the pages old, in which these bytes are written from a place on. They have the same blocks.
pub record Writes (old : List Page) (at : ℕ) (xs : List ℕ) (new : List Page) : Type 0 where
  pub cells : cells_of new ≡ written at xs (cells_of old)
  pub whole : AreWhole new
  pub held : held_of new ≡ held_of old
