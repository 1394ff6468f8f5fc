-- What the callers see of a source over a reader of the system and of a sink over a writer of it.
use Rattle.std.specs.Prelude.{ℕ, List, Option, take}
use Rattle.std.specs.Io.KnownBytes.{Appends}

pub record SourceOutside : Type 0 where
  -- the bytes that the reader will still give, where it tells them
  pub left : Option (List ℕ)
  -- how many calls have failed
  pub faults : ℕ

pub record SinkOutside : Type 0 where
  -- the bytes that the writer holds, where it tells them; it may hold them without having passed them on
  pub held : Option (List ℕ)
  -- how many calls have failed
  pub faults : ℕ

-- the writer took a front of these bytes, of any length
abbrev pub TookFront : List ℕ → Option (List ℕ) → Option (List ℕ) → Type 0
TookFront bytes old new = (n : ℕ) × Appends old new (take n bytes)
