-- A source and a sink in memory as their callers see them, and what each call makes of them.
use Rattle.std.specs.Prelude.{◌≡◌, ℕ, ◌-◌, min, List, ◌++◌, Contains, length, drop, ◌⊎◌}
use Rattle.owi_base.specs.Outside.{one_more}

-- ---- the source

pub record SourceInMemory : Type 0 where
  -- the bytes still to come
  pub left : List ℕ
  -- how many bytes a call gives at most
  pub most : ℕ
  -- the numbers of the calls that fail, from 1
  pub fails : List ℕ
  -- how many calls there were, and how many of them failed
  pub calls : ℕ
  pub faults : ℕ

-- the next read fails: its number is listed
abbrev pub ReadFails : SourceInMemory → Type 0
ReadFails s = Contains s.fails (one_more s.calls)

-- how many bytes a read that doesn't fail gives into this much space
abbrev pub read_count : SourceInMemory → ℕ → ℕ
read_count s space = min (length s.left) (min space s.most)

-- after a read that failed
abbrev pub after_failed_read : SourceInMemory → SourceInMemory
after_failed_read s = record s { calls = one_more s.calls; faults = one_more s.faults }

-- after a read that gave the first n bytes
abbrev pub after_read : ℕ → SourceInMemory → SourceInMemory
after_read n s = record s { left = drop n s.left; calls = one_more s.calls }

-- ---- the sink

pub record SinkInMemory : Type 0 where
  -- the bytes written
  pub written : List ℕ
  -- how many bytes it takes in all
  pub room : ℕ
  -- how many bytes a call takes at most
  pub most : ℕ
  -- the numbers of the calls that fail, from 1
  pub fails : List ℕ
  -- how many calls there were, and how many of them failed
  pub calls : ℕ
  pub faults : ℕ

-- how many more bytes the sink takes
abbrev pub room_left : SinkInMemory → ℕ
room_left s = s.room - length s.written

-- the next write fails: its number is listed, or no room is left
abbrev pub WriteFails : SinkInMemory → Type 0
WriteFails s = Contains s.fails (one_more s.calls) ⊎ (room_left s ≡ 0)

-- how many bytes of a piece this long a write that doesn't fail takes
abbrev pub write_count : SinkInMemory → ℕ → ℕ
write_count s len = min (room_left s) (min len s.most)

-- after a write that failed
abbrev pub after_failed_write : SinkInMemory → SinkInMemory
after_failed_write s = record s { calls = one_more s.calls; faults = one_more s.faults }

-- after a write that took these bytes
abbrev pub after_write : List ℕ → SinkInMemory → SinkInMemory
after_write bytes s = record s { written = s.written ++ bytes; calls = one_more s.calls }
