-- Why bytes are no module, and where: the first trouble that reading from left to right meets. A place is a number of
-- bytes from the start.
use Rattle.std.specs.Prelude.{ℕ}

pub data Fault : Type 0 where
  -- the bytes end where a form needs one; the place is their number
  cut : ℕ → Fault
  -- one of the first eight bytes differs from the magic number and the version; that byte
  magic : ℕ → Fault
  -- a number is too long or has wrong unused bits; its first byte
  leb : ℕ → Fault
  -- no form begins with this byte
  byte : ℕ → Fault
  -- a name isn't UTF-8; the first byte after its count
  utf8 : ℕ → Fault
  -- a section stands twice or out of order; its id
  order : ℕ → Fault
  -- contents need a byte past the nearest stated end, which is the place, or they end before it, and a byte is left
  size : ℕ → Fault
  -- two counts differ, the earlier and the later one; the first byte of the later, or the number of bytes where it is missing
  count : ℕ → ℕ → ℕ → Fault
  -- an instruction names a data segment, and there is no data count section; its first byte
  data_count : ℕ → Fault
  -- a type or an instruction of floating-point numbers or vectors; its first byte
  outside : ℕ → Fault
  -- one function has more than 50,000 locals: their sum so far; the first byte of the group that passes this bound
  locals : ℕ → ℕ → Fault
