-- What a refusal tells of the bytes: their first trouble and its place, or nothing where memory ran out.
use Rattle.std.specs.Prelude.{Option, Some, None}
use Rattle.wasm_binary.specs.Faults.{Fault, cut, magic, leb, byte, utf8, order, size, count, data_count, outside, locals}
use Rattle.wasm_read.specs.declared.bad.ReadBad.{ReadBad}
use Rattle.wasm_read.specs.declared.bad.ReadBad.TheVariants.{Cut, Magic, Leb, Byte, Utf8, Order, Size, Count, DataCount, Outside, Locals, NoMemory}

abbrev pub fault_of : ReadBad → Option Fault
fault_of (Cut at) = Some (cut at)
fault_of (Magic at) = Some (magic at)
fault_of (Leb at) = Some (leb at)
fault_of (Byte at) = Some (byte at)
fault_of (Utf8 at) = Some (utf8 at)
fault_of (Order at) = Some (order at)
fault_of (Size at) = Some (size at)
fault_of (Count left right at) = Some (count left right at)
fault_of (DataCount at) = Some (data_count at)
fault_of (Outside at) = Some (outside at)
fault_of (Locals sum at) = Some (locals sum at)
fault_of NoMemory = None
