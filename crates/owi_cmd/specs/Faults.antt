-- What is said of bytes that spell no module, and of modules that aren't valid or too large to be run.
use Rattle.std.specs.Prelude.{ℕ, List, [], ◌++◌, codes, decimal}
use Rattle.wasm_binary.specs.Faults.{Fault, cut, magic, leb, byte, utf8, order, size, count, data_count, outside, locals}
use Rattle.wasm_check.specs.declared.why.Why.{Why}
use Rattle.wasm_check.specs.declared.why.Why.TheVariants.{Field, Code, NoMemory}
use Rattle.wasm_image.specs.declared.sizes.Large.{Large}
use Rattle.wasm_image.specs.declared.sizes.Large.TheVariants.{Memory, Tables, Table}
use Rattle.owi_cmd.specs.declared.status.Status.{Status}
use Rattle.owi_cmd.specs.declared.status.Status.TheVariants.{Malformed, Outside, Limit}

-- ---- bytes that spell no module

-- Outside of what is taken in, past the bound on locals, or else malformed
abbrev pub fault_status : Fault → Status
fault_status (cut at) = Malformed
fault_status (magic at) = Malformed
fault_status (leb at) = Malformed
fault_status (byte at) = Malformed
fault_status (utf8 at) = Malformed
fault_status (order at) = Malformed
fault_status (size at) = Malformed
fault_status (count earlier later at) = Malformed
fault_status (data_count at) = Malformed
fault_status (outside at) = Outside
fault_status (locals sum at) = Limit

abbrev pub fault_text : Fault → List ℕ
fault_text (cut at) = codes "malformed cut at " ++ decimal at
fault_text (magic at) = codes "malformed magic at " ++ decimal at
fault_text (leb at) = codes "malformed leb at " ++ decimal at
fault_text (byte at) = codes "malformed byte at " ++ decimal at
fault_text (utf8 at) = codes "malformed utf8 at " ++ decimal at
fault_text (order at) = codes "malformed order at " ++ decimal at
fault_text (size at) = codes "malformed size at " ++ decimal at
fault_text (count earlier later at) = codes "malformed count at " ++ decimal at
fault_text (data_count at) = codes "malformed datacount at " ++ decimal at
fault_text (outside at) = codes "outside at " ++ decimal at
fault_text (locals sum at) = codes "limit locals at " ++ decimal at

-- ---- modules that aren't valid

-- an entry of a section, by the section's id; or an instruction of a function, imports counted, by its place in the body
abbrev pub why_text : Why → List ℕ
why_text (Field section entry) = codes "invalid section " ++ decimal section ++ codes " entry " ++ decimal entry
why_text (Code function place) = codes "invalid function " ++ decimal function ++ codes " at " ++ decimal place
why_text NoMemory = []

-- ---- modules that are too large to be run

-- pages of a memory, tables, or elements of a table
abbrev pub large_text : Large → List ℕ
large_text (Memory pages) = codes "limit memory " ++ decimal pages
large_text (Tables number) = codes "limit tables " ++ decimal number
large_text (Table elements) = codes "limit table " ++ decimal elements
