-- Reading a module from left to right, as a function. What it gives is proved to be what is spelled (Modules).
use Rattle.std.specs.Prelude.{ℕ, zero, suc, ◌==◌, List, length, nat_lt, if◌then◌else◌, Option, Some, None, Result, Ok, Err}
use Rattle.grammar_forms.specs.Forms.{Window}
use Rattle.wasm_ast.specs.declared.modules.Module.{Module}
use Rattle.wasm_binary.specs.Faults.{Fault, count}
use Rattle.wasm_binary.specs.Modules.{Sections, no_sections, front, section, module_of, whole}

-- the module of the sections, where their counts are the same at the end of the bytes
abbrev pub segments_counted : Sections → ℕ → Option ℕ → Result Module Fault
segments_counted s at None = Ok (module_of s)
segments_counted s at (Some n) =
    if n == length s.segments then Ok (module_of s) else Err (count n (length s.segments) at)

abbrev pub counted : Sections → ℕ → Result Module Fault
counted s at =
    if length s.type_indices == length s.codes then segments_counted s at s.data_count
    else Err (count (length s.type_indices) (length s.codes) at)

abbrev pub next_of : {A B : Type 0} → Result (A × ℕ) Fault → (A → ℕ → Result B Fault) → Result B Fault
next_of (Ok x) next = next x.0 x.1
next_of (Err fault) next = Err fault

-- At most so many sections. Each has a byte, so as many as there are bytes, and one more, are enough.
unfoldable pub read_sections : ℕ → Window Fault → Sections → ℕ → Result Module Fault
read_sections zero w s at = Err w.ended
read_sections (suc n) w s at =
    if nat_lt at (length w.bytes) then next_of ((section s).read w at) (read_sections n w) else counted s at

-- the module that the bytes spell, or their first trouble
unfoldable pub read_binary : List ℕ → Result Module Fault
read_binary bytes = next_of (front.read (whole bytes) 0) (λ _ at. read_sections (suc (length bytes)) (whole bytes) no_sections at)
