-- Which sections a module has in the binary format, custom ones aside (Binary Format, Modules).
use Rattle.std.specs.Prelude.{ℕ, Bool, true, false, is_some, List, length, nat_lt, ◌==◌, ◌&&◌, ◌||◌}
use Rattle.std.specs.List.{list_any}
use Rattle.wasm_ast.specs.declared.instructions.Instr.{Instr}
use Rattle.wasm_ast.specs.declared.instructions.Instr.TheVariants.{MemoryInit, DataDrop}
use Rattle.wasm_ast.specs.declared.modules.Func.{Func}
use Rattle.wasm_ast.specs.declared.modules.Module.{Module}

-- memory.init and data.drop name a data segment
abbrev pub names_data : Instr → Bool
names_data (MemoryInit segment) = true
names_data (DataDrop segment) = true
names_data _ = false

abbrev pub body_names_data : Func → Bool
body_names_data f = list_any (λ instrs. list_any names_data instrs) f.body.seqs

abbrev pub has_any : {A : Type 0} → List A → Bool
has_any xs = nat_lt 0 (length xs)

-- Whether the section of a slot is written: where it has an entry; the start section where there is a start; the data
-- count section where a body has an instruction that names a data segment. The slots 1 to 12 are the sections' places
-- in a module: types, imports, functions, tables, memories, globals, exports, start, elements, data count, code, data.
abbrev pub is_written : Module → ℕ → Bool
is_written m slot =
    (slot == 1 && has_any m.types)
    || (slot == 2 && has_any m.imports)
    || (slot == 3 && has_any m.funcs)
    || (slot == 4 && has_any m.tables)
    || (slot == 5 && has_any m.memories)
    || (slot == 6 && has_any m.globals)
    || (slot == 7 && has_any m.exports)
    || (slot == 8 && is_some m.start)
    || (slot == 9 && has_any m.elems)
    || (slot == 10 && list_any body_names_data m.funcs)
    || (slot == 11 && has_any m.funcs)
    || (slot == 12 && has_any m.segments)
