-- A module, spelled shortest (Binary Format, Modules): each number in the fewest bytes, and no section without entries.
use Rattle.std.specs.Prelude.{ℕ, ◌^◌, List, [], ◌∷◌, ◌++◌, length, map, filter, ◌==◌, nat_le, Bool, if◌then◌else◌, Option, Some, None}
use Rattle.std.specs.List.{flat_map}
use Rattle.owi_base.specs.Leb.{unsigned_bytes}
use Rattle.wasm_ast.specs.Sections.{is_written}
use Rattle.wasm_ast.specs.declared.modules.Custom.{Custom}
use Rattle.wasm_ast.specs.declared.modules.Module.{Module}
use Rattle.wasm_write.specs.Values.{vec_bytes, sized}
use Rattle.wasm_write.specs.Types.{func_type_bytes, table_type_bytes, limits_bytes}
use Rattle.wasm_write.specs.SectionEntries.{import_bytes, global_bytes, export_bytes, elem_bytes, segment_bytes, code_bytes}

-- ---- sections

pub record Section : Type 0 where
  pub id : ℕ
  pub contents : List ℕ

-- the id of the section of a slot: the slots 10, 11 and 12 are those of data count, code and data
abbrev pub id_of : ℕ → ℕ
id_of slot = if slot == 10 then 12 else (if slot == 11 then 10 else (if slot == 12 then 11 else slot))

abbrev pub start_bytes : Option ℕ → List ℕ
start_bytes (Some func) = unsigned_bytes func
start_bytes None = []

-- what the section of a slot holds
abbrev pub contents : Module → ℕ → List ℕ
contents m slot =
    if slot == 1 then vec_bytes func_type_bytes m.types else (
    if slot == 2 then vec_bytes import_bytes m.imports else (
    if slot == 3 then vec_bytes (λ f. unsigned_bytes f.ty) m.funcs else (
    if slot == 4 then vec_bytes table_type_bytes m.tables else (
    if slot == 5 then vec_bytes limits_bytes m.memories else (
    if slot == 6 then vec_bytes global_bytes m.globals else (
    if slot == 7 then vec_bytes export_bytes m.exports else (
    if slot == 8 then start_bytes m.start else (
    if slot == 9 then vec_bytes elem_bytes m.elems else (
    if slot == 10 then unsigned_bytes (length m.segments) else (
    if slot == 11 then vec_bytes code_bytes m.funcs else
    vec_bytes segment_bytes m.segments))))))))))

-- the section of a slot, where it is one that is written
abbrev pub section_of : Module → ℕ → List Section
section_of m slot = if is_written m slot then record { id = id_of slot; contents = contents m slot } ∷ [] else []

abbrev pub custom_section : Custom → Section
custom_section c = record { id = 0; contents = sized c.name ++ c.bytes }

-- the custom sections that stand after a slot, or before all sections where it is 0
abbrev pub customs_after : Module → ℕ → List Section
customs_after m slot = map custom_section (filter (λ c. c.after == slot) m.customs)

-- all sections in the order of writing
abbrev pub sections : Module → List Section
sections m =
    customs_after m 0
    ++ flat_map (λ slot. section_of m slot ++ customs_after m slot) (1 ∷ 2 ∷ 3 ∷ 4 ∷ 5 ∷ 6 ∷ 7 ∷ 8 ∷ 9 ∷ 10 ∷ 11 ∷ 12 ∷ [])

abbrev pub section_bytes : Section → List ℕ
section_bytes s = s.id ∷ sized s.contents

-- the magic number, the version and the sections
abbrev pub shortest : Module → List ℕ
shortest m = 0x00 ∷ 0x61 ∷ 0x73 ∷ 0x6D ∷ 0x01 ∷ 0x00 ∷ 0x00 ∷ 0x00 ∷ flat_map section_bytes (sections m)

-- ---- sections that are too long

-- its length is no u32
abbrev pub is_long : Section → Bool
is_long s = nat_le (2 ^ 32) (length s.contents)

-- the id of the first section that is too long
abbrev pub first_long : List Section → Option ℕ
first_long [] = None
first_long (s ∷ rest) = if is_long s then Some s.id else first_long rest
