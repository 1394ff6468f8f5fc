-- What is written for the section of each slot, and for custom sections, is a spelling of it.
use Rattle.std.proofs.Common.{◌≡◌, ℕ, zero, suc, ◌-◌, ◌^◌, ◌<◌, Bool, true, false, List, [], ◌∷◌, ◌++◌, length, map, get_or, Option, Some, None, Result, Ok, Err, All, refl, sym, ap, subst, ◌∙◌, append-nil, arith, length-append}
use Rattle.std.specs.Prelude.{◌==◌, ◌||◌, nat_lt, nat_le, is_some, IfSome, IsUtf8, if◌then◌else◌}
use Rattle.std.specs.List.{flat_map, list_any}
use Rattle.std.proofs.lemmas.Bool.{lt-ltb, ltb-false, eq-eqb}
use Rattle.std.proofs.lemmas.List.{length-map}
use Rattle.std.proofs.lemmas.List.Folds.{list_any_at}
use Rattle.owi_base.specs.Leb.{unsigned_bytes}
use Rattle.grammar_forms.specs.Forms.{any_byte, many}
use Rattle.wasm_ast.specs.Sections.{names_data, body_names_data, has_any, is_written}
use Rattle.wasm_ast.specs.Shape.{IsShort, IsReference, ExprHasShape, ImportHasShape, FuncHasShape, ElemHasShape, SegmentHasShape, HasShape}
use Rattle.wasm_ast.specs.declared.modules.Func.{Func}
use Rattle.wasm_ast.specs.declared.modules.Custom.{Custom}
use Rattle.wasm_ast.specs.declared.modules.Module.{Module}
use Rattle.wasm_binary.specs.Faults.{Fault, order, count}
use Rattle.wasm_binary.specs.Values.{Grammar, u32, vec}
use Rattle.wasm_binary.specs.Types.{func_type, limits, table_type}
use Rattle.wasm_binary.specs.Locals.{Code, code}
use Rattle.wasm_binary.specs.SectionEntries.{import, global, export, elem, segment}
use Rattle.wasm_binary.specs.Modules.{Sections, next_id, same_count, same_as_announced, custom, code_section, data_section, into, contents, section}
use Rattle.wasm_write.specs.Values.{vec_bytes, sized}
use Rattle.wasm_write.specs.Types.{func_type_bytes, limits_bytes, table_type_bytes}
use Rattle.wasm_write.specs.SectionEntries.{import_bytes, global_bytes, export_bytes, elem_bytes, segment_bytes, code_bytes}
use Rattle.wasm_write.specs.Modules as writing
use Rattle.wasm_ast.specs.Ranges.{IsU32, LimitsInRange, ExprInRange, ImportInRange, FuncInRange, ExportInRange, ElemInRange, SegmentInRange, IsInRange}
use Rattle.wasm_write.proofs.FormSpelled.{by_recursion, each_of, u32_spelled, many_spelled, vec_spelled, bytes_spelled, name_spelled, func_type_spelled, limits_spelled, table_type_spelled}
use Rattle.wasm_write.proofs.SequencesSpelled.{IsCounted}
use Rattle.wasm_write.proofs.LocalsSpelled.{code_of, entry_bytes, code_spelled}
use Rattle.wasm_write.proofs.SectionEntriesSpelled.{import_spelled, global_spelled, export_spelled, elem_spelled, segment_spelled}
use Rattle.owi_base.proofs.Choices.{taken}

-- ---- a section

pub section_spelled : (s t : Sections) (id : ℕ) (text : List ℕ) → next_id s id ≡ Ok id → length text < 2 ^ 32 → (contents s id (length text)).Spells t text → (section s).Spells t (writing.section_bytes (record { id = id; contents = text }))
section_spelled s t id text next short c = (id, id ∷ [], sized text, refl, (id, refl, next), (length text, unsigned_bytes (length text), text, refl, u32_spelled (length text) short, (c, refl)))

into_spelled : {A : Type 0} (f : Grammar A) (add : A → Sections) (x : A) (text : List ℕ) → f.Spells x text → (into f add).Spells (add x) text
into_spelled f add x text s = (x, text, [], sym (append-nil text), s, (refl, refl))

-- ---- custom sections

pub record CustomIsFine (slot : ℕ) (c : Custom) : Type 0 where
  pub place : c.after ≡ slot
  pub name_short : IsShort c.name
  pub text : IsUtf8 c.name

custom_contents : (slot : ℕ) (c : Custom) → CustomIsFine slot c → (custom slot (length (sized c.name ++ c.bytes))).Spells c (sized c.name ++ c.bytes)
custom_contents slot c fine =
    let front = sized c.name in
    let called : List ℕ × ℕ = (c.name, length front) in
    let left : length c.bytes ≡ length (front ++ c.bytes) - length front = omega (arith, length-append front c.bytes) in
    let P : ℕ → Type 0 = λ n. (many {E = Fault} any_byte n).Spells c.bytes c.bytes in (
      called,
      front,
      c.bytes,
      refl,
      (name_spelled c.name fine.name_short fine.text, refl),
      (
        c.bytes,
        c.bytes,
        [],
        sym (append-nil c.bytes),
        subst P left (bytes_spelled c.bytes),
        (ap (λ n. let d : Custom = record { after = n; name = c.name; bytes = c.bytes } in d) fine.place, refl),
      ),
    )

pub custom_spelled : (s : Sections) (c : Custom) → CustomIsFine s.slot c → length (sized c.name ++ c.bytes) < 2 ^ 32 → (section s).Spells (record s { customs = s.customs ++ c ∷ [] }) (writing.section_bytes (writing.custom_section c))
custom_spelled s c fine short =
    section_spelled s (record s { customs = s.customs ++ c ∷ [] }) 0 (sized c.name ++ c.bytes) refl short
    (into_spelled (custom s.slot (length (sized c.name ++ c.bytes))) (λ x. record s { customs = s.customs ++ x ∷ [] }) c (sized c.name ++ c.bytes) (custom_contents s.slot c fine))

-- ---- what is read up to a slot

-- the number in the data count section
abbrev pub announced : Module → Option ℕ
announced m = if is_written m 10 then Some (length m.segments) else None

abbrev pub indices_of : List Func → List ℕ
indices_of funcs = map (λ f. f.ty) funcs

abbrev pub codes_of : List Func → List Code
codes_of funcs = map code_of funcs

-- the sections up to a slot, where the last has this slot
abbrev pub up_to : (m : Module) (i slot : ℕ) (customs : List Custom) → Sections
up_to m i slot customs = record {
  slot = slot;
  types = if nat_le 1 i then m.types else [];
  imports = if nat_le 2 i then m.imports else [];
  type_indices = if nat_le 3 i then indices_of m.funcs else [];
  tables = if nat_le 4 i then m.tables else [];
  memories = if nat_le 5 i then m.memories else [];
  globals = if nat_le 6 i then m.globals else [];
  exports = if nat_le 7 i then m.exports else [];
  start = if nat_le 8 i then m.start else None;
  elems = if nat_le 9 i then m.elems else [];
  data_count = if nat_le 10 i then announced m else None;
  codes = if nat_le 11 i then codes_of m.funcs else [];
  segments = if nat_le 12 i then m.segments else [];
  customs = customs;
}

-- The section of the slot j, after those up to the slot i: it is spelled where it is written, and else nothing is missing.
pub record Step (m : Module) (i j : ℕ) : Type 0 where
  pub written : is_written m j ≡ true → (slot : ℕ) (customs : List Custom) → slot < j → length (writing.contents m j) < 2 ^ 32
      → (section (up_to m i slot customs)).Spells (up_to m j j customs) (writing.section_bytes (record { id = writing.id_of j; contents = writing.contents m j }))
  pub not_written : is_written m j ≡ false → (slot : ℕ) (customs : List Custom) → up_to m i slot customs ≡ up_to m j slot customs

-- ---- what tells that a section is written

-- a test before so many false ones
abbrev pad : ℕ → Bool → Bool
pad zero b = b
pad (suc k) b = pad k b || false

unpad : (k : ℕ) (b c : Bool) → pad k b ≡ c → b ≡ c
unpad zero b c e = e
unpad (suc k) b c e = unpad k b c (or_false (pad k b) ∙ e)
  where
    or_false : (x : Bool) → x ≡ (x || false)
    or_false true = refl
    or_false false = refl

none_of : {X : Type 0} (xs : List X) → has_any xs ≡ false → xs ≡ []
none_of [] e = refl
none_of (x ∷ xs) e = absurd (omega (arith, ltb-false 0 (length (x ∷ xs)) e))

next_is : (slot j : ℕ) → slot < j → (let r : Result ℕ (ℕ → Fault) = if nat_lt slot j then Ok j else Err order in r) ≡ Ok j
next_is slot j lt = taken (nat_lt slot j) (let r : Result ℕ (ℕ → Fault) = Ok j in r) (Err order) (lt-ltb slot j lt)

-- ---- the slots from 1 to 9

pub types_step : (m : Module) → HasShape m → IsInRange m → Step m 0 1
types_step m shape range = record {
  written = λ is slot customs lt short.
      let s = up_to m 0 slot customs in
      section_spelled s (up_to m 1 1 customs) 1 (writing.contents m 1) (next_is slot 1 lt) short
      (into_spelled (vec func_type) (λ xs. record s { slot = 1; types = xs }) m.types (vec_bytes func_type_bytes m.types)
      (vec_spelled func_type func_type_bytes m.types shape.lists.types (by_recursion (λ ty. func_type.Spells ty (func_type_bytes ty)) m.types (λ k d within. func_type_spelled _ (shape.types k d within)))));
  not_written = λ is slot customs. ap (λ xs. let t : Sections = record (up_to m 0 slot customs) { types = xs } in t) (sym (none_of m.types (unpad 11 (has_any m.types) false is)));
}

pub imports_step : (m : Module) → HasShape m → IsInRange m → Step m 1 2
imports_step m shape range = record {
  written = λ is slot customs lt short.
      let s = up_to m 1 slot customs in
      section_spelled s (up_to m 2 2 customs) 2 (writing.contents m 2) (next_is slot 2 lt) short
      (into_spelled (vec import) (λ xs. record s { slot = 2; imports = xs }) m.imports (vec_bytes import_bytes m.imports)
      (vec_spelled import import_bytes m.imports shape.lists.imports (each_of ImportHasShape ImportInRange (λ x. import.Spells x (import_bytes x)) m.imports import_spelled shape.imports range.imports)));
  not_written = λ is slot customs. ap (λ xs. let t : Sections = record (up_to m 1 slot customs) { imports = xs } in t) (sym (none_of m.imports (unpad 10 (has_any m.imports) false is)));
}

-- the indices of the functions' types
indices_spelled : (funcs : List Func) → All FuncInRange funcs → (many u32 (length funcs)).Spells (indices_of funcs) (flat_map (λ f. unsigned_bytes f.ty) funcs)
indices_spelled [] range = (refl, refl)
indices_spelled (f ∷ funcs) range =
    let rest = flat_map (λ (g : Func). unsigned_bytes g.ty) funcs in (
      f.ty,
      unsigned_bytes f.ty,
      rest,
      refl,
      u32_spelled f.ty (range 0 f (omega arith)).type_index,
      (indices_of funcs, rest, [], sym (append-nil rest), indices_spelled funcs (λ k d lt. range (suc k) d (omega arith)), (refl, refl)),
    )

pub funcs_step : (m : Module) → HasShape m → IsInRange m → Step m 2 3
funcs_step m shape range = record {
  written = λ is slot customs lt short.
      let s = up_to m 2 slot customs in
      section_spelled s (up_to m 3 3 customs) 3 (writing.contents m 3) (next_is slot 3 lt) short
      (into_spelled (vec u32) (λ xs. record s { slot = 3; type_indices = xs }) (indices_of m.funcs) (vec_bytes (λ f. unsigned_bytes f.ty) m.funcs)
      (length m.funcs, unsigned_bytes (length m.funcs), flat_map (λ f. unsigned_bytes f.ty) m.funcs, refl, u32_spelled (length m.funcs) shape.lists.funcs, indices_spelled m.funcs range.funcs));
  not_written = λ is slot customs. ap (λ xs. let t : Sections = record (up_to m 2 slot customs) { type_indices = indices_of xs } in t) (sym (none_of m.funcs (unpad 9 (has_any m.funcs) false is)));
}

pub tables_step : (m : Module) → HasShape m → IsInRange m → Step m 3 4
tables_step m shape range = record {
  written = λ is slot customs lt short.
      let s = up_to m 3 slot customs in
      section_spelled s (up_to m 4 4 customs) 4 (writing.contents m 4) (next_is slot 4 lt) short
      (into_spelled (vec table_type) (λ xs. record s { slot = 4; tables = xs }) m.tables (vec_bytes table_type_bytes m.tables)
      (vec_spelled table_type table_type_bytes m.tables shape.lists.tables (each_of (λ t. IsReference t.kind) (λ t. LimitsInRange t.limits) (λ x. table_type.Spells x (table_type_bytes x)) m.tables table_type_spelled shape.tables range.tables)));
  not_written = λ is slot customs. ap (λ xs. let t : Sections = record (up_to m 3 slot customs) { tables = xs } in t) (sym (none_of m.tables (unpad 8 (has_any m.tables) false is)));
}

pub memories_step : (m : Module) → HasShape m → IsInRange m → Step m 4 5
memories_step m shape range = record {
  written = λ is slot customs lt short.
      let s = up_to m 4 slot customs in
      section_spelled s (up_to m 5 5 customs) 5 (writing.contents m 5) (next_is slot 5 lt) short
      (into_spelled (vec limits) (λ xs. record s { slot = 5; memories = xs }) m.memories (vec_bytes limits_bytes m.memories)
      (vec_spelled limits limits_bytes m.memories shape.lists.memories (by_recursion (λ x. limits.Spells x (limits_bytes x)) m.memories (λ k d within. limits_spelled _ (range.memories k d within)))));
  not_written = λ is slot customs. ap (λ xs. let t : Sections = record (up_to m 4 slot customs) { memories = xs } in t) (sym (none_of m.memories (unpad 7 (has_any m.memories) false is)));
}

pub globals_step : (m : Module) → HasShape m → IsInRange m → Step m 5 6
globals_step m shape range = record {
  written = λ is slot customs lt short.
      let s = up_to m 5 slot customs in
      section_spelled s (up_to m 6 6 customs) 6 (writing.contents m 6) (next_is slot 6 lt) short
      (into_spelled (vec global) (λ xs. record s { slot = 6; globals = xs }) m.globals (vec_bytes global_bytes m.globals)
      (vec_spelled global global_bytes m.globals shape.lists.globals (each_of (λ g. ExprHasShape g.init) (λ g. ExprInRange g.init) (λ x. global.Spells x (global_bytes x)) m.globals global_spelled shape.globals range.globals)));
  not_written = λ is slot customs. ap (λ xs. let t : Sections = record (up_to m 5 slot customs) { globals = xs } in t) (sym (none_of m.globals (unpad 6 (has_any m.globals) false is)));
}

pub exports_step : (m : Module) → HasShape m → IsInRange m → Step m 6 7
exports_step m shape range = record {
  written = λ is slot customs lt short.
      let s = up_to m 6 slot customs in
      section_spelled s (up_to m 7 7 customs) 7 (writing.contents m 7) (next_is slot 7 lt) short
      (into_spelled (vec export) (λ xs. record s { slot = 7; exports = xs }) m.exports (vec_bytes export_bytes m.exports)
      (vec_spelled export export_bytes m.exports shape.lists.exports (each_of (λ e. IsShort e.name) ExportInRange (λ x. export.Spells x (export_bytes x)) m.exports export_spelled shape.exports range.exports)));
  not_written = λ is slot customs. ap (λ xs. let t : Sections = record (up_to m 6 slot customs) { exports = xs } in t) (sym (none_of m.exports (unpad 5 (has_any m.exports) false is)));
}

-- the start function, where there is one
start_spelled : (start : Option ℕ) → IfSome start IsU32 → is_some start ≡ true → (f : ℕ) × (start ≡ Some f) × u32.Spells f (writing.start_bytes start)
start_spelled (Some f) range is = (f, refl, u32_spelled f range)
start_spelled None range is = absurd cc

no_start : (start : Option ℕ) → is_some start ≡ false → start ≡ None
no_start (Some f) is = absurd cc
no_start None is = refl

pub start_step : (m : Module) → HasShape m → IsInRange m → Step m 7 8
start_step m shape range = record {
  written = λ is slot customs lt short.
      let s = up_to m 7 slot customs in
      let f = start_spelled m.start range.start (unpad 4 (is_some m.start) true is) in
      let with_start : Option ℕ → Sections = λ start. record s { slot = 8; start = start } in
      let P : Sections → Type 0 = λ t. (section s).Spells t (writing.section_bytes (record { id = 8; contents = writing.contents m 8 })) in
      subst P (ap with_start (sym f.1)) (section_spelled s (with_start (Some f.0)) 8 (writing.contents m 8) (next_is slot 8 lt) short
      (into_spelled u32 (λ x. record s { slot = 8; start = Some x }) f.0 (writing.start_bytes m.start) f.2));
  not_written = λ is slot customs. ap (λ x. let t : Sections = record (up_to m 7 slot customs) { start = x } in t) (sym (no_start m.start (unpad 4 (is_some m.start) false is)));
}

pub elems_step : (m : Module) → HasShape m → IsInRange m → Step m 8 9
elems_step m shape range = record {
  written = λ is slot customs lt short.
      let s = up_to m 8 slot customs in
      section_spelled s (up_to m 9 9 customs) 9 (writing.contents m 9) (next_is slot 9 lt) short
      (into_spelled (vec elem) (λ xs. record s { slot = 9; elems = xs }) m.elems (vec_bytes elem_bytes m.elems)
      (vec_spelled elem elem_bytes m.elems shape.lists.elems (each_of ElemHasShape ElemInRange (λ x. elem.Spells x (elem_bytes x)) m.elems elem_spelled shape.elems range.elems)));
  not_written = λ is slot customs. ap (λ xs. let t : Sections = record (up_to m 8 slot customs) { elems = xs } in t) (sym (none_of m.elems (unpad 3 (has_any m.elems) false is)));
}

-- ---- data count, code and data

is_announced : (m : Module) (b : Bool) → is_written m 10 ≡ b → announced m ≡ (if b then Some (length m.segments) else None)
is_announced m b e = ap (λ c. let n : Option ℕ = if c then Some (length m.segments) else None in n) e

pub data_count_step : (m : Module) → HasShape m → IsInRange m → Step m 9 10
data_count_step m shape range = record {
  written = λ is slot customs lt short.
      let s = up_to m 9 slot customs in
      let with_count : Option ℕ → Sections = λ n. record s { slot = 10; data_count = n } in
      let P : Sections → Type 0 = λ t. (section s).Spells t (writing.section_bytes (record { id = 12; contents = writing.contents m 10 })) in
      subst P (ap with_count (sym (is_announced m true is))) (section_spelled s (with_count (Some (length m.segments))) 12 (writing.contents m 10) (next_id_is slot lt customs) short
      (into_spelled u32 (λ x. record s { slot = 10; data_count = Some x }) (length m.segments) (unsigned_bytes (length m.segments)) (u32_spelled (length m.segments) shape.lists.segments)));
  not_written = λ is slot customs. ap (λ n. let t : Sections = record (up_to m 9 slot customs) { data_count = n } in t) (sym (is_announced m false is));
}
  where
    next_id_is : (slot : ℕ) → slot < 10 → (customs : List Custom) → next_id (up_to m 9 slot customs) 12 ≡ Ok 12
    next_id_is slot lt customs = taken (nat_lt slot 10) (let r : Result ℕ (ℕ → Fault) = Ok 12 in r) (Err order) (lt-ltb slot 10 lt)

-- an instruction that names a data segment is announced
counted_of : (m : Module) → All (λ f. IsCounted (is_some (announced m)) f.body) m.funcs
counted_of m k f within = record {
  each = λ j i x lt inside h.
      let func = get_or m.funcs k f in
      let instrs = get_or func.body.seqs j [] in
      let in_sequence : list_any names_data instrs ≡ true = list_any_at names_data instrs i x inside h in
      let in_body : body_names_data func ≡ true = list_any_at (λ l. list_any names_data l) func.body.seqs j [] lt in_sequence in
      let in_one : list_any body_names_data m.funcs ≡ true = list_any_at body_names_data m.funcs k f within in_body in
      ap is_some (is_announced m true (rw in_one refl));
}

-- the codes of functions, whose sizes fit where they all together do
codes_spelled : (counted : Bool) (funcs : List Func) → All FuncHasShape funcs → All FuncInRange funcs → All (λ f. IsCounted counted f.body) funcs → length (flat_map code_bytes funcs) < 2 ^ 32
    → (many (code counted) (length funcs)).Spells (codes_of funcs) (flat_map code_bytes funcs)
codes_spelled counted [] shape range are_counted short = (refl, refl)
codes_spelled counted (f ∷ funcs) shape range are_counted short =
    let rest = flat_map code_bytes funcs in
    let long = length-append (code_bytes f) rest in
    let size = length-append (unsigned_bytes (length (entry_bytes f))) (entry_bytes f) in (
      code_of f,
      code_bytes f,
      rest,
      refl,
      code_spelled counted f (shape 0 f (omega arith)) (range 0 f (omega arith)) (are_counted 0 f (omega arith)) (omega (arith, long, size, short)),
      (
        codes_of funcs,
        rest,
        [],
        sym (append-nil rest),
        codes_spelled counted funcs (λ k d lt. shape (suc k) d (omega arith)) (λ k d lt. range (suc k) d (omega arith)) (λ k d lt. are_counted (suc k) d (omega arith)) (omega (arith, long, short)),
        (refl, refl),
      ),
    )

pub code_step : (m : Module) → HasShape m → IsInRange m → Step m 10 11
code_step m shape range = record {
  written = λ is slot customs lt short.
      let s = up_to m 10 slot customs in
      let n = length m.funcs in
      let rest = flat_map code_bytes m.funcs in
      let text = unsigned_bytes n ++ rest in
      let r : Result ℕ (ℕ → Fault) = Ok n in
      let earlier = length (indices_of m.funcs) in
      let same : same_count earlier n ≡ Ok n = taken (n == earlier) r (Err (count earlier n)) (eq-eqb n earlier (sym (length-map m.funcs (λ f. f.ty)))) in
      section_spelled s (up_to m 11 11 customs) 10 (writing.contents m 11) (next_id_is slot lt customs) short
      (into_spelled (code_section s) (λ xs. record s { slot = 11; codes = xs }) (codes_of m.funcs) text (
        n,
        unsigned_bytes n,
        rest,
        refl,
        (n, u32_spelled n shape.lists.funcs, same),
        codes_spelled (is_some (announced m)) m.funcs shape.funcs range.funcs (counted_of m) (omega (arith, short, length-append (unsigned_bytes n) rest)),
      ));
  not_written = λ is slot customs. ap (λ xs. let t : Sections = record (up_to m 10 slot customs) { codes = codes_of xs } in t) (sym (none_of m.funcs (unpad 1 (has_any m.funcs) false is)));
}
  where
    next_id_is : (slot : ℕ) → slot < 11 → (customs : List Custom) → next_id (up_to m 10 slot customs) 10 ≡ Ok 10
    next_id_is slot lt customs = taken (nat_lt slot 11) (let r : Result ℕ (ℕ → Fault) = Ok 10 in r) (Err order) (lt-ltb slot 11 lt)

as_announced : (n : ℕ) (b : Bool) → same_as_announced (if b then Some n else None) n ≡ Ok n
as_announced n true = taken (n == n) (let r : Result ℕ (ℕ → Fault) = Ok n in r) (Err (count n n)) (eq-eqb n n refl)
as_announced n false = refl

pub data_step : (m : Module) → HasShape m → IsInRange m → Step m 11 12
data_step m shape range = record {
  written = λ is slot customs lt short.
      let s = up_to m 11 slot customs in
      let n = length m.segments in
      let rest = flat_map segment_bytes m.segments in
      section_spelled s (up_to m 12 12 customs) 11 (writing.contents m 12) (next_id_is slot lt customs) short
      (into_spelled (data_section s) (λ xs. record s { slot = 12; segments = xs }) m.segments (unsigned_bytes n ++ rest) (
        n,
        unsigned_bytes n,
        rest,
        refl,
        (n, u32_spelled n shape.lists.segments, as_announced n (is_written m 10)),
        many_spelled segment segment_bytes m.segments (each_of SegmentHasShape SegmentInRange (λ x. segment.Spells x (segment_bytes x)) m.segments segment_spelled shape.segments range.segments),
      ));
  not_written = λ is slot customs. ap (λ xs. let t : Sections = record (up_to m 11 slot customs) { segments = xs } in t) (sym (none_of m.segments is));
}
  where
    next_id_is : (slot : ℕ) → slot < 12 → (customs : List Custom) → next_id (up_to m 11 slot customs) 11 ≡ Ok 11
    next_id_is slot lt customs = taken (nat_lt slot 12) (let r : Result ℕ (ℕ → Fault) = Ok 11 in r) (Err order) (lt-ltb slot 12 lt)
