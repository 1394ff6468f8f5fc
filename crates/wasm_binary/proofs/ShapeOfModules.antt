-- A module that is spelled has its shape, but for how many custom sections it has: no number in the bytes bounds them.
use Rattle.std.proofs.Common.{◌≡◌, ◌≢◌, ℕ, zero, suc, ◌+◌, ◌-◌, ◌^◌, ◌<◌, ◌≤◌, ◌⊎◌, inl, inr, Bool, true, false, cond, List, [], ◌∷◌, ◌++◌, length, map, Option, Some, None, Result, Ok, Err, All, refl, sym, ap, subst, ◌∙◌, arith, get_or}
use Rattle.std.specs.Prelude.{nat_le, nat_lt, ◌==◌, ◌||◌, is_some}
use Rattle.std.specs.List.Sorted.{IsNonDecreasingBy}
use Rattle.std.proofs.lemmas.List.{length-map, get_or-map}
use Rattle.std.proofs.lemmas.List.Elements.{All-nil, All-cons, All-head, All-tail, All-push, All-weaker, All-map, All-get_or}
use Rattle.std.proofs.lemmas.List.Sorted.{IsNonDecreasingBy-push}
use Rattle.std.proofs.lemmas.Bool.{eqb-true, eqb-false, cases_eq, ne_eqb}
use Rattle.std.proofs.lemmas.Bool.Decides.{nat_tests}
use Rattle.grammar_forms.specs.Forms.{any_byte, checked, measured, within, when◌form◌else◌}
use Rattle.wasm_ast.specs.Sections.{is_written}
use Rattle.wasm_ast.specs.Shape.{IsShort, IsReference, FuncTypeHasShape, InstrHasShape, SeqHasShape, ExprHasShape, KindHasShape, ImportHasShape, FuncHasShape, ModeHasShape, ElemHasShape, SegmentHasShape, CustomHasShape, HasShape}
use Rattle.wasm_ast.specs.declared.types.TableType.{TableType}
use Rattle.wasm_ast.specs.declared.instructions.Instr.TheVariants.{RefFunc}
use Rattle.wasm_ast.specs.declared.modules.GlobalDef.{GlobalDef}
use Rattle.wasm_ast.specs.declared.modules.Export.{Export}
use Rattle.wasm_ast.specs.declared.modules.Mode.{Mode}
use Rattle.wasm_ast.specs.declared.modules.Mode.TheVariants.{Declared}
use Rattle.wasm_ast.specs.declared.modules.Custom.{Custom}
use Rattle.wasm_ast.specs.declared.modules.Module.{Module}
use Rattle.wasm_binary.specs.Faults.{Fault, byte, order, count}
use Rattle.wasm_binary.specs.Values.{Grammar, u32, vec, name, tag}
use Rattle.wasm_binary.specs.Types.{func_type, limits, table_type, global_type, one_of}
use Rattle.wasm_binary.specs.SectionEntries.{constant, import_kind, import, global, export, flag_below, active_on, active, elem_mode, elem_kind, func_item, elem, data_mode, segment}
use Rattle.wasm_binary.specs.Locals.{Code, code}
use Rattle.wasm_binary.specs.Modules.{Sections, no_sections, slot_of, next_id, same_count, same_as_announced, custom, code_section, data_section, into, contents, section, sections, funcs_of, without_customs, last_written, settled, module_of, IsBinary}
use Rattle.wasm_binary.proofs.ShapeOfLists.{EachIsByte, AreFew, bytes_of, SpellsOnly, gives_only, then_only, any_only, checked_only, when_only, Any, AllShort, IsU32, u32_small, u32_only, AreMany, many_only, vec_only, name_only, ref_type_only, table_type_only, func_type_only}
use Rattle.wasm_ast.proofs.LaidSequences.{none_laid, numbered}
use Rattle.wasm_binary.proofs.ShapeOfExpressions.{expression_only}
use Rattle.wasm_binary.proofs.ShapeOfLocals.{CodeHasShape, code_only}
use Rattle.owi_base.proofs.Choices.{chosen, taken, passed}

-- ---- steps

lt_of : (a b : ℕ) → nat_lt a b ≡ true → a < b
lt_of a b e = grind (arith, nat_tests)

cond_le : (b : Bool) (x y n : ℕ) → x ≤ n → y ≤ n → cond b x y ≤ n
cond_le true x y n p q = p
cond_le false x y n p q = q

le_cond : (b : Bool) (x y n : ℕ) → n ≤ x → n ≤ y → n ≤ cond b x y
le_cond true x y n p q = p
le_cond false x y n p q = q

not_last : (id : ℕ) → id ≤ 12 → id ≢ 12 → slot_of id ≤ 12
not_last id le ne = rw (ne_eqb id 12 ne) (cond_le (nat_le 10 id) (id + 1) id 12 (omega arith) le)

measured_name : SpellsOnly (measured name) (λ (x : List ℕ × ℕ). IsShort x.0)
measured_name = record { each = λ x text few sp. name_only.each x.0 text few sp.0 }

by_test : (m : Module) (slot : ℕ) (b : Bool) → is_written m (suc slot) ≡ b → (last_written m slot ≡ 0) ⊎ (is_written m (last_written m slot) ≡ true)
    → (last_written m (suc slot) ≡ 0) ⊎ (is_written m (last_written m (suc slot)) ≡ true)
by_test m slot true e before =
    let here : last_written m (suc slot) ≡ suc slot = taken (is_written m (suc slot)) (suc slot) (last_written m slot) e in
    inr (ap (is_written m) here ∙ e)
by_test m slot false e before =
    let here : last_written m (suc slot) ≡ last_written m slot = passed (is_written m (suc slot)) (suc slot) (last_written m slot) e in
    let P : ℕ → Type 0 = λ k. (k ≡ 0) ⊎ (is_written m k ≡ true) in
    subst P (sym here) before

-- ---- the entries of sections

abbrev TableHasShape : TableType → Type 0
TableHasShape t = IsReference t.kind

import_kind_only : (b : ℕ) → SpellsOnly (import_kind b) KindHasShape
import_kind_only b =
    when_only KindHasShape (b == 0) _ _ (λ t. then_only Any KindHasShape (any_only u32) (λ ty any. gives_only KindHasShape _ tt)) (λ n0.
    when_only KindHasShape (b == 1) _ _ (λ t. then_only TableHasShape KindHasShape table_type_only (λ ty is. gives_only KindHasShape _ is)) (λ n1.
    when_only KindHasShape (b == 2) _ _ (λ t. then_only Any KindHasShape (any_only limits) (λ ty any. gives_only KindHasShape _ tt)) (λ n2.
    then_only Any KindHasShape (any_only global_type) (λ ty any. gives_only KindHasShape _ tt))))

import_only : SpellsOnly import ImportHasShape
import_only =
    then_only IsShort ImportHasShape name_only (λ from short.
    then_only IsShort ImportHasShape name_only (λ called also.
    then_only Any ImportHasShape (any_only (one_of 4)) (λ b any.
    then_only KindHasShape ImportHasShape (import_kind_only b) (λ kind is.
    gives_only ImportHasShape _ (record { module_short = short; name_short = also; kind = is })))))

abbrev GlobalHasShape : GlobalDef → Type 0
GlobalHasShape g = ExprHasShape g.init

global_only : SpellsOnly global GlobalHasShape
global_only =
    then_only Any GlobalHasShape (any_only global_type) (λ ty any.
    then_only ExprHasShape GlobalHasShape (expression_only true) (λ init is. gives_only GlobalHasShape _ is))

abbrev ExportHasShape : Export → Type 0
ExportHasShape e = IsShort e.name

export_only : SpellsOnly export ExportHasShape
export_only =
    then_only IsShort ExportHasShape name_only (λ called short.
    then_only Any ExportHasShape (any_only (one_of 4)) (λ b any.
    then_only Any ExportHasShape (any_only u32) (λ index also. gives_only ExportHasShape _ short)))

-- the mode of an element segment, and of a data segment
abbrev IsUsed : Mode → Type 0
IsUsed mode = (mode ≢ Declared) × ModeHasShape mode

active_on_only : (index : ℕ) → SpellsOnly (active_on index) IsUsed
active_on_only index = then_only ExprHasShape IsUsed (expression_only true) (λ offset is. gives_only IsUsed _ (λ e. cc, is))

active_only : SpellsOnly active IsUsed
active_only = then_only Any IsUsed (any_only u32) (λ index any. active_on_only index)

used : (f : Grammar Mode) → SpellsOnly f IsUsed → SpellsOnly f ModeHasShape
used f p = record { each = λ x text few s. (p.each x text few s).1 }

elem_mode_only : (flag : ℕ) → SpellsOnly (elem_mode flag) ModeHasShape
elem_mode_only flag =
    when_only ModeHasShape (flag == 0 || flag == 4) _ _ (λ t. used (active_on 0) (active_on_only 0)) (λ n0.
    when_only ModeHasShape (flag == 2 || flag == 6) _ _ (λ t. used active active_only) (λ n2.
    when_only ModeHasShape (flag == 1 || flag == 5) _ _ (λ t. gives_only ModeHasShape _ tt) (λ n1.
    gives_only ModeHasShape _ tt)))

elem_kind_only : (flag : ℕ) → SpellsOnly (elem_kind flag) IsReference
elem_kind_only flag =
    when_only IsReference (flag == 0 || flag == 4) _ _ (λ t. gives_only IsReference _ (inl refl)) (λ n0.
    when_only IsReference (nat_lt flag 4) _ _ (λ t. then_only Any IsReference (any_only (tag 0)) (λ b any. gives_only IsReference _ (inl refl))) (λ n4.
    ref_type_only))

func_item_shape : (f : ℕ) → ExprHasShape (record { seqs = (RefFunc f ∷ []) ∷ [] })
func_item_shape f = record {
  numbered = numbered (RefFunc f ∷ []) [] (none_laid 1);
  each = All-cons SeqHasShape (RefFunc f ∷ []) [] (record { each = All-cons InstrHasShape (RefFunc f) [] tt (All-nil InstrHasShape); short = omega arith }) (All-nil SeqHasShape);
  short = omega arith;
}

item_only : (flag : ℕ) → SpellsOnly (when nat_lt flag 4 form func_item else constant) ExprHasShape
item_only flag =
    when_only ExprHasShape (nat_lt flag 4) _ _ (λ t. then_only Any ExprHasShape (any_only u32) (λ f any. gives_only ExprHasShape _ (func_item_shape f))) (λ n4. expression_only true)

elem_only : SpellsOnly elem ElemHasShape
elem_only =
    then_only Any ElemHasShape (any_only (flag_below 8)) (λ flag any.
    then_only ModeHasShape ElemHasShape (elem_mode_only flag) (λ mode used.
    then_only IsReference ElemHasShape (elem_kind_only flag) (λ kind is.
    then_only (AllShort ExprHasShape) ElemHasShape (vec_only ExprHasShape (when nat_lt flag 4 form func_item else constant) (item_only flag)) (λ items are.
    gives_only ElemHasShape _ (record { kind = is; items = are.0; mode = used; short = are.1 })))))

data_mode_only : (flag : ℕ) → SpellsOnly (data_mode flag) IsUsed
data_mode_only flag =
    when_only IsUsed (flag == 0) _ _ (λ t. active_on_only 0) (λ n0.
    when_only IsUsed (flag == 1) _ _ (λ t. gives_only IsUsed _ (λ e. cc, tt)) (λ n1. active_only))

segment_only : SpellsOnly segment SegmentHasShape
segment_only =
    then_only Any SegmentHasShape (any_only (flag_below 3)) (λ flag any.
    then_only IsUsed SegmentHasShape (data_mode_only flag) (λ mode is.
    then_only (AllShort Any) SegmentHasShape (vec_only Any any_byte (any_only any_byte)) (λ bytes are.
    gives_only SegmentHasShape _ (record { not_declared = is.0; mode = is.1; short = are.1 }))))

-- ---- what the sections so far hold

record CustomIsAt (slot : ℕ) (c : Custom) : Type 0 where
  place : c.after ≤ slot
  name_short : IsShort c.name
  bytes_short : IsShort c.bytes

record SectionsHaveShape (s : Sections) : Type 0 where
  types : AllShort FuncTypeHasShape s.types
  imports : AllShort ImportHasShape s.imports
  type_indices : IsShort s.type_indices
  tables : AllShort TableHasShape s.tables
  memories : IsShort s.memories
  globals : AllShort GlobalHasShape s.globals
  exports : AllShort ExportHasShape s.exports
  elems : AllShort ElemHasShape s.elems
  segments : AllShort SegmentHasShape s.segments
  codes : All CodeHasShape s.codes
  customs : All (CustomIsAt s.slot) s.customs
  in_order : IsNonDecreasingBy (λ c. c.after) s.customs

none_in_order : IsNonDecreasingBy (λ c. c.after) (let l : List Custom = [] in l)
none_in_order i j d le lt = absurd (omega arith)

no_sections_have : SectionsHaveShape no_sections
no_sections_have = record {
  types = (All-nil FuncTypeHasShape, omega arith);
  imports = (All-nil ImportHasShape, omega arith);
  type_indices = omega arith;
  tables = (All-nil TableHasShape, omega arith);
  memories = omega arith;
  globals = (All-nil GlobalHasShape, omega arith);
  exports = (All-nil ExportHasShape, omega arith);
  elems = (All-nil ElemHasShape, omega arith);
  segments = (All-nil SegmentHasShape, omega arith);
  codes = All-nil CodeHasShape;
  customs = All-nil (CustomIsAt 0);
  in_order = none_in_order;
}

customs_later : (slot next : ℕ) (cs : List Custom) → slot ≤ next → All (CustomIsAt slot) cs → All (CustomIsAt next) cs
customs_later slot next cs le all =
    All-weaker (CustomIsAt slot) (CustomIsAt next) (λ c is. record { place = omega (arith, is.place); name_short = is.name_short; bytes_short = is.bytes_short }) cs all

-- the id is a custom section's, or its slot is later
abbrev IsNext : Sections → ℕ → Type 0
IsNext s id = (id ≤ 12) × ((id ≡ 0) ⊎ (s.slot < slot_of id))

abbrev id_ok : ℕ → Result ℕ (ℕ → Fault)
id_ok id = Ok id

next_is : (s : Sections) (x id : ℕ) → next_id s x ≡ Ok id → IsNext s id
next_is s x id e =
    elim (chosen (nat_lt 12 x) (Err byte) _ (id_ok id) e) [
      | inl past ↦ let both = past.1 in absurd cc
      | inr within ↦
          let test = within.0 in
          let le : x ≤ 12 = grind (arith, nat_tests) in
          elim (chosen (x == 0) (id_ok x) _ (id_ok id) within.1) [
            | inl first ↦
                let both = first.1 in
                let same : x ≡ id = cc in
                let none : x ≡ 0 = eqb-true x 0 first.0 in
                (omega arith, inl (sym same ∙ none))
            | inr other ↦
                elim (chosen (nat_lt s.slot (slot_of x)) (id_ok x) (Err order) (id_ok id) other.1) [
                  | inl later ↦
                      let both = later.1 in
                      let same : x ≡ id = cc in
                      let P : ℕ → Type 0 = λ k. IsNext s k in
                      subst P same (le, inr (lt_of s.slot (slot_of x) later.0))
                  | inr early ↦ let both = early.1 in absurd cc
                ]
          ]
    ]

slot_top : (id : ℕ) → id ≤ 12 → slot_of id ≤ 12
slot_top id le =
    elim (cases_eq id 12) [
      | inl same ↦ let P : ℕ → Type 0 = λ k. slot_of k ≤ 12 in subst P (sym same) (omega arith)
      | inr ne ↦ not_last id le ne
    ]

-- a section of this id, which isn't a custom one's, comes after those so far
at_slot : (s : Sections) (id k slot : ℕ) → (id == k) ≡ true → 0 < k → slot_of k ≡ slot → IsNext s id → s.slot ≤ slot
at_slot s id k slot test some is next =
    let same : id ≡ k = eqb-true id k test in
    elim next.1 [
      | inl none ↦ absurd (omega arith)
      | inr later ↦ let moved : s.slot < slot_of k = let P : ℕ → Type 0 = λ j. s.slot < slot_of j in subst P same later in omega (arith, is)
    ]

last_slot : (s : Sections) (id : ℕ) → (id == 0) ≡ false → IsNext s id → s.slot ≤ 12
last_slot s id some next =
    elim next.1 [
      | inl none ↦ absurd (eqb-false id 0 some none)
      | inr later ↦ omega (arith, slot_top id next.0)
    ]

-- ---- one section more

with_types : (s : Sections) → SectionsHaveShape s → s.slot ≤ 1 → (xs : _) → AllShort FuncTypeHasShape xs → SectionsHaveShape (record s { slot = 1; types = xs })
with_types s old le xs are = let later = customs_later s.slot 1 s.customs le old.customs in search (old, are, later)

with_imports : (s : Sections) → SectionsHaveShape s → s.slot ≤ 2 → (xs : _) → AllShort ImportHasShape xs → SectionsHaveShape (record s { slot = 2; imports = xs })
with_imports s old le xs are = let later = customs_later s.slot 2 s.customs le old.customs in search (old, are, later)

with_type_indices : (s : Sections) → SectionsHaveShape s → s.slot ≤ 3 → (xs : _) → IsShort xs → SectionsHaveShape (record s { slot = 3; type_indices = xs })
with_type_indices s old le xs are = let later = customs_later s.slot 3 s.customs le old.customs in search (old, are, later)

with_tables : (s : Sections) → SectionsHaveShape s → s.slot ≤ 4 → (xs : _) → AllShort TableHasShape xs → SectionsHaveShape (record s { slot = 4; tables = xs })
with_tables s old le xs are = let later = customs_later s.slot 4 s.customs le old.customs in search (old, are, later)

with_memories : (s : Sections) → SectionsHaveShape s → s.slot ≤ 5 → (xs : _) → IsShort xs → SectionsHaveShape (record s { slot = 5; memories = xs })
with_memories s old le xs are = let later = customs_later s.slot 5 s.customs le old.customs in search (old, are, later)

with_globals : (s : Sections) → SectionsHaveShape s → s.slot ≤ 6 → (xs : _) → AllShort GlobalHasShape xs → SectionsHaveShape (record s { slot = 6; globals = xs })
with_globals s old le xs are = let later = customs_later s.slot 6 s.customs le old.customs in search (old, are, later)

with_exports : (s : Sections) → SectionsHaveShape s → s.slot ≤ 7 → (xs : _) → AllShort ExportHasShape xs → SectionsHaveShape (record s { slot = 7; exports = xs })
with_exports s old le xs are = let later = customs_later s.slot 7 s.customs le old.customs in search (old, are, later)

with_elems : (s : Sections) → SectionsHaveShape s → s.slot ≤ 9 → (xs : _) → AllShort ElemHasShape xs → SectionsHaveShape (record s { slot = 9; elems = xs })
with_elems s old le xs are = let later = customs_later s.slot 9 s.customs le old.customs in search (old, are, later)

with_segments : (s : Sections) → SectionsHaveShape s → s.slot ≤ 12 → (xs : _) → AllShort SegmentHasShape xs → SectionsHaveShape (record s { slot = 12; segments = xs })
with_segments s old le xs are = let later = customs_later s.slot 12 s.customs le old.customs in search (old, are, later)

with_codes : (s : Sections) → SectionsHaveShape s → s.slot ≤ 11 → (xs : _) → All CodeHasShape xs → SectionsHaveShape (record s { slot = 11; codes = xs })
with_codes s old le xs are = let later = customs_later s.slot 11 s.customs le old.customs in search (old, are, later)

with_start : (s : Sections) → SectionsHaveShape s → s.slot ≤ 8 → (x : ℕ) → SectionsHaveShape (record s { slot = 8; start = Some x })
with_start s old le x = let later = customs_later s.slot 8 s.customs le old.customs in search (old, later)

with_data_count : (s : Sections) → SectionsHaveShape s → s.slot ≤ 10 → (x : ℕ) → SectionsHaveShape (record s { slot = 10; data_count = Some x })
with_data_count s old le x = let later = customs_later s.slot 10 s.customs le old.customs in search (old, later)

with_custom : (s : Sections) → SectionsHaveShape s → (c : Custom) → CustomIsAt s.slot c → c.after ≡ s.slot → SectionsHaveShape (record s { customs = s.customs ++ c ∷ [] })
with_custom s old c is after = record {
  types = old.types;
  imports = old.imports;
  type_indices = old.type_indices;
  tables = old.tables;
  memories = old.memories;
  globals = old.globals;
  exports = old.exports;
  elems = old.elems;
  segments = old.segments;
  codes = old.codes;
  customs = All-push (CustomIsAt s.slot) s.customs c old.customs is;
  in_order =
      IsNonDecreasingBy-push (λ c. c.after) s.customs c old.in_order (λ d some.
      let last = All-get_or (CustomIsAt s.slot) s.customs (length s.customs - 1) d (omega arith) old.customs in
      omega (arith, last.place, after));
}

-- ---- the contents of a section

custom_is : (slot len : ℕ) → len < 2 ^ 32 → SpellsOnly (custom slot len) (λ c. CustomIsAt slot c × (c.after ≡ slot))
custom_is slot len small =
    then_only (λ (x : List ℕ × ℕ). IsShort x.0) (λ c. CustomIsAt slot c × (c.after ≡ slot)) measured_name (λ called short.
    then_only (AreMany Any (len - called.1)) (λ c. CustomIsAt slot c × (c.after ≡ slot)) (many_only Any any_byte (len - called.1) (any_only any_byte)) (λ bytes are.
    gives_only (λ c. CustomIsAt slot c × (c.after ≡ slot)) _ (record { place = omega arith; name_short = short; bytes_short = omega (arith, are.1, small) }, refl)))

into_only : {A : Type 0} (P : A → Type 0) (f : Grammar A) (add : A → Sections) → SpellsOnly f P → ((x : A) → P x → SectionsHaveShape (add x)) → SpellsOnly (into f add) SectionsHaveShape
into_only P f add p q = then_only P SectionsHaveShape p (λ x is. gives_only SectionsHaveShape _ (q x is))

codes_only : (s : Sections) → SpellsOnly (code_section s) (All CodeHasShape)
codes_only s =
    then_only Any (All CodeHasShape) (any_only (checked u32 (same_count (length s.type_indices)))) (λ n any.
    record { each = λ xs text few sp. ((many_only CodeHasShape (code (is_some s.data_count)) n (code_only (is_some s.data_count))).each xs text few sp).0 })

announced_ok : (announced : Option ℕ) (n y : ℕ) → n < 2 ^ 32 → same_as_announced announced n ≡ Ok y → y < 2 ^ 32
announced_ok None n y small e = let both = e in let same : n ≡ y = cc in omega arith
announced_ok (Some k) n y small e =
    elim (chosen (n == k) (id_ok n) (Err (count k n)) (id_ok y) e) [
      | inl is ↦ let both = is.1 in let same : n ≡ y = cc in omega arith
      | inr other ↦ let both = other.1 in absurd cc
    ]

segments_only : (s : Sections) → SpellsOnly (data_section s) (AllShort SegmentHasShape)
segments_only s =
    then_only IsU32 (AllShort SegmentHasShape) (checked_only u32 (same_as_announced s.data_count) IsU32 IsU32 u32_only (λ n y small e. announced_ok s.data_count n y small e)) (λ n small.
    record { each = λ xs text few sp. let are = (many_only SegmentHasShape segment n segment_only).each xs text few sp in (are.0, omega (arith, are.1, small)) })

any_short : {A : Type 0} (f : Grammar A) → SpellsOnly (vec f) IsShort
any_short f = record { each = λ xs text few sp. ((vec_only Any f (any_only f)).each xs text few sp).1 }

contents_only : (s : Sections) (id len : ℕ) → SectionsHaveShape s → IsNext s id → len < 2 ^ 32 → SpellsOnly (contents s id len) SectionsHaveShape
contents_only s id len old next small =
    when_only SectionsHaveShape (id == 0) _ _ (λ t. into_only (λ c. CustomIsAt s.slot c × (c.after ≡ s.slot)) (custom s.slot len) _ (custom_is s.slot len small) (λ c is. with_custom s old c is.0 is.1)) (λ n0.
    when_only SectionsHaveShape (id == 1) _ _ (λ t. into_only (AllShort FuncTypeHasShape) (vec func_type) _ (vec_only FuncTypeHasShape func_type func_type_only) (λ xs are. with_types s old (at_slot s id 1 1 t (omega arith) refl next) xs are)) (λ n1.
    when_only SectionsHaveShape (id == 2) _ _ (λ t. into_only (AllShort ImportHasShape) (vec import) _ (vec_only ImportHasShape import import_only) (λ xs are. with_imports s old (at_slot s id 2 2 t (omega arith) refl next) xs are)) (λ n2.
    when_only SectionsHaveShape (id == 3) _ _ (λ t. into_only IsShort (vec u32) _ (any_short u32) (λ xs are. with_type_indices s old (at_slot s id 3 3 t (omega arith) refl next) xs are)) (λ n3.
    when_only SectionsHaveShape (id == 4) _ _ (λ t. into_only (AllShort TableHasShape) (vec table_type) _ (vec_only TableHasShape table_type table_type_only) (λ xs are. with_tables s old (at_slot s id 4 4 t (omega arith) refl next) xs are)) (λ n4.
    when_only SectionsHaveShape (id == 5) _ _ (λ t. into_only IsShort (vec limits) _ (any_short limits) (λ xs are. with_memories s old (at_slot s id 5 5 t (omega arith) refl next) xs are)) (λ n5.
    when_only SectionsHaveShape (id == 6) _ _ (λ t. into_only (AllShort GlobalHasShape) (vec global) _ (vec_only GlobalHasShape global global_only) (λ xs are. with_globals s old (at_slot s id 6 6 t (omega arith) refl next) xs are)) (λ n6.
    when_only SectionsHaveShape (id == 7) _ _ (λ t. into_only (AllShort ExportHasShape) (vec export) _ (vec_only ExportHasShape export export_only) (λ xs are. with_exports s old (at_slot s id 7 7 t (omega arith) refl next) xs are)) (λ n7.
    when_only SectionsHaveShape (id == 8) _ _ (λ t. into_only Any u32 _ (any_only u32) (λ x any. with_start s old (at_slot s id 8 8 t (omega arith) refl next) x)) (λ n8.
    when_only SectionsHaveShape (id == 9) _ _ (λ t. into_only (AllShort ElemHasShape) (vec elem) _ (vec_only ElemHasShape elem elem_only) (λ xs are. with_elems s old (at_slot s id 9 9 t (omega arith) refl next) xs are)) (λ n9.
    when_only SectionsHaveShape (id == 12) _ _ (λ t. into_only Any u32 _ (any_only u32) (λ x any. with_data_count s old (at_slot s id 12 10 t (omega arith) refl next) x)) (λ n12.
    when_only SectionsHaveShape (id == 10) _ _ (λ t. into_only (All CodeHasShape) (code_section s) _ (codes_only s) (λ xs are. with_codes s old (at_slot s id 10 11 t (omega arith) refl next) xs are)) (λ n10.
    into_only (AllShort SegmentHasShape) (data_section s) _ (segments_only s) (λ xs are. with_segments s old (last_slot s id n0 next) xs are)))))))))))))

-- a section, of whatever length all bytes are
section_only : (s t : Sections) (text : List ℕ) → EachIsByte text → SectionsHaveShape s → (section s).Spells t text → SectionsHaveShape t
section_only s t text bytes old sp =
    let next = next_is s sp.4.0 sp.0 sp.4.2 in
    let parts = bytes_of text sp.1 sp.2 sp.3 bytes in
    let q = sp.5 in
    let more = bytes_of sp.2 q.1 q.2 q.3 parts.1 in
    let small = u32_small q.0 q.1 more.0 q.4 in
    let few : AreFew q.2 = record { bytes = more.1; short = omega (arith, q.5.1, small) } in
    (contents_only s sp.0 q.0 old next small).each t q.2 few q.5.0

sections_only : (n : ℕ) (s t : Sections) (text : List ℕ) → EachIsByte text → SectionsHaveShape s → (sections n s).Spells t text → SectionsHaveShape t
sections_only zero s t text bytes old sp = subst SectionsHaveShape (sym sp.0) old
sections_only (suc n) s t text bytes old sp =
    let parts = bytes_of text sp.1 sp.2 sp.3 bytes in
    sections_only n sp.0 t sp.2 parts.1 (section_only s sp.0 sp.1 parts.0 old sp.4) sp.5

-- ---- the module

funcs_have : (types : List ℕ) (codes : List Code) → All CodeHasShape codes → All FuncHasShape (funcs_of types codes)
funcs_have [] codes all = All-nil FuncHasShape
funcs_have (ty ∷ types) [] all = All-nil FuncHasShape
funcs_have (ty ∷ types) (c ∷ codes) all =
    let head = All-head CodeHasShape c codes all in
    All-cons FuncHasShape _ (funcs_of types codes) (record { locals = head.locals; body = head.body }) (funcs_have types codes (All-tail CodeHasShape c codes all))

no_more_funcs : (types : List ℕ) (codes : List Code) → length (funcs_of types codes) ≤ length types
no_more_funcs [] codes = omega arith
no_more_funcs (ty ∷ types) [] = omega arith
no_more_funcs (ty ∷ types) (c ∷ codes) = omega (arith, no_more_funcs types codes)

last_is : (m : Module) (slot : ℕ) → (last_written m slot ≡ 0) ⊎ (is_written m (last_written m slot) ≡ true)
last_is m zero = inl refl
last_is m (suc slot) = by_test m slot (is_written m (suc slot)) refl (last_is m slot)

pub last_within : (m : Module) (slot : ℕ) → last_written m slot ≤ slot
last_within m zero = omega arith
last_within m (suc slot) = cond_le (is_written m (suc slot)) (suc slot) (last_written m slot) (suc slot) (omega arith) (omega (arith, last_within m slot))

last_step : (m : Module) (slot : ℕ) → last_written m slot ≤ last_written m (suc slot)
last_step m slot = le_cond (is_written m (suc slot)) (suc slot) (last_written m slot) (last_written m slot) (omega (arith, last_within m slot)) (omega arith)

last_rises : (m : Module) (a more : ℕ) → last_written m a ≤ last_written m (more + a)
last_rises m a zero = let same : 0 + a ≡ a = omega arith in rw same (omega arith)
last_rises m a (suc more) = let same : suc more + a ≡ suc (more + a) = omega arith in rw same (omega (arith, last_rises m a more, last_step m (more + a)))

last_monotone : (m : Module) (a b : ℕ) → a ≤ b → last_written m a ≤ last_written m b
last_monotone m a b le = let same : (b - a) + a ≡ b = omega arith in rw same at (last_rises m a (b - a))

settled_in_order : (m : Module) (cs : List Custom) → IsNonDecreasingBy (λ c. c.after) cs → IsNonDecreasingBy (λ c. c.after) (map (settled m) cs)
settled_in_order m cs sorted i j d le lt =
    let long : length (map (settled m) cs) ≡ length cs = length-map cs (settled m) in
    let first : i < length cs = omega arith in
    let second : j < length cs = omega arith in
    rw (get_or-map (settled m) cs i d d first, get_or-map (settled m) cs j d d second) (last_monotone m (get_or cs i d).after (get_or cs j d).after (sorted i j d le second))

custom_shape : (s : Sections) (c : Custom) → CustomIsAt s.slot c → CustomHasShape (module_of s) (settled (without_customs s) c)
custom_shape s c is = record { place = last_is (without_customs s) c.after; name_short = is.name_short; bytes_short = is.bytes_short }

module_shape : (s : Sections) → SectionsHaveShape s → length s.customs < 2 ^ 32 → HasShape (module_of s)
module_shape s have few = record {
  types = have.types.0;
  imports = have.imports.0;
  funcs = funcs_have s.type_indices s.codes have.codes;
  tables = have.tables.0;
  globals = have.globals.0;
  exports = have.exports.0;
  elems = have.elems.0;
  segments = have.segments.0;
  customs = record {
    each = All-map (CustomHasShape (module_of s)) (settled (without_customs s)) s.customs (All-weaker (CustomIsAt s.slot) (λ c. CustomHasShape (module_of s) (settled (without_customs s) c)) (λ c is. custom_shape s c is) s.customs have.customs);
    in_order = settled_in_order (without_customs s) s.customs have.in_order;
  };
  lists = record {
    types = have.types.1;
    imports = have.imports.1;
    funcs = omega (arith, no_more_funcs s.type_indices s.codes, have.type_indices);
    tables = have.tables.1;
    memories = have.memories;
    globals = have.globals.1;
    exports = have.exports.1;
    elems = have.elems.1;
    segments = have.segments.1;
    customs = omega (arith, length-map s.customs (settled (without_customs s)), few);
  };
}

-- the sections that bytes spell have their shape
spelled_have : (m : Module) (bytes : List ℕ) → EachIsByte bytes → (is : IsBinary m bytes) → SectionsHaveShape is.all
spelled_have m bytes are is =
    let sp = is.spelled in
    let parts = bytes_of bytes sp.1 sp.2 sp.3 are in
    sections_only is.section_count no_sections is.all sp.2 parts.1 no_sections_have sp.5

-- what bytes spell has its shape
pub binary_shape : (m : Module) (bytes : List ℕ) → EachIsByte bytes → IsBinary m bytes → length m.customs < 2 ^ 32 → HasShape m
binary_shape m bytes are is few =
    let P : Module → Type 0 = λ n. length n.customs < 2 ^ 32 in
    let less = subst P is.is few in
    subst HasShape (sym is.is) (module_shape is.all (spelled_have m bytes are is) (omega (arith, less, length-map is.all.customs (settled (without_customs is.all)))))

-- and without custom sections, however many there are
pub stripped_shape : (m : Module) (bytes : List ℕ) → EachIsByte bytes → IsBinary m bytes → HasShape (record m { customs = [] })
stripped_shape m bytes are is =
    let bare : Sections = record is.all { customs = [] } in
    subst (λ n. HasShape (record n { customs = [] })) (sym is.is) (module_shape bare (bare_have is.all (spelled_have m bytes are is)) (omega arith))
  where
    bare_have : (s : Sections) → SectionsHaveShape s → SectionsHaveShape (record s { customs = [] })
    bare_have s have = record {
      types = have.types;
      imports = have.imports;
      type_indices = have.type_indices;
      tables = have.tables;
      memories = have.memories;
      globals = have.globals;
      exports = have.exports;
      elems = have.elems;
      segments = have.segments;
      codes = have.codes;
      customs = All-nil (CustomIsAt s.slot);
      in_order = none_in_order;
    }

pub EachIsByte-from_get_or : (bytes : List ℕ) → ((i : ℕ) → get_or bytes i 0 < 256) → EachIsByte bytes
EachIsByte-from_get_or [] h = tt
EachIsByte-from_get_or (b ∷ bytes) h = (h 0, EachIsByte-from_get_or bytes (λ i. h (suc i)))

pub EachIsByte-from_all : (bytes : List ℕ) → All (λ b. b < 2 ^ 8) bytes → EachIsByte bytes
EachIsByte-from_all [] h = tt
EachIsByte-from_all (b ∷ bytes) h = (h 0 b (omega arith), EachIsByte-from_all bytes (λ i d lt. h (suc i) d (omega arith)))
