-- The forms of sections and of whole modules are lawful.
use Rattle.std.proofs.Common.{ℕ, zero, suc, ◌+◌, ◌-◌, List, [], ◌∷◌, length, Bool, true}
use Rattle.std.specs.Prelude.{◌==◌, ◌||◌, nat_lt, is_some}
use Rattle.grammar_forms.specs.Forms.{any_byte, checked, when◌form◌else◌}
use Rattle.grammar_forms.specs.Laws.{IsLawful, HasBytes}
use Rattle.grammar_forms.proofs.FormLaws.{after, gives_lawful, any_byte_lawful, any_byte_has_bytes, checked_lawful, measured_lawful, many_lawful, within_lawful, when_lawful, then_has_bytes, checked_has_bytes}
use Rattle.wasm_binary.specs.Faults.{Fault, size}
use Rattle.wasm_binary.specs.Values.{Grammar, u32, vec, name}
use Rattle.wasm_binary.specs.Types.{below, func_type, limits, table_type}
use Rattle.wasm_binary.specs.Locals.{few, group, groups, code_contents, code}
use Rattle.wasm_binary.specs.SectionEntries.{constant, import_kind, import, global, export, flag_below, active_on, active, elem_mode, elem_kind, func_item, elem, data_mode, segment}
use Rattle.wasm_binary.specs.Modules.{Sections, no_sections, next_id, same_count, same_as_announced, custom, code_section, data_section, into, contents, sized_contents, section, fixed_byte, fixed_bytes, front, sections, front_and_sections}
use Rattle.wasm_binary.proofs.GrammarLaws.{u32_lawful, tag_lawful, vec_lawful, name_lawful, bytes_lawful, ref_type_lawful, val_type_lawful, func_type_lawful, one_of_lawful, limits_lawful, table_type_lawful, global_type_lawful, expression_lawful}

-- ---- the code of a function

group_lawful : (n sum : ℕ) → IsLawful n (group sum)
group_lawful n sum = after (checked_lawful n u32 (few sum) (u32_lawful n)) (λ k. after (val_type_lawful n) (λ kind. gives_lawful n _))

groups_lawful : (n left sum : ℕ) → IsLawful n (groups left sum)
groups_lawful n zero sum = gives_lawful n _
groups_lawful n (suc left) sum = after (group_lawful n sum) (λ g. after (groups_lawful n left (sum + g.count)) (λ others. gives_lawful n _))

code_contents_lawful : (n : ℕ) (b : Bool) → IsLawful n (code_contents b)
code_contents_lawful n b = after (u32_lawful n) (λ k. after (groups_lawful n k 0) (λ all. after (expression_lawful n b) (λ body. gives_lawful n _)))

pub code_lawful : (n : ℕ) (b : Bool) → IsLawful n (code b)
code_lawful n b = after (u32_lawful n) (λ len. within_lawful n size len (code_contents b) (code_contents_lawful n b))

-- ---- the entries of the other sections

constant_lawful : (n : ℕ) → IsLawful n constant
constant_lawful n = expression_lawful n true

import_kind_lawful : (n b : ℕ) → IsLawful n (import_kind b)
import_kind_lawful n b =
    when_lawful n (b == 0) _ _ (after (u32_lawful n) (λ ty. gives_lawful n _)) (
    when_lawful n (b == 1) _ _ (after (table_type_lawful n) (λ ty. gives_lawful n _)) (
    when_lawful n (b == 2) _ _ (after (limits_lawful n) (λ ty. gives_lawful n _)) (
    after (global_type_lawful n) (λ ty. gives_lawful n _))))

import_lawful : (n : ℕ) → IsLawful n import
import_lawful n = after (name_lawful n) (λ from. after (name_lawful n) (λ called. after (one_of_lawful n 4) (λ b. after (import_kind_lawful n b) (λ kind. gives_lawful n _))))

global_lawful : (n : ℕ) → IsLawful n global
global_lawful n = after (global_type_lawful n) (λ ty. after (constant_lawful n) (λ init. gives_lawful n _))

export_lawful : (n : ℕ) → IsLawful n export
export_lawful n = after (name_lawful n) (λ called. after (one_of_lawful n 4) (λ b. after (u32_lawful n) (λ index. gives_lawful n _)))

flag_lawful : (n bound : ℕ) → IsLawful n (flag_below bound)
flag_lawful n bound = checked_lawful n u32 (below bound) (u32_lawful n)

active_on_lawful : (n index : ℕ) → IsLawful n (active_on index)
active_on_lawful n index = after (constant_lawful n) (λ offset. gives_lawful n _)

active_lawful : (n : ℕ) → IsLawful n active
active_lawful n = after (u32_lawful n) (λ index. active_on_lawful n index)

elem_mode_lawful : (n flag : ℕ) → IsLawful n (elem_mode flag)
elem_mode_lawful n flag =
    when_lawful n (flag == 0 || flag == 4) _ _ (active_on_lawful n 0) (
    when_lawful n (flag == 2 || flag == 6) _ _ (active_lawful n) (
    when_lawful n (flag == 1 || flag == 5) _ _ (gives_lawful n _) (
    gives_lawful n _)))

elem_kind_lawful : (n flag : ℕ) → IsLawful n (elem_kind flag)
elem_kind_lawful n flag =
    when_lawful n (flag == 0 || flag == 4) _ _ (gives_lawful n _) (
    when_lawful n (nat_lt flag 4) _ _ (after (tag_lawful n 0) (λ _. gives_lawful n _)) (
    ref_type_lawful n))

func_item_lawful : (n : ℕ) → IsLawful n func_item
func_item_lawful n = after (u32_lawful n) (λ f. gives_lawful n _)

elem_lawful : (n : ℕ) → IsLawful n elem
elem_lawful n =
    after (flag_lawful n 8) (λ flag. after (elem_mode_lawful n flag) (λ mode. after (elem_kind_lawful n flag) (λ kind.
    after (vec_lawful n (when nat_lt flag 4 form func_item else constant) (when_lawful n (nat_lt flag 4) func_item constant (func_item_lawful n) (constant_lawful n))) (λ items. gives_lawful n _))))

data_mode_lawful : (n flag : ℕ) → IsLawful n (data_mode flag)
data_mode_lawful n flag = when_lawful n (flag == 0) _ _ (active_on_lawful n 0) (when_lawful n (flag == 1) _ _ (gives_lawful n _) (active_lawful n))

segment_lawful : (n : ℕ) → IsLawful n segment
segment_lawful n = after (flag_lawful n 3) (λ flag. after (data_mode_lawful n flag) (λ mode. after (bytes_lawful n) (λ bytes. gives_lawful n _)))

-- ---- sections

custom_lawful : (n slot len : ℕ) → IsLawful n (custom slot len)
custom_lawful n slot len =
    after (measured_lawful n name (name_lawful n)) (λ called. after (many_lawful n any_byte (any_byte_lawful n) (len - called.1)) (λ bytes. gives_lawful n _))

code_section_lawful : (n : ℕ) (s : Sections) → IsLawful n (code_section s)
code_section_lawful n s =
    after (checked_lawful n u32 (same_count (length s.type_indices)) (u32_lawful n)) (λ k. many_lawful n (code (is_some s.data_count)) (code_lawful n (is_some s.data_count)) k)

data_section_lawful : (n : ℕ) (s : Sections) → IsLawful n (data_section s)
data_section_lawful n s =
    after (checked_lawful n u32 (same_as_announced s.data_count) (u32_lawful n)) (λ k. many_lawful n segment (segment_lawful n) k)

into_lawful : {A : Type 0} (n : ℕ) (f : Grammar A) (add : A → Sections) → IsLawful n f → IsLawful n (into f add)
into_lawful n f add p = after p (λ x. gives_lawful n _)

contents_lawful : (n : ℕ) (s : Sections) (id len : ℕ) → IsLawful n (contents s id len)
contents_lawful n s id len =
    when_lawful n (id == 0) _ _ (into_lawful n (custom s.slot len) _ (custom_lawful n s.slot len)) (
    when_lawful n (id == 1) _ _ (into_lawful n (vec func_type) _ (vec_lawful n func_type (func_type_lawful n))) (
    when_lawful n (id == 2) _ _ (into_lawful n (vec import) _ (vec_lawful n import (import_lawful n))) (
    when_lawful n (id == 3) _ _ (into_lawful n (vec u32) _ (vec_lawful n u32 (u32_lawful n))) (
    when_lawful n (id == 4) _ _ (into_lawful n (vec table_type) _ (vec_lawful n table_type (table_type_lawful n))) (
    when_lawful n (id == 5) _ _ (into_lawful n (vec limits) _ (vec_lawful n limits (limits_lawful n))) (
    when_lawful n (id == 6) _ _ (into_lawful n (vec global) _ (vec_lawful n global (global_lawful n))) (
    when_lawful n (id == 7) _ _ (into_lawful n (vec export) _ (vec_lawful n export (export_lawful n))) (
    when_lawful n (id == 8) _ _ (into_lawful n u32 _ (u32_lawful n)) (
    when_lawful n (id == 9) _ _ (into_lawful n (vec elem) _ (vec_lawful n elem (elem_lawful n))) (
    when_lawful n (id == 12) _ _ (into_lawful n u32 _ (u32_lawful n)) (
    when_lawful n (id == 10) _ _ (into_lawful n (code_section s) _ (code_section_lawful n s)) (
    into_lawful n (data_section s) _ (data_section_lawful n s)))))))))))))

pub section_lawful : (n : ℕ) (s : Sections) → IsLawful n (section s)
section_lawful n s =
    after (checked_lawful n any_byte (next_id s) (any_byte_lawful n)) (λ id. after (u32_lawful n) (λ len. within_lawful n size len (contents s id len) (contents_lawful n s id len)))

pub section_has_bytes : (s : Sections) → HasBytes (section s)
section_has_bytes s = then_has_bytes (checked any_byte (next_id s)) (sized_contents s) (checked_has_bytes any_byte (next_id s) (any_byte_has_bytes Fault))

-- ---- modules

fixed_bytes_lawful : (n : ℕ) (bytes : List ℕ) → IsLawful n (fixed_bytes bytes)
fixed_bytes_lawful n [] = gives_lawful n _
fixed_bytes_lawful n (b ∷ rest) = after (checked_lawful n any_byte (fixed_byte b) (any_byte_lawful n)) (λ _. fixed_bytes_lawful n rest)

pub front_lawful : (n : ℕ) → IsLawful n front
front_lawful n = fixed_bytes_lawful n (0x00 ∷ 0x61 ∷ 0x73 ∷ 0x6D ∷ 0x01 ∷ 0x00 ∷ 0x00 ∷ 0x00 ∷ [])

pub sections_lawful : (n k : ℕ) (s : Sections) → IsLawful n (sections k s)
sections_lawful n zero s = gives_lawful n _
sections_lawful n (suc k) s = after (section_lawful n s) (λ more. sections_lawful n k more)

pub front_and_sections_lawful : (n k : ℕ) → IsLawful n (front_and_sections k)
front_and_sections_lawful n k = after (front_lawful n) (λ _. sections_lawful n k no_sections)
