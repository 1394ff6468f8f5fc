-- Forms of fields and modules end.
use Rattle.std.proofs.Common.{ℕ, zero, suc, length, true, false, List, Option, Some, None, arith}
use Rattle.std.specs.Prelude.{codes, bytes_eq}
use Rattle.wasm_ast.specs.declared.modules.Space.{Space}
use Rattle.wasm_ast.specs.declared.modules.Space.TheVariants as space
use Rattle.wasm_text.specs.declared.tokens.Token.{Token}
use Rattle.wasm_text.specs.declared.named.Id.{Id}
use Rattle.wasm_text.specs.declared.named.WrittenMode.{WrittenMode}
use Rattle.wasm_text.specs.declared.named.Named.{Named}
use Rattle.wasm_text.specs.Integers.{count_of}
use Rattle.wasm_text.specs.TokenForms.{next_is, opens, is_open, is_string}
use Rattle.wasm_text.specs.TextValues.{string, idx, idx_follows, is_number}
use Rattle.wasm_text.specs.TextTypes.{ref_type_word, func_use}
use Rattle.wasm_text.specs.TextFields.{has_definition, inline_name, inline_exports, two_names, import_word, inline_import, type_field, imported_of, space_of, space_word_from, space_word, import_field, importing, func_definition, func_field, wrapped, item, items, func_items, entries, elem_word, table_with_elements, is_ref_type, table_here, table_field, strings, memory_with_data, memory_definition, memory_field, global_definition, global_field, export_field, start_field, Elements, funcs_of, func_list, item_list, elem_list, list_or_indices, elem_end, index_inside, active_elem, unopened_elem, elem_field, active_mode, data_field, field_of, field, fields_below, fields, no_fields, ends_with, ended, module_form}
use Rattle.wasm_text.proofs.FormLaws.{Moves, goes, after, before_taken, after_taken, below_taken, if_moves, gives_moves, ahead_moves, next_is_moves, next_word_moves, word_inside_moves, opens_moves, place_moves, want_moves, pass_moves, opening_moves, closing_moves, pass_two_moves, unfit_moves, parts_end_moves, as_long_moves}
use Rattle.wasm_text.proofs.ValueMoves.{string_moves, name_moves, maybe_id_moves, idx_moves, idx_follows_moves, ref_type_moves, limits_moves, table_type_moves, global_type_moves, func_type_moves, use_moves, locals_moves}
use Rattle.wasm_text.proofs.InstructionMoves.{instructions_moves, one_folded_moves}

-- ---- exports and imports inside a definition

inline_name_moves : (n : ℕ) → Moves n 1 inline_name
inline_name_moves n = after_taken (pass_two_moves n) (λ _. after (goes (name_moves n)) (λ text. after (goes (closing_moves n)) (λ _. gives_moves n _)))

exports_moves : (n : ℕ) (what : Space) (index : ℕ) (m : Named) → Moves n 0 (inline_exports what index m)
exports_moves n what index m =
    after (as_long_moves n (opens (codes "export")) inline_name (λ k. opens_moves k _) (λ k. inline_name_moves k)) (λ texts. gives_moves n _)

two_names_moves : (n : ℕ) → Moves n 0 two_names
two_names_moves n = after (goes (name_moves n)) (λ from. after (goes (name_moves n)) (λ own. gives_moves n _))

import_word_moves : (n : ℕ) (m : Named) → Moves n 1 (import_word m)
import_word_moves n m = if_moves (has_definition m) (want_moves n) (pass_moves n)

func_use_moves : (n : ℕ) → Moves n 0 func_use
func_use_moves n = use_moves n true false

imported_of_moves : (n : ℕ) (what : Space) → Moves n 0 (imported_of what)
imported_of_moves n space.Func = after (func_use_moves n) (λ ty. after (goes (parts_end_moves n)) (λ _. gives_moves n _))
imported_of_moves n space.Table = after (goes (table_type_moves n)) (λ ty. after (goes (closing_moves n)) (λ _. gives_moves n _))
imported_of_moves n space.Memory = after (goes (limits_moves n)) (λ ty. after (goes (closing_moves n)) (λ _. gives_moves n _))
imported_of_moves n space.Global = after (goes (global_type_moves n)) (λ ty. after (goes (closing_moves n)) (λ _. gives_moves n _))

space_from_moves : (n : ℕ) (what : Option Space) → Moves n 0 (space_word_from what)
space_from_moves n None = goes (want_moves n)
space_from_moves n (Some what) = after (goes (pass_moves n)) (λ _. gives_moves n _)

space_word_moves : (n : ℕ) → Moves n 0 space_word
space_word_moves n = after (next_word_moves n) (λ w. space_from_moves n (space_of w))

import_field_moves : (n : ℕ) (m : Named) → Moves n 0 (import_field m)
import_field_moves n m =
    after (goes (import_word_moves n m)) (λ _. after (two_names_moves n) (λ from. after (goes (opening_moves n)) (λ _. after (space_word_moves n)
    (λ what. after (maybe_id_moves n) (λ id. after (imported_of_moves n what) (λ kind. after (goes (closing_moves n)) (λ _. gives_moves n _)))))))

inline_import_moves : (n : ℕ) (m : Named) → Moves n 0 (inline_import m)
inline_import_moves n m =
    after (goes (pass_moves n)) (λ _. after (goes (import_word_moves n m)) (λ _. after (two_names_moves n) (λ from. after (goes (closing_moves n)) (λ _. gives_moves n _))))

importing_moves : (n : ℕ) (what : Space) (id : Option Id) (m : Named) → Moves n 0 (importing what id m)
importing_moves n what id m = after (inline_import_moves n m) (λ from. after (imported_of_moves n what) (λ kind. gives_moves n _))

-- ---- types, functions

type_field_moves : (n : ℕ) (m : Named) → Moves n 0 (type_field m)
type_field_moves n m =
    after (goes (pass_moves n)) (λ _. after (maybe_id_moves n) (λ id. after (goes (func_type_moves n)) (λ ty. after (goes (closing_moves n)) (λ _. gives_moves n _))))

func_definition_moves : (n : ℕ) (id : Option Id) (m : Named) → Moves n 0 (func_definition id m)
func_definition_moves n id m =
    after (func_use_moves n) (λ ty. after (locals_moves n) (λ own. after (instructions_moves n) (λ body. after (goes (closing_moves n)) (λ _. gives_moves n _))))

func_field_moves : (n : ℕ) (m : Named) → Moves n 0 (func_field m)
func_field_moves n m =
    after (goes (pass_moves n)) (λ _. after (maybe_id_moves n) (λ id. after (exports_moves n _ _ m) (λ with_exports.
    after (opens_moves n _) (λ there. if_moves there (importing_moves n space.Func id with_exports) (func_definition_moves n id with_exports)))))

-- ---- tables

wrapped_moves : (n : ℕ) (word : List ℕ) → Moves n 1 (wrapped word)
wrapped_moves n word =
    before_taken (opens_moves n word) (λ there. if_moves there
    (after_taken (pass_two_moves n) (λ _. after (instructions_moves n) (λ e. after (goes (closing_moves n)) (λ _. gives_moves n _)))) (one_folded_moves n))

items_moves : (n : ℕ) → Moves n 0 items
items_moves n = as_long_moves n (next_is is_open) item (λ k. next_is_moves k is_open) (λ k. wrapped_moves k _)

func_items_moves : (n : ℕ) → Moves n 0 func_items
func_items_moves n = after (as_long_moves n idx_follows idx (λ k. idx_follows_moves k) (λ k. idx_moves k)) (λ xs. gives_moves n _)

entries_moves : (n : ℕ) → Moves n 0 entries
entries_moves n = after (next_is_moves n is_open) (λ opened. if_moves opened (items_moves n) (func_items_moves n))

elem_word_moves : (n : ℕ) → Moves n 0 elem_word
elem_word_moves n = after (opens_moves n _) (λ there. if_moves there (goes (pass_two_moves n)) (goes (unfit_moves n)))

with_elements_moves : (n : ℕ) (id : Option Id) (m : Named) → Moves n 0 (table_with_elements id m)
with_elements_moves n id m =
    after (goes (ref_type_moves n)) (λ kind. after (elem_word_moves n) (λ _. after (entries_moves n) (λ all. after (goes (closing_moves n)) (λ _. after (goes (closing_moves n)) (λ _. gives_moves n _)))))

table_here_moves : (n : ℕ) (id : Option Id) (m : Named) → Moves n 0 (table_here id m)
table_here_moves n id m =
    after (next_word_moves n) (λ w. if_moves (is_ref_type (ref_type_word w)) (with_elements_moves n id m)
    (if_moves (is_number (count_of w)) (after (goes (table_type_moves n)) (λ ty. after (goes (closing_moves n)) (λ _. gives_moves n _))) (goes (unfit_moves n))))

table_field_moves : (n : ℕ) (m : Named) → Moves n 0 (table_field m)
table_field_moves n m =
    after (goes (pass_moves n)) (λ _. after (maybe_id_moves n) (λ id. after (exports_moves n _ _ m) (λ with_exports.
    after (opens_moves n _) (λ there. if_moves there (importing_moves n space.Table id with_exports) (table_here_moves n id with_exports)))))

-- ---- memories, globals

strings_moves : (n : ℕ) → Moves n 0 strings
strings_moves n = after (as_long_moves n (next_is is_string) string (λ k. next_is_moves k is_string) (λ k. string_moves k)) (λ parts. gives_moves n _)

memory_with_data_moves : (n : ℕ) (id : Option Id) (m : Named) → Moves n 0 (memory_with_data id m)
memory_with_data_moves n id m =
    after (goes (pass_two_moves n)) (λ _. after (strings_moves n) (λ bytes. after (goes (closing_moves n)) (λ _. after (goes (closing_moves n)) (λ _. gives_moves n _))))

memory_definition_moves : (n : ℕ) (id : Option Id) (m : Named) → Moves n 0 (memory_definition id m)
memory_definition_moves n id m =
    after (next_word_moves n) (λ w. if_moves (is_number (count_of w)) (after (goes (limits_moves n)) (λ ty. after (goes (closing_moves n)) (λ _. gives_moves n _))) (goes (unfit_moves n)))

memory_field_moves : (n : ℕ) (m : Named) → Moves n 0 (memory_field m)
memory_field_moves n m =
    after (goes (pass_moves n)) (λ _. after (maybe_id_moves n) (λ id. after (exports_moves n _ _ m) (λ with_exports.
    after (word_inside_moves n) (λ w. if_moves (bytes_eq w (codes "import")) (importing_moves n space.Memory id with_exports)
    (if_moves (bytes_eq w (codes "data")) (memory_with_data_moves n id with_exports) (memory_definition_moves n id with_exports))))))

global_definition_moves : (n : ℕ) (id : Option Id) (m : Named) → Moves n 0 (global_definition id m)
global_definition_moves n id m =
    after (goes (global_type_moves n)) (λ ty. after (instructions_moves n) (λ init. after (goes (closing_moves n)) (λ _. gives_moves n _)))

global_field_moves : (n : ℕ) (m : Named) → Moves n 0 (global_field m)
global_field_moves n m =
    after (goes (pass_moves n)) (λ _. after (maybe_id_moves n) (λ id. after (exports_moves n _ _ m) (λ with_exports.
    after (opens_moves n _) (λ there. if_moves there (importing_moves n space.Global id with_exports) (global_definition_moves n id with_exports)))))

-- ---- exports, starts, segments

export_field_moves : (n : ℕ) (m : Named) → Moves n 0 (export_field m)
export_field_moves n m =
    after (goes (pass_moves n)) (λ _. after (goes (name_moves n)) (λ text. after (goes (opening_moves n)) (λ _. after (space_word_moves n)
    (λ what. after (goes (idx_moves n)) (λ x. after (goes (closing_moves n)) (λ _. after (goes (closing_moves n)) (λ _. gives_moves n _)))))))

start_field_moves : (n at : ℕ) (m : Named) → Moves n 0 (start_field at m)
start_field_moves n at m = after (goes (pass_moves n)) (λ _. after (goes (idx_moves n)) (λ x. after (goes (closing_moves n)) (λ _. gives_moves n _)))

funcs_of_moves : (n : ℕ) → Moves n 0 funcs_of
funcs_of_moves n = after (func_items_moves n) (λ all. gives_moves n _)

func_list_moves : (n : ℕ) → Moves n 0 func_list
func_list_moves n = after (goes (pass_moves n)) (λ _. funcs_of_moves n)

item_list_moves : (n : ℕ) → Moves n 0 item_list
item_list_moves n = after (goes (ref_type_moves n)) (λ kind. after (items_moves n) (λ all. gives_moves n _))

elem_list_moves : (n : ℕ) → Moves n 0 elem_list
elem_list_moves n = after (next_word_moves n) (λ w. if_moves (bytes_eq w (codes "func")) (func_list_moves n) (item_list_moves n))

list_or_indices_moves : (n : ℕ) → Moves n 0 list_or_indices
list_or_indices_moves n =
    after (next_word_moves n) (λ w. if_moves (bytes_eq w (codes "func")) (func_list_moves n) (if_moves (is_ref_type (ref_type_word w)) (item_list_moves n) (funcs_of_moves n)))

elem_end_moves : (n : ℕ) (id : Option Id) (mode : WrittenMode) (e : Elements) (m : Named) → Moves n 0 (elem_end id mode e m)
elem_end_moves n id mode e m = after (goes (closing_moves n)) (λ _. gives_moves n _)

index_inside_moves : (n : ℕ) → Moves n 0 index_inside
index_inside_moves n = after (goes (pass_two_moves n)) (λ _. after (goes (idx_moves n)) (λ x. after (goes (closing_moves n)) (λ _. gives_moves n _)))

active_elem_moves : (n : ℕ) (id : Option Id) (m : Named) → Moves n 0 (active_elem id m)
active_elem_moves n id m =
    after (opens_moves n _) (λ there. if_moves there
    (after (index_inside_moves n) (λ x. after (goes (wrapped_moves n _)) (λ start. after (elem_list_moves n) (λ e. elem_end_moves n id _ e m))))
    (after (goes (wrapped_moves n _)) (λ start. after (list_or_indices_moves n) (λ e. elem_end_moves n id _ e m))))

unopened_elem_moves : (n : ℕ) (id : Option Id) (m : Named) → Moves n 0 (unopened_elem id m)
unopened_elem_moves n id m =
    after (next_word_moves n) (λ w. if_moves (bytes_eq w (codes "declare"))
    (after (goes (pass_moves n)) (λ _. after (elem_list_moves n) (λ e. elem_end_moves n id _ e m)))
    (after (elem_list_moves n) (λ e. elem_end_moves n id _ e m)))

elem_field_moves : (n : ℕ) (m : Named) → Moves n 0 (elem_field m)
elem_field_moves n m =
    after (goes (pass_moves n)) (λ _. after (maybe_id_moves n) (λ id. after (next_is_moves n is_open) (λ opened. if_moves opened (active_elem_moves n id m) (unopened_elem_moves n id m))))

active_mode_moves : (n : ℕ) → Moves n 0 active_mode
active_mode_moves n =
    after (after (opens_moves n _) (λ there. if_moves there (index_inside_moves n) (gives_moves n _))) (λ x. after (goes (wrapped_moves n _)) (λ start. gives_moves n _))

data_field_moves : (n : ℕ) (m : Named) → Moves n 0 (data_field m)
data_field_moves n m =
    after (goes (pass_moves n)) (λ _. after (maybe_id_moves n) (λ id. after (next_is_moves n is_open) (λ opened. after (if_moves opened (active_mode_moves n) (gives_moves n _))
    (λ mode. after (strings_moves n) (λ bytes. after (goes (closing_moves n)) (λ _. gives_moves n _))))))

-- ---- fields and modules

field_of_moves : (n : ℕ) (w : List ℕ) (at : ℕ) (m : Named) → Moves n 0 (field_of w at m)
field_of_moves n w at m =
    if_moves (bytes_eq w (codes "type")) (type_field_moves n m)
    (if_moves (bytes_eq w (codes "import")) (import_field_moves n m)
    (if_moves (bytes_eq w (codes "func")) (func_field_moves n m)
    (if_moves (bytes_eq w (codes "table")) (table_field_moves n m)
    (if_moves (bytes_eq w (codes "memory")) (memory_field_moves n m)
    (if_moves (bytes_eq w (codes "global")) (global_field_moves n m)
    (if_moves (bytes_eq w (codes "export")) (export_field_moves n m)
    (if_moves (bytes_eq w (codes "start")) (start_field_moves n at m)
    (if_moves (bytes_eq w (codes "elem")) (elem_field_moves n m)
    (if_moves (bytes_eq w (codes "data")) (data_field_moves n m) (goes (want_moves n)))))))))))

field_moves : (n : ℕ) (m : Named) → Moves n 1 (field m)
unfolding field
field_moves n m = before_taken (place_moves n) (λ at. after_taken (opening_moves n) (λ _. after (next_word_moves n) (λ w. field_of_moves n w at m)))

fields_below_moves : (n : ℕ) (m : Named) → Moves n 0 (fields_below n m)
fields_below_moves zero m = record { each = λ r below. absurd (omega arith) }
fields_below_moves (suc n) m =
    after (next_is_moves (suc n) is_open) (λ more. if_moves more (goes (below_taken (field_moves (suc n) m) (λ next. fields_below_moves n next))) (gives_moves (suc n) m))

fields_moves : (n : ℕ) → Moves n 0 fields
fields_moves n = record { each = λ r below. (fields_below_moves (suc (length r.tokens)) no_fields).each r (omega arith) }

ends_with_moves : {A : Type 0} (n : ℕ) (x : A) (t : Option Token) → Moves n 0 (ends_with x t)
ends_with_moves n x None = gives_moves n x
ends_with_moves n x (Some t) = goes (want_moves n)

ended_moves : {A : Type 0} (n : ℕ) (x : A) → Moves n 0 (ended x)
ended_moves n x = after (ahead_moves n) (λ t. ends_with_moves n x t)

pub module_moves : (n : ℕ) → Moves n 0 module_form
unfolding module_form
module_moves n =
    after (opens_moves n _) (λ there. if_moves there
    (after (goes (pass_two_moves n)) (λ _. after (maybe_id_moves n) (λ id. after (fields_moves n) (λ m. after (goes (closing_moves n)) (λ _. ended_moves n m)))))
    (after (fields_moves n) (λ m. ended_moves n m)))
