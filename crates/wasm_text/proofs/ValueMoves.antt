-- Forms of values and types end, one after another.
use Rattle.std.proofs.Common.{ℕ, zero, suc, ◌+◌, length, Bool, true, Option, Some, None, refl, arith}
use Rattle.std.specs.Prelude.{nat_le, codes}
use Rattle.std.specs.Str.{is_utf8}
use Rattle.wasm_text.specs.declared.bad.TextBad.TheVariants.{Utf8, Range, Outside, Locals}
use Rattle.wasm_text.specs.Integers.{Literal, NoNumber, OutOfRange, Number, count_of, integer_of}
use Rattle.wasm_text.specs.TokenForms.{Form, next_is, opens, is_word, is_open, is_string}
use Rattle.wasm_text.specs.TextValues.{out_of_range, literal, u32, integer, string, name, id, maybe_id, idx, idx_follows, table_idx}
use Rattle.wasm_text.specs.TextInstructions.{passed}
use Rattle.wasm_text.specs.TextTypes.{outside, told, ref_type, val_type, val_types, limits, table_type, mutable_type, global_type, param_part, params, result_part, result_parts, results, func_type, named_type, use_of, few, local_type, local_types_below, local_types, local_part, locals_below, locals}
use Rattle.wasm_text.proofs.FormLaws.{Moves, goes, after, before_taken, after_taken, below_taken, if_moves, gives_moves, fails_moves, source_moves, next_is_moves, next_word_moves, opens_moves, place_moves, want_moves, pass_moves, token_of_moves, opening_moves, closing_moves, keyword_moves, pass_two_moves, parts_end_moves, as_long_moves, keeps_moves}

-- ---- values

pub out_of_range_moves : {A : Type 0} (n : ℕ) → Moves n 1 (out_of_range {A = A})
out_of_range_moves n = before_taken (place_moves n) (λ at. fails_moves n 1 (Range at) refl)

pub passed_moves : {A : Type 0} (n : ℕ) (x : A) → Moves n 1 (passed x)
passed_moves n x = after_taken (pass_moves n) (λ _. gives_moves n _)

pub literal_moves : (n : ℕ) (l : Literal) → Moves n 1 (literal l)
literal_moves n NoNumber = want_moves n
literal_moves n OutOfRange = out_of_range_moves n
literal_moves n (Number k) = after_taken (pass_moves n) (λ _. gives_moves n _)

pub u32_moves : (n : ℕ) → Moves n 1 u32
u32_moves n = before_taken (next_word_moves n) (λ w. literal_moves n (count_of w))

pub integer_moves : (n bits : ℕ) → Moves n 1 (integer bits)
integer_moves n bits = before_taken (next_word_moves n) (λ w. literal_moves n (integer_of bits w))

pub string_moves : (n : ℕ) → Moves n 1 string
string_moves n = after_taken (token_of_moves n is_string) (λ t. after (source_moves n) (λ text. gives_moves n _))

pub name_moves : (n : ℕ) → Moves n 1 name
name_moves n = before_taken (place_moves n) (λ at. after_taken (string_moves n) (λ bytes. if_moves (is_utf8 bytes) (gives_moves n _) (fails_moves n 0 (Utf8 at) refl)))

pub id_moves : (n : ℕ) → Moves n 1 id
id_moves n = after_taken (pass_moves n) (λ t. gives_moves n _)

pub maybe_id_moves : (n : ℕ) → Moves n 0 maybe_id
maybe_id_moves n = after (next_word_moves n) (λ w. if_moves _ (goes (after_taken (id_moves n) (λ x. gives_moves n _))) (gives_moves n _))

pub idx_moves : (n : ℕ) → Moves n 1 idx
idx_moves n = before_taken (next_word_moves n) (λ w. if_moves _ (after_taken (id_moves n) (λ x. gives_moves n _)) (after_taken (u32_moves n) (λ x. gives_moves n _)))

pub idx_follows_moves : (n : ℕ) → Moves n 0 idx_follows
idx_follows_moves n = after (next_word_moves n) (λ w. gives_moves n _)

pub table_idx_moves : (n : ℕ) → Moves n 0 table_idx
table_idx_moves n = after (idx_follows_moves n) (λ more. if_moves more (goes (idx_moves n)) (gives_moves n _))

-- ---- types

pub outside_moves : {A : Type 0} (n : ℕ) → Moves n 1 (outside {A = A})
outside_moves n = before_taken (place_moves n) (λ at. fails_moves n 1 (Outside at) refl)

pub told_moves : {A : Type 0} (n : ℕ) (x : Option A) (other : Form A) → Moves n 1 other → Moves n 1 (told x other)
told_moves n None other p = p
told_moves n (Some x) other p = after_taken (pass_moves n) (λ _. gives_moves n _)

pub ref_type_moves : (n : ℕ) → Moves n 1 ref_type
ref_type_moves n = before_taken (next_word_moves n) (λ w. told_moves n _ _ (want_moves n))

pub val_type_moves : (n : ℕ) → Moves n 1 val_type
val_type_moves n = before_taken (next_word_moves n) (λ w. told_moves n _ _ (if_moves _ (outside_moves n) (want_moves n)))

pub val_types_moves : (n : ℕ) → Moves n 0 val_types
val_types_moves n = as_long_moves n (next_is is_word) val_type (λ m. next_is_moves m is_word) (λ m. val_type_moves m)

pub limits_moves : (n : ℕ) → Moves n 1 limits
limits_moves n =
    after_taken (u32_moves n) (λ min. after (next_word_moves n) (λ w. after (if_moves _ (goes (after_taken (u32_moves n) (λ k. gives_moves n _))) (gives_moves n _)) (λ max. gives_moves n _)))

pub table_type_moves : (n : ℕ) → Moves n 1 table_type
table_type_moves n = after_taken (limits_moves n) (λ size. after (goes (ref_type_moves n)) (λ kind. gives_moves n _))

mutable_type_moves : (n : ℕ) → Moves n 1 mutable_type
mutable_type_moves n =
    after_taken (opening_moves n) (λ _. after (goes (keyword_moves n _)) (λ _. after (goes (val_type_moves n)) (λ kind. after (goes (closing_moves n)) (λ _. gives_moves n _))))

pub global_type_moves : (n : ℕ) → Moves n 1 global_type
global_type_moves n = before_taken (next_is_moves n is_open) (λ opened. if_moves opened (mutable_type_moves n) (after_taken (val_type_moves n) (λ kind. gives_moves n _)))

param_part_moves : (n : ℕ) (with_ids : Bool) → Moves n 1 (param_part with_ids)
param_part_moves n with_ids =
    after_taken (pass_two_moves n) (λ _. after (next_word_moves n) (λ w. after
    (if_moves _ (after (maybe_id_moves n) (λ found. after (goes (val_type_moves n)) (λ kind. gives_moves n _))) (after (val_types_moves n) (λ kinds. gives_moves n _)))
    (λ ps. after (goes (closing_moves n)) (λ _. gives_moves n _))))

pub params_moves : (n : ℕ) (with_ids : Bool) → Moves n 0 (params with_ids)
params_moves n with_ids = after (as_long_moves n (opens (codes "param")) (param_part with_ids) (λ m. opens_moves m _) (λ m. param_part_moves m with_ids)) (λ parts. gives_moves n _)

result_part_moves : (n : ℕ) → Moves n 1 result_part
result_part_moves n = after_taken (pass_two_moves n) (λ _. after (val_types_moves n) (λ kinds. after (goes (closing_moves n)) (λ _. gives_moves n _)))

pub result_parts_moves : (n : ℕ) → Moves n 0 result_parts
result_parts_moves n = as_long_moves n (opens (codes "result")) result_part (λ m. opens_moves m _) (λ m. result_part_moves m)

pub results_moves : (n : ℕ) → Moves n 0 results
results_moves n = after (result_parts_moves n) (λ parts. gives_moves n _)

pub func_type_moves : (n : ℕ) → Moves n 1 func_type
func_type_moves n =
    after_taken (opening_moves n) (λ _. after (goes (keyword_moves n _)) (λ _. after (params_moves n true) (λ ps. after (results_moves n) (λ rs. after (goes (parts_end_moves n)) (λ _. gives_moves n _)))))

named_type_moves : (n : ℕ) → Moves n 1 named_type
named_type_moves n = after_taken (pass_two_moves n) (λ _. after (goes (idx_moves n)) (λ x. after (goes (closing_moves n)) (λ _. gives_moves n _)))

pub use_moves : (n : ℕ) (with_ids of_block : Bool) → Moves n 0 (use_of with_ids of_block)
use_moves n with_ids of_block =
    after (place_moves n) (λ at. after (after (opens_moves n _) (λ there. if_moves there (goes (named_type_moves n)) (gives_moves n _)))
    (λ ty. after (params_moves n with_ids) (λ ps. after (results_moves n) (λ rs. keeps_moves n _))))

-- ---- locals

few_moves : (n at sum : ℕ) → Moves n 0 (few at sum)
few_moves n at sum = if_moves (nat_le sum 50000) (gives_moves n _) (fails_moves n 0 (Locals sum at) refl)

local_type_moves : (n at before : ℕ) → Moves n 1 (local_type at before)
local_type_moves n at before = after_taken (val_type_moves n) (λ kind. after (few_moves n at _) (λ _. gives_moves n _))

local_types_below_moves : (n at before : ℕ) → Moves n 0 (local_types_below n at before)
local_types_below_moves zero at before = record { each = λ r below. absurd (omega arith) }
local_types_below_moves (suc n) at before =
    after (next_is_moves (suc n) is_word) (λ more. if_moves more
    (goes (below_taken (local_type_moves (suc n) at before) (λ kind. after (local_types_below_moves n at (before + 1)) (λ others. gives_moves n _))))
    (gives_moves (suc n) _))

local_types_moves : (n at before : ℕ) → Moves n 0 (local_types at before)
local_types_moves n at before = record { each = λ r below. (local_types_below_moves (suc (length r.tokens)) at before).each r (omega arith) }

local_part_moves : (n before : ℕ) → Moves n 1 (local_part before)
local_part_moves n before =
    before_taken (place_moves n) (λ at. after_taken (pass_two_moves n) (λ _. after (next_word_moves n) (λ w. after
    (if_moves _ (after (maybe_id_moves n) (λ found. after (goes (local_type_moves n at before)) (λ kind. gives_moves n _))) (local_types_moves n at before))
    (λ ls. after (goes (closing_moves n)) (λ _. gives_moves n _)))))

locals_below_moves : (n before : ℕ) → Moves n 0 (locals_below n before)
locals_below_moves zero before = record { each = λ r below. absurd (omega arith) }
locals_below_moves (suc n) before =
    after (opens_moves (suc n) _) (λ more. if_moves more
    (goes (below_taken (local_part_moves (suc n) before) (λ part. after (locals_below_moves n (before + length part)) (λ others. gives_moves n _))))
    (gives_moves (suc n) _))

pub locals_moves : (n : ℕ) → Moves n 0 locals
locals_moves n = record { each = λ r below. (locals_below_moves (suc (length r.tokens)) 0).each r (omega arith) }
