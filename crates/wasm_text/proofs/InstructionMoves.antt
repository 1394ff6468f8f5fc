-- Forms of instructions end: what is inside a form has fewer tokens than the form.
use Rattle.std.proofs.Common.{ℕ, zero, suc, ◌+◌, length, true, false, List, [], Option, Some, None, arith}
use Rattle.std.specs.Prelude.{codes, drop}
use Rattle.wasm_ast.specs.declared.instructions.Instr.{Instr}
use Rattle.wasm_ast.specs.declared.instructions.Instr.TheVariants as instr
use Rattle.wasm_text.specs.declared.named.Id.{Id}
use Rattle.wasm_text.specs.declared.named.OneIndex.{OneIndex}
use Rattle.wasm_text.specs.declared.named.Written.{Written}
use Rattle.wasm_text.specs.declared.named.Written.TheVariants as written
use Rattle.wasm_text.specs.declared.keywords.Keyword.{Keyword}
use Rattle.wasm_text.specs.declared.keywords.Keyword.TheVariants.{Alone, Index, TableIndex, Load, Store, Const32, Const64, BrTable, CallIndirect, RefNull, Select, TableInit, TableCopy, Block, Loop, If}
use Rattle.wasm_text.specs.Integers.{Literal, NoNumber, OutOfRange, Number, count_of}
use Rattle.wasm_text.specs.Keywords.{keyword_of, own_alignment}
use Rattle.wasm_text.specs.TokenForms.{is_word, is_open}
use Rattle.wasm_text.specs.TextValues.{idx_follows, is_identifier}
use Rattle.wasm_text.specs.TextTypes.{block_use, begins_with}
use Rattle.wasm_text.specs.TextInstructions.{Labels, or_zero, is_label, exponent_or, label, label_again, names_label, one_index, some_number, number_after, exponent_below, power_of_two, told_power, alignment, access, constant, branch_table, call_indirect, null_of, table_init, table_copy, operands, Sequence, Part, Instructions, Folded, Conditions, Parts, no_instruction, block, maybe_else, if_block, plain, unfolded_of, folded_block, maybe_folded_else, folded_branches, folded_if, folded_plain, folded_of, folded, unfolded, more_of, one_of, parts_below, instructions, one_folded}
use Rattle.wasm_text.proofs.FormLaws.{Moves, goes, after, before_taken, after_taken, below_taken, if_moves, gives_moves, source_moves, next_is_moves, next_word_moves, opens_moves, want_moves, pass_moves, opening_moves, closing_moves, keyword_moves, pass_two_moves, parts_end_moves, as_long_moves}
use Rattle.wasm_text.proofs.ValueMoves.{out_of_range_moves, passed_moves, integer_moves, maybe_id_moves, idx_moves, idx_follows_moves, table_idx_moves, outside_moves, told_moves, result_parts_moves, use_moves}

-- ---- what follows a word

label_moves : (n : ℕ) (labels : Labels) → Moves n 1 (label labels)
label_moves n labels = after_taken (idx_moves n) (λ x. after (source_moves n) (λ text. gives_moves n _))

label_again_moves : (n : ℕ) (own : Option Id) → Moves n 0 (label_again own)
label_again_moves n own =
    after (next_word_moves n) (λ w. after (source_moves n) (λ text. if_moves (is_identifier w) (if_moves (is_label text own w) (goes (passed_moves n true)) (goes (want_moves n))) (gives_moves n false)))

one_index_moves : (n : ℕ) (labels : Labels) (i : OneIndex) → Moves n 0 (one_index labels i)
one_index_moves n labels i = after (if_moves (names_label i) (goes (label_moves n labels)) (goes (idx_moves n))) (λ x. gives_moves n _)

some_number_moves : (n : ℕ) (l : Literal) → Moves n 0 (some_number l)
some_number_moves n NoNumber = gives_moves n _
some_number_moves n OutOfRange = goes (out_of_range_moves n)
some_number_moves n (Number k) = goes (passed_moves n _)

number_after_moves : (n : ℕ) (front : List ℕ) → Moves n 0 (number_after front)
number_after_moves n front = after (next_word_moves n) (λ w. if_moves _ (some_number_moves n _) (gives_moves n _))

told_power_moves : (n : ℕ) (k : Option ℕ) → Moves n 0 (told_power k)
told_power_moves n None = goes (out_of_range_moves n)
told_power_moves n (Some k) = goes (passed_moves n _)

power_of_two_moves : (n : ℕ) (l : Literal) → Moves n 0 (power_of_two l)
power_of_two_moves n NoNumber = gives_moves n _
power_of_two_moves n OutOfRange = goes (out_of_range_moves n)
power_of_two_moves n (Number k) = told_power_moves n (exponent_below 32 k)

alignment_moves : (n own : ℕ) → Moves n 0 (alignment own)
alignment_moves n own = after (next_word_moves n) (λ w. after (if_moves (begins_with (codes "align=") w) (power_of_two_moves n (count_of (drop 6 w))) (gives_moves n None)) (λ k. gives_moves n (exponent_or own k)))

access_moves : (n op : ℕ) (made : ℕ → ℕ → Instr) → Moves n 0 (access op made)
access_moves n op made = after (number_after_moves n (codes "offset=")) (λ offset. after (alignment_moves n (own_alignment op)) (λ align. gives_moves n (written.Plain (made align (or_zero offset)))))

constant_moves : (n bits : ℕ) (made : ℕ → Instr) → Moves n 0 (constant bits made)
constant_moves n bits made = after (goes (integer_moves n bits)) (λ k. gives_moves n _)

branch_table_moves : (n : ℕ) (labels : Labels) → Moves n 0 (branch_table labels)
branch_table_moves n labels =
    after (goes (label_moves n labels)) (λ x. after (as_long_moves n idx_follows (label labels) (λ m. idx_follows_moves m) (λ m. label_moves m labels)) (λ others. gives_moves n _))

call_indirect_moves : (n : ℕ) → Moves n 0 call_indirect
call_indirect_moves n = after (table_idx_moves n) (λ table. after (use_moves n false false) (λ ty. gives_moves n _))

null_of_moves : (n : ℕ) → Moves n 0 null_of
null_of_moves n = after (next_word_moves n) (λ w. after (goes (told_moves n _ _ (want_moves n))) (λ kind. gives_moves n _))

table_init_moves : (n : ℕ) → Moves n 0 table_init
table_init_moves n =
    after (goes (idx_moves n)) (λ x. after (idx_follows_moves n) (λ more. if_moves more (after (goes (idx_moves n)) (λ y. gives_moves n _)) (gives_moves n _)))

table_copy_moves : (n : ℕ) → Moves n 0 table_copy
table_copy_moves n = after (table_idx_moves n) (λ to. after (table_idx_moves n) (λ from. gives_moves n _))

operands_moves : (n : ℕ) (labels : Labels) (word : Keyword) → Moves n 0 (operands labels word)
operands_moves n labels (Alone i) = gives_moves n _
operands_moves n labels (Index i) = one_index_moves n labels i
operands_moves n labels (TableIndex i) = after (table_idx_moves n) (λ x. gives_moves n _)
operands_moves n labels (Load op) = access_moves n op (instr.Load op)
operands_moves n labels (Store op) = access_moves n op (instr.Store op)
operands_moves n labels Const32 = constant_moves n 32 instr.Const32
operands_moves n labels Const64 = constant_moves n 64 instr.Const64
operands_moves n labels BrTable = branch_table_moves n labels
operands_moves n labels CallIndirect = call_indirect_moves n
operands_moves n labels RefNull = null_of_moves n
operands_moves n labels Select = after (result_parts_moves n) (λ parts. gives_moves n _)
operands_moves n labels TableInit = table_init_moves n
operands_moves n labels TableCopy = table_copy_moves n
operands_moves n labels Block = goes (want_moves n)
operands_moves n labels Loop = goes (want_moves n)
operands_moves n labels If = goes (want_moves n)

no_instruction_moves : {A : Type 0} (n : ℕ) → Moves n 1 (no_instruction {A = A})
no_instruction_moves n = before_taken (next_word_moves n) (λ w. if_moves _ (outside_moves n) (want_moves n))

-- ---- what holds others, where these end at fewer tokens

abbrev pub PartsMove : ℕ → Parts → Type 0
PartsMove n parts = (part : Part) (labels : Labels) (k : ℕ) → Moves n 0 (parts part labels k)

block_use_moves : (n : ℕ) → Moves n 0 block_use
block_use_moves n = use_moves n false true

block_moves : (n : ℕ) (made : ℕ → ℕ → Written) (parts : Parts) (labels : Labels) (k : ℕ) → PartsMove n parts → Moves (suc n) 1 (block made parts labels k)
block_moves n made parts labels k p =
    below_taken (pass_moves (suc n)) (λ _. after (maybe_id_moves n) (λ own. after (block_use_moves n) (λ ty. after (p Instructions _ _) (λ body. after (goes (keyword_moves n _)) (λ _. after (label_again_moves n own) (λ _. gives_moves n _))))))

maybe_else_moves : (n : ℕ) (parts : Parts) (own : Option Id) (labels : Labels) (k : ℕ) → PartsMove n parts → Moves n 0 (maybe_else parts own labels k)
maybe_else_moves n parts own labels k p =
    after (next_word_moves n) (λ w. if_moves _ (after (goes (pass_moves n)) (λ _. after (label_again_moves n own) (λ _. p Instructions _ _))) (gives_moves n _))

if_block_moves : (n : ℕ) (parts : Parts) (labels : Labels) (k : ℕ) → PartsMove n parts → Moves (suc n) 1 (if_block parts labels k)
if_block_moves n parts labels k p =
    below_taken (pass_moves (suc n)) (λ _. after (maybe_id_moves n) (λ own. after (block_use_moves n) (λ ty. after (p Instructions _ _)
    (λ first. after (maybe_else_moves n parts own labels _ p) (λ second. after (goes (keyword_moves n _)) (λ _. after (label_again_moves n own) (λ _. gives_moves n _)))))))

plain_moves : (n : ℕ) (labels : Labels) (word : Keyword) → Moves n 1 (plain labels word)
plain_moves n labels word = after_taken (pass_moves n) (λ _. after (operands_moves n labels word) (λ i. gives_moves n _))

unfolded_of_moves : (n : ℕ) (parts : Parts) (labels : Labels) (k : ℕ) (word : Option Keyword) → PartsMove n parts → Moves (suc n) 1 (unfolded_of parts labels k word)
unfolded_of_moves n parts labels k None p = no_instruction_moves (suc n)
unfolded_of_moves n parts labels k (Some Block) p = block_moves n written.Block parts labels k p
unfolded_of_moves n parts labels k (Some Loop) p = block_moves n written.Loop parts labels k p
unfolded_of_moves n parts labels k (Some If) p = if_block_moves n parts labels k p
unfolded_of_moves n parts labels k (Some (Alone i)) p = plain_moves (suc n) labels (Alone i)
unfolded_of_moves n parts labels k (Some (Index i)) p = plain_moves (suc n) labels (Index i)
unfolded_of_moves n parts labels k (Some (TableIndex i)) p = plain_moves (suc n) labels (TableIndex i)
unfolded_of_moves n parts labels k (Some (Load op)) p = plain_moves (suc n) labels (Load op)
unfolded_of_moves n parts labels k (Some (Store op)) p = plain_moves (suc n) labels (Store op)
unfolded_of_moves n parts labels k (Some Const32) p = plain_moves (suc n) labels Const32
unfolded_of_moves n parts labels k (Some Const64) p = plain_moves (suc n) labels Const64
unfolded_of_moves n parts labels k (Some BrTable) p = plain_moves (suc n) labels BrTable
unfolded_of_moves n parts labels k (Some CallIndirect) p = plain_moves (suc n) labels CallIndirect
unfolded_of_moves n parts labels k (Some RefNull) p = plain_moves (suc n) labels RefNull
unfolded_of_moves n parts labels k (Some Select) p = plain_moves (suc n) labels Select
unfolded_of_moves n parts labels k (Some TableInit) p = plain_moves (suc n) labels TableInit
unfolded_of_moves n parts labels k (Some TableCopy) p = plain_moves (suc n) labels TableCopy

-- ---- folded, after the parenthesis

folded_block_moves : (n : ℕ) (made : ℕ → ℕ → Written) (parts : Parts) (labels : Labels) (k : ℕ) → PartsMove n parts → Moves n 0 (folded_block made parts labels k)
folded_block_moves n made parts labels k p =
    after (goes (pass_moves n)) (λ _. after (maybe_id_moves n) (λ own. after (block_use_moves n) (λ ty. after (p Instructions _ _) (λ body. after (goes (closing_moves n)) (λ _. gives_moves n _)))))

folded_else_moves : (n : ℕ) (parts : Parts) (own : Option Id) (labels : Labels) (k : ℕ) → PartsMove n parts → Moves n 0 (maybe_folded_else parts own labels k)
folded_else_moves n parts own labels k p =
    after (opens_moves n _) (λ there. if_moves there
    (after (goes (pass_two_moves n)) (λ _. after (p Instructions _ _) (λ second. after (goes (closing_moves n)) (λ _. after (goes (closing_moves n)) (λ _. gives_moves n _)))))
    (after (goes (parts_end_moves n)) (λ _. gives_moves n _)))

folded_branches_moves : (n : ℕ) (parts : Parts) (own : Option Id) (labels : Labels) (k ty : ℕ) (conditions : Sequence) → PartsMove n parts → Moves n 0 (folded_branches parts own labels k ty conditions)
folded_branches_moves n parts own labels k ty conditions p =
    after (goes (opening_moves n)) (λ _. after (goes (keyword_moves n _)) (λ _. after (p Instructions _ _) (λ first. after (goes (closing_moves n))
    (λ _. after (folded_else_moves n parts own labels _ p) (λ second. gives_moves n _)))))

folded_if_moves : (n : ℕ) (parts : Parts) (labels : Labels) (k : ℕ) → PartsMove n parts → Moves n 0 (folded_if parts labels k)
folded_if_moves n parts labels k p =
    after (goes (pass_moves n)) (λ _. after (maybe_id_moves n) (λ own. after (block_use_moves n) (λ ty. after (p Conditions labels k)
    (λ conditions. folded_branches_moves n parts own labels _ ty conditions p))))

folded_plain_moves : (n : ℕ) (parts : Parts) (labels : Labels) (k : ℕ) (word : Keyword) → PartsMove n parts → Moves n 0 (folded_plain parts labels k word)
folded_plain_moves n parts labels k word p =
    after (goes (pass_moves n)) (λ _. after (operands_moves n labels word) (λ i. after (p Folded labels k) (λ before. after (goes (closing_moves n)) (λ _. gives_moves n _))))

folded_of_moves : (n : ℕ) (parts : Parts) (labels : Labels) (k : ℕ) (word : Option Keyword) → PartsMove n parts → Moves n 0 (folded_of parts labels k word)
folded_of_moves n parts labels k None p = goes (no_instruction_moves n)
folded_of_moves n parts labels k (Some Block) p = folded_block_moves n written.Block parts labels k p
folded_of_moves n parts labels k (Some Loop) p = folded_block_moves n written.Loop parts labels k p
folded_of_moves n parts labels k (Some If) p = folded_if_moves n parts labels k p
folded_of_moves n parts labels k (Some (Alone i)) p = folded_plain_moves n parts labels k (Alone i) p
folded_of_moves n parts labels k (Some (Index i)) p = folded_plain_moves n parts labels k (Index i) p
folded_of_moves n parts labels k (Some (TableIndex i)) p = folded_plain_moves n parts labels k (TableIndex i) p
folded_of_moves n parts labels k (Some (Load op)) p = folded_plain_moves n parts labels k (Load op) p
folded_of_moves n parts labels k (Some (Store op)) p = folded_plain_moves n parts labels k (Store op) p
folded_of_moves n parts labels k (Some Const32) p = folded_plain_moves n parts labels k Const32 p
folded_of_moves n parts labels k (Some Const64) p = folded_plain_moves n parts labels k Const64 p
folded_of_moves n parts labels k (Some BrTable) p = folded_plain_moves n parts labels k BrTable p
folded_of_moves n parts labels k (Some CallIndirect) p = folded_plain_moves n parts labels k CallIndirect p
folded_of_moves n parts labels k (Some RefNull) p = folded_plain_moves n parts labels k RefNull p
folded_of_moves n parts labels k (Some Select) p = folded_plain_moves n parts labels k Select p
folded_of_moves n parts labels k (Some TableInit) p = folded_plain_moves n parts labels k TableInit p
folded_of_moves n parts labels k (Some TableCopy) p = folded_plain_moves n parts labels k TableCopy p

pub folded_moves : (n : ℕ) (parts : Parts) (labels : Labels) (k : ℕ) → PartsMove n parts → Moves (suc n) 1 (folded parts labels k)
folded_moves n parts labels k p = below_taken (opening_moves (suc n)) (λ _. after (next_word_moves n) (λ w. folded_of_moves n parts labels k (keyword_of w) p))

unfolded_moves : (n : ℕ) (parts : Parts) (labels : Labels) (k : ℕ) → PartsMove n parts → Moves (suc n) 1 (unfolded parts labels k)
unfolded_moves n parts labels k p = before_taken (next_word_moves (suc n)) (λ w. unfolded_of_moves n parts labels k (keyword_of w) p)

-- ---- all together

more_of_moves : (n : ℕ) (part : Part) → Moves n 0 (more_of part)
more_of_moves n Instructions = after (next_is_moves n is_open) (λ opened. after (next_is_moves n is_word) (λ word. after (next_word_moves n) (λ w. gives_moves n _)))
more_of_moves n Folded = next_is_moves n is_open
more_of_moves n Conditions = after (next_is_moves n is_open) (λ opened. after (opens_moves n _) (λ ends. gives_moves n _))

one_of_moves : (n : ℕ) (parts : Parts) (part : Part) (labels : Labels) (k : ℕ) → PartsMove n parts → Moves (suc n) 1 (one_of parts part labels k)
one_of_moves n parts Instructions labels k p = before_taken (next_is_moves (suc n) is_open) (λ opened. if_moves opened (folded_moves n parts labels k p) (unfolded_moves n parts labels k p))
one_of_moves n parts Folded labels k p = folded_moves n parts labels k p
one_of_moves n parts Conditions labels k p = folded_moves n parts labels k p

pub parts_below_moves : (n : ℕ) → PartsMove n (parts_below n)
parts_below_moves zero = λ part labels k. record { each = λ r below. absurd (omega arith) }
parts_below_moves (suc n) = λ part labels k.
    after (more_of_moves (suc n) part) (λ more. if_moves more
    (goes (below_taken (one_of_moves n (parts_below n) part labels k (parts_below_moves n))
    (λ one. after (parts_below_moves n part labels (k + length one.inside)) (λ rest. gives_moves n _))))
    (gives_moves (suc n) _))

pub instructions_moves : (n : ℕ) → Moves n 0 instructions
unfolding instructions
instructions_moves n = record {
  each = λ r below.
      let m = suc (length r.tokens) in
      (after (parts_below_moves m Instructions [] 1) (λ s. gives_moves m _)).each r (omega arith);
}

pub one_folded_moves : (n : ℕ) → Moves n 1 one_folded
unfolding one_folded
one_folded_moves n = record {
  each = λ r below.
      let m = suc (length r.tokens) in
      (after_taken (folded_moves m (parts_below m) [] 1 (parts_below_moves m)) (λ s. gives_moves (suc m) _)).each r (omega arith);
}
