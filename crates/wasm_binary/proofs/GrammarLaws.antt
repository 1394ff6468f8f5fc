-- Each form of the grammar is lawful: what is read is spelled, what is spelled is read, and likewise for trouble.
use Rattle.std.proofs.Common.{ℕ, zero, suc, ◌+◌, length, Bool, true, false}
use Rattle.std.specs.Prelude.{◌==◌}
use Rattle.grammar_forms.specs.Forms.{any_byte, checked, many}
use Rattle.grammar_forms.specs.Laws.{IsLawful, IsIn, HasBytes}
use Rattle.grammar_forms.proofs.FormLaws.{after, gives_lawful, any_byte_lawful, any_byte_has_bytes, unsigned_lawful, signed_lawful, checked_lawful, many_lawful, when_lawful, by_first_lawful, nested_lawful, nothing_below, then_lawful, fewer_left, then_has_bytes, checked_has_bytes, signed_has_bytes, in_itself, no_form_in, when_in, then_in}
use Rattle.wasm_ast.specs.Opcodes.{is_from, is_load, is_store}
use Rattle.wasm_ast.specs.declared.instructions.Instr.{Instr}
use Rattle.wasm_ast.specs.declared.instructions.Instr.TheVariants.{Load, Store, Block, Loop, If, TableInit, ElemDrop, TableCopy, TableGrow, TableSize, TableFill, MemoryInit, DataDrop, MemoryCopy, MemoryFill}
use Rattle.wasm_binary.specs.Faults.{Fault, leb}
use Rattle.wasm_binary.specs.Values.{Grammar, u32, s33, exactly, tag, vec, text_of, name}
use Rattle.wasm_binary.specs.Types.{below, one_of, ref_type_of, val_type_of, ref_type, val_type, func_type, maximum, limits, table_type, global_type, short_block_type, type_index, block_type}
use Rattle.wasm_binary.specs.Instructions.{Opcode, opcode, opcode_from, allowed, one_index, two_indices, memory_argument, index_and_zero, zero_byte, zero_bytes, after_FC, branch_table, select_typed, null_of, constant_32, constant_64, plain, Sequence, Sequences, all_of, block_of, if_of, instruction, is_last, after_opcode, sequence_below, expression_below, expression}

-- ---- values

pub u32_lawful : (n : ℕ) → IsLawful n u32
u32_lawful n = unsigned_lawful n leb 32

pub tag_lawful : (n b : ℕ) → IsLawful n (tag b)
tag_lawful n b = checked_lawful n any_byte (exactly b) (any_byte_lawful n)

pub vec_lawful : {A : Type 0} (n : ℕ) (entry : Grammar A) → IsLawful n entry → IsLawful n (vec entry)
vec_lawful n entry p = after (u32_lawful n) (λ k. many_lawful n entry p k)

pub name_lawful : (n : ℕ) → IsLawful n name
name_lawful n = after (u32_lawful n) (λ k. checked_lawful n (many any_byte k) text_of (many_lawful n any_byte (any_byte_lawful n) k))

pub bytes_lawful : (n : ℕ) → IsLawful n (vec any_byte)
bytes_lawful n = vec_lawful n any_byte (any_byte_lawful n)

-- ---- types

pub ref_type_lawful : (n : ℕ) → IsLawful n ref_type
ref_type_lawful n = checked_lawful n any_byte ref_type_of (any_byte_lawful n)

pub val_type_lawful : (n : ℕ) → IsLawful n val_type
val_type_lawful n = checked_lawful n any_byte val_type_of (any_byte_lawful n)

pub func_type_lawful : (n : ℕ) → IsLawful n func_type
func_type_lawful n =
    after (tag_lawful n 0x60) (λ _. after (vec_lawful n val_type (val_type_lawful n)) (λ params. after (vec_lawful n val_type (val_type_lawful n)) (λ results. gives_lawful n _)))

pub one_of_lawful : (n bound : ℕ) → IsLawful n (one_of bound)
one_of_lawful n bound = checked_lawful n any_byte (below bound) (any_byte_lawful n)

pub maximum_lawful : (n bounded : ℕ) → IsLawful n (maximum bounded)
maximum_lawful n bounded = when_lawful n (bounded == 1) _ _ (after (u32_lawful n) (λ k. gives_lawful n _)) (gives_lawful n _)

pub limits_lawful : (n : ℕ) → IsLawful n limits
limits_lawful n = after (one_of_lawful n 2) (λ bounded. after (u32_lawful n) (λ min. after (maximum_lawful n bounded) (λ max. gives_lawful n _)))

pub table_type_lawful : (n : ℕ) → IsLawful n table_type
table_type_lawful n = after (ref_type_lawful n) (λ kind. after (limits_lawful n) (λ lim. gives_lawful n _))

pub global_type_lawful : (n : ℕ) → IsLawful n global_type
global_type_lawful n = after (val_type_lawful n) (λ kind. after (one_of_lawful n 2) (λ mutable. gives_lawful n _))

pub block_type_lawful : (n : ℕ) → IsLawful n block_type
block_type_lawful n =
    by_first_lawful n (is_from 0x40 0x7F) (checked any_byte short_block_type) (checked s33 type_index)
    (checked_has_bytes any_byte short_block_type (any_byte_has_bytes Fault)) (checked_has_bytes s33 type_index (signed_has_bytes leb 33))
    (checked_lawful n any_byte short_block_type (any_byte_lawful n)) (checked_lawful n s33 type_index (signed_lawful n leb 33))

-- ---- instructions that hold no others

one_index_lawful : (n : ℕ) (instr : ℕ → Instr) → IsLawful n (one_index instr)
one_index_lawful n instr = after (u32_lawful n) (λ x. gives_lawful n _)

two_indices_lawful : (n : ℕ) (instr : ℕ → ℕ → Instr) → IsLawful n (two_indices instr)
two_indices_lawful n instr = after (u32_lawful n) (λ x. after (u32_lawful n) (λ y. gives_lawful n _))

memory_argument_lawful : (n : ℕ) (instr : ℕ → ℕ → Instr) → IsLawful n (memory_argument instr)
memory_argument_lawful n instr = after (checked_lawful n u32 (below 32) (u32_lawful n)) (λ align. after (u32_lawful n) (λ offset. gives_lawful n _))

index_and_zero_lawful : (n : ℕ) (instr : ℕ → Instr) → IsLawful n (index_and_zero instr)
index_and_zero_lawful n instr = after (u32_lawful n) (λ x. after (tag_lawful n 0) (λ _. gives_lawful n _))

zero_byte_lawful : (n : ℕ) (instr : Instr) → IsLawful n (zero_byte instr)
zero_byte_lawful n instr = after (tag_lawful n 0) (λ _. gives_lawful n _)

zero_bytes_lawful : (n : ℕ) (instr : Instr) → IsLawful n (zero_bytes instr)
zero_bytes_lawful n instr = after (tag_lawful n 0) (λ _. after (tag_lawful n 0) (λ _. gives_lawful n _))

after_FC_lawful : (n k : ℕ) → IsLawful n (after_FC k)
unfolding after_FC
after_FC_lawful n k =
    when_lawful n (k == 8) _ _ (index_and_zero_lawful n MemoryInit) (
    when_lawful n (k == 9) _ _ (one_index_lawful n DataDrop) (
    when_lawful n (k == 10) _ _ (zero_bytes_lawful n MemoryCopy) (
    when_lawful n (k == 11) _ _ (zero_byte_lawful n MemoryFill) (
    when_lawful n (k == 12) _ _ (two_indices_lawful n TableInit) (
    when_lawful n (k == 13) _ _ (one_index_lawful n ElemDrop) (
    when_lawful n (k == 14) _ _ (two_indices_lawful n TableCopy) (
    when_lawful n (k == 15) _ _ (one_index_lawful n TableGrow) (
    when_lawful n (k == 16) _ _ (one_index_lawful n TableSize) (
    one_index_lawful n TableFill)))))))))

branch_table_lawful : (n : ℕ) → IsLawful n branch_table
branch_table_lawful n = after (vec_lawful n u32 (u32_lawful n)) (λ labels. after (u32_lawful n) (λ last. gives_lawful n _))

select_typed_lawful : (n : ℕ) → IsLawful n select_typed
select_typed_lawful n = after (vec_lawful n val_type (val_type_lawful n)) (λ kinds. gives_lawful n _)

null_of_lawful : (n : ℕ) → IsLawful n null_of
null_of_lawful n = after (ref_type_lawful n) (λ kind. gives_lawful n _)

constant_32_lawful : (n : ℕ) → IsLawful n constant_32
constant_32_lawful n = after (signed_lawful n leb 32) (λ z. gives_lawful n _)

constant_64_lawful : (n : ℕ) → IsLawful n constant_64
constant_64_lawful n = after (signed_lawful n leb 64) (λ z. gives_lawful n _)

pub plain_lawful : (n : ℕ) (op : Opcode) → IsLawful n (plain op)
unfolding plain
plain_lawful n op =
    let b = op.first in
    when_lawful n (b == 0x00) _ _ (gives_lawful n _) (
    when_lawful n (b == 0x01) _ _ (gives_lawful n _) (
    when_lawful n (b == 0x0C) _ _ (one_index_lawful n _) (
    when_lawful n (b == 0x0D) _ _ (one_index_lawful n _) (
    when_lawful n (b == 0x0E) _ _ (branch_table_lawful n) (
    when_lawful n (b == 0x0F) _ _ (gives_lawful n _) (
    when_lawful n (b == 0x10) _ _ (one_index_lawful n _) (
    when_lawful n (b == 0x11) _ _ (two_indices_lawful n _) (
    when_lawful n (b == 0x1A) _ _ (gives_lawful n _) (
    when_lawful n (b == 0x1B) _ _ (gives_lawful n _) (
    when_lawful n (b == 0x1C) _ _ (select_typed_lawful n) (
    when_lawful n (b == 0x20) _ _ (one_index_lawful n _) (
    when_lawful n (b == 0x21) _ _ (one_index_lawful n _) (
    when_lawful n (b == 0x22) _ _ (one_index_lawful n _) (
    when_lawful n (b == 0x23) _ _ (one_index_lawful n _) (
    when_lawful n (b == 0x24) _ _ (one_index_lawful n _) (
    when_lawful n (b == 0x25) _ _ (one_index_lawful n _) (
    when_lawful n (b == 0x26) _ _ (one_index_lawful n _) (
    when_lawful n (is_load b) _ _ (memory_argument_lawful n (Load b)) (
    when_lawful n (is_store b) _ _ (memory_argument_lawful n (Store b)) (
    when_lawful n (b == 0x3F) _ _ (zero_byte_lawful n _) (
    when_lawful n (b == 0x40) _ _ (zero_byte_lawful n _) (
    when_lawful n (b == 0x41) _ _ (constant_32_lawful n) (
    when_lawful n (b == 0x42) _ _ (constant_64_lawful n) (
    when_lawful n (b == 0xD0) _ _ (null_of_lawful n) (
    when_lawful n (b == 0xD1) _ _ (gives_lawful n _) (
    when_lawful n (b == 0xD2) _ _ (one_index_lawful n _) (
    when_lawful n (b == 0xFC) _ _ (after_FC_lawful n op.second) (
    gives_lawful n _))))))))))))))))))))))))))))

-- ---- sequences

pub opcode_lawful : (n : ℕ) → IsLawful n opcode
opcode_lawful n = after (any_byte_lawful n) (λ b. after (when_lawful n (b == 0xFC) _ _ (u32_lawful n) (gives_lawful n _)) (λ k. gives_lawful n _))

pub opcode_has_bytes : HasBytes opcode
opcode_has_bytes = then_has_bytes any_byte opcode_from (any_byte_has_bytes Fault)

block_lawful : (n : ℕ) (instr : ℕ → Instr) (inner : Sequences) (k : ℕ) → ((b : Bool) (j : ℕ) → IsLawful n (inner b j)) → IsLawful n (block_of instr inner k)
block_lawful n instr inner k p = after (p false (k + 1)) (λ body. gives_lawful n _)

if_lawful : (n : ℕ) (instr : ℕ → ℕ → Instr) (inner : Sequences) (k : ℕ) → ((b : Bool) (j : ℕ) → IsLawful n (inner b j)) → IsLawful n (if_of instr inner k)
if_lawful n instr inner k p =
    after (p true (k + 1)) (λ first. after (when_lawful n first.by_else _ _ (p false (k + length (all_of first) + 1)) (gives_lawful n _)) (λ second. gives_lawful n _))

instruction_lawful : (n : ℕ) (inner : Sequences) (op : Opcode) (k : ℕ) → ((b : Bool) (j : ℕ) → IsLawful n (inner b j)) → IsLawful n (instruction inner op k)
instruction_lawful n inner op k p =
    when_lawful n (op.first == 0x02) _ _ (after (block_type_lawful n) (λ ty. block_lawful n (Block ty) inner k p)) (
    when_lawful n (op.first == 0x03) _ _ (after (block_type_lawful n) (λ ty. block_lawful n (Loop ty) inner k p)) (
    when_lawful n (op.first == 0x04) _ _ (after (block_type_lawful n) (λ ty. if_lawful n (If ty) inner k p)) (
    after (plain_lawful n op) (λ instr. gives_lawful n _))))

after_opcode_lawful : (n : ℕ) (inner : Sequences) (others : ℕ → Grammar Sequence) (op : Opcode) (k : ℕ) → ((b : Bool) (j : ℕ) → IsLawful n (inner b j)) → ((j : ℕ) → IsLawful n (others j)) → IsLawful n (after_opcode inner others op k)
after_opcode_lawful n inner others op k p q =
    when_lawful n (is_last op) _ _ (gives_lawful n _) (after (instruction_lawful n inner op k p) (λ one. after (q (k + length one.inside)) (λ rest. gives_lawful n _)))

pub sequence_lawful : (n : ℕ) (has_data_count in_if : Bool) (k : ℕ) → IsLawful n (sequence_below n has_data_count in_if k)
sequence_lawful zero has_data_count in_if k = nothing_below _
sequence_lawful (suc n) has_data_count in_if k =
    let test = allowed (record { has_data_count = has_data_count; else_may_follow = in_if }) in
    let next : Opcode → Grammar Sequence = λ op. after_opcode (sequence_below n has_data_count) (sequence_below n has_data_count in_if) op k in
    then_lawful (suc n) n (checked opcode test) next
    (fewer_left n (checked opcode test) (checked_has_bytes opcode test opcode_has_bytes))
    (checked_lawful (suc n) opcode test (opcode_lawful (suc n)))
    (λ op. after_opcode_lawful n (sequence_below n has_data_count) (sequence_below n has_data_count in_if) op k (λ b j. sequence_lawful n has_data_count b j) (λ j. sequence_lawful n has_data_count in_if j))

-- ---- deeper approximations have all spellings and troubles of the others

block_in : (instr : ℕ → Instr) (inner outer : Sequences) (k : ℕ) → ((b : Bool) (j : ℕ) → IsIn (inner b j) (outer b j)) → IsIn (block_of instr inner k) (block_of instr outer k)
block_in instr inner outer k p = then_in (inner false (k + 1)) (outer false (k + 1)) _ _ (p false (k + 1)) (λ body. in_itself _)

if_in : (instr : ℕ → ℕ → Instr) (inner outer : Sequences) (k : ℕ) → ((b : Bool) (j : ℕ) → IsIn (inner b j) (outer b j)) → IsIn (if_of instr inner k) (if_of instr outer k)
if_in instr inner outer k p =
    then_in (inner true (k + 1)) (outer true (k + 1)) _ _ (p true (k + 1))
    (λ first. then_in _ _ _ _ (when_in first.by_else _ _ _ _ (p false (k + length (all_of first) + 1)) (in_itself _)) (λ second. in_itself _))

instruction_in : (inner outer : Sequences) (op : Opcode) (k : ℕ) → ((b : Bool) (j : ℕ) → IsIn (inner b j) (outer b j)) → IsIn (instruction inner op k) (instruction outer op k)
instruction_in inner outer op k p =
    when_in (op.first == 0x02) _ _ _ _ (then_in block_type block_type _ _ (in_itself _) (λ ty. block_in (Block ty) inner outer k p)) (
    when_in (op.first == 0x03) _ _ _ _ (then_in block_type block_type _ _ (in_itself _) (λ ty. block_in (Loop ty) inner outer k p)) (
    when_in (op.first == 0x04) _ _ _ _ (then_in block_type block_type _ _ (in_itself _) (λ ty. if_in (If ty) inner outer k p)) (
    in_itself _)))

after_opcode_in : (inner outer : Sequences) (others more : ℕ → Grammar Sequence) (op : Opcode) (k : ℕ) → ((b : Bool) (j : ℕ) → IsIn (inner b j) (outer b j)) → ((j : ℕ) → IsIn (others j) (more j)) → IsIn (after_opcode inner others op k) (after_opcode outer more op k)
after_opcode_in inner outer others more op k p q =
    when_in (is_last op) _ _ _ _ (in_itself _)
    (then_in (instruction inner op k) (instruction outer op k) _ _ (instruction_in inner outer op k p) (λ one. then_in _ _ _ _ (q (k + length one.inside)) (λ rest. in_itself _)))

pub sequence_in : (n : ℕ) (has_data_count in_if : Bool) (k : ℕ) → IsIn (sequence_below n has_data_count in_if k) (sequence_below (suc n) has_data_count in_if k)
sequence_in zero has_data_count in_if k = no_form_in _
sequence_in (suc n) has_data_count in_if k =
    let test = allowed (record { has_data_count = has_data_count; else_may_follow = in_if }) in
    then_in (checked opcode test) (checked opcode test) _ _ (in_itself (checked opcode test))
    (λ op. after_opcode_in (sequence_below n has_data_count) (sequence_below (suc n) has_data_count) (sequence_below n has_data_count in_if) (sequence_below (suc n) has_data_count in_if) op k (λ b j. sequence_in n has_data_count b j) (λ j. sequence_in n has_data_count in_if j))

pub expression_lawful : (n : ℕ) (has_data_count : Bool) → IsLawful n (expression has_data_count)
unfolding expression
expression_lawful n has_data_count =
    nested_lawful n (expression_below has_data_count)
    (λ m. after (sequence_lawful m has_data_count false 1) (λ s. gives_lawful m _))
    (λ m. then_in _ _ _ _ (sequence_in m has_data_count false 1) (λ s. in_itself _))
