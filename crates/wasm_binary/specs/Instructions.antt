-- Instructions and expressions in bytes (Binary Format, Instructions).
--
-- In the standard a control instruction holds the sequences inside it; here it names them by numbers (Numbering of
-- wasm_ast), so a sequence is spelled beside the number that the next one inside it takes.
use Rattle.std.specs.Prelude.{ℕ, zero, suc, ◌+◌, ◌^◌, ◌-◌, ℤ, pos, negsuc, List, [], ◌∷◌, ◌++◌, length, Bool, true, false, ◌==◌, ◌&&◌, ◌||◌, not, nat_lt, nat_le, if◌then◌else◌, Result, Ok, Err}
use Rattle.grammar_forms.specs.Forms.{◌>>=◌, gives, any_byte, checked, nested, no_form, when◌form◌else◌}
use Rattle.wasm_ast.specs.Opcodes.{is_from, is_load, is_store, is_numeric}
use Rattle.wasm_ast.specs.declared.instructions.Instr.{Instr}
use Rattle.wasm_ast.specs.declared.instructions.Instr.TheVariants.{Unreachable, Nop, Block, Loop, If, Br, BrIf, BrTable, Return, Call, CallIndirect, RefNull, RefIsNull, RefFunc, Discard, Select, SelectTyped, LocalGet, LocalSet, LocalTee, GlobalGet, GlobalSet, TableGet, TableSet, TableInit, ElemDrop, TableCopy, TableGrow, TableSize, TableFill, Load, Store, MemorySize, MemoryGrow, MemoryInit, DataDrop, MemoryCopy, MemoryFill, Const32, Const64, Num}
use Rattle.wasm_ast.specs.declared.instructions.Expr.{Expr}
use Rattle.wasm_binary.specs.Faults.{Fault, byte, outside, data_count}
use Rattle.wasm_binary.specs.Values.{Grammar, Test, u32, s32, s64, tag, vec}
use Rattle.wasm_binary.specs.Types.{below, ref_type, val_type, block_type}

-- ---- opcodes

-- an opcode: a byte, and after FC a number
pub record Opcode : Type 0 where
  pub first : ℕ
  pub second : ℕ

-- what follows the byte
abbrev pub opcode_from : ℕ → Grammar Opcode
opcode_from b = do
  n ← when b == 0xFC form u32 else gives 0
  gives (record { first = b; second = n })

abbrev pub opcode : Grammar Opcode
opcode = do
  b ← any_byte
  opcode_from b

-- what is known where an instruction is read
pub record Around : Type 0 where
  -- there is a data count section, or none is needed
  pub has_data_count : Bool
  -- it stands in an if's first sequence, which may end with an else
  pub else_may_follow : Bool

-- the opcodes of one byte; an else is one in an if's first sequence alone
abbrev pub is_opcode : Around → ℕ → Bool
is_opcode around b =
    is_from 0x00 0x04 b || (b == 0x05 && around.else_may_follow) || is_from 0x0B 0x11 b || is_from 0x1A 0x1C b
    || is_from 0x20 0x26 b || is_load b || is_store b || is_from 0x3F 0x42 b || is_numeric b || is_from 0xD0 0xD2 b

-- the opcodes of floating-point numbers and vectors
abbrev pub is_outside : ℕ → Bool
is_outside b =
    is_from 0x2A 0x2B b || is_from 0x38 0x39 b || is_from 0x43 0x44 b || is_from 0x5B 0x66 b || is_from 0x8B 0xA6 b
    || is_from 0xA8 0xAB b || is_from 0xAE 0xBF b || b == 0xFD

-- memory.init and data.drop, which name a data segment
abbrev pub names_data : ℕ → Bool
names_data n = n == 8 || n == 9

abbrev pub allowed_after_FC : Around → ℕ → Result ℕ (ℕ → Fault)
allowed_after_FC around n =
    if nat_lt n 8 then Err outside
    else (if names_data n && not around.has_data_count then Err data_count else (if nat_le n 17 then Ok n else Err byte))

abbrev pub as_opcode : ℕ → Result ℕ (ℕ → Fault) → Result Opcode (ℕ → Fault)
as_opcode b (Ok n) = Ok (record { first = b; second = n })
as_opcode b (Err fault) = Err fault

abbrev pub allowed : Around → Test Opcode Opcode
allowed around op =
    if op.first == 0xFC then as_opcode 0xFC (allowed_after_FC around op.second)
    else (if is_opcode around op.first then Ok op else (if is_outside op.first then Err outside else Err byte))

-- ---- what follows an opcode

abbrev pub one_index : (ℕ → Instr) → Grammar Instr
one_index instr = do
  x ← u32
  gives (instr x)

abbrev pub two_indices : (ℕ → ℕ → Instr) → Grammar Instr
two_indices instr = do
  x ← u32
  y ← u32
  gives (instr x y)

-- an alignment's exponent below 32 and an offset
abbrev pub memory_argument : (ℕ → ℕ → Instr) → Grammar Instr
memory_argument instr = do
  align ← checked u32 (below 32)
  offset ← u32
  gives (instr align offset)

-- a number modulo 2 ^ bits
abbrev pub modulo : ℕ → ℤ → ℕ
modulo bits (pos n) = n
modulo bits (negsuc n) = 2 ^ bits - (n + 1)

-- an index and bytes 00
abbrev pub index_and_zero : (ℕ → Instr) → Grammar Instr
index_and_zero instr = do
  x ← u32
  _ ← tag 0x00
  gives (instr x)

abbrev pub zero_byte : Instr → Grammar Instr
zero_byte instr = do
  _ ← tag 0x00
  gives instr

abbrev pub zero_bytes : Instr → Grammar Instr
zero_bytes instr = do
  _ ← tag 0x00
  _ ← tag 0x00
  gives instr

-- the instructions of the opcode FC by the number after it
unfoldable pub after_FC : ℕ → Grammar Instr
after_FC n =
    when n == 8 form index_and_zero MemoryInit else
    when n == 9 form one_index DataDrop else
    when n == 10 form zero_bytes MemoryCopy else
    when n == 11 form zero_byte MemoryFill else
    when n == 12 form two_indices TableInit else
    when n == 13 form one_index ElemDrop else
    when n == 14 form two_indices TableCopy else
    when n == 15 form one_index TableGrow else
    when n == 16 form one_index TableSize else
    one_index TableFill

-- br_table: the labels and the last
abbrev pub branch_table : Grammar Instr
branch_table = do
  labels ← vec u32
  last ← u32
  gives (BrTable labels last)

abbrev pub select_typed : Grammar Instr
select_typed = do
  kinds ← vec val_type
  gives (SelectTyped kinds)

abbrev pub null_of : Grammar Instr
null_of = do
  kind ← ref_type
  gives (RefNull kind)

abbrev pub constant_32 : Grammar Instr
constant_32 = do
  z ← s32
  gives (Const32 (modulo 32 z))

abbrev pub constant_64 : Grammar Instr
constant_64 = do
  z ← s64
  gives (Const64 (modulo 64 z))

-- the instructions that hold no others
unfoldable pub plain : Opcode → Grammar Instr
plain op =
    let b = op.first in
    when b == 0x00 form gives Unreachable else
    when b == 0x01 form gives Nop else
    when b == 0x0C form one_index Br else
    when b == 0x0D form one_index BrIf else
    when b == 0x0E form branch_table else
    when b == 0x0F form gives Return else
    when b == 0x10 form one_index Call else
    when b == 0x11 form two_indices CallIndirect else
    when b == 0x1A form gives Discard else
    when b == 0x1B form gives Select else
    when b == 0x1C form select_typed else
    when b == 0x20 form one_index LocalGet else
    when b == 0x21 form one_index LocalSet else
    when b == 0x22 form one_index LocalTee else
    when b == 0x23 form one_index GlobalGet else
    when b == 0x24 form one_index GlobalSet else
    when b == 0x25 form one_index TableGet else
    when b == 0x26 form one_index TableSet else
    when is_load b form memory_argument (Load b) else
    when is_store b form memory_argument (Store b) else
    when b == 0x3F form zero_byte MemorySize else
    when b == 0x40 form zero_byte MemoryGrow else
    when b == 0x41 form constant_32 else
    when b == 0x42 form constant_64 else
    when b == 0xD0 form null_of else
    when b == 0xD1 form gives RefIsNull else
    when b == 0xD2 form one_index RefFunc else
    when b == 0xFC form after_FC op.second else
    gives (Num b)

-- ---- sequences

-- a sequence with all sequences inside it, in the order in which they open, and whether an else ended it
pub record Sequence : Type 0 where
  pub instrs : List Instr
  pub inside : List (List Instr)
  pub by_else : Bool

abbrev pub empty_sequence : Sequence
empty_sequence = record { instrs = []; inside = []; by_else = false }

-- it and all inside it
abbrev pub all_of : Sequence → List (List Instr)
all_of s = s.instrs ∷ s.inside

-- an instruction and the sequences inside it
pub record WithInside : Type 0 where
  pub instr : Instr
  pub inside : List (List Instr)

-- a sequence whose inner sequences are numbered from a number on, where an else may end it or not
abbrev pub Sequences : Type 1
Sequences = Bool → ℕ → Grammar Sequence

-- a block or a loop: the sequence inside it has the number k
abbrev pub block_of : (ℕ → Instr) → Sequences → ℕ → Grammar WithInside
block_of instr sequence k = do
  body ← sequence false (k + 1)
  gives (record { instr = instr k; inside = all_of body })

-- an if: its first sequence has the number k, its second the number after the first and all inside it
abbrev pub if_of : (ℕ → ℕ → Instr) → Sequences → ℕ → Grammar WithInside
if_of instr sequence k = do
  first ← sequence true (k + 1)
  second ← when first.by_else form sequence false (k + length (all_of first) + 1) else gives empty_sequence
  gives (record { instr = instr k (k + length (all_of first)); inside = all_of first ++ all_of second })

abbrev pub instruction : Sequences → Opcode → ℕ → Grammar WithInside
instruction sequence op k =
    when op.first == 0x02
    form (do
      ty ← block_type
      block_of (Block ty) sequence k)
    else
    when op.first == 0x03
    form (do
      ty ← block_type
      block_of (Loop ty) sequence k)
    else
    when op.first == 0x04
    form (do
      ty ← block_type
      if_of (If ty) sequence k)
    else (do
      instr ← plain op
      gives (record { instr = instr; inside = [] }))

-- an end or an else
abbrev pub is_last : Opcode → Bool
is_last op = op.first == 0x0B || op.first == 0x05

abbrev pub before : WithInside → Sequence → Sequence
before one others = record { instrs = one.instr ∷ others.instrs; inside = one.inside ++ others.inside; by_else = others.by_else }

-- what follows an opcode in a sequence: nothing more where it is an end or an else, else its instruction and the others
abbrev pub after_opcode : Sequences → (ℕ → Grammar Sequence) → Opcode → ℕ → Grammar Sequence
after_opcode inner others op k =
    when is_last op
    form gives (record { instrs = []; inside = []; by_else = op.first == 0x05 })
    else (do
      one ← instruction inner op k
      rest ← others (k + length one.inside)
      gives (before one rest))

-- A sequence up to its end, whose inner sequences are numbered from k on, by approximations: fewer than n opcodes stand in
-- it one after another or inside one another.
abbrev pub sequence_below : ℕ → Bool → Sequences
sequence_below zero has_data_count in_if k = no_form
sequence_below (suc n) has_data_count in_if k = do
  op ← checked opcode (allowed (record { has_data_count = has_data_count; else_may_follow = in_if }))
  after_opcode (sequence_below n has_data_count) (sequence_below n has_data_count in_if) op k

abbrev pub expression_below : Bool → ℕ → Grammar Expr
expression_below has_data_count n = do
  s ← sequence_below n has_data_count false 1
  gives (record { seqs = all_of s })

-- an expression: a sequence and its end
unfoldable pub expression : Bool → Grammar Expr
expression has_data_count = nested (expression_below has_data_count)
