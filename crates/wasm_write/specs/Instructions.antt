-- Instructions and expressions (Binary Format, Instructions).
--
-- A control instruction names the sequences inside it by numbers (Numbering of wasm_ast), all of them higher than that of the
-- sequence in which it stands.
use Rattle.std.specs.Prelude.{ℕ, ◌+◌, ◌-◌, ◌^◌, ℤ, pos, ◌-ℤ◌, List, [], ◌∷◌, ◌++◌, ◌==◌, nat_lt, if◌then◌else◌}
use Rattle.std.specs.List.{flat_map}
use Rattle.owi_base.specs.Leb.{unsigned_bytes, signed_bytes}
use Rattle.wasm_ast.specs.declared.instructions.Instr.{Instr}
use Rattle.wasm_ast.specs.declared.instructions.Instr.TheVariants.{Unreachable, Nop, Block, Loop, If, Br, BrIf, BrTable, Return, Call, CallIndirect, RefNull, RefIsNull, RefFunc, Discard, Select, SelectTyped, LocalGet, LocalSet, LocalTee, GlobalGet, GlobalSet, TableGet, TableSet, TableInit, ElemDrop, TableCopy, TableGrow, TableSize, TableFill, Load, Store, MemorySize, MemoryGrow, MemoryInit, DataDrop, MemoryCopy, MemoryFill, Const32, Const64, Num}
use Rattle.wasm_ast.specs.declared.instructions.Expr.{Expr}
use Rattle.wasm_write.specs.Values.{vec_bytes}
use Rattle.wasm_write.specs.Types.{type_byte, val_type_bytes, block_type_bytes}

-- a number below 2 ^ bits as one from -2 ^ (bits - 1) on, equal to it modulo 2 ^ bits
abbrev pub signed : ℕ → ℕ → ℤ
signed bits n = if nat_lt n (2 ^ (bits - 1)) then pos n else (pos n -ℤ pos (2 ^ bits))

-- an opcode and an index
abbrev pub indexed : ℕ → ℕ → List ℕ
indexed op x = op ∷ unsigned_bytes x

-- an opcode and two indices
abbrev pub indexed_twice : ℕ → ℕ → ℕ → List ℕ
indexed_twice op x y = op ∷ unsigned_bytes x ++ unsigned_bytes y

-- an instruction of the opcode FC by the number after it, which takes one byte
abbrev pub after_FC : ℕ → List ℕ → List ℕ
after_FC n rest = 0xFC ∷ n ∷ rest

-- an else before the text of an if's second sequence, where that has instructions
abbrev pub else_part : List ℕ → List ℕ
else_part [] = []
else_part (b ∷ rest) = 0x05 ∷ b ∷ rest

-- an instruction, where the sequences that it names have these texts
abbrev pub instr_bytes : (ℕ → List ℕ) → Instr → List ℕ
instr_bytes text Unreachable = 0x00 ∷ []
instr_bytes text Nop = 0x01 ∷ []
instr_bytes text (Block ty body) = 0x02 ∷ block_type_bytes ty ++ text body ++ 0x0B ∷ []
instr_bytes text (Loop ty body) = 0x03 ∷ block_type_bytes ty ++ text body ++ 0x0B ∷ []
instr_bytes text (If ty first other) = 0x04 ∷ block_type_bytes ty ++ text first ++ else_part (text other) ++ 0x0B ∷ []
instr_bytes text (Br label) = indexed 0x0C label
instr_bytes text (BrIf label) = indexed 0x0D label
instr_bytes text (BrTable labels last) = 0x0E ∷ vec_bytes unsigned_bytes labels ++ unsigned_bytes last
instr_bytes text Return = 0x0F ∷ []
instr_bytes text (Call func) = indexed 0x10 func
instr_bytes text (CallIndirect ty table) = indexed_twice 0x11 ty table
instr_bytes text (RefNull kind) = 0xD0 ∷ type_byte kind ∷ []
instr_bytes text RefIsNull = 0xD1 ∷ []
instr_bytes text (RefFunc func) = indexed 0xD2 func
instr_bytes text Discard = 0x1A ∷ []
instr_bytes text Select = 0x1B ∷ []
instr_bytes text (SelectTyped kinds) = 0x1C ∷ vec_bytes val_type_bytes kinds
instr_bytes text (LocalGet local) = indexed 0x20 local
instr_bytes text (LocalSet local) = indexed 0x21 local
instr_bytes text (LocalTee local) = indexed 0x22 local
instr_bytes text (GlobalGet global) = indexed 0x23 global
instr_bytes text (GlobalSet global) = indexed 0x24 global
instr_bytes text (TableGet table) = indexed 0x25 table
instr_bytes text (TableSet table) = indexed 0x26 table
instr_bytes text (TableInit elem table) = after_FC 12 (unsigned_bytes elem ++ unsigned_bytes table)
instr_bytes text (ElemDrop elem) = after_FC 13 (unsigned_bytes elem)
instr_bytes text (TableCopy to from) = after_FC 14 (unsigned_bytes to ++ unsigned_bytes from)
instr_bytes text (TableGrow table) = after_FC 15 (unsigned_bytes table)
instr_bytes text (TableSize table) = after_FC 16 (unsigned_bytes table)
instr_bytes text (TableFill table) = after_FC 17 (unsigned_bytes table)
instr_bytes text (Load op align offset) = indexed_twice op align offset
instr_bytes text (Store op align offset) = indexed_twice op align offset
instr_bytes text MemorySize = 0x3F ∷ 0x00 ∷ []
instr_bytes text MemoryGrow = 0x40 ∷ 0x00 ∷ []
instr_bytes text (MemoryInit segment) = after_FC 8 (unsigned_bytes segment ++ 0x00 ∷ [])
instr_bytes text (DataDrop segment) = after_FC 9 (unsigned_bytes segment)
instr_bytes text MemoryCopy = after_FC 10 (0x00 ∷ 0x00 ∷ [])
instr_bytes text MemoryFill = after_FC 11 (0x00 ∷ [])
instr_bytes text (Const32 n) = 0x41 ∷ signed_bytes (signed 32 n)
instr_bytes text (Const64 n) = 0x42 ∷ signed_bytes (signed 64 n)
instr_bytes text (Num op) = op ∷ []

-- The text of the sequence j, without its end, where these sequences have the numbers from k on: its instructions one after
-- another, with the texts of later sequences inside them.
unfoldable pub text_of : ℕ → List (List Instr) → ℕ → List ℕ
text_of k [] j = []
text_of k (instrs ∷ later) j =
    if j == k then flat_map (instr_bytes (text_of (k + 1) later)) instrs else text_of (k + 1) later j

-- an expression: the outermost sequence and its end
abbrev pub expr_bytes : Expr → List ℕ
expr_bytes e = text_of 0 e.seqs 0 ++ 0x0B ∷ []
