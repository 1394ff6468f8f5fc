-- The words of instructions (Text Format, Instructions).
use Rattle.std.specs.Prelude.{ℕ, ◌==◌, ◌||◌, if◌then◌else◌, List, [], ◌∷◌, Option, Some, None, bytes_eq, codes}
use Rattle.wasm_ast.specs.Opcodes.{is_from, is_load, is_store}
use Rattle.wasm_ast.specs.declared.instructions.Instr.TheVariants as instr
use Rattle.wasm_text.specs.declared.named.OneIndex.TheVariants as index
use Rattle.wasm_text.specs.declared.keywords.Keyword.{Keyword}
use Rattle.wasm_text.specs.declared.keywords.Keyword.TheVariants.{Alone, Index, TableIndex, Load, Store, Const32, Const64, BrTable, CallIndirect, RefNull, Select, TableInit, TableCopy, Block, Loop, If}
use Rattle.wasm_text.specs.Words.{opcode_words}

-- the words but those of loads, stores and numeric operators (Words)
abbrev pub keyword_rows : List (List ℕ × Keyword)
keyword_rows =
    (codes "unreachable", Alone instr.Unreachable) ∷
    (codes "nop", Alone instr.Nop) ∷
    (codes "block", Block) ∷
    (codes "loop", Loop) ∷
    (codes "if", If) ∷
    (codes "br", Index index.Br) ∷
    (codes "br_if", Index index.BrIf) ∷
    (codes "br_table", BrTable) ∷
    (codes "return", Alone instr.Return) ∷
    (codes "call", Index index.Call) ∷
    (codes "call_indirect", CallIndirect) ∷
    (codes "ref.null", RefNull) ∷
    (codes "ref.is_null", Alone instr.RefIsNull) ∷
    (codes "ref.func", Index index.RefFunc) ∷
    (codes "drop", Alone instr.Discard) ∷
    (codes "select", Select) ∷
    (codes "local.get", Index index.LocalGet) ∷
    (codes "local.set", Index index.LocalSet) ∷
    (codes "local.tee", Index index.LocalTee) ∷
    (codes "global.get", Index index.GlobalGet) ∷
    (codes "global.set", Index index.GlobalSet) ∷
    (codes "table.get", TableIndex index.TableGet) ∷
    (codes "table.set", TableIndex index.TableSet) ∷
    (codes "table.init", TableInit) ∷
    (codes "elem.drop", Index index.ElemDrop) ∷
    (codes "table.copy", TableCopy) ∷
    (codes "table.grow", TableIndex index.TableGrow) ∷
    (codes "table.size", TableIndex index.TableSize) ∷
    (codes "table.fill", TableIndex index.TableFill) ∷
    (codes "memory.size", Alone instr.MemorySize) ∷
    (codes "memory.grow", Alone instr.MemoryGrow) ∷
    (codes "memory.init", Index index.MemoryInit) ∷
    (codes "data.drop", Index index.DataDrop) ∷
    (codes "memory.copy", Alone instr.MemoryCopy) ∷
    (codes "memory.fill", Alone instr.MemoryFill) ∷
    (codes "i32.const", Const32) ∷
    (codes "i64.const", Const64) ∷ []

abbrev pub opcode_keyword : ℕ → Keyword
opcode_keyword op = if is_load op then Load op else (if is_store op then Store op else Alone (instr.Num op))

abbrev pub find_opcode : List ℕ → List (ℕ × List ℕ) → Option Keyword
find_opcode w [] = None
find_opcode w (row ∷ rest) = if bytes_eq w row.1 then Some (opcode_keyword row.0) else find_opcode w rest

abbrev pub find_keyword : List ℕ → List (List ℕ × Keyword) → Option Keyword
find_keyword w [] = find_opcode w opcode_words
find_keyword w (row ∷ rest) = if bytes_eq w row.0 then Some row.1 else find_keyword w rest

-- what a word is as that of an instruction
unfoldable pub keyword_of : List ℕ → Option Keyword
keyword_of w = find_keyword w keyword_rows

-- The exponent of a load's or store's alignment where none is written: that of the bytes that it accesses. 1 byte in load8_s,
-- load8_u and store8; 2 in load16_s, load16_u and store16; 4 in i32.load, i32.store, i64.load32_s, i64.load32_u and i64.store32;
-- 8 in i64.load and i64.store.
abbrev pub own_alignment : ℕ → ℕ
own_alignment op =
    if is_from 0x2C 0x2D op || is_from 0x30 0x31 op || op == 0x3A || op == 0x3C then 0 else
    if is_from 0x2E 0x2F op || is_from 0x32 0x33 op || op == 0x3B || op == 0x3D then 1 else
    if op == 0x28 || is_from 0x34 0x35 op || op == 0x36 || op == 0x3E then 2 else 3
