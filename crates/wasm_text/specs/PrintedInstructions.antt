-- How instructions and expressions are printed (Text Format, Instructions). Each instruction is its word and its operands,
-- `else` and `end` stand like instructions, and the same text stands before each of them: it begins a line, or is a space.
use Rattle.std.specs.Prelude.{ℕ, ◌+◌, ◌-◌, ◌^◌, ℤ, pos, ◌-ℤ◌, List, [], ◌∷◌, ◌++◌, ◌==◌, nat_lt, if◌then◌else◌, flat_map, codes, decimal}
use Rattle.std.specs.Fmt.{signed_decimal}
use Rattle.wasm_ast.specs.declared.types.ValType.{ValType}
use Rattle.wasm_ast.specs.declared.types.ValType.TheVariants.{FuncRef, ExternRef}
use Rattle.wasm_ast.specs.declared.instructions.Instr.{Instr}
use Rattle.wasm_ast.specs.declared.instructions.Instr.TheVariants.{Unreachable, Nop, Block, Loop, If, Br, BrIf, BrTable, Return, Call, CallIndirect, RefNull, RefIsNull, RefFunc, Discard, Select, SelectTyped, LocalGet, LocalSet, LocalTee, GlobalGet, GlobalSet, TableGet, TableSet, TableInit, ElemDrop, TableCopy, TableGrow, TableSize, TableFill, Load, Store, MemorySize, MemoryGrow, MemoryInit, DataDrop, MemoryCopy, MemoryFill, Const32, Const64, Num}
use Rattle.wasm_ast.specs.declared.instructions.Expr.{Expr}
use Rattle.wasm_text.specs.PrintedTypes.{type_word, next_type, block_type_text}
use Rattle.wasm_text.specs.Words.{word_of}

-- a number below 2 ^ bits as one from -2 ^ (bits - 1) on, equal to it modulo 2 ^ bits
abbrev pub signed : ℕ → ℕ → ℤ
signed bits n = if nat_lt n (2 ^ (bits - 1)) then pos n else (pos n -ℤ pos (2 ^ bits))

-- a reference type as `ref.null` takes it
abbrev pub heap_word : ValType → List ℕ
heap_word FuncRef = codes "func"
heap_word ExternRef = codes "extern"
heap_word kind = type_word kind

-- an index after a space
abbrev pub next_index : ℕ → List ℕ
next_index n = codes " " ++ decimal n

-- a word and an index; a word and two
abbrev pub indexed : List ℕ → ℕ → List ℕ
indexed word x = word ++ next_index x

abbrev pub indexed_twice : List ℕ → ℕ → ℕ → List ℕ
indexed_twice word x y = word ++ next_index x ++ next_index y

-- a load or a store, with its offset and the alignment in bytes
abbrev pub access_text : ℕ → ℕ → ℕ → List ℕ
access_text op align offset = word_of op ++ codes " offset=" ++ decimal offset ++ codes " align=" ++ decimal (2 ^ align)

-- an instruction; of one that holds sequences, what stands before them
abbrev pub head_text : Instr → List ℕ
head_text Unreachable = codes "unreachable"
head_text Nop = codes "nop"
head_text (Block ty body) = codes "block" ++ block_type_text ty
head_text (Loop ty body) = codes "loop" ++ block_type_text ty
head_text (If ty first other) = codes "if" ++ block_type_text ty
head_text (Br label) = indexed (codes "br") label
head_text (BrIf label) = indexed (codes "br_if") label
head_text (BrTable labels last) = codes "br_table" ++ flat_map next_index labels ++ next_index last
head_text Return = codes "return"
head_text (Call func) = indexed (codes "call") func
head_text (CallIndirect ty table) = indexed (codes "call_indirect") table ++ codes " (type " ++ decimal ty ++ codes ")"
head_text (RefNull kind) = codes "ref.null " ++ heap_word kind
head_text RefIsNull = codes "ref.is_null"
head_text (RefFunc func) = indexed (codes "ref.func") func
head_text Discard = codes "drop"
head_text Select = codes "select"
head_text (SelectTyped kinds) = codes "select (result" ++ flat_map next_type kinds ++ codes ")"
head_text (LocalGet local) = indexed (codes "local.get") local
head_text (LocalSet local) = indexed (codes "local.set") local
head_text (LocalTee local) = indexed (codes "local.tee") local
head_text (GlobalGet global) = indexed (codes "global.get") global
head_text (GlobalSet global) = indexed (codes "global.set") global
head_text (TableGet table) = indexed (codes "table.get") table
head_text (TableSet table) = indexed (codes "table.set") table
head_text (TableInit elem table) = indexed_twice (codes "table.init") table elem
head_text (ElemDrop elem) = indexed (codes "elem.drop") elem
head_text (TableCopy to from) = indexed_twice (codes "table.copy") to from
head_text (TableGrow table) = indexed (codes "table.grow") table
head_text (TableSize table) = indexed (codes "table.size") table
head_text (TableFill table) = indexed (codes "table.fill") table
head_text (Load op align offset) = access_text op align offset
head_text (Store op align offset) = access_text op align offset
head_text MemorySize = codes "memory.size"
head_text MemoryGrow = codes "memory.grow"
head_text (MemoryInit segment) = indexed (codes "memory.init") segment
head_text (DataDrop segment) = indexed (codes "data.drop") segment
head_text MemoryCopy = codes "memory.copy"
head_text MemoryFill = codes "memory.fill"
head_text (Const32 n) = codes "i32.const " ++ signed_decimal (signed 32 n)
head_text (Const64 n) = codes "i64.const " ++ signed_decimal (signed 64 n)
head_text (Num op) = word_of op

-- an else before the text of an if's second sequence, where that has instructions
abbrev pub else_part : List ℕ → List ℕ → List ℕ
else_part before [] = []
else_part before (b ∷ rest) = before ++ codes "else" ++ b ∷ rest

-- the sequences that an instruction names, where they have these texts, and its end
abbrev pub inside_text : List ℕ → (ℕ → List ℕ) → Instr → List ℕ
inside_text before text (Block ty body) = text body ++ before ++ codes "end"
inside_text before text (Loop ty body) = text body ++ before ++ codes "end"
inside_text before text (If ty first other) = text first ++ else_part before (text other) ++ before ++ codes "end"
inside_text before text _ = []

abbrev pub instr_text : List ℕ → (ℕ → List ℕ) → Instr → List ℕ
instr_text before text instr = before ++ head_text instr ++ inside_text before text instr

-- The text of the sequence j, where these sequences have the numbers from k on: its instructions one after another, with the
-- texts of later sequences inside them.
unfoldable pub sequence_text : List ℕ → ℕ → List (List Instr) → ℕ → List ℕ
sequence_text before k [] j = []
sequence_text before k (instrs ∷ later) j =
    if j == k then flat_map (instr_text before (sequence_text before (k + 1) later)) instrs else sequence_text before (k + 1) later j

-- an expression: the outermost sequence
abbrev pub expr_text : List ℕ → Expr → List ℕ
expr_text before e = sequence_text before 0 e.seqs 0
