-- Typing of instructions and of their sequences (Validation, Instructions).
--
-- `HasType C i t` is the standard's C ⊢ i : t for the instructions that have one type in a context; `Rule C ls i a b` is
-- it for all plain instructions, with the types of the operands that are taken and given, the last first. `IsTyped` is
-- typing of a sequence, by induction on its tree. The labels ls of a context are listed from the innermost on, each as
-- the types that a branch to it carries.
use Rattle.std.specs.Prelude.{◌≡◌, ℕ, ◌^◌, ◌<◌, ◌≤◌, List, [], ◌∷◌, ◌++◌, length, Some, slice_get, IsTrue}
use Rattle.wasm_ast.specs.declared.types.ValType.{ValType}
use Rattle.wasm_ast.specs.declared.types.ValType.TheVariants.{I32, I64, FuncRef}
use Rattle.wasm_ast.specs.declared.types.FuncType.{FuncType}
use Rattle.wasm_ast.specs.declared.types.TableType.{TableType}
use Rattle.wasm_ast.specs.declared.types.GlobalType.{GlobalType}
use Rattle.wasm_ast.specs.declared.instructions.Instr.{Instr}
use Rattle.wasm_ast.specs.declared.instructions.Instr.TheVariants.{Unreachable, Nop, Br, BrIf, BrTable, Return, Call, CallIndirect, RefNull, RefIsNull, RefFunc, Discard, Select, SelectTyped, LocalGet, LocalSet, LocalTee, GlobalGet, GlobalSet, TableGet, TableSet, TableInit, ElemDrop, TableCopy, TableGrow, TableSize, TableFill, Load, Store, MemorySize, MemoryGrow, MemoryInit, DataDrop, MemoryCopy, MemoryFill, Const32, Const64, Num}
use Rattle.wasm_check.specs.declared.operands.Operand.{Operand}
use Rattle.wasm_check.specs.declared.operands.Operand.TheVariants.{Of}
use Rattle.wasm_check.specs.Operands.{AllMatch, operands, Takes, IsNumeric, IsReference}
use Rattle.wasm_check.specs.Operators.{arrow, operator_type, accessed_type, accessed_bytes}
use Rattle.wasm_check.specs.Contexts.{Context, func_type, block_type}
use Rattle.wasm_check.specs.Trees.{Tree, Nothing, Plain, Blocks, Loops, Ifs}

-- ---- instructions with one type

-- there is a local, a global, a table, an element segment of this number and type; a data segment; a memory
abbrev pub IsLocal : Context → ℕ → ValType → Type 0
IsLocal C x kind = slice_get C.locals x ≡ Some kind

abbrev pub IsGlobal : Context → ℕ → GlobalType → Type 0
IsGlobal C x type = slice_get C.globals x ≡ Some type

abbrev pub IsTable : Context → ℕ → TableType → Type 0
IsTable C x type = slice_get C.tables x ≡ Some type

abbrev pub IsElem : Context → ℕ → ValType → Type 0
IsElem C x kind = slice_get C.elems x ≡ Some kind

abbrev pub IsData : Context → ℕ → Type 0
IsData C x = x < C.datas

abbrev pub HasMemory : Context → Type 0
HasMemory C = 0 < length C.memories

-- the copying instructions take three numbers: where to, where from or what, and how many
abbrev pub three_numbers : List ValType
three_numbers = I32 ∷ I32 ∷ I32 ∷ []

abbrev pub HasType : Context → Instr → FuncType → Type 0
HasType C Nop t = t ≡ arrow [] []
HasType C (Call x) t = func_type C x ≡ Some t
HasType C (CallIndirect ty x) t =
    (table : TableType) × (own : FuncType) × IsTable C x table × (table.kind ≡ FuncRef)
    × (slice_get C.types ty ≡ Some own) × (t ≡ arrow (own.params ++ I32 ∷ []) own.results)
HasType C (RefNull kind) t = t ≡ arrow [] (kind ∷ [])
HasType C (RefFunc x) t = IsTrue (C.declared x) × (t ≡ arrow [] (FuncRef ∷ []))
HasType C (SelectTyped kinds) t =
    (kind : ValType) × (kinds ≡ kind ∷ []) × (t ≡ arrow (kind ∷ kind ∷ I32 ∷ []) (kind ∷ []))
HasType C (LocalGet x) t = (kind : ValType) × IsLocal C x kind × (t ≡ arrow [] (kind ∷ []))
HasType C (LocalSet x) t = (kind : ValType) × IsLocal C x kind × (t ≡ arrow (kind ∷ []) [])
HasType C (LocalTee x) t = (kind : ValType) × IsLocal C x kind × (t ≡ arrow (kind ∷ []) (kind ∷ []))
HasType C (GlobalGet x) t = (type : GlobalType) × IsGlobal C x type × (t ≡ arrow [] (type.kind ∷ []))
HasType C (GlobalSet x) t =
    (type : GlobalType) × IsGlobal C x type × IsTrue type.mutable × (t ≡ arrow (type.kind ∷ []) [])
HasType C (TableGet x) t = (type : TableType) × IsTable C x type × (t ≡ arrow (I32 ∷ []) (type.kind ∷ []))
HasType C (TableSet x) t = (type : TableType) × IsTable C x type × (t ≡ arrow (I32 ∷ type.kind ∷ []) [])
HasType C (TableInit elem x) t =
    (type : TableType) × IsTable C x type × IsElem C elem type.kind × (t ≡ arrow three_numbers [])
HasType C (ElemDrop elem) t = (kind : ValType) × IsElem C elem kind × (t ≡ arrow [] [])
HasType C (TableCopy x y) t =
    (to from : TableType) × IsTable C x to × IsTable C y from × (to.kind ≡ from.kind) × (t ≡ arrow three_numbers [])
HasType C (TableGrow x) t =
    (type : TableType) × IsTable C x type × (t ≡ arrow (type.kind ∷ I32 ∷ []) (I32 ∷ []))
HasType C (TableSize x) t = (type : TableType) × IsTable C x type × (t ≡ arrow [] (I32 ∷ []))
HasType C (TableFill x) t =
    (type : TableType) × IsTable C x type × (t ≡ arrow (I32 ∷ type.kind ∷ I32 ∷ []) [])
HasType C (Load op align offset) t =
    HasMemory C × (2 ^ align ≤ accessed_bytes op) × (t ≡ arrow (I32 ∷ []) (accessed_type op ∷ []))
HasType C (Store op align offset) t =
    HasMemory C × (2 ^ align ≤ accessed_bytes op) × (t ≡ arrow (I32 ∷ accessed_type op ∷ []) [])
HasType C MemorySize t = HasMemory C × (t ≡ arrow [] (I32 ∷ []))
HasType C MemoryGrow t = HasMemory C × (t ≡ arrow (I32 ∷ []) (I32 ∷ []))
HasType C (MemoryInit x) t = HasMemory C × IsData C x × (t ≡ arrow three_numbers [])
HasType C (DataDrop x) t = IsData C x × (t ≡ arrow [] [])
HasType C MemoryCopy t = HasMemory C × (t ≡ arrow three_numbers [])
HasType C MemoryFill t = HasMemory C × (t ≡ arrow three_numbers [])
HasType C (Const32 n) t = t ≡ arrow [] (I32 ∷ [])
HasType C (Const64 n) t = t ≡ arrow [] (I64 ∷ [])
HasType C (Num op) t = operator_type op ≡ Some t
HasType C _ t = ⊥

-- ---- all plain instructions

abbrev pub Labels : Type 0
Labels = List (List ValType)

-- a branch to each of these labels can carry operands that match ts
abbrev pub EachTakes : Labels → List ℕ → List Operand → Type 0
EachTakes ls [] ts = Unit {0}
EachTakes ls (k ∷ ks) ts =
    ((own : List ValType) × (slice_get ls k ≡ Some own) × AllMatch ts (operands own)) × EachTakes ls ks ts

-- The instruction i takes operands of the types a and leaves operands of the types b. After an unconditional branch, and
-- below what it carries, there may be any.
abbrev pub Rule : Context → Labels → Instr → List Operand → List Operand → Type 0
Rule C ls Unreachable a b = Unit {0}
Rule C ls (Br k) a b =
    (own : List ValType) × (any : List Operand) × (slice_get ls k ≡ Some own) × (a ≡ operands own ++ any)
Rule C ls (BrIf k) a b =
    (own : List ValType) × (slice_get ls k ≡ Some own) × (a ≡ Of I32 ∷ operands own) × (b ≡ operands own)
Rule C ls (BrTable ks last) a b =
    (ts any : List Operand) × EachTakes ls (last ∷ ks) ts × (a ≡ Of I32 ∷ (ts ++ any))
Rule C ls Return a b = (any : List Operand) × (a ≡ operands C.results ++ any)
Rule C ls RefIsNull a b = (t : Operand) × IsReference t × (a ≡ t ∷ []) × (b ≡ Of I32 ∷ [])
Rule C ls Discard a b = (t : Operand) × (a ≡ t ∷ []) × (b ≡ [])
Rule C ls Select a b = (t : Operand) × IsNumeric t × (a ≡ Of I32 ∷ t ∷ t ∷ []) × (b ≡ t ∷ [])
Rule C ls i a b = (t : FuncType) × HasType C i t × (a ≡ operands t.params) × (b ≡ operands t.results)

-- ---- sequences

-- A sequence leads from operands of the types ts to operands that match us. A branch to a loop's label carries what the
-- loop takes, to another label what the block gives.
abbrev pub IsTyped : Context → Labels → Tree → List Operand → List Operand → Type 0
IsTyped C ls Nothing ts us = AllMatch ts us
IsTyped C ls (Plain i c) ts us =
    (a b rest : List Operand) × Rule C ls i a b × Takes ts a rest × IsTyped C ls c (b ++ rest) us
IsTyped C ls (Blocks bt body c) ts us =
    (t : FuncType) × (rest : List Operand) × (block_type C bt ≡ Some t)
    × IsTyped C (t.results ∷ ls) body (operands t.params) (operands t.results)
    × Takes ts (operands t.params) rest × IsTyped C ls c (operands t.results ++ rest) us
IsTyped C ls (Loops bt body c) ts us =
    (t : FuncType) × (rest : List Operand) × (block_type C bt ≡ Some t)
    × IsTyped C (t.params ∷ ls) body (operands t.params) (operands t.results)
    × Takes ts (operands t.params) rest × IsTyped C ls c (operands t.results ++ rest) us
IsTyped C ls (Ifs bt body other c) ts us =
    (t : FuncType) × (rest : List Operand) × (block_type C bt ≡ Some t)
    × IsTyped C (t.results ∷ ls) body (operands t.params) (operands t.results)
    × IsTyped C (t.results ∷ ls) other (operands t.params) (operands t.results)
    × Takes ts (Of I32 ∷ operands t.params) rest × IsTyped C ls c (operands t.results ++ rest) us

-- a valid body of a function: it takes no operands and gives the results, which a branch to its label carries too
abbrev pub IsValidBody : Context → Tree → Type 0
IsValidBody C c = IsTyped C (C.results ∷ []) c [] (operands C.results)
