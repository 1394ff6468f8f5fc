-- The checker of bodies as a function on their instructions: a list of open sequences, each with the types of its
-- operands as far as they are known. No public contract speaks of it; that it passes the valid bodies and stops at the
-- first fault of the others is proved from `Instructions` and `Faults`.
use Rattle.std.specs.Prelude.{◌≡◌, ℕ, ◌+◌, ◌^◌, List, [], ◌∷◌, ◌++◌, Option, Some, None, slice_get, length, Bool, true, false, nat_lt, nat_le}
use Rattle.wasm_ast.specs.declared.types.ValType.{ValType}
use Rattle.wasm_ast.specs.declared.types.ValType.TheVariants.{I32, I64, FuncRef, ExternRef}
use Rattle.wasm_ast.specs.declared.types.FuncType.{FuncType}
use Rattle.wasm_ast.specs.declared.instructions.Instr.{Instr}
use Rattle.wasm_ast.specs.declared.instructions.Instr.TheVariants.{Unreachable, Nop, Br, BrIf, BrTable, Return, Call, CallIndirect, RefNull, RefIsNull, RefFunc, Discard, Select, SelectTyped, LocalGet, LocalSet, LocalTee, GlobalGet, GlobalSet, TableGet, TableSet, TableInit, ElemDrop, TableCopy, TableGrow, TableSize, TableFill, Load, Store, MemorySize, MemoryGrow, MemoryInit, DataDrop, MemoryCopy, MemoryFill, Const32, Const64, Num}
use Rattle.wasm_check.specs.declared.operands.Operand.{Operand}
use Rattle.wasm_check.specs.declared.operands.Operand.TheVariants.{Of, Bottom}
use Rattle.wasm_check.specs.Contexts.{Context, func_type, block_type}
use Rattle.wasm_check.specs.Instructions.{Labels, three_numbers}
use Rattle.wasm_check.specs.Operands.{operands, same_type}
use Rattle.wasm_check.specs.Operators.{arrow, operator_type, accessed_type, accessed_bytes}
use Rattle.wasm_check.specs.Trees.{Token, Does, Opens_block, Opens_loop, Opens_if, Else, Ends}

-- ---- parts

abbrev pub bind : {A B : Type 0} → Option A → (A → Option B) → Option B
bind None go = None
bind (Some x) go = go x

-- go on where the test is passed
abbrev pub when : {B : Type 0} → Bool → Option B → Option B
when true go = go
when false go = None

abbrev pub fits : Operand → Operand → Bool
fits Bottom u = true
fits (Of t) Bottom = false
fits (Of t) (Of u) = same_type t u

-- the operands of one sequence, the last first; after an unconditional branch there are others of any type below them
pub record Stack : Type 0 where
  pub dead : Bool
  pub ops : List Operand

abbrev pub onto : List Operand → Stack → Stack
onto ts s = record s { ops = ts ++ s.ops }

abbrev pub dead_end : Stack
dead_end = record { dead = true; ops = [] }

-- without the wanted operands
abbrev pub pops : List Operand → Bool → List Operand → Option (List Operand)
pops [] dead ops = Some ops
pops (u ∷ wanted) dead [] = when dead (pops wanted dead [])
pops (u ∷ wanted) dead (t ∷ ops) = when (fits t u) (pops wanted dead ops)

abbrev pub popped : List Operand → Stack → Option Stack
popped wanted s = bind (pops wanted s.dead s.ops) (λ ops. Some (record s { ops = ops }))

-- with the last operand
abbrev pub with_pop : {B : Type 0} → Bool → List Operand → (Operand → List Operand → Option B) → Option B
with_pop dead [] go = when dead (go Bottom [])
with_pop dead (t ∷ ops) go = go t ops

abbrev pub pop_of : Stack → Option (Operand × Stack)
pop_of s = with_pop s.dead s.ops (λ t ops. Some (t, record s { ops = ops }))

-- ---- plain instructions

-- of the types of references
abbrev pub reference : Operand → Bool
reference (Of I32) = false
reference (Of I64) = false
reference _ = true

-- of the types of numbers
abbrev pub numeric : Operand → Bool
numeric (Of FuncRef) = false
numeric (Of ExternRef) = false
numeric _ = true

-- the type of what select gives of two operands
abbrev pub common : Operand → Operand → Option Operand
common Bottom u = Some u
common (Of t) Bottom = Some (Of t)
common (Of t) (Of u) = when (same_type t u) (Some (Of t))

abbrev pub joined : Operand → Operand → Option Operand
joined t u = bind (common t u) (λ v. when (numeric v) (Some v))

abbrev pub same_count : List ValType → List ValType → Bool
same_count [] [] = true
same_count (t ∷ ts) [] = false
same_count [] (u ∷ us) = false
same_count (t ∷ ts) (u ∷ us) = same_count ts us

-- each of these labels has as many types as own, and the operands match them
abbrev pub each_fits : Labels → List ValType → List ℕ → Bool → List Operand → Option (List Operand)
each_fits ls own [] dead ops = Some ops
each_fits ls own (k ∷ ks) dead ops =
    bind (slice_get ls k) (λ these. when (same_count these own)
    (bind (pops (operands these) dead ops) (λ gone. each_fits ls own ks dead ops)))

abbrev pub applies : List ValType → List ValType → Stack → Option Stack
applies params results s = bind (popped (operands params) s) (λ s. Some (onto (operands results) s))

-- there is a memory
abbrev pub has_memory : Context → Bool
has_memory C = nat_lt 0 (length C.memories)

abbrev pub is_aligned : ℕ → ℕ → Bool
is_aligned op align = nat_le (2 ^ align) (accessed_bytes op)

abbrev pub selected : List ValType → Option FuncType
selected [] = None
selected (kind ∷ []) = Some (arrow (kind ∷ kind ∷ I32 ∷ []) (kind ∷ []))
selected (kind ∷ other ∷ kinds) = None

-- the type of an instruction that has one
abbrev pub signature : Context → Instr → Option FuncType
signature C Nop = Some (arrow [] [])
signature C (Call x) = func_type C x
signature C (CallIndirect ty x) =
    bind (slice_get C.tables x) (λ table. when (same_type table.kind FuncRef)
    (bind (slice_get C.types ty) (λ own. Some (arrow (own.params ++ I32 ∷ []) own.results))))
signature C (RefNull kind) = Some (arrow [] (kind ∷ []))
signature C (RefFunc x) = when (C.declared x) (Some (arrow [] (FuncRef ∷ [])))
signature C (SelectTyped kinds) = selected kinds
signature C (LocalGet x) = bind (slice_get C.locals x) (λ kind. Some (arrow [] (kind ∷ [])))
signature C (LocalSet x) = bind (slice_get C.locals x) (λ kind. Some (arrow (kind ∷ []) []))
signature C (LocalTee x) = bind (slice_get C.locals x) (λ kind. Some (arrow (kind ∷ []) (kind ∷ [])))
signature C (GlobalGet x) = bind (slice_get C.globals x) (λ type. Some (arrow [] (type.kind ∷ [])))
signature C (GlobalSet x) = bind (slice_get C.globals x) (λ type. when type.mutable (Some (arrow (type.kind ∷ []) [])))
signature C (TableGet x) = bind (slice_get C.tables x) (λ type. Some (arrow (I32 ∷ []) (type.kind ∷ [])))
signature C (TableSet x) = bind (slice_get C.tables x) (λ type. Some (arrow (I32 ∷ type.kind ∷ []) []))
signature C (TableInit elem x) =
    bind (slice_get C.tables x) (λ type. bind (slice_get C.elems elem) (λ kind. when (same_type kind type.kind)
    (Some (arrow three_numbers []))))
signature C (ElemDrop elem) = bind (slice_get C.elems elem) (λ kind. Some (arrow [] []))
signature C (TableCopy x y) =
    bind (slice_get C.tables x) (λ to. bind (slice_get C.tables y) (λ from. when (same_type to.kind from.kind)
    (Some (arrow three_numbers []))))
signature C (TableGrow x) = bind (slice_get C.tables x) (λ type. Some (arrow (type.kind ∷ I32 ∷ []) (I32 ∷ [])))
signature C (TableSize x) = bind (slice_get C.tables x) (λ type. Some (arrow [] (I32 ∷ [])))
signature C (TableFill x) = bind (slice_get C.tables x) (λ type. Some (arrow (I32 ∷ type.kind ∷ I32 ∷ []) []))
signature C (Load op align offset) =
    when (has_memory C) (when (is_aligned op align) (Some (arrow (I32 ∷ []) (accessed_type op ∷ []))))
signature C (Store op align offset) =
    when (has_memory C) (when (is_aligned op align) (Some (arrow (I32 ∷ accessed_type op ∷ []) [])))
signature C MemorySize = when (has_memory C) (Some (arrow [] (I32 ∷ [])))
signature C MemoryGrow = when (has_memory C) (Some (arrow (I32 ∷ []) (I32 ∷ [])))
signature C (MemoryInit x) = when (has_memory C) (when (nat_lt x C.datas) (Some (arrow three_numbers [])))
signature C (DataDrop x) = when (nat_lt x C.datas) (Some (arrow [] []))
signature C MemoryCopy = when (has_memory C) (Some (arrow three_numbers []))
signature C MemoryFill = when (has_memory C) (Some (arrow three_numbers []))
signature C (Const32 n) = Some (arrow [] (I32 ∷ []))
signature C (Const64 n) = Some (arrow [] (I64 ∷ []))
signature C (Num op) = operator_type op
signature C _ = None

abbrev pub acts : Context → Labels → Instr → Stack → Option Stack
acts C ls Unreachable s = Some dead_end
acts C ls (Br k) s = bind (slice_get ls k) (λ own. bind (popped (operands own) s) (λ s. Some dead_end))
acts C ls (BrIf k) s =
    bind (slice_get ls k) (λ own. bind (popped (Of I32 ∷ operands own) s) (λ s. Some (onto (operands own) s)))
acts C ls (BrTable ks last) s =
    bind (popped (Of I32 ∷ []) s) (λ s. bind (slice_get ls last) (λ own.
    bind (each_fits ls own (last ∷ ks) s.dead s.ops) (λ gone. Some dead_end)))
acts C ls Return s = bind (popped (operands C.results) s) (λ s. Some dead_end)
acts C ls RefIsNull s = with_pop s.dead s.ops (λ t ops. when (reference t) (Some (record s { ops = Of I32 ∷ ops })))
acts C ls Discard s = with_pop s.dead s.ops (λ t ops. Some (record s { ops = ops }))
acts C ls Select s =
    bind (popped (Of I32 ∷ []) s) (λ s. with_pop s.dead s.ops (λ t ops. with_pop s.dead ops (λ u ops.
    bind (joined t u) (λ v. Some (record s { ops = v ∷ ops })))))
acts C ls i s = bind (signature C i) (λ t. applies t.params t.results s)

-- ---- sequences

-- an open sequence: what a branch to its label carries, what it takes and gives, whether it is the first part of an if,
-- and its operands
pub record Open : Type 0 where
  pub label : List ValType
  pub params : List ValType
  pub results : List ValType
  pub first : Bool
  pub stack : Stack

-- the types of labels
abbrev pub labels_of : List Open → Labels
labels_of [] = []
labels_of (o ∷ os) = o.label ∷ labels_of os

-- a sequence that opens
abbrev pub opened : List ValType → FuncType → Bool → Open
opened label t first = record {
  label = label;
  params = t.params;
  results = t.results;
  first = first;
  stack = record { dead = false; ops = operands t.params };
}

abbrev pub opens : List Operand → Open → Open → List Open → Option (List Open)
opens wanted new o os = bind (popped wanted o.stack) (λ s. Some (new ∷ record o { stack = s } ∷ os))

abbrev pub is_empty : List Operand → Bool
is_empty [] = true
is_empty (t ∷ ts) = false

-- a sequence may end here
abbrev pub finished : {B : Type 0} → List ValType → Stack → Option B → Option B
finished results s go = bind (pops (operands results) s.dead s.ops) (λ ops. when (is_empty ops) go)

-- the results of a sequence that ends, for the one around it
abbrev pub closes : List ValType → List Open → List Open
closes results [] = []
closes results (p ∷ os) = record p { stack = onto (operands results) p.stack } ∷ os

-- the second part of an if, which has no else where it isn't written
abbrev pub second : Open → Open
second o = record o { first = false; stack = record { dead = false; ops = operands o.params } }

-- a part of an if that isn't written may be empty
abbrev pub finished_other : {B : Type 0} → Bool → Open → Option B → Option B
finished_other true o go = finished o.results (second o).stack go
finished_other false o go = go

abbrev pub ends : Open → List Open → Option (List Open)
ends o os = finished o.results o.stack (finished_other o.first o (Some (closes o.results os)))

abbrev pub turns : Open → List Open → Option (List Open)
turns o os = when o.first (finished o.results o.stack (Some (second o ∷ os)))

abbrev pub on_open : Context → Token → Open → List Open → Option (List Open)
on_open C (Does i) o os = bind (acts C (o.label ∷ labels_of os) i o.stack) (λ s. Some (record o { stack = s } ∷ os))
on_open C (Opens_block bt) o os =
    bind (block_type C bt) (λ t. opens (operands t.params) (opened t.results t false) o os)
on_open C (Opens_loop bt) o os =
    bind (block_type C bt) (λ t. opens (operands t.params) (opened t.params t false) o os)
on_open C (Opens_if bt) o os =
    bind (block_type C bt) (λ t. opens (Of I32 ∷ operands t.params) (opened t.results t true) o os)
on_open C Else o os = turns o os
on_open C Ends o os = ends o os

abbrev pub reads : Context → Token → List Open → Option (List Open)
reads C t [] = None
reads C t (o ∷ os) = on_open C t o os

-- the open sequences after these instructions
abbrev pub run : Context → List Token → List Open → Option (List Open)
run C [] os = Some os
run C (t ∷ ts) os = bind (reads C t os) (run C ts)

-- the body itself, as an open sequence
abbrev pub outermost : Context → Open
outermost C = record {
  label = C.results;
  params = [];
  results = C.results;
  first = false;
  stack = record { dead = false; ops = [] };
}

abbrev pub start_of : Context → List Open
start_of C = outermost C ∷ []

abbrev pub later : Option ℕ → Option ℕ
later None = None
later (Some n) = Some (n + 1)

-- the place of the first instruction that is refused
abbrev pub fault_after : Option (List Open) → (List Open → Option ℕ) → Option ℕ
fault_after None go = Some 0
fault_after (Some os) go = later (go os)

abbrev pub fault : Context → List Token → List Open → Option ℕ
fault C [] os = None
fault C (t ∷ ts) os = fault_after (reads C t os) (fault C ts)

-- ---- what the code answers

-- a test that is passed with the new stack, or not passed
abbrev pub Answers : Bool → Option Stack → Stack → Type 0
Answers true wanted new = wanted ≡ Some new
Answers false wanted new = wanted ≡ None

abbrev pub SomeBy : {A : Type 0} → Bool → Option A → A → Type 0
SomeBy true wanted x = wanted ≡ Some x
SomeBy false wanted x = wanted ≡ None
