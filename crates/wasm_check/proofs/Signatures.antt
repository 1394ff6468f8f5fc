-- The types that the checker has for instructions are those of `HasType`.
use Rattle.std.proofs.Common.{◌≡◌, ℕ, ◌^◌, ◌≤◌, List, [], ◌∷◌, ◌++◌, length, refl, sym, ap, ◌∙◌}
use Rattle.std.specs.Prelude.{nat_lt, true, Option, Some, slice_get}
use Rattle.std.proofs.lemmas.Bool.{ltb-true, lt-ltb, leb-true, le-leb}
use Rattle.wasm_ast.specs.declared.types.ValType.{ValType}
use Rattle.wasm_ast.specs.declared.types.ValType.TheVariants.{I32, FuncRef}
use Rattle.wasm_ast.specs.declared.types.FuncType.{FuncType}
use Rattle.wasm_ast.specs.declared.types.TableType.{TableType}
use Rattle.wasm_ast.specs.declared.types.GlobalType.{GlobalType}
use Rattle.wasm_ast.specs.declared.instructions.Instr.{Instr}
use Rattle.wasm_ast.specs.declared.instructions.Instr.TheVariants.{Nop, Call, CallIndirect, RefNull, RefFunc, SelectTyped, LocalGet, LocalSet, LocalTee, GlobalGet, GlobalSet, TableGet, TableSet, TableInit, ElemDrop, TableCopy, TableGrow, TableSize, TableFill, Load, Store, MemorySize, MemoryGrow, MemoryInit, DataDrop, MemoryCopy, MemoryFill, Const32, Const64, Num}
use Rattle.wasm_check.specs.code.Checker.{bind, when, has_memory, is_aligned, selected, signature}
use Rattle.wasm_check.specs.Operands.{same_type}
use Rattle.wasm_check.specs.Contexts.{Context}
use Rattle.wasm_check.specs.Instructions.{HasMemory, HasType, three_numbers}
use Rattle.wasm_check.specs.Operators.{arrow, accessed_type, accessed_bytes}
use Rattle.wasm_check.proofs.Stacks.{bind-some, when-some, same_type-true, same_type-self}

same-kinds : {B : Type 0} (t u : ValType) (go : Option B) → t ≡ u → when (same_type t u) go ≡ go
same-kinds t u go e = ap (λ b. when b go) (ap (same_type t) (sym e) ∙ same_type-self t)

memory-true : {B : Type 0} (C : Context) (go : Option B) (y : B) → when (has_memory C) go ≡ Some y → HasMemory C × (go ≡ Some y)
memory-true C go y e =
    let w : (has_memory C ≡ true) × (go ≡ Some y) = when-some _ _ y e in
    (ltb-true 0 (length C.memories) w.0, w.1)

memory-passes : {B : Type 0} (C : Context) (go : Option B) → HasMemory C → when (has_memory C) go ≡ go
memory-passes C go h = ap (λ b. when b go) (lt-ltb 0 (length C.memories) h)

selected-one : (kinds : List ValType) (t : FuncType) → selected kinds ≡ Some t → (kind : ValType) × (kinds ≡ kind ∷ []) × (t ≡ arrow (kind ∷ kind ∷ I32 ∷ []) (kind ∷ []))
selected-one [] t e = cc
selected-one (kind ∷ []) t e = (kind, refl, cc)
selected-one (kind ∷ other ∷ kinds) t e = cc

accessed-some : (C : Context) (op align : ℕ) (own t : FuncType) → when (has_memory C) (when (is_aligned op align) (Some own)) ≡ Some t → HasMemory C × (2 ^ align ≤ accessed_bytes op) × (t ≡ own)
accessed-some C op align own t e =
    let m : HasMemory C × (when (is_aligned op align) (Some own) ≡ Some t) = memory-true C _ t e in
    let w : (is_aligned op align ≡ true) × (Some own ≡ Some t) = when-some _ _ t m.1 in
    (m.0, leb-true (2 ^ align) (accessed_bytes op) w.0, cc)

accessed-passes : (C : Context) (op align : ℕ) (own : FuncType) → HasMemory C → 2 ^ align ≤ accessed_bytes op → when (has_memory C) (when (is_aligned op align) (Some own)) ≡ Some own
accessed-passes C op align own m a = memory-passes C _ m ∙ ap (λ b. when b (Some own)) (le-leb (2 ^ align) (accessed_bytes op) a)

three-some : (C : Context) (t : FuncType) → when (has_memory C) (Some (arrow three_numbers [])) ≡ Some t → HasMemory C × (t ≡ arrow three_numbers [])
three-some C t e = let m : HasMemory C × (Some (arrow three_numbers []) ≡ Some t) = memory-true C _ t e in (m.0, cc)

pub signature-sound : (C : Context) (i : Instr) (t : FuncType) → signature C i ≡ Some t → HasType C i t
signature-sound C Nop t e = cc
signature-sound C (Call x) t e = e
signature-sound C (CallIndirect ty x) t e =
    let b : (table : TableType) × (slice_get C.tables x ≡ Some table) × (when (same_type table.kind FuncRef) (bind (slice_get C.types ty) (λ own. Some (arrow (own.params ++ I32 ∷ []) own.results))) ≡ Some t) = bind-some _ _ t e in
    let w : (same_type b.0.kind FuncRef ≡ true) × (bind (slice_get C.types ty) (λ own. Some (arrow (own.params ++ I32 ∷ []) own.results)) ≡ Some t) = when-some _ _ t b.2 in
    let o : (own : FuncType) × (slice_get C.types ty ≡ Some own) × (Some (arrow (own.params ++ I32 ∷ []) own.results) ≡ Some t) = bind-some _ _ t w.1 in
    (b.0, o.0, b.1, same_type-true b.0.kind FuncRef w.0, o.1, cc)
signature-sound C (RefNull kind) t e = cc
signature-sound C (RefFunc x) t e =
    let w : (C.declared x ≡ true) × (Some (arrow [] (FuncRef ∷ [])) ≡ Some t) = when-some _ _ t e in
    (w.0, cc)
signature-sound C (SelectTyped kinds) t e = selected-one kinds t e
signature-sound C (LocalGet x) t e =
    let b : (it : ValType) × (slice_get C.locals x ≡ Some it) × (Some (arrow [] (it ∷ [])) ≡ Some t) = bind-some _ _ t e in
    (b.0, b.1, cc)
signature-sound C (LocalSet x) t e =
    let b : (it : ValType) × (slice_get C.locals x ≡ Some it) × (Some (arrow (it ∷ []) []) ≡ Some t) = bind-some _ _ t e in
    (b.0, b.1, cc)
signature-sound C (LocalTee x) t e =
    let b : (it : ValType) × (slice_get C.locals x ≡ Some it) × (Some (arrow (it ∷ []) (it ∷ [])) ≡ Some t) = bind-some _ _ t e in
    (b.0, b.1, cc)
signature-sound C (GlobalGet x) t e =
    let b : (it : GlobalType) × (slice_get C.globals x ≡ Some it) × (Some (arrow [] (it.kind ∷ [])) ≡ Some t) = bind-some _ _ t e in
    (b.0, b.1, cc)
signature-sound C (GlobalSet x) t e =
    let b : (it : GlobalType) × (slice_get C.globals x ≡ Some it) × (when it.mutable (Some (arrow (it.kind ∷ []) [])) ≡ Some t) = bind-some _ _ t e in
    let w : (b.0.mutable ≡ true) × (Some (arrow (b.0.kind ∷ []) []) ≡ Some t) = when-some _ _ t b.2 in
    (b.0, b.1, w.0, cc)
signature-sound C (TableGet x) t e =
    let b : (it : TableType) × (slice_get C.tables x ≡ Some it) × (Some (arrow (I32 ∷ []) (it.kind ∷ [])) ≡ Some t) = bind-some _ _ t e in
    (b.0, b.1, cc)
signature-sound C (TableSet x) t e =
    let b : (it : TableType) × (slice_get C.tables x ≡ Some it) × (Some (arrow (I32 ∷ it.kind ∷ []) []) ≡ Some t) = bind-some _ _ t e in
    (b.0, b.1, cc)
signature-sound C (TableInit elem x) t e =
    let b : (it : TableType) × (slice_get C.tables x ≡ Some it) × (bind (slice_get C.elems elem) (λ kind. when (same_type kind it.kind) (Some (arrow three_numbers []))) ≡ Some t) = bind-some _ _ t e in
    let k : (kind : ValType) × (slice_get C.elems elem ≡ Some kind) × (when (same_type kind b.0.kind) (Some (arrow three_numbers [])) ≡ Some t) = bind-some _ _ t b.2 in
    let w : (same_type k.0 b.0.kind ≡ true) × (Some (arrow three_numbers []) ≡ Some t) = when-some _ _ t k.2 in
    (b.0, b.1, k.1 ∙ ap (λ kind. Some kind) (same_type-true k.0 b.0.kind w.0), cc)
signature-sound C (ElemDrop elem) t e =
    let b : (it : ValType) × (slice_get C.elems elem ≡ Some it) × (Some (arrow [] []) ≡ Some t) = bind-some _ _ t e in
    (b.0, b.1, cc)
signature-sound C (TableCopy x y) t e =
    let b : (to : TableType) × (slice_get C.tables x ≡ Some to) × (bind (slice_get C.tables y) (λ from. when (same_type to.kind from.kind) (Some (arrow three_numbers []))) ≡ Some t) = bind-some _ _ t e in
    let k : (from : TableType) × (slice_get C.tables y ≡ Some from) × (when (same_type b.0.kind from.kind) (Some (arrow three_numbers [])) ≡ Some t) = bind-some _ _ t b.2 in
    let w : (same_type b.0.kind k.0.kind ≡ true) × (Some (arrow three_numbers []) ≡ Some t) = when-some _ _ t k.2 in
    (b.0, k.0, b.1, k.1, same_type-true b.0.kind k.0.kind w.0, cc)
signature-sound C (TableGrow x) t e =
    let b : (it : TableType) × (slice_get C.tables x ≡ Some it) × (Some (arrow (it.kind ∷ I32 ∷ []) (I32 ∷ [])) ≡ Some t) = bind-some _ _ t e in
    (b.0, b.1, cc)
signature-sound C (TableSize x) t e =
    let b : (it : TableType) × (slice_get C.tables x ≡ Some it) × (Some (arrow [] (I32 ∷ [])) ≡ Some t) = bind-some _ _ t e in
    (b.0, b.1, cc)
signature-sound C (TableFill x) t e =
    let b : (it : TableType) × (slice_get C.tables x ≡ Some it) × (Some (arrow (I32 ∷ it.kind ∷ I32 ∷ []) []) ≡ Some t) = bind-some _ _ t e in
    (b.0, b.1, cc)
signature-sound C (Load op align offset) t e = accessed-some C op align _ t e
signature-sound C (Store op align offset) t e = accessed-some C op align _ t e
signature-sound C MemorySize t e = let m : HasMemory C × (Some (arrow [] (I32 ∷ [])) ≡ Some t) = memory-true C _ t e in (m.0, cc)
signature-sound C MemoryGrow t e = let m : HasMemory C × (Some (arrow (I32 ∷ []) (I32 ∷ [])) ≡ Some t) = memory-true C _ t e in (m.0, cc)
signature-sound C (MemoryInit x) t e =
    let m : HasMemory C × (when (nat_lt x C.datas) (Some (arrow three_numbers [])) ≡ Some t) = memory-true C _ t e in
    let w : (nat_lt x C.datas ≡ true) × (Some (arrow three_numbers []) ≡ Some t) = when-some _ _ t m.1 in
    (m.0, ltb-true x C.datas w.0, cc)
signature-sound C (DataDrop x) t e =
    let w : (nat_lt x C.datas ≡ true) × (Some (arrow [] []) ≡ Some t) = when-some _ _ t e in
    (ltb-true x C.datas w.0, cc)
signature-sound C MemoryCopy t e = three-some C t e
signature-sound C MemoryFill t e = three-some C t e
signature-sound C (Const32 n) t e = cc
signature-sound C (Const64 n) t e = cc
signature-sound C (Num op) t e = e
signature-sound C _ t e = cc

pub signature-complete : (C : Context) (i : Instr) (t : FuncType) → HasType C i t → signature C i ≡ Some t
signature-complete C Nop t h = ap (λ t. Some t) (sym h)
signature-complete C (Call x) t h = h
signature-complete C (CallIndirect ty x) t h =
    rw h.2 (same-kinds h.0.kind FuncRef (bind (slice_get C.types ty) (λ own. Some (arrow (own.params ++ I32 ∷ []) own.results))) h.3
    ∙ ap (λ o. bind o (λ (own : FuncType). Some (arrow (own.params ++ I32 ∷ []) own.results))) h.4 ∙ ap (λ t. Some t) (sym h.5))
signature-complete C (RefNull kind) t h = ap (λ t. Some t) (sym h)
signature-complete C (RefFunc x) t h = ap (λ b. when b (Some (arrow [] (FuncRef ∷ [])))) h.0 ∙ ap (λ t. Some t) (sym h.1)
signature-complete C (SelectTyped kinds) t h = ap selected h.1 ∙ ap (λ t. Some t) (sym h.2)
signature-complete C (LocalGet x) t h = ap (λ o. bind o (λ (it : ValType). Some (arrow [] (it ∷ [])))) h.1 ∙ ap (λ t. Some t) (sym h.2)
signature-complete C (LocalSet x) t h = ap (λ o. bind o (λ (it : ValType). Some (arrow (it ∷ []) []))) h.1 ∙ ap (λ t. Some t) (sym h.2)
signature-complete C (LocalTee x) t h = ap (λ o. bind o (λ (it : ValType). Some (arrow (it ∷ []) (it ∷ [])))) h.1 ∙ ap (λ t. Some t) (sym h.2)
signature-complete C (GlobalGet x) t h = ap (λ o. bind o (λ (it : GlobalType). Some (arrow [] (it.kind ∷ [])))) h.1 ∙ ap (λ t. Some t) (sym h.2)
signature-complete C (GlobalSet x) t h =
    ap (λ o. bind o (λ (it : GlobalType). when it.mutable (Some (arrow (it.kind ∷ []) [])))) h.1
    ∙ ap (λ b. when b (Some (arrow (h.0.kind ∷ []) []))) h.2 ∙ ap (λ t. Some t) (sym h.3)
signature-complete C (TableGet x) t h = ap (λ o. bind o (λ (it : TableType). Some (arrow (I32 ∷ []) (it.kind ∷ [])))) h.1 ∙ ap (λ t. Some t) (sym h.2)
signature-complete C (TableSet x) t h = ap (λ o. bind o (λ (it : TableType). Some (arrow (I32 ∷ it.kind ∷ []) []))) h.1 ∙ ap (λ t. Some t) (sym h.2)
signature-complete C (TableInit elem x) t h =
    ap (λ o. bind o (λ (it : TableType). bind (slice_get C.elems elem) (λ kind. when (same_type kind it.kind) (Some (arrow three_numbers []))))) h.1
    ∙ ap (λ o. bind o (λ (kind : ValType). when (same_type kind h.0.kind) (Some (arrow three_numbers [])))) h.2
    ∙ same-kinds h.0.kind h.0.kind (Some (arrow three_numbers [])) refl ∙ ap (λ t. Some t) (sym h.3)
signature-complete C (ElemDrop elem) t h = ap (λ o. bind o (λ (it : ValType). Some (arrow [] []))) h.1 ∙ ap (λ t. Some t) (sym h.2)
signature-complete C (TableCopy x y) t h =
    ap (λ o. bind o (λ (to : TableType). bind (slice_get C.tables y) (λ from. when (same_type to.kind from.kind) (Some (arrow three_numbers []))))) h.2
    ∙ ap (λ o. bind o (λ (from : TableType). when (same_type h.0.kind from.kind) (Some (arrow three_numbers [])))) h.3
    ∙ same-kinds h.0.kind h.1.kind (Some (arrow three_numbers [])) h.4 ∙ ap (λ t. Some t) (sym h.5)
signature-complete C (TableGrow x) t h = ap (λ o. bind o (λ (it : TableType). Some (arrow (it.kind ∷ I32 ∷ []) (I32 ∷ [])))) h.1 ∙ ap (λ t. Some t) (sym h.2)
signature-complete C (TableSize x) t h = ap (λ o. bind o (λ (it : TableType). Some (arrow [] (I32 ∷ [])))) h.1 ∙ ap (λ t. Some t) (sym h.2)
signature-complete C (TableFill x) t h = ap (λ o. bind o (λ (it : TableType). Some (arrow (I32 ∷ it.kind ∷ I32 ∷ []) []))) h.1 ∙ ap (λ t. Some t) (sym h.2)
signature-complete C (Load op align offset) t h = accessed-passes C op align (arrow (I32 ∷ []) (accessed_type op ∷ [])) h.0 h.1 ∙ ap (λ t. Some t) (sym h.2)
signature-complete C (Store op align offset) t h = accessed-passes C op align (arrow (I32 ∷ accessed_type op ∷ []) []) h.0 h.1 ∙ ap (λ t. Some t) (sym h.2)
signature-complete C MemorySize t h = memory-passes C _ h.0 ∙ ap (λ t. Some t) (sym h.1)
signature-complete C MemoryGrow t h = memory-passes C _ h.0 ∙ ap (λ t. Some t) (sym h.1)
signature-complete C (MemoryInit x) t h = memory-passes C _ h.0 ∙ ap (λ b. when b (Some (arrow three_numbers []))) (lt-ltb x C.datas h.1) ∙ ap (λ t. Some t) (sym h.2)
signature-complete C (DataDrop x) t h = ap (λ b. when b (Some (arrow [] []))) (lt-ltb x C.datas h.0) ∙ ap (λ t. Some t) (sym h.1)
signature-complete C MemoryCopy t h = memory-passes C _ h.0 ∙ ap (λ t. Some t) (sym h.1)
signature-complete C MemoryFill t h = memory-passes C _ h.0 ∙ ap (λ t. Some t) (sym h.1)
signature-complete C (Const32 n) t h = ap (λ t. Some t) (sym h)
signature-complete C (Const64 n) t h = ap (λ t. Some t) (sym h)
signature-complete C (Num op) t h = h
signature-complete C _ t h = absurd h
