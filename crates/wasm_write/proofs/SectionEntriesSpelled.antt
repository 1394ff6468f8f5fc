-- What is written for the entries of a module's sections, but for those of the code section, is a spelling of them.
use Rattle.std.proofs.Common.{◌≡◌, ◌≢◌, ℕ, suc, ◌<◌, inl, inr, Bool, true, false, cond, List, [], ◌∷◌, ◌++◌, Option, Some, None, Ok, All, refl, sym, ap, subst, ◌∙◌, append-nil, append_assoc, arith}
use Rattle.std.specs.Prelude.{◌==◌, nat_lt, is_some}
use Rattle.std.specs.List.{list_all, AllByRecursion as ByRecursion}
use Rattle.std.proofs.lemmas.Bool.{cases_eq, ne_eqb}
use Rattle.owi_base.specs.Leb.{unsigned_bytes}
use Rattle.grammar_forms.specs.Forms.{◌>>=◌, gives, when◌form◌else◌}
use Rattle.wasm_ast.specs.Shape.{IsReference, ExprHasShape, KindHasShape, ImportHasShape, ModeHasShape, ElemHasShape, SegmentHasShape, IsShort}
use Rattle.wasm_ast.specs.declared.types.ValType.{ValType}
use Rattle.wasm_ast.specs.declared.types.ValType.TheVariants.{I32, I64, FuncRef, ExternRef}
use Rattle.wasm_ast.specs.declared.instructions.Instr.{Instr}
use Rattle.wasm_ast.specs.declared.instructions.Instr.TheVariants.{RefFunc}
use Rattle.wasm_ast.specs.declared.instructions.Expr.{Expr}
use Rattle.wasm_ast.specs.declared.modules.ImportKind.{ImportKind}
use Rattle.wasm_ast.specs.declared.modules.ImportKind.TheVariants as import_of
use Rattle.wasm_ast.specs.declared.modules.Import.{Import}
use Rattle.wasm_ast.specs.declared.modules.GlobalDef.{GlobalDef}
use Rattle.wasm_ast.specs.declared.modules.Space.{Space}
use Rattle.wasm_ast.specs.declared.modules.Space.TheVariants as space
use Rattle.wasm_ast.specs.declared.modules.Export.{Export}
use Rattle.wasm_ast.specs.declared.modules.Mode.{Mode}
use Rattle.wasm_ast.specs.declared.modules.Mode.TheVariants.{Passive, Declared, Active}
use Rattle.wasm_ast.specs.declared.modules.Elem.{Elem}
use Rattle.wasm_ast.specs.declared.modules.Segment.{Segment}
use Rattle.wasm_binary.specs.Values.{vec}
use Rattle.wasm_binary.specs.Types.{below, one_of}
use Rattle.wasm_binary.specs.SectionEntries.{constant, import_kind, import, global, space_of, export, flag_below, active_on, active, elem_mode, elem_kind, func_item, elem, data_mode, segment}
use Rattle.wasm_write.specs.Values.{vec_bytes, sized}
use Rattle.wasm_write.specs.Types.{type_byte, limits_bytes, table_type_bytes, global_type_bytes}
use Rattle.wasm_write.specs.Instructions.{expr_bytes}
use Rattle.wasm_write.specs.SectionEntries.{import_kind_bytes, import_bytes, global_bytes, export_bytes, single_func, func_of, is_func_ref, has_indices, index_bytes, func_item_bytes, elem_front, elem_bytes, segment_front, segment_bytes}
use Rattle.wasm_ast.specs.Ranges.{IsU32, ExprInRange, KindInRange, ImportInRange, ExportInRange, ModeInRange, ElemInRange, SegmentInRange}
use Rattle.wasm_write.proofs.FormSpelled.{each_of, both_true, u32_spelled, vec_spelled, sized_spelled, name_spelled, ref_type_spelled, limits_spelled, table_type_spelled, global_type_spelled}
use Rattle.wasm_write.proofs.SequencesSpelled.{expr_spelled}
use Rattle.owi_base.proofs.Choices.{passed}

-- outside of bodies no data count section is needed
pub constant_spelled : (e : Expr) → ExprHasShape e → ExprInRange e → constant.Spells e (expr_bytes e)
constant_spelled e shape range = expr_spelled true e shape range (record { each = λ j i x lt within h. refl })

-- ---- imports, globals and exports

kind_spelled : (make : ImportKind → Import) (kind : ImportKind) → KindHasShape kind → KindInRange kind
    → (one_of 4 >>= λ b. import_kind b >>= λ k. gives (make k)).Spells (make kind) (import_kind_bytes kind)
kind_spelled make (import_of.Func ty) shape range =
    let rest = unsigned_bytes ty in
    (0, 0 ∷ [], rest, refl, (0, refl, refl), (import_of.Func ty, rest, [], sym (append-nil rest), (ty, rest, [], sym (append-nil rest), u32_spelled ty range, (refl, refl)), (refl, refl)))
kind_spelled make (import_of.Table ty) shape range =
    let rest = table_type_bytes ty in
    (1, 1 ∷ [], rest, refl, (1, refl, refl), (import_of.Table ty, rest, [], sym (append-nil rest), (ty, rest, [], sym (append-nil rest), table_type_spelled ty shape range, (refl, refl)), (refl, refl)))
kind_spelled make (import_of.Memory ty) shape range =
    let rest = limits_bytes ty in
    (2, 2 ∷ [], rest, refl, (2, refl, refl), (import_of.Memory ty, rest, [], sym (append-nil rest), (ty, rest, [], sym (append-nil rest), limits_spelled ty range, (refl, refl)), (refl, refl)))
kind_spelled make (import_of.Global ty) shape range =
    let rest = global_type_bytes ty in
    (3, 3 ∷ [], rest, refl, (3, refl, refl), (import_of.Global ty, rest, [], refl, (ty, rest, [], refl, global_type_spelled ty, (refl, refl)), (refl, refl)))

pub import_spelled : (i : Import) → ImportHasShape i → ImportInRange i → import.Spells i (import_bytes i)
import_spelled i shape range =
    let from = sized i.module in
    let called = sized i.name in
    let rest = import_kind_bytes i.kind in (
      i.module,
      from,
      called ++ rest,
      append_assoc from called rest,
      name_spelled i.module shape.module_short range.module_text,
      (
        i.name,
        called,
        rest,
        refl,
        name_spelled i.name shape.name_short range.name_text,
        kind_spelled (λ k. record { «module» = i.module; name = i.name; kind = k }) i.kind shape.kind range.kind,
      ),
    )

pub global_spelled : (g : GlobalDef) → ExprHasShape g.init → ExprInRange g.init → global.Spells g (global_bytes g)
global_spelled g shape range =
    let init = expr_bytes g.init in
    (g.ty, global_type_bytes g.ty, init, refl, global_type_spelled g.ty, (g.init, init, [], sym (append-nil init), constant_spelled g.init shape range, (refl, refl)))

abbrev export_with : List ℕ → Space → ℕ → Export
export_with name kind index = record { name = name; space = kind; index = index }

export_at : (name : List ℕ) (kind : Space) (index b : ℕ) → (one_of 4).Spells b (b ∷ []) → kind ≡ space_of b → IsShort name → ExportInRange (export_with name kind index)
    → export.Spells (export_with name kind index) (sized name ++ b ∷ unsigned_bytes index)
export_at name kind index b allowed is short range =
    let rest = unsigned_bytes index in (
      name,
      sized name,
      b ∷ rest,
      refl,
      name_spelled name short range.text,
      (b, b ∷ [], rest, refl, allowed, (index, rest, [], sym (append-nil rest), u32_spelled index range.index, (ap (λ k. export_with name k index) is, refl))),
    )

export_of : (name : List ℕ) (kind : Space) (index : ℕ) → IsShort name → ExportInRange (export_with name kind index) → export.Spells (export_with name kind index) (export_bytes (export_with name kind index))
export_of name space.Func index short range = export_at name space.Func index 0 (0, refl, refl) refl short range
export_of name space.Table index short range = export_at name space.Table index 1 (1, refl, refl) refl short range
export_of name space.Memory index short range = export_at name space.Memory index 2 (2, refl, refl) refl short range
export_of name space.Global index short range = export_at name space.Global index 3 (3, refl, refl) refl short range

pub export_spelled : (e : Export) → IsShort e.name → ExportInRange e → export.Spells e (export_bytes e)
export_spelled e short range = export_of e.name e.space e.index short range

-- ---- the items of element segments

single_is : (seqs : List (List Instr)) (f : ℕ) → single_func seqs ≡ Some f → seqs ≡ (RefFunc f ∷ []) ∷ []
single_is ((RefFunc g ∷ []) ∷ []) f e = let same : g ≡ f = cc in ap (λ n. (RefFunc n ∷ []) ∷ []) same
single_is seqs f e = absurd cc

func_in_range : (seqs : List (List Instr)) (f : ℕ) → seqs ≡ (RefFunc f ∷ []) ∷ [] → ExprInRange (record { seqs = seqs }) → IsU32 f
func_in_range seqs f is range =
    let P : List (List Instr) → Type 0 = λ l. ExprInRange (record { seqs = l }) in
    subst P is range 0 [] (omega arith) 0 (RefFunc f) (omega arith)

item_spelled : (item : Expr) (p : Option ℕ) → func_of item ≡ p → is_some p ≡ true → ExprInRange item → func_item.Spells item (index_bytes p)
item_spelled item (Some f) is some range =
    let bytes = unsigned_bytes f in
    let its = single_is item.seqs f is in
    (f, bytes, [], sym (append-nil bytes), u32_spelled f (func_in_range item.seqs f its range), (ap (λ l. let e : Expr = record { seqs = l } in e) its, refl))
item_spelled item None is some range = absurd cc

items_spelled : (items : List Expr) → list_all (λ item. is_some (func_of item)) items ≡ true → All ExprInRange items → ByRecursion (λ item. func_item.Spells item (func_item_bytes item)) items
items_spelled [] all range = tt
items_spelled (item ∷ items) all range =
    let both = both_true (is_some (func_of item)) (list_all (λ i. is_some (func_of i)) items) all in
    (item_spelled item (func_of item) refl both.0 (range 0 item (omega arith)), items_spelled items both.1 (λ k d lt. range (suc k) d (omega arith)))

-- ---- the fronts of element segments

flag_spelled : (bound flag : ℕ) → flag < 128 → below bound flag ≡ Ok flag → (flag_below bound).Spells flag (flag ∷ [])
flag_spelled bound flag lt is = (flag, (lt, omega arith, refl), is)

record FrontSpelled (flag : ℕ) (kind : ValType) (mode : Mode) (front : List ℕ) : Type 0 where
  mode_text : List ℕ
  kind_text : List ℕ
  is : front ≡ flag ∷ (mode_text ++ kind_text)
  allowed : (flag_below 8).Spells flag (flag ∷ [])
  mode_spelled : (elem_mode flag).Spells mode mode_text
  kind_spelled : (elem_kind flag).Spells kind kind_text

abbrev elem_with : ValType → List Expr → Mode → Elem
elem_with kind items mode = record { kind = kind; items = items; mode = mode }

elem_of_front : (flag : ℕ) (kind : ValType) (mode : Mode) (front : List ℕ) (items : List Expr) (text : List ℕ) → FrontSpelled flag kind mode front → (vec (when nat_lt flag 4 form func_item else constant)).Spells items text
    → elem.Spells (elem_with kind items mode) (front ++ text)
elem_of_front flag kind mode front items text p s =
    let parts : front ++ text ≡ flag ∷ (p.mode_text ++ (p.kind_text ++ text)) = ap (λ l. l ++ text) p.is ∙ ap (λ l. flag ∷ l) (append_assoc p.mode_text p.kind_text text) in (
      flag,
      flag ∷ [],
      p.mode_text ++ (p.kind_text ++ text),
      parts,
      p.allowed,
      (
        mode,
        p.mode_text,
        p.kind_text ++ text,
        refl,
        p.mode_spelled,
        (
          kind,
          p.kind_text,
          text,
          refl,
          p.kind_spelled,
          (items, text, [], sym (append-nil text), s, (refl, refl)),
        ),
      ),
    )

active_on_spelled : (index : ℕ) (offset : Expr) → ExprHasShape offset → ExprInRange offset → (active_on index).Spells (Active index offset) (expr_bytes offset)
active_on_spelled index offset shape range =
    let bytes = expr_bytes offset in
    (offset, bytes, [], sym (append-nil bytes), constant_spelled offset shape range, (refl, refl))

active_spelled : (index : ℕ) (offset : Expr) → ExprHasShape offset → IsU32 index → ExprInRange offset → active.Spells (Active index offset) (unsigned_bytes index ++ expr_bytes offset)
active_spelled index offset shape lt range = (index, unsigned_bytes index, expr_bytes offset, refl, u32_spelled index lt, active_on_spelled index offset shape range)

func_kind_spelled : (elem_kind 1).Spells FuncRef (0x00 ∷ [])
func_kind_spelled = (0, 0 ∷ [], [], refl, (0, refl, refl), (refl, refl))

-- an active segment that names its table
named_table : (flag byte index : ℕ) (offset : Expr) (kind : ValType) → (flag_below 8).Spells flag (flag ∷ []) → (elem_mode flag).Spells (Active index offset) (unsigned_bytes index ++ expr_bytes offset) → (elem_kind flag).Spells kind (byte ∷ [])
    → FrontSpelled flag kind (Active index offset) (flag ∷ unsigned_bytes index ++ expr_bytes offset ++ byte ∷ [])
named_table flag byte index offset kind allowed mode kind_ok = record {
  mode_text = unsigned_bytes index ++ expr_bytes offset;
  kind_text = byte ∷ [];
  is = refl;
  allowed = allowed;
  mode_spelled = mode;
  kind_spelled = kind_ok;
}

-- indices of functions, on a table by its index
func_active : (index : ℕ) (offset : Expr) (items : List Expr) (text : List ℕ) → ExprHasShape offset → IsU32 index → ExprInRange offset → (vec func_item).Spells items text
    → elem.Spells (elem_with FuncRef items (Active index offset)) (elem_front 0 0x00 true (Active index offset) ++ text)
func_active index offset items text shape lt range s =
    let P : List ℕ → Type 0 = λ front. elem.Spells (elem_with FuncRef items (Active index offset)) (front ++ text) in
    let long = 2 ∷ unsigned_bytes index ++ expr_bytes offset ++ 0x00 ∷ [] in
    elim (cases_eq index 0) [
      | inl zero_is ↦
          let Q : ℕ → Type 0 = λ i. elem.Spells (elem_with FuncRef items (Active i offset)) (elem_front 0 0x00 true (Active i offset) ++ text) in
          subst Q (sym zero_is) (elem_of_front 0 FuncRef (Active 0 offset) (0 ∷ expr_bytes offset) items text (record {
            mode_text = expr_bytes offset;
            kind_text = [];
            is = ap (λ l. 0 ∷ l) (sym (append-nil (expr_bytes offset)));
            allowed = flag_spelled 8 0 (omega arith) refl;
            mode_spelled = active_on_spelled 0 offset shape range;
            kind_spelled = (refl, refl);
          }) s)
      | inr ne ↦
          subst P (sym (passed (index == 0) (0 ∷ expr_bytes offset) long (ne_eqb index 0 ne)))
          (elem_of_front 2 FuncRef (Active index offset) long items text (named_table 2 0x00 index offset FuncRef (flag_spelled 8 2 (omega arith) refl) (active_spelled index offset shape lt range) func_kind_spelled) s)
    ]

indices_spelled : (items : List Expr) (mode : Mode) (text : List ℕ) → ModeHasShape mode → ModeInRange mode → (vec func_item).Spells items text → elem.Spells (elem_with FuncRef items mode) (elem_front 0 0x00 true mode ++ text)
indices_spelled items Passive text shape range s =
    elem_of_front 1 FuncRef Passive (1 ∷ 0 ∷ []) items text (record { mode_text = []; kind_text = 0 ∷ []; is = refl; allowed = flag_spelled 8 1 (omega arith) refl; mode_spelled = (refl, refl); kind_spelled = func_kind_spelled }) s
indices_spelled items Declared text shape range s =
    elem_of_front 3 FuncRef Declared (3 ∷ 0 ∷ []) items text (record { mode_text = []; kind_text = 0 ∷ []; is = refl; allowed = flag_spelled 8 3 (omega arith) refl; mode_spelled = (refl, refl); kind_spelled = func_kind_spelled }) s
indices_spelled items (Active index offset) text shape range s = func_active index offset items text shape range.0 range.1 s

-- expressions, on a table by its index, which is named
expr_active : (kind : ValType) (index : ℕ) (offset : Expr) (items : List Expr) (text : List ℕ) → IsReference kind → ExprHasShape offset → IsU32 index → ExprInRange offset → (vec constant).Spells items text
    → elem.Spells (elem_with kind items (Active index offset)) (6 ∷ unsigned_bytes index ++ expr_bytes offset ++ type_byte kind ∷ [] ++ text)
expr_active kind index offset items text ref shape lt range s =
    elem_of_front 6 kind (Active index offset) (6 ∷ unsigned_bytes index ++ expr_bytes offset ++ type_byte kind ∷ []) items text
    (named_table 6 (type_byte kind) index offset kind (flag_spelled 8 6 (omega arith) refl) (active_spelled index offset shape lt range) (ref_type_spelled kind ref)) s

expr_func_active : (index : ℕ) (offset : Expr) (items : List Expr) (text : List ℕ) → ExprHasShape offset → IsU32 index → ExprInRange offset → (vec constant).Spells items text
    → elem.Spells (elem_with FuncRef items (Active index offset)) (elem_front 4 0x70 true (Active index offset) ++ text)
expr_func_active index offset items text shape lt range s =
    let P : List ℕ → Type 0 = λ front. elem.Spells (elem_with FuncRef items (Active index offset)) (front ++ text) in
    let long = 6 ∷ unsigned_bytes index ++ expr_bytes offset ++ 0x70 ∷ [] in
    elim (cases_eq index 0) [
      | inl zero_is ↦
          let Q : ℕ → Type 0 = λ i. elem.Spells (elem_with FuncRef items (Active i offset)) (elem_front 4 0x70 true (Active i offset) ++ text) in
          subst Q (sym zero_is) (elem_of_front 4 FuncRef (Active 0 offset) (4 ∷ expr_bytes offset) items text (record {
            mode_text = expr_bytes offset;
            kind_text = [];
            is = ap (λ l. 4 ∷ l) (sym (append-nil (expr_bytes offset)));
            allowed = flag_spelled 8 4 (omega arith) refl;
            mode_spelled = active_on_spelled 0 offset shape range;
            kind_spelled = (refl, refl);
          }) s)
      | inr ne ↦ subst P (sym (passed (index == 0) (4 ∷ expr_bytes offset) long (ne_eqb index 0 ne))) (expr_active FuncRef index offset items text (inl refl) shape lt range s)
    ]

expressions_spelled : (kind : ValType) (items : List Expr) (mode : Mode) (text : List ℕ) → IsReference kind → ModeHasShape mode → ModeInRange mode → (vec constant).Spells items text
    → elem.Spells (elem_with kind items mode) (elem_front 4 (type_byte kind) (is_func_ref kind) mode ++ text)
expressions_spelled kind items Passive text ref shape range s =
    elem_of_front 5 kind Passive (5 ∷ type_byte kind ∷ []) items text (record { mode_text = []; kind_text = type_byte kind ∷ []; is = refl; allowed = flag_spelled 8 5 (omega arith) refl; mode_spelled = (refl, refl); kind_spelled = ref_type_spelled kind ref }) s
expressions_spelled kind items Declared text ref shape range s =
    elem_of_front 7 kind Declared (7 ∷ type_byte kind ∷ []) items text (record { mode_text = []; kind_text = type_byte kind ∷ []; is = refl; allowed = flag_spelled 8 7 (omega arith) refl; mode_spelled = (refl, refl); kind_spelled = ref_type_spelled kind ref }) s
expressions_spelled FuncRef items (Active index offset) text ref shape range s = expr_func_active index offset items text shape range.0 range.1 s
expressions_spelled ExternRef items (Active index offset) text ref shape range s = expr_active ExternRef index offset items text ref shape range.0 range.1 s
expressions_spelled I32 items (Active index offset) text ref shape range s = elim ref [ inl e ↦ absurd cc | inr e ↦ absurd cc ]
expressions_spelled I64 items (Active index offset) text ref shape range s = elim ref [ inl e ↦ absurd cc | inr e ↦ absurd cc ]

-- ---- element segments

is_func_kind : (kind : ValType) → is_func_ref kind ≡ true → kind ≡ FuncRef
is_func_kind FuncRef e = refl
is_func_kind kind e = absurd cc

pub elem_spelled : (e : Elem) → ElemHasShape e → ElemInRange e → elem.Spells e (elem_bytes e)
elem_spelled e shape range = by_test (has_indices e) refl
  where
    by_test : (b : Bool) → has_indices e ≡ b → elem.Spells e (cond b (elem_front 0 0x00 true e.mode ++ vec_bytes func_item_bytes e.items) (elem_front 4 (type_byte e.kind) (is_func_ref e.kind) e.mode ++ vec_bytes expr_bytes e.items))
    by_test true is =
        let both = both_true (is_func_ref e.kind) (list_all (λ item. is_some (func_of item)) e.items) is in
        let P : ValType → Type 0 = λ kind. elem.Spells (elem_with kind e.items e.mode) (elem_front 0 0x00 true e.mode ++ vec_bytes func_item_bytes e.items) in
        subst P (sym (is_func_kind e.kind both.0)) (indices_spelled e.items e.mode (vec_bytes func_item_bytes e.items) shape.mode range.mode (vec_spelled func_item func_item_bytes e.items shape.short (items_spelled e.items both.1 range.items)))
    by_test false is =
        expressions_spelled e.kind e.items e.mode (vec_bytes expr_bytes e.items) shape.kind shape.mode range.mode
        (vec_spelled constant expr_bytes e.items shape.short (each_of ExprHasShape ExprInRange (λ x. constant.Spells x (expr_bytes x)) e.items constant_spelled shape.items range.items))

-- ---- data segments

abbrev segment_with : List ℕ → Mode → Segment
segment_with bytes mode = record { bytes = bytes; mode = mode }

segment_of_front : (flag : ℕ) (mode : Mode) (front bytes : List ℕ) → (flag_below 3).Spells flag (flag ∷ []) → (data_mode flag).Spells mode front → IsShort bytes → segment.Spells (segment_with bytes mode) (flag ∷ front ++ sized bytes)
segment_of_front flag mode front bytes allowed s short =
    (flag, flag ∷ [], front ++ sized bytes, refl, allowed, (mode, front, sized bytes, refl, s, (bytes, sized bytes, [], sym (append-nil (sized bytes)), sized_spelled bytes short, (refl, refl))))

data_spelled : (mode : Mode) (bytes : List ℕ) → mode ≢ Declared → ModeHasShape mode → ModeInRange mode → IsShort bytes → segment.Spells (segment_with bytes mode) (segment_front mode ++ sized bytes)
data_spelled Passive bytes ne shape range short = segment_of_front 1 Passive [] bytes (flag_spelled 3 1 (omega arith) refl) (refl, refl) short
data_spelled Declared bytes ne shape range short = absurd (ne refl)
data_spelled (Active index offset) bytes ne shape range short =
    let P : List ℕ → Type 0 = λ front. segment.Spells (segment_with bytes (Active index offset)) (front ++ sized bytes) in
    let long = 2 ∷ unsigned_bytes index ++ expr_bytes offset in
    elim (cases_eq index 0) [
      | inl zero_is ↦
          let Q : ℕ → Type 0 = λ i. segment.Spells (segment_with bytes (Active i offset)) (segment_front (Active i offset) ++ sized bytes) in
          subst Q (sym zero_is) (segment_of_front 0 (Active 0 offset) (expr_bytes offset) bytes (flag_spelled 3 0 (omega arith) refl) (active_on_spelled 0 offset shape range.1) short)
      | inr ne ↦
          subst P (sym (passed (index == 0) (0 ∷ expr_bytes offset) long (ne_eqb index 0 ne)))
          (segment_of_front 2 (Active index offset) (unsigned_bytes index ++ expr_bytes offset) bytes (flag_spelled 3 2 (omega arith) refl) (active_spelled index offset shape range.0 range.1) short)
    ]

pub segment_spelled : (s : Segment) → SegmentHasShape s → SegmentInRange s → segment.Spells s (segment_bytes s)
segment_spelled s shape range = data_spelled s.mode s.bytes shape.not_declared shape.mode range.mode shape.short
