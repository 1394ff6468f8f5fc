-- Constant expressions of a valid module have values of their types.
use Rattle.std.proofs.Common.{◌≡◌, ℕ, suc, ◌+◌, ◌<◌, List, [], ◌∷◌, ◌++◌, map, length, take, refl, sym, ap, ◌∙◌, subst, arith, append-nil, append_assoc}
use Rattle.std.specs.Prelude.{All, Bool, true, false, if◌then◌else◌, Some, None, option_map, option_and_then, slice_get}
use Rattle.std.specs.List.{AllByRecursion}
use Rattle.std.proofs.lemmas.Bool.{ltb-true}
use Rattle.std.proofs.lemmas.List.{length-append, length-map, map-append}
use Rattle.std.proofs.lemmas.List.Elements.{All-head, All-tail}
use Rattle.wasm_ast.specs.Opcodes.{is_from}
use Rattle.wasm_ast.specs.Shape.{InstrHasShape, SeqHasShape, ExprHasShape}
use Rattle.wasm_ast.specs.declared.types.ValType.{ValType}
use Rattle.wasm_ast.specs.declared.types.ValType.TheVariants.{I32 as I32Type, I64 as I64Type, FuncRef as FuncRefType, ExternRef as ExternRefType}
use Rattle.wasm_ast.specs.declared.types.FuncType.{FuncType}
use Rattle.wasm_ast.specs.declared.types.GlobalType.{GlobalType}
use Rattle.wasm_ast.specs.declared.instructions.Instr.{Instr}
use Rattle.wasm_ast.specs.declared.instructions.Instr.TheVariants.{Const32, Const64, RefNull, RefFunc, GlobalGet, Num}
use Rattle.wasm_ast.specs.declared.instructions.Expr.{Expr}
use Rattle.wasm_ast.specs.declared.modules.GlobalDef.{GlobalDef}
use Rattle.wasm_ast.specs.declared.modules.Module.{Module}
use Rattle.wasm_rules.specs.Words.{numbers}
use Rattle.wasm_check.specs.declared.operands.Operand.{Operand}
use Rattle.wasm_check.specs.declared.operands.Operand.TheVariants.{Of}
use Rattle.wasm_check.specs.Constants.{IsConstantInstr, constant_context, plain_tree, IsConstant}
use Rattle.wasm_check.specs.Contexts.{Context, funcs_of}
use Rattle.wasm_check.specs.Instructions.{Rule, IsTyped}
use Rattle.wasm_check.specs.Operands.{operands}
use Rattle.wasm_check.specs.Operators.{arrow, binary}
use Rattle.wasm_check.specs.code.Counts.{combines}
use Rattle.wasm_check.proofs.ConstantLemmas.{of-three, constant-kind, combined-type, same-type, takes-none, gives-kind}
use Rattle.wasm_reduction.specs.Configurations.{FuncRef, Value, I32, I64, Ref}
use Rattle.wasm_reduction.specs.Functions.{functions}
use Rattle.wasm_reduction.specs.Combinators.{valued, word_of}
use Rattle.wasm_reduction.specs.Instantiation.{combined, operated, constant, evaluated, only_sequence, only_value, value_of, globals_after}
use Rattle.wasm_reduction.proofs.ImageFunctions.{get-map, function-types}
use Rattle.wasm_soundness.specs.Values.{ValueIs, Hold, ofs}
use Rattle.wasm_soundness.proofs.Holding.{hold-match, hold-append, hold-takes, hold-get}
use Rattle.wasm_soundness.proofs.Steps.{null-is}

-- ---- add, sub and mul

abbrev type_where : Bool → ValType
type_where false = I32Type
type_where true = I64Type

word-there : (m : Module) (wide : Bool) (v : Value ℕ) → ValueIs m v (type_where wide) → (n : ℕ) × (word_of wide v ≡ Some n)
word-there m false (I32 n) h = (n, refl)
word-there m false (I64 n) h = absurd h
word-there m false (Ref r) h = absurd h
word-there m true (I32 n) h = absurd h
word-there m true (I64 n) h = (n, refl)
word-there m true (Ref r) h = absurd h

valued-is : (m : Module) (wide : Bool) (n : ℕ) → ValueIs m (valued wide n) (type_where wide)
valued-is m false n = tt
valued-is m true n = tt

combined-there : (m : Module) (wide : Bool) (op : ℕ) (vs : List (Value ℕ)) (rest : List Operand) → Hold m vs (Of (type_where wide) ∷ Of (type_where wide) ∷ rest) →
    (ws : List (Value ℕ)) × (combined wide op vs ≡ Some ws) × Hold m ws (Of (type_where wide) ∷ rest)
combined-there m wide op [] rest h = absurd h
combined-there m wide op (b ∷ []) rest h = absurd h.1
combined-there m wide op (b ∷ a ∷ vs) rest h =
    let y = word-there m wide b h.0 in
    let x = word-there m wide a h.1.0 in (
      valued wide (numbers.binary op x.0 y.0) ∷ vs,
      ap (option_and_then (λ y. option_map (λ x. valued wide (numbers.binary op x y) ∷ vs) (word_of wide a))) y.1
          ∙ ap (option_map (λ x. valued wide (numbers.binary op x y.0) ∷ vs)) x.1,
      (valued-is m wide (numbers.binary op x.0 y.0), h.1.1),
    )

not-narrow : (op : ℕ) → is_from 0x7C 0x7E op ≡ true → is_from 0x6A 0x6C op ≡ false
not-narrow op e = of-three 0x7C op (λ op. is_from 0x6A 0x6C op ≡ false) e refl refl refl

operated-there : (m : Module) (op : ℕ) (kind : ValType) (vs : List (Value ℕ)) (rest : List Operand) → combines op kind ≡ true → Hold m vs (Of kind ∷ Of kind ∷ rest) → (ws : List (Value ℕ)) × (operated op vs ≡ Some ws) × Hold m ws (Of kind ∷ rest)
operated-there m op I32Type vs rest e h =
    let w = combined-there m false op vs rest h in
    (w.0, ap (λ b. if b then combined false op vs else if is_from 0x7C 0x7E op then combined true op vs else None) e ∙ w.1, w.2)
operated-there m op I64Type vs rest e h =
    let w = combined-there m true op vs rest h in
    (w.0, ap (λ b. if b then combined false op vs else if is_from 0x7C 0x7E op then combined true op vs else None) (not-narrow op e) ∙ ap (λ b. if b then combined true op vs else None) e ∙ w.1, w.2)
operated-there m op FuncRefType vs rest e h = absurd cc
operated-there m op ExternRefType vs rest e h = absurd cc

-- ---- constant expressions

pub functions-count : (m : Module) → length (funcs_of m) ≡ length (functions m)
functions-count m = ap length (sym (function-types m)) ∙ length-map (functions m) (λ f. f.ty)

module _ (m : Module) (types : List GlobalType) (globals : List (Value ℕ)) (have : Hold m globals (ofs (map (λ t. t.kind) types))) where
  abbrev K : Context
  K = constant_context (length (funcs_of m)) types

  abbrev There : Instr → List (Value ℕ) → List Operand → Type 0
  There i vs ts = (ws : List (Value ℕ)) × (constant globals i vs ≡ Some ws) × Hold m ws ts

  put : (i : Instr) (v : Value ℕ) (k : ValType) (vs : List (Value ℕ)) (a b rest : List Operand) (t : FuncType) → t ≡ arrow [] (k ∷ []) → a ≡ operands t.params → b ≡ operands t.results → Hold m vs (a ++ rest) →
      constant globals i vs ≡ Some (v ∷ vs) → ValueIs m v k → There i vs (b ++ rest)
  put i v k vs a b rest t is ea eb h e p = (
    v ∷ vs,
    e,
    subst (λ b. Hold m (v ∷ vs) (b ++ rest)) (sym (gives-kind b t k is eb)) (p, subst (λ a. Hold m vs (a ++ rest)) (takes-none a t k is ea) h),
  )

  instr-there : (i : Instr) (vs : List (Value ℕ)) (a b rest : List Operand) → InstrHasShape i → IsConstantInstr types i → Rule K [] i a b → Hold m vs (a ++ rest) → There i vs (b ++ rest)
  instr-there (Const32 n) vs a b rest s c r h = put (Const32 n) (I32 n) I32Type vs a b rest r.0 r.1 r.2 r.3 h refl tt
  instr-there (Const64 n) vs a b rest s c r h = put (Const64 n) (I64 n) I64Type vs a b rest r.0 r.1 r.2 r.3 h refl tt
  instr-there (RefNull null) vs a b rest s c r h =
      let reference = null-is m null s in
      put (RefNull null) (Ref reference.0) null vs a b rest r.0 r.1 r.2 r.3 h (ap (option_map (λ r. Ref r ∷ vs)) reference.1) reference.2
  instr-there (RefFunc x) vs a b rest s c r h =
      let l : x < length (functions m) = let e = functions-count m in let lt = ltb-true x (length (funcs_of m)) r.1.0 in omega (arith, lt, e) in
      put (RefFunc x) (Ref (FuncRef (Some x))) FuncRefType vs a b rest r.0 r.1.1 r.2 r.3 h refl l
  instr-there (GlobalGet x) vs a b rest s c r h =
      let type : GlobalType = r.1.0 in
      let v = hold-get m globals (map (λ t. t.kind) types) x type.kind have (get-map (λ t. t.kind) types x ∙ ap (option_map (λ t. t.kind)) r.1.1) in
      put (GlobalGet x) v.0 type.kind vs a b rest r.0 r.1.2 r.2 r.3 h (ap (option_map (λ v. v ∷ vs)) v.1) v.2
  instr-there (Num op) vs a b rest s c r h =
      let k : (kind : ValType) × (combines op kind ≡ true) = constant-kind op c in
      let is : r.0 ≡ binary k.0 k.0 = same-type r.0 (binary k.0 k.0) (sym r.1 ∙ (combined-type op k.0 k.1).0) in
      let takes : a ≡ Of k.0 ∷ Of k.0 ∷ [] = r.2 ∙ ap (λ (t : FuncType). operands t.params) is in
      let gives : b ≡ Of k.0 ∷ [] = r.3 ∙ ap (λ (t : FuncType). operands t.results) is in
      let w = operated-there m op k.0 vs rest k.1 (subst (λ a. Hold m vs (a ++ rest)) takes h) in
      (w.0, w.1, subst (λ b. Hold m w.0 (b ++ rest)) (sym gives) w.2)
  instr-there _ vs a b rest s c r h = absurd c

  instrs-there : (is : List Instr) (vs : List (Value ℕ)) (ts us : List Operand) → All InstrHasShape is → All (IsConstantInstr types) is → IsTyped K [] (plain_tree is) ts us → Hold m vs ts →
      (ws : List (Value ℕ)) × (evaluated globals is vs ≡ Some ws) × Hold m ws us
  instrs-there [] vs ts us s c t h = (vs, refl, hold-match m vs ts us h t)
  instrs-there (i ∷ is) vs ts us s c t h =
      let one = instr-there i vs t.0 t.1 t.2 (All-head InstrHasShape i is s) (All-head (IsConstantInstr types) i is c) t.3 (hold-takes m vs ts t.0 t.2 h t.4) in
      let rest = instrs-there is one.0 (t.1 ++ t.2) us (All-tail InstrHasShape i is s) (All-tail (IsConstantInstr types) i is c) t.5 one.2 in
      (rest.0, ap (option_and_then (evaluated globals is)) one.1 ∙ rest.1, rest.2)

  only-there : (kind : ValType) (ws : List (Value ℕ)) → Hold m ws (Of kind ∷ []) → (v : Value ℕ) × (only_value ws ≡ Some v) × ValueIs m v kind
  only-there kind [] h = absurd h
  only-there kind (v ∷ []) h = (v, refl, h.0)
  only-there kind (v ∷ w ∷ ws) h = absurd h.1

  one-shape : (e : Expr) (is : List Instr) → e.seqs ≡ is ∷ [] → ExprHasShape e → All InstrHasShape is
  one-shape e is alone s = let first : SeqHasShape is = All-head SeqHasShape is [] (subst (All SeqHasShape) alone s.each) in first.each

  pub value-there : (e : Expr) (kind : ValType) → ExprHasShape e → IsConstant (length (funcs_of m)) types e kind → (v : Value ℕ) × (value_of globals e ≡ Some v) × ValueIs m v kind
  value-there e kind s is =
      let ws = instrs-there is.instrs [] [] (operands (kind ∷ [])) (one-shape e is.instrs is.alone s) is.constant is.typed tt in
      let v = only-there kind ws.0 ws.2 in (
        v.0,
        ap (λ seqs. option_and_then (λ is. option_and_then only_value (evaluated globals is [])) (only_sequence seqs)) is.alone ∙ ap (option_and_then only_value) ws.1 ∙ v.1,
        v.2,
      )

-- ---- the globals, in the order of their numbers

-- the globals that these may name, each those before it
abbrev Before : Module → List GlobalType → List GlobalDef → Type 0
Before m types gs = (j : ℕ) (g : GlobalDef) → slice_get gs j ≡ Some g → IsConstant (length (funcs_of m)) (take (length types + j) (types ++ map (λ g. g.ty) gs)) g.init g.ty.kind

take-first : {A : Type 0} (xs ys : List A) → take (length xs) (xs ++ ys) ≡ xs
take-first [] ys = refl
take-first (x ∷ xs) ys = ap (λ l. x ∷ l) (take-first xs ys)

pub globals-there : (m : Module) (done : List (Value ℕ)) (types : List GlobalType) (gs : List GlobalDef) → Hold m done (ofs (map (λ t. t.kind) types)) → Before m types gs → AllByRecursion (λ g. ExprHasShape g.init) gs →
    (vs : List (Value ℕ)) × (globals_after done gs ≡ Some vs) × Hold m vs (ofs (map (λ t. t.kind) (types ++ map (λ g. g.ty) gs)))
globals-there m done types [] have h s = (done, refl, subst (λ ts. Hold m done (ofs (map (λ t. t.kind) ts))) (sym (append-nil types)) have)
globals-there m done types (g ∷ gs) have h s =
    let here : take (length types + 0) (types ++ g.ty ∷ map (λ g. g.ty) gs) ≡ types =
    let none : length types + 0 ≡ length types = omega arith in ap (λ n. take n (types ++ g.ty ∷ map (λ g. g.ty) gs)) none ∙ take-first types (g.ty ∷ map (λ g. g.ty) gs) in
    let v = value-there m types done have g.init g.ty.kind s.0 (subst (λ ts. IsConstant (length (funcs_of m)) ts g.init g.ty.kind) here (h 0 g refl)) in
    let kinds : ofs (map (λ t. t.kind) (types ++ g.ty ∷ [])) ≡ ofs (map (λ t. t.kind) types) ++ Of g.ty.kind ∷ [] =
    ap ofs (map-append (λ t. t.kind) types (g.ty ∷ [])) ∙ map-append (λ t. Of t) (map (λ t. t.kind) types) (g.ty.kind ∷ []) in
    let more : Hold m (done ++ v.0 ∷ []) (ofs (map (λ t. t.kind) (types ++ g.ty ∷ []))) =
    subst (Hold m (done ++ v.0 ∷ [])) (sym kinds) (hold-append m done (v.0 ∷ []) (ofs (map (λ t. t.kind) types)) (Of g.ty.kind ∷ []) have (v.2, tt)) in
    let regroup : (types ++ g.ty ∷ []) ++ map (λ g. g.ty) gs ≡ types ++ g.ty ∷ map (λ g. g.ty) gs = append_assoc types (g.ty ∷ []) (map (λ g. g.ty) gs) in
    let rest = globals-there m (done ++ v.0 ∷ []) (types ++ g.ty ∷ []) gs more
    (λ j x e.
    let count : length types + suc j ≡ length (types ++ g.ty ∷ []) + j = let l = length-append types (g.ty ∷ []) in omega (arith, l) in
    subst (λ ts. IsConstant (length (funcs_of m)) ts x.init x.ty.kind) (ap (λ n. take n (types ++ g.ty ∷ map (λ g. g.ty) gs)) count ∙ ap (λ ts. take (length (types ++ g.ty ∷ []) + j) ts) (sym regroup)) (h (suc j) x e))
    s.1 in (
      rest.0,
      ap (option_and_then (λ v. globals_after (done ++ v ∷ []) gs)) v.1 ∙ rest.1,
      subst (λ ts. Hold m rest.0 (ofs (map (λ t. t.kind) ts))) regroup rest.2,
    )
