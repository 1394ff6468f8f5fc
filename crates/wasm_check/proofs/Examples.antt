-- Bodies and modules that compute: what the definitions say of them.
use Rattle.std.proofs.Common.{◌≡◌, ℕ, zero, suc, ◌<◌, List, [], ◌∷◌, refl, subst, arith}
use Rattle.std.specs.Prelude.{Some, None, false, slice_get}
use Rattle.std.proofs.lemmas.Option.{slice_get_past}
use Rattle.wasm_ast.specs.declared.types.ValType.{ValType}
use Rattle.wasm_ast.specs.declared.types.ValType.TheVariants.{I32, I64, FuncRef}
use Rattle.wasm_ast.specs.declared.types.BlockType.TheVariants.{One, Index}
use Rattle.wasm_ast.specs.declared.types.FuncType.{FuncType}
use Rattle.wasm_ast.specs.declared.instructions.Instr.TheVariants.{Unreachable, Br, BrTable, Return, RefIsNull, RefNull, Discard, Select, Const32, Const64, Num}
use Rattle.wasm_ast.specs.declared.modules.Func.{Func}
use Rattle.wasm_ast.specs.declared.modules.Export.{Export}
use Rattle.wasm_ast.specs.declared.modules.Space.TheVariants.{Func as FuncSpace}
use Rattle.wasm_ast.specs.declared.modules.Module.{Module}
use Rattle.wasm_ast.specs.Straight.{straight_module}
use Rattle.wasm_check.specs.declared.sections.Section.TheVariants.{Imports, Functions, Tables, Memories, Globals, Exports, Start, Elements, Code, Data}
use Rattle.wasm_check.specs.code.Checker.{fault, start_of}
use Rattle.wasm_check.specs.Contexts.{Context, context_of}
use Rattle.wasm_check.specs.Faults.{IsFirstFault}
use Rattle.wasm_check.specs.Instructions.{IsValidBody}
use Rattle.wasm_check.specs.Modules.{ExportIsValid, BodyIsValid, IsValid}
use Rattle.wasm_check.specs.Operators.{arrow}
use Rattle.wasm_check.specs.Trees.{Tree, Nothing, Plain, Blocks, Loops, body_tokens}
use Rattle.wasm_check.proofs.Faults.{passed-valid, named-first, valid-passed}

-- a function with these results, and nothing else
abbrev bare : List ValType → Context
bare results = record {
  types = arrow (I32 ∷ []) [] ∷ [];
  funcs = [];
  tables = [];
  memories = [];
  globals = [];
  elems = [];
  datas = 0;
  declared = λ x. false;
  locals = [];
  results = results;
}

-- `unreachable; select; ref.is_null; drop`: the operand of `select` is of the type that matches every type
bottom_select : IsValidBody (bare []) (Plain Unreachable (Plain Select (Plain RefIsNull (Plain Discard Nothing))))
bottom_select = passed-valid (bare []) (Plain Unreachable (Plain Select (Plain RefIsNull (Plain Discard Nothing)))) refl

-- `i32.const 1; return; i64.add; drop`
after_return : IsValidBody (bare (I32 ∷ [])) (Plain (Const32 1) (Plain Return (Plain (Num 0x7C) (Plain Discard Nothing))))
after_return = passed-valid (bare (I32 ∷ [])) (Plain (Const32 1) (Plain Return (Plain (Num 0x7C) (Plain Discard Nothing)))) refl

-- an empty body where a result is wanted: its end is the fault
empty_invalid : IsValidBody (bare (I32 ∷ [])) Nothing → ⊥
empty_invalid v = let e : fault (bare (I32 ∷ [])) (body_tokens Nothing) (start_of (bare (I32 ∷ []))) ≡ None = valid-passed (bare (I32 ∷ [])) Nothing v in cc

empty_fault : IsFirstFault (bare (I32 ∷ [])) (body_tokens Nothing) 0
empty_fault = named-first (bare (I32 ∷ [])) Nothing 0 refl

-- `i64.const 1; i32.eqz; drop`
wrong_operand : IsFirstFault (bare []) (body_tokens (Plain (Const64 1) (Plain (Num 0x45) (Plain Discard Nothing)))) 1
wrong_operand = named-first (bare []) (Plain (Const64 1) (Plain (Num 0x45) (Plain Discard Nothing))) 1 refl

-- `select` of two references
select_of_references : IsFirstFault (bare []) (body_tokens (Plain (RefNull FuncRef) (Plain (RefNull FuncRef) (Plain (Const32 0) (Plain Select (Plain Discard Nothing)))))) 3
select_of_references = named-first (bare []) (Plain (RefNull FuncRef) (Plain (RefNull FuncRef) (Plain (Const32 0) (Plain Select (Plain Discard Nothing))))) 3 refl

-- a branch to a loop's label carries what the loop takes
loop_label : IsValidBody (bare []) (Plain (Const32 0) (Loops (Index 0) (Plain (Br 0) Nothing) Nothing))
loop_label = passed-valid (bare []) (Plain (Const32 0) (Loops (Index 0) (Plain (Br 0) Nothing) Nothing)) refl

-- in code that isn't reached the labels of `br_table` may have two types
two_types : IsValidBody (bare []) (Blocks (One I64) (Blocks (One I32) (Plain Unreachable (Plain (BrTable (1 ∷ []) 0) Nothing)) (Plain Discard (Plain (Const64 0) Nothing))) (Plain Discard Nothing))
two_types = passed-valid (bare []) (Blocks (One I64) (Blocks (One I32) (Plain Unreachable (Plain (BrTable (1 ∷ []) 0) Nothing)) (Plain Discard (Plain (Const64 0) Nothing))) (Plain Discard Nothing)) refl

-- ---- a module

abbrev sum_body : Tree
sum_body = Plain (Const32 2) (Plain (Const32 40) (Plain (Num 0x6A) Nothing))

-- one function that gives 2 + 40
abbrev sum_module : Module
sum_module = straight_module (102 ∷ []) (Const32 2 ∷ Const32 40 ∷ Num 0x6A ∷ [])

pub no-entry : {A : Type 0} (k : ℕ) (x : A) → slice_get [] k ≡ Some x → ⊥
no-entry {A} k x e = let past : slice_get [] k ≡ None = slice_get_past {X = A} [] k (omega arith) in cc

no-second : {A : Type 0} (a : A) (k : ℕ) (x : A) → slice_get (a ∷ []) (suc k) ≡ Some x → ⊥
no-second a k x e = no-entry k x e

pub some-same : {A : Type 0} (a x : A) → Some a ≡ Some x → a ≡ x
some-same a x e = cc

abbrev sum_func : Func
sum_func = record { ty = 0; locals = []; body = record { seqs = (Const32 2 ∷ Const32 40 ∷ Num 0x6A ∷ []) ∷ [] } }

abbrev sum_type : FuncType
sum_type = arrow [] (I32 ∷ [])

sum_body_is_valid : BodyIsValid sum_module sum_func
sum_body_is_valid = record {
  type = sum_type;
  has_type = refl;
  tree = sum_body;
  is_tree = (Const32 40 ∷ Num 0x6A ∷ [], refl, tt, (Num 0x6A ∷ [], refl, tt, ([], refl, tt, refl)));
  typed = passed-valid (context_of sum_module sum_func sum_type) sum_body refl;
}

sum_export_is_valid : ExportIsValid sum_module 0 (record { name = 102 ∷ []; space = FuncSpace; index = 0 })
sum_export_is_valid = record { there = omega arith; new_name = λ j other lt e. absurd (omega (arith, lt)) }

-- a fact of the only entry is one of each
only_entry : {A : Type 0} (a : A) (P : ℕ → A → Type 0) → P 0 a → (k : ℕ) (x : A) → slice_get (a ∷ []) k ≡ Some x → P k x
only_entry a P h zero x e = subst (P 0) (some-same a x e) h
only_entry a P h (suc k) x e = absurd (no-second a k x e)

abbrev sum_export : Export
sum_export = record { name = 102 ∷ []; space = FuncSpace; index = 0 }

sum_is_valid : IsValid sum_module
sum_is_valid Imports k = λ x e. absurd (no-entry k x e)
sum_is_valid Functions k = only_entry sum_func (λ k (f : Func). f.ty < 1) (omega arith) k
sum_is_valid Tables k = λ x e. absurd (no-entry k x e)
sum_is_valid Memories k = λ x e. absurd (no-entry k x e)
sum_is_valid Globals k = λ x e. absurd (no-entry k x e)
sum_is_valid Exports k = only_entry sum_export (λ k (e : Export). ExportIsValid sum_module k e) sum_export_is_valid k
sum_is_valid Start k = λ x at e. cc
sum_is_valid Elements k = λ x e. absurd (no-entry k x e)
sum_is_valid Code k = only_entry sum_func (λ k (f : Func). BodyIsValid sum_module f) sum_body_is_valid k
sum_is_valid Data k = λ x e. absurd (no-entry k x e)
