-- A module that can be run, so that the laws speak of something.
use Rattle.std.proofs.Common.{◌≡◌, ℕ, zero, suc, ◌+◌, ◌<◌, ◌≤◌, List, [], ◌∷◌, refl, subst, arith}
use Rattle.std.specs.Prelude.{All, Some, None, slice_get, slice_index}
use Rattle.std.proofs.lemmas.List.Elements.{All-nil, All-cons}
use Rattle.std.proofs.lemmas.Option.{slice_get_past}
use Rattle.wasm_ast.specs.Numbering.{names, after, IsNumbered}
use Rattle.wasm_ast.specs.Shape.{InstrHasShape, SeqHasShape, ExprHasShape, FuncTypeHasShape, ImportHasShape, FuncHasShape, IsReference, IsShort, ElemHasShape, SegmentHasShape, CustomHasShape, HasShape}
use Rattle.wasm_ast.specs.declared.types.ValType.TheVariants.{I32}
use Rattle.wasm_ast.specs.declared.types.FuncType.{FuncType}
use Rattle.wasm_ast.specs.declared.instructions.Instr.{Instr}
use Rattle.wasm_ast.specs.declared.instructions.Instr.TheVariants.{Const32, Num}
use Rattle.wasm_ast.specs.declared.modules.Func.{Func}
use Rattle.wasm_ast.specs.declared.modules.Export.{Export}
use Rattle.wasm_ast.specs.declared.modules.Space.TheVariants.{Func as FuncSpace}
use Rattle.wasm_check.specs.declared.operands.Operand.TheVariants.{Of}
use Rattle.wasm_check.specs.declared.sections.Section.TheVariants.{Imports, Functions, Tables, Memories, Globals, Exports, Start, Elements, Code, Data}
use Rattle.wasm_check.specs.Modules.{ExportIsValid, BodyIsValid, IsValid}
use Rattle.wasm_check.specs.Operators.{arrow}
use Rattle.wasm_check.specs.Trees.{Nothing, Plain}
use Rattle.wasm_image.specs.Hosts.{IsLinked}
use Rattle.wasm_image.specs.Ready.{IsReady}
use Rattle.wasm_soundness.specs.Examples.{sum_module}
use Rattle.wasm_soundness.specs.Laws.{CanBeRun, NamesFunction, Fit}
use Rattle.wasm_check.proofs.Examples.{no-entry, some-same}

abbrev sum_code : List Instr
sum_code = Const32 2 ∷ Const32 40 ∷ Num 0x6A ∷ []

abbrev sum_func : Func
sum_func = record { ty = 0; locals = []; body = record { seqs = sum_code ∷ [] } }

abbrev sum_type : FuncType
sum_type = arrow [] (I32 ∷ [])

abbrev sum_export : Export
sum_export = record { name = 102 ∷ []; space = FuncSpace; index = 0 }

-- ---- shape

-- a fact of the only entry is one of each
only-entry : {A : Type 0} (a : A) (P : ℕ → A → Type 0) → P 0 a → (k : ℕ) (x : A) → slice_get (a ∷ []) k ≡ Some x → P k x
only-entry a P h zero x e = subst (P 0) (some-same a x e) h
only-entry a P h (suc k) x e = absurd (no-entry k x e)

only : {A : Type 0} (P : A → Type 0) (a : A) → P a → All P (a ∷ [])
only P a h = All-cons P a [] h (All-nil P)

sum-numbered : IsNumbered (sum_code ∷ [])
sum-numbered = record {
  outermost = omega arith;
  ends = 1 ∷ [];
  are_ends = record { long = refl; each = only-entry sum_code (λ k instrs. after (1 ∷ []) (names instrs) (k + 1) ≡ Some (slice_index (1 ∷ []) k)) refl };
  all_inside = refl;
}

sum-seq : SeqHasShape sum_code
sum-seq = record {
  each = All-cons InstrHasShape (Const32 2) (Const32 40 ∷ Num 0x6A ∷ []) tt (All-cons InstrHasShape (Const32 40) (Num 0x6A ∷ []) tt (All-cons InstrHasShape (Num 0x6A) [] refl (All-nil InstrHasShape)));
  short = omega arith;
}

sum-has-shape : HasShape sum_module
sum-has-shape = record {
  types = only FuncTypeHasShape sum_type (record { params = omega arith; results = omega arith });
  imports = All-nil ImportHasShape;
  funcs = only FuncHasShape sum_func (record {
    locals = record { each = All-nil (λ g. 1 ≤ g.count); neighbours = λ k d l e. omega (arith, l); few = omega arith; short = omega arith };
    body = record { numbered = sum-numbered; each = only SeqHasShape sum_code sum-seq; short = omega arith };
  });
  tables = All-nil (λ t. IsReference t.kind);
  globals = All-nil (λ g. ExprHasShape g.init);
  exports = only (λ e. IsShort e.name) sum_export (omega arith);
  elems = All-nil ElemHasShape;
  segments = All-nil SegmentHasShape;
  customs = record { each = All-nil (CustomHasShape sum_module); in_order = λ i j d a l. absurd (omega (arith, l)) };
  lists = record { types = omega arith; imports = omega arith; funcs = omega arith; tables = omega arith; memories = omega arith; globals = omega arith; exports = omega arith; elems = omega arith; segments = omega arith; customs = omega arith };
}

-- ---- validity

sum-body-valid : BodyIsValid sum_module sum_func
sum-body-valid = record {
  type = sum_type;
  has_type = refl;
  tree = Plain (Const32 2) (Plain (Const32 40) (Plain (Num 0x6A) Nothing));
  is_tree = (Const32 40 ∷ Num 0x6A ∷ [], refl, tt, (Num 0x6A ∷ [], refl, tt, ([], refl, tt, refl)));
  typed = (
    [],
    Of I32 ∷ [],
    [],
    (arrow [] (I32 ∷ []), refl, refl, refl),
    refl,
    (
      [],
      Of I32 ∷ [],
      Of I32 ∷ [],
      (arrow [] (I32 ∷ []), refl, refl, refl),
      refl,
      (
        Of I32 ∷ Of I32 ∷ [],
        Of I32 ∷ [],
        [],
        (arrow (I32 ∷ I32 ∷ []) (I32 ∷ []), refl, refl, refl),
        (Of I32, Of I32 ∷ [], refl, refl, (Of I32, [], refl, refl, refl)),
        (refl, tt),
      ),
    ),
  );
}

sum-is-valid : IsValid sum_module
sum-is-valid Imports k = λ x e. absurd (no-entry k x e)
sum-is-valid Functions k = only-entry sum_func (λ k (f : Func). f.ty < 1) (omega arith) k
sum-is-valid Tables k = λ x e. absurd (no-entry k x e)
sum-is-valid Memories k = λ x e. absurd (no-entry k x e)
sum-is-valid Globals k = λ x e. absurd (no-entry k x e)
sum-is-valid Exports k = only-entry sum_export (λ k (e : Export). ExportIsValid sum_module k e) (record { there = omega arith; new_name = λ j other lt e. absurd (omega (arith, lt)) }) k
sum-is-valid Start k = λ x at e. cc
sum-is-valid Elements k = λ x e. absurd (no-entry k x e)
sum-is-valid Code k = only-entry sum_func (λ k (f : Func). BodyIsValid sum_module f) sum-body-valid k
sum-is-valid Data k = λ x e. absurd (no-entry k x e)

sum-is-ready : IsReady sum_module
sum-is-ready = record {
  linked = All-nil (IsLinked sum_module);
  fits = record { memories = All-nil (λ l. l.min ≤ 1024); count = omega arith; tables = All-nil (λ l. l.min ≤ 65536) };
}

pub sum-can-be-run : CanBeRun sum_module
sum-can-be-run = record { shape = sum-has-shape; valid = sum-is-valid; ready = sum-is-ready }

pub sum-takes-nothing : Fit sum_module 0 []
sum-takes-nothing = record { types = record { type = sum_type; has_type = refl; fit = refl }; named = All-nil (NamesFunction sum_module) }
