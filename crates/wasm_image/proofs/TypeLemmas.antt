-- Each function of a valid module has a type.
use Rattle.std.proofs.Common.{◌≡◌, ℕ, suc, ◌<◌, List, [], ◌∷◌, length, get_or, refl, sym, ap, ◌∙◌, subst}
use Rattle.std.specs.Prelude.{Option, Some, None, IfSome, option_and_then, All, filter_map, map, slice_get}
use Rattle.std.specs.List.{cons_option}
use Rattle.std.proofs.lemmas.List.Elements.{All-nil, All-cons, All-head, All-tail, All-append, All-map}
use Rattle.std.proofs.lemmas.Option.{slice_get_read}
use Rattle.wasm_ast.specs.declared.types.FuncType.{FuncType}
use Rattle.wasm_ast.specs.declared.modules.ImportKind.{ImportKind}
use Rattle.wasm_ast.specs.declared.modules.ImportKind.TheVariants.{Func as FuncImport, Table as TableImport, Memory as MemoryImport, Global as GlobalImport}
use Rattle.wasm_ast.specs.declared.modules.Func.{Func}
use Rattle.wasm_ast.specs.declared.modules.Module.{Module}
use Rattle.wasm_check.specs.declared.sections.Section.TheVariants.{Imports, Functions}
use Rattle.wasm_check.specs.Contexts.{func_import, imported_funcs, funcs_of}
use Rattle.wasm_check.specs.Modules.{IsType, ImportIsValid, IsValid}
use Rattle.wasm_image.specs.Functions.{function_count, function_type}

-- what holds of each entry holds of all
pub all_entries : {A : Type 0} (P : A → Type 0) (xs : List A) → ((k : ℕ) (x : A) → slice_get xs k ≡ Some x → P x) → All P xs
all_entries P [] h = All-nil P
all_entries P (x ∷ xs) h = All-cons P x xs (h 0 x refl) (all_entries P xs (λ k. h (suc k)))

-- what holds of each value that there is holds of all that are kept
kept-one : {Y : Type 0} (P : Y → Type 0) (ys : List Y) (o : Option Y) → IfSome o P → All P ys → All P (cons_option o ys)
kept-one P ys None p h = h
kept-one P ys (Some y) p h = All-cons P y ys p h

all_kept : {X Y : Type 0} (g : X → Option Y) (P : Y → Type 0) (xs : List X) → All (λ x. IfSome (g x) P) xs → All P (filter_map g xs)
all_kept g P [] h = All-nil P
all_kept g P (x ∷ xs) h =
    kept-one P (filter_map g xs) (g x) (All-head (λ x. IfSome (g x) P) x xs h) (all_kept g P xs (All-tail (λ x. IfSome (g x) P) x xs h))

import-type : (m : Module) (k : ℕ) (kind : ImportKind) → ImportIsValid m k kind → IfSome (func_import kind) (IsType m)
import-type m k (FuncImport ty) valid = valid
import-type m k (TableImport type) valid = tt
import-type m k (MemoryImport limits) valid = tt
import-type m k (GlobalImport type) valid = tt

types_are_there : (m : Module) → IsValid m → All (IsType m) (funcs_of m)
types_are_there m valid =
    All-append (IsType m) (imported_funcs m) (map (λ f. f.ty) m.funcs)
    (all_kept (λ i. func_import i.kind) (IsType m) m.imports
    (all_entries (λ i. IfSome (func_import i.kind) (IsType m)) m.imports (λ k i e. import-type m k i.kind (valid Imports k i e))))
    (All-map (IsType m) (λ f. f.ty) m.funcs (all_entries (λ (f : Func). IsType m f.ty) m.funcs (λ k f e. valid Functions k f e)))

-- what is kept of the function f is the number of its type, which is there
pub type_there : (m : Module) (funcs : List ℕ) (f ty : ℕ) → IsValid m → funcs ≡ funcs_of m → f < function_count m → ty ≡ get_or funcs f ty → ty < length m.types
type_there m funcs f ty valid same lt here =
    let here' : ty ≡ get_or (funcs_of m) f ty = subst (λ (xs : List ℕ). ty ≡ get_or xs f ty) same here in
    subst (λ (n : ℕ). n < length m.types) (sym here') (types_are_there m valid f ty lt)

pub type_found : (m : Module) (funcs : List ℕ) (f ty : ℕ) (type : FuncType) → funcs ≡ funcs_of m → f < function_count m → ty ≡ get_or funcs f ty → slice_get m.types ty ≡ Some type → function_type m f ≡ Some type
type_found m funcs f ty type same lt here there =
    let here' : ty ≡ get_or (funcs_of m) f ty = subst (λ (xs : List ℕ). ty ≡ get_or xs f ty) same here in
    ap (option_and_then (λ ty. slice_get m.types ty)) (slice_get_read (funcs_of m) (function_count m) f ty refl lt here') ∙ there
