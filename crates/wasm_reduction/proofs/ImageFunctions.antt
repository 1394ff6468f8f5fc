-- The functions of the reduction are those that an image names.
use Rattle.std.proofs.Common.{◌≡◌, ℕ, zero, suc, ◌+◌, List, [], ◌∷◌, ◌++◌, map, length, refl, sym, ap, ◌∙◌, subst, arith}
use Rattle.std.specs.Prelude.{Bool, Option, Some, None, option_map, option_and_then, cond, is_some, slice_get, filter, filter_map}
use Rattle.std.specs.List.{cons_option}
use Rattle.std.proofs.lemmas.List.{map-append}
use Rattle.wasm_ast.specs.declared.types.FuncType.{FuncType}
use Rattle.wasm_ast.specs.declared.types.BlockType.{BlockType}
use Rattle.wasm_ast.specs.declared.types.BlockType.TheVariants.{Empty, One, Index}
use Rattle.wasm_ast.specs.declared.modules.Import.{Import}
use Rattle.wasm_ast.specs.declared.modules.Func.{Func}
use Rattle.wasm_ast.specs.declared.modules.Module.{Module}
use Rattle.wasm_check.specs.Contexts.{func_import, imported_funcs, funcs_of, context_of, block_type as context_block_type}
use Rattle.wasm_image.specs.declared.hosts.Host.{Host}
use Rattle.wasm_image.specs.declared.hosts.Host.TheVariants.{SymbolI32, SymbolI64, Assume, Assert}
use Rattle.wasm_image.specs.Functions.{function_type, imported_functions}
use Rattle.wasm_image.specs.Hosts.{host_name, IsHost, IsHostFunction}
use Rattle.wasm_reduction.specs.Functions.{Imported, Function, host_named, host_of, imported_as, defined_as, functions, type_of, block_type}
use Rattle.wasm_reduction.specs.Laws.{RunsHost, RunsCode}

-- ---- lists

pub get-map : {X Y : Type 0} (g : X → Y) (xs : List X) (k : ℕ) → slice_get (map g xs) k ≡ option_map g (slice_get xs k)
get-map g [] k = refl
get-map g (x ∷ xs) zero = refl
get-map g (x ∷ xs) (suc k) = get-map g xs k

pub map-both : {X Y Z : Type 0} (g : Y → Z) (xs : List X) (f : X → Y) → map g (map f xs) ≡ map (λ x. g (f x)) xs
map-both g [] f = refl
map-both g (x ∷ xs) f = ap (λ l. g (f x) ∷ l) (map-both g xs f)

pub get-second : {X : Type 0} (xs ys : List X) (k : ℕ) → slice_get (xs ++ ys) (length xs + k) ≡ slice_get ys k
get-second [] ys k = let none : 0 + k ≡ k = omega arith in ap (slice_get ys) none
get-second (x ∷ xs) ys k = let one : suc (length xs) + k ≡ suc (length xs + k) = omega arith in ap (slice_get (x ∷ xs ++ ys)) one ∙ get-second xs ys k

pub get-first : {X : Type 0} (xs ys : List X) (k : ℕ) (x : X) → slice_get xs k ≡ Some x → slice_get (xs ++ ys) k ≡ Some x
get-first [] ys k x e = absurd cc
get-first (y ∷ xs) ys zero x e = e
get-first (y ∷ xs) ys (suc k) x e = get-first xs ys k x e

-- ---- imports

abbrev import_function : Import → Option Function
import_function i = option_map (imported_as i) (func_import i.kind)

abbrev is_function : Import → Bool
is_function i = is_some (func_import i.kind)

abbrev Found : List Function → ℕ → Import → Type 0
Found fs f e = (ty : ℕ) × (slice_get fs f ≡ Some (imported_as e ty)) × (func_import e.kind ≡ Some ty)

one-found : (i : Import) (o : Option ℕ) (rest : List Import) (fs : List Function) → ((f : ℕ) (e : Import) → slice_get rest f ≡ Some e → Found fs f e) → func_import i.kind ≡ o →
    (f : ℕ) (e : Import) → slice_get (cond (is_some o) (i ∷ rest) rest) f ≡ Some e → Found (cons_option (option_map (imported_as i) o) fs) f e
one-found i None rest fs others is f e h = others f e h
one-found i (Some ty) rest fs others is zero e h =
    let same : i ≡ e = cc in
    (ty, ap (λ j. Some (imported_as j ty)) same, subst (λ j. func_import j.kind ≡ Some ty) same is)
one-found i (Some ty) rest fs others is (suc f) e h = others f e h

import-found : (is : List Import) (f : ℕ) (e : Import) → slice_get (filter is_function is) f ≡ Some e → Found (filter_map import_function is) f e
import-found [] f e h = absurd cc
import-found (i ∷ is) f e h = one-found i (func_import i.kind) (filter is_function is) (filter_map import_function is) (import-found is) refl f e h

import-types : (is : List Import) → map (λ f. f.ty) (filter_map import_function is) ≡ filter_map (λ i. func_import i.kind) is
import-types [] = refl
import-types (i ∷ is) = one (func_import i.kind) _ _ (import-types is)
  where
    one : (o : Option ℕ) (fs : List Function) (tys : List ℕ) → map (λ f. f.ty) fs ≡ tys → map (λ f. f.ty) (cons_option (option_map (imported_as i) o) fs) ≡ cons_option o tys
    one None fs tys e = e
    one (Some ty) fs tys e = ap (λ l. ty ∷ l) e

-- as many imports are functions
import-count : (is : List Import) → length (filter is_function is) ≡ length (filter_map import_function is)
import-count [] = refl
import-count (i ∷ is) = one (func_import i.kind) _ _ (import-count is)
  where
    one : (o : Option ℕ) (js : List Import) (fs : List Function) → length js ≡ length fs → length (cond (is_some o) (i ∷ js) js) ≡ length (cons_option (option_map (imported_as i) o) fs)
    one None js fs e = e
    one (Some ty) js fs e = ap suc e

-- ---- host functions

named : (h : Host) → host_named (host_name h) ≡ Some h
named SymbolI32 = refl
named SymbolI64 = refl
named Assume = refl
named Assert = refl

pub host-is : (m : Module) (i : Import) (h : Host) → IsHost m i h → host_of i ≡ Some h
host-is m i h is = rw is.from (ap host_named is.name ∙ named h)

pub runs-host : (m : Module) (f : ℕ) (h : Host) → IsHostFunction m f h → RunsHost m f h
runs-host m f h is =
    let found : Found (filter_map import_function m.imports) f is.entry = import-found m.imports f is.entry is.there in (
      found.0,
      get-first (filter_map import_function m.imports) (map defined_as m.funcs) f _ found.1
          ∙ ap (λ o. Some (record { ty = found.0; body = Imported o })) (host-is m is.entry h is.host),
    )

-- ---- functions with code

pub runs-code : (m : Module) (k : ℕ) (f : Func) → slice_get m.funcs k ≡ Some f → RunsCode m (length (imported_functions m) + k) f
runs-code m k f e =
    ap (λ n. slice_get (functions m) (n + k)) (import-count m.imports)
    ∙ get-second (filter_map import_function m.imports) (map defined_as m.funcs) k
    ∙ get-map defined_as m.funcs k ∙ ap (option_map defined_as) e

-- ---- types

pub function-types : (m : Module) → map (λ f. f.ty) (functions m) ≡ funcs_of m
function-types m =
    map-append (λ f. f.ty) (filter_map import_function m.imports) (map defined_as m.funcs)
    ∙ ap (λ l. l ++ map (λ f. f.ty) (map defined_as m.funcs)) (import-types m.imports)
    ∙ ap (λ l. imported_funcs m ++ l) (map-both (λ f. f.ty) m.funcs defined_as)

pub has-type : (m : Module) (f : ℕ) → option_and_then (type_of m) (slice_get (functions m) f) ≡ function_type m f
has-type m f =
    one (slice_get (functions m) f)
    ∙ ap (option_and_then (λ ty. slice_get m.types ty)) (sym (get-map (λ f. f.ty) (functions m) f) ∙ ap (λ l. slice_get l f) (function-types m))
  where
    one : (o : Option Function) → option_and_then (type_of m) o ≡ option_and_then (λ ty. slice_get m.types ty) (option_map (λ f. f.ty) o)
    one None = refl
    one (Some x) = refl

pub block-types : (m : Module) (f : Func) (type : FuncType) (ty : BlockType) → context_block_type (context_of m f type) ty ≡ block_type m ty
block-types m f type Empty = refl
block-types m f type (One t) = refl
block-types m f type (Index ty) = refl
