-- What is known of the functions and of the spaces of a valid module that is ready to be run.
use Rattle.std.proofs.Common.{◌≡◌, ℕ, suc, List, [], ◌∷◌, ◌++◌, map, refl, sym, ap, ◌∙◌}
use Rattle.std.specs.Prelude.{Option, Some, None, option_map, option_and_then, slice_get, filter_map}
use Rattle.std.specs.List.{AllByRecursion, cons_option}
use Rattle.wasm_ast.specs.Shape.{IsReference, FuncHasShape, HasShape}
use Rattle.wasm_ast.specs.declared.types.FuncType.{FuncType}
use Rattle.wasm_ast.specs.declared.modules.ImportKind.{ImportKind}
use Rattle.wasm_ast.specs.declared.modules.ImportKind.TheVariants.{Func as FuncImport, Table as TableImport, Memory as MemoryImport, Global as GlobalImport}
use Rattle.wasm_ast.specs.declared.modules.Import.{Import}
use Rattle.wasm_ast.specs.declared.modules.Func.{Func}
use Rattle.wasm_ast.specs.declared.modules.Module.{Module}
use Rattle.wasm_check.specs.declared.sections.Section.TheVariants.{Code as CodeSection}
use Rattle.wasm_check.specs.Contexts.{func_import, table_import, memory_import, global_import, imported_globals, tables_of, memories_of, globals_of}
use Rattle.wasm_check.specs.Modules.{BodyIsValid, IsValid}
use Rattle.wasm_image.specs.declared.hosts.Host.{Host}
use Rattle.wasm_image.specs.Functions.{function_type}
use Rattle.wasm_image.specs.Hosts.{host_type, IsHost, IsLinked}
use Rattle.wasm_image.specs.Ready.{IsReady}
use Rattle.wasm_reduction.specs.Functions.{Body, Code, Imported, Function, functions, type_of, imported_as, defined_as}
use Rattle.wasm_reduction.proofs.ImageFunctions.{host-is, has-type}
use Rattle.wasm_reduction.proofs.WideParts.{each-of, each-get, each-append}
use Rattle.wasm_reduction.proofs.WideStarts.{some-of}

-- a function of the type of this number runs this
abbrev pub BodyFits : Module → ℕ → Body → Type 0
BodyFits m ty (Code code) = (code.ty ≡ ty) × FuncHasShape code × BodyIsValid m code
BodyFits m ty (Imported o) = (h : Host) × (o ≡ Some h) × (slice_get m.types ty ≡ Some (host_type h))

pub record ModuleFits (m : Module) : Type 0 where
  pub functions : AllByRecursion (λ f. BodyFits m f.ty f.body) (functions m)
  pub tables : tables_of m ≡ m.tables
  pub memories : memories_of m ≡ m.memories
  pub globals : globals_of m ≡ map (λ g. g.ty) m.globals
  pub no_globals : imported_globals m ≡ []
  pub table_kinds : AllByRecursion (λ t. IsReference t.kind) m.tables

pub entries : {X : Type 0} (P : X → Type 0) (xs : List X) → ((k : ℕ) (x : X) → slice_get xs k ≡ Some x → P x) → AllByRecursion P xs
entries P [] h = tt
entries P (x ∷ xs) h = (h 0 x refl, entries P xs (λ k y e. h (suc k) y e))

-- ---- imports

abbrev TypeOf : Module → ImportKind → FuncType → Type 0
TypeOf m kind t = option_and_then (λ ty. slice_get m.types ty) (func_import kind) ≡ Some t

is-function : (m : Module) (kind : ImportKind) (t : FuncType) → TypeOf m kind t → (ty : ℕ) × (kind ≡ FuncImport ty) × (slice_get m.types ty ≡ Some t)
is-function m (FuncImport ty) t e = (ty, refl, e)
is-function m (TableImport x) t e = absurd cc
is-function m (MemoryImport x) t e = absurd cc
is-function m (GlobalImport x) t e = absurd cc

none-kept : {A : Type 0} (m : Module) (g : ImportKind → Option A) → ((ty : ℕ) → g (FuncImport ty) ≡ None) → (is : List Import) → AllByRecursion (IsLinked m) is → filter_map (λ i. g i.kind) is ≡ []
none-kept m g none [] h = refl
none-kept m g none (i ∷ is) h =
    let f = is-function m i.kind (host_type h.0.0) h.0.1.type in
    ap (λ o. cons_option o (filter_map (λ i. g i.kind) is)) (ap g f.1 ∙ none f.0) ∙ none-kept m g none is h.1

import-fits : (m : Module) (i : Import) (h : Host) → IsHost m i h → (o : Option ℕ) → func_import i.kind ≡ o → (fs : List Function) → AllByRecursion (λ f. BodyFits m f.ty f.body) fs →
    AllByRecursion (λ f. BodyFits m f.ty f.body) (cons_option (option_map (imported_as i) o) fs)
import-fits m i h is None e fs k = k
import-fits m i h is (Some ty) e fs k = ((h, host-is m i h is, sym (ap (option_and_then (λ ty. slice_get m.types ty)) e) ∙ is.type), k)

imports-fit : (m : Module) (is : List Import) → AllByRecursion (IsLinked m) is → AllByRecursion (λ f. BodyFits m f.ty f.body) (filter_map (λ i. option_map (imported_as i) (func_import i.kind)) is)
imports-fit m [] h = tt
imports-fit m (i ∷ is) h = import-fits m i h.0.0 h.0.1 (func_import i.kind) refl _ (imports-fit m is h.1)

-- ---- the module

own-fit : (m : Module) (fs : List Func) → AllByRecursion (BodyIsValid m) fs → AllByRecursion FuncHasShape fs → AllByRecursion (λ f. BodyFits m f.ty f.body) (map defined_as fs)
own-fit m [] h s = tt
own-fit m (f ∷ fs) h s = ((refl, s.0, h.0), own-fit m fs h.1 s.1)

pub module-fits : (m : Module) → HasShape m → IsValid m → IsReady m → ModuleFits m
module-fits m shape valid ready =
    let linked : AllByRecursion (IsLinked m) m.imports = each-of (IsLinked m) m.imports ready.linked in
    record {
      functions = each-append (λ f. BodyFits m f.ty f.body) (filter_map (λ i. option_map (imported_as i) (func_import i.kind)) m.imports) (map defined_as m.funcs)
          (imports-fit m m.imports linked)
          (own-fit m m.funcs (entries (BodyIsValid m) m.funcs (λ k f e. valid CodeSection k f e)) (each-of FuncHasShape m.funcs shape.funcs));
      tables = ap (λ l. l ++ m.tables) (none-kept m table_import (λ ty. refl) m.imports linked);
      memories = ap (λ l. l ++ m.memories) (none-kept m memory_import (λ ty. refl) m.imports linked);
      globals = ap (λ l. l ++ map (λ g. g.ty) m.globals) (none-kept m global_import (λ ty. refl) m.imports linked);
      no_globals = none-kept m global_import (λ ty. refl) m.imports linked;
      table_kinds = each-of (λ t. IsReference t.kind) m.tables shape.tables;
    }

-- a function that has a type is there
pub function-there : (m : Module) (x : ℕ) (t : FuncType) → function_type m x ≡ Some t → (f : Function) × (slice_get (functions m) x ≡ Some f) × (type_of m f ≡ Some t)
function-there m x t e = some-of (slice_get (functions m) x) (type_of m) t (has-type m x ∙ e)

pub function-fits : (m : Module) → ModuleFits m → (x : ℕ) (f : Function) → slice_get (functions m) x ≡ Some f → BodyFits m f.ty f.body
function-fits m fits x f e = each-get (λ f. BodyFits m f.ty f.body) (functions m) x f fits.functions e
