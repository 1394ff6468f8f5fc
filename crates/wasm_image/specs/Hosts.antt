-- The host functions, and which imports are host functions.
--
-- A module that is run may import these four, of the module `symbolic`, and nothing else.
use Rattle.std.specs.Prelude.{◌≡◌, ℕ, List, [], ◌∷◌, take, All, Option, Some, option_and_then, slice_get, codes}
use Rattle.wasm_ast.specs.declared.types.ValType.TheVariants.{I32, I64}
use Rattle.wasm_ast.specs.declared.types.FuncType.{FuncType}
use Rattle.wasm_ast.specs.declared.modules.Import.{Import}
use Rattle.wasm_ast.specs.declared.modules.Module.{Module}
use Rattle.wasm_check.specs.Contexts.{func_import}
use Rattle.wasm_check.specs.Operators.{arrow}
use Rattle.wasm_image.specs.declared.hosts.Host.{Host}
use Rattle.wasm_image.specs.declared.hosts.Host.TheVariants.{SymbolI32, SymbolI64, Assume, Assert}
use Rattle.wasm_image.specs.Functions.{imported_functions}

abbrev pub host_name : Host → List ℕ
host_name SymbolI32 = codes "i32_symbol"
host_name SymbolI64 = codes "i64_symbol"
host_name Assume = codes "assume"
host_name Assert = codes "assert"

abbrev pub host_type : Host → FuncType
host_type SymbolI32 = arrow [] (I32 ∷ [])
host_type SymbolI64 = arrow [] (I64 ∷ [])
host_type Assume = arrow (I32 ∷ []) []
host_type Assert = arrow (I32 ∷ []) []

-- the type of the function that is imported, where it is a function
abbrev pub import_type : Module → Import → Option FuncType
import_type m i = option_and_then (λ ty. slice_get m.types ty) (func_import i.kind)

-- the import is this host function: its module, its name and its type are the host function's
pub record IsHost (m : Module) (i : Import) (h : Host) : Type 0 where
  pub from : i.module ≡ codes "symbolic"
  pub name : i.name ≡ host_name h
  pub type : import_type m i ≡ Some (host_type h)

-- the import is a host function
abbrev pub IsLinked : Module → Import → Type 0
IsLinked m i = (h : Host) × IsHost m i h

-- each import is a host function
abbrev pub AreLinked : Module → Type 0
AreLinked m = All (IsLinked m) m.imports

-- the import k is no host function, and each before it is one
pub record IsFirstUnlinked (m : Module) (k : ℕ) : Type 0 where
  pub entry : Import
  pub there : slice_get m.imports k ≡ Some entry
  pub unlinked : ¬ IsLinked m entry
  pub before : All (IsLinked m) (take k m.imports)

-- the function f is imported, and is this host function
pub record IsHostFunction (m : Module) (f : ℕ) (h : Host) : Type 0 where
  pub entry : Import
  pub there : slice_get (imported_functions m) f ≡ Some entry
  pub host : IsHost m entry h
