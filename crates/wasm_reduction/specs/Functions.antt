-- The functions of a module and their types (Execution, Runtime Structure: Function Instances).
--
-- A module that is run imports host functions alone. So its tables, its memory and its globals are its own.
use Rattle.std.specs.Prelude.{ℕ, Bool, true, false, ◌&&◌, if◌then◌else◌, List, [], ◌∷◌, ◌++◌, map, filter_map, flat_map, replicate, slice_get, Option, Some, None, option_map, bytes_eq, codes}
use Rattle.wasm_ast.specs.declared.types.ValType.{ValType}
use Rattle.wasm_ast.specs.declared.types.ValType.TheVariants.{I32 as I32Type, I64 as I64Type, FuncRef as FuncRefType, ExternRef as ExternRefType}
use Rattle.wasm_ast.specs.declared.types.FuncType.{FuncType}
use Rattle.wasm_ast.specs.declared.types.BlockType.{BlockType}
use Rattle.wasm_ast.specs.declared.types.BlockType.TheVariants.{Empty, One, Index}
use Rattle.wasm_ast.specs.declared.modules.Import.{Import}
use Rattle.wasm_ast.specs.declared.modules.Group.{Group}
use Rattle.wasm_ast.specs.declared.modules.Func.{Func}
use Rattle.wasm_ast.specs.declared.modules.Module.{Module}
use Rattle.wasm_rules.specs.Words.{Kind}
use Rattle.wasm_check.specs.Operands.{same_type}
use Rattle.wasm_check.specs.Contexts.{func_import}
use Rattle.wasm_check.specs.Operators.{arrow}
use Rattle.wasm_image.specs.declared.hosts.Host.{Host}
use Rattle.wasm_image.specs.declared.hosts.Host.TheVariants.{SymbolI32, SymbolI64, Assume, Assert}
use Rattle.wasm_image.specs.Hosts.{host_name}
use Rattle.wasm_reduction.specs.Configurations.{FuncRef, ExternRef, Value, I32, I64, Ref}

-- what a function runs: its code, or the host function that is imported, where it is one
pub data Body : Type 0 where
  Code : Func → Body
  Imported : Option Host → Body

-- a function: the number of its type, and what it runs
pub record Function : Type 0 where
  pub ty : ℕ
  pub body : Body

-- the host function of a name
abbrev pub host_named : List ℕ → Option Host
host_named name =
    if bytes_eq name (host_name SymbolI32) then Some SymbolI32
    else if bytes_eq name (host_name SymbolI64) then Some SymbolI64
    else if bytes_eq name (host_name Assume) then Some Assume
    else if bytes_eq name (host_name Assert) then Some Assert
    else None

-- the host functions are those of the module `symbolic`
abbrev pub host_of : Import → Option Host
host_of i = if bytes_eq i.module (codes "symbolic") then host_named i.name else None

-- an imported function of this type, and one with code
abbrev pub imported_as : Import → ℕ → Function
imported_as i ty = record { ty = ty; body = Imported (host_of i) }

abbrev pub defined_as : Func → Function
defined_as f = record { ty = f.ty; body = Code f }

-- the functions by their indices, the imported ones first
abbrev pub functions : Module → List Function
functions m = filter_map (λ i. option_map (imported_as i) (func_import i.kind)) m.imports ++ map defined_as m.funcs

abbrev pub type_of : Module → Function → Option FuncType
type_of m f = slice_get m.types f.ty

-- ---- types

abbrev pub same_types : List ValType → List ValType → Bool
same_types [] [] = true
same_types (s ∷ ss) (t ∷ ts) = same_type s t && same_types ss ts
same_types _ _ = false

abbrev pub same_function_type : FuncType → FuncType → Bool
same_function_type s t = same_types s.params t.params && same_types s.results t.results

-- what a block takes and gives
abbrev pub block_type : Module → BlockType → Option FuncType
block_type m Empty = Some (arrow [] [])
block_type m (One t) = Some (arrow [] (t ∷ []))
block_type m (Index ty) = slice_get m.types ty

-- ---- values

-- the default value of a type: 0, or null
abbrev pub default : {W : Type 0} → Kind W → ValType → Value W
default K I32Type = I32 (K.number 0)
default K I64Type = I64 (K.number 0)
default K FuncRefType = Ref (FuncRef None)
default K ExternRefType = Ref ExternRef

-- the locals of a function that aren't parameters, as they begin
abbrev pub first_locals : {W : Type 0} → Kind W → List Group → List (Value W)
first_locals K groups = flat_map (λ g. replicate g.count (default K g.kind)) groups
