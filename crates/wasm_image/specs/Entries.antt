-- Which function an export names, and which arguments fit it (Execution, Modules: Invocation).
use Rattle.std.specs.Prelude.{◌≡◌, ℕ, List, map, Contains, Some}
use Rattle.wasm_ast.specs.declared.types.ValType.{ValType}
use Rattle.wasm_ast.specs.declared.types.ValType.TheVariants.{I32 as I32Type, I64 as I64Type, FuncRef, ExternRef}
use Rattle.wasm_ast.specs.declared.types.FuncType.{FuncType}
use Rattle.wasm_ast.specs.declared.runs.Value.{Value}
use Rattle.wasm_ast.specs.declared.runs.Value.TheVariants.{I32, I64, Func, Extern}
use Rattle.wasm_ast.specs.declared.modules.Space.TheVariants.{Func as FuncSpace}
use Rattle.wasm_ast.specs.declared.modules.Export.{Export}
use Rattle.wasm_ast.specs.declared.modules.Module.{Module}
use Rattle.wasm_image.specs.declared.entries.EntryBad.{EntryBad}
use Rattle.wasm_image.specs.declared.entries.EntryBad.TheVariants.{NoExport, Args}
use Rattle.wasm_image.specs.Functions.{function_type}

-- the type of a value (Execution, Runtime Structure: Values)
abbrev pub type_of : Value → ValType
type_of (I32 n) = I32Type
type_of (I64 n) = I64Type
type_of (Func f) = FuncRef
type_of Extern = ExternRef

-- the function f is exported by this name
abbrev pub IsExported : Module → List ℕ → ℕ → Type 0
IsExported m name f =
    let export : Export = record { name = name; space = FuncSpace; index = f } in
    Contains m.exports export

-- the types of the arguments are the function's parameters
pub record AreArguments (m : Module) (f : ℕ) (args : List Value) : Type 0 where
  pub type : FuncType
  pub has_type : function_type m f ≡ Some type
  pub fit : map type_of args ≡ type.params

-- the function f is exported by this name, and takes these arguments
pub record IsEntry (m : Module) (name : List ℕ) (args : List Value) (f : ℕ) : Type 0 where
  pub exported : IsExported m name f
  pub fits : AreArguments m f args

-- why there is no such function: none is exported by this name, or the one that is doesn't take these arguments
abbrev pub IsNoEntry : Module → List ℕ → List Value → EntryBad → Type 0
IsNoEntry m name args NoExport = (f : ℕ) → ¬ IsExported m name f
IsNoEntry m name args (Args f) = IsExported m name f × ¬ AreArguments m f args
