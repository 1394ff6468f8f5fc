-- The functions of a module: imported ones first, then its own (Structure, Modules: Indices).
use Rattle.std.specs.Prelude.{ℕ, List, Option, option_and_then, slice_get, length, filter, is_some}
use Rattle.wasm_ast.specs.declared.types.FuncType.{FuncType}
use Rattle.wasm_ast.specs.declared.modules.Import.{Import}
use Rattle.wasm_ast.specs.declared.modules.Module.{Module}
use Rattle.wasm_check.specs.Contexts.{func_import, funcs_of}

-- how many functions there are
abbrev pub function_count : Module → ℕ
function_count m = length (funcs_of m)

-- the type of the function f
abbrev pub function_type : Module → ℕ → Option FuncType
function_type m f = option_and_then (λ ty. slice_get m.types ty) (slice_get (funcs_of m) f)

-- the imports that are functions, in order
abbrev pub imported_functions : Module → List Import
imported_functions m = filter (λ i. is_some (func_import i.kind)) m.imports
