-- Lists of value types by what names them.
use Rattle.std.specs.Prelude.{◌≡◌, ℕ, List, [], ◌∷◌, Option, Some, None, slice_get}
use Rattle.wasm_ast.specs.declared.types.ValType.{ValType}
use Rattle.wasm_ast.specs.declared.types.FuncType.{FuncType}
use Rattle.type_suffixes.specs.declared.lists.Listed.{Listed}
use Rattle.type_suffixes.specs.declared.lists.Listed.TheVariants.{Nothing, One, Takes, Gives}

-- what a function type takes and gives, where there is one
abbrev pub params_at : Option FuncType → List ValType
params_at None = []
params_at (Some t) = t.params

abbrev pub results_at : Option FuncType → List ValType
results_at None = []
results_at (Some t) = t.results

-- the list of this name, where these are the function types
abbrev pub listed : List FuncType → Listed → List ValType
listed types Nothing = []
listed types (One t) = t ∷ []
listed types (Takes x) = params_at (slice_get types x)
listed types (Gives x) = results_at (slice_get types x)

-- by number, other names of lists
abbrev pub AreNames : List FuncType → (ℕ → Listed) → List Listed → Type 0
AreNames types name items = (x : ℕ) (first : Listed) → slice_get items x ≡ Some first → listed types first ≡ listed types (name x)

-- by number, which of some lists those are that these names have, where they are among them
abbrev pub AreAmong : List FuncType → List (List ValType) → (ℕ → Listed) → List (Option ℕ) → Type 0
AreAmong types all name items = (x k : ℕ) → slice_get items x ≡ Some (Some k) → slice_get all k ≡ Some (listed types (name x))
