-- What uses of types mean (Text Format, Modules: Type Uses; Instructions: Control Instructions).
--
-- A block's use without a type, without params and with at most one result is of no type. Every other use is of one, by its number.
-- Where it names none, that is the first equal type; where there is no equal one, a type is appended, after all that the text writes,
-- in the order of the uses in the text.
use Rattle.std.specs.Prelude.{ℕ, suc, Bool, true, false, ◌==◌, ◌&&◌, nat_le, if◌then◌else◌, List, [], ◌∷◌, ◌++◌, length, map, replicate, slice_get, Option, Some, None, option_map, option_and_then}
use Rattle.wasm_ast.specs.declared.types.ValType.{ValType}
use Rattle.wasm_ast.specs.declared.types.ValType.TheVariants.{I32, I64, FuncRef, ExternRef}
use Rattle.wasm_ast.specs.declared.types.FuncType.{FuncType}
use Rattle.wasm_ast.specs.declared.types.BlockType.{BlockType}
use Rattle.wasm_ast.specs.declared.types.BlockType.TheVariants.{Empty, One, Index}
use Rattle.wasm_text.specs.declared.named.Id.{Id}
use Rattle.wasm_text.specs.declared.named.Idx.{Idx}
use Rattle.wasm_text.specs.declared.named.Use.{Use}
use Rattle.wasm_text.specs.Names.{position}
use Rattle.wasm_text.specs.TextInstructions.{or_zero}

-- ---- equal types

abbrev pub same_kind : ValType → ValType → Bool
same_kind I32 I32 = true
same_kind I64 I64 = true
same_kind FuncRef FuncRef = true
same_kind ExternRef ExternRef = true
same_kind a b = false

abbrev pub same_kinds : List ValType → List ValType → Bool
same_kinds [] [] = true
same_kinds (a ∷ rest) (b ∷ others) = same_kind a b && same_kinds rest others
same_kinds these those = false

abbrev pub same_type : FuncType → FuncType → Bool
same_type a b = same_kinds a.params b.params && same_kinds a.results b.results

-- the position of the first equal type
abbrev pub type_position : FuncType → List FuncType → Option ℕ
type_position ty [] = None
type_position ty (other ∷ rest) = if same_type ty other then Some 0 else option_map suc (type_position ty rest)

-- ---- the types of a module

-- what a use writes, identifiers aside
abbrev pub written_type : Use → FuncType
written_type u = record { params = map (λ p. p.kind) u.params; results = u.results }

-- no params and no results are written
abbrev pub is_bare : Use → Bool
is_bare u = length u.params == 0 && length u.results == 0

-- a block's of no type, where it names none
abbrev pub is_short : Use → Bool
is_short u = u.of_block && length u.params == 0 && nat_le (length u.results) 1

abbrev pub appended : FuncType → List FuncType → Option ℕ → List FuncType
appended ty types None = types ++ ty ∷ []
appended ty types (Some at) = types

abbrev pub with_use_of : Use → List FuncType → Option Idx → List FuncType
with_use_of u types (Some x) = types
with_use_of u types None = if is_short u then types else appended (written_type u) types (type_position (written_type u) types)

-- the types after those that these uses append
abbrev pub types_with : List FuncType → List Use → List FuncType
types_with types [] = types
types_with types (u ∷ rest) = types_with (with_use_of u types u.ty) rest

-- ---- what a use is of

-- the types of a module, with the identifiers of those that are written
pub record Types : Type 0 where
  pub text : List ℕ
  pub ids : List (Option Id)
  pub all : List FuncType

-- the number of the type, where there is one by that name
abbrev pub use_position : Types → Use → Option Idx → Option ℕ
use_position t u None = type_position (written_type u) t.all
use_position t u (Some x) = position t.text t.ids x

abbrev pub type_index : Types → Use → ℕ
type_index t u = or_zero (use_position t u u.ty)

abbrev pub one_result : List ValType → BlockType
one_result [] = Empty
one_result (kind ∷ rest) = One kind

abbrev pub block_type_of : Types → Use → Option Idx → BlockType
block_type_of t u None = if is_short u then one_result u.results else Index (type_index t u)
block_type_of t u (Some x) = Index (type_index t u)

abbrev pub block_type : Types → Use → BlockType
block_type t u = block_type_of t u u.ty

-- ---- params in the numbering of a function's locals

abbrev pub unnamed_params_of : Option FuncType → List (Option Id)
unnamed_params_of None = []
unnamed_params_of (Some ty) = replicate (length ty.params) None

abbrev pub param_ids_of : Types → Use → Option Idx → List (Option Id)
param_ids_of t u None = map (λ p. p.id) u.params
param_ids_of t u (Some x) =
    if is_bare u then unnamed_params_of (option_and_then (slice_get t.all) (position t.text t.ids x)) else map (λ p. p.id) u.params

-- Of a use that names its type alone, the params are that type's; where that type isn't there, none. Else they are those that are written.
abbrev pub param_ids : Types → Use → List (Option Id)
param_ids t u = param_ids_of t u u.ty
