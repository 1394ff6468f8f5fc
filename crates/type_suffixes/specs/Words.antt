-- Words of value types: lists of them, by their numbers.
use Rattle.std.specs.Prelude.{◌≡◌, ℕ, ◌+◌, ◌≤◌, List, [], ◌++◌, Some, length, take, get_or, slice_get, slice_index}
use Rattle.wasm_ast.specs.declared.types.ValType.{ValType}

-- the word of this number; the empty one where there is none
abbrev pub word : List (List ValType) → ℕ → List ValType
word all k = get_or all k []

-- a list of types ends with another: something stands before it
abbrev pub EndsWith : List ValType → List ValType → Type 0
EndsWith types end = (front : List ValType) × (types ≡ front ++ end)

-- each word that there was is as it was
abbrev pub Keeps : List (List ValType) → List (List ValType) → Type 0
Keeps old new = (k : ℕ) (types : List ValType) → slice_get old k ≡ Some types → slice_get new k ≡ Some types

-- behind the numbers that were there stand those of the beginnings of a list, of its first 0, 1 .. n types
pub record AreBeginnings (all : List (List ValType)) (types : List ValType) (n : ℕ) (before numbers : List ℕ) : Type 0 where
  pub kept : take (length before) numbers ≡ before
  pub count : length numbers ≡ length before + n + 1
  pub each : (i : ℕ) → i ≤ n → slice_get all (slice_index numbers (length before + i)) ≡ Some (take i types)
