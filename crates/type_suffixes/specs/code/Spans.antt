-- Lists of types by the numbers of the words of their beginnings, which stand one after another. No public contract speaks of it.
use Rattle.std.specs.Prelude.{◌≡◌, ℕ, ◌+◌, ◌<◌, ◌≤◌, List, Some, length, map, take, slice_get, slice_index}
use Rattle.wasm_ast.specs.declared.types.ValType.{ValType}
use Rattle.type_suffixes.specs.declared.endings.Span.{Span}
use Rattle.type_suffixes.specs.Words.{word}

-- the list of a span: the word of the last of its beginnings
abbrev pub list_of : List (List ValType) → List ℕ → Span → List ValType
list_of all numbers span = word all (slice_index numbers (span.start + span.count))

-- the lists of some spans
abbrev pub lists_of : List (List ValType) → List ℕ → List Span → List (List ValType)
lists_of all numbers spans = map (list_of all numbers) spans

-- the numbers of a span are those of the beginnings of its list
pub record IsBegun (all : List (List ValType)) (numbers : List ℕ) (span : Span) : Type 0 where
  pub within : span.start + span.count < length numbers
  pub same_length : length (list_of all numbers span) ≡ span.count
  pub each : (i : ℕ) → i ≤ span.count → slice_get all (slice_index numbers (span.start + i)) ≡ Some (take i (list_of all numbers span))

-- those of each span are
abbrev pub AreBegun : List (List ValType) → List ℕ → List Span → Type 0
AreBegun all numbers spans = (k : ℕ) (span : Span) → slice_get spans k ≡ Some span → IsBegun all numbers span
