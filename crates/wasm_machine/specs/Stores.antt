-- The tables of a state, and the cells of the memory beside it.
use Rattle.std.specs.Prelude.{ℕ, ◌<◌, ◌^◌, true, List, [], length, All, slice_get, slice_set, unwrap_or}
use Rattle.std.specs.List.{AllByRecursion}
use Rattle.wasm_machine.specs.declared.values.Reference.{Reference}
use Rattle.wasm_machine.specs.States.{State}

-- one list of several: the elements of a table, or the references of an element segment
abbrev pub list_at : List (List Reference) → ℕ → List Reference
list_at lists x = unwrap_or (slice_get lists x) []

-- the sizes of tables can be written as words of 32 bits
abbrev pub TablesSmall : {X : Type 0} → State X → Type 0
TablesSmall s = AllByRecursion (λ t. length t < 2 ^ 32) s.tables

-- The cells of the memory are held, and each of them is a byte.
pub record CellsReady {A V M : Type 0} (H : A → V → Type 0) (Has : ℕ → M → Type 0) (means : A → V → M) (a : A) (cells : List V) : Type 0 where
  pub held : All (H a) cells
  pub width : All (λ b. Has 8 (means a b)) cells
