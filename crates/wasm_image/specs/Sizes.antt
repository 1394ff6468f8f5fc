-- Which memories and tables are too large to be run. Imported ones are counted, and come first.
use Rattle.std.specs.Prelude.{◌≡◌, ℕ, ◌<◌, ◌≤◌, List, length, map, take, All, Some, slice_get}
use Rattle.wasm_ast.specs.declared.types.Limits.{Limits}
use Rattle.wasm_ast.specs.declared.modules.Module.{Module}
use Rattle.wasm_check.specs.Contexts.{tables_of, memories_of}
use Rattle.wasm_image.specs.declared.sizes.Large.{Large}
use Rattle.wasm_image.specs.declared.sizes.Large.TheVariants.{Memory, Tables, Table}

-- in pages of 65,536 bytes
abbrev pub most_pages : ℕ
most_pages = 1024

abbrev pub most_tables : ℕ
most_tables = 64

-- of one table
abbrev pub most_elements : ℕ
most_elements = 65536

-- the size of each memory, in pages, and of each table, in elements
abbrev pub memory_limits : Module → List Limits
memory_limits m = memories_of m

abbrev pub table_limits : Module → List Limits
table_limits m = map (λ t. t.limits) (tables_of m)

-- no minimum is above the bound
abbrev pub AreAtMost : ℕ → List Limits → Type 0
AreAtMost bound limits = All (λ l. l.min ≤ bound) limits

-- this minimum is above the bound, and none before it is
pub record IsFirstAbove (bound : ℕ) (limits : List Limits) (min : ℕ) : Type 0 where
  pub place : ℕ
  pub there : Limits
  pub is_there : slice_get limits place ≡ Some there
  pub is_min : there.min ≡ min
  pub above : bound < min
  pub before : AreAtMost bound (take place limits)

-- what a module that is run meets
pub record FitsSizes (m : Module) : Type 0 where
  pub memories : AreAtMost most_pages (memory_limits m)
  pub count : length (tables_of m) ≤ most_tables
  pub tables : AreAtMost most_elements (table_limits m)

-- the first size that is too large: of a memory, else of the list of tables, else of a table
abbrev pub IsTooLarge : Module → Large → Type 0
IsTooLarge m (Memory min) = IsFirstAbove most_pages (memory_limits m) min
IsTooLarge m (Tables count) = AreAtMost most_pages (memory_limits m) × (count ≡ length (tables_of m)) × (most_tables < count)
IsTooLarge m (Table min) =
    AreAtMost most_pages (memory_limits m) × (length (tables_of m) ≤ most_tables)
    × IsFirstAbove most_elements (table_limits m) min
