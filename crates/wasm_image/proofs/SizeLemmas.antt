-- Of sizes: the first minimum that is above a bound.
use Rattle.std.proofs.Common.{ℕ, ◌+◌, ◌<◌, ◌≤◌, List, length, get_or, take, map, refl, sym, ap, ◌∙◌, subst}
use Rattle.std.specs.Prelude.{All}
use Rattle.std.specs.Option.{option_map}
use Rattle.std.proofs.lemmas.List.{take-map, take_all}
use Rattle.std.proofs.lemmas.List.Elements.{All-map, All-more}
use Rattle.std.proofs.lemmas.Option.{slice_get-map, slice_get-get_or}
use Rattle.wasm_ast.specs.declared.types.Limits.{Limits}
use Rattle.wasm_ast.specs.declared.types.TableType.{TableType}
use Rattle.wasm_image.specs.Sizes.{AreAtMost, IsFirstAbove}

-- one more, and all
pub at_most-more : (bound : ℕ) (limits : List Limits) (k : ℕ) (d : Limits) → k < length limits → AreAtMost bound (take k limits) → (get_or limits k d).min ≤ bound → AreAtMost bound (take (k + 1) limits)
at_most-more bound limits k d lt before at = All-more (λ (l : Limits). l.min ≤ bound) limits k d lt before at

pub at_most-all : (bound : ℕ) (limits : List Limits) (k : ℕ) → length limits ≤ k → AreAtMost bound (take k limits) → AreAtMost bound limits
at_most-all bound limits k end h = subst (AreAtMost bound) (take_all k limits end) h

-- the tables so far
abbrev pub TablesAtMost : ℕ → List TableType → Type 0
TablesAtMost bound tables = All (λ t. t.limits.min ≤ bound) tables

tables_at_most : (bound : ℕ) (tables : List TableType) → TablesAtMost bound tables → AreAtMost bound (map (λ t. t.limits) tables)
tables_at_most bound tables h = All-map (λ (l : Limits). l.min ≤ bound) (λ (t : TableType). t.limits) tables h

pub tables-more : (bound : ℕ) (tables : List TableType) (k : ℕ) (d : TableType) → k < length tables → TablesAtMost bound (take k tables) → (get_or tables k d).limits.min ≤ bound → TablesAtMost bound (take (k + 1) tables)
tables-more bound tables k d lt before at = All-more (λ (t : TableType). t.limits.min ≤ bound) tables k d lt before at

pub tables-all : (bound : ℕ) (tables : List TableType) (k : ℕ) → length tables ≤ k → TablesAtMost bound (take k tables) → AreAtMost bound (map (λ t. t.limits) tables)
tables-all bound tables k end h = tables_at_most bound tables (subst (TablesAtMost bound) (take_all k tables end) h)

pub first_table_above : (bound : ℕ) (tables : List TableType) (k : ℕ) (d : TableType) → k < length tables → bound < (get_or tables k d).limits.min → TablesAtMost bound (take k tables) →
    IsFirstAbove bound (map (λ t. t.limits) tables) (get_or tables k d).limits.min
first_table_above bound tables k d lt above before =
    let limits : TableType → Limits = λ t. t.limits in
    record {
      place = k;
      there = (get_or tables k d).limits;
      is_there = slice_get-map limits tables k ∙ ap (option_map limits) (slice_get-get_or tables k d lt);
      is_min = refl;
      above = above;
      before = subst (AreAtMost bound) (sym (take-map limits k tables)) (tables_at_most bound (take k tables) before);
    }
