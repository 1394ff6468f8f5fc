-- Which row a line spells: one that ends in an outcome, as the report has it, with no terms.
use Rattle.std.specs.Prelude.{◌≡◌, ℕ, ◌^◌, ◌<◌, ◌≤◌, Bool, true, false, List, All, Some, None}
use Rattle.wasm_ast.specs.declared.runs.Value.{Value}
use Rattle.wasm_ast.specs.declared.runs.Value.TheVariants.{I32, I64, Func, Extern}
use Rattle.wasm_ast.specs.declared.runs.Draw.{Draw}
use Rattle.fork_tree.specs.declared.rows.Kind.{Kind}
use Rattle.fork_tree.specs.declared.rows.Kind.TheVariants.{Returns, Traps, Fails, Bound, Deep, Cut, Undecided, Void}
use Rattle.fork_tree.specs.declared.rows.Row.{Row}
use Rattle.fork_tree.specs.ShownTerms.{no_terms}
use Rattle.path_report.specs.Report.{path_text, draw_value}

-- the numbers of a value fit its type
abbrev pub Fits : Value → Type 0
Fits (I32 n) = n < 2 ^ 32
Fits (I64 n) = n < 2 ^ 64
Fits (Func (Some n)) = n < 2 ^ 32
Fits value = Unit {0}

-- the kinds that are outcomes of runs, their numbers fitting
abbrev pub IsOutcome : Kind → Type 0
IsOutcome (Returns values) = All Fits values
IsOutcome Cut = ⊥
IsOutcome Undecided = ⊥
IsOutcome Void = ⊥
IsOutcome kind = Unit {0}

-- a row that ends in an outcome, with no terms: its choices are 0 or 1, and its numbers fit their types
pub record IsOutcomeRow (row : Row) : Type 0 where
  pub choices : All (λ side. side ≤ 1) row.choices
  pub kind : IsOutcome row.kind
  pub draws : All (λ draw. Fits (draw_value draw)) row.draws
  pub terms : row.terms ≡ no_terms

-- a text is the line `path` of such a row, without its line feed
abbrev pub IsPathLine : List ℕ → Row → Type 0
IsPathLine text row = IsOutcomeRow row × (text ≡ path_text row)
