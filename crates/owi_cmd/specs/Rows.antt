-- The rows of a report, from how a run came out, and the status that goes with them.
use Rattle.std.specs.Prelude.{List, [], if◌then◌else◌}
use Rattle.std.specs.List.{list_any}
use Rattle.wasm_ast.specs.declared.runs.Outcome.{Outcome}
use Rattle.wasm_ast.specs.declared.runs.Outcome.TheVariants.{Returns, Traps, Fails, Assumes, Bound, Deep}
use Rattle.owi_cmd.specs.Report.{is_found}
use Rattle.owi_cmd.specs.declared.report.Kind.{Kind}
use Rattle.owi_cmd.specs.declared.report.Kind.TheVariants.{Returns as KindReturns, Traps as KindTraps, Fails as KindFails, Bound as KindBound, Deep as KindDeep, Void as KindVoid}
use Rattle.owi_cmd.specs.declared.report.Row.{Row}
use Rattle.owi_cmd.specs.declared.status.Status.{Status}
use Rattle.owi_cmd.specs.declared.status.Status.TheVariants.{Done, Found}

-- Found exactly where some row traps or fails
abbrev pub status_of : List Row → Status
status_of rows = if list_any is_found rows then Found else Done

-- How a path without symbols ends, where its one run has this outcome: where an assumption fails, no input follows it.
abbrev pub kind_of : Outcome → Kind
kind_of (Returns values) = KindReturns values
kind_of (Traps cause) = KindTraps cause
kind_of Fails = KindFails
kind_of Assumes = KindVoid
kind_of Bound = KindBound
kind_of Deep = KindDeep

-- the one row of a run without symbols: no choices, no draws
abbrev pub only_row : Outcome → Row
only_row outcome = record { choices = []; kind = kind_of outcome; draws = [] }
