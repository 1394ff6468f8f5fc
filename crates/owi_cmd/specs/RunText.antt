-- What `run` writes, as the bytes that are printed:
--
--     owi run 1
--     export NAME args LIST steps N
--     outcome OUTCOME
--     draws LIST
--
-- where the last list has a value for each symbol that was made. The format is this project's own.
use Rattle.std.specs.Prelude.{ℕ, List, ◌++◌, map, codes, decimal}
use Rattle.wasm_ast.specs.declared.runs.Value.{Value}
use Rattle.wasm_ast.specs.declared.runs.Outcome.{Outcome}
use Rattle.wasm_ast.specs.declared.runs.Outcome.TheVariants.{Returns, Traps, Fails, Assumes, Bound, Deep}
use Rattle.wasm_ast.specs.declared.runs.Ran.{Ran}
use Rattle.owi_cmd.specs.Report.{line, name_text, value_text, draw_text, list_text, cause_text}
use Rattle.owi_cmd.specs.declared.status.Status.{Status}
use Rattle.owi_cmd.specs.declared.status.Status.TheVariants.{Done, Found}

-- how a run ends
abbrev pub outcome_text : Outcome → List ℕ
outcome_text (Returns values) = codes "returns " ++ list_text (map value_text values)
outcome_text (Traps cause) = codes "traps " ++ cause_text cause
outcome_text Fails = codes "fails"
outcome_text Assumes = codes "assumes"
outcome_text Bound = codes "bound"
outcome_text Deep = codes "deep"

-- the first line, and what is run of the second: an export, its arguments, and the bound on steps, which ends it
abbrev pub export_text : List ℕ → List ℕ
export_text name = line (codes "owi run 1") ++ codes "export " ++ name_text name

abbrev pub args_text : List Value → List ℕ
args_text args = codes " args " ++ list_text (map value_text args)

abbrev pub steps_text : ℕ → List ℕ
steps_text steps = line (codes " steps " ++ decimal steps)

abbrev pub run_head_text : List ℕ → List Value → ℕ → List ℕ
run_head_text name args steps = export_text name ++ args_text args ++ steps_text steps

-- the four lines
abbrev pub run_text : List ℕ → List Value → ℕ → Ran → List ℕ
run_text name args steps ran =
    run_head_text name args steps
    ++ line (codes "outcome " ++ outcome_text ran.outcome)
    ++ line (codes "draws " ++ list_text (map draw_text ran.draws))

-- Found exactly where the run traps or fails
abbrev pub status_of_run : Outcome → Status
status_of_run (Traps cause) = Found
status_of_run Fails = Found
status_of_run outcome = Done
