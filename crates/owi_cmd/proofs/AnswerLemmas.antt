-- Laws of what is answered.
use Rattle.std.proofs.Common.{◌≡◌, ℕ, ◌≤◌, ◌⊎◌, List, [], ◌∷◌, length, codes, Option, Some, None, Bool, true, false, inl, inr, refl, if◌then◌else◌, ◌∙◌, subst, lit≤, arith, All}
use Rattle.std.proofs.lemmas.List.Elements.{All-from_recursion}
use Rattle.std.specs.Prelude.{IfSome}
use Rattle.std.specs.List.{list_any, AllZip, AllByRecursion}
use Rattle.wasm_ast.specs.declared.modules.Module.{Module}
use Rattle.wasm_ast.specs.declared.runs.Outcome.{Outcome}
use Rattle.wasm_ast.specs.declared.runs.Outcome.TheVariants.{Returns, Traps, Fails, Assumes, Bound, Deep}
use Rattle.wasm_ast.specs.declared.runs.Value.{Value}
use Rattle.wasm_ast.specs.declared.runs.Value.TheVariants.{I32, I64, Func, Extern}
use Rattle.wasm_image.specs.Entries.{IsEntry}
use Rattle.wasm_image.specs.Ready.{IsReady}
use Rattle.wasm_soundness.specs.Laws.{NamesFunction}
use Rattle.wasm_run.specs.Bounded.{CanRun}
use Rattle.owi_cmd.specs.Report.{is_found}
use Rattle.owi_cmd.specs.Rows.{status_of, only_row}
use Rattle.owi_cmd.specs.RunText.{status_of_run}
use Rattle.owi_cmd.specs.Sources.{most_bytes, Explores, RunsOnce, AnswersShort, AnswersSource, IsOfSource}
use Rattle.owi_cmd.specs.Answer.{Answers}
use Rattle.owi_cmd.specs.Words.{IsArgument, IsOption, SpellsExplore, SpellsRun, Spells, IsSpelled}
use Rattle.owi_cmd.specs.declared.report.Bounds.{Bounds}
use Rattle.owi_cmd.specs.declared.report.Row.{Row}
use Rattle.owi_cmd.specs.declared.words.Command.{Command}
use Rattle.owi_cmd.specs.declared.words.Command.TheVariants.{Explore, Run}
use Rattle.owi_cmd.specs.declared.words.RunOptions.{RunOptions}
use Rattle.owi_cmd.specs.declared.status.Status.{Status}
use Rattle.owi_cmd.specs.declared.status.Status.TheVariants.{Done, Found, Malformed, Outside, Limit, Entry, WriteFault, NotYet, Invalid, Unlinked}

chosen : (b : Bool) → ((if b then Found else Done) ≡ Found) ⊎ ((if b then Found else Done) ≡ Done)
chosen true = inl refl
chosen false = inr refl

-- a report comes with Found or Done
pub counted : (rows : List Row) → (status_of rows ≡ Found) ⊎ (status_of rows ≡ Done)
counted rows = chosen (list_any is_found rows)

-- a status that is neither comes with no report
none_else : (status : Status) (rows : List Row) → status ≡ status_of rows → (status ≡ Found → ⊥) → (status ≡ Done → ⊥) → ⊥
none_else status rows is not_found not_done = elim (counted rows) [ inl found ↦ not_found (is ∙ found) | inr done ↦ not_done (is ∙ done) ]

-- an exploration is an answer
pub explored : (name : List ℕ) (args : List Value) (bounds : Bounds) (source : List ℕ) (status : Status) (bytes : List ℕ) → Explores name args bounds source status bytes → AnswersShort (Explore name args bounds) source status bytes
explored name args bounds source Limit bytes e = absurd (none_else Limit (only_row e.ran.outcome ∷ []) e.counted (λ i. cc) (λ i. cc))
explored name args bounds source Malformed bytes e = absurd (none_else Malformed (only_row e.ran.outcome ∷ []) e.counted (λ i. cc) (λ i. cc))
explored name args bounds source Outside bytes e = absurd (none_else Outside (only_row e.ran.outcome ∷ []) e.counted (λ i. cc) (λ i. cc))
explored name args bounds source Invalid bytes e = absurd (none_else Invalid (only_row e.ran.outcome ∷ []) e.counted (λ i. cc) (λ i. cc))
explored name args bounds source Unlinked bytes e = absurd (none_else Unlinked (only_row e.ran.outcome ∷ []) e.counted (λ i. cc) (λ i. cc))
explored name args bounds source NotYet bytes e = absurd (none_else NotYet (only_row e.ran.outcome ∷ []) e.counted (λ i. cc) (λ i. cc))
explored name args bounds source Entry bytes e = absurd (none_else Entry (only_row e.ran.outcome ∷ []) e.counted (λ i. cc) (λ i. cc))
explored name args bounds source status bytes e = e

-- a run comes with Found or Done
of_run : (outcome : Outcome) → (status_of_run outcome ≡ Found) ⊎ (status_of_run outcome ≡ Done)
of_run (Returns values) = inr refl
of_run (Traps cause) = inl refl
of_run Fails = inl refl
of_run Assumes = inr refl
of_run Bound = inr refl
of_run Deep = inr refl

no_other : (status : Status) (outcome : Outcome) → status ≡ status_of_run outcome → (status ≡ Found → ⊥) → (status ≡ Done → ⊥) → ⊥
no_other status outcome is not_found not_done = elim (of_run outcome) [ inl found ↦ not_found (is ∙ found) | inr done ↦ not_done (is ∙ done) ]

-- a run is an answer
pub ran : (name : List ℕ) (args : List Value) (options : RunOptions) (source : List ℕ) (status : Status) (bytes : List ℕ) → RunsOnce name args options source status bytes → AnswersShort (Run name args options) source status bytes
ran name args options source Limit bytes e = absurd (no_other Limit e.ran.outcome e.counted (λ i. cc) (λ i. cc))
ran name args options source Malformed bytes e = absurd (no_other Malformed e.ran.outcome e.counted (λ i. cc) (λ i. cc))
ran name args options source Outside bytes e = absurd (no_other Outside e.ran.outcome e.counted (λ i. cc) (λ i. cc))
ran name args options source Invalid bytes e = absurd (no_other Invalid e.ran.outcome e.counted (λ i. cc) (λ i. cc))
ran name args options source Unlinked bytes e = absurd (no_other Unlinked e.ran.outcome e.counted (λ i. cc) (λ i. cc))
ran name args options source NotYet bytes e = absurd (no_other NotYet e.ran.outcome e.counted (λ i. cc) (λ i. cc))
ran name args options source Entry bytes e = absurd (no_other Entry e.ran.outcome e.counted (λ i. cc) (λ i. cc))
ran name args options source status bytes e = e

-- ---- what the words of a command give to the run

-- an argument that a word spells refers to no function
refers : (m : Module) (word : List ℕ) (v : Value) → IsArgument word v → NamesFunction m v
refers m word (I32 n) a = tt
refers m word (I64 n) a = tt
refers m word (Func None) a = tt
refers m word (Func (Some f)) a = absurd a
refers m word Extern a = tt

each_refers : (m : Module) (words : List (List ℕ)) (args : List Value) → AllZip IsArgument words args → AllByRecursion (NamesFunction m) args
each_refers m [] [] zipped = tt
each_refers m [] (v ∷ vs) zipped = absurd zipped
each_refers m (w ∷ ws) [] zipped = absurd zipped
each_refers m (w ∷ ws) (v ∷ vs) zipped = (refers m w v zipped.0, each_refers m ws vs zipped.1)

all_refer : (m : Module) (words : List (List ℕ)) (args : List Value) → AllZip IsArgument words args → All (NamesFunction m) args
all_refer m words args zipped = All-from_recursion (NamesFunction m) args (each_refers m words args zipped)

-- an option is in its range
in_range : (name : List ℕ) (least most usual n : ℕ) (words : List (List ℕ)) → least ≤ usual → usual ≤ most → IsOption name least most usual words n → (least ≤ n) × (n ≤ most)
in_range name least most usual n words low high is =
    elim is [
      | inl left ↦ rw left.1 (low, high)
      | inr given ↦ (given.2.from, given.2.to)
    ]

pub explore_can_run : (m : Module) (name : List ℕ) (args : List Value) (bounds : Bounds) (f : ℕ) → IsSpelled (Explore name args bounds) → IsReady m → IsEntry m name args f → CanRun m f args bounds.steps
explore_can_run m name args bounds f spelled ready entry =
    let s : SpellsExplore spelled.0 name args bounds = spelled.1 in
    let steps : (1 ≤ bounds.steps) × (bounds.steps ≤ 10000000) = in_range (codes "--steps") 1 10000000 1000000 bounds.steps s.bounded.steps (lit≤ tt) (lit≤ tt) s.bounded.are_steps in
    record { ready = ready; fit = entry.fits; refer = all_refer m s.arguments args s.argued; least = steps.0; most = steps.1 }

pub run_can_run : (m : Module) (name : List ℕ) (args : List Value) (options : RunOptions) (f : ℕ) → IsSpelled (Run name args options) → IsReady m → IsEntry m name args f → CanRun m f args options.steps
run_can_run m name args options f spelled ready entry =
    let s : SpellsRun spelled.0 name args options = spelled.1 in
    let steps : (1 ≤ options.steps) × (options.steps ≤ 10000000) = in_range (codes "--steps") 1 10000000 1000000 options.steps s.chosen.steps (lit≤ tt) (lit≤ tt) s.chosen.are_steps in
    record { ready = ready; fit = entry.fits; refer = all_refer m s.arguments args s.argued; least = steps.0; most = steps.1 }

-- what is said of the whole of a source is said of what was left, where it is told
told : (left : Option (List ℕ)) (source : List ℕ) (P : List ℕ → Type 0) → IfSome left (λ all. source ≡ all) → P source → IfSome left P
told None source P same p = tt
told (Some all) source P same p = subst P same p

-- the answer to a source is the answer to the words that spell its command
pub answered : (words : List (List ℕ)) (left : Option (List ℕ)) (rose : Type 0) (command : Command) (source : List ℕ) (status : Status) (bytes : List ℕ) → Spells words command → IfSome left (λ all. source ≡ all) → IsOfSource status → AnswersSource command source status bytes → Answers words left rose status bytes
answered words left rose command source Done bytes spelled all read said = (command, spelled, told left source (λ s. AnswersSource command s Done bytes) all said)
answered words left rose command source Found bytes spelled all read said = (command, spelled, told left source (λ s. AnswersSource command s Found bytes) all said)
answered words left rose command source Malformed bytes spelled all read said = (command, spelled, told left source (λ s. AnswersSource command s Malformed bytes) all said)
answered words left rose command source Outside bytes spelled all read said = (command, spelled, told left source (λ s. AnswersSource command s Outside bytes) all said)
answered words left rose command source Limit bytes spelled all read said = (command, spelled, told left source (λ s. AnswersSource command s Limit bytes) all said)
answered words left rose command source Unlinked bytes spelled all read said = (command, spelled, told left source (λ s. AnswersSource command s Unlinked bytes) all said)
answered words left rose command source Invalid bytes spelled all read said = (command, spelled, told left source (λ s. AnswersSource command s Invalid bytes) all said)
answered words left rose command source NotYet bytes spelled all read said = (command, spelled, told left source (λ s. AnswersSource command s NotYet bytes) all said)
answered words left rose command source Entry bytes spelled all read said = (command, spelled, told left source (λ s. AnswersSource command s Entry bytes) all said)
answered words left rose command source status bytes spelled all read said = absurd read

-- a failed write is no status with which a source is answered
pub no_write_fault : (status : Status) → IsOfSource status → status ≡ WriteFault → ⊥
no_write_fault status read same = let h : IsOfSource WriteFault = subst IsOfSource same read in h

-- the answer to a source that isn't too long is the answer to it
pub of_short : (command : Command) (source : List ℕ) (status : Status) (bytes : List ℕ) → length source ≤ most_bytes → AnswersShort command source status bytes → AnswersSource command source status bytes
of_short command source status bytes short said = record { long = λ long. absurd (omega (arith, short, long)); short = λ _. said }
