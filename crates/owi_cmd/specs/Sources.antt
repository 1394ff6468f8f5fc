-- What a command answers to the bytes of a source.
use Rattle.std.specs.Prelude.{◌≡◌, ◌≢◌, ℕ, ◌<◌, ◌≤◌, ◌⊎◌, List, [], ◌∷◌, ◌++◌, length, codes, Some, None}
use Rattle.wasm_ast.specs.declared.modules.Module.{Module}
use Rattle.wasm_ast.specs.declared.runs.Ran.{Ran}
use Rattle.wasm_ast.specs.declared.runs.Value.{Value}
use Rattle.wasm_binary.specs.Faults.{Fault}
use Rattle.wasm_binary.specs.Modules.{IsBinary, BinaryFault}
use Rattle.wasm_check.specs.declared.why.Why.{Why}
use Rattle.wasm_check.specs.Modules.{IsValid}
use Rattle.wasm_check.specs.Faults.{FirstFault}
use Rattle.wasm_image.specs.declared.entries.EntryBad.{EntryBad}
use Rattle.wasm_image.specs.declared.sizes.Large.{Large}
use Rattle.wasm_image.specs.Entries.{IsEntry, IsNoEntry}
use Rattle.wasm_image.specs.Hosts.{AreLinked, IsFirstUnlinked}
use Rattle.wasm_image.specs.Sizes.{IsTooLarge}
use Rattle.wasm_image.specs.Ready.{IsReady}
use Rattle.wasm_write.specs.Modules.{shortest, sections, first_long}
use Rattle.wasm_run.specs.Bounded.{RunGives}
use Rattle.owi_cmd.specs.Report.{line, name_text, report_of}
use Rattle.owi_cmd.specs.Rows.{only_row, status_of}
use Rattle.owi_cmd.specs.RunText.{run_text, status_of_run}
use Rattle.owi_cmd.specs.Faults.{fault_status, fault_text, why_text, large_text}
use Rattle.owi_cmd.specs.declared.report.Bounds.{Bounds}
use Rattle.owi_cmd.specs.declared.words.Command.{Command}
use Rattle.owi_cmd.specs.declared.words.Command.TheVariants.{Explore, Run, ConvertBinary, Validate}
use Rattle.owi_cmd.specs.declared.words.RunOptions.{RunOptions}
use Rattle.owi_cmd.specs.declared.status.Status.{Status}
use Rattle.owi_cmd.specs.declared.status.Status.TheVariants.{Done, Found, Malformed, Outside, Limit, Invalid, Unlinked, Entry, NotYet}

-- the most bytes of a source
abbrev pub most_bytes : ℕ
most_bytes = 16777216

-- ---- what is asked of a source

-- the command asks for a valid module
abbrev pub AsksValidity : Command → Type 0
AsksValidity (Explore name args bounds) = Unit {0}
AsksValidity (Run name args options) = Unit {0}
AsksValidity ConvertBinary = ⊥
AsksValidity Validate = Unit {0}

-- the command runs the module
abbrev pub AsksToRun : Command → Type 0
AsksToRun (Explore name args bounds) = Unit {0}
AsksToRun (Run name args options) = Unit {0}
AsksToRun ConvertBinary = ⊥
AsksToRun Validate = ⊥

-- A source is binary where its first byte is 0; else it is text, which isn't read yet.
abbrev pub IsText : List ℕ → Type 0
IsText source = (rest : List ℕ) → source ≢ 0 ∷ rest

-- the source spells this module, which is valid
pub record SpellsValid (source : List ℕ) (m : Module) : Type 0 where
  pub is : IsBinary m source
  pub valid : IsValid m

-- and can be run
pub record SpellsReady (source : List ℕ) (m : Module) : Type 0 where
  pub is : SpellsValid source m
  pub ready : IsReady m

-- ---- refusals

-- A binary source spells no module: the line tells its first trouble.
pub record IsRefused (source : List ℕ) (status : Status) (bytes : List ℕ) : Type 0 where
  pub binary : ¬ IsText source
  pub fault : Fault
  pub first : BinaryFault source fault
  pub counted : status ≡ fault_status fault
  pub written : bytes ≡ line (fault_text fault)

-- The source spells a module that isn't valid: the line tells its first fault.
pub record IsInvalid (source bytes : List ℕ) : Type 0 where
  pub spelled : Module
  pub is : IsBinary spelled source
  pub why : Why
  pub first : FirstFault spelled why
  pub written : bytes ≡ line (why_text why)

-- An import of the module is no host function: the line names the first such.
pub record IsUnlinked (source bytes : List ℕ) : Type 0 where
  pub spelled : Module
  pub is : SpellsValid source spelled
  pub number : ℕ
  pub first : IsFirstUnlinked spelled number
  pub written : bytes ≡ line (codes "unlinked " ++ name_text first.entry.module ++ codes " " ++ name_text first.entry.name)

-- A memory, a table or the number of tables is too large to be run: the line tells the first such size.
pub record IsOversized (source bytes : List ℕ) : Type 0 where
  pub spelled : Module
  pub is : SpellsValid source spelled
  pub linked : AreLinked spelled
  pub large : Large
  pub first : IsTooLarge spelled large
  pub written : bytes ≡ line (large_text large)

-- The module exports no function by this name that takes these arguments.
pub record HasNoEntry (name : List ℕ) (args : List Value) (source bytes : List ℕ) : Type 0 where
  pub spelled : Module
  pub is : SpellsReady source spelled
  pub why : EntryBad
  pub lacks : IsNoEntry spelled name args why
  pub written : bytes ≡ line (codes "entry " ++ name_text name)

-- The module has an import, so that it isn't explored yet.
pub record HasImport (name : List ℕ) (args : List Value) (source : List ℕ) : Type 0 where
  pub spelled : Module
  pub is : SpellsReady source spelled
  pub function : ℕ
  pub entry : IsEntry spelled name args function
  pub imported : spelled.imports ≢ []

-- A section of the module would be too long where it is written.
pub record IsTooLong (source bytes : List ℕ) : Type 0 where
  pub spelled : Module
  pub is : IsBinary spelled source
  pub id : ℕ
  pub long : first_long (sections spelled) ≡ Some id
  pub written : bytes ≡ line (codes "limit output")

-- ---- what is done

-- The module has no import, so that it has one bounded run: bytes are the report of its one row.
pub record Explores (name : List ℕ) (args : List Value) (bounds : Bounds) (source : List ℕ) (status : Status) (bytes : List ℕ) : Type 0 where
  pub spelled : Module
  pub is : SpellsReady source spelled
  pub function : ℕ
  pub entry : IsEntry spelled name args function
  pub closed : spelled.imports ≡ []
  pub ran : Ran
  pub run : RunGives spelled function args [] bounds.steps ran
  pub written : bytes ≡ report_of (record { name = name; args = args; bounds = bounds }) (only_row ran.outcome ∷ [])
  pub counted : status ≡ status_of (only_row ran.outcome ∷ [])

-- bytes tell the bounded run of the function that the module exports by this name.
pub record RunsOnce (name : List ℕ) (args : List Value) (options : RunOptions) (source : List ℕ) (status : Status) (bytes : List ℕ) : Type 0 where
  pub spelled : Module
  pub is : SpellsReady source spelled
  pub function : ℕ
  pub entry : IsEntry spelled name args function
  pub ran : Ran
  pub run : RunGives spelled function args options.input options.steps ran
  pub written : bytes ≡ run_text name args options.steps ran
  pub counted : status ≡ status_of_run ran.outcome

-- bytes are the shortest spelling of the module that the source spells.
pub record Converts (source bytes : List ℕ) : Type 0 where
  pub spelled : Module
  pub is : IsBinary spelled source
  pub fits : first_long (sections spelled) ≡ None
  pub written : bytes ≡ shortest spelled

-- the module is valid
pub record Validates (source bytes : List ℕ) : Type 0 where
  pub spelled : Module
  pub is : SpellsValid source spelled
  pub written : bytes ≡ line (codes "valid")

-- ---- the answer

-- the command can't be carried out yet on the module of the source
abbrev pub IsPutOff : Command → List ℕ → Type 0
IsPutOff (Explore name args bounds) source = HasImport name args source
IsPutOff (Run name args options) source = ⊥
IsPutOff ConvertBinary source = ⊥
IsPutOff Validate source = ⊥

-- the module of the source has no function to run
abbrev pub LacksEntry : Command → List ℕ → List ℕ → Type 0
LacksEntry (Explore name args bounds) source bytes = HasNoEntry name args source bytes
LacksEntry (Run name args options) source bytes = HasNoEntry name args source bytes
LacksEntry ConvertBinary source bytes = ⊥
LacksEntry Validate source bytes = ⊥

-- what the command writes of the module of the source is too long
abbrev pub PassesOutput : Command → List ℕ → List ℕ → Type 0
PassesOutput (Explore name args bounds) source bytes = ⊥
PassesOutput (Run name args options) source bytes = ⊥
PassesOutput ConvertBinary source bytes = IsTooLong source bytes
PassesOutput Validate source bytes = ⊥

-- the command is carried out on the module of the source
abbrev pub CarriesOut : Command → List ℕ → Status → List ℕ → Type 0
CarriesOut (Explore name args bounds) source status bytes = Explores name args bounds source status bytes
CarriesOut (Run name args options) source status bytes = RunsOnce name args options source status bytes
CarriesOut ConvertBinary source Done bytes = Converts source bytes
CarriesOut ConvertBinary source status bytes = ⊥
CarriesOut Validate source Done bytes = Validates source bytes
CarriesOut Validate source status bytes = ⊥

-- What is answered where a command reads this source, which isn't too long.
abbrev pub AnswersShort : Command → List ℕ → Status → List ℕ → Type 0
AnswersShort command source Malformed bytes = IsRefused source Malformed bytes
AnswersShort command source Outside bytes = IsRefused source Outside bytes
AnswersShort command source Limit bytes =
    IsRefused source Limit bytes ⊎ (AsksToRun command × IsOversized source bytes) ⊎ PassesOutput command source bytes
AnswersShort command source Invalid bytes = AsksValidity command × IsInvalid source bytes
AnswersShort command source Unlinked bytes = AsksToRun command × IsUnlinked source bytes
AnswersShort command source Entry bytes = LacksEntry command source bytes
AnswersShort command source NotYet bytes =
    (IsText source ⊎ IsPutOff command source) × (bytes ≡ line (codes "not yet"))
AnswersShort command source status bytes = CarriesOut command source status bytes

-- What is answered where a command reads this source.
pub record AnswersSource (command : Command) (source : List ℕ) (status : Status) (bytes : List ℕ) : Type 0 where
  pub long : most_bytes < length source → (status ≡ Limit) × (bytes ≡ line (codes "limit length"))
  pub short : length source ≤ most_bytes → AnswersShort command source status bytes

-- the statuses with which a source is answered
abbrev pub IsOfSource : Status → Type 0
IsOfSource Done = Unit {0}
IsOfSource Found = Unit {0}
IsOfSource Malformed = Unit {0}
IsOfSource Outside = Unit {0}
IsOfSource Limit = Unit {0}
IsOfSource Invalid = Unit {0}
IsOfSource Unlinked = Unit {0}
IsOfSource Entry = Unit {0}
IsOfSource NotYet = Unit {0}
IsOfSource status = ⊥
