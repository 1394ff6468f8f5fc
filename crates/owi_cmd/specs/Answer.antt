-- What the program answers: a status, and the bytes that it writes.
use Rattle.std.specs.Prelude.{◌≡◌, ℕ, List, [], codes, Option, IfSome}
use Rattle.owi_cmd.specs.Report.{line}
use Rattle.owi_cmd.specs.Sources.{AnswersSource}
use Rattle.owi_cmd.specs.Words.{Spells}
use Rattle.owi_cmd.specs.declared.words.Command.{Command}
use Rattle.owi_cmd.specs.declared.status.Status.{Status}
use Rattle.owi_cmd.specs.declared.status.Status.TheVariants.{Done, Found, Usage, Malformed, Outside, Limit, Invalid, Unlinked, Entry, ReadFault, WriteFault, NoMemory, NotYet}

-- The number of a status, with which the program ends.
abbrev pub status_number : Status → ℕ
status_number Done = 0
status_number Found = 1
status_number Usage = 2
status_number Malformed = 3
status_number Outside = 4
status_number Limit = 5
status_number Invalid = 6
status_number Unlinked = 7
status_number Entry = 8
status_number ReadFault = 9
status_number WriteFault = 10
status_number NoMemory = 11
status_number NotYet = 12

-- the line of a refusal that comes before the source is read as a module
abbrev pub fixed_line : Status → List ℕ
fixed_line Usage = line (codes "usage")
fixed_line Limit = line (codes "limit length")
fixed_line ReadFault = line (codes "read fault")
fixed_line NoMemory = line (codes "no memory")
fixed_line status = []

-- What is answered to these words. left are the bytes of the source, where it tells them, and rose says that its count
-- of faults rose. A failed write is no answer.
abbrev pub Answers : List (List ℕ) → Option (List ℕ) → Type 0 → Status → List ℕ → Type 0
Answers words left rose Usage bytes = ((c : Command) → ¬ Spells words c) × (bytes ≡ line (codes "usage"))
Answers words left rose ReadFault bytes =
    ((c : Command) × Spells words c) × rose × (bytes ≡ line (codes "read fault"))
Answers words left rose NoMemory bytes = bytes ≡ line (codes "no memory")
Answers words left rose WriteFault bytes = ⊥
Answers words left rose status bytes =
    (c : Command) × Spells words c × IfSome left (λ source. AnswersSource c source status bytes)

-- With these statuses a source that was read was read to its end.
abbrev pub HasReadAll : Status → Type 0
HasReadAll Done = Unit {0}
HasReadAll Found = Unit {0}
HasReadAll Malformed = Unit {0}
HasReadAll Outside = Unit {0}
HasReadAll Invalid = Unit {0}
HasReadAll Unlinked = Unit {0}
HasReadAll NotYet = Unit {0}
HasReadAll Entry = Unit {0}
HasReadAll status = ⊥
