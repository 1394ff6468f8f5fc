-- What a reader of all bytes answers.
use Rattle.std.specs.Prelude.{◌≡◌, Bool, Result, Ok, Err, MatchResult, IfSome}
use Rattle.wasm_ast.specs.declared.modules.Module.{Module}
use Rattle.wasm_binary.specs.Faults.{Fault}
use Rattle.wasm_read.specs.declared.bad.ReadBad.{ReadBad}
use Rattle.wasm_read.specs.Refusals.{fault_of}
use Rattle.wasm_read.specs.Stripped.{told}

-- The module, with its custom sections or without, or the trouble that the refusal tells. Where memory ran out, nothing is said.
abbrev pub Answers : Bool → Result Module Fault → Result Module ReadBad → Type 0
Answers keeps given answer =
    MatchResult answer (λ m. (whole : Module) × (given ≡ Ok whole) × (m ≡ told keeps whole))
    (λ bad. IfSome (fault_of bad) (λ fault. given ≡ Err fault))
