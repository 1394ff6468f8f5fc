-- What the readers of single forms answer. A reader sees the bytes up to the nearest end, and whether that is a stated one.
use Rattle.std.specs.Prelude.{◌≡◌, ℕ, List, length, Bool, if◌then◌else◌, Result, Ok, Err, MatchResult, IfSome}
use Rattle.grammar_forms.specs.Forms.{Window}
use Rattle.wasm_binary.specs.Faults.{Fault, cut, size}
use Rattle.wasm_read.specs.declared.bad.ReadBad.{ReadBad}
use Rattle.wasm_read.specs.Refusals.{fault_of}

-- the bytes up to an end; where a form needs a byte there, it is past a stated end, or the input is cut
abbrev pub window_of : List ℕ → Bool → Window Fault
window_of bytes stated = record { bytes = bytes; ended = if stated then size (length bytes) else cut (length bytes) }

-- The answer of a reader is what a form gives: the value and the next place, or the trouble that the refusal tells. Where
-- memory ran out, nothing is said.
abbrev pub Agrees : {A : Type 0} → Result (A × ℕ) Fault → Result (A × ℕ) ReadBad → Type 0
Agrees given answer = MatchResult answer (λ x. given ≡ Ok x) (λ bad. IfSome (fault_of bad) (λ fault. given ≡ Err fault))
