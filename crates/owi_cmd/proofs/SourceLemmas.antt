-- Laws of what is answered to a source.
use Rattle.std.proofs.Common.{◌≡◌, ℕ, inl, List, Option, Some, None, refl, subst, sym, slice_get, codes, ◌++◌}
use Rattle.std.specs.Prelude.{IfSome, IsSomeAnd}
use Rattle.wasm_binary.specs.Faults.{Fault, cut, magic, leb, byte, utf8, order, size, count, data_count, outside, locals}
use Rattle.wasm_binary.specs.Modules.{BinaryFault}
use Rattle.wasm_ast.specs.declared.modules.Import.{Import}
use Rattle.wasm_ast.specs.declared.modules.Module.{Module}
use Rattle.wasm_image.specs.Hosts.{IsFirstUnlinked}
use Rattle.owi_cmd.specs.Report.{line, name_text}
use Rattle.owi_cmd.specs.Faults.{fault_status, fault_text}
use Rattle.owi_cmd.specs.Sources.{IsText, IsRefused, AsksToRun, SpellsValid, AnswersShort, IsOfSource}
use Rattle.owi_cmd.specs.declared.words.Command.{Command}
use Rattle.owi_cmd.specs.declared.status.Status.{Status}
use Rattle.owi_cmd.specs.declared.status.Status.TheVariants.{Malformed, Outside, Limit, Unlinked}

-- every command answers a source so
abbrev IsAnswer : List ℕ → Status → List ℕ → Type 0
IsAnswer source status bytes = ((command : Command) → AnswersShort command source status bytes) × IsOfSource status

said : (source : List ℕ) (status : Status) (fault : Fault) (bytes : List ℕ) → (IsText source → ⊥) → BinaryFault source fault → status ≡ fault_status fault → bytes ≡ line (fault_text fault) → IsRefused source status bytes
said source status fault bytes binary first counted written = record { binary = binary; fault = fault; first = first; counted = counted; written = written }

of_fault : (source : List ℕ) (fault : Fault) (bytes : List ℕ) → ((status : Status) → status ≡ fault_status fault → IsRefused source status bytes) → IsAnswer source (fault_status fault) bytes
of_fault source (cut at) bytes refused = (λ command. refused Malformed refl, tt)
of_fault source (magic at) bytes refused = (λ command. refused Malformed refl, tt)
of_fault source (leb at) bytes refused = (λ command. refused Malformed refl, tt)
of_fault source (byte at) bytes refused = (λ command. refused Malformed refl, tt)
of_fault source (utf8 at) bytes refused = (λ command. refused Malformed refl, tt)
of_fault source (order at) bytes refused = (λ command. refused Malformed refl, tt)
of_fault source (size at) bytes refused = (λ command. refused Malformed refl, tt)
of_fault source (count earlier later at) bytes refused = (λ command. refused Malformed refl, tt)
of_fault source (data_count at) bytes refused = (λ command. refused Malformed refl, tt)
of_fault source (outside at) bytes refused = (λ command. refused Outside refl, tt)
of_fault source (locals sum at) bytes refused = (λ command. inl (refused Limit refl), tt)

-- what is said of a trouble that the source has answers it
pub refusal : (source : List ℕ) (told : Option Fault) (status : Status) (bytes : List ℕ) → (IsText source → ⊥) → IfSome told (BinaryFault source) → IsSomeAnd told (λ fault. (status ≡ fault_status fault) × (bytes ≡ line (fault_text fault))) → IsAnswer source status bytes
refusal source None status bytes binary has says = absurd says
refusal source (Some fault) status bytes binary has says =
    subst (λ s. IsAnswer source s bytes) (sym says.0) (of_fault source fault bytes (λ s counted. said source s fault bytes binary has counted says.1))

-- ---- modules that aren't run

pub of_unlinked : (source : List ℕ) (m : Module) (number : ℕ) (import : Import) (status : Status) (bytes : List ℕ) → SpellsValid source m → IsFirstUnlinked m number → slice_get m.imports number ≡ Some import → status ≡ Unlinked → bytes ≡ line (codes "unlinked " ++ name_text import.module ++ codes " " ++ name_text import.name) → (command : Command) → AsksToRun command → AnswersShort command source status bytes
of_unlinked source m number import status bytes spelled first is counted written command run =
    let same : first.entry ≡ import = (let there = first.there in cc) in
    rw counted (run, record { spelled = m; is = spelled; number = number; first = first; written = rw same written })
