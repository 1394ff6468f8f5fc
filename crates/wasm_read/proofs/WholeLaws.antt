-- What a reader of all bytes answers is what the grammar says.
use Rattle.std.proofs.Common.{◌≡◌, ℕ, suc, ◌^◌, ◌<◌, ◌⊎◌, inl, inr, List, length, Bool, true, false, Result, Ok, Err, Option, Some, None, IfOk, IfSome, refl, sym, ap, subst, ◌∙◌, arith, get_or}
use Rattle.std.specs.Prelude.{IfErr, IsErrAnd}
use Rattle.wasm_ast.specs.declared.modules.Module.{Module}
use Rattle.wasm_ast.specs.Shape.{HasShape}
use Rattle.wasm_binary.specs.Faults.{Fault}
use Rattle.std.proofs.lemmas.List.{length-map}
use Rattle.wasm_binary.specs.Modules.{Sections, no_sections, module_of, without_customs, settled, front, whole, IsBinary, BinaryFault}
use Rattle.wasm_binary.specs.Reading.{next_of, read_sections, read_binary}
use Rattle.wasm_binary.proofs.BinaryLaws.{binary_sound, binary_complete, binary_named, binary_found}
use Rattle.wasm_read.specs.declared.bad.ReadBad.{ReadBad}
use Rattle.wasm_read.specs.declared.bad.ReadBad.TheVariants.{Cut, Magic, Leb, Byte, Utf8, Order, Size, Count, DataCount, Outside, Locals, NoMemory}
use Rattle.wasm_read.specs.Refusals.{fault_of}
use Rattle.wasm_read.specs.Stripped.{stripped, told}
use Rattle.wasm_read.specs.Wholes.{Answers}
use Rattle.wasm_binary.proofs.ShapeOfModules.{binary_shape, stripped_shape, EachIsByte-from_get_or}

-- ---- the front and the sections

abbrev Answer : Type 0
Answer = Result Module Fault

abbrev from : List ℕ → ℕ → Answer
from bytes at = read_sections (suc (length bytes)) (whole bytes) no_sections at

after_front : (bytes : List ℕ) (r : Result (ℕ × ℕ) Fault) → front.read (whole bytes) 0 ≡ r → read_binary bytes ≡ next_of r (λ _ at. from bytes at)
unfolding read_binary
after_front bytes r e = ap (λ (q : Result (ℕ × ℕ) Fault). next_of q (λ _ at. from bytes at)) e

pub whole_read : (bytes : List ℕ) (x at : ℕ) (m : Module) → front.read (whole bytes) 0 ≡ Ok (x, at) → from bytes at ≡ Ok m → read_binary bytes ≡ Ok m
whole_read bytes x at m e f = after_front bytes (Ok (x, at)) e ∙ f

pub front_told : (bytes : List ℕ) (o : Option Fault) → IfSome o (λ fault. front.read (whole bytes) 0 ≡ Err fault) → IfSome o (λ fault. read_binary bytes ≡ Err fault)
front_told bytes (Some fault) h = after_front bytes (Err fault) h
front_told bytes None h = h

pub sections_told : (bytes : List ℕ) (x at : ℕ) (o : Option Fault) → front.read (whole bytes) 0 ≡ Ok (x, at) → IfSome o (λ fault. from bytes at ≡ Err fault) → IfSome o (λ fault. read_binary bytes ≡ Err fault)
sections_told bytes x at (Some fault) e h = after_front bytes (Ok (x, at)) e ∙ h
sections_told bytes x at None e h = h

-- ---- the statements

pub spelled : (bytes : List ℕ) (r : Result Module ReadBad) → Answers true (read_binary bytes) r → IfOk r (λ m. IsBinary m bytes)
spelled bytes (Ok m) h = subst (λ n. IsBinary n bytes) (sym h.2) (binary_sound bytes h.0 h.1)
spelled bytes (Err bad) h = tt

pub stripped_spelled : (bytes : List ℕ) (r : Result Module ReadBad) → Answers false (read_binary bytes) r → IfOk r (λ told. (m : Module) × IsBinary m bytes × (told ≡ stripped m))
stripped_spelled bytes (Ok m) h = (h.0, binary_sound bytes h.0 h.1, h.2)
stripped_spelled bytes (Err bad) h = tt

named : (bytes : List ℕ) (o : Option Fault) → IfSome o (λ fault. read_binary bytes ≡ Err fault) → IfSome o (BinaryFault bytes)
named bytes (Some fault) h = binary_named bytes fault h
named bytes None h = tt

pub trouble : (keeps : Bool) (bytes : List ℕ) (r : Result Module ReadBad) → Answers keeps (read_binary bytes) r → IfErr r (λ bad. IfSome (fault_of bad) (BinaryFault bytes))
trouble keeps bytes (Ok m) h = tt
trouble keeps bytes (Err bad) h = named bytes (fault_of bad) h

abbrev ok : Module → Answer
ok m = Ok m

abbrev err : Fault → Answer
err fault = Err fault

same_module : (given : Answer) (m n : Module) → given ≡ Ok m → given ≡ Ok n → m ≡ n
same_module given m n e f = let both : ok m ≡ ok n = sym e ∙ f in cc

never : (given : Answer) (m : Module) (fault : Fault) → given ≡ Ok m → given ≡ Err fault → ⊥
never given m fault e f = let both : ok m ≡ err fault = sym e ∙ f in cc

-- a refusal that tells nothing is want of memory
wanting : (bad : ReadBad) → ((fault : Fault) → fault_of bad ≡ Some fault → ⊥) → bad ≡ NoMemory
wanting (Cut at) h = absurd (h _ refl)
wanting (Magic at) h = absurd (h _ refl)
wanting (Leb at) h = absurd (h _ refl)
wanting (Byte at) h = absurd (h _ refl)
wanting (Utf8 at) h = absurd (h _ refl)
wanting (Order at) h = absurd (h _ refl)
wanting (Size at) h = absurd (h _ refl)
wanting (Count left right at) h = absurd (h _ refl)
wanting (DataCount at) h = absurd (h _ refl)
wanting (Outside at) h = absurd (h _ refl)
wanting (Locals sum at) h = absurd (h _ refl)
wanting NoMemory h = refl

at_some : (P : Fault → Type 0) (o : Option Fault) (fault : Fault) → o ≡ Some fault → IfSome o P → P fault
at_some P o fault is h = let Q : Option Fault → Type 0 = λ p. IfSome p P in subst Q is h

pub only : (keeps : Bool) (bytes : List ℕ) (r : Result Module ReadBad) → Answers keeps (read_binary bytes) r → (m : Module) → IsBinary m bytes → (r ≡ Ok (told keeps m)) ⊎ (r ≡ Err NoMemory)
only keeps bytes (Ok n) h m is =
    let same : h.0 ≡ m = same_module (read_binary bytes) h.0 m h.1 (binary_complete bytes m is) in
    inl (ap (λ x. let r : Result Module ReadBad = Ok x in r) (h.2 ∙ ap (told keeps) same))
only keeps bytes (Err bad) h m is =
    let none : bad ≡ NoMemory =
    wanting bad (λ fault told. never (read_binary bytes) m fault (binary_complete bytes m is) (at_some (λ f. read_binary bytes ≡ Err f) (fault_of bad) fault told h))
    in
    inr (ap (λ b. let r : Result Module ReadBad = Err b in r) none)

-- what is told is one thing
one_told : (bytes : List ℕ) (o : Option Fault) (fault : Fault) → IfSome o (λ f. read_binary bytes ≡ Err f) → read_binary bytes ≡ Err fault → (o ≡ Some fault) ⊎ (o ≡ None)
one_told bytes (Some other) fault h e =
    let both : err other ≡ err fault = sym h ∙ e in
    let same : other ≡ fault = cc in
    inl (ap (λ f. Some f) same)
one_told bytes None fault h e = inr refl

some_is_not_none : (fault : Fault) (o : Option Fault) → o ≡ Some fault → o ≡ None → ⊥
some_is_not_none fault o e f = cc

pub first : (keeps : Bool) (bytes : List ℕ) (r : Result Module ReadBad) → Answers keeps (read_binary bytes) r → (fault : Fault) → BinaryFault bytes fault → IsErrAnd r (λ bad. (fault_of bad ≡ Some fault) ⊎ (bad ≡ NoMemory))
first keeps bytes (Ok m) h fault t = absurd (never (read_binary bytes) h.0 fault h.1 (binary_found bytes fault t))
first keeps bytes (Err bad) h fault t =
    elim (one_told bytes (fault_of bad) fault h (binary_found bytes fault t)) [
      | inl same ↦ inl same
      | inr none ↦ inr (wanting bad (λ other told. some_is_not_none other (fault_of bad) told none))
    ]

-- as many custom sections as were read
pub few_customs : (s : Sections) (m : Module) → m ≡ module_of s → length s.customs < 2 ^ 32 → length m.customs < 2 ^ 32
few_customs s m is few =
    let P : Module → Type 0 = λ n. length n.customs < 2 ^ 32 in
    subst P (sym is) (omega (arith, length-map s.customs (settled (without_customs s))))

pub shape : (bytes : List ℕ) (r : Result Module ReadBad) → ((i : ℕ) → get_or bytes i 0 < 256) → Answers true (read_binary bytes) r → IfOk r (λ m. length m.customs < 2 ^ 32) → IfOk r HasShape
shape bytes (Ok m) are h few = binary_shape m bytes (EachIsByte-from_get_or bytes are) (spelled bytes (Ok m) h) few
shape bytes (Err bad) are h few = tt

pub shape_of_stripped : (bytes : List ℕ) (r : Result Module ReadBad) → ((i : ℕ) → get_or bytes i 0 < 256) → Answers false (read_binary bytes) r → IfOk r HasShape
shape_of_stripped bytes (Ok m) are h = subst HasShape (sym h.2) (stripped_shape h.0 bytes (EachIsByte-from_get_or bytes are) (binary_sound bytes h.0 h.1))
shape_of_stripped bytes (Err bad) are h = tt
