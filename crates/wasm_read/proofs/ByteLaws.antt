-- Many single bytes are a slice; names.
use Rattle.std.proofs.Common.{◌≡◌, ℕ, zero, suc, ◌+◌, ◌-◌, ◌<◌, ◌≤◌, Bool, true, false, List, [], ◌∷◌, length, take, drop, Result, Ok, Err, Option, Some, IfSome, refl, sym, ap, subst, ◌∙◌, arith, length-drop}
use Rattle.std.specs.Str.{is_utf8, IsUtf8}
use Rattle.std.proofs.lemmas.Str.{IsUtf8-from_is_utf8, is_utf8-from_IsUtf8}
use Rattle.grammar_forms.specs.Forms.{Window, any_byte, many, read_on, first_of_rest, located}
use Rattle.grammar_forms.proofs.FormLaws.{after_text}
use Rattle.wasm_binary.specs.Faults.{Fault, utf8}
use Rattle.wasm_binary.specs.Values.{u32, text_of, name}
use Rattle.owi_base.proofs.Choices.{taken, passed, is_false}

abbrev Answer : Type 0 → Type 0
Answer A = Result (A × ℕ) Fault

abbrev pub ok : {A : Type 0} → A → ℕ → Answer A
ok x next = Ok (x, next)

abbrev pub with_first : {A : Type 0} → Answer (List A) → A → Answer (List A)
with_first r x = read_on r (λ xs next. ok (x ∷ xs) next)

front : (w : Window Fault) (at n b : ℕ) (left : List ℕ) → drop at w.bytes ≡ b ∷ left → (many any_byte (suc n)).read w at ≡ with_first ((many any_byte n).read w (at + 1)) b
front w at n b left e = ap (λ (l : List ℕ). read_on (first_of_rest w.ended at l) (λ x mid. with_first ((many any_byte n).read w mid) x)) e

there : (n : ℕ) (w : Window Fault) (at : ℕ) (left : List ℕ) → drop at w.bytes ≡ left → n ≤ length left → (many any_byte n).read w at ≡ Ok (take n left, at + n)
there zero w at [] e le = let place : at ≡ at + 0 = omega arith in ap (ok []) place
there zero w at (b ∷ left) e le = let place : at ≡ at + 0 = omega arith in ap (ok []) place
there (suc n) w at [] e le = absurd (omega arith)
there (suc n) w at (b ∷ left) e le =
    let place : at + 1 + n ≡ at + suc n = omega arith in
    front w at n b left e ∙ ap (λ (r : Answer (List ℕ)). with_first r b) (there n w (at + 1) left (after_text w.bytes (b ∷ []) left at e) (omega arith))
    ∙ ap (ok (b ∷ take n left)) place

missing : (n : ℕ) (w : Window Fault) (at : ℕ) (left : List ℕ) → drop at w.bytes ≡ left → length left < n → (many any_byte n).read w at ≡ Err w.ended
missing zero w at left e lt = absurd (omega arith)
missing (suc n) w at [] e lt = ap (λ (l : List ℕ). read_on (first_of_rest w.ended at l) (λ x mid. with_first ((many any_byte n).read w mid) x)) e
missing (suc n) w at (b ∷ left) e lt =
    front w at n b left e ∙ ap (λ (r : Answer (List ℕ)). with_first r b) (missing n w (at + 1) left (after_text w.bytes (b ∷ []) left at e) (omega arith))

-- so many bytes are there
pub bytes_there : (n : ℕ) (w : Window Fault) (at : ℕ) → n ≤ length w.bytes - at → (many any_byte n).read w at ≡ Ok (take n (drop at w.bytes), at + n)
bytes_there n w at le = there n w at (drop at w.bytes) refl (omega (arith, length-drop at w.bytes))

-- or the window ends before them
pub bytes_missing : (n : ℕ) (w : Window Fault) (at : ℕ) (o : Option Fault) → length w.bytes - at < n → o ≡ Some w.ended → IfSome o (λ fault. (many any_byte n).read w at ≡ Err fault)
bytes_missing n w at o lt is =
    let P : Option Fault → Type 0 = λ p. IfSome p (λ fault. (many any_byte n).read w at ≡ Err fault) in
    subst P (sym is) (missing n w at (drop at w.bytes) refl (omega (arith, length-drop at w.bytes)))

name_is : (w : Window Fault) (at count start : ℕ) (bytes : List ℕ) (next : ℕ) → u32.read w at ≡ Ok (count, start) → (many any_byte count).read w start ≡ Ok (bytes, next) → name.read w at ≡ located start next (text_of bytes)
name_is w at count start bytes next e f =
    ap (λ (r : Answer ℕ). read_on r (λ n mid. read_on ((many any_byte n).read w mid) (λ l last. located mid last (text_of l)))) e
    ∙ ap (λ (r : Answer (List ℕ)). read_on r (λ l last. located start last (text_of l))) f

-- a name in UTF-8, and one that isn't
pub name_read : (w : Window Fault) (at count start : ℕ) (bytes : List ℕ) (next : ℕ) → u32.read w at ≡ Ok (count, start) → (many any_byte count).read w start ≡ Ok (bytes, next) → IsUtf8 bytes → name.read w at ≡ Ok (bytes, next)
name_read w at count start bytes next e f is =
    name_is w at count start bytes next e f
    ∙ ap (located start next) (taken (is_utf8 bytes) (let r : Result (List ℕ) (ℕ → Fault) = Ok bytes in r) (Err utf8) (is_utf8-from_IsUtf8 bytes is))

pub name_refused : (w : Window Fault) (at count start : ℕ) (bytes : List ℕ) (next : ℕ) → u32.read w at ≡ Ok (count, start) → (many any_byte count).read w start ≡ Ok (bytes, next) → (IsUtf8 bytes → ⊥) → name.read w at ≡ Err (utf8 start)
name_refused w at count start bytes next e f is =
    name_is w at count start bytes next e f
    ∙ ap (located start next) (passed (is_utf8 bytes) (let r : Result (List ℕ) (ℕ → Fault) = Ok bytes in r) (Err utf8) (is_false (is_utf8 bytes) (λ h. is (IsUtf8-from_is_utf8 bytes h))))
