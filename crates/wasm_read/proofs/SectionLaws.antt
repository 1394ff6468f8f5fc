-- Reading one section after another.
use Rattle.std.proofs.Common.{◌≡◌, ℕ, zero, suc, ◌+◌, ◌-◌, ◌<◌, ◌≤◌, List, length, Result, Ok, Err, Option, Some, None, IfSome, refl, sym, ap, ◌∙◌, arith, inl, inr}
use Rattle.std.specs.Prelude.{◌==◌}
use Rattle.std.proofs.lemmas.Bool.{cases_lt, eq-eqb}
use Rattle.grammar_forms.specs.Forms.{Window, read_on, up_to, ends_at, left_over}
use Rattle.grammar_forms.specs.Laws.{IsBelow}
use Rattle.wasm_binary.specs.Faults.{Fault, size}
use Rattle.wasm_binary.specs.Values.{u32, name}
use Rattle.wasm_binary.specs.Modules.{Sections, contents, sized_contents, section}
use Rattle.wasm_binary.specs.Reading.{counted, next_of, read_sections}
use Rattle.wasm_binary.proofs.GrammarLaws.{name_lawful}
use Rattle.wasm_binary.proofs.ModuleLaws.{section_lawful, section_has_bytes}
use Rattle.wasm_binary.proofs.BinaryLaws.{step, end}
use Rattle.wasm_ast.specs.declared.modules.Module.{Module}
use Rattle.owi_base.proofs.Choices.{taken}

abbrev Answer : Type 0
Answer = Result (Sections × ℕ) Fault

abbrev ok : Sections → ℕ → Answer
ok s next = Ok (s, next)

abbrev err : Fault → Answer
err fault = Err fault

-- a name doesn't go back
pub name_goes_on : (w : Window Fault) (at : ℕ) (text : List ℕ) (next : ℕ) → name.read w at ≡ Ok (text, next) → at ≤ next
name_goes_on w at text next e =
    let b = (name_lawful (suc (length w.bytes - at))).sound w at (omega arith) text next e in
    omega (arith, b.3)

-- ---- stated ends

-- a length and contents of this length
sized_is : (s : Sections) (id : ℕ) (w : Window Fault) (at len start : ℕ) (r : Answer) → u32.read w at ≡ Ok (len, start) → (contents s id len).read (up_to size w (start + len)) start ≡ r
    → (sized_contents s id).read w at ≡ read_on r (λ t next. ends_at size (up_to size w (start + len)) (start + len) t next)
sized_is s id w at len start r e f =
    ap (λ (q : Result (ℕ × ℕ) Fault). read_on q (λ n mid. read_on ((contents s id n).read (up_to size w (mid + n)) mid) (λ t next. ends_at size (up_to size w (mid + n)) (mid + n) t next))) e
    ∙ ap (λ (q : Answer). read_on q (λ t next. ends_at size (up_to size w (start + len)) (start + len) t next)) f

-- the same where the window and the end are known under other names
seen : (s : Sections) (id : ℕ) (w inner : Window Fault) (len start end : ℕ) (r : Answer) → end ≡ start + len → inner ≡ up_to size w end → (contents s id len).read inner start ≡ r → (contents s id len).read (up_to size w (start + len)) start ≡ r
seen s id w inner len start end r place is f = ap (λ v. (contents s id len).read v start) (sym (is ∙ ap (up_to size w) place)) ∙ f

pub sized_read : (s : Sections) (id : ℕ) (w inner : Window Fault) (at len start end : ℕ) (t : Sections) (next : ℕ) → u32.read w at ≡ Ok (len, start) → end ≡ start + len → inner ≡ up_to size w end
    → (contents s id len).read inner start ≡ Ok (t, next) → next ≡ end → (sized_contents s id).read w at ≡ Ok (t, next)
sized_read s id w inner at len start end t next e place is f same =
    sized_is s id w at len start (ok t next) e (seen s id w inner len start end (ok t next) place is f)
    ∙ taken (next == (start + len)) (ok t next) (err (left_over size (up_to size w (start + len)) next)) (eq-eqb next (start + len) (same ∙ place))

pub sized_told : (s : Sections) (id : ℕ) (w inner : Window Fault) (at len start end : ℕ) (fault : Fault) → u32.read w at ≡ Ok (len, start) → end ≡ start + len → inner ≡ up_to size w end
    → (contents s id len).read inner start ≡ Err fault → (sized_contents s id).read w at ≡ Err fault
sized_told s id w inner at len start end fault e place is f = sized_is s id w at len start (err fault) e (seen s id w inner len start end (err fault) place is f)

-- ---- one section after another

-- a section has a byte
pub section_goes_on : (w : Window Fault) (s t : Sections) (at next : ℕ) → (section s).read w at ≡ Ok (t, next) → at < next
section_goes_on w s t at next e =
    let b = (section_lawful (suc (length w.bytes - at)) s).sound w at (omega arith) t next e in
    omega (arith, b.3, section_has_bytes s t b.0 b.4)

-- how often reading may go on doesn't matter, where it is often enough
one_more : (n m : ℕ) (w : Window Fault) (s : Sections) (at : ℕ) → at < length w.bytes → ((t : Sections) (next : ℕ) → at < next → read_sections n w t next ≡ read_sections m w t next)
    → (r : Answer) → (section s).read w at ≡ r → next_of r (read_sections n w) ≡ next_of r (read_sections m w)
one_more n m w s at lt alike (Ok x) e = alike x.0 x.1 (section_goes_on w s x.0 at x.1 e)
one_more n m w s at lt alike (Err fault) e = refl

enough : (n m : ℕ) (w : Window Fault) (s : Sections) (at : ℕ) → IsBelow n w at → IsBelow m w at → read_sections n w s at ≡ read_sections m w s at
enough zero m w s at below under = absurd (omega arith)
enough (suc n) zero w s at below under = absurd (omega arith)
enough (suc n) (suc m) w s at below under =
    elim (cases_lt at (length w.bytes)) [
      | inl lt ↦
          step n w s at lt
          ∙ one_more n m w s at lt (λ t next more. enough n m w t next (omega arith) (omega arith)) ((section s).read w at) refl
          ∙ sym (step m w s at lt)
      | inr le ↦ end n w s at le ∙ sym (end m w s at le)
    ]

abbrev pub all_sections : Window Fault → Sections → ℕ → Result Module Fault
all_sections w s at = read_sections (suc (length w.bytes)) w s at

pub section_read : (w : Window Fault) (s t : Sections) (at next : ℕ) → at < length w.bytes → (section s).read w at ≡ Ok (t, next) → all_sections w s at ≡ all_sections w t next
section_read w s t at next lt e =
    let more = section_goes_on w s t at next e in
    step (length w.bytes) w s at lt ∙ ap (λ (r : Answer). next_of r (read_sections (length w.bytes) w)) e
    ∙ enough (length w.bytes) (suc (length w.bytes)) w t next (omega arith) (omega arith)

pub section_told : (w : Window Fault) (s : Sections) (at : ℕ) (all : Result Module Fault) (o : Option Fault) → at < length w.bytes → all ≡ all_sections w s at
    → IfSome o (λ fault. (section s).read w at ≡ Err fault) → IfSome o (λ fault. all ≡ Err fault)
section_told w s at all (Some fault) lt is h = is ∙ step (length w.bytes) w s at lt ∙ ap (λ (r : Answer). next_of r (read_sections (length w.bytes) w)) h
section_told w s at all None lt is h = h

-- no section is left
pub sections_counted : (w : Window Fault) (s : Sections) (at : ℕ) (all answer : Result Module Fault) → length w.bytes ≤ at → all ≡ all_sections w s at → counted s at ≡ answer → all ≡ answer
sections_counted w s at all answer le is h = is ∙ end (length w.bytes) w s at le ∙ h
