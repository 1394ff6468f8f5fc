-- Reading a module gives exactly the module that the bytes spell, or exactly their first trouble.
use Rattle.std.proofs.Common.{◌≡◌, ◌≢◌, ℕ, zero, suc, ◌+◌, ◌-◌, ◌≤◌, ◌<◌, ◌⊎◌, inl, inr, List, [], ◌∷◌, ◌++◌, length, drop, Option, Some, None, Result, Ok, Err, refl, sym, ap, subst, ◌∙◌, append-nil, arith, length-append, length-drop}
use Rattle.std.specs.Prelude.{◌==◌, nat_lt}
use Rattle.std.proofs.lemmas.Bool.{lt-ltb, le-ltb, cases_lt, eqb-true, eqb-false, eq-eqb, ne_eqb}
use Rattle.grammar_forms.specs.Forms.{Window, read_on}
use Rattle.grammar_forms.specs.Laws.{IsBelow}
use Rattle.grammar_forms.proofs.FormLaws.{reads_between, read_on_ok}
use Rattle.wasm_ast.specs.declared.modules.Module.{Module}
use Rattle.wasm_binary.specs.Faults.{Fault, count}
use Rattle.wasm_binary.specs.Modules.{Sections, no_sections, front, section, sections, front_and_sections, module_of, whole, HaveTheirCounts, IsBinary, CountFault, BinaryFault}
use Rattle.wasm_binary.specs.Reading.{segments_counted, counted, next_of, read_sections, read_binary}
use Rattle.wasm_binary.proofs.ModuleLaws.{section_lawful, section_has_bytes, front_lawful, front_and_sections_lawful}
use Rattle.owi_base.proofs.Choices.{chosen, taken, passed}

abbrev Answer : Type 0
Answer = Result Module Fault

abbrev ok : Module → Answer
ok m = Ok m

abbrev err : Fault → Answer
err fault = Err fault

err_is_no_ok : (fault : Fault) (m : Module) → err fault ≡ ok m → ⊥
err_is_no_ok fault m e = cc

ok_is_no_err : (fault : Fault) (m : Module) → ok m ≡ err fault → ⊥
ok_is_no_err fault m e = cc

ok_is : (m n : Module) → ok m ≡ ok n → n ≡ m
ok_is m n e = cc

err_is : (a b : Fault) → err a ≡ err b → b ≡ a
err_is a b e = cc

-- ---- the counts at the end

segments_ok : (s : Sections) (at : ℕ) (announced : Option ℕ) (m : Module) → segments_counted s at announced ≡ Ok m → ((n : ℕ) → announced ≡ Some n → n ≡ length s.segments) × (m ≡ module_of s)
segments_ok s at None m e = (λ n h. absurd cc, ok_is (module_of s) m e)
segments_ok s at (Some k) m e =
    elim (chosen (k == length s.segments) (ok (module_of s)) (err (count k (length s.segments) at)) (ok m) e) [
      | inl same ↦ (λ n h. let is : k ≡ n = cc in sym is ∙ eqb-true k (length s.segments) same.0, ok_is (module_of s) m same.1)
      | inr other ↦ absurd (err_is_no_ok (count k (length s.segments) at) m other.1)
    ]

counted_ok : (s : Sections) (at : ℕ) (m : Module) → counted s at ≡ Ok m → HaveTheirCounts s × (m ≡ module_of s)
counted_ok s at m e =
    elim (chosen (length s.type_indices == length s.codes) (segments_counted s at s.data_count) (err (count (length s.type_indices) (length s.codes) at)) (ok m) e) [
      | inl same ↦
          let are = segments_ok s at s.data_count m same.1 in
          (record { codes = eqb-true (length s.type_indices) (length s.codes) same.0; segments = are.0 }, are.1)
      | inr other ↦ absurd (err_is_no_ok (count (length s.type_indices) (length s.codes) at) m other.1)
    ]

segments_are : (s : Sections) (at : ℕ) (announced : Option ℕ) → ((n : ℕ) → announced ≡ Some n → n ≡ length s.segments) → segments_counted s at announced ≡ Ok (module_of s)
segments_are s at None h = refl
segments_are s at (Some k) h = taken (k == length s.segments) (ok (module_of s)) (err (count k (length s.segments) at)) (eq-eqb k (length s.segments) (h k refl))

counted_are : (s : Sections) (at : ℕ) → HaveTheirCounts s → counted s at ≡ Ok (module_of s)
counted_are s at h =
    taken (length s.type_indices == length s.codes) (segments_counted s at s.data_count) (err (count (length s.type_indices) (length s.codes) at)) (eq-eqb (length s.type_indices) (length s.codes) h.codes)
    ∙ segments_are s at s.data_count h.segments

segments_err : (s : Sections) (at : ℕ) (announced : Option ℕ) (fault : Fault) → segments_counted s at announced ≡ Err fault → (n : ℕ) × (announced ≡ Some n) × (n ≢ length s.segments) × (fault ≡ count n (length s.segments) at)
segments_err s at None fault e = absurd (ok_is_no_err fault (module_of s) e)
segments_err s at (Some k) fault e =
    elim (chosen (k == length s.segments) (ok (module_of s)) (err (count k (length s.segments) at)) (err fault) e) [
      | inl same ↦ absurd (ok_is_no_err fault (module_of s) same.1)
      | inr other ↦ (k, refl, eqb-false k (length s.segments) other.0, err_is (count k (length s.segments) at) fault other.1)
    ]

counted_err : (s : Sections) (at : ℕ) (fault : Fault) → counted s at ≡ Err fault → CountFault s at fault
counted_err s at fault e =
    elim (chosen (length s.type_indices == length s.codes) (segments_counted s at s.data_count) (err (count (length s.type_indices) (length s.codes) at)) (err fault) e) [
      | inl same ↦
          let is = segments_err s at s.data_count fault same.1 in
          inr (eqb-true (length s.type_indices) (length s.codes) same.0, is.0, is.1, is.2, is.3)
      | inr other ↦ inl (eqb-false (length s.type_indices) (length s.codes) other.0, err_is (count (length s.type_indices) (length s.codes) at) fault other.1)
    ]

segments_fault : (s : Sections) (at : ℕ) (announced : Option ℕ) (n : ℕ) → announced ≡ Some n → n ≢ length s.segments → segments_counted s at announced ≡ Err (count n (length s.segments) at)
segments_fault s at None n is ne = absurd cc
segments_fault s at (Some k) n is ne =
    let same : k ≡ n = cc in
    ap (λ j. segments_counted s at (Some j)) same ∙ passed (n == length s.segments) (ok (module_of s)) (err (count n (length s.segments) at)) (ne_eqb n (length s.segments) ne)

counted_fault : (s : Sections) (at : ℕ) (fault : Fault) → CountFault s at fault → counted s at ≡ Err fault
counted_fault s at fault t =
    elim t [
      | inl codes ↦
          passed (length s.type_indices == length s.codes) (segments_counted s at s.data_count) (err (count (length s.type_indices) (length s.codes) at)) (ne_eqb (length s.type_indices) (length s.codes) codes.0)
          ∙ ap err (sym codes.1)
      | inr segments ↦
          taken (length s.type_indices == length s.codes) (segments_counted s at s.data_count) (err (count (length s.type_indices) (length s.codes) at)) (eq-eqb (length s.type_indices) (length s.codes) segments.0)
          ∙ segments_fault s at s.data_count segments.1 segments.2 segments.3 ∙ ap err (sym segments.4)
    ]

-- ---- one section after another

pub step : (n : ℕ) (w : Window Fault) (s : Sections) (at : ℕ) → at < length w.bytes → read_sections (suc n) w s at ≡ next_of ((section s).read w at) (read_sections n w)
unfolding read_sections
step n w s at lt = taken (nat_lt at (length w.bytes)) (next_of ((section s).read w at) (read_sections n w)) (counted s at) (lt-ltb at (length w.bytes) lt)

pub end : (n : ℕ) (w : Window Fault) (s : Sections) (at : ℕ) → length w.bytes ≤ at → read_sections (suc n) w s at ≡ counted s at
unfolding read_sections
end n w s at le = passed (nat_lt at (length w.bytes)) (next_of ((section s).read w at) (read_sections n w)) (counted s at) (le-ltb at (length w.bytes) le)

-- after a section fewer bytes are left, and there was one
further : (n : ℕ) (w : Window Fault) (s t : Sections) (at next : ℕ) → IsBelow (suc n) w at → (section s).read w at ≡ Ok (t, next) → (at < length w.bytes) × IsBelow n w next
further n w s t at next below e =
    let b = (section_lawful (suc n) s).sound w at below t next e in
    let some = section_has_bytes s t b.0 b.4 in
    let long : length w.bytes - at ≡ length b.0 + length b.1 = omega (arith, ap length b.2, length-append b.0 b.1, length-drop at w.bytes) in
    (omega (arith, long, some), omega (arith, long, some, b.3))

-- where reading sections stops: at the end, or at a section in trouble
pub record Stops (w : Window Fault) (s : Sections) (at : ℕ) (answer : Answer) : Type 0 where
  pub section_count : ℕ
  pub all : Sections
  pub next : ℕ
  pub read : (sections section_count s).read w at ≡ Ok (all, next)
  pub why : ((length w.bytes ≤ next) × (answer ≡ counted all next)) ⊎ ((next < length w.bytes) × (fault : Fault) × ((section all).read w next ≡ Err fault) × (answer ≡ Err fault))

-- a section, where reading stops after it
one_more : (n : ℕ) (w : Window Fault) (s : Sections) (at : ℕ) → ((t : Sections) (next : ℕ) → IsBelow n w next → Stops w t next (read_sections n w t next))
    → IsBelow (suc n) w at → at < length w.bytes → (r : Result (Sections × ℕ) Fault) → (section s).read w at ≡ r → Stops w s at (next_of r (read_sections n w))
one_more n w s at later below lt (Err fault) e = record { section_count = 0; all = s; next = at; read = refl; why = inr (lt, fault, e, refl) }
one_more n w s at later below lt (Ok x) e =
    let there = further n w s x.0 at x.1 below e in
    let more = later x.0 x.1 there.1 in
    record {
      section_count = suc more.section_count;
      all = more.all;
      next = more.next;
      read = ap (λ (r : Result (Sections × ℕ) Fault). read_on r (λ t next. (sections more.section_count t).read w next)) e ∙ more.read;
      why = more.why;
    }

stops : (n : ℕ) (w : Window Fault) (s : Sections) (at : ℕ) → IsBelow n w at → Stops w s at (read_sections n w s at)
stops zero w s at below = absurd (omega arith)
stops (suc n) w s at below =
    elim (cases_lt at (length w.bytes)) [
      | inl lt ↦
          let P : Answer → Type 0 = λ a. Stops w s at a in
          subst P (sym (step n w s at lt)) (one_more n w s at (λ t next under. stops n w t next under) below lt ((section s).read w at) refl)
      | inr le ↦ record { section_count = 0; all = s; next = at; read = refl; why = inl (le, end n w s at le) }
    ]

-- after sections that are read, reading goes on
pub record GoesOn (n : ℕ) (w : Window Fault) (s : Sections) (at : ℕ) (t : Sections) (next : ℕ) : Type 0 where
  pub left : ℕ
  pub below : IsBelow (suc left) w next
  pub same : read_sections n w s at ≡ read_sections (suc left) w t next

goes_on : (k n : ℕ) (w : Window Fault) (s t : Sections) (at next : ℕ) → IsBelow n w at → (sections k s).read w at ≡ Ok (t, next) → GoesOn n w s at t next
goes_on k zero w s t at next below e = absurd (omega arith)
goes_on zero (suc n) w s t at next below e =
    let same : (let p : Sections × ℕ = (s, at) in p) ≡ (t, next) = cc in
    let t_is : s ≡ t = ap (λ (p : Sections × ℕ). p.0) same in
    let next_is : at ≡ next = ap (λ (p : Sections × ℕ). p.1) same in
    record {
      left = n;
      below = omega (arith, below, next_is);
      same = ap (λ u. read_sections (suc n) w u at) t_is ∙ ap (λ i. read_sections (suc n) w t i) next_is;
    }
goes_on (suc k) (suc n) w s t at next below e =
    let one = read_on_ok ((section s).read w at) (λ u mid. (sections k u).read w mid) (t, next) e in
    let there = further n w s one.0 at one.1 below one.2 in
    let more = goes_on k n w one.0 t one.1 next there.1 one.3 in
    record {
      left = more.left;
      below = more.below;
      same = step n w s at there.0 ∙ ap (λ (r : Result (Sections × ℕ) Fault). next_of r (read_sections n w)) one.2 ∙ more.same;
    }

-- ---- the whole

abbrev all_below : List ℕ → ℕ
all_below bytes = suc (length bytes)

at_start : (bytes : List ℕ) (at : ℕ) → IsBelow (all_below bytes) (whole bytes) at
at_start bytes at = omega arith

-- a text that begins all bytes and reaches their end is all of them
is_all : (bytes text rest : List ℕ) → drop 0 bytes ≡ text ++ rest → length bytes ≤ length text → bytes ≡ text
is_all bytes text [] e le = e ∙ append-nil text
is_all bytes text (b ∷ rest) e le = absurd (omega (arith, ap length e, length-append text (b ∷ rest)))

front_ok : (r : Result (ℕ × ℕ) Fault) (next : ℕ → ℕ → Answer) (m : Module) → next_of r next ≡ Ok m → (x : ℕ × ℕ) × (r ≡ Ok x) × (next x.0 x.1 ≡ Ok m)
front_ok (Ok x) next m e = (x, refl, e)
front_ok (Err fault) next m e = absurd (err_is_no_ok fault m e)

front_err : (r : Result (ℕ × ℕ) Fault) (next : ℕ → ℕ → Answer) (fault : Fault) → next_of r next ≡ Err fault → (r ≡ Err fault) ⊎ ((x : ℕ × ℕ) × (r ≡ Ok x) × (next x.0 x.1 ≡ Err fault))
front_err (Ok x) next fault e = inr (x, refl, e)
front_err (Err other) next fault e = inl (let same : fault ≡ other = err_is other fault e in ap (λ f. let r : Result (ℕ × ℕ) Fault = Err f in r) (sym same))

abbrev rest_of : List ℕ → ℕ → ℕ → Answer
rest_of bytes _ at = read_sections (all_below bytes) (whole bytes) no_sections at

-- the front and the sections that stop there, as one form
both : (bytes : List ℕ) (k : ℕ) (x : ℕ × ℕ) (t : Sections) (next : ℕ) → front.read (whole bytes) 0 ≡ Ok x → (sections k no_sections).read (whole bytes) x.1 ≡ Ok (t, next) → (front_and_sections k).read (whole bytes) 0 ≡ Ok (t, next)
both bytes k x t next e f = ap (λ (r : Result (ℕ × ℕ) Fault). read_on r (λ _ mid. (sections k no_sections).read (whole bytes) mid)) e ∙ f

pub binary_sound : (bytes : List ℕ) (m : Module) → read_binary bytes ≡ Ok m → IsBinary m bytes
unfolding read_binary
binary_sound bytes m e =
    let w = whole bytes in
    let first = front_ok (front.read w 0) (rest_of bytes) m e in
    let x = first.0 in
    let s = stops (all_below bytes) w no_sections x.1 (at_start bytes x.1) in
    let read = both bytes s.section_count x s.all s.next first.1 s.read in
    let b = (front_and_sections_lawful (all_below bytes) s.section_count).sound w 0 (at_start bytes 0) s.all s.next read in
    elim s.why [
      | inl here ↦
          let counts = counted_ok s.all s.next m (sym here.1 ∙ first.2) in
          let P : List ℕ → Type 0 = λ text. (front_and_sections s.section_count).Spells s.all text in
          let all : bytes ≡ b.0 = is_all bytes b.0 b.1 b.2 (omega (arith, b.3, here.0)) in
          record { section_count = s.section_count; all = s.all; spelled = subst P (sym all) b.4; counts = counts.0; is = counts.1 }
      | inr there ↦ absurd (err_is_no_ok there.1 m (sym there.3 ∙ first.2))
    ]

pub binary_complete : (bytes : List ℕ) (m : Module) → IsBinary m bytes → read_binary bytes ≡ Ok m
unfolding read_binary
binary_complete bytes m is =
    let w = whole bytes in
    let read = (front_and_sections_lawful (all_below bytes) is.section_count).complete w 0 (at_start bytes 0) is.all bytes [] (sym (append-nil bytes)) is.spelled in
    let one = read_on_ok (front.read w 0) (λ _ mid. (sections is.section_count no_sections).read w mid) (is.all, 0 + length bytes) read in
    let on = goes_on is.section_count (all_below bytes) w no_sections is.all one.1 (0 + length bytes) (at_start bytes one.1) one.3 in
    let last = end on.left w is.all (0 + length bytes) (omega arith) in
    ap (λ (r : Result (ℕ × ℕ) Fault). next_of r (rest_of bytes)) one.2 ∙ on.same ∙ last ∙ counted_are is.all (0 + length bytes) is.counts ∙ ap ok (sym is.is)

pub binary_named : (bytes : List ℕ) (fault : Fault) → read_binary bytes ≡ Err fault → BinaryFault bytes fault
unfolding read_binary
binary_named bytes fault e =
    let w = whole bytes in
    elim (front_err (front.read w 0) (rest_of bytes) fault e) [
      | inl here ↦ inl ((front_lawful (all_below bytes)).named w 0 (at_start bytes 0) fault here)
      | inr first ↦
          let x = first.0 in
          let s = stops (all_below bytes) w no_sections x.1 (at_start bytes x.1) in
          let read = both bytes s.section_count x s.all s.next first.1 s.read in
          let b = (front_and_sections_lawful (all_below bytes) s.section_count).sound w 0 (at_start bytes 0) s.all s.next read in
          elim s.why [
            | inl here ↦
                let at_end : s.next ≡ length bytes = omega (arith, b.3, here.0, ap length b.2, length-append b.0 b.1) in
                inr (s.section_count, s.all, s.next, b, inr (at_end, counted_err s.all s.next fault (sym here.1 ∙ first.2)))
            | inr there ↦
                let same : fault ≡ there.1 = err_is there.1 fault (sym there.3 ∙ first.2) in
                let P : Fault → Type 0 = λ f. (section s.all).Trouble w s.next f in
                let trouble = (section_lawful (all_below bytes) s.all).named w s.next (at_start bytes s.next) there.1 there.2 in
                inr (s.section_count, s.all, s.next, b, inl (there.0, subst P (sym same) trouble))
          ]
    ]

pub binary_found : (bytes : List ℕ) (fault : Fault) → BinaryFault bytes fault → read_binary bytes ≡ Err fault
unfolding read_binary
binary_found bytes fault t =
    let w = whole bytes in
    elim t [
      | inl here ↦ ap (λ (r : Result (ℕ × ℕ) Fault). next_of r (rest_of bytes)) ((front_lawful (all_below bytes)).found w 0 (at_start bytes 0) fault here)
      | inr one ↦
          let k = one.0 in
          let s = one.1 in
          let at = one.2 in
          let read = reads_between (all_below bytes) (front_and_sections k) (front_and_sections_lawful (all_below bytes) k) w 0 (at_start bytes 0) s at one.3 in
          let first = read_on_ok (front.read w 0) (λ _ mid. (sections k no_sections).read w mid) (s, at) read in
          let on = goes_on k (all_below bytes) w no_sections s first.1 at (at_start bytes first.1) first.3 in
          let before : read_binary bytes ≡ read_sections (suc on.left) w s at = ap (λ (r : Result (ℕ × ℕ) Fault). next_of r (rest_of bytes)) first.2 ∙ on.same in
          elim one.4 [
            | inl there ↦
                before ∙ step on.left w s at there.0
                ∙ ap (λ (r : Result (Sections × ℕ) Fault). next_of r (read_sections on.left w)) ((section_lawful (all_below bytes) s).found w at (at_start bytes at) fault there.1)
            | inr there ↦ before ∙ end on.left w s at (omega (arith, there.0)) ∙ counted_fault s at fault there.1
          ]
    ]

-- ---- what follows of the definitions

pub one_module : (bytes : List ℕ) (m n : Module) → IsBinary m bytes → IsBinary n bytes → m ≡ n
one_module bytes m n p q = ok_is n m (sym (binary_complete bytes n q) ∙ binary_complete bytes m p)

pub one_fault : (bytes : List ℕ) (a b : Fault) → BinaryFault bytes a → BinaryFault bytes b → a ≡ b
one_fault bytes a b p q = err_is b a (sym (binary_found bytes b q) ∙ binary_found bytes a p)

pub never_both : (bytes : List ℕ) (m : Module) (fault : Fault) → IsBinary m bytes → BinaryFault bytes fault → ⊥
never_both bytes m fault p q = ok_is_no_err fault m (sym (binary_complete bytes m p) ∙ binary_found bytes fault q)

either : (bytes : List ℕ) (r : Answer) → read_binary bytes ≡ r → ((m : Module) × IsBinary m bytes) ⊎ ((fault : Fault) × BinaryFault bytes fault)
either bytes (Ok m) e = inl (m, binary_sound bytes m e)
either bytes (Err fault) e = inr (fault, binary_named bytes fault e)

pub one_of_both : (bytes : List ℕ) → ((m : Module) × IsBinary m bytes) ⊎ ((fault : Fault) × BinaryFault bytes fault)
one_of_both bytes = either bytes (read_binary bytes) refl
