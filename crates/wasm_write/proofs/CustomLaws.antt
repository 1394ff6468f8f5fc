-- Custom sections in order of their slots are all custom sections, one slot after another.
use Rattle.std.proofs.Common.{◌≡◌, ℕ, zero, suc, ◌<◌, ◌≤◌, ◌⊎◌, inl, inr, Bool, true, false, cond, List, [], ◌∷◌, ◌++◌, map, filter, All, refl, sym, ap, ◌∙◌, arith}
use Rattle.std.specs.Prelude.{◌==◌, ◌&&◌, ◌||◌, nat_le, IsTrue}
use Rattle.std.specs.List.Sorted.{IsNonDecreasingBy}
use Rattle.std.proofs.lemmas.Bool.{cases_lt, cases_eq, le-leb, lt-leb, eq-eqb, ne_eqb}
use Rattle.std.proofs.lemmas.Bool.Decides.{nat_tests}
use Rattle.wasm_ast.specs.Sections.{is_written}
use Rattle.wasm_ast.specs.declared.modules.Custom.{Custom}
use Rattle.wasm_ast.specs.declared.modules.Module.{Module}
use Rattle.wasm_binary.specs.Modules.{last_written, settled}
use Rattle.owi_base.proofs.Choices.{taken, passed}

abbrev pub at_slot : ℕ → List Custom → List Custom
at_slot slot cs = filter (λ c. c.after == slot) cs

abbrev up_to_slot : ℕ → List Custom → List Custom
up_to_slot slot cs = filter (λ c. nat_le c.after slot) cs

-- those of the slots from 0 to this one, one slot after another
abbrev pub gathered : List Custom → ℕ → List Custom
gathered cs zero = at_slot zero cs
gathered cs (suc slot) = gathered cs slot ++ at_slot (suc slot) cs

kept : (test : Custom → Bool) (c : Custom) (cs : List Custom) → test c ≡ true → filter test (c ∷ cs) ≡ c ∷ filter test cs
kept test c cs e = taken (test c) (c ∷ filter test cs) (filter test cs) e

skipped : (test : Custom → Bool) (c : Custom) (cs : List Custom) → test c ≡ false → filter test (c ∷ cs) ≡ filter test cs
skipped test c cs e = passed (test c) (c ∷ filter test cs) (filter test cs) e

later : (c : Custom) (cs : List Custom) → IsNonDecreasingBy (λ c. c.after) (c ∷ cs) → IsNonDecreasingBy (λ c. c.after) cs
later c cs h = λ i j d le lt. h (suc i) (suc j) d (omega arith) (omega arith)

-- none of a slot up to this one, where all are later
no_lower : (slot : ℕ) (cs : List Custom) → All (λ c. slot < c.after) cs → up_to_slot slot cs ≡ []
no_lower slot [] h = refl
no_lower slot (c ∷ cs) h =
    skipped (λ c. nat_le c.after slot) c cs (lt-leb c.after slot (h 0 c (omega arith))) ∙ no_lower slot cs (λ k d lt. h (suc k) d (omega arith))

one_more : (slot : ℕ) (cs : List Custom) → IsNonDecreasingBy (λ c. c.after) cs → up_to_slot slot cs ++ at_slot (suc slot) cs ≡ up_to_slot (suc slot) cs
one_more slot [] h = refl
one_more slot (c ∷ cs) h =
    let low : Custom → Bool = λ c. nat_le c.after slot in
    let here : Custom → Bool = λ c. c.after == suc slot in
    let both : Custom → Bool = λ c. nat_le c.after (suc slot) in
    let others = one_more slot cs (later c cs h) in
    elim (cases_lt slot c.after) [
      | inr le ↦
          ap (λ l. l ++ filter here (c ∷ cs)) (kept low c cs (le-leb c.after slot le))
          ∙ ap (λ l. (c ∷ filter low cs) ++ l) (skipped here c cs (ne_eqb c.after (suc slot) (λ e. omega arith)))
          ∙ ap (λ l. c ∷ l) others ∙ sym (kept both c cs (le-leb c.after (suc slot) (omega arith)))
      | inl gt ↦ elim (cases_eq c.after (suc slot)) [
        | inl same ↦
            let none : filter low cs ≡ [] = no_lower slot cs (λ k d lt. omega (arith, h 0 (suc k) d (omega arith) (omega arith))) in
            ap (λ l. l ++ filter here (c ∷ cs)) (skipped low c cs (lt-leb c.after slot gt) ∙ none)
            ∙ kept here c cs (eq-eqb c.after (suc slot) same)
            ∙ ap (λ l. c ∷ l) (sym (ap (λ l. l ++ filter here cs) none) ∙ others)
            ∙ sym (kept both c cs (le-leb c.after (suc slot) (omega arith)))
        | inr ne ↦
            let higher : suc slot < c.after = omega arith in
            ap (λ l. l ++ filter here (c ∷ cs)) (skipped low c cs (lt-leb c.after slot gt))
            ∙ ap (λ l. filter low cs ++ l) (skipped here c cs (ne_eqb c.after (suc slot) ne))
            ∙ others ∙ sym (skipped both c cs (lt-leb c.after (suc slot) higher))
      ]
    ]

first_slot : (cs : List Custom) → at_slot 0 cs ≡ up_to_slot 0 cs
first_slot [] = refl
first_slot (c ∷ cs) =
    elim (cases_eq c.after 0) [
      | inl same ↦ kept (λ c. c.after == 0) c cs (eq-eqb c.after 0 same) ∙ ap (λ l. c ∷ l) (first_slot cs) ∙ sym (kept (λ c. nat_le c.after 0) c cs (le-leb c.after 0 (omega arith)))
      | inr ne ↦ skipped (λ c. c.after == 0) c cs (ne_eqb c.after 0 ne) ∙ first_slot cs ∙ sym (skipped (λ c. nat_le c.after 0) c cs (lt-leb c.after 0 (omega arith)))
    ]

gathered_are : (cs : List Custom) (slot : ℕ) → IsNonDecreasingBy (λ c. c.after) cs → gathered cs slot ≡ up_to_slot slot cs
gathered_are cs zero h = first_slot cs
gathered_are cs (suc slot) h = ap (λ l. l ++ at_slot (suc slot) cs) (gathered_are cs slot h) ∙ one_more slot cs h

all_kept : (slot : ℕ) (cs : List Custom) → All (λ c. c.after ≤ slot) cs → up_to_slot slot cs ≡ cs
all_kept slot [] h = refl
all_kept slot (c ∷ cs) h =
    kept (λ c. nat_le c.after slot) c cs (le-leb c.after slot (h 0 c (omega arith))) ∙ ap (λ l. c ∷ l) (all_kept slot cs (λ k d lt. h (suc k) d (omega arith)))

pub all_gathered : (cs : List Custom) (slot : ℕ) → IsNonDecreasingBy (λ c. c.after) cs → All (λ c. c.after ≤ slot) cs → gathered cs slot ≡ cs
all_gathered cs slot h le = gathered_are cs slot h ∙ all_kept slot cs le

-- ---- slots

among : (k : ℕ) (a b c d e f g h i j l m : Bool)
    → ((k == 1 && a) || (k == 2 && b) || (k == 3 && c) || (k == 4 && d) || (k == 5 && e) || (k == 6 && f) || (k == 7 && g) || (k == 8 && h) || (k == 9 && i) || (k == 10 && j) || (k == 11 && l) || (k == 12 && m)) ≡ true → k ≤ 12
among k a b c d e f g h i j l m is = grind (arith, nat_tests)

pub slot_within : (m : Module) (slot : ℕ) → is_written m slot ≡ true → slot ≤ 12
slot_within m slot is = among slot _ _ _ _ _ _ _ _ _ _ _ _ is

abbrev pub HasPlace : Module → Custom → Type 0
HasPlace m c = (c.after ≡ 0) ⊎ IsTrue (is_written m c.after)

pub place_within : (m : Module) (c : Custom) → HasPlace m c → c.after ≤ 12
place_within m c h = elim h [ inl e ↦ omega arith | inr e ↦ slot_within m c.after e ]

-- the slot of a section that is written is the last up to it that is written
pub last_is : (m : Module) (slot : ℕ) → (slot ≡ 0) ⊎ IsTrue (is_written m slot) → last_written m slot ≡ slot
last_is m zero h = refl
last_is m (suc slot) h = elim h [ inl e ↦ absurd (omega arith) | inr e ↦ taken (is_written m (suc slot)) (suc slot) (last_written m slot) e ]

-- customs that have their places stay at them
pub all_settled : (m : Module) (cs : List Custom) → All (HasPlace m) cs → map (settled m) cs ≡ cs
all_settled m [] h = refl
all_settled m (c ∷ cs) h =
    ap (λ n. (let d : Custom = record c { after = n } in d) ∷ map (settled m) cs) (last_is m c.after (h 0 c (omega arith)))
    ∙ ap (λ l. c ∷ l) (all_settled m cs (λ k d lt. h (suc k) d (omega arith)))
