-- Laws of `after` and of ends: that there is one list of ends, and that it can be filled from the last sequence back.
use Rattle.std.proofs.Common.{◌≡◌, ℕ, zero, suc, ◌+◌, ◌<◌, ◌≤◌, Bool, true, false, cond, List, [], ◌∷◌, ◌++◌, length, refl, ap, sym, subst, ◌∙◌, arith, get_or, inl, inr, get_or-set_other, get_or-set_same}
use Rattle.std.specs.Prelude.{slice_get, slice_index, Option, Some, None, nat_lt, ◌==◌, ◌&&◌, option_and_then, slice_set, ◌↔◌, ◌≢◌}
use Rattle.std.proofs.lemmas.Bool.{cases_eq}
use Rattle.std.proofs.Math.ListN.{length-set}
use Rattle.std.proofs.lemmas.Option.{slice_get-get_or}
use Rattle.std.proofs.lemmas.Bool.Decides.{nat_tests}
use Rattle.wasm_ast.specs.declared.instructions.Instr.{Instr}
use Rattle.wasm_ast.specs.Numbering.{after, names, AreEnds, IsNumbered}

same_if : {X : Type 0} (b : Bool) (x y z : X) → (b ≡ true → x ≡ y) → cond b x z ≡ cond b y z
same_if true x y z h = h refl
same_if false x y z h = refl

pub if_some : (b : Bool) (p : Option ℕ) (n : ℕ) → cond b p None ≡ Some n → (b ≡ true) × (p ≡ Some n)
if_some true p n h = (refl, h)
if_some false p n h = absurd cc

and_then-if : (f : ℕ → Option ℕ) (b : Bool) (p : Option ℕ) → cond b (option_and_then f p) None ≡ option_and_then f (cond b p None)
and_then-if f true p = refl
and_then-if f false p = refl

-- first some names, and then others
pub after-append : (ends xs ys : List ℕ) (m : ℕ) → after ends (xs ++ ys) m ≡ option_and_then (after ends ys) (after ends xs m)
after-append ends [] ys m = refl
after-append ends (x ∷ xs) ys m =
    ap (λ r. cond (x == m && nat_lt m (length ends)) r None) (after-append ends xs ys (slice_index ends m))
    ∙ and_then-if (after ends ys) (x == m && nat_lt m (length ends)) (after ends xs (slice_index ends m))

-- The ends are right from k on, and each lies after its sequence.
pub record EndsFrom (seqs : List (List Instr)) (ends : List ℕ) (k : ℕ) : Type 0 where
  pub long : length ends ≡ length seqs
  pub above : (j : ℕ) → k ≤ j → j < length ends → j < slice_index ends j
  pub each : (j : ℕ) (instrs : List Instr) → k ≤ j → slice_get seqs j ≡ Some instrs → after ends (names instrs) (j + 1) ≡ Some (slice_index ends j)

-- Ends that agree from k on lead on alike from there.
pub agree : (e f : List ℕ) (k : ℕ) → length e ≡ length f → ((i : ℕ) → k ≤ i → i < length e → i < slice_index e i) → ((i : ℕ) → k ≤ i → i < length e → slice_index e i ≡ slice_index f i) → (ns : List ℕ) (m : ℕ) → k ≤ m → after e ns m ≡ after f ns m
agree e f k long above same [] m le = refl
agree e f k long above same (x ∷ xs) m le =
    rw (← long) (same_if (x == m && nat_lt m (length e)) (after e xs (slice_index e m)) (after f xs (slice_index f m)) None (λ t.
    let lt : m < length e = grind (arith, nat_tests) in
    agree e f k long above same xs (slice_index e m) (omega (arith, above m le lt)) ∙ ap (λ i. after f xs i) (same m le lt)))

-- names lead on to a number that isn't lower
pub rises : (e : List ℕ) (k : ℕ) → ((i : ℕ) → k ≤ i → i < length e → i < slice_index e i) → (ns : List ℕ) (m n : ℕ) → k ≤ m → after e ns m ≡ Some n → m ≤ n
rises e k above [] m n le h = let same : m ≡ n = cc in omega arith
rises e k above (x ∷ xs) m n le h =
    let w = if_some (x == m && nat_lt m (length e)) (after e xs (slice_index e m)) n h in
    let t = w.0 in
    let lt : m < length e = grind (arith, nat_tests) in
    omega (arith, above m le lt, rises e k above xs (slice_index e m) n (omega (arith, above m le lt)) w.1)

-- from k on there is one list of ends; d is how many sequences there are from j on
unique_within : (seqs : List (List Instr)) (e f : List ℕ) (k : ℕ) → EndsFrom seqs e k → AreEnds seqs f → (d j : ℕ) → length seqs ≤ j + d → k ≤ j → j < length seqs → slice_index e j ≡ slice_index f j
unique_within seqs e f k from are zero j past le lt = absurd (omega arith)
unique_within seqs e f k from are (suc d) j past le lt =
    let there : slice_get seqs j ≡ Some (get_or seqs j []) = slice_get-get_or seqs j [] lt in
    let alike : after e (names (get_or seqs j [])) (j + 1) ≡ after f (names (get_or seqs j [])) (j + 1) =
    agree e f (j + 1) (from.long ∙ sym are.long) (λ i ge within. from.above i (omega arith) within)
    (λ i ge within. unique_within seqs e f k from are d i (omega arith) (omega arith) (omega (arith, from.long)))
    (names (get_or seqs j [])) (j + 1) (omega arith)
    in
    let here = from.each j (get_or seqs j []) le there in
    let other = are.each j (get_or seqs j []) there in
    cc

pub unique : (seqs : List (List Instr)) (e f : List ℕ) (k : ℕ) → EndsFrom seqs e k → AreEnds seqs f → (j : ℕ) → k ≤ j → j < length seqs → slice_index e j ≡ slice_index f j
unique seqs e f k from are j le lt = unique_within seqs e f k from are (length seqs) j (omega arith) le lt

-- one more end, of the sequence j
pub one_more : (seqs : List (List Instr)) (e : List ℕ) (j n : ℕ) (instrs : List Instr) → EndsFrom seqs e (j + 1) → slice_get seqs j ≡ Some instrs → j < length e → after e (names instrs) (j + 1) ≡ Some n → EndsFrom seqs (slice_set e j n) j
one_more seqs e j n instrs from there lt leads =
    let other : (i : ℕ) → j + 1 ≤ i → slice_index e i ≡ slice_index (slice_set e j n) i =
    λ i le. let ne : i ≢ j = omega arith in sym (get_or-set_other e j i n 0 ne) in
    let here : slice_index (slice_set e j n) j ≡ n = get_or-set_same e j n 0 lt in
    let alike : (ns : List ℕ) (m : ℕ) → j + 1 ≤ m → after e ns m ≡ after (slice_set e j n) ns m =
    λ ns m le. agree e (slice_set e j n) (j + 1) (sym (length-set e j n)) from.above (λ i ge within. other i ge) ns m le in
    let higher : j + 1 ≤ n = rises e (j + 1) from.above (names instrs) (j + 1) n (omega arith) leads in
    record {
      long = length-set e j n ∙ from.long;
      above = λ i le within. elim (cases_eq i j) [
        | inl same ↦ rw (same, here) (omega arith)
        | inr ne ↦ rw (← other i (omega arith)) (from.above i (omega arith) (omega (arith, length-set e j n)))
      ];
      each = λ i is le at. elim (cases_eq i j) [
        | inl same ↦ let its : is ≡ instrs = cc in rw (same, its, ← alike (names instrs) (j + 1) (omega arith), here) leads
        | inr ne ↦ rw (← alike (names is) (i + 1) (omega arith), ← other i (omega arith)) (from.each i is (omega arith) at)
      ];
    }

-- where the names of a sequence lead nowhere, there is no numbering
pub none_there : (seqs : List (List Instr)) (e : List ℕ) (j : ℕ) (instrs : List Instr) → EndsFrom seqs e (j + 1) → slice_get seqs j ≡ Some instrs → after e (names instrs) (j + 1) ≡ None → IsNumbered seqs → ⊥
none_there seqs e j instrs from there leads numbered =
    let f = numbered.ends in
    let alike : after e (names instrs) (j + 1) ≡ after f (names instrs) (j + 1) =
    agree e f (j + 1) (from.long ∙ sym numbered.are_ends.long) from.above (λ i ge within. unique seqs e f (j + 1) from numbered.are_ends i ge (omega (arith, from.long))) (names instrs) (j + 1) (omega arith)
    in
    let other = numbered.are_ends.each j instrs there in
    cc

-- once all ends are known, the first of them tells
pub first_tells : (seqs : List (List Instr)) (e : List ℕ) → EndsFrom seqs e 0 → 0 < length seqs → (slice_index e 0 ≡ length seqs) ↔ IsNumbered seqs
first_tells seqs e from some = (
  λ is. record { outermost = some; ends = e; are_ends = record { long = from.long; each = λ k instrs at. from.each k instrs (omega arith) at }; all_inside = is },
  λ numbered. unique seqs e numbered.ends 0 from numbered.are_ends 0 (omega arith) some ∙ numbered.all_inside,
)

-- the same two where k is the number after j
pub one_more_below : (seqs : List (List Instr)) (e : List ℕ) (k j n : ℕ) (instrs : List Instr) → k ≡ j + 1 → EndsFrom seqs e k → slice_get seqs j ≡ Some instrs → j < length e → after e (names instrs) k ≡ Some n → EndsFrom seqs (slice_set e j n) j
one_more_below seqs e k j n instrs next from there lt leads =
    one_more seqs e j n instrs (let P : ℕ → Type 0 = λ k. EndsFrom seqs e k in subst P next from) there lt (ap (λ i. after e (names instrs) i) (sym next) ∙ leads)

pub none_below : (seqs : List (List Instr)) (e : List ℕ) (k j : ℕ) (instrs : List Instr) → k ≡ j + 1 → EndsFrom seqs e k → slice_get seqs j ≡ Some instrs → after e (names instrs) k ≡ None → IsNumbered seqs → ⊥
none_below seqs e k j instrs next from there leads numbered =
    none_there seqs e j instrs (let P : ℕ → Type 0 = λ k. EndsFrom seqs e k in subst P next from) there (ap (λ i. after e (names instrs) i) (sym next) ∙ leads) numbered
