-- A sequence that an instruction names has a higher number than the sequence in which the instruction stands: `inner`.
-- So every walk into inner sequences ends, by the measure of how many sequences there are from a number on.
use Rattle.std.proofs.Common.{◌≡◌, ℕ, zero, suc, ◌+◌, ◌<◌, ◌≤◌, List, [], ◌∷◌, ◌++◌, length, sym, subst, arith, get_or}
use Rattle.std.specs.Prelude.{slice_get, slice_index, Some, nat_lt, ◌==◌, ◌&&◌}
use Rattle.std.proofs.lemmas.Option.{slice_get-get_or}
use Rattle.std.proofs.lemmas.Bool.Decides.{nat_tests}
use Rattle.std.specs.List.{AllByRecursion as ByRecursion}
use Rattle.wasm_ast.specs.declared.instructions.Instr.{Instr}
use Rattle.wasm_ast.specs.Numbering.{after, names, named_by, AreEnds, IsNumbered}
use Rattle.wasm_ast.proofs.NumberingLemmas.{if_some, rises}

-- the numbers that a sequence takes end above its own
pub above_within : (seqs : List (List Instr)) (f : List ℕ) → AreEnds seqs f → (d j : ℕ) → length seqs ≤ j + d → j < length seqs → j < slice_index f j
above_within seqs f are zero j past lt = absurd (omega arith)
above_within seqs f are (suc d) j past lt =
    let there : slice_get seqs j ≡ Some (get_or seqs j []) = slice_get-get_or seqs j [] lt in
    let higher : j + 1 ≤ slice_index f j =
    rises f (j + 1) (λ i le within. above_within seqs f are d i (omega arith) (omega (arith, are.long))) (names (get_or seqs j [])) (j + 1) (slice_index f j) (omega arith) (are.each j (get_or seqs j []) there)
    in
    omega arith

-- names that lead on are numbers from m on
all_named : (e : List ℕ) (k : ℕ) → ((i : ℕ) → k ≤ i → i < length e → i < slice_index e i) → (ns : List ℕ) (m n : ℕ) → k ≤ m → after e ns m ≡ Some n → ByRecursion (λ x. (k ≤ x) × (x < length e)) ns
all_named e k above [] m n le h = tt
all_named e k above (x ∷ xs) m n le h =
    let w = if_some (x == m && nat_lt m (length e)) (after e xs (slice_index e m)) n h in
    let t = w.0 in
    let lt : m < length e = grind (arith, nat_tests) in
    let is : x ≡ m = grind (arith, nat_tests) in
    ((omega arith, omega arith), all_named e k above xs (slice_index e m) n (omega (arith, above m le lt)) w.1)

all_front : (P : ℕ → Type 0) (xs ys : List ℕ) → ByRecursion P (xs ++ ys) → ByRecursion P xs × ByRecursion P ys
all_front P [] ys h = (tt, h)
all_front P (x ∷ xs) ys h = let others = all_front P xs ys h.1 in ((h.0, others.0), others.1)

all_at : (P : ℕ → Type 0) (instrs : List Instr) (i : ℕ) (x d : Instr) → i < length instrs → x ≡ get_or instrs i d → ByRecursion P (names instrs) → ByRecursion P (named_by x)
all_at P [] i x d lt is h = absurd (omega arith)
all_at P (y ∷ instrs) zero x d lt is h = let Q : Instr → Type 0 = λ z. ByRecursion P (named_by z) in subst Q (sym is) (all_front P (named_by y) (names instrs) h).0
all_at P (y ∷ instrs) (suc i) x d lt is h = all_at P instrs i x d (omega arith) is (all_front P (named_by y) (names instrs) h).1

-- x is the instruction i of the sequence k: each sequence that it names has a number above k and below how many there are.
-- Where x is a block, rewritten by that, the fact computes to ((k + 1 ≤ body) × (body < length seqs)) × Unit.
pub inner : (seqs : List (List Instr)) (k i : ℕ) (instrs : List Instr) (x : Instr) → IsNumbered seqs → slice_get seqs k ≡ Some instrs → k < length seqs → i < length instrs → x ≡ get_or instrs i x → ByRecursion (λ j. (k + 1 ≤ j) × (j < length seqs)) (named_by x)
inner seqs k i instrs x numbered there lt within is =
    let f = numbered.ends in
    let are = numbered.are_ends in
    let named = all_named f (k + 1) (λ j le lt. above_within seqs f are (length seqs) j (omega arith) (omega (arith, are.long))) (names instrs) (k + 1) (slice_index f k) (omega arith) (are.each k instrs there) in
    let P : ℕ → Type 0 = λ n. ByRecursion (λ j. (k + 1 ≤ j) × (j < n)) (named_by x) in
    subst P are.long (all_at (λ j. (k + 1 ≤ j) × (j < length f)) instrs i x x within is named)
