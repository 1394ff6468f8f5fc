-- Each number above 0 is named once: `times_named-is`.
--
-- The names that stand in the sequences below k are counted. From a sequence to its end this count grows by one where
-- the number is one of those inside the sequence; from the first to the last of what a sequence names, likewise.
use Rattle.std.proofs.Common.{◌≡◌, ℕ, zero, suc, ◌+◌, ◌<◌, ◌≤◌, cond, List, [], ◌∷◌, ◌++◌, length, refl, arith, get_or, take}
use Rattle.std.specs.Prelude.{slice_get, slice_index, Some, nat_lt, nat_le, ◌==◌, ◌&&◌, count_by}
use Rattle.std.specs.List.{flat_map}
use Rattle.std.proofs.lemmas.Bool.Decides.{nat_tests}
use Rattle.std.proofs.lemmas.Grind.{flat_map-append}
use Rattle.std.proofs.lemmas.List.{take_more}
use Rattle.std.proofs.lemmas.List.Sums.{sum_by-append, sum_by-cons}
use Rattle.std.proofs.lemmas.Option.{slice_get-get_or}
use Rattle.std.proofs.Math.Seq.{take-length}
use Rattle.wasm_ast.specs.declared.instructions.Instr.{Instr}
use Rattle.wasm_ast.specs.Numbering.{after, names, times_named, AreEnds, IsNumbered}
use Rattle.wasm_ast.proofs.NumberingLemmas.{if_some, rises}
use Rattle.wasm_ast.proofs.InnerSequences.{above_within}

-- how often a list has the number
count : ℕ → List ℕ → ℕ
count n ns = count_by (λ x. x == n) ns

-- 1 where the number is from low on and below high
span : ℕ → ℕ → ℕ → ℕ
span n low high = cond (nat_le low n && nat_lt n high) 1 0

span-joined : (n a b c : ℕ) → a ≤ b → b ≤ c → span n a c ≡ span n a b + span n b c
unfolding span
span-joined n a b c ab bc = grind (arith, nat_tests)

span-empty : (n a : ℕ) → span n a a ≡ 0
unfolding span
span-empty n a = grind (arith, nat_tests)

span-one : (n m : ℕ) → span n m (m + 1) ≡ cond (m == n) 1 0
unfolding span
span-one n m = grind (arith, nat_tests)

count-append : (n : ℕ) (xs ys : List ℕ) → count n (xs ++ ys) ≡ count n xs + count n ys
unfolding count
count-append n xs ys = sum_by-append (λ x. cond (x == n) 1 0) xs ys

count-cons : (n x : ℕ) (xs : List ℕ) → count n (x ∷ xs) ≡ cond (x == n) 1 0 + count n xs
unfolding count
count-cons n x xs = sum_by-cons (λ x. cond (x == n) 1 0) x xs

-- how often the sequences below k name the number
below : List (List Instr) → ℕ → ℕ → ℕ
below seqs n k = count n (flat_map names (take k seqs))

below-more : (seqs : List (List Instr)) (n k : ℕ) → k < length seqs → below seqs n (k + 1) ≡ below seqs n k + count n (names (get_or seqs k []))
unfolding below count
below-more seqs n k lt =
    let last : List (List Instr) = get_or seqs k [] ∷ [] in
    let front = count-append n (flat_map names (take k seqs)) (flat_map names last) in
    let one = count-append n (names (get_or seqs k [])) [] in
    rw (take_more seqs k [] lt, flat_map-append names (take k seqs) last) (omega (arith, front, one))

-- The sequences from i to its end name the number once where it is inside i.
HoldsOf : List (List Instr) → List ℕ → ℕ → ℕ → Type 0
HoldsOf seqs f n i = below seqs n (slice_index f i) ≡ below seqs n i + span n (i + 1) (slice_index f i)

-- So do the sequences that names lead through, from the first to the last, beside the names themselves.
led : (seqs : List (List Instr)) (f : List ℕ) (n j : ℕ) → ((i : ℕ) → j ≤ i → i < length f → i < slice_index f i) → ((i : ℕ) → j ≤ i → i < length f → HoldsOf seqs f n i) → (ns : List ℕ) (m k : ℕ) → j ≤ m → after f ns m ≡ Some k → below seqs n k + count n ns ≡ below seqs n m + span n m k
unfolding HoldsOf count
led seqs f n j above holds [] m k le h =
    let same : m ≡ k = cc in
    rw (same, span-empty n k) refl
led seqs f n j above holds (x ∷ xs) m k le h =
    let w = if_some (x == m && nat_lt m (length f)) (after f xs (slice_index f m)) k h in
    let t = w.0 in
    let lt : m < length f = grind (arith, nat_tests) in
    let is : x ≡ m = grind (arith, nat_tests) in
    let here = above m le lt in
    let higher = rises f j above xs (slice_index f m) k (omega arith) w.1 in
    let inside = holds m le lt in
    let others = led seqs f n j above holds xs (slice_index f m) k (omega arith) w.1 in
    let named = rw is at (count-cons n x xs) in
    let parts = span-joined n m (m + 1) k (omega arith) (omega arith) in
    let rest = span-joined n (m + 1) (slice_index f m) k (omega arith) higher in
    let own = span-one n m in
    rw is (omega (arith, inside, others, named, parts, rest, own))

each_holds : (seqs : List (List Instr)) (f : List ℕ) (n : ℕ) → AreEnds seqs f → (d j : ℕ) → length seqs ≤ j + d → j < length seqs → HoldsOf seqs f n j
unfolding HoldsOf
each_holds seqs f n are zero j past lt = absurd (omega arith)
each_holds seqs f n are (suc d) j past lt =
    let there : slice_get seqs j ≡ Some (get_or seqs j []) = slice_get-get_or seqs j [] lt in
    let through =
    led seqs f n (j + 1) (λ i le within. above_within seqs f are (length seqs) i (omega arith) (omega (arith, are.long)))
    (λ i le within. each_holds seqs f n are d i (omega arith) (omega (arith, are.long)))
    (names (get_or seqs j [])) (j + 1) (slice_index f j) (omega arith) (are.each j (get_or seqs j []) there)
    in
    omega (arith, through, below-more seqs n j lt)

pub times_named-is : (seqs : List (List Instr)) (n : ℕ) → IsNumbered seqs → times_named seqs n ≡ cond (nat_le 1 n && nat_lt n (length seqs)) 1 0
unfolding HoldsOf below count span
times_named-is seqs n numbered =
    let all = each_holds seqs numbered.ends n numbered.are_ends (length seqs) 0 (omega arith) numbered.outermost in
    let whole = rw (numbered.all_inside, take-length seqs) at all in
    omega (arith, whole)
