-- Loops over wires.
use Rattle.std.proofs.Common.{◌≡◌, ◌<◌, ◌≤◌, ◌+◌, ◌-◌, ◌/◌, ◌%◌, ◌⊎◌, inl, inr, min, ℕ, suc, List, [], ◌∷◌, ◌++◌, length, drop, get_or, ap, ◌∙◌, append_assoc, arith, add-one}
use Rattle.std.specs.Prelude.{◌==◌, if◌then◌else◌}
use Rattle.std.proofs.Math.Seq.{drop-cons}
use Rattle.std.proofs.lemmas.Bool.{cases_lt}
use Rattle.std.proofs.lemmas.List.{drop_all}
use Rattle.refute_check.specs.Clauses.{positive}
use Rattle.bit_blast.specs.Gates.{true_wire, false_wire, number_wires}
use Rattle.bit_blast.specs.Formulas.{falling_wires}

-- what is left of a list begins with its next item
pub drop_next : {A : Type 0} (xs : List A) (i : ℕ) (d : A) → i < length xs → drop i xs ≡ get_or xs i d ∷ drop (i + 1) xs
drop_next xs i d h = rw add-one (drop-cons xs i d h)

-- one item goes from what is left to what is there
pub over : {A : Type 0} (xs : List A) (x : A) (ys : List A) → (xs ++ x ∷ []) ++ ys ≡ xs ++ x ∷ ys
over xs x ys = append_assoc xs (x ∷ []) ys

-- at the end of the shorter of two lists nothing is left of one of them
pub spent : {A : Type 0} (xs ys : List A) (i : ℕ) → min (length xs) (length ys) ≤ i → (drop i xs ≡ []) ⊎ (drop i ys ≡ [])
spent xs ys i h = go (le_cases (length xs) (length ys) i h)
  where
    le_cases : (m n i : ℕ) → min m n ≤ i → (m ≤ i) ⊎ (n ≤ i)
    le_cases m n i h = by (cases_lt m n)
      where
        by : (m < n) ⊎ (n ≤ m) → (m ≤ i) ⊎ (n ≤ i)
        by (inl first) = inl (omega arith)
        by (inr second) = inr (omega arith)

    go : (length xs ≤ i) ⊎ (length ys ≤ i) → (drop i xs ≡ []) ⊎ (drop i ys ≡ [])
    go (inl h) = inl (drop_all i xs h)
    go (inr h) = inr (drop_all i ys h)

-- the lowest bit of what is left of a number
pub number-next : (bits i rest : ℕ) → i < bits
    → number_wires (bits - i) rest ≡ (if rest % 2 == 0 then false_wire else true_wire) ∷ number_wires (bits - (i + 1)) (rest / 2)
number-next bits i rest h = ap (λ n. number_wires n rest) (one_more bits i h)
  where
    one_more : (bits i : ℕ) → i < bits → bits - i ≡ suc (bits - (i + 1))
    one_more bits i h = omega arith

-- the lowest of the wires that are left
pub falling-next : (first bits above : ℕ) → above < bits
    → falling_wires first (bits - above) ≡ positive (first + (bits - 1 - above)) ∷ falling_wires first (bits - (above + 1))
falling-next first bits above h =
    ap (λ n. falling_wires first n) (one_more bits above h) ∙ ap (λ n. positive (first + n) ∷ falling_wires first (bits - (above + 1))) (same bits above h)
  where
    one_more : (bits i : ℕ) → i < bits → bits - i ≡ suc (bits - (i + 1))
    one_more bits i h = omega arith

    same : (bits i : ℕ) → i < bits → bits - (i + 1) ≡ bits - 1 - i
    same bits i h = omega arith
