-- Whether wires are true under an assignment.
use Rattle.std.proofs.Common.{◌≡◌, ℕ, zero, suc, ◌+◌, ◌-◌, ◌*◌, ◌/◌, ◌%◌, Bool, true, false, not, ◌==◌, if◌then◌else◌, List, [], ◌∷◌, ◌++◌, length, map, take, drop, replicate, refl, sym, ap, ◌∙◌, arith, ◌⊎◌, inl, inr, ⊎_elim, ap₂, eq-eqb, ne_eqb, reverse}
use Rattle.std.proofs.lemmas.List.{reverse-append}
use Rattle.std.proofs.lemmas.Bool.{cases_eq}
use Rattle.refute_check.specs.Clauses.{Assignment, positive, negative, variable_of, sign_of}
use Rattle.bit_blast.specs.Gates.{Wires, true_wire, false_wire, negation, number_wires}
use Rattle.bit_blast.specs.Meanings.{holds, bit, value_of_wires}
use Rattle.bit_blast.proofs.BitNumbers.{number, lowest, bits_of}
use Rattle.refute_check.proofs.Membership.{variable-positive as variable_positive, variable-negative as variable_negative}

-- the bits that wires have under an assignment
abbrev pub read : Assignment → Wires → List Bool
read s wires = map (holds s) wires

pub number_read : (s : Assignment) (wires : Wires) → value_of_wires s wires ≡ number (read s wires)
number_read s [] = refl
number_read s (w ∷ wires) = ap (λ (n : ℕ). bit (holds s w) + 2 * n) (number_read s wires)

-- ---- single wires

even : (v : ℕ) → sign_of (2 * v) ≡ true
even v = eq-eqb ((2 * v) % 2) 0 (omega arith)

odd : (v : ℕ) → sign_of (2 * v + 1) ≡ false
odd v = ne_eqb ((2 * v + 1) % 2) 0 (λ e. absurd (omega arith))

pub holds_positive : (s : Assignment) (v : ℕ) → holds s (positive v) ≡ s v
holds_positive s v =
    ap (λ (b : Bool). if b then s (variable_of (2 * v)) else not (s (variable_of (2 * v)))) (even v) ∙ ap (λ (u : ℕ). s u) (variable_positive v)

pub holds_negative : (s : Assignment) (v : ℕ) → holds s (negative v) ≡ not (s v)
holds_negative s v =
    ap (λ (b : Bool). if b then s (variable_of (2 * v + 1)) else not (s (variable_of (2 * v + 1)))) (odd v) ∙ ap (λ (u : ℕ). not (s u)) (variable_negative v)

-- a wire is that of a variable or of its negation
pub either_wire : (w : ℕ) → (w ≡ positive (variable_of w)) ⊎ (w ≡ negative (variable_of w))
either_wire w = ⊎_elim (λ (e : w % 2 ≡ 0). inl (omega arith)) (λ (e : w % 2 ≡ 0 → ⊥). inr (omega arith)) (cases_eq (w % 2) 0)

pub negation_positive : (v : ℕ) → negation (positive v) ≡ negative v
negation_positive v = ap (λ (b : Bool). if b then 2 * v + 1 else 2 * v - 1) (even v)

pub negation_negative : (v : ℕ) → negation (negative v) ≡ positive v
negation_negative v = ap (λ (b : Bool). if b then 2 * v + 1 + 1 else 2 * v + 1 - 1) (odd v) ∙ omega arith

not_twice : (b : Bool) → not (not b) ≡ b
not_twice true = refl
not_twice false = refl

pub holds_negation : (s : Assignment) (w : ℕ) → holds s (negation w) ≡ not (holds s w)
holds_negation s w = ⊎_elim up down (either_wire w)
  where
    v : ℕ
    v = variable_of w

    up : w ≡ positive v → holds s (negation w) ≡ not (holds s w)
    up e =
        ap (λ (u : ℕ). holds s (negation u)) e ∙ ap (λ (u : ℕ). holds s u) (negation_positive v) ∙ holds_negative s v
        ∙ sym (ap (λ (u : ℕ). not (holds s u)) e ∙ ap not (holds_positive s v))

    down : w ≡ negative v → holds s (negation w) ≡ not (holds s w)
    down e =
        ap (λ (u : ℕ). holds s (negation u)) e ∙ ap (λ (u : ℕ). holds s u) (negation_negative v) ∙ holds_positive s v
        ∙ sym (ap (λ (u : ℕ). not (holds s u)) e ∙ ap not (holds_negative s v) ∙ not_twice (s v))

-- ---- rows of wires

pub read_negations : (s : Assignment) (ws : Wires) → read s (map negation ws) ≡ map not (read s ws)
read_negations s [] = refl
read_negations s (w ∷ ws) = ap₂ (λ (b : Bool) (bs : List Bool). b ∷ bs) (holds_negation s w) (read_negations s ws)

pub read_append : (s : Assignment) (vs ws : Wires) → read s (vs ++ ws) ≡ read s vs ++ read s ws
read_append s [] ws = refl
read_append s (v ∷ vs) ws = ap (λ (bs : List Bool). holds s v ∷ bs) (read_append s vs ws)

pub read_take : (s : Assignment) (k : ℕ) (ws : Wires) → read s (take k ws) ≡ take k (read s ws)
read_take s zero ws = refl
read_take s (suc k) [] = refl
read_take s (suc k) (w ∷ ws) = ap (λ (bs : List Bool). holds s w ∷ bs) (read_take s k ws)

pub read_drop : (s : Assignment) (k : ℕ) (ws : Wires) → read s (drop k ws) ≡ drop k (read s ws)
read_drop s zero ws = refl
read_drop s (suc k) [] = refl
read_drop s (suc k) (w ∷ ws) = read_drop s k ws

pub read_copies : (s : Assignment) (k w : ℕ) → read s (replicate k w) ≡ replicate k (holds s w)
read_copies s zero w = refl
read_copies s (suc k) w = ap (λ (bs : List Bool). holds s w ∷ bs) (read_copies s k w)

pub read_reverse : (s : Assignment) (ws : Wires) → read s (reverse ws) ≡ reverse (read s ws)
read_reverse s [] = refl
read_reverse s (w ∷ ws) =
    ap (λ (vs : Wires). read s vs) (reverse-append (w ∷ []) ws) ∙ read_append s (reverse ws) (w ∷ [])
    ∙ ap (λ (bs : List Bool). bs ++ holds s w ∷ []) (read_reverse s ws) ∙ sym (reverse-append (holds s w ∷ []) (read s ws))

pub length_read : (s : Assignment) (ws : Wires) → length (read s ws) ≡ length ws
length_read s [] = refl
length_read s (w ∷ ws) = ap suc (length_read s ws)

-- ---- constants, where variable 1 is true

pub holds_true : (s : Assignment) → s 1 ≡ true → holds s true_wire ≡ true
holds_true s one = holds_positive s 1 ∙ one

pub holds_false : (s : Assignment) → s 1 ≡ true → holds s false_wire ≡ false
holds_false s one = holds_negative s 1 ∙ ap not one

pub read_falses : (s : Assignment) → s 1 ≡ true → (k : ℕ) → read s (replicate k false_wire) ≡ replicate k false
read_falses s one k = read_copies s k false_wire ∙ ap (λ (b : Bool). replicate k b) (holds_false s one)

pub read_number : (s : Assignment) → s 1 ≡ true → (count n : ℕ) → read s (number_wires count n) ≡ bits_of count n
read_number s one zero n = refl
read_number s one (suc count) n = ap₂ (λ (b : Bool) (bs : List Bool). b ∷ bs) (⊎_elim clear set (cases_eq (n % 2) 0)) (read_number s one count (n / 2))
  where
    clear : n % 2 ≡ 0 → holds s (if n % 2 == 0 then false_wire else true_wire) ≡ lowest n
    clear e = ap (λ (b : Bool). holds s (if b then false_wire else true_wire)) (eq-eqb (n % 2) 0 e) ∙ holds_false s one ∙ sym (ne_eqb (n % 2) 1 (λ f. absurd (omega arith)))

    set : (n % 2 ≡ 0 → ⊥) → holds s (if n % 2 == 0 then false_wire else true_wire) ≡ lowest n
    set e = ap (λ (b : Bool). holds s (if b then false_wire else true_wire)) (ne_eqb (n % 2) 0 e) ∙ holds_true s one ∙ sym (eq-eqb (n % 2) 1 (omega arith))
