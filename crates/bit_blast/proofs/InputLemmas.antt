-- Each input that meets the conditions has exactly one assignment that meets the formula.
use Rattle.std.proofs.Common.{◌≡◌, ℕ, zero, suc, ◌+◌, ◌-◌, ◌*◌, ◌/◌, ◌%◌, ◌^◌, ◌<◌, ◌≤◌, Bool, true, not, ◌==◌, ◌&&◌, ◌||◌, nat_lt, if◌then◌else◌, ◌⊎◌, inl, inr, ⊎_elim, List, [], ◌∷◌, length, refl, sym, ap, ◌∙◌, subst, arith, ap₂, eq-eqb, ne_eqb, lt-ltb, le-ltb, pow-suc, All, Option}
use Rattle.std.proofs.lemmas.Bool.{cases_eq, cases_lt}
use Rattle.std.proofs.lemmas.Nat.{shr-shr}
use Rattle.std.proofs.Common.{div-one}
use Rattle.wasm_rules.specs.Words.{bits_where}
use Rattle.bv_terms.specs.Terms.{Term}
use Rattle.refute_check.specs.Clauses.{Assignment, positive, variable_of, sign_of}
use Rattle.bit_blast.specs.declared.gates.Gate.{Gate}
use Rattle.bit_blast.specs.declared.gates.Gate.TheVariants.{And, Xor, Mux, Maj, Same}
use Rattle.bit_blast.specs.Gates.{Wires, next_of}
use Rattle.bit_blast.specs.Formulas.{Condition, symbols_end, falling_wires, built}
use Rattle.bit_blast.specs.Meanings.{holds, bit, differ, gate_value, value_of_wires, HaveValues, input_from, input_of, IsAnswered, AreProper, CanBeLeast, Computes}
use Rattle.bit_blast.specs.Inputs.{IsInput}
use Rattle.bit_blast.proofs.BitNumbers.{number, lowest}
use Rattle.bit_blast.proofs.NumberLemmas.{bit_lowest, same_bits, number_below}
use Rattle.bit_blast.proofs.TermReadings.{length_falling}
use Rattle.bit_blast.proofs.WireLemmas.{read, number_read, holds_positive, length_read}
use Rattle.bit_blast.proofs.RangeLemmas.{IsWire, GateWires, IsRanged}
use Rattle.bit_blast.proofs.TermRanges.{end_later, all_ranged}
use Rattle.bit_blast.proofs.OrderLemmas.{in_order}

-- ---- assignments that agree

-- the two agree on the variables below a bound
abbrev pub Agree : ℕ → Assignment → Assignment → Type 0
Agree m s t = (v : ℕ) → 1 ≤ v → v < m → s v ≡ t v

same_wire : (m : ℕ) (s t : Assignment) → Agree m s t → (w : ℕ) → IsWire m w → holds s w ≡ holds t w
same_wire m s t a w i =
    let low = i.0 in
    let high = i.1 in
    ap (λ (b : Bool). if sign_of w then b else not b) (a (variable_of w) (omega arith) (omega arith))

same_gate : (m : ℕ) (s t : Assignment) → Agree m s t → (gate : Gate) → GateWires m gate → gate_value s gate ≡ gate_value t gate
same_gate m s t a (And x y) i = ap₂ (λ (b c : Bool). b && c) (same_wire m s t a x i.0) (same_wire m s t a y i.1)
same_gate m s t a (Xor x y) i = ap₂ (λ (b c : Bool). differ b c) (same_wire m s t a x i.0) (same_wire m s t a y i.1)
same_gate m s t a (Mux z x y) i =
    ap (λ (b : Bool). if b then holds s x else holds s y) (same_wire m s t a z i.0)
    ∙ ap₂ (λ (b c : Bool). if holds t z then b else c) (same_wire m s t a x i.1) (same_wire m s t a y i.2)
same_gate m s t a (Maj x y z) i =
    ap (λ (b : Bool). if b then holds s y || holds s z else holds s y && holds s z) (same_wire m s t a x i.0)
    ∙ ap₂ (λ (b c : Bool). if holds t x then b || c else b && c) (same_wire m s t a y i.1) (same_wire m s t a z i.2)
same_gate m s t a (Same x) i = same_wire m s t a x i

fewer : (m n : ℕ) (s t : Assignment) → m ≤ n → Agree n s t → Agree m s t
fewer m n s t h a v some below = a v some (omega arith)

-- the values of gates say nothing of later variables
values-kept : (first : ℕ) (gates : List Gate) (s t : Assignment) → 1 ≤ first → IsRanged first gates → Agree (first + length gates) s t → HaveValues s first gates → HaveValues t first gates
values-kept first [] s t some r a h = tt
values-kept first (gate ∷ earlier) s t some r a h =
    let less : first + length earlier ≤ first + length (gate ∷ earlier) = omega arith in
    let agree = fewer (first + length earlier) (first + length (gate ∷ earlier)) s t less a in (
      sym (a (first + length earlier) (omega arith) (omega arith)) ∙ h.0 ∙ same_gate (first + length earlier) s t agree gate r.0,
      values-kept first earlier s t some r.1 agree h.1,
    )

-- assignments that give the gates their values and agree before them agree on all
pub values-agree : (first : ℕ) (gates : List Gate) (s t : Assignment) → IsRanged first gates → HaveValues s first gates → HaveValues t first gates → Agree first s t → Agree (first + length gates) s t
values-agree first [] s t r h k a v some below = a v some (omega arith)
values-agree first (gate ∷ earlier) s t r h k a v some below = one_more (values-agree first earlier s t r.1 h.1 k.1 a)
  where
    one_more : Agree (first + length earlier) s t → s v ≡ t v
    one_more rest = ⊎_elim latest before (cases_eq v (first + length earlier))
      where
        latest : v ≡ first + length earlier → s v ≡ t v
        latest e = ap s e ∙ h.0 ∙ same_gate (first + length earlier) s t rest gate r.0 ∙ sym k.0 ∙ sym (ap t e)

        before : (v ≡ first + length earlier → ⊥) → s v ≡ t v
        before e = rest v some (omega arith)

-- ---- the values of gates, one after another

abbrev pub with_values : Assignment → ℕ → List Gate → Assignment
with_values base first [] v = base v
with_values base first (gate ∷ earlier) v =
    if v == first + length earlier then gate_value (with_values base first earlier) gate else with_values base first earlier v

with_values-before : (base : Assignment) (first : ℕ) (gates : List Gate) (v : ℕ) → v < first → with_values base first gates v ≡ base v
with_values-before base first [] v h = refl
with_values-before base first (gate ∷ earlier) v h =
    ap (λ (b : Bool). if b then gate_value (with_values base first earlier) gate else with_values base first earlier v) (ne_eqb v (first + length earlier) (λ e. absurd (omega arith)))
    ∙ with_values-before base first earlier v h

one_later : (base : Assignment) (first : ℕ) (gate : Gate) (earlier : List Gate) → Agree (first + length earlier) (with_values base first earlier) (with_values base first (gate ∷ earlier))
one_later base first gate earlier v some below =
    sym (ap (λ (b : Bool). if b then gate_value (with_values base first earlier) gate else with_values base first earlier v) (ne_eqb v (first + length earlier) (λ e. absurd (omega arith))))

pub with_values-valued : (base : Assignment) (first : ℕ) (gates : List Gate) → 1 ≤ first → IsRanged first gates → HaveValues (with_values base first gates) first gates
with_values-valued base first [] some r = tt
with_values-valued base first (gate ∷ earlier) some r =
    let agree = one_later base first gate earlier in (
      ap (λ (b : Bool). if b then gate_value (with_values base first earlier) gate else with_values base first earlier (first + length earlier)) (eq-eqb (first + length earlier) (first + length earlier) refl)
          ∙ same_gate (first + length earlier) (with_values base first earlier) (with_values base first (gate ∷ earlier)) agree gate r.0,
      values-kept first earlier (with_values base first earlier) (with_values base first (gate ∷ earlier)) some r.1 agree (with_values-valued base first earlier some r.1),
    )

-- ---- the bits of an input

-- the bits of the symbols from a variable on, each from the highest down; other variables are true
abbrev pub spelling : ℕ → List Bool → List ℕ → Assignment
spelling from [] input v = true
spelling from (wide ∷ draws) [] v = true
spelling from (wide ∷ draws) (x ∷ input) v =
    if nat_lt v from then true
    else (if nat_lt v (from + bits_where wide) then lowest (x / 2 ^ (from + bits_where wide - 1 - v)) else spelling (from + bits_where wide) draws input v)

spelling-before : (from : ℕ) (draws : List Bool) (input : List ℕ) (v : ℕ) → v < from → spelling from draws input v ≡ true
spelling-before from [] input v h = refl
spelling-before from (wide ∷ draws) [] v h = refl
spelling-before from (wide ∷ draws) (x ∷ input) v h =
    ap (λ (b : Bool). if b then true else (if nat_lt v (from + bits_where wide) then lowest (x / 2 ^ (from + bits_where wide - 1 - v)) else spelling (from + bits_where wide) draws input v)) (lt-ltb v from h)

-- the number of wires that hold the bits of a number
spelled : (s : Assignment) (first bits x : ℕ) → ((j : ℕ) → j < bits → s (first + j) ≡ lowest (x / 2 ^ (bits - 1 - j))) → x < 2 ^ bits → number (read s (falling_wires first bits)) ≡ x
spelled s first zero x h below = let e : x < 1 = below in omega arith
spelled s first (suc bits) x h below =
    let half : x < 2 ^ bits * 2 = subst (λ (n : ℕ). x < n) (pow-suc 2 bits) below in
    let none : suc bits - 1 - bits ≡ 0 = omega arith in
    let here : s (first + bits) ≡ lowest x = h bits (omega arith) ∙ ap (λ (n : ℕ). lowest (x / 2 ^ n)) none ∙ ap lowest (div-one x) in
    let rest = spelled s first bits (x / 2) (λ j less.
    let shorter : suc bits - 1 - j ≡ 1 + (bits - 1 - j) = omega arith in
    h j (omega arith) ∙ ap (λ (n : ℕ). lowest (x / 2 ^ n)) shorter ∙ ap lowest (sym (shr-shr x 1 (bits - 1 - j)))) (omega arith) in
    let digit : bit (holds s (positive (first + bits))) ≡ x % 2 = ap bit (holds_positive s (first + bits) ∙ here) ∙ bit_lowest x in
    ap₂ (λ (m n : ℕ). m + 2 * n) digit rest ∙ omega arith

-- an assignment that agrees with the spelling has the input
pub spelling-input : (s : Assignment) (from : ℕ) (draws : List Bool) (input : List ℕ) → IsInput draws input
    → ((v : ℕ) → from ≤ v → v < symbols_end from draws → s v ≡ spelling from draws input v) → input_from s from draws ≡ input
spelling-input s from [] [] i h = refl
spelling-input s from [] (x ∷ input) i h = absurd i
spelling-input s from (wide ∷ draws) [] i h = absurd i
spelling-input s from (wide ∷ draws) (x ∷ input) i h =
    ap₂ (λ (n : ℕ) (ns : List ℕ). n ∷ ns)
    (number_read s (falling_wires from (bits_where wide)) ∙ spelled s from (bits_where wide) x own i.0)
    (spelling-input s (from + bits_where wide) draws input i.1 later)
  where
    more : from + bits_where wide ≤ symbols_end (from + bits_where wide) draws
    more = end_later (from + bits_where wide) draws

    own : (j : ℕ) → j < bits_where wide → s (from + j) ≡ lowest (x / 2 ^ (bits_where wide - 1 - j))
    own j less =
        let end = more in
        let place : from + bits_where wide - 1 - (from + j) ≡ bits_where wide - 1 - j = omega arith in
        h (from + j) (omega arith) (omega arith)
        ∙ ap (λ (b : Bool). if b then true else (if nat_lt (from + j) (from + bits_where wide) then lowest (x / 2 ^ (from + bits_where wide - 1 - (from + j))) else spelling (from + bits_where wide) draws input (from + j))) (le-ltb (from + j) from (omega arith))
        ∙ ap (λ (b : Bool). if b then lowest (x / 2 ^ (from + bits_where wide - 1 - (from + j))) else spelling (from + bits_where wide) draws input (from + j)) (lt-ltb (from + j) (from + bits_where wide) (omega arith))
        ∙ ap (λ (n : ℕ). lowest (x / 2 ^ n)) place

    later : (v : ℕ) → from + bits_where wide ≤ v → v < symbols_end (from + bits_where wide) draws → s v ≡ spelling (from + bits_where wide) draws input v
    later v low high =
        h v (omega arith) high
        ∙ ap (λ (b : Bool). if b then true else (if nat_lt v (from + bits_where wide) then lowest (x / 2 ^ (from + bits_where wide - 1 - v)) else spelling (from + bits_where wide) draws input v)) (le-ltb v from (omega arith))
        ∙ ap (λ (b : Bool). if b then lowest (x / 2 ^ (from + bits_where wide - 1 - v)) else spelling (from + bits_where wide) draws input v) (le-ltb v (from + bits_where wide) low)

-- what an assignment gives are numbers of the symbols' widths
pub input_fits : (s : Assignment) (from : ℕ) (draws : List Bool) → IsInput draws (input_from s from draws)
input_fits s from [] = tt
input_fits s from (wide ∷ draws) =
    let wires = falling_wires from (bits_where wide) in (
      subst (λ (n : ℕ). n < 2 ^ bits_where wide) (sym (number_read s wires))
          (subst (λ (n : ℕ). number (read s wires) < 2 ^ n) (length_read s wires ∙ length_falling from (bits_where wide)) (number_below (read s wires))),
      input_fits s (from + bits_where wide) draws,
    )

-- ---- the assignment of an input

abbrev pub computed : List Condition → List Bool → Option Term → List ℕ → Assignment
computed conditions draws first input =
    with_values (spelling 2 draws input) (built conditions draws first).circuit.first (built conditions draws first).circuit.gates

pub input_computed : (conditions : List Condition) (draws : List Bool) (first : Option Term) → AreProper draws conditions → CanBeLeast draws first
    → (input : List ℕ) → IsInput draws input → input_of (computed conditions draws first input) draws ≡ input
input_computed conditions draws first proper least input i =
    let r = all_ranged conditions draws first (in_order draws conditions first proper least) in
    let starts = r.starts in
    spelling-input (computed conditions draws first input) 2 draws input i
    (λ v low high. with_values-before (spelling 2 draws input) (built conditions draws first).circuit.first (built conditions draws first).circuit.gates v (omega arith))

-- an input that meets the conditions has an assignment
pub computes : (conditions : List Condition) (draws : List Bool) (first : Option Term) → AreProper draws conditions → CanBeLeast draws first
    → (input : List ℕ) → IsInput draws input → All (IsAnswered input) conditions → Computes conditions draws first (computed conditions draws first input)
computes conditions draws first proper least input i answered =
    let r = all_ranged conditions draws first (in_order draws conditions first proper least) in
    let starts = r.starts in
    let some = end_later 2 draws in
    record {
      one = with_values-before (spelling 2 draws input) (built conditions draws first).circuit.first (built conditions draws first).circuit.gates 1 (omega arith)
          ∙ spelling-before 2 draws input 1 (omega arith);
      answered = subst (λ (numbers : List ℕ). All (IsAnswered numbers) conditions) (sym (input_computed conditions draws first proper least input i)) answered;
      valued = with_values-valued (spelling 2 draws input) (built conditions draws first).circuit.first (built conditions draws first).circuit.gates (omega arith) r.ranged;
    }

-- ---- one assignment for each input

falling-agree : (s t : Assignment) (first bits : ℕ) → read s (falling_wires first bits) ≡ read t (falling_wires first bits) → (v : ℕ) → first ≤ v → v < first + bits → s v ≡ t v
falling-agree s t first zero e v low high = absurd (omega arith)
falling-agree s t first (suc bits) e v low high = one_more (falling-agree s t first bits) (cases_eq v (first + bits))
  where
    here : s (first + bits) ≡ t (first + bits)
    here = let head : holds s (positive (first + bits)) ≡ holds t (positive (first + bits)) = cc in sym (holds_positive s (first + bits)) ∙ head ∙ holds_positive t (first + bits)

    one_more : (read s (falling_wires first bits) ≡ read t (falling_wires first bits) → (v : ℕ) → first ≤ v → v < first + bits → s v ≡ t v)
        → (v ≡ first + bits) ⊎ (v ≡ first + bits → ⊥) → s v ≡ t v
    one_more rec (inl f) = ap s f ∙ here ∙ sym (ap t f)
    one_more rec (inr f) = let tails : read s (falling_wires first bits) ≡ read t (falling_wires first bits) = cc in rec tails v low (omega arith)

input-agree : (s t : Assignment) (from : ℕ) (draws : List Bool) → input_from s from draws ≡ input_from t from draws → (v : ℕ) → from ≤ v → v < symbols_end from draws → s v ≡ t v
input-agree s t from [] e v low high = absurd (omega arith)
input-agree s t from (wide ∷ draws) e v low high = one_more (input-agree s t (from + bits_where wide) draws) (cases_lt v (from + bits_where wide))
  where
    one_more : (input_from s (from + bits_where wide) draws ≡ input_from t (from + bits_where wide) draws → (v : ℕ) → from + bits_where wide ≤ v → v < symbols_end (from + bits_where wide) draws → s v ≡ t v)
        → (v < from + bits_where wide) ⊎ (from + bits_where wide ≤ v) → s v ≡ t v
    one_more rec (inl h) =
        let wires : Wires = falling_wires from (bits_where wide) in
        let head : value_of_wires s wires ≡ value_of_wires t wires = cc in
        let numbers : number (read s wires) ≡ number (read t wires) = sym (number_read s wires) ∙ head ∙ number_read t wires in
        falling-agree s t from (bits_where wide) (same_bits (read s wires) (read t wires) (length_read s wires ∙ sym (length_read t wires)) numbers) v low h
    one_more rec (inr h) = let tails : input_from s (from + bits_where wide) draws ≡ input_from t (from + bits_where wide) draws = cc in rec tails v h high

pub one_each : (conditions : List Condition) (draws : List Bool) (first : Option Term) → AreProper draws conditions → CanBeLeast draws first
    → (s t : Assignment) → Computes conditions draws first s → Computes conditions draws first t → input_of s draws ≡ input_of t draws
    → Agree (next_of (built conditions draws first).circuit) s t
one_each conditions draws first proper least s t h k e =
    let r = all_ranged conditions draws first (in_order draws conditions first proper least) in
    let starts = r.starts in
    values-agree (built conditions draws first).circuit.first (built conditions draws first).circuit.gates s t r.ranged h.valued k.valued
    (λ v some below. ⊎_elim (λ (f : v ≡ 1). ap s f ∙ h.one ∙ sym k.one ∙ sym (ap t f)) (λ (f : v ≡ 1 → ⊥). input-agree s t 2 draws e v (omega arith) (omega arith)) (cases_eq v 1))
