-- Assignments in the decision order are in the order of the least values, and then of their inputs.
use Rattle.std.proofs.Common.{◌≡◌, ℕ, zero, suc, ◌+◌, ◌-◌, ◌*◌, ◌^◌, ◌<◌, ◌≤◌, Bool, true, false, ◌⊎◌, inl, inr, List, [], ◌∷◌, ◌++◌, length, map, reverse, refl, sym, ap, ◌∙◌, subst, arith, ap₂, append_assoc, add-zero, zero-add, suc-add, Option, Some}
use Rattle.std.proofs.lemmas.Bool.{false≢true}
use Rattle.std.proofs.lemmas.List.{reverse-append, reverse-reverse, length-reverse}
use Rattle.wasm_rules.specs.Words.{bits_where}
use Rattle.bv_terms.specs.Terms.{Term, value_of}
use Rattle.refute_check.specs.Clauses.{Assignment, variable_of}
use Rattle.refute_check.specs.Orders.{Names, AreSame, IsGreater}
use Rattle.refute_check.proofs.Membership.{variable-positive}
use Rattle.bit_blast.specs.declared.gates.Gate.{Gate}
use Rattle.bit_blast.specs.declared.gates.Gate.TheVariants.{Same}
use Rattle.bit_blast.specs.Gates.{Wires, Circuit, next_of}
use Rattle.bit_blast.specs.Blocks.{put, put_all}
use Rattle.bit_blast.specs.Formulas.{Condition, wires_in, symbols_end, falling_wires, variables_from, build_terms, terms_in_order, start, built, formula}
use Rattle.bit_blast.specs.Meanings.{bit, value_of_wires, input_from, input_of, AreProper, CanBeLeast, Computes}
use Rattle.bit_blast.specs.Inputs.{IsBefore}
use Rattle.bit_blast.proofs.CountLemmas.{number_down, number_down_below, number_reversed}
use Rattle.bit_blast.proofs.WireLemmas.{read, number_read, holds_positive}
use Rattle.bit_blast.proofs.LengthLemmas.{length_map, length_put_all}
use Rattle.bit_blast.proofs.OrderLemmas.{in_order}
use Rattle.bit_blast.proofs.BuildLemmas.{all_read, all_long}
use Rattle.bit_blast.proofs.TermRanges.{all_ranged, end_later}
use Rattle.bit_blast.proofs.DecisionLemmas.{from-names, order_names, all_last, two_first}

-- ---- the first variable of an order

-- the first variable decides, or the others do
greater-step : (x : ℕ) (xs : List ℕ) (s t : Assignment) → IsGreater (x ∷ xs) s t → ((s x ≡ false) × (t x ≡ true)) ⊎ ((s x ≡ t x) × IsGreater xs s t)
greater-step x xs s t g = go g.0 g.3 g.4
  where
    go : (before : List ℕ) → x ∷ xs ≡ before ++ g.1 ∷ g.2 → AreSame s t before → ((s x ≡ false) × (t x ≡ true)) ⊎ ((s x ≡ t x) × IsGreater xs s t)
    go [] e same = let here : x ≡ g.1 = cc in inl (ap s here ∙ g.5, ap t here ∙ g.6)
    go (y ∷ before) e same =
        let here : x ≡ y = cc in
        let rest : xs ≡ before ++ g.1 ∷ g.2 = cc in
        inr (ap s here ∙ same.0 ∙ sym (ap t here), (before, g.1, g.2, rest, same.1, g.5, g.6))

-- the bits of the first variables, the highest first, are a lower number, or they are the same and the others decide
pub greater-part : (xs rest : List ℕ) (s t : Assignment) → IsGreater (xs ++ rest) s t
    → (number_down (map s xs) < number_down (map t xs)) ⊎ ((map s xs ≡ map t xs) × IsGreater rest s t)
greater-part [] rest s t g = inr (refl, g)
greater-part (x ∷ xs) rest s t g = go (λ h. greater-part xs rest s t h) (greater-step x (xs ++ rest) s t g)
  where
    longs : length (map s xs) ≡ length (map t xs)
    longs = length_map s xs ∙ sym (length_map t xs)

    lower : (b c : Bool) → b ≡ false → c ≡ true → bit b * 2 ^ length (map s xs) + number_down (map s xs) < bit c * 2 ^ length (map t xs) + number_down (map t xs)
    lower true c e f = absurd (false≢true (sym e))
    lower false true e f =
        let small : number_down (map s xs) < 2 ^ length (map t xs) = subst (λ (n : ℕ). number_down (map s xs) < 2 ^ n) longs (number_down_below (map s xs)) in
        omega arith
    lower false false e f = absurd (false≢true f)

    equal : s x ≡ t x → number_down (map s xs) < number_down (map t xs) → bit (s x) * 2 ^ length (map s xs) + number_down (map s xs) < bit (t x) * 2 ^ length (map t xs) + number_down (map t xs)
    equal e less =
        let same : bit (s x) * 2 ^ length (map s xs) ≡ bit (t x) * 2 ^ length (map t xs) = ap₂ (λ (b : Bool) (n : ℕ). bit b * 2 ^ n) e longs in
        omega arith

    go : (IsGreater (xs ++ rest) s t → (number_down (map s xs) < number_down (map t xs)) ⊎ ((map s xs ≡ map t xs) × IsGreater rest s t))
        → ((s x ≡ false) × (t x ≡ true)) ⊎ ((s x ≡ t x) × IsGreater (xs ++ rest) s t)
        → (number_down (map s (x ∷ xs)) < number_down (map t (x ∷ xs))) ⊎ ((map s (x ∷ xs) ≡ map t (x ∷ xs)) × IsGreater rest s t)
    go rec (inl h) = inl (lower (s x) (t x) h.0 h.1)
    go rec (inr h) = more (rec h.1)
      where
        more : (number_down (map s xs) < number_down (map t xs)) ⊎ ((map s xs ≡ map t xs) × IsGreater rest s t)
            → (number_down (map s (x ∷ xs)) < number_down (map t (x ∷ xs))) ⊎ ((map s (x ∷ xs) ≡ map t (x ∷ xs)) × IsGreater rest s t)
        more (inl less) = inl (equal h.0 less)
        more (inr same) = inr (ap₂ (λ (b : Bool) (bs : List Bool). b ∷ bs) h.0 same.0, same.1)

-- ---- symbols

-- the bits of a symbol, the highest first
falling-down : (s : Assignment) (first bits : ℕ) → read s (falling_wires first bits) ≡ reverse (map s (variables_from first bits))
falling-down s first zero = refl
falling-down s first (suc bits) =
    ap₂ (λ (b : Bool) (bs : List Bool). b ∷ bs) (holds_positive s (first + bits)) (falling-down s first bits)
    ∙ sym (ap (λ (bs : List Bool). reverse bs) (ap (map s) (last_variable first bits) ∙ map-last s (variables_from first bits) (first + bits)) ∙ reverse-append (map s (variables_from first bits)) (s (first + bits) ∷ []))
  where
    last_variable : (first bits : ℕ) → variables_from first (suc bits) ≡ variables_from first bits ++ (first + bits) ∷ []
    last_variable first zero = ap (λ (n : ℕ). n ∷ []) (sym (add-zero first))
    last_variable first (suc bits) = ap (λ (ns : List ℕ). first ∷ ns) (last_variable (suc first) bits ∙ ap (λ (n : ℕ). variables_from (suc first) bits ++ n ∷ []) up)
      where
        up : suc first + bits ≡ first + suc bits
        up = omega arith

    map-last : (f : ℕ → Bool) (xs : List ℕ) (x : ℕ) → map f (xs ++ x ∷ []) ≡ map f xs ++ f x ∷ []
    map-last f [] x = refl
    map-last f (y ∷ xs) x = ap (λ (bs : List Bool). f y ∷ bs) (map-last f xs x)

pub symbol-number : (s : Assignment) (first bits : ℕ) → value_of_wires s (falling_wires first bits) ≡ number_down (map s (variables_from first bits))
symbol-number s first bits =
    number_read s (falling_wires first bits) ∙ sym (number_reversed (read s (falling_wires first bits)))
    ∙ ap number_down (ap (λ (bs : List Bool). reverse bs) (falling-down s first bits) ∙ reverse-reverse (map s (variables_from first bits)))

from_append : (first m n : ℕ) → variables_from first (m + n) ≡ variables_from first m ++ variables_from (first + m) n
from_append first zero n = ap₂ (λ (a b : ℕ). variables_from b a) (zero-add n) (sym (add-zero first))
from_append first (suc m) n =
    ap (variables_from first) (suc-add m n)
    ∙ ap (λ (ns : List ℕ). first ∷ ns) (from_append (suc first) m n ∙ ap (λ (k : ℕ). variables_from (suc first) m ++ variables_from k n) up)
  where
    up : suc first + m ≡ first + suc m
    up = omega arith

abbrev own : ℕ → Bool → List ℕ
own first wide = variables_from first (bits_where wide)

abbrev later : ℕ → Bool → List Bool → List ℕ
later first wide draws = variables_from (first + bits_where wide) (symbols_end (first + bits_where wide) draws - (first + bits_where wide))

split : (first : ℕ) (wide : Bool) (draws : List Bool) → variables_from first (symbols_end (first + bits_where wide) draws - first) ≡ own first wide ++ later first wide draws
split first wide draws =
    let end = end_later (first + bits_where wide) draws in
    let parts : symbols_end (first + bits_where wide) draws - first ≡ bits_where wide + (symbols_end (first + bits_where wide) draws - (first + bits_where wide)) = omega arith in
    ap (variables_from first) parts ∙ from_append first (bits_where wide) (symbols_end (first + bits_where wide) draws - (first + bits_where wide))

-- the first input is before the second, or they are the same and the other variables decide
abbrev pub BeforeOr : ℕ → List Bool → List ℕ → Assignment → Assignment → Type 0
BeforeOr first draws rest s t = IsBefore (input_from s first draws) (input_from t first draws) ⊎ ((input_from s first draws ≡ input_from t first draws) × IsGreater rest s t)

one_symbol : (first : ℕ) (wide : Bool) (draws : List Bool) (rest : List ℕ) (s t : Assignment)
    → (IsGreater (later first wide draws ++ rest) s t → BeforeOr (first + bits_where wide) draws rest s t)
    → (number_down (map s (own first wide)) < number_down (map t (own first wide))) ⊎ ((map s (own first wide) ≡ map t (own first wide)) × IsGreater (later first wide draws ++ rest) s t)
    → BeforeOr first (wide ∷ draws) rest s t
one_symbol first wide draws rest s t rec (inl less) =
    let a = symbol-number s first (bits_where wide) in
    let b = symbol-number t first (bits_where wide) in
    inl (inl (omega arith))
one_symbol first wide draws rest s t rec (inr same) = more (rec same.1)
  where
    numbers : value_of_wires s (falling_wires first (bits_where wide)) ≡ value_of_wires t (falling_wires first (bits_where wide))
    numbers = symbol-number s first (bits_where wide) ∙ ap number_down same.0 ∙ sym (symbol-number t first (bits_where wide))

    more : BeforeOr (first + bits_where wide) draws rest s t → BeforeOr first (wide ∷ draws) rest s t
    more (inl before) = inl (inr (numbers, before))
    more (inr h) = inr (ap₂ (λ (n : ℕ) (ns : List ℕ). n ∷ ns) numbers h.0, h.1)

pub greater-input : (first : ℕ) (draws : List Bool) (rest : List ℕ) (s t : Assignment) → IsGreater (variables_from first (symbols_end first draws - first) ++ rest) s t → BeforeOr first draws rest s t
greater-input first [] rest s t g = inr (refl, subst (λ (n : ℕ). IsGreater (variables_from first n ++ rest) s t) none g)
  where
    none : first - first ≡ 0
    none = omega arith
greater-input first (wide ∷ draws) rest s t g =
    one_symbol first wide draws rest s t (λ h. greater-input (first + bits_where wide) draws rest s t h)
    (greater-part (own first wide) (later first wide draws ++ rest) s t
    (subst (λ (ns : List ℕ). IsGreater ns s t) (ap (λ (ns : List ℕ). ns ++ rest) (split first wide draws) ∙ append_assoc (own first wide) (later first wide draws) rest) g))

-- ---- what is to be least

-- the wires of gates are true where their variables are
gates-read : (s : Assignment) (gates : List Gate) (c : Circuit) → read s (put_all gates c).result ≡ map s (map variable_of (put_all gates c).result)
gates-read s [] c = refl
gates-read s (gate ∷ gates) c =
    ap₂ (λ (b : Bool) (bs : List Bool). b ∷ bs) (holds_positive s (next_of c) ∙ ap s (sym (variable-positive (next_of c)))) (gates-read s gates (put gate c).circuit)

-- the variables of what is to be least, the highest bit first
abbrev pub least_variables : List Condition → List Bool → Option Term → List ℕ
least_variables conditions draws first = map variable_of (built conditions draws first).result.least

module _ (conditions : List Condition) (draws : List Bool) (t : Term) (proper : AreProper draws conditions) (least : CanBeLeast draws (Some t)) where
  -- they spell the term's value
  pub least_value_is : (s : Assignment) → Computes conditions draws (Some t) s → number_down (map s (least_variables conditions draws (Some t))) ≡ value_of (input_of s draws) t
  least_value_is s h =
      let o = in_order draws conditions (Some t) proper least in
      let all = all_read s h.one conditions draws (Some t) o h.valued in
      let terms = build_terms draws (terms_in_order conditions (Some t)) [] (start draws) in
      let wires : Wires = wires_in terms.result t in
      ap number_down (sym (gates-read s (map Same (reverse wires)) terms.circuit) ∙ all.least)
      ∙ number_reversed (read s wires) ∙ all.right t least.0.no_number o.first_ready

  -- there are as many as it has bits
  pub least_count : length (least_variables conditions draws (Some t)) ≡ 32
  least_count =
      let o = in_order draws conditions (Some t) proper least in
      let terms = build_terms draws (terms_in_order conditions (Some t)) [] (start draws) in
      let wires : Wires = wires_in terms.result t in
      length_map variable_of (put_all (map Same (reverse wires)) terms.circuit).result ∙ length_put_all (map Same (reverse wires)) terms.circuit
      ∙ length_map Same (reverse wires) ∙ length-reverse wires ∙ all_long conditions draws (Some t) o t least.0.no_number o.first_ready ∙ least.1

-- ---- the order as a whole

same-at : (xs : List ℕ) (s t : Assignment) → AreSame s t xs → (v : ℕ) → Names xs v → s v ≡ t v
same-at [] s t h v n = absurd n
same-at (x ∷ xs) s t h v (inl e) = ap s e ∙ h.0 ∙ sym (ap t e)
same-at (x ∷ xs) s t h v (inr n) = same-at xs s t h.1 v n

same-map : (xs : List ℕ) (s t : Assignment) → ((v : ℕ) → Names xs v → s v ≡ t v) → map s xs ≡ map t xs
same-map [] s t h = refl
same-map (x ∷ xs) s t h = ap₂ (λ (b : Bool) (bs : List Bool). b ∷ bs) (h x (inl refl)) (same-map xs s t (λ v n. h v (inr n)))

-- assignments that agree on the symbols' variables give one input
pub input-same : (first : ℕ) (draws : List Bool) (s t : Assignment) → ((v : ℕ) → first ≤ v → v < symbols_end first draws → s v ≡ t v) → input_from s first draws ≡ input_from t first draws
input-same first [] s t h = refl
input-same first (wide ∷ draws) s t h =
    let end = end_later (first + bits_where wide) draws in
    ap₂ (λ (n : ℕ) (ns : List ℕ). n ∷ ns)
    (symbol-number s first (bits_where wide)
    ∙ ap number_down (same-map (own first wide) s t (λ v n. let r = from-names first (bits_where wide) v n in let low = r.0 in let high = r.1 in h v (omega arith) (omega arith)))
    ∙ sym (symbol-number t first (bits_where wide)))
    (input-same (first + bits_where wide) draws s t (λ v low high. h v (omega arith) high))

-- the assignment whose bits of what is to be least are lower, or the same, with an input that is before or the same
pub decided : (conditions : List Condition) (draws : List Bool) (first : Option Term) → AreProper draws conditions → CanBeLeast draws first → (s t : Assignment)
    → AreSame s t (formula conditions draws first).order ⊎ IsGreater (formula conditions draws first).order s t
    → (number_down (map s (least_variables conditions draws first)) < number_down (map t (least_variables conditions draws first)))
    ⊎ ((map s (least_variables conditions draws first) ≡ map t (least_variables conditions draws first))
    × (IsBefore (input_of s draws) (input_of t draws) ⊎ (input_of s draws ≡ input_of t draws)))
decided conditions draws first proper least s t answer = go answer
  where
    symbols : List ℕ
    symbols = variables_from 2 ((built conditions draws first).circuit.first - 2)

    starts : (built conditions draws first).circuit.first ≡ symbols_end 2 draws
    starts = (all_ranged conditions draws first (in_order draws conditions first proper least)).starts

    all_same : AreSame s t (formula conditions draws first).order → (v : ℕ) → 1 ≤ v → v < next_of (built conditions draws first).circuit → s v ≡ t v
    all_same h v low high = same-at (formula conditions draws first).order s t h v (order_names (built conditions draws first) (two_first conditions draws first proper least) (all_last conditions draws first) v low high)

    go : AreSame s t (formula conditions draws first).order ⊎ IsGreater (formula conditions draws first).order s t
        → (number_down (map s (least_variables conditions draws first)) < number_down (map t (least_variables conditions draws first)))
        ⊎ ((map s (least_variables conditions draws first) ≡ map t (least_variables conditions draws first))
        × (IsBefore (input_of s draws) (input_of t draws) ⊎ (input_of s draws ≡ input_of t draws)))
    go (inl h) =
        let last = all_last conditions draws first in
        let ends = last.ends in
        let after = last.after in
        let two = two_first conditions draws first proper least in
        let begins = starts in
        inr (
          same-map (least_variables conditions draws first) s t (λ v n.
              let r = from-names last.from (length (built conditions draws first).result.least) v (subst (λ (ns : List ℕ). Names ns v) last.names n) in
              let low = r.0 in
              let high = r.1 in
              all_same h v (omega arith) (omega arith)),
          inr (input-same 2 draws s t (λ v low high. all_same h v (omega arith) (omega arith))),
        )
    go (inr g) = first_decides (greater-part (least_variables conditions draws first) _ s t
        (subst (λ (ns : List ℕ). IsGreater ns s t) (append_assoc (least_variables conditions draws first) _ _) g))
      where
        first_decides : (number_down (map s (least_variables conditions draws first)) < number_down (map t (least_variables conditions draws first)))
            ⊎ ((map s (least_variables conditions draws first) ≡ map t (least_variables conditions draws first)) × IsGreater (variables_from 2 ((built conditions draws first).circuit.first - 2) ++ 1 ∷ variables_from (built conditions draws first).circuit.first (length (built conditions draws first).circuit.gates - length (built conditions draws first).result.least)) s t)
            → (number_down (map s (least_variables conditions draws first)) < number_down (map t (least_variables conditions draws first)))
            ⊎ ((map s (least_variables conditions draws first) ≡ map t (least_variables conditions draws first))
            × (IsBefore (input_of s draws) (input_of t draws) ⊎ (input_of s draws ≡ input_of t draws)))
        first_decides (inl less) = inl less
        first_decides (inr h) = inr (h.0, symbols_decide (greater-input 2 draws _ s t (subst (λ (n : ℕ). IsGreater (variables_from 2 (n - 2) ++ 1 ∷ variables_from (built conditions draws first).circuit.first (length (built conditions draws first).circuit.gates - length (built conditions draws first).result.least)) s t) starts h.1)))
          where
            symbols_decide : BeforeOr 2 draws (1 ∷ variables_from (built conditions draws first).circuit.first (length (built conditions draws first).circuit.gates - length (built conditions draws first).result.least)) s t
                → IsBefore (input_of s draws) (input_of t draws) ⊎ (input_of s draws ≡ input_of t draws)
            symbols_decide (inl before) = inl before
            symbols_decide (inr same) = inr same.0
